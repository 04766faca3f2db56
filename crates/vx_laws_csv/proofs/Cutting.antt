-- Cutting a list into parts of so many items keeps the items, and all parts but the last are full.
use Rattle.std.proofs.Common.{◌≡◌, ◌∙◌, refl, ap, ℕ, zero, suc, ◌<◌, ◌≤◌, true, nat_eq, nat_le, List, [], ◌∷◌, ◌++◌, length, take, drop, flat_map, take-append-drop, length-take, length-drop, eq-eqb, le-leb, arith}
use Rattle.std.proofs.lemmas.Bool.{and_from}
use Rattle.vx_laws_csv.specs.CsvTables.{parts_within, cut}
use Rattle.vx_laws_csv.specs.CsvLaws.{are_full, CuttingKeepsRows, PartsAreFull}

-- what is behind a first part is shorter
behind-first : {A : Type 0} (most size : ℕ) (x : A) (xs : List A) → 0 < size → length xs ≤ most → length (drop size (x ∷ xs)) ≤ most
behind-first most size x xs some within = let long = length-drop size (x ∷ xs) in omega (arith, long, some, within)

joined : {A : Type 0} (most size : ℕ) (xs : List A) → 0 < size → length xs ≤ most → flat_map (λ part. part) (parts_within most size xs) ≡ xs
joined zero size [] some within = refl
joined zero size (x ∷ xs) some within = absurd (omega (arith, within))
joined (suc most) size [] some within = refl
joined (suc most) size (x ∷ xs) some within =
    ap (λ ys. take size (x ∷ xs) ++ ys) (joined most size (drop size (x ∷ xs)) some (behind-first most size x xs some (omega (arith, within))))
    ∙ take-append-drop size (x ∷ xs)

pub cutting_keeps_rows : CuttingKeepsRows
cutting_keeps_rows size rows some = joined (length rows) size rows some (omega arith)

-- however many parts there may be at most, they are the same, where there may be as many as items
pub enough : {A : Type 0} (most more size : ℕ) (xs : List A) → 0 < size → length xs ≤ most → length xs ≤ more → parts_within most size xs ≡ parts_within more size xs
enough zero zero size xs some h k = refl
enough zero (suc more) size [] some h k = refl
enough zero (suc more) size (x ∷ xs) some h k = absurd (omega (arith, h))
enough (suc most) zero size [] some h k = refl
enough (suc most) zero size (x ∷ xs) some h k = absurd (omega (arith, k))
enough (suc most) (suc more) size [] some h k = refl
enough (suc most) (suc more) size (x ∷ xs) some h k =
    ap (λ parts. take size (x ∷ xs) ∷ parts)
    (enough most more size (drop size (x ∷ xs)) some (behind-first most size x xs some (omega (arith, h))) (behind-first more size x xs some (omega (arith, k))))

-- a list that isn't empty is its first part before those of the rest
pub cut-first : {A : Type 0} (size : ℕ) (xs : List A) → 0 < size → 0 < length xs → cut size xs ≡ take size xs ∷ cut size (drop size xs)
cut-first size [] some long = absurd (omega (arith, long))
cut-first size (x ∷ xs) some long =
    ap (λ parts. take size (x ∷ xs) ∷ parts)
    (enough (length xs) (length (drop size (x ∷ xs))) size (drop size (x ∷ xs)) some (behind-first (length xs) size x xs some (omega arith)) (omega arith))

-- ---- full parts

first-full : {A : Type 0} (most size : ℕ) (p xs : List A) → 0 < size → 0 < length p → length p ≤ size → (0 < length xs → length p ≡ size)
    → are_full size (parts_within most size xs) ≡ true → are_full size (p ∷ parts_within most size xs) ≡ true
first-full zero size p xs some long within whole rest = and_from (nat_le 1 (length p)) (nat_le (length p) size) (le-leb 1 (length p) (omega (arith, long))) (le-leb (length p) size within)
first-full (suc most) size p [] some long within whole rest =
    and_from (nat_le 1 (length p)) (nat_le (length p) size) (le-leb 1 (length p) (omega (arith, long))) (le-leb (length p) size within)
first-full (suc most) size p (x ∷ xs) some long within whole rest =
    and_from (nat_eq (length p) size) (are_full size (parts_within (suc most) size (x ∷ xs))) (eq-eqb (length p) size (whole (omega arith))) rest

all-full : {A : Type 0} (most size : ℕ) (xs : List A) → 0 < size → are_full size (parts_within most size xs) ≡ true
all-full zero size xs some = refl
all-full (suc most) size [] some = refl
all-full (suc most) size (x ∷ xs) some =
    let long = length-take size (x ∷ xs) in
    let left = length-drop size (x ∷ xs) in
    first-full most size (take size (x ∷ xs)) (drop size (x ∷ xs)) some (omega (arith, long, some)) (omega (arith, long)) (λ h. omega (arith, long, left, h)) (all-full most size (drop size (x ∷ xs)) some)

pub parts_are_full : PartsAreFull
parts_are_full size rows some = all-full (length rows) size rows some
