-- Lists that are cut: their parts, one behind another, are the whole, and what is zipped is cut alike.
use Rattle.std.proofs.Common.{◌≡◌, refl, ap, sym, ◌∙◌, ℕ, zero, suc, ◌+◌, ◌*◌, ◌/◌, ◌%◌, ◌<◌, ◌≤◌, min, List, [], ◌∷◌, ◌++◌, length, map, take, drop, arith}
use Rattle.std.specs.List.{flat_map, range_with_len}
use Rattle.std.proofs.lemmas.Bool.{cases_lt}
use Rattle.std.proofs.lemmas.Nat.{div-add-mod', mod_below}
use Rattle.std.proofs.lemmas.List.{take_all, take-take, drop-take, drop-drop, take-append-drop}
use native.Mathlib.Nat.{add-mul, one-mul, suc-mul, zero-mul}
use mathlib.Core.Logic.{⊎_elim}
use Rattle.vx_column.specs.Columns.{zip_rows}

-- lists one behind another
abbrev pub concat : {A : Type 0} → List (List A) → List A
concat xss = flat_map (λ xs. xs) xss

-- the part of n items with a number, of items that are cut
abbrev pub part : {A : Type 0} → ℕ → List A → ℕ → List A
part n xs k = take n (drop (k * n) xs)

-- first items, and those behind them
take_parts : {A : Type 0} (n r : ℕ) (ys : List A) → take n ys ++ take r (drop n ys) ≡ take (n + r) ys
take_parts n r ys = (λ i. sym (take-take n (n + r) ys (omega arith)) i ++ sym (drop-take n r ys) i) ∙ take-append-drop n (take (n + r) ys)

-- parts one behind another, from one on
parts_from : {A : Type 0} (n m k : ℕ) (xs : List A) → concat (map (part n xs) (range_with_len k m)) ≡ take (m * n) (drop (k * n) xs)
parts_from n zero k xs = ap (λ j. take j (drop (k * n) xs)) (sym (zero-mul n))
parts_from n (suc m) k xs =
    let on : k * n + n ≡ (k + 1) * n = omega (arith, add-mul k 1 n, one-mul n) in
    let rest : take (m * n) (drop ((k + 1) * n) xs) ≡ take (m * n) (drop n (drop (k * n) xs)) =
    ap (take (m * n)) (ap (λ j. drop j xs) (sym on) ∙ sym (drop-drop n (k * n) xs)) in
    let all : n + m * n ≡ suc m * n = omega (arith, suc-mul m n) in
    ap (λ ys. part n xs k ++ ys) (parts_from n m (k + 1) xs ∙ rest) ∙ take_parts n (m * n) (drop (k * n) xs) ∙ ap (λ j. take j (drop (k * n) xs)) all

-- how many parts there are: enough, and no more than are needed
pub spans : (count len size : ℕ) → 0 < size → count ≡ len / size + min 1 (len % size) → (len ≤ count * size) × (count * size < len + size)
spans count len size p is =
    let q = len / size in
    let r = len % size in
    let a : q * size + r ≡ len = div-add-mod' len size in
    let b : r < size = mod_below len size p in
    ⊎_elim
    (λ h. let e : count ≡ q + 1 = omega arith in let w = ap (λ n. n * size) e ∙ add-mul q 1 size in let o = one-mul size in (omega arith, omega arith))
    (λ h. let e : count ≡ q = omega arith in let w = ap (λ n. n * size) e in (omega arith, omega arith))
    (cases_lt 0 r)

-- all parts are the whole
pub parts_join : {A : Type 0} (n : ℕ) (xs : List A) → 0 < n → concat (map (part n xs) (range_with_len 0 (length xs / n + min 1 (length xs % n)))) ≡ xs
parts_join n xs some =
    let number = length xs / n + min 1 (length xs % n) in
    let enough = (spans number (length xs) n some refl).0 in
    parts_from n number 0 xs ∙ ap (λ j. take (number * n) (drop j xs)) (zero-mul n) ∙ take_all (number * n) xs enough

-- what is zipped is cut alike
zip_none : {A B C : Type 0} (f : A → B → C) (xs : List A) → zip_rows f xs [] ≡ []
zip_none f [] = refl
zip_none f (x ∷ xs) = refl

zip_take : {A B C : Type 0} (f : A → B → C) (n : ℕ) (xs : List A) (ys : List B) → zip_rows f (take n xs) (take n ys) ≡ take n (zip_rows f xs ys)
zip_take f zero xs ys = refl
zip_take f (suc n) [] ys = refl
zip_take f (suc n) (x ∷ xs) [] = refl
zip_take f (suc n) (x ∷ xs) (y ∷ ys) = ap (λ zs. f x y ∷ zs) (zip_take f n xs ys)

zip_drop : {A B C : Type 0} (f : A → B → C) (n : ℕ) (xs : List A) (ys : List B) → zip_rows f (drop n xs) (drop n ys) ≡ drop n (zip_rows f xs ys)
zip_drop f zero xs ys = refl
zip_drop f (suc n) [] ys = refl
zip_drop f (suc n) (x ∷ xs) [] = zip_none f (drop n xs)
zip_drop f (suc n) (x ∷ xs) (y ∷ ys) = zip_drop f n xs ys

pub zip_part : {A B C : Type 0} (f : A → B → C) (n k : ℕ) (xs : List A) (ys : List B) → zip_rows f (part n xs k) (part n ys k) ≡ part n (zip_rows f xs ys) k
zip_part f n k xs ys = zip_take f n (drop (k * n) xs) (drop (k * n) ys) ∙ ap (take n) (zip_drop f (k * n) xs ys)

-- what is zipped of lists one behind another, where the first are equally long
pub zip_append : {A B C : Type 0} (f : A → B → C) (xs us : List A) (ys vs : List B) → length xs ≡ length ys → zip_rows f (xs ++ us) (ys ++ vs) ≡ zip_rows f xs ys ++ zip_rows f us vs
zip_append f [] us [] vs e = refl
zip_append f [] us (y ∷ ys) vs e = absurd (omega (arith, e))
zip_append f (x ∷ xs) us [] vs e = absurd (omega (arith, e))
zip_append f (x ∷ xs) us (y ∷ ys) vs e = ap (λ zs. f x y ∷ zs) (zip_append f xs us ys vs (omega (arith, e)))

-- lists one behind another, each item changed
mapped_behind : {A B : Type 0} (f : A → B) (xs ys : List A) → map f (xs ++ ys) ≡ map f xs ++ map f ys
mapped_behind f [] ys = refl
mapped_behind f (x ∷ xs) ys = ap (λ zs. f x ∷ zs) (mapped_behind f xs ys)

pub map_concat : {A B : Type 0} (f : A → B) (xss : List (List A)) → map f (concat xss) ≡ concat (map (map f) xss)
map_concat f [] = refl
map_concat f (xs ∷ xss) = mapped_behind f xs (concat xss) ∙ ap (λ ys. map f xs ++ ys) (map_concat f xss)
