-- Names that a test keeps of others, and names in order of first appearance.
use Rattle.std.proofs.Common.{◌≡◌, refl, ap, ◌∙◌, ℕ, zero, suc, ◌<◌, Bool, true, false, ◌||◌, not, cond, List, [], ◌∷◌, length, arith}
use Rattle.std.specs.List.{All, filter}
use Rattle.std.specs.Str.{bytes_eq}
use Rattle.std.proofs.Math.ListN.{get_or}
use Rattle.std.proofs.lemmas.Bool.{and_parts, and_from}
use Rattle.std.proofs.lemmas.Slice.Eq.{bytes_eq-Decides}
use Rattle.vx_dtype.specs.Types.{Bytes}
use Rattle.vx_dtype.specs.TypeRules.{has_name, distinct_names}
use Rattle.vx_dtype.specs.Structs.{first_names}
use Rattle.vx_dtype.proofs.DistinctLemmas.{not_found}

pub left_false : (a b : Bool) → (a || b) ≡ false → a ≡ false
left_false true b h = h
left_false false b h = refl

pub right_false : (a b : Bool) → (a || b) ≡ false → b ≡ false
right_false true b h = absurd cc
right_false false b h = h

neither : (a b : Bool) → a ≡ false → b ≡ false → (a || b) ≡ false
neither true b p q = p
neither false b p q = q

pub has_name_itself : (f : Bytes) → bytes_eq f f ≡ true
has_name_itself f = (bytes_eq-Decides f f).1 refl

-- a name that isn't among some isn't among those of them that a test keeps
pub none_kept : (p : Bytes → Bool) (f : Bytes) (fs : List Bytes) → has_name f fs ≡ false → has_name f (filter p fs) ≡ false
none_kept p f [] h = refl
none_kept p f (g ∷ fs) h = by_test (p g) (none_kept p f fs (right_false (bytes_eq f g) (has_name f fs) h))
  where
    by_test : (b : Bool) → has_name f (filter p fs) ≡ false → has_name f (cond b (g ∷ filter p fs) (filter p fs)) ≡ false
    by_test true rest = neither (bytes_eq f g) (has_name f (filter p fs)) (left_false (bytes_eq f g) (has_name f fs) h) rest
    by_test false rest = rest

-- names that stand once still do where a test keeps some of them
pub distinct_kept : (p : Bytes → Bool) (fs : List Bytes) → distinct_names fs ≡ true → distinct_names (filter p fs) ≡ true
distinct_kept p [] h = refl
distinct_kept p (f ∷ fs) h =
    let parts = and_parts (not (has_name f fs)) (distinct_names fs) h in
    by_test (p f) (none_kept p f fs (not_found (has_name f fs) parts.0)) (distinct_kept p fs parts.1)
  where
    by_test : (b : Bool) → has_name f (filter p fs) ≡ false → distinct_names (filter p fs) ≡ true → distinct_names (cond b (f ∷ filter p fs) (filter p fs)) ≡ true
    by_test true none rest = and_from (not (has_name f (filter p fs))) (distinct_names (filter p fs)) (ap not none) rest
    by_test false none rest = rest

none_equal : (f : Bytes) (fs : List Bytes) → has_name f (filter (λ g. not (bytes_eq f g)) fs) ≡ false
none_equal f [] = refl
none_equal f (g ∷ fs) = by_test (bytes_eq f g) refl (none_equal f fs)
  where
    left : List Bytes
    left = filter (λ g. not (bytes_eq f g)) fs

    by_test : (b : Bool) → bytes_eq f g ≡ b → has_name f left ≡ false → has_name f (cond (not b) (g ∷ left) left) ≡ false
    by_test true e rest = rest
    by_test false e rest = neither (bytes_eq f g) (has_name f left) e rest

-- names in order of first appearance stand once
pub first_names_distinct : (fs : List Bytes) → distinct_names (first_names fs) ≡ true
first_names_distinct [] = refl
first_names_distinct (f ∷ fs) =
    let other : Bytes → Bool = λ g. not (bytes_eq f g) in
    and_from (not (has_name f (filter other (first_names fs)))) (distinct_names (filter other (first_names fs)))
    (ap not (none_equal f (first_names fs))) (distinct_kept other (first_names fs) (first_names_distinct fs))

all_other : (f : Bytes) (fs : List Bytes) → has_name f fs ≡ false → filter (λ g. not (bytes_eq f g)) fs ≡ fs
all_other f [] h = refl
all_other f (g ∷ fs) h =
    let left = filter (λ k. not (bytes_eq f k)) fs in
    ap (λ b. cond (not b) (g ∷ left) left) (left_false (bytes_eq f g) (has_name f fs) h)
    ∙ ap (λ gs. g ∷ gs) (all_other f fs (right_false (bytes_eq f g) (has_name f fs) h))

-- names that stand once are in order of first appearance
pub first_names_own : (fs : List Bytes) → distinct_names fs ≡ true → first_names fs ≡ fs
first_names_own [] h = refl
first_names_own (f ∷ fs) h =
    let parts = and_parts (not (has_name f fs)) (distinct_names fs) h in
    ap (λ gs. f ∷ filter (λ g. not (bytes_eq f g)) gs) (first_names_own fs parts.1)
    ∙ ap (λ gs. f ∷ gs) (all_other f fs (not_found (has_name f fs) parts.0))

none_first : (f : Bytes) (fs : List Bytes) → has_name f fs ≡ false → has_name f (first_names fs) ≡ false
none_first f [] h = refl
none_first f (g ∷ fs) h =
    let rest = none_first f fs (right_false (bytes_eq f g) (has_name f fs) h) in
    neither (bytes_eq f g) (has_name f (filter (λ k. not (bytes_eq g k)) (first_names fs))) (left_false (bytes_eq f g) (has_name f fs) h)
    (none_kept (λ k. not (bytes_eq g k)) f (first_names fs) rest)

either : (a b : Bool) → b ≡ true → (a || b) ≡ true
either true b h = refl
either false b h = h

pub name_at : (fs : List Bytes) (i : ℕ) (d : Bytes) → i < length fs → has_name (get_or fs i d) fs ≡ true
name_at [] i d h = absurd (omega (arith, h))
name_at (f ∷ fs) zero d h = ap (λ b. b || has_name f fs) (has_name_itself f)
name_at (f ∷ fs) (suc i) d h = either (bytes_eq (get_or fs i d) f) (has_name (get_or fs i d) fs) (name_at fs i d (omega (arith, h)))

-- each of them is one of the names
pub first_names_known : (fs : List Bytes) → All (λ f. has_name f fs ≡ true) (first_names fs)
first_names_known fs i d h = by_test (has_name f fs) refl
  where
    f : Bytes
    f = get_or (first_names fs) i d

    by_test : (b : Bool) → has_name f fs ≡ b → has_name f fs ≡ true
    by_test true e = e
    by_test false e =
        let there : has_name f (first_names fs) ≡ true = name_at (first_names fs) i d h in
        let none : has_name f (first_names fs) ≡ false = none_first f fs e in
        absurd cc
