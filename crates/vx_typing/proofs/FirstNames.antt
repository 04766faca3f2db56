-- Names in order of first appearance, as a loop collects them beside a set of those that it has.
use Rattle.std.proofs.Common.{subst, ◌≡◌, ℕ, ◌+◌, ◌<◌, Bool, true, false, ◌&&◌, ◌||◌, not, cond, List, [], ◌∷◌, ◌++◌, length, drop, refl, ap, sym, ◌∙◌, append_assoc}
use Rattle.std.specs.List.{filter, list_all}
use Rattle.std.specs.Str.{bytes_eq}
use Rattle.std.proofs.lemmas.Slice.Eq.{bytes_eq-Decides}
use Rattle.std.specs.Ordering.{nat_cmp, is_eq}
use Rattle.std.specs.Cmp.Lexicographic.{slice_cmp}
use Rattle.std.proofs.lemmas.Map.Text.{is_eq-slice_cmp}
use Rattle.std.proofs.Math.ListN.{get_or}
use Rattle.std.proofs.lemmas.Bool.{and_parts, and_from, or_left, or_right}
use Rattle.std.proofs.lemmas.List.Elements.{filter-append}
use Rattle.std.proofs.lemmas.List.Folds.{list_any-append}
use Rattle.vx_dtype.specs.EqualLaws.{bytes_eq_equiv}
use Rattle.vx_dtype.specs.Types.{Bytes}
use Rattle.vx_dtype.specs.TypeRules.{has_name}
use Rattle.vx_dtype.specs.Structs.{first_names}
use Rattle.vx_dtype.proofs.DistinctLemmas.{names-from}

-- a name that is not among these
abbrev pub is_new : List Bytes → Bytes → Bool
is_new kept g = not (has_name g kept)

module _ {A : Type 0} (p q r : A → Bool) (both : (x : A) → (q x && p x) ≡ r x) where
  -- what passes one test and then another passes both
  filter_twice : (xs : List A) → filter p (filter q xs) ≡ filter r xs
  filter_twice [] = refl
  filter_twice (x ∷ xs) =
      let rest = filter_twice xs in
      let one : (b : Bool) → q x ≡ b → filter p (cond b (x ∷ filter q xs) (filter q xs)) ≡ cond (b && p x) (x ∷ filter p (filter q xs)) (filter p (filter q xs)) =
      λ b e. elim b as (λ c. filter p (cond c (x ∷ filter q xs) (filter q xs)) ≡ cond (c && p x) (x ∷ filter p (filter q xs)) (filter p (filter q xs))) [ true ↦ refl | false ↦ refl ] in
      one (q x) refl ∙ ap (λ b. cond b (x ∷ filter p (filter q xs)) (filter p (filter q xs))) (both x) ∙ ap (λ ys. cond (r x) (x ∷ ys) ys) rest

-- a test that implies another one adds nothing to it
implied : (b m : Bool) → (b ≡ true → m ≡ true) → (not b && not m) ≡ not m
implied true m h = sym (ap not (h refl))
implied false m h = refl

neither : (a b : Bool) → (not a && not b) ≡ not (b || (a || false))
neither true true = refl
neither true false = refl
neither false true = refl
neither false false = refl

either : (a b : Bool) → cond a true b ≡ (b || (a || false))
either true true = refl
either true false = refl
either false true = refl
either false false = refl

also : (a b : Bool) → (a ≡ true → b ≡ true) → cond a true b ≡ b
also true b h = sym (h refl)
also false b h = refl

-- a name that equals one of these is one of these
same_has : (f g : Bytes) (kept : List Bytes) → has_name f kept ≡ true → bytes_eq f g ≡ true → has_name g kept ≡ true
same_has f g kept h e = subst (λ x. has_name x kept ≡ true) ((bytes_eq-Decides f g).0 e) h

has_behind : (q f : Bytes) (kept : List Bytes) → has_name q (kept ++ f ∷ []) ≡ (has_name q kept || (bytes_eq q f || false))
has_behind q f kept = list_any-append (bytes_eq q) kept (f ∷ [])

module _ (names : List Bytes) (i : ℕ) (f : Bytes) (kept : List Bytes) (within : i < length names) (is : f ≡ get_or names i f) (so_far : first_names names ≡ kept ++ filter (is_new kept) (first_names (drop i names))) where
  abbrev rest : List Bytes
  rest = first_names (drop (i + 1) names)

  abbrev others : List Bytes
  others = filter (λ g. not (bytes_eq f g)) rest

  -- what is left, by whether the name there is new
  by_new : (b : Bool) → is_new kept f ≡ b → first_names names ≡ kept ++ cond b (f ∷ filter (is_new kept) others) (filter (is_new kept) others)
  by_new b new =
      so_far ∙ ap (λ ns. kept ++ filter (is_new kept) (first_names ns)) (names-from names i f within is)
      ∙ ap (λ c. kept ++ cond c (f ∷ filter (is_new kept) others) (filter (is_new kept) others)) new

  -- a name that was collected is passed over
  pub seen_again : has_name f kept ≡ true → first_names names ≡ kept ++ filter (is_new kept) (first_names (drop (i + 1) names))
  seen_again h =
      let both : (g : Bytes) → (not (bytes_eq f g) && is_new kept g) ≡ is_new kept g = λ g. implied (bytes_eq f g) (has_name g kept) (same_has f g kept h) in
      by_new false (ap not h) ∙ ap (λ ys. kept ++ ys) (filter_twice (is_new kept) (λ g. not (bytes_eq f g)) (is_new kept) both rest)

  -- one that was not is collected
  pub seen_first : (kept_with : List Bytes) → kept_with ≡ kept ++ f ∷ [] → has_name f kept ≡ false → first_names names ≡ kept_with ++ filter (is_new kept_with) (first_names (drop (i + 1) names))
  seen_first kept_with is_with h =
      let both : (g : Bytes) → (not (bytes_eq f g) && is_new kept g) ≡ is_new (kept ++ f ∷ []) g =
      λ g. ap (λ a. not a && is_new kept g) (bytes_eq_equiv.symm f g) ∙ neither (bytes_eq g f) (has_name g kept) ∙ ap not (sym (has_behind g f kept)) in
      by_new true (ap not h)
      ∙ ap (λ ys. kept ++ f ∷ ys) (filter_twice (is_new kept) (λ g. not (bytes_eq f g)) (is_new (kept ++ f ∷ [])) both rest)
      ∙ sym (append_assoc kept (f ∷ []) (filter (is_new (kept ++ f ∷ [])) rest))
      ∙ ap (λ ks. ks ++ filter (is_new ks) rest) (sym is_with)

-- a set of the collected names that takes a name has what was collected with the name
pub set_has_first : (q f : Bytes) (kept kept_with : List Bytes) (was now : Bool) → kept_with ≡ kept ++ f ∷ [] → was ≡ has_name q kept → now ≡ cond (is_eq (slice_cmp nat_cmp f q)) true was → now ≡ has_name q kept_with
set_has_first q f kept kept_with was now is_with h e =
    e ∙ ap (λ b. cond b true was) (is_eq-slice_cmp f q ∙ bytes_eq_equiv.symm f q) ∙ either (bytes_eq q f) was
    ∙ ap (λ b. b || (bytes_eq q f || false)) h ∙ sym (has_behind q f kept) ∙ ap (has_name q) (sym is_with)

-- and what was collected where the name was
pub set_has_again : (q f : Bytes) (kept : List Bytes) (was now : Bool) → has_name f kept ≡ true → was ≡ has_name q kept → now ≡ cond (is_eq (slice_cmp nat_cmp f q)) true was → now ≡ has_name q kept
set_has_again q f kept was now there h e =
    e ∙ ap (λ b. cond b true was) (is_eq-slice_cmp f q) ∙ also (bytes_eq f q) was (λ same. h ∙ same_has f q kept there same) ∙ h

pub all_new : (names : List Bytes) → filter (is_new []) names ≡ names
all_new [] = refl
all_new (f ∷ fs) = ap (λ gs. f ∷ gs) (all_new fs)

both_not : (a b : Bool) → (not a && not b) ≡ not (b || a)
both_not true true = refl
both_not true false = refl
both_not false true = refl
both_not false false = refl

-- the names of two lists in order of first appearance: those of the first, and of the second those that the first doesn't have
pub first_names-append : (xs ys : List Bytes) → first_names (xs ++ ys) ≡ first_names xs ++ filter (is_new xs) (first_names ys)
first_names-append [] ys = sym (all_new (first_names ys))
first_names-append (f ∷ xs) ys =
    let other : Bytes → Bool = λ g. not (bytes_eq f g) in
    let both : (g : Bytes) → (is_new xs g && other g) ≡ is_new (f ∷ xs) g =
    λ g. ap (λ b. is_new xs g && not b) (bytes_eq_equiv.symm f g) ∙ both_not (has_name g xs) (bytes_eq g f) in
    let new = filter (is_new xs) (first_names ys) in
    ap (λ zs. f ∷ filter other zs) (first_names-append xs ys)
    ∙ ap (λ zs. f ∷ zs) (filter-append other (first_names xs) new)
    ∙ ap (λ zs. f ∷ (filter other (first_names xs) ++ zs)) (filter_twice other (is_new xs) (is_new (f ∷ xs)) both (first_names ys))

-- of names that are all among others none is new
pub none_new : (xs ys : List Bytes) → list_all (λ g. has_name g xs) ys ≡ true → filter (is_new xs) ys ≡ []
none_new xs [] h = refl
none_new xs (g ∷ ys) h =
    let parts = and_parts (has_name g xs) (list_all (λ k. has_name k xs) ys) h in
    let left = filter (is_new xs) ys in
    ap (λ b. cond (not b) (g ∷ left) left) parts.0 ∙ none_new xs ys parts.1

all_weaker : (p q : Bytes → Bool) → ((g : Bytes) → p g ≡ true → q g ≡ true) → (ys : List Bytes) → list_all p ys ≡ true → list_all q ys ≡ true
all_weaker p q so [] h = refl
all_weaker p q so (g ∷ ys) h =
    let parts = and_parts (p g) (list_all p ys) h in
    and_from (q g) (list_all q ys) (so g parts.0) (all_weaker p q so ys parts.1)

-- names are all among themselves
pub all_among : (fs : List Bytes) → list_all (λ g. has_name g fs) fs ≡ true
all_among [] = refl
all_among (f ∷ fs) =
    let behind = all_weaker (λ g. has_name g fs) (λ g. has_name g (f ∷ fs)) (λ g h. or_right (bytes_eq g f) (has_name g fs) h) fs (all_among fs) in
    and_from (has_name f (f ∷ fs)) (list_all (λ g. has_name g (f ∷ fs)) fs) (or_left (bytes_eq f f) (has_name f fs) ((bytes_eq-Decides f f).1 refl)) behind
