-- Lists cut to what stands between two places.
use Rattle.std.proofs.Common.{◌≡◌, refl, ap, sym, ◌∙◌, ℕ, zero, suc, ◌+◌, ◌-◌, ◌<◌, ◌≤◌, Bool, true, ◌&&◌, List, [], ◌∷◌, map, length, take, drop, arith}
use Rattle.std.specs.List.{list_all, slice_get}
use Rattle.std.proofs.lemmas.Bool.{and_parts, and_from}
use Rattle.std.proofs.lemmas.List.{length-take-le, length-drop, drop-take}
use Rattle.vx_scan.proofs.CutLemmas.{in_first, in_later}

module _ {X : Type 0} where
  -- what a slice holds
  pub slice_between : (a b : ℕ) (xs : List X) → a ≤ b → take (b - a) (drop a xs) ≡ drop a (take b xs)
  slice_between a b xs h = let whole : a + (b - a) ≡ b = omega (arith, h) in sym (drop-take a (b - a) xs) ∙ ap (λ (n : ℕ). drop a (take n xs)) whole

  pub length_between : (a b : ℕ) (xs : List X) → b ≤ length xs → length (drop a (take b xs)) ≡ b - a
  length_between a b xs h = length-drop a (take b xs) ∙ ap (λ (n : ℕ). n - a) (length-take-le b xs h)

  -- what stands at a place
  pub get_between : (a b i : ℕ) (xs : List X) → a + i < b → slice_get (drop a (take b xs)) i ≡ slice_get xs (a + i)
  get_between a b i xs h = in_later a i (take b xs) ∙ in_first b (a + i) xs h

  -- what passes each item
  pub all_first : (test : X → Bool) (n : ℕ) (xs : List X) → list_all test xs ≡ true → list_all test (take n xs) ≡ true
  all_first test zero xs h = refl
  all_first test (suc n) [] h = refl
  all_first test (suc n) (x ∷ xs) h =
      let parts = and_parts (test x) (list_all test xs) h in and_from (test x) (list_all test (take n xs)) parts.0 (all_first test n xs parts.1)

  pub all_later : (test : X → Bool) (n : ℕ) (xs : List X) → list_all test xs ≡ true → list_all test (drop n xs) ≡ true
  all_later test zero xs h = h
  all_later test (suc n) [] h = refl
  all_later test (suc n) (x ∷ xs) h = all_later test n xs (and_parts (test x) (list_all test xs) h).1

  pub all_between : (test : X → Bool) (a b : ℕ) (xs : List X) → list_all test xs ≡ true → list_all test (drop a (take b xs)) ≡ true
  all_between test a b xs h = all_later test a (take b xs) (all_first test b xs h)

  pub all_so : (test other : X → Bool) → ((x : X) → test x ≡ true → other x ≡ true) → (xs : List X) → list_all test xs ≡ true → list_all other xs ≡ true
  all_so test other so [] h = refl
  all_so test other so (x ∷ xs) h =
      let parts = and_parts (test x) (list_all test xs) h in and_from (other x) (list_all other xs) (so x parts.0) (all_so test other so xs parts.1)

pub all_mapped : {X Y : Type 0} (test : Y → Bool) (f : X → Y) (xs : List X) → list_all test (map f xs) ≡ list_all (λ x. test (f x)) xs
all_mapped test f [] = refl
all_mapped test f (x ∷ xs) = ap (λ (b : Bool). test (f x) && b) (all_mapped test f xs)
