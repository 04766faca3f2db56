-- Writing items one after the other, as a loop does, where each is short.
use Rattle.std.proofs.Common.{◌≡◌, refl, sym, ap, ◌∙◌, subst, append_assoc, ℕ, ◌+◌, ◌≤◌, ◌<◌, List, [], ◌∷◌, ◌++◌, length, map, drop, get_or, sum, arith}
use Rattle.std.specs.List.{AllByRecursion, flat_map}
use Rattle.std.proofs.lemmas.List.{append-nil, drop_more, drop_all, length-append, length-map}
use Rattle.std.proofs.lemmas.List.Folds.{flat_map-map}
use Rattle.std.proofs.lemmas.List.Sums.{sum_by-cons}
use Rattle.vx_dtype.specs.Types.{Bytes}
use Rattle.vx_wire_bytes.specs.Numbers.{number_bytes}
use Rattle.vx_wire_bytes.specs.Fields.{IsNumber, IsShort}
use Rattle.vx_laws_file.specs.FileForms.{AreCounted, counted_bytes}

-- the items from a place on are the one there and those behind it
pub item_here : {A : Type 0} (xs : List A) (i : ℕ) (x : A) → i < length xs → x ≡ get_or xs i x → drop i xs ≡ x ∷ drop (i + 1) xs
item_here xs i x lt e = drop_more xs i x lt ∙ ap (λ y. y ∷ drop (i + 1) xs) (sym e)

pub seen_so : {A X : Type 0} (view : A → X) (P : X → Type 0) (xs : List A) → AllByRecursion (λ a. P (view a)) xs → AllByRecursion P (map view xs)
seen_so view P [] h = tt
seen_so view P (x ∷ xs) h = (h.0, seen_so view P xs h.1)

pub so_of_seen : {A X : Type 0} (view : A → X) (P : X → Type 0) (xs : List A) → AllByRecursion P (map view xs) → AllByRecursion (λ a. P (view a)) xs
so_of_seen view P [] h = tt
so_of_seen view P (x ∷ xs) h = (h.0, so_of_seen view P xs h.1)

pub seen_length : {A X : Type 0} (view : A → X) (xs : List A) (ys : List X) → map view xs ≡ ys → length xs ≡ length ys
seen_length view xs ys e = sym (length-map xs view) ∙ ap length e

module _ {A : Type 0} (spelling : A → Bytes) (Text Short : A → Type 0) where
  -- what was written and the items from a place on are the spelling behind what stood there; those before the place are as they should be
  pub record IsWriting (old new : Bytes) (xs : List A) (i : ℕ) : Type 0 where
    pub whole : new ++ flat_map spelling (drop i xs) ≡ old ++ flat_map spelling xs
    pub more : length old ≤ length new
    pub texts : AllByRecursion Text (drop i xs) → AllByRecursion Text xs
    pub shorts : AllByRecursion Short xs → AllByRecursion Short (drop i xs)

  pub writing_starts : (old new : Bytes) (xs : List A) → new ≡ old → IsWriting old new xs 0
  writing_starts old new xs e =
      record { whole = ap (λ (b : Bytes). b ++ flat_map spelling xs) e; more = omega (arith, ap length e); texts = λ h. h; shorts = λ h. h }

  pub writing_goes_on : (old new after : Bytes) (xs : List A) (i : ℕ) (x : A) → drop i xs ≡ x ∷ drop (i + 1) xs → after ≡ new ++ spelling x → Text x
      → IsWriting old new xs i → IsWriting old after xs (i + 1)
  writing_goes_on old new after xs i x here e text w =
      let others = flat_map spelling (drop (i + 1) xs) in
      record {
        whole = ap (λ (b : Bytes). b ++ others) e ∙ append_assoc new (spelling x) others ∙ ap (λ (ys : List A). new ++ flat_map spelling ys) (sym here) ∙ w.whole;
        more = omega (arith, w.more, ap length e, length-append new (spelling x));
        texts = λ h. w.texts (subst (AllByRecursion Text) (sym here) (text, h));
        shorts = λ h. (subst (AllByRecursion Short) here (w.shorts h)).1;
      }

  -- an item that is too long is one of the list
  pub writing_breaks : (old new : Bytes) (xs : List A) (i : ℕ) (x : A) → drop i xs ≡ x ∷ drop (i + 1) xs → IsWriting old new xs i → AllByRecursion Short xs → Short x
  writing_breaks old new xs i x here w h = (subst (AllByRecursion Short) here (w.shorts h)).0

  pub writing_ends : (old new : Bytes) (xs : List A) (i : ℕ) → length xs ≤ i → IsWriting old new xs i → (new ≡ old ++ flat_map spelling xs) × AllByRecursion Text xs
  writing_ends old new xs i le w =
      let none : drop i xs ≡ [] = drop_all i xs le in
      (sym (append-nil new) ∙ ap (λ (ys : List A). new ++ flat_map spelling ys) (sym none) ∙ w.whole, w.texts (subst (AllByRecursion Text) (sym none) tt))

  -- where so much was written, the spelling isn't short
  pub writing_is_long : (old new : Bytes) (xs : List A) (i : ℕ) → IsWriting old new xs i → length old + 4294967296 ≤ length new → ¬ (IsShort (flat_map spelling xs))
  writing_is_long old new xs i w le short =
      omega (arith, le, short, ap length w.whole, length-append new (flat_map spelling (drop i xs)), length-append old (flat_map spelling xs))

module _ {A X : Type 0} (view : A → X) (spelling : X → Bytes) (Text Short : X → Type 0) where
  -- the same of a list that is seen
  abbrev pub IsWritingSeen : Bytes → Bytes → List A → ℕ → Type 0
  IsWritingSeen old new xs i = IsWriting (λ a. spelling (view a)) (λ a. Text (view a)) (λ a. Short (view a)) old new xs i

  pub seen_ends : (old new : Bytes) (xs : List A) (ys : List X) (i : ℕ) → map view xs ≡ ys → length xs ≤ i → IsWritingSeen old new xs i
      → (new ≡ old ++ flat_map spelling ys) × AllByRecursion Text ys
  seen_ends old new xs ys i e le w =
      let ends = writing_ends (λ a. spelling (view a)) (λ a. Text (view a)) (λ a. Short (view a)) old new xs i le w in (
        ends.0 ∙ ap (λ (b : Bytes). old ++ b) (sym (flat_map-map spelling view xs) ∙ ap (flat_map spelling) e),
        subst (AllByRecursion Text) e (seen_so view Text xs ends.1),
      )

  pub seen_breaks : (old new : Bytes) (xs : List A) (ys : List X) (i : ℕ) (x : A) → map view xs ≡ ys → drop i xs ≡ x ∷ drop (i + 1) xs → IsWritingSeen old new xs i
      → AllByRecursion Short ys → Short (view x)
  seen_breaks old new xs ys i x e here w h =
      writing_breaks (λ a. spelling (view a)) (λ a. Text (view a)) (λ a. Short (view a)) old new xs i x here w (so_of_seen view Short xs (subst (AllByRecursion Short) (sym e) h))

  pub counted_ends : (old new : Bytes) (xs : List A) (ys : List X) (n i : ℕ) → map view xs ≡ ys → n ≡ length ys → length xs ≤ i → IsNumber n
      → IsWritingSeen (old ++ number_bytes n) new xs i → (new ≡ old ++ counted_bytes spelling ys) × AreCounted Text ys
  counted_ends old new xs ys n i e count le number w =
      let ends = seen_ends (old ++ number_bytes n) new xs ys i e le w in (
        ends.0 ∙ append_assoc old (number_bytes n) (flat_map spelling ys) ∙ ap (λ (k : ℕ). old ++ (number_bytes k ++ flat_map spelling ys)) count,
        (subst IsNumber count number, ends.1),
      )

-- ---- a sum that is taken from what is left

pub record IsTaking (most : ℕ) (xs : List ℕ) (i left : ℕ) : Type 0 where
  pub is : sum (drop i xs) + most ≡ sum xs + left

one_more : (xs : List ℕ) (i x : ℕ) → drop i xs ≡ x ∷ drop (i + 1) xs → sum (drop i xs) ≡ x + sum (drop (i + 1) xs)
one_more xs i x here = ap sum here ∙ sum_by-cons (λ n. n) x (drop (i + 1) xs)

pub taking_starts : (most : ℕ) (xs : List ℕ) → IsTaking most xs 0 most
taking_starts most xs = record { is = refl }

pub taking_goes_on : (most : ℕ) (xs : List ℕ) (i left rest x : ℕ) → drop i xs ≡ x ∷ drop (i + 1) xs → rest + x ≡ left → IsTaking most xs i left → IsTaking most xs (i + 1) rest
taking_goes_on most xs i left rest x here e w = record { is = omega (arith, w.is, one_more xs i x here, e) }

pub taking_breaks : (most : ℕ) (xs : List ℕ) (i left x : ℕ) → drop i xs ≡ x ∷ drop (i + 1) xs → left < x → IsTaking most xs i left → ¬ (sum xs ≤ most)
taking_breaks most xs i left x here lt w le = omega (arith, w.is, one_more xs i x here, lt, le)

pub taking_ends : (most : ℕ) (xs : List ℕ) (i left : ℕ) → length xs ≤ i → IsTaking most xs i left → sum xs ≤ most
taking_ends most xs i left le w =
    let none : sum (drop i xs) ≡ 0 = ap sum (drop_all i xs le) in
    omega (arith, w.is, none)
