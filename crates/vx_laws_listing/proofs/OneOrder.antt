-- Names that ascend are told by which of all names they are.
use Rattle.std.proofs.Common.{◌≡◌, refl, ap, sym, ◌∙◌, subst, Bool, true, false, ◌||◌, List, [], ◌∷◌}
use Rattle.std.specs.Cmp.Lexicographic.{slice_cmp, bytes_decides, nat_list_cmp_total}
use Rattle.std.specs.List.{list_any, AllByRecursion}
use Rattle.std.specs.List.Sorted.{IsStrictlySortedBy}
use Rattle.std.specs.Ordering.{nat_cmp, ordering_reverse}
use Rattle.std.specs.Str.{bytes_eq}
use Rattle.std.specs.declared.cmp.Ordering.{Ordering}
use Rattle.std.specs.declared.cmp.Ordering.TheVariants.{Less}
use Rattle.vx_dtype.specs.Types.{Bytes}

abbrev order : Bytes → Bytes → Ordering
order = slice_cmp nat_cmp

abbrev has : List Bytes → Bytes → Bool
has names name = list_any (bytes_eq name) names

own : (name : Bytes) → bytes_eq name name ≡ true
own name = (bytes_decides name name).1 refl

-- ---- two names

reversed : (o : Ordering) → o ≡ Less → ordering_reverse o ≡ Less → ⊥
reversed o less more = let no : ordering_reverse Less ≡ Less = ap ordering_reverse (sym less) ∙ more in absurd cc

-- no name is below one that is below it
one_way : (x y : Bytes) → order x y ≡ Less → order y x ≡ Less → ⊥
one_way x y less more = reversed (order x y) less (sym (nat_list_cmp_total.antisymm y x) ∙ more)

-- ---- names above one

above : (x y : Bytes) (names : List Bytes) → AllByRecursion (λ z. order x z ≡ Less) names → has names y ≡ true → order x y ≡ Less
above x y [] below h = absurd cc
above x y (z ∷ names) below h = by (bytes_eq y z) refl h (λ k. above x y names below.1 k)
  where
    by : (b : Bool) → bytes_eq y z ≡ b → (b || has names y) ≡ true → (has names y ≡ true → order x y ≡ Less) → order x y ≡ Less
    by true e k rest = subst (λ (w : Bytes). order x w ≡ Less) (sym ((bytes_decides y z).0 e)) below.0
    by false e k rest = rest k

-- a name isn't among those above it
not_above : (x : Bytes) (names : List Bytes) → AllByRecursion (λ z. order x z ≡ Less) names → has names x ≡ false
not_above x names below = by (has names x) refl
  where
    by : (b : Bool) → has names x ≡ b → b ≡ false
    by false e = refl
    by true e = let less = above x x names below e in absurd (one_way x x less less)

-- ---- names that ascend

-- the first ones of two that have the same names
same_first : (x y : Bytes) (xs ys : List Bytes) → AllByRecursion (λ z. order x z ≡ Less) xs → AllByRecursion (λ z. order y z ≡ Less) ys
    → ((name : Bytes) → has (x ∷ xs) name ≡ has (y ∷ ys) name) → x ≡ y
same_first x y xs ys below above_y same = by (bytes_eq x y) refl
  where
    swapped : bytes_eq x y ≡ false → bytes_eq y x ≡ false
    swapped e = no (bytes_eq y x) refl
      where
        no : (b : Bool) → bytes_eq y x ≡ b → b ≡ false
        no false k = refl
        no true k = let is : bytes_eq x y ≡ true = (bytes_decides x y).1 (sym ((bytes_decides y x).0 k)) in absurd cc

    by : (b : Bool) → bytes_eq x y ≡ b → x ≡ y
    by true e = (bytes_decides x y).0 e
    by false e =
        let there : has ys x ≡ true = ap (λ (b : Bool). b || has ys x) (sym e) ∙ sym (same x) ∙ ap (λ (b : Bool). b || has xs x) (own x) in
        let here : has xs y ≡ true = ap (λ (b : Bool). b || has xs y) (sym (swapped e)) ∙ same y ∙ ap (λ (b : Bool). b || has ys y) (own y) in
        absurd (one_way x y (above x y xs below here) (above y x ys above_y there))

rest_at : (b : Bool) (xs ys : Bool) → (b || xs) ≡ (b || ys) → (b ≡ true → xs ≡ ys) → xs ≡ ys
rest_at true xs ys h same = same refl
rest_at false xs ys h same = h

same_rest : (x : Bytes) (xs ys : List Bytes) → AllByRecursion (λ z. order x z ≡ Less) xs → AllByRecursion (λ z. order x z ≡ Less) ys
    → ((name : Bytes) → has (x ∷ xs) name ≡ has (x ∷ ys) name) → (name : Bytes) → has xs name ≡ has ys name
same_rest x xs ys below others same name = rest_at (bytes_eq name x) (has xs name) (has ys name) (same name) first
  where
    first : bytes_eq name x ≡ true → has xs name ≡ has ys name
    first e =
        let is = sym ((bytes_decides name x).0 e) in
        subst (λ (n : Bytes). has xs n ≡ has ys n) is (not_above x xs below ∙ sym (not_above x ys others))

pub one_order : (xs ys : List Bytes) → IsStrictlySortedBy (slice_cmp nat_cmp) xs → IsStrictlySortedBy (slice_cmp nat_cmp) ys
    → ((name : Bytes) → list_any (bytes_eq name) xs ≡ list_any (bytes_eq name) ys) → xs ≡ ys
unfolding IsStrictlySortedBy
one_order [] [] a b same = refl
one_order [] (y ∷ ys) a b same = let is : false ≡ true = same y ∙ ap (λ (b : Bool). b || has ys y) (own y) in absurd cc
one_order (x ∷ xs) [] a b same = let is : false ≡ true = sym (same x) ∙ ap (λ (b : Bool). b || has xs x) (own x) in absurd cc
one_order (x ∷ xs) (y ∷ ys) a b same =
    let first = same_first x y xs ys a.0 b.0 same in
    let others : AllByRecursion (λ z. order x z ≡ Less) ys = subst (λ (w : Bytes). AllByRecursion (λ z. order w z ≡ Less) ys) (sym first) b.0 in
    let all : (name : Bytes) → has (x ∷ xs) name ≡ has (x ∷ ys) name =
    λ name. same name ∙ ap (λ (w : Bytes). has (w ∷ ys) name) (sym first) in
    ap (λ (w : Bytes). w ∷ xs) first ∙ ap (λ (ws : List Bytes). y ∷ ws) (one_order xs ys a.1 b.1 (same_rest x xs ys a.0 others all))
