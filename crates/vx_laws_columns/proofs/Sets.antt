-- Sets of names as lists: names are added where they are not there yet.
use Rattle.std.proofs.Common.{◌≡◌, refl, ap, sym, ◌∙◌, Bool, true, false, cond, not, ◌&&◌, ◌||◌, List, [], ◌∷◌, ◌++◌, append_assoc, append-nil}
use Rattle.std.specs.List.{filter, flat_map}
use Rattle.std.specs.Str.{bytes_eq}
use Rattle.std.proofs.lemmas.Bool.{or_left, or_right}
use Rattle.std.proofs.lemmas.List.Folds.{list_any-append}
use Rattle.vx_dtype.specs.Types.{Bytes}
use Rattle.vx_dtype.specs.TypeRules.{has_name}
use Rattle.vx_dtype.specs.Structs.{first_names}
use Rattle.vx_passes.specs.Annotating.{joined_sets}
use Rattle.vx_laws.proofs.Inverting.{bytes_same, bytes_eq-itself}
use Rattle.vx_laws_simplifying.proofs.Observing.{or-assoc, or-false}

-- the names of a list with those of another that are not among them
abbrev pub joined : List Bytes → List Bytes → List Bytes
joined xs ys = joined_sets bytes_eq xs ys

-- the names of a list, each once, in order of first appearance
abbrev pub set_of : List Bytes → List Bytes
set_of ys = joined [] ys

pub joined-both : (xs ys zs : List Bytes) → joined xs (ys ++ zs) ≡ joined (joined xs ys) zs
joined-both xs [] zs = refl
joined-both xs (y ∷ ys) zs = by-test (has_name y xs) (joined-both xs ys zs) (joined-both (xs ++ y ∷ []) ys zs)
  where
    by-test : (b : Bool) → joined xs (ys ++ zs) ≡ joined (joined xs ys) zs → joined (xs ++ y ∷ []) (ys ++ zs) ≡ joined (joined (xs ++ y ∷ []) ys) zs
        → cond b (joined xs (ys ++ zs)) (joined (xs ++ y ∷ []) (ys ++ zs)) ≡ joined (cond b (joined xs ys) (joined (xs ++ y ∷ []) ys)) zs
    by-test true h k = h
    by-test false h k = k

has-behind : (c : Bytes) (xs : List Bytes) (y : Bytes) → has_name c (xs ++ y ∷ []) ≡ (has_name c xs || bytes_eq c y)
has-behind c xs y = list_any-append (bytes_eq c) xs (y ∷ []) ∙ ap (λ (b : Bool). has_name c xs || b) (or-false (bytes_eq c y))

-- a name that stands there already adds nothing
has-twice : (c y : Bytes) (xs : List Bytes) → has_name y xs ≡ true → has_name c xs ≡ (has_name c xs || bytes_eq c y)
has-twice c y xs h = by-test (bytes_eq c y) refl
  where
    by-test : (b : Bool) → bytes_eq c y ≡ b → has_name c xs ≡ (has_name c xs || b)
    by-test false e = sym (or-false (has_name c xs))
    by-test true e = let here : has_name c xs ≡ true = ap (λ (z : Bytes). has_name z xs) (bytes_same c y e) ∙ h in here ∙ sym (ap (λ (b : Bool). b || true) here)

pub has-joined : (c : Bytes) (xs ys : List Bytes) → has_name c (joined xs ys) ≡ (has_name c xs || has_name c ys)
has-joined c xs [] = sym (or-false (has_name c xs))
has-joined c xs (y ∷ ys) = by-test (has_name y xs) refl (has-joined c xs ys) (has-joined c (xs ++ y ∷ []) ys)
  where
    by-test : (b : Bool) → has_name y xs ≡ b → has_name c (joined xs ys) ≡ (has_name c xs || has_name c ys)
        → has_name c (joined (xs ++ y ∷ []) ys) ≡ (has_name c (xs ++ y ∷ []) || has_name c ys)
        → has_name c (cond b (joined xs ys) (joined (xs ++ y ∷ []) ys)) ≡ (has_name c xs || (bytes_eq c y || has_name c ys))
    by-test true e h k = h ∙ (ap (λ (b : Bool). b || has_name c ys) (has-twice c y xs e) ∙ or-assoc (has_name c xs) (bytes_eq c y) (has_name c ys))
    by-test false e h k = k ∙ (ap (λ (b : Bool). b || has_name c ys) (has-behind c xs y) ∙ or-assoc (has_name c xs) (bytes_eq c y) (has_name c ys))

-- one name behind a set
pub joined-one : (xs : List Bytes) (y : Bytes) (ys : List Bytes) → joined xs (y ∷ ys) ≡ joined (joined xs (y ∷ [])) ys
joined-one xs y ys = joined-both xs (y ∷ []) ys

pub one-known : (xs : List Bytes) (y : Bytes) → has_name y xs ≡ true → joined xs (y ∷ []) ≡ xs
one-known xs y h = ap (λ (b : Bool). cond b xs (xs ++ y ∷ [])) h

-- names that stand there already add nothing
pub joined-known : (xs ys : List Bytes) → ((c : Bytes) → has_name c ys ≡ true → has_name c xs ≡ true) → joined xs ys ≡ xs
joined-known xs [] h = refl
joined-known xs (y ∷ ys) h =
    joined-one xs y ys
    ∙ (ap (λ (zs : List Bytes). joined zs ys) (one-known xs y (h y (or_left (bytes_eq y y) (has_name y ys) (bytes_eq-itself y))))
    ∙ joined-known xs ys (λ c k. h c (or_right (bytes_eq c y) (has_name c ys) k)))

-- a union behind a set is one after another
pub joined-through : (xs zs ys : List Bytes) → joined xs (joined zs ys) ≡ joined (joined xs zs) ys
joined-through xs zs [] = refl
joined-through xs zs (y ∷ ys) = by-test (has_name y zs) refl (joined-through xs zs ys) (joined-through xs (zs ++ y ∷ []) ys)
  where
    by-test : (b : Bool) → has_name y zs ≡ b → joined xs (joined zs ys) ≡ joined (joined xs zs) ys → joined xs (joined (zs ++ y ∷ []) ys) ≡ joined (joined xs (zs ++ y ∷ [])) ys
        → joined xs (cond b (joined zs ys) (joined (zs ++ y ∷ []) ys)) ≡ joined (joined xs zs) (y ∷ ys)
    by-test true e h k =
        h
        ∙ sym (joined-one (joined xs zs) y ys
        ∙ ap (λ (ws : List Bytes). joined ws ys) (one-known (joined xs zs) y (has-joined y xs zs ∙ or_right (has_name y xs) (has_name y zs) e)))
    by-test false e h k = k ∙ (ap (λ (ws : List Bytes). joined ws ys) (joined-both xs zs (y ∷ [])) ∙ sym (joined-one (joined xs zs) y ys))

pub joined-set : (xs ys : List Bytes) → joined xs (set_of ys) ≡ joined xs ys
joined-set xs ys = joined-through xs [] ys

pub joined-sets : {X : Type 0} (f : X → List Bytes) (cs : List X) (xs : List Bytes) → joined xs (flat_map (λ c. set_of (f c)) cs) ≡ joined xs (flat_map f cs)
joined-sets f [] xs = refl
joined-sets f (c ∷ cs) xs =
    joined-both xs (set_of (f c)) (flat_map (λ d. set_of (f d)) cs)
    ∙ (ap (λ (zs : List Bytes). joined zs (flat_map (λ d. set_of (f d)) cs)) (joined-set xs (f c))
    ∙ (joined-sets f cs (joined xs (f c)) ∙ sym (joined-both xs (f c) (flat_map f cs))))

-- the names of a set again
pub set-twice : (ys : List Bytes) → joined (set_of ys) ys ≡ set_of ys
set-twice ys = joined-known (set_of ys) ys (λ c h. has-joined c [] ys ∙ h)

-- two filters are one
filter-twice : (p q r : Bytes → Bool) (zs : List Bytes) → ((g : Bytes) → r g ≡ (q g && p g)) → filter p (filter q zs) ≡ filter r zs
filter-twice p q r [] h = refl
filter-twice p q r (z ∷ zs) h = by-tests (q z) (p z) refl (filter-twice p q r zs h) (h z)
  where
    by-tests : (a b : Bool) → p z ≡ b → filter p (filter q zs) ≡ filter r zs → r z ≡ (a && b) → filter p (cond a (z ∷ filter q zs) (filter q zs)) ≡ cond (r z) (z ∷ filter r zs) (filter r zs)
    by-tests true true e k j = ap (λ (c : Bool). cond c (z ∷ filter p (filter q zs)) (filter p (filter q zs))) e ∙ (ap (λ (ys : List Bytes). z ∷ ys) k ∙ sym (ap (λ (c : Bool). cond c (z ∷ filter r zs) (filter r zs)) j))
    by-tests true false e k j = ap (λ (c : Bool). cond c (z ∷ filter p (filter q zs)) (filter p (filter q zs))) e ∙ (k ∙ sym (ap (λ (c : Bool). cond c (z ∷ filter r zs) (filter r zs)) j))
    by-tests false b e k j = k ∙ sym (ap (λ (c : Bool). cond c (z ∷ filter r zs) (filter r zs)) j)

same-way : (a b : Bytes) → bytes_eq a b ≡ bytes_eq b a
same-way a b = by-cases (bytes_eq a b) (bytes_eq b a) refl refl
  where
    by-cases : (p q : Bool) → bytes_eq a b ≡ p → bytes_eq b a ≡ q → p ≡ q
    by-cases true true h k = refl
    by-cases false false h k = refl
    by-cases true false h k = sym (bytes_eq-itself b) ∙ (ap (λ (z : Bytes). bytes_eq b z) (sym (bytes_same a b h)) ∙ k)
    by-cases false true h k = sym h ∙ (ap (λ (z : Bytes). bytes_eq a z) (bytes_same b a k) ∙ bytes_eq-itself a)

not-or : (a b : Bool) → not (a || b) ≡ (not b && not a)
not-or true true = refl
not-or true false = refl
not-or false true = refl
not-or false false = refl

-- the names that are not among these
abbrev others : List Bytes → List Bytes → List Bytes
others xs ys = filter (λ g. not (has_name g xs)) ys

others-known : (xs ys : List Bytes) (y : Bytes) → has_name y xs ≡ true → others xs (filter (λ g. not (bytes_eq y g)) ys) ≡ others xs ys
others-known xs ys y h = filter-twice (λ g. not (has_name g xs)) (λ g. not (bytes_eq y g)) (λ g. not (has_name g xs)) ys (λ g. by-test g (bytes_eq y g) refl)
  where
    by-test : (g : Bytes) (b : Bool) → bytes_eq y g ≡ b → not (has_name g xs) ≡ (not b && not (has_name g xs))
    by-test g true e = ap (λ (z : Bytes). not (has_name z xs)) (sym (bytes_same y g e)) ∙ ap not h
    by-test g false e = refl

others-new : (xs ys : List Bytes) (y : Bytes) → others xs (filter (λ g. not (bytes_eq y g)) ys) ≡ others (xs ++ y ∷ []) ys
others-new xs ys y =
    filter-twice (λ g. not (has_name g xs)) (λ g. not (bytes_eq y g)) (λ g. not (has_name g (xs ++ y ∷ []))) ys
    (λ g. ap not (has-behind g xs y) ∙ (not-or (has_name g xs) (bytes_eq g y) ∙ ap (λ (b : Bool). not b && not (has_name g xs)) (same-way g y)))

joined-firsts : (xs ys : List Bytes) → joined xs ys ≡ xs ++ others xs (first_names ys)
joined-firsts xs [] = sym (append-nil xs)
joined-firsts xs (y ∷ ys) = by-test (has_name y xs) refl (joined-firsts xs ys) (joined-firsts (xs ++ y ∷ []) ys)
  where
    by-test : (b : Bool) → has_name y xs ≡ b → joined xs ys ≡ xs ++ others xs (first_names ys) → joined (xs ++ y ∷ []) ys ≡ (xs ++ y ∷ []) ++ others (xs ++ y ∷ []) (first_names ys)
        → cond b (joined xs ys) (joined (xs ++ y ∷ []) ys)
        ≡ xs ++ cond (not b) (y ∷ others xs (filter (λ g. not (bytes_eq y g)) (first_names ys))) (others xs (filter (λ g. not (bytes_eq y g)) (first_names ys)))
    by-test true e h k = h ∙ ap (λ (zs : List Bytes). xs ++ zs) (sym (others-known xs (first_names ys) y e))
    by-test false e h k = k ∙ (append_assoc xs (y ∷ []) (others (xs ++ y ∷ []) (first_names ys)) ∙ ap (λ (zs : List Bytes). xs ++ y ∷ zs) (sym (others-new xs (first_names ys) y)))

-- the set of names is their first appearances
pub firsts : (ys : List Bytes) → set_of ys ≡ first_names ys
firsts ys = joined-firsts [] ys ∙ all-kept (first_names ys)
  where
    all-kept : (zs : List Bytes) → others [] zs ≡ zs
    all-kept [] = refl
    all-kept (z ∷ zs) = ap (λ (ws : List Bytes). z ∷ ws) (all-kept zs)
