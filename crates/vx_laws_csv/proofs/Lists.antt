-- Tests of all items of a list, and what is made of two lists made of one.
use Rattle.std.proofs.Common.{◌≡◌, refl, ap, ℕ, zero, suc, Bool, true, List, [], ◌∷◌, map, length, take, drop, replicate}
use Rattle.std.specs.List.{list_all}
use Rattle.std.proofs.lemmas.Bool.{and_parts, and_from}
use Rattle.vx_column.specs.Columns.{zip_rows}

pub all-always : {A : Type 0} (p : A → Bool) → ((x : A) → p x ≡ true) → (xs : List A) → list_all p xs ≡ true
all-always p h [] = refl
all-always p h (x ∷ xs) = and_from (p x) (list_all p xs) (h x) (all-always p h xs)

pub all-so : {A : Type 0} (p q : A → Bool) → ((x : A) → p x ≡ true → q x ≡ true) → (xs : List A) → list_all p xs ≡ true → list_all q xs ≡ true
all-so p q h [] a = refl
all-so p q h (x ∷ xs) a =
    let parts = and_parts (p x) (list_all p xs) a in
    and_from (q x) (list_all q xs) (h x parts.0) (all-so p q h xs parts.1)

pub all-both : {A : Type 0} (p q r : A → Bool) → ((x : A) → p x ≡ true → q x ≡ true → r x ≡ true) → (xs : List A)
    → list_all p xs ≡ true → list_all q xs ≡ true → list_all r xs ≡ true
all-both p q r h [] a b = refl
all-both p q r h (x ∷ xs) a b =
    let first = and_parts (p x) (list_all p xs) a in
    let second = and_parts (q x) (list_all q xs) b in
    and_from (r x) (list_all r xs) (h x first.0 second.0) (all-both p q r h xs first.1 second.1)

-- what holds of all items holds of those from a place on, and of those up to one
pub all-drop : {A : Type 0} (p : A → Bool) (n : ℕ) (xs : List A) → list_all p xs ≡ true → list_all p (drop n xs) ≡ true
all-drop p zero xs h = h
all-drop p (suc n) [] h = refl
all-drop p (suc n) (x ∷ xs) h = all-drop p n xs (and_parts (p x) (list_all p xs) h).1

pub all-take : {A : Type 0} (p : A → Bool) (n : ℕ) (xs : List A) → list_all p xs ≡ true → list_all p (take n xs) ≡ true
all-take p zero xs h = refl
all-take p (suc n) [] h = refl
all-take p (suc n) (x ∷ xs) h =
    let parts = and_parts (p x) (list_all p xs) h in
    and_from (p x) (list_all p (take n xs)) parts.0 (all-take p n xs parts.1)

pub map-map : {A B C : Type 0} (f : B → C) (g : A → B) (xs : List A) → map f (map g xs) ≡ map (λ x. f (g x)) xs
map-map f g [] = refl
map-map f g (x ∷ xs) = ap (λ ys. f (g x) ∷ ys) (map-map f g xs)

pub map-drop : {A B : Type 0} (f : A → B) (n : ℕ) (xs : List A) → drop n (map f xs) ≡ map f (drop n xs)
map-drop f zero xs = refl
map-drop f (suc n) [] = refl
map-drop f (suc n) (x ∷ xs) = map-drop f n xs

pub zip-map : {X A B C : Type 0} (f : A → B → C) (g : X → A) (h : X → B) (xs : List X) → zip_rows f (map g xs) (map h xs) ≡ map (λ x. f (g x) (h x)) xs
zip-map f g h [] = refl
zip-map f g h (x ∷ xs) = ap (λ zs. f (g x) (h x) ∷ zs) (zip-map f g h xs)

pub same-throughout : {A B : Type 0} (y : B) (xs : List A) → replicate (length xs) y ≡ map (λ x. y) xs
same-throughout y [] = refl
same-throughout y (x ∷ xs) = ap (λ ys. y ∷ ys) (same-throughout y xs)
