-- Tests on the elements of lists, and what stands at a place.
use Rattle.std.proofs.Common.{◌≡◌, refl, ap, sym, ◌∙◌, ℕ, zero, suc, ◌+◌, ◌<◌, Bool, true, false, ◌||◌, List, [], ◌∷◌, map, length, All, Some, arith, get_or}
use Rattle.std.specs.List.{list_any, slice_get, range_with_len}
use Rattle.std.proofs.lemmas.Option.{same_Some, none-some}
use Rattle.vx_dtype.specs.Values.{Val, null_val}

shuffled : (a b c d : Bool) → ((a || b) || (c || d)) ≡ ((a || c) || (b || d))
shuffled true b c d = refl
shuffled false true true d = refl
shuffled false true false d = refl
shuffled false false c d = refl

-- some element passes one of two tests
pub any_or : {A : Type 0} (f g : A → Bool) (xs : List A) → list_any (λ x. f x || g x) xs ≡ (list_any f xs || list_any g xs)
any_or f g [] = refl
any_or f g (x ∷ xs) = ap (λ b. (f x || g x) || b) (any_or f g xs) ∙ shuffled (f x) (g x) (list_any f xs) (list_any g xs)

never : {A : Type 0} (xs : List A) → list_any (λ (_ : A). false) xs ≡ false
never [] = refl
never (x ∷ xs) = never xs

-- some element of one list passes with some of another, in either order
pub any_swap : {A B : Type 0} (p : A → B → Bool) (xs : List A) (ys : List B) → list_any (λ x. list_any (p x) ys) xs ≡ list_any (λ y. list_any (λ x. p x y) xs) ys
any_swap p [] ys = sym (never ys)
any_swap p (x ∷ xs) ys = ap (λ b. list_any (p x) ys || b) (any_swap p xs ys) ∙ sym (any_or (p x) (λ y. list_any (λ z. p z y) xs) ys)

-- what is mapped
pub any_mapped : {A B : Type 0} (f : B → Bool) (g : A → B) (h : A → Bool) → ((x : A) → f (g x) ≡ h x) → (xs : List A) → list_any f (map g xs) ≡ list_any h xs
any_mapped f g h same [] = refl
any_mapped f g h same (x ∷ xs) = λ i. same x i || any_mapped f g h same xs i

pub map_mapped : {A B C : Type 0} (f : B → C) (g : A → B) (h : A → C) → ((x : A) → f (g x) ≡ h x) → (xs : List A) → map f (map g xs) ≡ map h xs
map_mapped f g h same [] = refl
map_mapped f g h same (x ∷ xs) = λ i. same x i ∷ map_mapped f g h same xs i

pub length_mapped : {A B : Type 0} (f : A → B) (xs : List A) → length (map f xs) ≡ length xs
length_mapped f [] = refl
length_mapped f (x ∷ xs) = ap suc (length_mapped f xs)

pub at_mapped : {A : Type 0} (f : A → Val) (xs : List A) (i : ℕ) (x : A) → slice_get xs i ≡ Some x → get_or (map f xs) i null_val ≡ f x
at_mapped f [] i x at = absurd (none-some x at)
at_mapped f (y ∷ ys) zero x at = ap f (same_Some y x at)
at_mapped f (y ∷ ys) (suc i) x at = at_mapped f ys i x at

-- the first of all elements, and the others
pub all_first : {A : Type 0} (P : A → Type 0) (x : A) (xs : List A) → All P (x ∷ xs) → P x
all_first P x xs h = h 0 x (omega arith)

pub all_rest : {A : Type 0} (P : A → Type 0) (x : A) (xs : List A) → All P (x ∷ xs) → All P xs
all_rest P x xs h = λ k d below. h (suc k) d (omega (arith, below))

pub any_same : {A : Type 0} (f g : A → Bool) → ((x : A) → f x ≡ g x) → (xs : List A) → list_any f xs ≡ list_any g xs
any_same f g same [] = refl
any_same f g same (x ∷ xs) = λ i. same x i || any_same f g same xs i

pub range_length : (a n : ℕ) → length (range_with_len a n) ≡ n
range_length a zero = refl
range_length a (suc n) = ap suc (range_length (a + 1) n)

-- what is read at a place stands there
pub read_at : {A : Type 0} (xs : List A) (i : ℕ) (x : A) → i < length xs → x ≡ get_or xs i x → slice_get xs i ≡ Some x
read_at [] i x below e = absurd (omega (arith, below))
read_at (y ∷ ys) zero x below e = ap Some (sym e)
read_at (y ∷ ys) (suc i) x below e = read_at ys i x (omega (arith, below)) e
