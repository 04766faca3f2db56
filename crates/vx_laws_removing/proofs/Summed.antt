-- Sums over names, and what the values of distinct names in packs weigh together.
use Rattle.std.proofs.Common.{◌≡◌, ◌≤◌, ℕ, ◌+◌, refl, ap, sym, Bool, true, false, cond, not, ◌||◌, Option, Some, None, subst, List, [], ◌∷◌, arith}
use Rattle.std.specs.Str.{bytes_eq}
use Rattle.std.proofs.lemmas.Bool.{and_parts}
use Rattle.vx_dtype.specs.Types.{Bytes}
use Rattle.vx_dtype.specs.TypeRules.{distinct_names, has_name}
use Rattle.vx_expr.specs.Trees.{Tree, pack, Trees, no_trees, tree}
use Rattle.vx_expr.specs.Children.{packed_value}
use Rattle.vx_laws.proofs.Inverting.{bytes_same, bytes_eq-itself}
use Rattle.vx_laws_removing.proofs.Counted.{weight, size, sizes}

unfoldable pub sum : (Bytes → ℕ) → List Bytes → ℕ
sum g [] = 0
sum g (f ∷ fs) = g f + sum g fs

sum-parts : (g a b : Bytes → ℕ) → ((f : Bytes) → g f ≤ a f + b f) → (fs : List Bytes) → sum g fs ≤ sum a fs + sum b fs
unfolding sum
sum-parts g a b h [] = omega arith
sum-parts g a b h (f ∷ fs) = let i = h f in let j = sum-parts g a b h fs in omega (arith, i, j)

sum-zero : (fs : List Bytes) → sum (λ f. 0) fs ≡ 0
unfolding sum
sum-zero [] = refl
sum-zero (f ∷ fs) = let a = sum-zero fs in omega (arith, a)

-- a number at a name, 0 at the others
unfoldable pub at_name : Bytes → ℕ → Bytes → ℕ
at_name p k f = cond (bytes_eq f p) k 0

other-name : (p f : Bytes) → bytes_eq p f ≡ false → bytes_eq f p ≡ false
other-name p f h = by-test (bytes_eq f p) refl
  where
    by-test : (b : Bool) → bytes_eq f p ≡ b → bytes_eq f p ≡ false
    by-test false e = e
    by-test true e =
        let back : bytes_eq p f ≡ true = subst (λ (z : Bytes). bytes_eq p z ≡ true) (sym (bytes_same f p e)) (bytes_eq-itself p) in
        let no : ⊥ = cc in absurd no

or-no : (a b : Bool) → (a || b) ≡ false → (a ≡ false) × (b ≡ false)
or-no false b h = (refl, h)
or-no true b h = let no : ⊥ = cc in absurd no

sum-none : (p : Bytes) (k : ℕ) (fs : List Bytes) → has_name p fs ≡ false → sum (at_name p k) fs ≡ 0
unfolding sum at_name
sum-none p k [] h = refl
sum-none p k (f ∷ fs) h =
    let parts = or-no (bytes_eq p f) (has_name p fs) h in
    let here : cond (bytes_eq f p) k 0 ≡ 0 = ap (λ (b : Bool). cond b k 0) (other-name p f parts.0) in
    let rest = sum-none p k fs parts.1 in
    omega (arith, here, rest)

not-true : (b : Bool) → not b ≡ true → b ≡ false
not-true false h = refl
not-true true h = let no : ⊥ = cc in absurd no

sum-at : (p : Bytes) (k : ℕ) (fs : List Bytes) → distinct_names fs ≡ true → sum (at_name p k) fs ≤ k
unfolding sum at_name
sum-at p k [] h = omega arith
sum-at p k (f ∷ fs) h = by-test (bytes_eq f p) refl (sum-at p k fs (and_parts (not (has_name f fs)) (distinct_names fs) h).1)
  where
    by-test : (b : Bool) → bytes_eq f p ≡ b → sum (at_name p k) fs ≤ k → cond b k 0 + sum (at_name p k) fs ≤ k
    by-test false e r = omega (arith, r)
    by-test true e r =
        let away = not-true (has_name f fs) (and_parts (not (has_name f fs)) (distinct_names fs) h).0 in
        let none = sum-none p k fs (subst (λ (z : Bytes). has_name z fs ≡ false) (bytes_same f p e) away) in
        omega (arith, none)

-- what an expression weighs where there is one
unfoldable pub option_size : Option Tree → ℕ
option_size (Some e) = size e
option_size None = 0

unfoldable pub cost_in : List Bytes → Trees → Bytes → ℕ
cost_in names es f = option_size (packed_value f names es)

-- what a name's value in a pack weighs; 0 where the expression is no pack
unfoldable pub cost : Tree → Bytes → ℕ
cost (pack names es n) f = cost_in names es f
cost _ f = 0

-- in each of several
unfoldable pub costs : Trees → Bytes → ℕ
costs no_trees f = 0
costs (tree x xs) f = cost x f + costs xs f

pub cost-value : (f : Bytes) (names : List Bytes) (es : Trees) (y : Tree) (k : ℕ) → packed_value f names es ≡ Some y → size y ≤ k + option_size (packed_value f names es)
unfolding option_size
cost-value f names es y k h = let a = ap option_size h in omega (arith, a)

first-or-later : (f p : Bytes) (e : Tree) (names : List Bytes) (es : Trees) → cost_in (p ∷ names) (tree e es) f ≤ at_name p (size e) f + cost_in names es f
unfolding cost_in option_size at_name
first-or-later f p e names es = by-test (bytes_eq f p)
  where
    by-test : (b : Bool) → option_size (cond b (Some e) (packed_value f names es)) ≤ cond b (size e) 0 + option_size (packed_value f names es)
    by-test true = omega arith
    by-test false = omega arith

sum-packed : (names : List Bytes) (es : Trees) (fs : List Bytes) → distinct_names fs ≡ true → sum (cost_in names es) fs ≤ sizes es
unfolding cost_in option_size weight
sum-packed [] es fs h = let a = sum-zero fs in omega (arith, a)
sum-packed (p ∷ names) no_trees fs h = let a = sum-zero fs in omega (arith, a)
sum-packed (p ∷ names) (tree e es) fs h =
    let a = sum-parts (cost_in (p ∷ names) (tree e es)) (at_name p (size e)) (cost_in names es) (λ f. first-or-later f p e names es) fs in
    let b = sum-at p (size e) fs h in
    let c = sum-packed names es fs h in
    omega (arith, a, b, c)

sum-cost : (x : Tree) (fs : List Bytes) → distinct_names fs ≡ true → sum (cost x) fs ≤ size x
unfolding cost weight
sum-cost (pack names es n) fs h = let a = sum-packed names es fs h in omega (arith, a)
sum-cost x fs h = let a = sum-zero fs in omega (arith, a)

-- the values of distinct names weigh together no more than the packs
pub sum-costs : (xs : Trees) (fs : List Bytes) → distinct_names fs ≡ true → sum (costs xs) fs ≤ sizes xs
unfolding costs weight
sum-costs no_trees fs h = let a = sum-zero fs in omega (arith, a)
sum-costs (tree x xs) fs h =
    let a = sum-parts (costs (tree x xs)) (cost x) (costs xs) (λ f. omega arith) fs in
    let b = sum-cost x fs h in
    let c = sum-costs xs fs h in
    omega (arith, a, b, c)
