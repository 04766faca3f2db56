-- Conjuncts that are taken in one after another are paired as in order, and how many are left of them.
use Rattle.std.proofs.Common.{◌≡◌, ℕ, zero, suc, ◌<◌, ◌≤◌, List, [], ◌∷◌, ◌++◌, length, drop, Option, Some, None, option_map, refl, sym, ap, ◌∙◌, arith, false, true≢false}
use Rattle.std.specs.Prelude.{unwrap_or, is_some}
use Rattle.std.proofs.lemmas.Option.{none-some, same_Some}
use Rattle.vx_expr.specs.declared.Operator.{Operator}
use Rattle.vx_expr.specs.Conjuncts.{conjuncts_of}
use Rattle.vx_expr.specs.Trees.{Tree, binary}
use Rattle.vx_build.specs.Collectors.{joined_after, joined_left}
use Rattle.vx_build.proofs.CollectorLemmas.{joined_after_last}
use Rattle.vx_passes.specs.Ranges.{Paired, range_of, behind, paired_or, paired, placed, with_ranges}
use Rattle.vx_transform.specs.Pairs.{range_found, others_of, put_or, taken_in, all_taken_in}
use Rattle.vx_transform.proofs.BoundLemmas.{range_makes_none}

-- ---- how many are left

others_le_by : (o : Option Tree) (d : Tree) (ds : List Tree) (pair : Option Paired) → length (others_of ds pair) ≤ length ds
    → length (others_of (d ∷ ds) (paired_or o ds (option_map (behind d) pair))) ≤ suc (length ds)
others_le_by (Some range) d ds pair h = omega arith
others_le_by None d ds None h = omega arith
others_le_by None d ds (Some p) h = omega (arith, h)

-- no more conjuncts are left than there were
pub others_le : (c : Tree) (ds : List Tree) → length (others_of ds (paired c ds)) ≤ length ds
others_le c [] = omega arith
others_le c (d ∷ ds) = others_le_by (range_of c d) d ds (paired c ds) (others_le c ds)

placed_by : (rest : List Tree → List Tree) (c : Tree) (cs : List Tree) (pair : Option Paired)
    → placed rest c cs pair ≡ unwrap_or (range_found pair) c ∷ rest (others_of cs pair)
placed_by rest c cs None = refl
placed_by rest c cs (Some p) = refl

-- ---- conjuncts that are taken in one after another

-- a range stands before what is made of the others
range_first : (x : Tree) → ((e : Tree) → range_of x e ≡ None) → (made ds : List Tree) → all_taken_in (x ∷ made) ds ≡ x ∷ all_taken_in made ds
range_first x none made [] = refl
range_first x none made (d ∷ ds) =
    ap (λ (o : Option Tree). all_taken_in (put_or o x made (taken_in made d)) ds) (none d) ∙ range_first x none (taken_in made d) ds

pair_behind : (c d : Tree) (made ds : List Tree) (pair : Option Paired)
    → placed (all_taken_in (taken_in made d)) c ds pair ≡ placed (all_taken_in made) c (d ∷ ds) (option_map (behind d) pair)
pair_behind c d made ds None = refl
pair_behind c d made ds (Some p) = refl

-- a conjunct, or its range with the first later one that makes one with it, before what is made of the others
first_taken : (c : Tree) (made cs : List Tree) → all_taken_in (c ∷ made) cs ≡ placed (all_taken_in made) c cs (paired c cs)
first_taken c made [] = refl
first_taken c made (d ∷ ds) = by-range (range_of c d) refl (first_taken c (taken_in made d) ds)
  where
    by-range : (o : Option Tree) → range_of c d ≡ o → all_taken_in (c ∷ taken_in made d) ds ≡ placed (all_taken_in (taken_in made d)) c ds (paired c ds)
        → all_taken_in (put_or o c made (taken_in made d)) ds ≡ placed (all_taken_in made) c (d ∷ ds) (paired_or o ds (option_map (behind d) (paired c ds)))
    by-range (Some x) e rest = range_first x (range_makes_none c d x e) made ds
    by-range None e rest = rest ∙ pair_behind c d made ds (paired c ds)

-- taken in one after another, the conjuncts are paired in order
pub all_taken : (n : ℕ) (cs : List Tree) → length cs ≤ n → all_taken_in [] cs ≡ with_ranges n cs
all_taken zero [] h = refl
all_taken zero (c ∷ cs) h = absurd (omega (arith, h))
all_taken (suc n) [] h = refl
all_taken (suc n) (c ∷ cs) h =
    let pair = paired c cs in
    first_taken c [] cs ∙ placed_by (all_taken_in []) c cs pair
    ∙ ap (λ ds. unwrap_or (range_found pair) c ∷ ds) (all_taken n (others_of cs pair) (omega (arith, h, others_le c cs)))
    ∙ sym (placed_by (with_ranges n) c cs pair)

pub all_taken_whole : (cs : List Tree) → all_taken_in [] cs ≡ with_ranges (length cs) cs
all_taken_whole cs = all_taken (length cs) cs (omega arith)

-- a list that is its own rest is empty
pub own_rest : (xs ys : List Tree) → xs ≡ ys → ys ≡ drop 1 xs → xs ≡ []
own_rest [] ys h k = refl
own_rest (x ∷ xs) ys h k =
    let same : suc (length xs) ≡ length xs = ap length (h ∙ k) in
    absurd (omega (arith, same))

-- ---- where no range is made

-- fewer conjuncts are left of a pair than there were
abbrev Fewer : Option Paired → ℕ → Type 0
Fewer None n = Unit {0}
Fewer (Some p) n = length p.others < n

fewer_by : (o : Option Tree) (d : Tree) (ds : List Tree) (pair : Option Paired) → Fewer pair (length ds) → Fewer (paired_or o ds (option_map (behind d) pair)) (suc (length ds))
fewer_by (Some range) d ds pair h = omega arith
fewer_by None d ds None h = tt
fewer_by None d ds (Some p) h = omega (arith, h)

fewer : (c : Tree) (ds : List Tree) → Fewer (paired c ds) (length ds)
fewer c [] = tt
fewer c (d ∷ ds) = fewer_by (range_of c d) d ds (paired c ds) (fewer c ds)

with_ranges_le : (n : ℕ) (cs : List Tree) → length (with_ranges n cs) ≤ length cs
with_ranges_le zero cs = omega arith
with_ranges_le (suc n) [] = omega arith
with_ranges_le (suc n) (c ∷ cs) =
    let others = others_of cs (paired c cs) in
    let same : length (placed (with_ranges n) c cs (paired c cs)) ≡ suc (length (with_ranges n others)) = ap length (placed_by (with_ranges n) c cs (paired c cs)) in
    omega (arith, same, with_ranges_le n others, others_le c cs)

stands_by : (n : ℕ) (c : Tree) (cs : List Tree) (pair : Option Paired) → Fewer pair (length cs) → (length (with_ranges n cs) ≡ length cs → with_ranges n cs ≡ cs)
    → length (placed (with_ranges n) c cs pair) ≡ suc (length cs) → placed (with_ranges n) c cs pair ≡ c ∷ cs
stands_by n c cs None less rest h = ap (λ ds. c ∷ ds) (rest (omega (arith, h)))
stands_by n c cs (Some p) less rest h = absurd (omega (arith, h, less, with_ranges_le n p.others))

-- where as many stand as there were, they stand as they were
pub ranges_stand : (n : ℕ) (cs : List Tree) → length (with_ranges n cs) ≡ length cs → with_ranges n cs ≡ cs
ranges_stand zero cs h = refl
ranges_stand (suc n) [] h = refl
ranges_stand (suc n) (c ∷ cs) h = stands_by n c cs (paired c cs) (fewer c cs) (ranges_stand n cs) h

-- an operand after the others is joined last
joined_last : (l r : Tree) (xs : List Tree) → joined_left Operator.And xs ≡ Some l → joined_left Operator.And (xs ++ r ∷ []) ≡ Some (binary l Operator.And r)
joined_last l r [] h = absurd (none-some l h)
joined_last l r (e ∷ es) h =
    let same : joined_after Operator.And e es ≡ l = same_Some (joined_after Operator.And e es) l h in
    ap Some (joined_after_last Operator.And e es r ∙ ap (λ d. binary d Operator.And r) same)

-- an `and` is its conjuncts, joined to the left, where its left operand is and its right one is its only conjunct
pub joined_and : (e l r : Tree) → e ≡ binary l Operator.And r → conjuncts_of r ≡ r ∷ [] → joined_left Operator.And (conjuncts_of l) ≡ Some l
    → joined_left Operator.And (conjuncts_of e) ≡ Some e
unfolding conjuncts_of
joined_and e l r is alone h =
    ap (λ d. joined_left Operator.And (conjuncts_of d)) is ∙ ap (λ ds. joined_left Operator.And (conjuncts_of l ++ ds)) alone
    ∙ joined_last l r (conjuncts_of l) h ∙ ap Some (sym is)

pub none_where_not : {A : Type 0} (o : Option A) → is_some o ≡ false → o ≡ None
none_where_not None h = refl
none_where_not (Some x) h = absurd (true≢false h)
