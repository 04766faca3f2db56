-- For the checker: no public clause cites this.
-- Conjuncts taken in one after another, and the places of the bounds among them that a later one may make a range with.
use Rattle.std.specs.Prelude.{◌≡◌, ℕ, suc, Bool, false, cond, ◌&&◌, ◌||◌, List, [], ◌∷◌, ◌++◌, drop, Option, Some, None, is_some, option_map}
use Rattle.std.specs.Option.{option_and_then, option_or}
use Rattle.vx_dtype.specs.declared.StrictComparison.{StrictComparison}
use Rattle.vx_expr.specs.declared.Operator.{Operator}
use Rattle.vx_expr.specs.Children.{is_get_item, literal_of}
use Rattle.vx_expr.specs.Equal.{tree_eq}
use Rattle.vx_expr.specs.Trees.{Tree, binary}
use Rattle.vx_passes.specs.Ranges.{Paired, Reading, from_left, from_right, bound_below, bound_above, range_between, range_of}

-- the range of a pair
abbrev pub range_found : Option Paired → Option Tree
range_found pair = option_map (λ p. p.range) pair

-- the conjuncts without the one that went into the range; all of them where there is no pair
abbrev pub others_of : List Tree → Option Paired → List Tree
others_of cs None = cs
others_of cs (Some p) = p.others

-- whether a reading is a bound: of a field access by a constant, from below or from above
abbrev pub is_bound : Reading → Bool
is_bound a = is_get_item a.operand && (is_some (literal_of a.other) && (is_some (bound_below a.operator) || is_some (bound_above a.operator)))

abbrev pub as_bound : Reading → Option Reading
as_bound a = cond (is_bound a) (Some a) None

-- the bound that a conjunct is, read with the field access on the left
abbrev pub bound_of : Tree → Option Reading
bound_of (binary l op r) = option_or (as_bound (from_left l op r)) (as_bound (from_right l op r))
bound_of e = None

-- the range of two bounds of one field access
abbrev pub range_of_bounds : Reading → Reading → Option Tree
range_of_bounds a b = cond (tree_eq a.operand b.operand) (option_or (range_between a b) (range_between b a)) None

-- the range of two conjuncts that may be bounds
abbrev pub range_of_both : Option Reading → Option Reading → Option Tree
range_of_both x y = option_and_then (λ a. option_and_then (range_of_bounds a) y) x

-- whether a bound is from below
abbrev pub is_from_below : Reading → Bool
is_from_below a = is_some (bound_below a.operator)

-- whether a conjunct that may be a bound is one of this operand from a side
abbrev pub bounds_by : (Operator → Option StrictComparison) → Tree → Option Reading → Bool
bounds_by side e None = false
bounds_by side e (Some a) = tree_eq a.operand e && is_some (side a.operator)

abbrev pub bounds_below : Tree → Tree → Bool
bounds_below e c = bounds_by bound_below e (bound_of c)

abbrev pub bounds_above : Tree → Tree → Bool
bounds_above e c = bounds_by bound_above e (bound_of c)

-- the places of those that pass a test, counted on from a number
abbrev pub places : {A : Type 0} → (A → Bool) → ℕ → List A → List ℕ
places test n [] = []
places test n (x ∷ xs) = cond (test x) (n ∷ places test (suc n) xs) (places test (suc n) xs)

-- places where the first of them is taken out, and where one more is put behind them, if the test holds
abbrev pub rest_where : Bool → List ℕ → List ℕ
rest_where test ks = cond test (drop 1 ks) ks

abbrev pub added_where : Bool → ℕ → List ℕ → List ℕ
added_where test n ks = cond test (ks ++ n ∷ []) ks

-- the first for which there is another, replaced by that; where there is none, a last one behind them
abbrev pub put_or : {A : Type 0} → Option A → A → List A → List A → List A
put_or (Some y) x xs others = y ∷ xs
put_or None x xs others = x ∷ others

abbrev pub first_replaced : {A : Type 0} → (A → Option A) → A → List A → List A
first_replaced other last [] = last ∷ []
first_replaced other last (x ∷ xs) = put_or (other x) x xs (first_replaced other last xs)

-- a conjunct taken in: the first of those before it that makes a range with it becomes the range; else it stands behind them
abbrev pub taken_in : List Tree → Tree → List Tree
taken_in made d = first_replaced (λ c. range_of c d) d made

-- conjuncts taken in one after another
abbrev pub all_taken_in : List Tree → List Tree → List Tree
all_taken_in made [] = made
all_taken_in made (d ∷ ds) = all_taken_in (taken_in made d) ds

-- the places at which the bounds of each operand stand among those made: those from below, and those from above
abbrev pub WaitsAt : (Tree → List ℕ) → (Tree → List ℕ) → List Tree → Type 0
WaitsAt below above made = ((e : Tree) → below e ≡ places (bounds_below e) 0 made) × ((e : Tree) → above e ≡ places (bounds_above e) 0 made)
