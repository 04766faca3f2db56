-- Ranges: two comparisons of one field access with constants, one from below and one from above, become one range.
use Rattle.std.specs.Prelude.{ℕ, zero, suc, Bool, cond, not, ◌&&◌, List, [], ◌∷◌, length, Option, Some, None, is_some, option_map, unwrap_or}
use Rattle.std.specs.List.{find}
use Rattle.std.specs.Option.{option_and_then, option_or}
use Rattle.vx_dtype.specs.declared.StrictComparison.{StrictComparison}
use Rattle.vx_dtype.specs.declared.StrictComparison.TheVariants.{Strict, NonStrict}
use Rattle.vx_expr.specs.declared.Operator.{Operator}
use Rattle.vx_expr.specs.Children.{is_get_item, literal_of}
use Rattle.vx_expr.specs.Conjuncts.{conjuncts_of}
use Rattle.vx_expr.specs.Equal.{tree_eq}
use Rattle.vx_expr.specs.Operators.{swapped}
use Rattle.vx_expr.specs.Trees.{Tree, binary, between}
use Rattle.vx_build.specs.Collectors.{joined_left}

-- a comparison read with one of its operands on the left: this operand, the operator so read, the other operand
pub record Reading : Type 0 where
  pub operand : Tree
  pub operator : Operator
  pub other : Tree

-- a conjunct of two operands read from the left and from the right one
abbrev pub from_left : Tree → Operator → Tree → Reading
from_left l op r = record { operand = l; operator = op; other = r }

abbrev pub from_right : Tree → Operator → Tree → Reading
from_right l op r = record { operand = r; operator = swapped op; other = l }

-- whether two readings are of one field access
abbrev pub share_access : Reading × Reading → Bool
share_access p = is_get_item p.0.operand && tree_eq p.0.operand p.1.operand

-- the bound that an operator gives from below, and from above: strict or not
abbrev pub bound_below : Operator → Option StrictComparison
bound_below Operator.Gt = Some Strict
bound_below Operator.Gte = Some NonStrict
bound_below _ = None

abbrev pub bound_above : Operator → Option StrictComparison
bound_above Operator.Lt = Some Strict
bound_above Operator.Lte = Some NonStrict
bound_above _ = None

-- the range of an operand from one bound to another, where the first bounds it from below and the second from above
abbrev pub range_where : Tree → Tree → Tree → Option StrictComparison → Option StrictComparison → Option Tree
range_where e lower upper (Some below) (Some above) = Some (between e lower upper (record { lower_strict = below; upper_strict = above }))
range_where e lower upper _ _ = None

abbrev pub range_between : Reading → Reading → Option Tree
range_between a b = range_where a.operand a.other b.other (bound_below a.operator) (bound_above b.operator)

-- the range of two readings whose other operands are constants: either may give the lower bound
abbrev pub range_of_readings : Reading × Reading → Option Tree
range_of_readings p =
    cond (is_some (literal_of p.0.other) && is_some (literal_of p.1.other)) (option_or (range_between p.0 p.1) (range_between p.1 p.0)) None

-- the range of two conjuncts of two operands each, by the first of the four ways in which they share a field access
abbrev pub range_of_four : Reading → Reading → Reading → Reading → Option Tree
range_of_four cl cr dl dr =
    option_and_then range_of_readings (find share_access ((cl, dl) ∷ (cl, dr) ∷ (cr, dl) ∷ (cr, dr) ∷ []))

-- the range that two conjuncts make; none where one has no two operands, or two equal ones
abbrev pub range_of : Tree → Tree → Option Tree
range_of (binary l op r) (binary k oq q) =
    cond (not (tree_eq l r) && not (tree_eq k q)) (range_of_four (from_left l op r) (from_right l op r) (from_left k oq q) (from_right k oq q)) None
range_of c d = None

-- a range in the place of the first conjunct, and the later conjuncts without the one that went into it
pub record Paired : Type 0 where
  pub range : Tree
  pub others : List Tree

-- the conjunct before the others
abbrev pub behind : Tree → Paired → Paired
behind d p = record { range = p.range; others = d ∷ p.others }

abbrev pub paired_or : Option Tree → List Tree → Option Paired → Option Paired
paired_or (Some range) others later = Some (record { range = range; others = others })
paired_or None others later = later

-- a conjunct paired with the first later one with which it makes a range
abbrev pub paired : Tree → List Tree → Option Paired
paired c [] = None
paired c (d ∷ ds) = paired_or (range_of c d) ds (option_map (behind d) (paired c ds))

-- what stands in the place of a conjunct, before what the rest becomes
abbrev pub placed : (List Tree → List Tree) → Tree → List Tree → Option Paired → List Tree
placed rest c cs None = c ∷ rest cs
placed rest c cs (Some p) = p.range ∷ rest p.others

-- the conjuncts in order, each paired with the first later one that makes a range with it; the number is that of conjuncts at least
abbrev pub with_ranges : ℕ → List Tree → List Tree
with_ranges zero cs = cs
with_ranges (suc n) [] = []
with_ranges (suc n) (c ∷ cs) = placed (with_ranges n) c cs (paired c cs)

-- the conjuncts with their ranges, joined by `and` to the left
abbrev pub ranged : Tree → Tree
ranged e = unwrap_or (joined_left Operator.And (with_ranges (length (conjuncts_of e)) (conjuncts_of e))) e
