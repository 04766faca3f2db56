-- Which blocks a filter rules out by their statistics: those where the known bounds leave it nowhere true.
-- A bound that is null, missing, or under a joined name that two statistics have is not known, and rules nothing out.
use Rattle.std.specs.Prelude.{ℕ, pos, nat_eq, Bool, true, false, cond, not, ◌&&◌, ◌||◌, List, length, Option, Some, None, is_some, slice_get}
use Rattle.std.specs.List.{filter, find}
use Rattle.std.specs.Str.{bytes_eq}
use Rattle.vx_dtype.specs.declared.PType.TheVariants.{U64}
use Rattle.vx_dtype.specs.declared.CompareOperator.{CompareOperator}
use Rattle.vx_dtype.specs.declared.BetweenOptions.{BetweenOptions}
use Rattle.vx_dtype.specs.declared.Stat.{Stat}
use Rattle.vx_dtype.specs.declared.Stat.TheVariants.{Min, Max, NullCount}
use Rattle.vx_dtype.specs.Types.{Bytes}
use Rattle.vx_dtype.specs.Values.{Val, null_val, int_val, list_val, Vals, no_vals, val, Typed, value_of}
use Rattle.vx_dtype.specs.Order.{bound_operator, compares}
use Rattle.vx_expr.specs.declared.Operator.{Operator}
use Rattle.vx_expr.specs.Trees.{Tree, literal, binary, not_of, is_null_of, between, list_contains, dynamic}
use Rattle.vx_expr.specs.Operators.{comparison_of, inverse_comparison}
use Rattle.vx_semantics.specs.Meaning.{Slots, slot_value}
use Rattle.vx_semantics.specs.Paths.{path_of}
use Rattle.vx_semantics.specs.Tables.{ZoneStat, Zones, same_statistic, joined_name}

-- whether a statistic has this joined name, and whether it is of this path and kind
abbrev pub is_joined : Bytes → ZoneStat → Bool
is_joined name z = bytes_eq name (joined_name z.path z.stat)

abbrev pub is_statistic : List Bytes → Stat → ZoneStat → Bool
is_statistic path stat z = same_statistic (path, stat) (z.path, z.stat)

-- the statistic of a path, where it stands in the zones and no other has its joined name
abbrev pub available : Zones → List Bytes → Stat → Option ZoneStat
available zones path stat =
    cond (nat_eq (length (filter (is_joined (joined_name path stat)) zones.stats)) 1) (find (is_statistic path stat) zones.stats) None

-- the value, none where it is null
abbrev pub known : Val → Option Val
known null_val = None
known v = Some v

-- the known value of a statistic in a block
abbrev pub value_in : Option Typed → Option Val
value_in None = None
value_in (Some s) = known (value_of s)

abbrev pub known_in : Option ZoneStat → ℕ → Option Val
known_in None block = None
known_in (Some z) block = value_in (slice_get z.values block)

-- the known statistic of a path, none where there is no path
abbrev pub known_at : Zones → ℕ → Stat → Option (List Bytes) → Option Val
known_at zones block stat None = None
known_at zones block stat (Some path) = known_in (available zones path stat) block

-- the known bound of an operand: of a constant its value, of a path its statistic
abbrev pub known_bound : Zones → ℕ → Stat → Tree → Option Val
known_bound zones block stat (literal s) = known (value_of s)
known_bound zones block stat e = known_at zones block stat (path_of e)

-- whether both values are known and compare so
abbrev pub known_compare : CompareOperator → Option Val → Option Val → Bool
known_compare op (Some a) (Some b) = compares op a b
known_compare op _ _ = false

-- the comparison of two operands, by the greatest and the least that each can be
abbrev pub comparison_ruled_out : CompareOperator → (Stat → Option Val) → (Stat → Option Val) → Bool
comparison_ruled_out CompareOperator.Gt l r = known_compare CompareOperator.Lte (l Max) (r Min)
comparison_ruled_out CompareOperator.Gte l r = known_compare CompareOperator.Lt (l Max) (r Min)
comparison_ruled_out CompareOperator.Lt l r = known_compare CompareOperator.Gte (l Min) (r Max)
comparison_ruled_out CompareOperator.Lte l r = known_compare CompareOperator.Gt (l Min) (r Max)
comparison_ruled_out CompareOperator.Eq l r = known_compare CompareOperator.Gt (l Min) (r Max) || known_compare CompareOperator.Gt (r Min) (l Max)
comparison_ruled_out CompareOperator.NotEq l r = known_compare CompareOperator.Eq (l Min) (r Max) && known_compare CompareOperator.Eq (l Max) (r Min)

-- the negation of a comparison, which is its inverse
abbrev pub comparison_negation_ruled_out : CompareOperator → (Stat → Option Val) → (Stat → Option Val) → Bool
comparison_negation_ruled_out op l r = comparison_ruled_out (inverse_comparison op) l r

-- `and`, of which one side that is ruled out is enough, and `or`, of which both are needed
abbrev pub and_ruled_out : Bool → Bool → Bool
and_ruled_out l r = l || r

abbrev pub or_ruled_out : Bool → Bool → Bool
or_ruled_out l r = l && r

-- a range is its two comparisons joined by `and`, and its negation their negations joined by `or`
abbrev pub range_ruled_out : BetweenOptions → (Stat → Option Val) → (Stat → Option Val) → (Stat → Option Val) → Bool
range_ruled_out options v lower upper =
    and_ruled_out
    (comparison_ruled_out (bound_operator options.lower_strict) lower v)
    (comparison_ruled_out (bound_operator options.upper_strict) v upper)

abbrev pub range_negation_ruled_out : BetweenOptions → (Stat → Option Val) → (Stat → Option Val) → (Stat → Option Val) → Bool
range_negation_ruled_out options v lower upper =
    or_ruled_out
    (comparison_negation_ruled_out (bound_operator options.lower_strict) lower v)
    (comparison_negation_ruled_out (bound_operator options.upper_strict) v upper)

-- a null test, where the count of nulls is known to be 0
abbrev pub is_zero : Option Val → Bool
is_zero None = false
is_zero (Some v) = compares CompareOperator.Eq v (int_val U64 (pos 0))

-- whether each element is not null and lies outside the known bounds
abbrev pub all_outside : Vals → Option Val → Option Val → Bool
all_outside no_vals least_known greatest_known = true
all_outside (val v vs) least_known greatest_known =
    (known_compare CompareOperator.Lt greatest_known (known v) || known_compare CompareOperator.Gt least_known (known v))
    && all_outside vs least_known greatest_known

-- whether a path has this statistic available; a constant has all
abbrev pub available_at : Zones → Option (List Bytes) → Stat → Bool
available_at zones None stat = false
available_at zones (Some path) stat = is_some (available zones path stat)

abbrev pub bound_available : Zones → Tree → Stat → Bool
bound_available zones (literal s) stat = true
bound_available zones e stat = available_at zones (path_of e) stat

-- membership in a constant list that is not null: it has no elements, or the value has both bounds available and each element lies outside the known ones
abbrev pub elements_ruled_out : Val → Bool → Option Val → Option Val → Bool
elements_ruled_out (list_val no_vals) bounded least_known greatest_known = true
elements_ruled_out (list_val vs) bounded least_known greatest_known = bounded && all_outside vs least_known greatest_known
elements_ruled_out _ bounded least_known greatest_known = false

abbrev pub contains_ruled_out : Zones → ℕ → Tree → Tree → Bool
contains_ruled_out zones block (literal s) e =
    elements_ruled_out (value_of s) (bound_available zones e Min && bound_available zones e Max)
    (known_bound zones block Min e) (known_bound zones block Max e)
contains_ruled_out zones block _ e = false

-- a comparison with a slot: by its value where it has one, else by its default
abbrev pub slot_bound : Val → Stat → Option Val
slot_bound v stat = known v

-- the bound that a comparison with a slot needs of its operand, none for equality
abbrev pub needed_bound : CompareOperator → Option Stat
needed_bound CompareOperator.Gt = Some Max
needed_bound CompareOperator.Gte = Some Max
needed_bound CompareOperator.Lt = Some Min
needed_bound CompareOperator.Lte = Some Min
needed_bound _ = None

abbrev pub dynamic_ruled_out_by : Zones → ℕ → Tree → CompareOperator → Bool → Option Val → Option Stat → Bool
dynamic_ruled_out_by zones block e op default slot None = false
dynamic_ruled_out_by zones block e op default (Some v) (Some stat) = comparison_ruled_out op (λ s. known_bound zones block s e) (slot_bound v)
dynamic_ruled_out_by zones block e op default None (Some stat) = not default && bound_available zones e stat

-- the comparison that an operator is, or nothing where it is none
abbrev pub operator_ruled_out : Option CompareOperator → (Stat → Option Val) → (Stat → Option Val) → Bool
operator_ruled_out None l r = false
operator_ruled_out (Some op) l r = comparison_ruled_out op l r

abbrev pub operator_negation_ruled_out : Option CompareOperator → (Stat → Option Val) → (Stat → Option Val) → Bool
operator_negation_ruled_out None l r = false
operator_negation_ruled_out (Some op) l r = comparison_negation_ruled_out op l r

unfoldable mutual
  -- whether a filter rules a block out: the statistics show it true at no row
  pub rules_out : Zones → Slots → ℕ → Tree → Bool
  rules_out zones slots block (binary l Operator.And r) = and_ruled_out (rules_out zones slots block l) (rules_out zones slots block r)
  rules_out zones slots block (binary l Operator.Or r) = or_ruled_out (rules_out zones slots block l) (rules_out zones slots block r)
  rules_out zones slots block (binary l op r) =
      operator_ruled_out (comparison_of op) (λ s. known_bound zones block s l) (λ s. known_bound zones block s r)
  rules_out zones slots block (between e lower upper options) =
      range_ruled_out options (λ s. known_bound zones block s e) (λ s. known_bound zones block s lower) (λ s. known_bound zones block s upper)
  rules_out zones slots block (is_null_of e) = is_zero (known_at zones block NullCount (path_of e))
  rules_out zones slots block (list_contains l e) = contains_ruled_out zones block l e
  rules_out zones slots block (dynamic e op k t default) = dynamic_ruled_out_by zones block e op default (slot_value slots k) (needed_bound op)
  rules_out zones slots block (not_of e) = rules_out_negation zones slots block e
  rules_out zones slots block _ = false

  -- whether the negation of a filter rules a block out
  pub rules_out_negation : Zones → Slots → ℕ → Tree → Bool
  rules_out_negation zones slots block (binary l Operator.And r) =
      or_ruled_out (rules_out_negation zones slots block l) (rules_out_negation zones slots block r)
  rules_out_negation zones slots block (binary l Operator.Or r) =
      and_ruled_out (rules_out_negation zones slots block l) (rules_out_negation zones slots block r)
  rules_out_negation zones slots block (binary l op r) =
      operator_negation_ruled_out (comparison_of op) (λ s. known_bound zones block s l) (λ s. known_bound zones block s r)
  rules_out_negation zones slots block (between e lower upper options) =
      range_negation_ruled_out options (λ s. known_bound zones block s e) (λ s. known_bound zones block s lower) (λ s. known_bound zones block s upper)
  rules_out_negation zones slots block (not_of e) = rules_out zones slots block e
  rules_out_negation zones slots block _ = false
