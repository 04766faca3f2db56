-- Falsification: an expression over statistics that is true only where a filter is true at no row, and the statistics that it asks of a catalog, in order.
-- Asking stops at the first bound that is missing, where the rule needs it.
use Rattle.std.specs.Prelude.{pos, true, not, List, [], ◌∷◌, ◌++◌, Option, Some, None, option_map}
use Rattle.vx_dtype.specs.declared.PType.TheVariants.{U64}
use Rattle.vx_dtype.specs.declared.Nullability.TheVariants.{NonNullable}
use Rattle.vx_dtype.specs.declared.CompareOperator.{CompareOperator}
use Rattle.vx_dtype.specs.declared.Stat.{Stat}
use Rattle.vx_dtype.specs.declared.Stat.TheVariants.{Min, Max, NaNCount, NullCount}
use Rattle.vx_dtype.specs.Types.{Bytes, Ty, bool_ty, int_ty, list_ty}
use Rattle.vx_dtype.specs.Values.{Raw, raw_bool, raw_int, raw_list, Raws, no_raws, raw}
use Rattle.vx_dtype.specs.Order.{bound_operator}
use Rattle.vx_expr.specs.declared.Operator.{Operator}
use Rattle.vx_expr.specs.Operators.{comparison_of, operator_of, inverse_comparison}
use Rattle.vx_expr.specs.Trees.{Tree, literal, binary, not_of, is_null_of, between, list_contains, dynamic}
use Rattle.vx_semantics.specs.Paths.{path_of}
use Rattle.vx_passes.specs.Catalogs.{Catalog}

-- a statistic that is asked: its path and its kind
abbrev pub Question : Type 0
Question = List Bytes × Stat

-- what is found of a catalog, if anything, and what was asked for it, in order
pub record Found : Type 0 where
  pub tree : Option Tree
  pub asked : List Question

-- an expression for which nothing is asked, and nothing at all
abbrev pub unasked : Tree → Found
unasked e = record { tree = Some e; asked = [] }

abbrev pub nothing : Found
nothing = record { tree = None; asked = [] }

-- the same found expression in another, and the same asked
abbrev pub found_in : (Tree → Tree) → Found → Found
found_in around x = record { tree = option_map around x.tree; asked = x.asked }

-- what is found next with a found expression; where there is none, nothing more is asked
abbrev pub found_by : (Tree → Found) → Option Tree → List Question → Found
found_by next None asked = record { tree = None; asked = asked }
found_by next (Some a) asked = record { tree = (next a).tree; asked = asked ++ (next a).asked }

abbrev pub found_next : Found → (Tree → Found) → Found
found_next x next = found_by next x.tree x.asked

-- both joined; the second is asked only where the first is found
abbrev pub both : (Tree → Tree → Tree) → Found → Found → Found
both join first second = found_next first (λ a. found_in (join a) second)

-- both joined where both are found, or the one that is; both are asked
abbrev pub joined_known : (Tree → Tree → Tree) → Option Tree → Option Tree → Option Tree
joined_known join (Some a) (Some b) = Some (join a b)
joined_known join (Some a) None = Some a
joined_known join None b = b

abbrev pub either : (Tree → Tree → Tree) → Found → Found → Found
either join first second = record { tree = joined_known join first.tree second.tree; asked = first.asked ++ second.asked }

-- two expressions joined by `and`, by `or`, compared
abbrev pub and_of : Tree → Tree → Tree
and_of a b = binary a Operator.And b

abbrev pub or_of : Tree → Tree → Tree
or_of a b = binary a Operator.Or b

abbrev pub compared_by : CompareOperator → Tree → Tree → Tree
compared_by op a b = binary a (operator_of op) b

-- what the catalog answers for a statistic of a path
abbrev pub asked_for : Catalog → Stat → Option (List Bytes) → Found
asked_for catalog stat None = nothing
asked_for catalog stat (Some path) = record { tree = catalog path stat; asked = (path, stat) ∷ [] }

-- the least or the greatest value of an operand: of a constant itself, of a path what the catalog answers
abbrev pub bound_of : Catalog → Stat → Tree → Found
bound_of catalog stat (literal s) = unasked (literal s)
bound_of catalog stat e = asked_for catalog stat (path_of e)

-- a count of an operand: of a path what the catalog answers, of a constant none
abbrev pub count_of : Catalog → Stat → Tree → Found
count_of catalog stat e = asked_for catalog stat (path_of e)

-- an expression that is 0
abbrev pub is_zero_count : Tree → Tree
is_zero_count n = binary n Operator.Eq (literal (record { ty = int_ty U64 NonNullable; value = raw_int (pos 0) }))

-- two bounds compared, of which the second is asked only where the first is found
abbrev pub bounds_compared : Catalog → Stat → Tree → CompareOperator → Stat → Tree → Found
bounds_compared catalog stat l op other r = both (compared_by op) (bound_of catalog stat l) (bound_of catalog other r)

-- the four bounds of two operands, asked in this order: least and greatest of the left one, then of the right one
abbrev pub four_asked : Catalog → Tree → Tree → List Question
four_asked catalog l r =
    (bound_of catalog Min l).asked ++ ((bound_of catalog Max l).asked ++ ((bound_of catalog Min r).asked ++ (bound_of catalog Max r).asked))

-- the first two trees compared, where both are there
abbrev pub compared_where : CompareOperator → Option Tree → Option Tree → Option Tree
compared_where op (Some a) (Some b) = Some (compared_by op a b)
compared_where op _ _ = None

-- equality: the least of one side above the greatest of the other, by those bounds that are found
abbrev pub equality_falsified : Catalog → Tree → Tree → Found
equality_falsified catalog l r =
    record {
      tree =
          joined_known or_of
          (compared_where CompareOperator.Gt (bound_of catalog Min l).tree (bound_of catalog Max r).tree)
          (compared_where CompareOperator.Gt (bound_of catalog Min r).tree (bound_of catalog Max l).tree);
      asked = four_asked catalog l r;
    }

-- inequality: both sides are one and the same value; each bound is asked where those before it are found
abbrev pub one_value : Tree → Tree → Tree → Tree → Tree
one_value least_l greatest_l least_r greatest_r =
    and_of (compared_by CompareOperator.Eq least_l greatest_r) (compared_by CompareOperator.Eq greatest_l least_r)

abbrev pub inequality_falsified : Catalog → Tree → Tree → Found
inequality_falsified catalog l r =
    found_next (bound_of catalog Min l) (λ a. found_next (bound_of catalog Max l) (λ b. found_next (bound_of catalog Min r)
    (λ c. found_in (one_value a b c) (bound_of catalog Max r))))

-- the comparison of two operands by their bounds alone
abbrev pub bounds_falsified : Catalog → CompareOperator → Tree → Tree → Found
bounds_falsified catalog CompareOperator.Gt l r = bounds_compared catalog Max l CompareOperator.Lte Min r
bounds_falsified catalog CompareOperator.Gte l r = bounds_compared catalog Max l CompareOperator.Lt Min r
bounds_falsified catalog CompareOperator.Lt l r = bounds_compared catalog Min l CompareOperator.Gte Max r
bounds_falsified catalog CompareOperator.Lte l r = bounds_compared catalog Min l CompareOperator.Gt Max r
bounds_falsified catalog CompareOperator.Eq l r = equality_falsified catalog l r
bounds_falsified catalog CompareOperator.NotEq l r = inequality_falsified catalog l r

-- the counts of values that are not a number are 0, for the operands that have such a count
abbrev pub are_numbers : Catalog → Tree → Tree → Found
are_numbers catalog l r =
    either and_of (found_in is_zero_count (count_of catalog NaNCount l)) (found_in is_zero_count (count_of catalog NaNCount r))

-- a falsification behind the test that these counts are 0, where there are some
abbrev pub behind_guard : Option Tree → Tree → Tree
behind_guard None e = e
behind_guard (Some guard) e = and_of guard e

-- a comparison: where its bounds falsify, the counts of values that are not a number are asked too, and stand before
abbrev pub comparison_falsified : Catalog → Tree → Tree → CompareOperator → Found
comparison_falsified catalog l r op =
    found_next (bounds_falsified catalog op l r)
    (λ e. record { tree = Some (behind_guard (are_numbers catalog l r).tree e); asked = (are_numbers catalog l r).asked })

-- the comparison that an operator is, if it is one
abbrev pub where_comparison : Option CompareOperator → (CompareOperator → Found) → Found
where_comparison None falsify = nothing
where_comparison (Some op) falsify = falsify op

-- an element of a constant list lies above the greatest value or below the least one
abbrev pub outside : Tree → Tree → Tree → Tree
outside greatest least v = or_of (compared_by CompareOperator.Lt greatest v) (compared_by CompareOperator.Gt least v)

-- the same of each of the elements behind the first ones, joined by `and` to the left
abbrev pub all_outside_after : Tree → Tree → Ty → Tree → Raws → Tree
all_outside_after greatest least t e no_raws = e
all_outside_after greatest least t e (raw x xs) =
    all_outside_after greatest least t (and_of e (outside greatest least (literal (record { ty = t; value = x })))) xs

-- membership in a constant list: true without elements; else each element lies outside the greatest and the least value, asked in this order
abbrev pub elements_falsified : Catalog → Tree → Ty → Raws → Found
elements_falsified catalog e t no_raws = unasked (literal (record { ty = bool_ty NonNullable; value = raw_bool true }))
elements_falsified catalog e t (raw x xs) =
    found_next (bound_of catalog Max e) (λ greatest. found_next (bound_of catalog Min e)
    (λ least. unasked (all_outside_after greatest least t (outside greatest least (literal (record { ty = t; value = x }))) xs)))

abbrev pub list_falsified : Catalog → Tree → Ty → Raw → Found
list_falsified catalog e (list_ty t n) (raw_list xs) = elements_falsified catalog e t xs
list_falsified catalog e _ _ = nothing

abbrev pub contains_falsified : Catalog → Tree → Tree → Found
contains_falsified catalog (literal s) e = list_falsified catalog e s.ty s.value
contains_falsified catalog _ e = nothing

-- a comparison with a slot: the bound that it needs stands in the inverse comparison with the same slot, the default negated
abbrev pub dynamic_falsified : Catalog → Tree → CompareOperator → (CompareOperator → Tree → Tree) → Found
dynamic_falsified catalog e CompareOperator.Gt compare = found_in (compare CompareOperator.Lte) (bound_of catalog Max e)
dynamic_falsified catalog e CompareOperator.Gte compare = found_in (compare CompareOperator.Lt) (bound_of catalog Max e)
dynamic_falsified catalog e CompareOperator.Lt compare = found_in (compare CompareOperator.Gte) (bound_of catalog Min e)
dynamic_falsified catalog e CompareOperator.Lte compare = found_in (compare CompareOperator.Gt) (bound_of catalog Min e)
dynamic_falsified catalog e _ compare = nothing

unfoldable mutual
  -- the falsification of a filter over a catalog
  pub falsified : Catalog → Tree → Found
  falsified catalog (binary l Operator.And r) = either or_of (falsified catalog l) (falsified catalog r)
  falsified catalog (binary l Operator.Or r) = both and_of (falsified catalog l) (falsified catalog r)
  falsified catalog (binary l op r) = where_comparison (comparison_of op) (comparison_falsified catalog l r)
  falsified catalog (between e lower upper options) =
      either or_of
      (comparison_falsified catalog lower e (bound_operator options.lower_strict))
      (comparison_falsified catalog e upper (bound_operator options.upper_strict))
  falsified catalog (is_null_of e) = found_in is_zero_count (count_of catalog NullCount e)
  falsified catalog (list_contains l e) = contains_falsified catalog l e
  falsified catalog (dynamic e op k t default) = dynamic_falsified catalog e op (λ o. λ b. dynamic b o k t (not default))
  falsified catalog (not_of e) = negation_falsified catalog e
  falsified catalog _ = nothing

  -- the falsification of the negation of a filter
  pub negation_falsified : Catalog → Tree → Found
  negation_falsified catalog (binary l Operator.And r) = both and_of (negation_falsified catalog l) (negation_falsified catalog r)
  negation_falsified catalog (binary l Operator.Or r) = either or_of (negation_falsified catalog l) (negation_falsified catalog r)
  negation_falsified catalog (binary l op r) =
      where_comparison (comparison_of op) (λ o. comparison_falsified catalog l r (inverse_comparison o))
  negation_falsified catalog (between e lower upper options) =
      both and_of
      (comparison_falsified catalog lower e (inverse_comparison (bound_operator options.lower_strict)))
      (comparison_falsified catalog e upper (inverse_comparison (bound_operator options.upper_strict)))
  negation_falsified catalog (not_of e) = falsified catalog e
  negation_falsified catalog _ = nothing
