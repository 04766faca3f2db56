-- The premises of the laws of scans, met by examples.
use Rattle.std.proofs.Common.{◌≡◌, ℕ, refl, [], ◌∷◌}
use Rattle.std.specs.Prelude.{pos}
use Rattle.std.proofs.lemmas.List.Elements.{All-from_recursion}
use Rattle.vx_dtype.specs.declared.PType.TheVariants.{I8, I32}
use Rattle.vx_dtype.specs.declared.Nullability.TheVariants.{NonNullable}
use Rattle.vx_dtype.specs.declared.StrictComparison.TheVariants.{Strict, NonStrict}
use Rattle.vx_dtype.specs.Types.{Bytes, bool_ty, int_ty}
use Rattle.vx_dtype.specs.Values.{raw_int}
use Rattle.vx_dtype.specs.Structs.{field_of}
use Rattle.vx_expr.specs.declared.Operator.TheVariants.{Gt, And}
use Rattle.vx_expr.specs.Trees.{not_of, between, list_contains}
use Rattle.vx_semantics.specs.Asked.{asked_columns}
use Rattle.vx_semantics.specs.Tables.{row_type}
use Rattle.vx_laws_scan.specs.Agreeing.{AgreeOn, TablesAgree}
use Rattle.vx_laws_scan.specs.Exactness.{IsBounded, PathsAreBounded}
use Rattle.vx_worked_examples.specs.Samples.{col, number, ◌⟨◌⟩◌, ends, five_to_nine, number_list}
use Rattle.vx_worked_examples.specs.Agreeing.{two_columns, row_of, blocks, other_blocks, statistics, above_five}
use Rattle.vx_worked_examples.proofs.Computing.{all_definitions}

x_is_bounded : IsBounded five_to_nine 0 (col "x")
unfolding all_definitions
x_is_bounded = record {
  ty = int_ty I32 NonNullable;
  of_its_type = refl;
  low = raw_int (pos 5);
  high = raw_int (pos 9);
  low_fits = refl;
  high_fits = refl;
  least = refl;
  greatest = refl;
  in_order = refl;
}

pub paths_are_bounded : PathsAreBounded five_to_nine 0
    ((col "x" ⟨ Gt ⟩ number I32 (pos 7)) ⟨ And ⟩ list_contains (number_list I32 (pos 1 ∷ pos 8 ∷ [])) (col "x"))
unfolding all_definitions
paths_are_bounded = ((x_is_bounded, tt), x_is_bounded)

pub range_is_bounded : PathsAreBounded five_to_nine 0 (not_of (between (col "x") (number I32 (pos 1)) (number I32 (pos 8)) (ends Strict NonStrict)))
unfolding all_definitions
range_is_bounded = (x_is_bounded, tt, tt)

-- two rows of the same first number agree on it
agree_on_x : (x y z : ℕ) → AgreeOn (asked_columns (row_type two_columns) (col "x")) (row_of x y) (row_of x z)
unfolding all_definitions
agree_on_x x y z =
    All-from_recursion (λ (f : Bytes). field_of f (row_of x y) ≡ field_of f (row_of x z))
    (asked_columns (row_type two_columns) (col "x")) (refl, tt)

pub tables_agree : TablesAgree statistics two_columns [] above_five (col "x") blocks other_blocks
unfolding all_definitions
tables_agree = record {
  filter_type = bool_ty NonNullable;
  projection_type = int_ty I8 NonNullable;
  filter_typed = refl;
  projection_typed = refl;
  first_fits = refl;
  second_fits = refl;
  filter_agrees = (λ e. absurd cc, (λ e. (agree_on_x 6 3 8, (agree_on_x 7 4 7, tt)), tt));
  projection_agrees = (λ e. absurd cc, (λ e. (agree_on_x 6 3 8, (agree_on_x 7 4 7, tt)), tt));
}
