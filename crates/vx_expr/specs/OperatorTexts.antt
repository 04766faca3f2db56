-- How operators are printed.
use Rattle.std.specs.Prelude.{[], codes}
use Rattle.std.specs.Option.{option_map_or}
use Rattle.vx_dtype.specs.Types.{Bytes}
use Rattle.vx_dtype.specs.Texts as texts
use Rattle.vx_expr.specs.declared.operators.Operator.{Operator}
use Rattle.vx_expr.specs.Operators.{comparison_of}

-- the sign of a comparison, or the word or sign of another operator
abbrev pub operator_text : Operator → Bytes
operator_text Operator.And = codes "and"
operator_text Operator.Or = codes "or"
operator_text Operator.Add = codes "+"
operator_text Operator.Sub = codes "-"
operator_text op = option_map_or texts.operator_text (comparison_of op) []
