-- How operands, and why they have no place in a form, are seen.
use Rattle.vx_dtype.specs.TypeViews.{type_view}
use Rattle.vx_laws_sql.specs.Operands as sql
use Rattle.vx_sql_forms.specs.declared.errors.Mismatch.{Mismatch}
use Rattle.vx_sql_forms.specs.declared.errors.Mismatch.TheVariants.{OutOfRange, OtherKinds, NotPlain, NoCommonType, NoBoolean, NoText, NoNumber}
use Rattle.vx_sql_forms.specs.declared.errors.Mismatch.TheVariants.{NoCast, NoConstants}
use Rattle.vx_sql_forms.specs.declared.operands.Operand.{Operand}
use Rattle.vx_sql_forms.specs.declared.operands.Operand.TheVariants.{Known, Number, UntypedNull}
use Rattle.vx_sql_forms.specs.declared.operands.TypedExpr.{TypedExpr}

-- the expression with its type
abbrev pub typed_view : TypedExpr → sql.TypedTree
typed_view e = record { ty = type_view e.dtype; tree = e.expr }

-- two expressions with their types
abbrev pub pair_view : TypedExpr × TypedExpr → sql.TypedTree × sql.TypedTree
pair_view x = (typed_view x.0, typed_view x.1)

-- the operand that a value of the code stands for
abbrev pub operand_view : Operand → sql.Operand
operand_view (Known e) = sql.known (typed_view e)
operand_view (Number i) = sql.number i
operand_view UntypedNull = sql.untyped_null

-- the refusal that a value of the code stands for
abbrev pub mismatch_view : Mismatch → sql.Mismatch
mismatch_view (OutOfRange i p) = sql.out_of_range i p
mismatch_view (OtherKinds l r) = sql.other_kinds (operand_view l) (operand_view r)
mismatch_view (NotPlain o) = sql.not_plain (operand_view o)
mismatch_view (NoCommonType p q) = sql.no_common_type p q
mismatch_view (NoBoolean o) = sql.no_boolean (operand_view o)
mismatch_view (NoText o) = sql.no_text (operand_view o)
mismatch_view (NoNumber o) = sql.no_number (operand_view o)
mismatch_view (NoCast o t) = sql.no_cast (operand_view o) (type_view t)
mismatch_view NoConstants = sql.no_constants
