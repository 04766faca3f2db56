-- The expressions of a plan are typed, and compare with no slot.
use Rattle.std.proofs.Common.{◌≡◌, refl, true, Option, Some, None, [], Ok}
use Rattle.vx_dtype.specs.declared.Nullability.TheVariants.{NonNullable}
use Rattle.vx_dtype.specs.Fits.{fits}
use Rattle.vx_dtype.specs.TypeRules.{no_name_twice}
use Rattle.vx_dtype.specs.Types.{Ty, bool_ty}
use Rattle.vx_laws_shell.specs.Wants.{condition_tree}
use Rattle.vx_laws_shell.proofs.SlotlessPlans.{plans_have_no_slot}
use Rattle.vx_laws_sql.specs.Operands.{TypedTree, boolean}
use Rattle.vx_laws_statements.specs.Typing.{FilterIsTest}
use Rattle.vx_laws_statements.proofs.TypedStatements.{plans-typed}
use Rattle.vx_laws_topk.proofs.SlotlessRules.{slotless_fits}
use Rattle.vx_scan.proofs.PrepareLemmas.{names_once}
use Rattle.vx_semantics.specs.Tables.{row_type}
use Rattle.vx_semantics.specs.Typing.{typed_of}
use Rattle.vx_laws_explaining.specs.ExplainingLaws.{PlansAreTyped}

boolean_typed : (t : Ty) → typed_of t (boolean true).tree ≡ Ok (bool_ty NonNullable)
unfolding typed_of no_name_twice fits
boolean_typed t = refl

condition_typed : (t : Ty) (filter : Option TypedTree) → FilterIsTest t filter → (u : Ty) × (typed_of t (condition_tree filter) ≡ Ok u)
condition_typed t None h = (bool_ty NonNullable, boolean_typed t)
condition_typed t (Some x) h = (x.ty, h.0)

pub plans_are_typed : PlansAreTyped
plans_are_typed zones text plan rules h =
    let t = row_type zones.columns in
    let typed = plans-typed t text plan (names_once zones rules) h in
    let slots = plans_have_no_slot t text plan h in (
      condition_typed t plan.filter typed.0,
      slotless_fits [] (condition_tree plan.filter) slots.0,
      typed.1,
      slotless_fits [] plan.rows.tree slots.1,
    )
