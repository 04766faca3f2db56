-- When the slots of comparisons with a slot fit.
use Rattle.std.specs.Prelude.{Bool, true, ◌&&◌, Option, Some, None}
use Rattle.vx_dtype.specs.Types.{Ty}
use Rattle.vx_dtype.specs.TypeRules.{is_nullable, nullability_of, alike}
use Rattle.vx_dtype.specs.Values.{Raw, raw_null, Typed}
use Rattle.vx_dtype.specs.Fits.{fits}
use Rattle.vx_expr.specs.Trees.{Tree, root, literal, get_item, binary, not_of, is_null_of, like, between, cast, list_contains, pack, merge, select, dynamic}
use Rattle.vx_expr.specs.Trees.{Trees, no_trees, tree}
use Rattle.vx_expr.specs.Slots.{slot_held}
use Rattle.vx_semantics.specs.Meaning.{Slots}

-- whether a raw value is null only where the type is nullable
abbrev pub null_allowed : Raw → Ty → Bool
null_allowed raw_null t = is_nullable (nullability_of t)
null_allowed _ t = true

-- whether a slot that holds a constant holds one of an equal type that fits, null only where the slot's type is nullable
abbrev pub held_fits : Option Typed → Ty → Bool
held_fits None t = true
held_fits (Some s) t = alike s.ty t && (fits s.value s.ty && null_allowed s.value t)

unfoldable mutual
  -- whether the slot of each comparison with a slot in an expression fits
  pub slots_fit : Slots → Tree → Bool
  slots_fit slots root = true
  slots_fit slots (literal s) = true
  slots_fit slots (get_item f e) = slots_fit slots e
  slots_fit slots (binary l op r) = slots_fit slots l && slots_fit slots r
  slots_fit slots (not_of e) = slots_fit slots e
  slots_fit slots (is_null_of e) = slots_fit slots e
  slots_fit slots (like e p negated fold_case) = slots_fit slots e && slots_fit slots p
  slots_fit slots (between e lower upper options) = slots_fit slots e && (slots_fit slots lower && slots_fit slots upper)
  slots_fit slots (cast e t) = slots_fit slots e
  slots_fit slots (list_contains l v) = slots_fit slots l && slots_fit slots v
  slots_fit slots (pack names es n) = all_slots_fit slots es
  slots_fit slots (merge es n) = all_slots_fit slots es
  slots_fit slots (select s e) = slots_fit slots e
  slots_fit slots (dynamic e op k t default) = held_fits (slot_held slots k) t && slots_fit slots e

  -- the same of a list of expressions
  pub all_slots_fit : Slots → Trees → Bool
  all_slots_fit slots no_trees = true
  all_slots_fit slots (tree e es) = slots_fit slots e && all_slots_fit slots es
