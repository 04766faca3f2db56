-- Why bytes are no filter, and what a filter is evaluated with.
use Rattle.std.proofs.Common.{◌≡◌, ◌∙◌, ap, true, Ok, [], Bool}
use Rattle.vx_dtype.specs.Types.{Ty, bool_ty}
use Rattle.vx_expr.specs.Trees.{Tree}
use Rattle.vx_semantics.specs.Slots.{slots_fit}
use Rattle.vx_semantics.specs.Typing.{and_then, type_mismatch, unless}
use Rattle.vx_laws_pruning.specs.PruningTypes.{IsBooleanOver}
use Rattle.vx_laws_simplifying.proofs.Passes.{no_slots-fit}
use Rattle.vx_calls.specs.Steps.{IsChecked}

-- a boolean is evaluated without slots
pub boolean_checked : (t : Ty) (tree : Tree) → IsBooleanOver t tree → IsChecked t tree
boolean_checked t tree h =
    let slots : slots_fit [] tree ≡ true = no_slots-fit tree in
    record {
      null = h.null;
      checked = ap (λ r. and_then r (λ (u : Ty). unless (slots_fit [] tree) type_mismatch (Ok u))) h.typed
          ∙ ap (λ (b : Bool). unless b type_mismatch (Ok (bool_ty h.null))) slots;
    }
