-- Where no asked node breaks, what an expression means holds no fault.
use Rattle.std.specs.Prelude.{◌≡◌, true, false, [], ◌∷◌, Ok}
use Rattle.std.specs.List.{All}
use Rattle.vx_dtype.specs.Types.{Ty}
use Rattle.vx_dtype.specs.Values.{Val}
use Rattle.vx_dtype.specs.Fits.{val_fits, holds_fault}
use Rattle.vx_expr.specs.Trees.{Tree}
use Rattle.vx_semantics.specs.Typing.{typed_of}
use Rattle.vx_semantics.specs.Meaning.{Slots, mean}
use Rattle.vx_semantics.specs.Breaks.{Cause}
use Rattle.vx_semantics.specs.Nodes.{nodes_of, some_node_breaks}
use Rattle.vx_semantics.specs.Asked.{some_asked_breaks}
use Rattle.vx_semantics.specs.Slots.{slots_fit}

-- at a row of the scope's type at which no asked node breaks, with slots that fit, a strictly typed expression means a value without a fault at any depth
abbrev pub NoBreakNoFault : Type 0
NoBreakNoFault =
    (t : Ty) (slots : Slots) (row : Val) (e : Tree) (u : Ty)
    → val_fits row t ≡ true → slots_fit slots e ≡ true → typed_of t e ≡ Ok u → some_asked_breaks t slots row e ≡ false
    → holds_fault (mean t slots row e) ≡ false

-- where no node breaks there, asked or not, by either cause, each node means a value without a fault at any depth
abbrev pub NoNodeBreaksNoFault : Type 0
NoNodeBreaksNoFault =
    (t : Ty) (slots : Slots) (row : Val) (e : Tree) (u : Ty)
    → val_fits row t ≡ true → slots_fit slots e ≡ true → typed_of t e ≡ Ok u
    → ((c : Cause) → some_node_breaks c t slots (row ∷ []) e ≡ false)
    → All (λ n. holds_fault (mean t slots row n) ≡ false) (nodes_of e)
