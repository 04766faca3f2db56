-- Replacing nodes keeps the type and the meaning of the whole.
use Rattle.std.specs.Prelude.{◌≡◌, true}
use Rattle.vx_dtype.specs.Types.{Fields}
use Rattle.vx_dtype.specs.TypeRules.{field_names, distinct_names}
use Rattle.vx_dtype.specs.Values.{Val}
use Rattle.vx_dtype.specs.Fits.{fits_but_for_faults}
use Rattle.vx_expr.specs.Trees.{Tree}
use Rattle.vx_semantics.specs.Typing.{typed_of}
use Rattle.vx_semantics.specs.Meaning.{Slots, mean}
use Rattle.vx_semantics.specs.Tables.{row_type}
use Rattle.vx_passes.specs.Replacing.{root_replaced}

-- over the type of rows with these fields, an expression has with packs of the fields for the row the strict type that it has, or the same refusal
abbrev pub PackedRowsKeepType : Type 0
PackedRowsKeepType = (fs : Fields) (e : Tree) → typed_of (row_type fs) (root_replaced fs e) ≡ typed_of (row_type fs) e

-- where their names are distinct, it means what it means, at each row that fits but for faults
abbrev pub PackedRowsKeepMeaning : Type 0
PackedRowsKeepMeaning =
    (fs : Fields) (slots : Slots) (row : Val) (e : Tree)
    → distinct_names (field_names fs) ≡ true → fits_but_for_faults row (row_type fs) ≡ true
    → mean (row_type fs) slots row (root_replaced fs e) ≡ mean (row_type fs) slots row e
