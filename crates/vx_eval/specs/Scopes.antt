-- What an expression is evaluated over.
use Rattle.std.specs.Prelude.{ℕ, [], option_map, unwrap_or}
use Rattle.std.proofs.Math.ListN.{replicate}
use Rattle.vx_dtype.specs.declared.Nullability.TheVariants.{NonNullable}
use Rattle.vx_dtype.specs.Types.{struct_ty, no_fields}
use Rattle.vx_dtype.specs.Values.{struct_val, no_members}
use Rattle.vx_column.specs.Columns.{Column, column}
use Rattle.vx_semantics.specs.Meaning.{Slots}
use Rattle.vx_eval.specs.declared.scopes.Scope.{Scope}

-- the rows that an expression is evaluated at, as a column
abbrev pub scope_rows : Scope → Column
scope_rows s = s.root

-- the slots of comparisons with slots
abbrev pub scope_slots : Scope → Slots
scope_slots s = unwrap_or (option_map (λ slots. slots.items) s.slots) []

-- this many rows without fields
abbrev pub empty_rows : ℕ → Column
empty_rows len = column (struct_ty no_fields NonNullable) (replicate len (struct_val no_members))
