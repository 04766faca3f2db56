-- What the steps over a plan answer.
use Rattle.std.specs.Prelude.{◌≡◌, ℕ, ◌≤◌, Result, Ok, Err}
use Rattle.std.specs.String.{string_bytes}
use Rattle.vx_dtype.specs.Types.{Bytes}
use Rattle.vx_io.specs.Counts.{one_more}
use Rattle.vx_io.specs.Ends.{Added, AddedPrefix}
use Rattle.vx_laws_shell.specs.Running.{End}
use Rattle.vx_laws_shell.specs.Wants.{too_many}
use Rattle.vx_laws_explaining.specs.Explaining.{error_line, unwanted_line}
use Rattle.vx_sql_lines.specs.declared.told.ToldError.{ToldError}
use Rattle.vx_sql_lines.specs.declared.told.ToldError.TheVariants as tells
use Rattle.vx_explaining.specs.declared.errors.Refusal.{Refusal}
use Rattle.vx_explaining.specs.declared.errors.Refusal.TheVariants as refusals

-- the line of too many rows is told, or there was no memory for it
abbrev pub TellsCount : ℕ → Refusal → Type 0
TellsCount count refusals.NoMemory = Unit {0}
TellsCount count (refusals.Statement line) = string_bytes line ≡ unwanted_line (too_many count)
TellsCount count _ = ⊥

-- and that of a statement that isn't taken
abbrev pub IsLineOf : ToldError → Refusal → Type 0
IsLineOf error refusals.NoMemory = Unit {0}
IsLineOf tells.NoMemory (refusals.Statement line) = ⊥
IsLineOf (tells.Refused told) (refusals.Statement line) = string_bytes line ≡ error_line (string_bytes told)
IsLineOf error _ = ⊥

-- an explanation is written whole, or its first bytes are
abbrev pub ExplainsPlan : Bytes → End → End → Result (Unit {0}) Refusal → Type 0
ExplainsPlan text before after (Ok done) = Added before.bytes after.bytes text
ExplainsPlan text before after (Err refusals.NoMemory) = AddedPrefix before.bytes after.bytes text
ExplainsPlan text before after (Err refusals.Unwritten) = AddedPrefix before.bytes after.bytes text × (one_more before.faults ≤ after.faults)
ExplainsPlan text before after (Err _) = ⊥
