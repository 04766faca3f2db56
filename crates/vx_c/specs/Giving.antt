-- How what a call tells reaches a caller that has no vectors: into a buffer that it brings.
use Rattle.std.specs.Prelude.{◌≡◌, ◌⊎◌, ℕ, Bool, ◌++◌, length, drop, nat_le, if◌then◌else◌, Result}
use Rattle.vx_dtype.specs.Types.{Bytes}
use Rattle.vx_calls.specs.Answers.{Told, Tells, without_memory}
use Rattle.vx_calls.specs.declared.errors.CallError.{CallError}
use Rattle.vx_run_calls.specs.MemoryRuns.{IsMemoryRun}

-- whether bytes have room in a buffer
abbrev pub has_room : Bytes → Bytes → Bool
has_room bytes out = nat_le (length bytes) (length out)

-- what a buffer is once bytes were given into it: where they have room they stand at its front, and behind them it is as it was; else it is as it was
abbrev pub given_into : Bytes → Bytes → Bytes
given_into out bytes = if has_room bytes out then bytes ++ drop (length bytes) out else out

-- the status that is given with bytes: their own, or 9 where they have no room
abbrev pub status_with : ℕ → Bytes → Bytes → ℕ
status_with status bytes out = if has_room bytes out then status else 9

-- a status and bytes are given: the number of the bytes, the buffer with them, and the status
pub record Gives (told : Told) (out after : Bytes) (written result : ℕ) : Type 0 where
  pub counted : written ≡ length told.bytes
  pub placed : after ≡ given_into out told.bytes
  pub status : result ≡ status_with told.status told.bytes out

-- something is given that is told so
pub record GivesTold (IsTold : Told → Type 0) (out after : Bytes) (written result : ℕ) : Type 0 where
  pub told : Told
  pub is_told : IsTold told
  pub given : Gives told out after written result

-- this is told of an answer of which that holds
pub record TellsAnswer (IsAnswer : Result Bytes CallError → Type 0) (told : Told) : Type 0 where
  pub answer : Result Bytes CallError
  pub answered : IsAnswer answer
  pub tells : Tells answer told

-- what is told of an answer of which this holds is given
abbrev pub GivesAnswer : (Result Bytes CallError → Type 0) → Bytes → Bytes → ℕ → ℕ → Type 0
GivesAnswer IsAnswer = GivesTold (TellsAnswer IsAnswer)

-- this is told of a run of the program with these words over an input; that there was no memory may be told in its place
abbrev pub TellsRun : Bytes → Bytes → Told → Type 0
TellsRun words input told = IsMemoryRun words input told ⊎ (told ≡ without_memory)
