-- What a call tells a caller that has no enum: a status, and bytes.
use Rattle.std.specs.Prelude.{◌≡◌, ◌⊎◌, ℕ, [], Result, Ok, Err}
use Rattle.std.specs.declared.alloc.Global.{Global}
use Rattle.std.specs.declared.vec.Vec.{Vec}
use Rattle.vx_dtype.specs.Types.{Bytes}
use Rattle.vx_calls.specs.Refusals.{call_line, call_status}
use Rattle.vx_calls.specs.declared.answers.Answer.{Answer}
use Rattle.vx_calls.specs.declared.errors.CallError.{CallError}
use Rattle.vx_calls.specs.declared.errors.CallError.TheVariants.{NoMemory}

-- the bytes of an answer, or its refusal
abbrev pub told_bytes : {E : Type 0} → Result (Vec ℕ Global) E → Result Bytes E
told_bytes (Ok bytes) = Ok bytes.items
told_bytes (Err error) = Err error

-- a status and bytes
pub record Told : Type 0 where
  pub status : ℕ
  pub bytes : Bytes

abbrev pub answer_told : Answer → Told
answer_told answer = record { status = answer.status; bytes = answer.bytes.items }

-- there was no memory: no bytes
abbrev pub without_memory : Told
without_memory = record { status = 8; bytes = [] }

-- what is told of an answer: 0 and its bytes, or the status of its refusal and the bytes of the refusal's line
abbrev pub told_of : Result Bytes CallError → Told
told_of (Ok bytes) = record { status = 0; bytes = bytes }
told_of (Err NoMemory) = without_memory
told_of (Err error) = record { status = call_status error; bytes = call_line error }

-- this is told of an answer; that there was no memory may be told in the place of a refusal, for whose line there was none
abbrev pub Tells : Result Bytes CallError → Told → Type 0
Tells (Ok bytes) given = given ≡ told_of (Ok bytes)
Tells (Err error) given = (given ≡ told_of (Err error)) ⊎ (given ≡ without_memory)
