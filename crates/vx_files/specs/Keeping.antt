-- What is answered where bytes are to be kept under a path.
use Rattle.std.specs.Prelude.{◌≡◌, ℕ, ◌≤◌, Bool, false, cond, Result, Ok, Err}
use Rattle.std.specs.Str.{bytes_eq}
use Rattle.vx_dtype.specs.Types.{Bytes}
use Rattle.vx_io.specs.Counts.{one_more}
use Rattle.vx_files.specs.Kept.{Kept, unknown, holds, MayStand, MayBeFree}
use Rattle.vx_files.specs.declared.errors.KeepError.{KeepError}
use Rattle.vx_files.specs.declared.errors.KeepError.TheVariants.{NoMemory, Exists, NotKept}

-- what a path leads to once bytes are kept under it: to them, where it is told what paths lead to
abbrev pub kept_over : Bytes → Kept → Kept
kept_over bytes unknown = unknown
kept_over bytes _ = holds bytes

-- what a path leads to once bytes are kept under one
abbrev pub kept_with : Bytes → Bytes → (Bytes → Kept) → Bytes → Kept
kept_with path bytes kept other = cond (bytes_eq path other) (kept_over bytes (kept other)) (kept other)

-- the bytes are kept, and nothing else changed; or nothing did
abbrev pub Keeps : Bytes → Bytes → (Bytes → Kept) → (Bytes → Kept) → Type 0
Keeps path bytes before after = (other : Bytes) → after other ≡ kept_with path bytes before other

abbrev pub KeepsNothing : (Bytes → Kept) → (Bytes → Kept) → Type 0
KeepsNothing before after = (other : Bytes) → after other ≡ before other

-- the bytes are kept under the path, where nothing stood there or it was to be replaced
pub record IsKept (path bytes : Bytes) (replaces : Bool) (before after : Bytes → Kept) : Type 0 where
  pub keeps : Keeps path bytes before after
  pub free : replaces ≡ false → MayBeFree (before path)

-- the answer, with the faults before and after
abbrev pub AnswersKeep : Bytes → Bytes → Bool → (Bytes → Kept) → (Bytes → Kept) → ℕ → ℕ → Result (Unit {0}) KeepError → Type 0
AnswersKeep path bytes replaces before after faults now (Ok done) = IsKept path bytes replaces before after × (now ≡ faults)
AnswersKeep path bytes replaces before after faults now (Err NoMemory) = KeepsNothing before after × (now ≡ faults)
AnswersKeep path bytes replaces before after faults now (Err Exists) = (replaces ≡ false) × MayStand (before path) × KeepsNothing before after × (now ≡ faults)
AnswersKeep path bytes replaces before after faults now (Err NotKept) = KeepsNothing before after × (one_more faults ≤ now)
