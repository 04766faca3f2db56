-- When texts are refused because one buffer doesn't take them.
use Rattle.std.specs.Prelude.{◌^◌, ◌≤◌, Option, List, Result, Ok, Err}
use Rattle.vx_dtype.specs.Types.{Bytes}
use Rattle.vx_texts.specs.Texts.{FitOneBuffer, byte_total}
use Rattle.vx_texts.specs.declared.errors.TextsError.{TextsError}
use Rattle.vx_texts.specs.declared.errors.TextsError.TheVariants.{NoMemory, TooLong}

-- texts are taken only where they fit one buffer, and refused as too long only where they don't
abbrev pub TakesFitting : {X : Type 0} → List (Option Bytes) → Result X TextsError → Type 0
TakesFitting ts (Ok x) = FitOneBuffer ts
TakesFitting ts (Err TooLong) = 2 ^ 32 ≤ byte_total ts
TakesFitting ts (Err NoMemory) = Unit {0}
