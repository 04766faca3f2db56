-- The slots of comparisons whose constant is known only when they are evaluated.
use Rattle.std.specs.Prelude.{ℕ, List, Option}
use Rattle.std.specs.Option.{option_and_then}
use Rattle.std.specs.List.{slice_get}
use Rattle.vx_dtype.specs.Values.{Typed}

-- the value that a slot holds; none where it holds none, and past the end of the list
abbrev pub slot_held : List (Option Typed) → ℕ → Option Typed
slot_held slots k = option_and_then (λ held. held) (slice_get slots k)
