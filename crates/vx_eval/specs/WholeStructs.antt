-- For the checker: no public clause cites this. Columns of structs that are never null.
use Rattle.std.specs.Prelude.{ℕ, Bool, true, List, Option, Some, None}
use Rattle.std.proofs.Math.ListN.{replicate}
use Rattle.vx_dtype.specs.declared.Nullability.{Nullability}
use Rattle.vx_dtype.specs.declared.Nullability.TheVariants.{NonNullable, Nullable}

-- truths that say that each of this many rows is valid, where the type is nullable
abbrev pub all_valid : Nullability → ℕ → Option (List Bool)
all_valid NonNullable n = None
all_valid Nullable n = Some (replicate n true)
