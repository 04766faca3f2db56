-- For the checker: no public clause cites this.
-- What stands between the names of a joined path.
use Rattle.std.specs.Prelude.{ℕ, zero, suc, [], codes}
use Rattle.vx_dtype.specs.Types.{Bytes}

-- nothing before the first name, `_` before the others
abbrev pub separator_at : ℕ → Bytes
separator_at zero = []
separator_at (suc i) = codes "_"
