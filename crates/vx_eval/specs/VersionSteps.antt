-- For the checker: no public clause cites this. How a version rises.
use Rattle.std.specs.Prelude.{◌≡◌, ℕ, ◌+◌, ◌-◌, ◌^◌, Bool, false, cond, Result, Ok, Err}
use Rattle.vx_eval.specs.declared.versions.VersionError.{VersionError}
use Rattle.vx_eval.specs.declared.versions.VersionError.TheVariants.{NoMemory, VersionsSpent}

-- the version that follows, or the same one; none where there is no greater
abbrev pub RisenTo : ℕ → Bool → Result ℕ VersionError → Type 0
RisenTo n same (Ok m) = m ≡ n + cond same 0 1
RisenTo n same (Err VersionsSpent) = (same ≡ false) × (n ≡ 2 ^ 64 - 1)
RisenTo n same (Err NoMemory) = ⊥
