-- What the parts of a run say of it.
use Rattle.std.specs.Prelude.{◌≡◌, ◌⊎◌, ℕ, Result, Err}
use Rattle.vx_laws_statements.specs.Refusals.{StatementRefusal}
use Rattle.vx_laws_shell.specs.Running.{without_memory}
use Rattle.vx_shell.specs.Refusals.{RefusalKind, settled, cut}

-- a statement that the rules refuse is refused, or there is no memory
abbrev pub IsStatementRefusal : {A : Type 0} → Result A StatementRefusal → RefusalKind → Type 0
IsStatementRefusal given (settled status) = (status ≡ 4) × ((r : StatementRefusal) × (given ≡ Err r))
IsStatementRefusal given (cut why) = why ≡ without_memory

-- the exit status of rows that were written whole: there may be no memory for the line of what was counted
abbrev pub IsFinished : ℕ → Type 0
IsFinished status = (status ≡ 0) ⊎ (status ≡ 8)
