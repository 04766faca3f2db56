-- Which blocks words ask.
use Rattle.std.specs.Prelude.{◌≤◌, MatchOption}
use Rattle.vx_laws_shell.specs.Words.{Asked}

-- blocks that are named don't end before they begin
abbrev pub AsksInOrder : Asked → Type 0
AsksInOrder asked = MatchOption asked.blocks (Unit {0}) (λ range. range.from ≤ range.up_to)
