use Rattle.vx_laws_shell.proofs.RangeWords.{words_tell_ranges}
use Rattle.vx_laws_shell.proofs.laws.words_tell_ranges.Goals as goal

pub returns : goal.returns
returns c = words_tell_ranges
