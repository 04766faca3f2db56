use Rattle.vx_scan.proofs.TextLemmas.{texts_so}
use Rattle.vx_scan.proofs.laws.texts_scan_as_they_spell.Goals as goal

pub returns : goal.returns
returns c = texts_so
