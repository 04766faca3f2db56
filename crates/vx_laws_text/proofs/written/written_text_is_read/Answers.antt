use Rattle.vx_laws_text.proofs.ReadAgain.{written_text_is_read}
use Rattle.vx_laws_text.proofs.written.written_text_is_read.Goals as goal

pub returns : goal.returns
returns c = written_text_is_read
