use Rattle.vx_wire.proofs.KindLemmas.{encoding_id-encoding_of}
use Rattle.vx_wire.proofs.laws.encodings_have_ids.Goals as goal

pub returns : goal.returns
returns c = encoding_id-encoding_of
