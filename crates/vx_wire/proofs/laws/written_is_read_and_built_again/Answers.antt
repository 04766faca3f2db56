use Rattle.vx_wire.proofs.LawLemmas.{read_again, form_built}
use Rattle.vx_wire.proofs.laws.written_is_read_and_built_again.Goals as goal

pub returns-clause-read : goal.returns-clause-read
returns-clause-read c = read_again

pub returns-clause-built : goal.returns-clause-built
returns-clause-built c = form_built
