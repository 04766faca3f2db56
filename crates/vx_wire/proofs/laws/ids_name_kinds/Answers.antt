use Rattle.vx_wire.proofs.KindLemmas.{named_again, named_is}
use Rattle.vx_wire.proofs.laws.ids_name_kinds.Goals as goal

pub returns-clause-kind : goal.returns-clause-kind
returns-clause-kind c = named_again

pub returns-clause-name : goal.returns-clause-name
returns-clause-name c = named_is
