use Rattle.vx_laws_parts.proofs.Taken.{taken_typed, taken_means}
use Rattle.vx_laws_parts.specs.contracts.taking.taken_parts_put_back.{A-type}
use Rattle.vx_laws_parts.proofs.taking.taken_parts_put_back.Goals as goal

pub returns-clause-ty : goal.returns-clause-ty
returns-clause-ty g c = taken_typed (A-type g.row.A)

pub returns-clause-meaning : goal.returns-clause-meaning
returns-clause-meaning g c = taken_means (A-type g.row.A)
