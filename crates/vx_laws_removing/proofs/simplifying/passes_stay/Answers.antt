use Rattle.vx_laws_removing.proofs.Nodes.{without_select-twice, without_merge-twice}
use Rattle.vx_laws_removing.proofs.Settled.{ranged-stays, simplified-twice}
use Rattle.vx_laws_removing.proofs.simplifying.passes_stay.Goals as goal

pub returns-clause-simplified : goal.returns-clause-simplified
returns-clause-simplified c = simplified-twice

pub returns-clause-ranges : goal.returns-clause-ranges
returns-clause-ranges c = ranged-stays

pub returns-clause-selects : goal.returns-clause-selects
returns-clause-selects c = without_select-twice

pub returns-clause-merges : goal.returns-clause-merges
returns-clause-merges c = without_merge-twice
