use Rattle.vx_passes.specs.TypedSimplifying.{simplified_typed}
use Rattle.vx_laws_simplifying.proofs.Passes.{keeps_type, keeps_columns, keeps_asked_columns, keeps_slots, keeps_meaning, keeps_breaks}
use Rattle.vx_laws_removing.proofs.Composed.{simplified_typed-kept}
use Rattle.vx_laws_removing.proofs.simplifying.simplified_typed_keeps.Goals as goal

pub returns-clause-ty : goal.returns-clause-ty
returns-clause-ty c = keeps_type simplified_typed simplified_typed-kept

pub returns-clause-columns : goal.returns-clause-columns
returns-clause-columns c = keeps_columns simplified_typed simplified_typed-kept

pub returns-clause-asked_columns : goal.returns-clause-asked_columns
returns-clause-asked_columns c = keeps_asked_columns simplified_typed simplified_typed-kept

pub returns-clause-slots : goal.returns-clause-slots
returns-clause-slots c = keeps_slots simplified_typed simplified_typed-kept

pub returns-clause-meaning : goal.returns-clause-meaning
returns-clause-meaning c = keeps_meaning simplified_typed simplified_typed-kept

pub returns-clause-breaks : goal.returns-clause-breaks
returns-clause-breaks c = keeps_breaks simplified_typed simplified_typed-kept
