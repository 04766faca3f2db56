use Rattle.vx_passes.specs.Selecting.{without_select}
use Rattle.vx_laws_simplifying.proofs.Passes.{keeps_type, keeps_columns, keeps_asked_columns, keeps_slots, keeps_meaning, keeps_breaks}
use Rattle.vx_laws_removing.proofs.Removed.{without_select-kept}
use Rattle.vx_laws_removing.proofs.removing.without_select_keeps.Goals as goal

pub returns-clause-ty : goal.returns-clause-ty
returns-clause-ty c = keeps_type without_select without_select-kept

pub returns-clause-columns : goal.returns-clause-columns
returns-clause-columns c = keeps_columns without_select without_select-kept

pub returns-clause-asked_columns : goal.returns-clause-asked_columns
returns-clause-asked_columns c = keeps_asked_columns without_select without_select-kept

pub returns-clause-slots : goal.returns-clause-slots
returns-clause-slots c = keeps_slots without_select without_select-kept

pub returns-clause-meaning : goal.returns-clause-meaning
returns-clause-meaning c = keeps_meaning without_select without_select-kept

pub returns-clause-breaks : goal.returns-clause-breaks
returns-clause-breaks c = keeps_breaks without_select without_select-kept
