use Rattle.vx_passes.specs.Simplifying.{without_packed_fields}
use Rattle.vx_laws_simplifying.proofs.Passes.{keeps_type, keeps_columns, keeps_asked_columns, keeps_slots, keeps_meaning, keeps_breaks}
use Rattle.vx_laws_simplifying.proofs.PackedFields.{without_packed_fields-kept}
use Rattle.vx_laws_simplifying.proofs.simplifying.without_packed_fields_keeps.Goals as goal

pub returns-clause-ty : goal.returns-clause-ty
returns-clause-ty c = keeps_type (λ t e. without_packed_fields e) without_packed_fields-kept

pub returns-clause-columns : goal.returns-clause-columns
returns-clause-columns c = keeps_columns (λ t e. without_packed_fields e) without_packed_fields-kept

pub returns-clause-asked_columns : goal.returns-clause-asked_columns
returns-clause-asked_columns c = keeps_asked_columns (λ t e. without_packed_fields e) without_packed_fields-kept

pub returns-clause-slots : goal.returns-clause-slots
returns-clause-slots c = keeps_slots (λ t e. without_packed_fields e) without_packed_fields-kept

pub returns-clause-meaning : goal.returns-clause-meaning
returns-clause-meaning c = keeps_meaning (λ t e. without_packed_fields e) without_packed_fields-kept

pub returns-clause-breaks : goal.returns-clause-breaks
returns-clause-breaks c = keeps_breaks (λ t e. without_packed_fields e) without_packed_fields-kept
