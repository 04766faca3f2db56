use Rattle.vx_query.proofs.FileCauseLemmas.{was_filed, filed_as_told, filed_whole}
use Rattle.vx_query.proofs.file_causes.files_are_of_the_request.Goals as goal

pub returns-clause-filed : goal.returns-clause-filed
returns-clause-filed c = was_filed

pub returns-clause-opened : goal.returns-clause-opened
returns-clause-opened c = λ i i' o o' used filed.
    let zones = filed.asked.zones in
    let blocks = filed.asked.blocks in
    (c.written_is_opened.ensures.opened zones blocks filed.holds.has_file, c.written_is_opened.ensures.held zones blocks filed.holds.has_file)

pub returns-clause-told : goal.returns-clause-told
returns-clause-told c = filed_as_told

pub returns-clause-complete : goal.returns-clause-complete
returns-clause-complete c = filed_whole
