use Rattle.std.proofs.Common.{subst}
use Rattle.vx_file_open.specs.OpenAnswers.{IsRefusedBy, refusal_of}
use Rattle.vx_file_query.proofs.FileScanLemmas.{unopened_bytes}
use Rattle.vx_file_query.proofs.scanning.opened_file.Goals as goal

pub returns-in-Err-clause-refused : goal.returns-in-Err-clause-refused
returns-in-Err-clause-refused c =
    let why = c.in-Err.refused.error in
    unopened_bytes c.args.bytes.items why c.unopened.result (subst (λ bytes. IsRefusedBy bytes (refusal_of why)) c.new.ensures c.in-Err.ensures.refused)
    c.unopened.ensures
