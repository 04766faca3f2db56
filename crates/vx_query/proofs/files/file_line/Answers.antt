use Rattle.std.proofs.Common.{◌≡◌, ◌∙◌, sym, ap, subst, map, Ok}
use Rattle.vx_tables.specs.Blocks.{block_view, table_refusal}
use Rattle.vx_laws_file.specs.FileForms.{file_bytes}
use Rattle.vx_laws_file.specs.Lengths.{HasFile}
use Rattle.vx_request.specs.Requests.{request_of}
use Rattle.vx_request.specs.RequestViews.{scan_view}
use Rattle.vx_query.specs.BlockAgreement.{agree}
use Rattle.vx_query.specs.RefusalViews.{IsWithoutFile, request_refusal}
use Rattle.vx_query.specs.Reports.{hex_line}
use Rattle.vx_query.proofs.AnswerLemmas.{table_of_agreeing}
use Rattle.vx_query.proofs.BlockAgreementLemmas.{agree_in}
use Rattle.vx_query.proofs.FileLemmas.{file_err, unasked_file, unfiled_table}
use Rattle.vx_query.proofs.files.file_line.Goals as goal

pub returns-in_err-request : goal.returns-in_err-request
returns-in_err-request c =
    file_err c.args.input.now (request_refusal c.in_err-request.field-0.0) c.from_residual.result c.from_residual.ensures.1
    (unasked_file c.args.input.now c.in_err-request.field-0.0 c.in_err-request.ensures)

pub table_file-requires : goal.table_file-requires
table_file-requires c =
    let asked = scan_view c.in_ok-request.request in
    let found : request_of c.args.input.now ≡ Ok asked = c.in_ok-request.ensures in
    ap (λ bs. table_refusal asked.zones (map block_view bs)) c.as_slice.ensures.value
    ∙ table_of_agreeing asked.zones asked.blocks (ap agree (sym found) ∙ agree_in c.args.input.now)

pub returns-in_err-bytes : goal.returns-in_err-bytes
returns-in_err-bytes c =
    let asked = scan_view c.in_ok-request.request in
    let r = c.in_err-bytes.field-0.0 in
    let residual = c.from_residual-in_err-bytes in
    let none : IsWithoutFile asked.zones asked.blocks r =
    subst (λ bs. IsWithoutFile asked.zones (map block_view bs) r) c.as_slice.ensures.value c.in_err-bytes.ensures.refused in
    file_err c.args.input.now r residual.result residual.ensures.1 (unfiled_table c.args.input.now asked r c.in_ok-request.ensures none)

pub returns : goal.returns
returns c =
    let asked = scan_view c.in_ok-request.request in
    let found : request_of c.args.input.now ≡ Ok asked = c.in_ok-request.ensures in
    let has : HasFile asked.zones asked.blocks =
    subst (λ bs. HasFile asked.zones (map block_view bs)) c.as_slice.ensures.value c.in_ok-bytes.ensures.written in
    let bytes : c.as_slice-2.result.now ≡ file_bytes asked.zones asked.blocks =
    c.as_slice-2.ensures.value ∙ c.in_ok-bytes.ensures.bytes ∙ ap (λ bs. file_bytes asked.zones (map block_view bs)) c.as_slice.ensures.value in
    (asked, record { asked = found; has_file = has }, c.in_ok-line.ensures ∙ ap hex_line bytes)
