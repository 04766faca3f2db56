use Rattle.std.proofs.Common.{sym}
use Rattle.vx_request.specs.FileRequestViews.{file_view}
use Rattle.vx_file_query.specs.FileAnswers.{AsksFile}
use Rattle.vx_file_query.proofs.scanning.scan_requested_file.Goals as goal

pub returns-clause-reported : goal.returns-clause-reported
returns-clause-reported c =
    let a = file_view c.in_ok-request.request in
    let asks : AsksFile c.args.input.now a c.as_slice.result.now c.as_slice-2.result.now c.in_ok-opened.opened =
    record {
      asked = c.in_ok-request.ensures;
      filter_text = sym c.as_slice.ensures.value;
      projection_text = sym c.as_slice-2.ensures.value;
      ready = c.in_ok-opened.ensures.opened;
    } in
    c.scan_opened.ensures.reported c.args.input.now a asks

pub returns-clause-refused : goal.returns-clause-refused
returns-clause-refused c =
    let a = file_view c.in_ok-request.request in
    let asks : AsksFile c.args.input.now a c.as_slice.result.now c.as_slice-2.result.now c.in_ok-opened.opened =
    record {
      asked = c.in_ok-request.ensures;
      filter_text = sym c.as_slice.ensures.value;
      projection_text = sym c.as_slice-2.ensures.value;
      ready = c.in_ok-opened.ensures.opened;
    } in
    c.scan_opened.ensures.refused c.args.input.now a asks
