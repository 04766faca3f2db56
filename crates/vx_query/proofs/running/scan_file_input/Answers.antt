use Rattle.std.proofs.Common.{ap, refl, Some, Err}
use Rattle.vx_query.specs.RefusalViews.{input_refusal}
use Rattle.vx_query.specs.Running.{end_by, scan_file_form}
use Rattle.vx_query.proofs.OutcomeLemmas.{refused_unread, answered_err, file_scanned_taken, taken_as}
use Rattle.vx_query.proofs.running.scan_file_input.Goals as goal

pub returns-in_err-bytes : goal.returns-in_err-bytes
returns-in_err-bytes g c =
    let source = end_by g.I.Source.left g.I.Source.faults in
    let before = source c.args.input.now in
    let after = source c.read_up_to.new.input in
    answered_err (Some scan_file_form) before after (input_refusal c.in_err-bytes.field-0.0) c.from_residual.result c.from_residual.ensures.1
    (refused_unread (Some scan_file_form) refl before after c.in_err-bytes.field-0.0 c.in_err-bytes.ensures.part (λ e. c.in_err-bytes.ensures.memory (ap Err e)) (λ e. c.in_err-bytes.ensures.cause (ap Err e)))

pub returns : goal.returns
returns g c =
    let source = end_by g.I.Source.left g.I.Source.faults in
    let before = source c.args.input.now in
    let after = source c.read_up_to.new.input in
    let taken = taken_as before after c.in_ok-bytes.bytes.items c.as_slice.result.now c.as_slice.ensures.value c.in_ok-bytes.ensures.taken c.in_ok-bytes.ensures.within c.in_ok-bytes.ensures.quiet in
    file_scanned_taken before after c.as_slice.result.now c.file_report.result c.in_ok-bytes.ensures.part taken c.file_report.ensures
