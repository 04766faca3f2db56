use Rattle.std.proofs.Common.{ap, refl, Some, Err}
use Rattle.vx_scan.specs.StoreViews.{store_seen}
use Rattle.vx_query.specs.RefusalViews.{input_refusal}
use Rattle.vx_query.specs.Running.{end_by, scan_form}
use Rattle.vx_query.specs.RunViews.{statistics_view}
use Rattle.vx_query.proofs.OutcomeLemmas.{refused_unread, refused_taken, refused_by, taken_as, told_taken}
use Rattle.vx_query.proofs.running.scan_input.Goals as goal

pub returns-in_err-bytes-clause-refused : goal.returns-in_err-bytes-clause-refused
returns-in_err-bytes-clause-refused g c =
    let source = end_by g.I.Source.left g.I.Source.faults in
    let before = source c.args.input.now in
    let after = source c.read_up_to.new.input in
    let form = Some (scan_form (statistics_view c.args.statistics)) in
    refused_by form before after (input_refusal c.in_err-bytes.field-0.0) c.from_residual.result c.from_residual.ensures.1
    (refused_unread form refl before after c.in_err-bytes.field-0.0 c.in_err-bytes.ensures.part (λ e. c.in_err-bytes.ensures.memory (ap Err e)) (λ e. c.in_err-bytes.ensures.cause (ap Err e)))

pub returns-in_err-scanned-clause-refused : goal.returns-in_err-scanned-clause-refused
returns-in_err-scanned-clause-refused g c =
    let source = end_by g.I.Source.left g.I.Source.faults in
    let before = source c.args.input.now in
    let after = source c.read_up_to.new.input in
    let taken = taken_as before after c.in_ok-bytes.bytes.items c.as_slice.result.now c.as_slice.ensures.value c.in_ok-bytes.ensures.taken c.in_ok-bytes.ensures.within c.in_ok-bytes.ensures.quiet in
    let form = Some (scan_form (statistics_view c.args.statistics)) in
    refused_by form before after c.in_err-scanned.field-0.0 c.from_residual-in_err-scanned.result c.from_residual-in_err-scanned.ensures.1
    (refused_taken form refl before after c.as_slice.result.now c.in_err-scanned.field-0.0 (λ none. none) c.in_ok-bytes.ensures.part taken c.in_err-scanned.ensures.refused)

pub returns-clause-told : goal.returns-clause-told
returns-clause-told g c =
    let source = end_by g.I.Source.left g.I.Source.faults in
    let before = source c.args.input.now in
    let after = source c.read_up_to.new.input in
    let taken = taken_as before after c.in_ok-bytes.bytes.items c.as_slice.result.now c.as_slice.ensures.value c.in_ok-bytes.ensures.taken c.in_ok-bytes.ensures.within c.in_ok-bytes.ensures.quiet in
    told_taken (statistics_view c.args.statistics) before after c.as_slice.result.now c.in_ok-scanned.scanned.ending (store_seen c.in_ok-scanned.scanned.store) taken c.in_ok-scanned.ensures.answered
