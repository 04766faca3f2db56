use Rattle.vx_laws_shell.specs.Running.{end_by}
use Rattle.vx_scan.specs.StoreViews.{store_seen}
use Rattle.vx_shell_words.specs.WordViews.{asked_view}
use Rattle.vx_shell.proofs.FileAnswers.{never_faults, reported_read, store_answered}
use Rattle.vx_shell.proofs.file_answers.answer_store.Goals as goal

pub returns-clause-writes : goal.returns-clause-writes
returns-clause-writes g c =
    let store = c.args.store in
    let last = store_seen c.answer-found.result.store in
    let found = c.answer-found.result.found in
    let before = end_by g.O.Sink.written g.O.Sink.faults c.args.output.now in
    let after = end_by g.O.Sink.written g.O.Sink.faults c.answer-found.new.output in
    let none = never_faults store.zones store.blocks store last before after found c.requires.new c.answer-found.ensures.same c.answer-found.ensures.answers.cause in
    store_answered (asked_view c.args.asked) store last before after found c.told_report.result none c.answer-found.ensures.answers c.told_report.ensures

pub returns-clause-read : goal.returns-clause-read
returns-clause-read g c =
    let store = c.args.store in
    let last = store_seen c.answer-found.result.store in
    let found = c.answer-found.result.found in
    let before = end_by g.O.Sink.written g.O.Sink.faults c.args.output.now in
    let after = end_by g.O.Sink.written g.O.Sink.faults c.answer-found.new.output in
    let none = never_faults store.zones store.blocks store last before after found c.requires.new c.answer-found.ensures.same c.answer-found.ensures.answers.cause in
    reported_read (store_seen store) last before after found c.told_report.result none c.answer-found.ensures.answers.cause c.told_report.ensures
