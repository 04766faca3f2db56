use Rattle.std.proofs.Common.{◌≤◌, ap, subst, Option, MatchOption, option_map}
use Rattle.vx_laws_shell.specs.Running.{end_by}
use Rattle.vx_laws_shell.specs.Words.{BlockRange}
use Rattle.vx_shell_words.specs.WordViews.{asked_view, range_view}
use Rattle.vx_shell.proofs.PartAnswers.{whole_finds}
use Rattle.vx_shell.proofs.answers.answer.Goals as goal

pub answer_range-requires : goal.answer_range-requires
answer_range-requires g c =
    let named = ap (option_map range_view) c.in-Some.is in
    record { blocks = named; order = subst (λ (o : Option BlockRange). MatchOption o (Unit {0}) (λ range. range.from ≤ range.up_to)) named c.requires }

pub returns-in-None-clause-answers : goal.returns-in-None-clause-answers
returns-in-None-clause-answers g c =
    let seen = g.S.ColumnStore.seen in
    let before = end_by g.O.Sink.written g.O.Sink.faults c.args.output.now in
    let after = end_by g.O.Sink.written g.O.Sink.faults c.answer_whole.new.output in
    whole_finds (asked_view c.args.asked) (seen c.args.store) (seen c.answer_whole.result.store) before after c.answer_whole.result.found
    (ap (option_map range_view) c.in-None.is) c.answer_whole.ensures.rules c.answer_whole.ensures.agrees c.answer_whole.ensures.finds
