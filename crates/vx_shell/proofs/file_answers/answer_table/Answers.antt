use Rattle.std.proofs.Common.{◌∙◌, ap, sym, subst, []}
use Rattle.vx_laws_shell.specs.Answers.{answer_of}
use Rattle.vx_laws_shell.specs.Damage.{is_never_damaged}
use Rattle.vx_laws_shell.specs.Running.{end_by}
use Rattle.vx_laws_shell.proofs.Adding.{added_none_of}
use Rattle.vx_scan.specs.StoreAnswers.{new_store}
use Rattle.vx_scan.specs.StoreViews.{StoreState}
use Rattle.vx_tables.specs.Blocks.{table_of_blocks}
use Rattle.vx_shell.specs.FileRuns.{WritesOut}
use Rattle.vx_shell_words.specs.WordViews.{asked_view}
use Rattle.vx_shell.proofs.file_answers.answer_table.Goals as goal

pub answer_store-requires : goal.answer_store-requires
answer_store-requires g c =
    let new = c.in-Ok.ensures in
    record {
      order = c.requires.order;
      new = new ∙ (λ i. new_store (sym (ap (λ (s : StoreState). s.zones) new) i) (sym (ap (λ (s : StoreState). s.blocks) new) i) []);
    }

pub returns-in-Ok : goal.returns-in-Ok
returns-in-Ok g c =
    let new = c.in-Ok.ensures in
    let before = end_by g.O.Sink.written g.O.Sink.faults c.args.output.now in
    let after = end_by g.O.Sink.written g.O.Sink.faults c.answer_store.new.output in
    record {
      writes = subst (λ (s : StoreState). WritesOut (answer_of is_never_damaged (table_of_blocks s.zones s.blocks) s.zones (asked_view c.args.asked)) before after
          c.answer_store.result) new c.answer_store.ensures.writes;
      read = c.answer_store.ensures.read;
    }

pub returns-in-Err : goal.returns-in-Err
returns-in-Err g c = record { writes = (added_none_of (g.O.Sink.written c.args.output.now) _, tt); read = tt }
