use Rattle.std.proofs.Common.{ap, sym, subst, ℕ, Err}
use Rattle.vx_block_parts.specs.Parts.{Part, seen_between}
use Rattle.vx_block_parts.specs.PartMoves.{MovesPart}
use Rattle.vx_laws_shell.specs.Answers.{answer_within}
use Rattle.vx_laws_shell.specs.Running.{end_by}
use Rattle.vx_laws_shell.specs.Words.{BlockRange}
use Rattle.vx_scan.specs.Stores.{IsSameStore, StoreSeen}
use Rattle.vx_shell.specs.Founds.{FindsStatement, FindsWithin}
use Rattle.vx_shell.specs.declared.errors.Refusal.TheVariants.{NoMemory}
use Rattle.vx_shell.proofs.OrderedSteps.{finds_no_room}
use Rattle.vx_shell.proofs.PartAnswers.{part_finds}
use Rattle.vx_shell.proofs.answers.answer_part.Goals as goal

pub returns-in-Ok-clause-same : goal.returns-in-Ok-clause-same
returns-in-Ok-clause-same g c =
    let seen = g.S.ColumnStore.seen in
    let moves = subst (λ (p : Part _). MovesPart seen g.S.ColumnStore.moves p c.answer_whole-found.result.store) c.in-Ok.ensures.part c.answer_whole-found.ensures.moves in
    subst (λ s. IsSameStore (seen c.args.store) (seen s)) (sym c.into_store.ensures) moves.within.same

pub returns-in-Ok-clause-moves : goal.returns-in-Ok-clause-moves
returns-in-Ok-clause-moves g c =
    let seen = g.S.ColumnStore.seen in
    let moves = subst (λ (p : Part _). MovesPart seen g.S.ColumnStore.moves p c.answer_whole-found.result.store) c.in-Ok.ensures.part c.answer_whole-found.ensures.moves in
    subst (λ s. g.S.ColumnStore.moves c.args.store s) (sym c.into_store.ensures) moves.store

pub returns-in-Ok-clause-finds : goal.returns-in-Ok-clause-finds
returns-in-Ok-clause-finds g c =
    let seen = g.S.ColumnStore.seen in
    let left = c.answer_whole-found.result.store in
    let found = c.answer_whole-found.result.found in
    let statement = c.args.statement.now in
    let before = end_by g.O.Sink.written g.O.Sink.faults c.args.output.now in
    let after = end_by g.O.Sink.written g.O.Sink.faults c.answer_whole-found.new.output in
    let range : BlockRange = record { from = c.args.from; up_to = c.args.up_to } in
    let moves = subst (λ (p : Part _). MovesPart seen g.S.ColumnStore.moves p left) c.in-Ok.ensures.part c.answer_whole-found.ensures.moves in
    let finds = subst (λ (p : Part _). FindsStatement statement (seen_between p.from p.up_to (seen p.store)) (seen_between left.from left.up_to (seen left.store)) before after found) c.in-Ok.ensures.part
    c.answer_whole-found.ensures.finds in
    let own : FindsStatement statement (seen_between range.from range.up_to (seen c.args.store)) (seen_between range.from range.up_to (seen left.store)) before after found =
    subst (λ (n : ℕ). FindsStatement statement (seen_between range.from range.up_to (seen c.args.store)) (seen_between range.from n (seen left.store)) before after found)
    moves.up_to
    (subst (λ (n : ℕ). FindsStatement statement (seen_between range.from range.up_to (seen c.args.store)) (seen_between n left.up_to (seen left.store)) before after found)
    moves.from finds) in
    subst (λ s. FindsWithin statement range (seen c.args.store) (seen s) before after found) (sym c.into_store.ensures)
    (part_finds c.parts_read_their_blocks.ensures.reads range statement (seen c.args.store) (seen left.store) before after found c.requires.within c.requires.agrees
    moves.within own)

pub returns-in-Err-clause-finds : goal.returns-in-Err-clause-finds
returns-in-Err-clause-finds g c =
    let seen = g.S.ColumnStore.seen in
    let output = end_by g.O.Sink.written g.O.Sink.faults c.args.output.now in
    let store = seen c.args.store in
    let range : BlockRange = record { from = c.args.from; up_to = c.args.up_to } in
    subst (λ (t : StoreSeen). FindsWithin c.args.statement.now range store t output output (Err NoMemory)) (sym (ap seen c.in-Err.ensures.again))
    (finds_no_room (λ is_damaged table. answer_within is_damaged table store.zones c.args.statement.now range) store output)
