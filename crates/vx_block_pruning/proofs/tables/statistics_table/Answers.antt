use Rattle.std.proofs.Common.{◌≡◌, subst, None, Ok}
use Rattle.std.proofs.lemmas.Result.{IfOk-weaker}
use Rattle.vx_column.specs.Answers.{AnswersColumn}
use Rattle.vx_column.specs.StructColumns.{struct_column}
use Rattle.vx_block_pruning.specs.PruningTruths.{pruning_table}
use Rattle.vx_block_pruning.proofs.ColumnLemmas.{made_is}
use Rattle.vx_block_pruning.proofs.TableLemmas.{each-has_run, table-told}
use Rattle.vx_block_pruning.proofs.tables.statistics_table.Goals as goal

pub available_columns-requires-clause-values : goal.available_columns-requires-clause-values
available_columns-requires-clause-values c =
    let e = c.statistics-stats.ensures in
    each-has_run c.args.zones.now c.statistics-stats.result.now c.args.first c.args.count (record { lawful = e.rules; fitting = e.fit }) e.stats c.requires.blocks

pub made-requires : goal.made-requires
made-requires c =
    let zones = c.args.zones.now in
    let first = c.args.first in
    let count = c.args.count in
    let e = c.statistics-stats.ensures in
    let columns = c.in_ok-columns.columns.items in
    let told = subst (λ names. AnswersColumn c.struct_.result (struct_column names columns count None)) c.in_ok-clone.ensures.cases c.struct_.ensures in (
      pruning_table zones first count,
      table-told zones c.statistics-stats.result.now c.args.available.now c.args.names.now columns first count c.struct_.result (record { lawful = e.rules; fitting = e.fit })
          e.stats c.requires.available c.in_ok-columns.ensures c.requires.blocks told,
    )

pub returns : goal.returns
returns c =
    let zones = c.args.zones.now in
    let first = c.args.first in
    let count = c.args.count in
    let e = c.statistics-stats.ensures in
    let columns = c.in_ok-columns.columns.items in
    let told = subst (λ names. AnswersColumn c.struct_.result (struct_column names columns count None)) c.in_ok-clone.ensures.cases c.struct_.ensures in
    let table =
    table-told zones c.statistics-stats.result.now c.args.available.now c.args.names.now columns first count c.struct_.result (record { lawful = e.rules; fitting = e.fit })
    e.stats c.requires.available c.in_ok-columns.ensures c.requires.blocks told in
    IfOk-weaker c.made.result (λ made. c.struct_.result ≡ Ok made) (λ made. made ≡ pruning_table zones first count)
    (λ made i. made_is c.struct_.result (pruning_table zones first count) made table i) c.made.ensures
