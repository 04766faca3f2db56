use Rattle.std.proofs.Common.{◌∙◌, ◌+◌, ◌<◌, sym, ap, List, [], ◌∷◌, ◌++◌, map, length, drop, arith}
use Rattle.csv.specs.Records.{fields_of}
use Rattle.vx_dtype.specs.TypeViews.{type_view}
use Rattle.vx_column.specs.Columns.{Column}
use Rattle.vx_laws_csv.specs.CsvTables.{column_of, columns_from}
use Rattle.vx_laws_csv.proofs.Taken.{rows-columns}
use Rattle.vx_csv.proofs.Steps.{one-more, nothing-left}
use Rattle.vx_csv.proofs.Blocks.{sound-here, columns-step, columns-end}
use Rattle.vx_csv.proofs.columns.columns_of.Goals as goal

pub loop-i-init : goal.loop-i-init
loop-i-init c =
    let ts = map type_view c.args.dtypes.now in
    let rows = map fields_of c.args.rows.now in
    let none = c.in_ok-columns.ensures.items in (
      record { plain = c.requires.plain; taken = rows-columns c.args.null.now ts rows c.requires.taken },
      ap (λ (cs : List Column). cs ++ columns_from c.args.null.now 0 ts rows) (sym none),
    )

pub column_of-requires-clause-plain : goal.column_of-requires-clause-plain
column_of-requires-clause-plain c =
    let within : c.loop-i.i < length c.args.dtypes.now = omega (arith, c.loop-i-test.true) in
    let here = sound-here c.args.null.now c.loop-i.i c.args.dtypes.now c.index-dtypes-i.result (map fields_of c.args.rows.now) within c.index-dtypes-i.is c.loop-i.invariant.0 in
    here.0.plain

pub column_of-requires-clause-taken : goal.column_of-requires-clause-taken
column_of-requires-clause-taken c =
    let within : c.loop-i.i < length c.args.dtypes.now = omega (arith, c.loop-i-test.true) in
    let here = sound-here c.args.null.now c.loop-i.i c.args.dtypes.now c.index-dtypes-i.result (map fields_of c.args.rows.now) within c.index-dtypes-i.is c.loop-i.invariant.0 in
    here.0.taken

pub loop-i-preserved : goal.loop-i-preserved
loop-i-preserved c =
    let null = c.args.null.now in
    let dtypes = c.args.dtypes.now in
    let rows = map fields_of c.args.rows.now in
    let i = c.loop-i.i in
    let d = c.index-dtypes-i.result in
    let within : i < length dtypes = omega (arith, c.loop-i-test.true) in
    let here = sound-here null i dtypes d rows within c.index-dtypes-i.is c.loop-i.invariant.0 in
    let old = c.loop-i.columns.items in
    let pushed = c.in_ok-push.ensures.items ∙ ap (λ (x : Column). old ++ x ∷ []) c.in_ok-column_of.ensures in (
      here.1,
      one-more (columns_from null 0 (map type_view dtypes) rows) old c.push.new.self.items (columns_from null (i + 1) (map type_view (drop (i + 1) dtypes)) rows)
          (columns_from null i (map type_view (drop i dtypes)) rows) (column_of null i (type_view d) rows) c.loop-i.invariant.1 (columns-step null i dtypes d rows within c.index-dtypes-i.is) pushed,
    )

pub returns : goal.returns
returns c =
    let null = c.args.null.now in
    let dtypes = c.args.dtypes.now in
    let rows = map fields_of c.args.rows.now in
    let i = c.loop-i.i in
    nothing-left (columns_from null 0 (map type_view dtypes) rows) c.loop-i.columns.items (columns_from null i (map type_view (drop i dtypes)) rows) c.loop-i.invariant.1
    (columns-end null i dtypes rows (omega (arith, c.loop-i-test.false)))
