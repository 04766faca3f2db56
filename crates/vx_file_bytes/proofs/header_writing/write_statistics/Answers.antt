use Rattle.std.proofs.Common.{◌++◌, length, refl, arith}
use Rattle.std.proofs.lemmas.List.{map-id}
use Rattle.std.proofs.lemmas.Result.{err_from_is_err_and}
use Rattle.vx_semantics.specs.Tables.{ZoneStat}
use Rattle.vx_wire_bytes.specs.Numbers.{number_bytes}
use Rattle.vx_wire_bytes.specs.Fields.{IsShort, IsText}
use Rattle.vx_laws_file.specs.FileForms.{AreCounted, statistic_bytes}
use Rattle.vx_laws_file.specs.Lengths.{StatisticTextsAre}
use Rattle.vx_file_bytes.proofs.WritingLoops.{item_here, writing_breaks, counted_ends}
use Rattle.vx_file_bytes.proofs.WritingLemmas.{too_long}
use Rattle.vx_file_bytes.proofs.header_writing.write_statistics.Goals as goal

pub returns-in_err-write_statistic-clause-err : goal.returns-in_err-write_statistic-clause-err
returns-in_err-write_statistic-clause-err c =
    let zs = c.args.stats.now in
    let own = c.index-stats-i.result in
    let here = item_here zs c.loop-i.i own c.loop-i-test.true c.index-stats-i.is in
    let p = err_from_is_err_and c.from_residual-in_err-write_statistic.result c.from_residual-in_err-write_statistic.ensures.1 in
    rw (p.1, p.2)
    (too_long (AreCounted (StatisticTextsAre IsShort) zs) (StatisticTextsAre IsShort own) c.in_err-write_statistic.field-0.0
    (λ h. writing_breaks statistic_bytes (StatisticTextsAre IsText) (StatisticTextsAre IsShort) (c.args.out.now.items ++ number_bytes (length zs)) c.loop-i.out.items zs c.loop-i.i own here c.loop-i.invariant h.1)
    c.in_err-write_statistic.ensures.err)

pub returns-clause-ok : goal.returns-clause-ok
returns-clause-ok c =
    let zs = c.args.stats.now in
    counted_ends (λ (z : ZoneStat). z) statistic_bytes (StatisticTextsAre IsText) (StatisticTextsAre IsShort) c.args.out.now.items c.loop-i.out.items zs zs (length zs) c.loop-i.i (map-id zs)
    refl c.loop-i-test.false (omega (arith, c.if-stats-ge-LONG.false)) c.loop-i.invariant
