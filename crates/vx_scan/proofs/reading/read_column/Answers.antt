use Rattle.std.proofs.Common.{Err, subst}
use Rattle.vx_scan.specs.Stores.{Reads}
use Rattle.vx_scan.proofs.ReadLemmas.{read_fails}
use Rattle.vx_scan.proofs.reading.read_column.Goals as goal

pub returns-in-Err-Failed-clause-reads : goal.returns-in-Err-Failed-clause-reads
returns-in-Err-Failed-clause-reads g c =
    let first = g.S.ColumnStore.seen c.args.store.now in
    let last = g.S.ColumnStore.seen c.read.new.self in
    read_fails first last c.args.block c.args.name.now
    (subst (λ e. Reads first last c.args.block c.args.name.now (Err e)) c.in-Err-Failed.field-0-is c.in-Err-Failed.ensures.reads)
