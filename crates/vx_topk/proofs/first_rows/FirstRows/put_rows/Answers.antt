use Rattle.std.proofs.Common.{◌≡◌, ◌++◌, ◌<◌, ℕ, map, take, length, subst, arith}
use Rattle.vx_column.specs.Columns.{seen_rows}
use Rattle.vx_laws_topk.specs.BoundLaws.{keyed_type, unpacked}
use Rattle.vx_topk.specs.FirstRows.{ArePutIn}
use Rattle.vx_topk.proofs.PutLemmas.{fits-at, put-more, put-all}
use Rattle.vx_topk.proofs.first_rows.FirstRows.put_rows.Goals as goal

pub put_row-requires : goal.put_row-requires
put_row-requires c =
    let h = c.requires.held in
    let i = c.loop-row.row in
    let less : i < length c.args.rows.now = omega arith in
    record {
      held = (
        h.0,
        h.1,
        h.2 ++ map unpacked (seen_rows (keyed_type h.0 h.1) (take i c.args.rows.now)),
        c.loop-row.invariant.holds h.0 h.1 h.2 h.3 h.4,
        fits-at (keyed_type h.0 h.1) c.args.rows.now i c.index-rows-row.result less c.index-rows-row.is h.4,
      );
    }

pub loop-row-preserved : goal.loop-row-preserved
loop-row-preserved c =
    let less : c.loop-row.row < length c.args.rows.now = omega arith in
    put-more c.args.self.now c.loop-row.self c.put_row.new.self c.args.block c.loop-row.row c.args.rows.now c.index-rows-row.result c.loop-row.invariant less c.index-rows-row.is
    c.put_row.ensures.same (λ k v found h f. c.in_ok-put_row.ensures.holds k v found h f)

pub returns-clause-holds : goal.returns-clause-holds
returns-clause-holds c k v found h f =
    let all : c.loop-row.row ≡ length c.args.rows.now = omega arith in
    put-all c.args.self.now c.loop-row.self c.args.block c.args.rows.now
    (subst (λ (n : ℕ). ArePutIn c.args.self.now c.loop-row.self c.args.block n c.args.rows.now) all c.loop-row.invariant) k v found h f
