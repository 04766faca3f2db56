use Rattle.std.proofs.Common.{refl, ◌∙◌, ap, take}
use Rattle.vx_topk.proofs.HoldLemmas.{hold-dropped, hold-put}
use Rattle.vx_topk.proofs.first_rows.FirstRows.put.Goals as goal

pub returns-then-is_full_before-clause-holds : goal.returns-then-is_full_before-clause-holds
returns-then-is_full_before-clause-holds c k v found h fk fv =
    let behind = c.is_full_before.ensures c.if-is_full_before.true in
    hold-dropped k v found c.args.place c.args.self.now h (record { descending = c.args.self.now.descending; key = c.args.key; place = c.args.place }) c.args.value
    (record { direction = refl; place = refl; key_fits = fk; value_fits = fv }) behind.0 behind.1

pub returns-clause-holds : goal.returns-clause-holds
returns-clause-holds c k v found h fk fv =
    hold-put k v found c.args.place c.args.self.now h (record { descending = c.args.self.now.descending; key = c.args.key; place = c.args.place }) c.args.value
    (record { direction = refl; place = refl; key_fits = fk; value_fits = fv }) c.cut.new.self c.cut.ensures.same.0 c.cut.ensures.same.1
    (c.cut.ensures.rows ∙ ap (take c.args.self.now.count) c.in_ok-insert.ensures.entries)
