use Rattle.std.proofs.Common.{◌≡◌, sym, subst, true, [], Ok}
use Rattle.vx_expr.specs.Trees.{Tree}
use Rattle.vx_laws_shell.specs.Running.{end_by}
use Rattle.vx_laws_shell.specs.Wants.{wanted_of}
use Rattle.vx_laws_topk.specs.TopLaws.{has_no_slot}
use Rattle.vx_scan.specs.Scanning.{scan_type}
use Rattle.vx_semantics.specs.Tables.{row_type}
use Rattle.vx_sql.specs.StatementAnswers.{key_view, plan_view}
use Rattle.vx_topk.specs.TopEnds.{IsTypedTop}
use Rattle.vx_shell.specs.Founds.{asked_by}
use Rattle.vx_shell.specs.WantViews.{WantsOf}
use Rattle.vx_shell.specs.declared.wants.Wanted.{Wanted}
use Rattle.vx_shell.proofs.PlanScans.{plan_typed, plan_slots, plan_keyed, ordered_wanted, keyed_wanted}
use Rattle.vx_shell.proofs.answers.write_wanted.Goals as goal

pub write_in_order-requires : goal.write_in_order-requires
write_in_order-requires g c =
    let zones = (g.S.ColumnStore.seen c.args.store.now).zones in
    let plan = plan_view c.args.plan.now in
    let named = c.requires.planned in
    record {
      typed = (
        plan.rows.ty,
        subst (λ (f : Tree). scan_type (row_type zones.columns) [] f plan.rows.tree ≡ Ok plan.rows.ty) (sym c.requires.filter)
            (plan_typed zones named.0 plan c.requires.rules named.1),
      );
    }

pub write_by_key-requires : goal.write_by_key-requires
write_by_key-requires g c =
    let zones = (g.S.ColumnStore.seen c.args.store.now).zones in
    let plan = plan_view c.args.plan.now in
    let named = c.requires.planned in
    let key = key_view c.in-FirstBy.key.now in
    let slots = plan_slots zones named.0 plan named.1 in
    let wanted = subst (λ (w : Wanted). WantsOf zones.columns plan (wanted_of zones.columns plan) (Ok w)) c.in-FirstBy.is c.requires.wanted in
    record {
      filter = subst (λ (f : Tree). has_no_slot f ≡ true) (sym c.requires.filter) slots.0;
      projection = slots.1;
      typed = (
        plan.rows.ty,
        subst (λ (f : Tree). IsTypedTop zones (asked_by zones f plan.rows.tree key c.in-FirstBy.count) plan.rows.ty) (sym c.requires.filter)
            (plan_keyed zones named.0 plan key c.in-FirstBy.count c.requires.rules named.1 wanted),
      );
    }

pub returns-in-InOrder-clause-finds : goal.returns-in-InOrder-clause-finds
returns-in-InOrder-clause-finds g c =
    let first = g.S.ColumnStore.seen c.args.store.now in
    let last = g.S.ColumnStore.seen c.write_in_order.new.store in
    let before = end_by g.O.Sink.written g.O.Sink.faults c.args.output.now in
    let after = end_by g.O.Sink.written g.O.Sink.faults c.write_in_order.new.output in
    let plan = plan_view c.args.plan.now in
    ordered_wanted plan c.in-InOrder.limit c.args.filter.now first last before after c.write_in_order.result
    (subst (λ (w : Wanted). WantsOf first.zones.columns plan (wanted_of first.zones.columns plan) (Ok w)) c.in-InOrder.is c.requires.wanted)
    c.requires.filter c.write_in_order.ensures.finds

pub returns-in-FirstBy-clause-finds : goal.returns-in-FirstBy-clause-finds
returns-in-FirstBy-clause-finds g c =
    let first = g.S.ColumnStore.seen c.args.store.now in
    let last = g.S.ColumnStore.seen c.write_by_key.new.store in
    let before = end_by g.O.Sink.written g.O.Sink.faults c.args.output.now in
    let after = end_by g.O.Sink.written g.O.Sink.faults c.write_by_key.new.output in
    let plan = plan_view c.args.plan.now in
    keyed_wanted plan (key_view c.in-FirstBy.key.now) c.in-FirstBy.count c.args.filter.now first last before after c.write_by_key.result
    (subst (λ (w : Wanted). WantsOf first.zones.columns plan (wanted_of first.zones.columns plan) (Ok w)) c.in-FirstBy.is c.requires.wanted)
    c.requires.filter c.write_by_key.ensures.finds
