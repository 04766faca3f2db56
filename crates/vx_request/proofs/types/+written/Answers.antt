use Rattle.std.proofs.Common.{arith, sym, ap, ◌∙◌, option_map}
use Rattle.vx_request.specs.WrittenTypes.{named_type_in, type_within}
use Rattle.vx_request.specs.RequestViews.{named_type_view}
use Rattle.vx_request.proofs.ItemLemmas.{read_more}
use Rattle.vx_request.proofs.types.+written.Goals as goal

pub named_types_in-loop-item-preserved : goal.named_types_in-loop-item-preserved
named_types_in-loop-item-preserved t c =
    read_more _ _ (named_type_in (type_within c.args.levels)) named_type_view c.deref-item-items.result.now c.loop-item.item-index _
    c.in-Some-2.named c.loop-item.found.items c.push.new.self.items _ (omega arith) c.item-item.is
    (sym c.in_ok-named.ensures ∙ ap (option_map named_type_view) c.in-Some-2.is) c.loop-item.invariant c.in_ok-push-in-Some-2.ensures.items
