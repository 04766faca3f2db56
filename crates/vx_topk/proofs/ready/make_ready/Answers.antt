use Rattle.std.proofs.Common.{◌≡◌, ◌∙◌, refl, ap, subst, None, [], ◌∷◌}
use Rattle.vx_dtype.specs.Types.{bool_ty}
use Rattle.vx_dtype.specs.TypeViews.{type_view}
use Rattle.vx_expr.specs.Trees.{Tree}
use Rattle.vx_semantics.specs.Typing.{typed_of, union_of}
use Rattle.vx_semantics.specs.Tables.{row_type}
use Rattle.vx_laws_topk.specs.TopRows.{bounded_filter}
use Rattle.vx_laws_topk.specs.TopPhases.{keyed_projection}
use Rattle.vx_laws_topk.proofs.BoundedFilters.{bounded_filter_is_boolean}
use Rattle.vx_block_pruning.specs.PruningRules.{IsRuleOf}
use Rattle.vx_scan.specs.Opening.{IsPreparedScan}
use Rattle.vx_topk.specs.TopEnds.{top_ask}
use Rattle.vx_topk.proofs.ReadyLemmas.{packed-rows}
use Rattle.vx_topk.proofs.ready.make_ready.Goals as goal

pub new-requires : goal.new-requires
new-requires c =
    let h = c.requires in
    let ask = top_ask c.args.filter.now c.args.projection.now c.args.key.now c.args.descending h.0 (type_view c.args.key_dtype) in
    let t = row_type c.args.zones.now.columns in
    let same : c.in_ok-bounded.bounded ≡ bounded_filter ask = c.in_ok-bounded.ensures ask refl refl refl refl in
    record {
      typed = (
        bool_ty (union_of h.2.filter_type ask.key_type),
        ap (typed_of t) same ∙ bounded_filter_is_boolean c.args.zones.now.columns ask h.2.filter_type h.1 h.2.typed,
      );
    }

pub returns : goal.returns
returns c k v can =
    let zones = c.args.zones.now in
    let ask = top_ask c.args.filter.now c.args.projection.now c.args.key.now c.args.descending k (type_view c.args.key_dtype) in
    let scan = c.in_ok-scan.scan in
    let bounded : c.in_ok-bounded.bounded ≡ bounded_filter ask = c.in_ok-bounded.ensures ask refl refl refl refl in
    let packed : c.in_ok-packed.packed ≡ keyed_projection ask = c.in_ok-packed.ensures ask refl refl in
    let prepared : IsPreparedScan zones (None ∷ []) (bounded_filter ask) (keyed_projection ask) scan =
    subst (λ (f : Tree). IsPreparedScan zones (None ∷ []) f (keyed_projection ask) scan) bounded
    (subst (λ (p : Tree). IsPreparedScan zones (None ∷ []) c.in_ok-bounded.bounded p scan) packed c.in_ok-scan.ensures) in
    record {
      can = can;
      key = refl;
      prepared = prepared;
      rows = packed-rows zones ask v scan can prepared;
      rule = subst (λ (f : Tree). IsRuleOf zones f c.in_ok-rule.rule) bounded c.in_ok-rule.ensures;
    }
