use Rattle.std.proofs.Common.{◌≡◌, ◌∙◌, ap, None, [], ◌∷◌, Ok}
use Rattle.vx_expr.specs.Trees.{Tree}
use Rattle.vx_semantics.specs.Tables.{row_type}
use Rattle.vx_laws_topk.specs.TopRows.{bounded_filter}
use Rattle.vx_laws_topk.specs.BoundLaws.{keyed_type}
use Rattle.vx_scan.specs.Scanning.{scan_type}
use Rattle.vx_topk.proofs.ReadyLemmas.{bounded-typed, only-memory}
use Rattle.vx_topk.proofs.ready.prepare_bounded.Goals as goal

pub memory_alone-requires : goal.memory_alone-requires
memory_alone-requires c =
    let h = c.requires in
    let t = row_type c.args.zones.now.columns in
    let typed : scan_type t (None ∷ []) c.args.bounded.now c.args.packed.now ≡ Ok (keyed_type h.0.key_type h.1) =
    ap (λ (f : Tree). scan_type t (None ∷ []) f c.args.packed.now) h.3
    ∙ ap (λ (p : Tree). scan_type t (None ∷ []) (bounded_filter h.0) p) h.4
    ∙ bounded-typed c.args.zones.now h.0 h.1 None h.2 tt in
    only-memory c.args.zones.now (None ∷ []) c.args.bounded.now c.args.packed.now (keyed_type h.0.key_type h.1) c.in-Err.error typed c.in-Err.ensures
