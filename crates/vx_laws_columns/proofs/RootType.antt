-- The root of an expression split by its columns has the expression's type, but perhaps less nullable.
use Rattle.std.proofs.Common.{◌≡◌, ap, sym, ◌∙◌, [], Ok}
use Rattle.vx_semantics.specs.Typing.{typed_of}
use Rattle.vx_semantics.specs.Breaks.{by_sum}
use Rattle.vx_semantics.specs.Tables.{row_type}
use Rattle.vx_passes.specs.Replacing.{root_replaced}
use Rattle.vx_passes.specs.TypedSimplifying.{simplified_typed}
use Rattle.vx_passes.specs.Splitting.{partitions_type}
use Rattle.vx_laws.proofs.Inverting.{Ok-same}
use Rattle.vx_laws_simplifying.proofs.Observing.{breaking, breaking-observes}
use Rattle.vx_laws_simplifying.proofs.Narrows.{narrow-then, narrow-narrows}
use Rattle.vx_laws_simplifying.proofs.Passes.{some_row, some_row-fits}
use Rattle.vx_laws_removing.proofs.Composed.{simplified_typed-kept}
use Rattle.vx_laws_parts.proofs.RootKept.{preserved-kept}
use Rattle.vx_laws_columns.specs.Evaluable.{RootIsTyped}
use Rattle.vx_laws_columns.proofs.Partitions.{own_name, taken_by_columns}
use Rattle.vx_laws_columns.proofs.ByColumn.{is-split}
use Rattle.vx_laws_columns.proofs.RootScope.{left-typed}

pub root_is_typed : RootIsTyped
root_is_typed fs e u d s h =
    let t = row_type fs in
    let q = h.prepared.simplifies in
    let v = partitions_type own_name s.partitions in
    let left = (taken_by_columns t d).expression in
    let m = preserved-kept fs [] (some_row t) (breaking by_sum t [] (some_row t)) (breaking-observes by_sum t [] (some_row t)) (some_row-fits t) e u q.typed in
    let prepared : m.made ≡ d = Ok-same (simplified_typed t (root_replaced fs e)) m.made d m.is q.made in
    let w = m.kept.ty in
    let typed : typed_of v left ≡ Ok w = left-typed fs e u d s h ∙ (ap (typed_of t) (sym prepared) ∙ m.kept.typed) in
    let z = simplified_typed-kept v [] (some_row v) (breaking by_sum v [] (some_row v)) (breaking-observes by_sum v [] (some_row v)) left w (some_row-fits v) typed in
    let root : z.made ≡ s.root_expression = Ok-same (simplified_typed v left) z.made s.root_expression z.is (is-split fs e u d s h).root_is in
    (z.kept.ty, ap (typed_of v) (sym root) ∙ z.kept.typed, narrow-narrows z.kept.ty u (narrow-then z.kept.ty w u z.kept.narrow m.kept.narrow))
