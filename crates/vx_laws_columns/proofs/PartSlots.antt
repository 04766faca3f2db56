-- Slots that fit in an expression that is split by its columns fit in its partitions, and in its root.
use Rattle.std.proofs.Common.{◌∙◌, sym, subst, List, [], ◌∷◌, map}
use Rattle.std.specs.List.{AllByRecursion}
use Rattle.std.specs.Str.{bytes_eq}
use Rattle.std.proofs.lemmas.List.Elements.{All-from_recursion}
use Rattle.vx_dtype.specs.Types.{Bytes}
use Rattle.vx_semantics.specs.Meaning.{Slots}
use Rattle.vx_semantics.specs.Slots.{slots_fit}
use Rattle.vx_semantics.specs.Tables.{row_type}
use Rattle.vx_passes.specs.Annotating.{Entry}
use Rattle.vx_passes.specs.TypedSimplifying.{simplified_typed}
use Rattle.vx_passes.specs.Splitting.{Share, Partition, partitions_type}
use Rattle.vx_laws.proofs.EachNode.{SlotsFit}
use Rattle.vx_laws_simplifying.proofs.Passes.{keeps_slots}
use Rattle.vx_laws_removing.proofs.Composed.{simplified_typed-kept}
use Rattle.vx_laws_parts.proofs.PartsFit.{SharesFit, taken-fits}
use Rattle.vx_laws_columns.specs.Evaluable.{SplitSlotsFit}
use Rattle.vx_laws_columns.proofs.Entries.{columns_map}
use Rattle.vx_laws_columns.proofs.Partitions.{own_name, taken_by_columns}
use Rattle.vx_laws_columns.proofs.ByColumn.{ready, prepared-fits, is-split}
use Rattle.vx_laws_columns.proofs.RootScope.{packs, left-typed}

each-pack : (slots : Slots) (m : List (Entry Bytes)) (ss : List (Share Bytes)) → SharesFit slots bytes_eq own_name m ss → AllByRecursion (SlotsFit slots) (packs ss)
unfolding slots_fit
each-pack slots m [] h = tt
each-pack slots m (x ∷ xs) h = (h.0, each-pack slots m xs h.1)

each-mapped : {X Y : Type 0} (P : Y → Type 0) (f : X → Y) (xs : List X) → AllByRecursion P (map f xs) → AllByRecursion (λ x. P (f x)) xs
each-mapped P f [] h = tt
each-mapped P f (x ∷ xs) h = (h.0, each-mapped P f xs h.1)

pub split_slots_fit : SplitSlotsFit
split_slots_fit fs slots e u d s h f =
    let t = row_type fs in
    let sp = is-split fs e u d s h in
    let r = ready fs e u d h.prepared.simplifies in
    let m = columns_map t d in
    let x = taken_by_columns t d in
    let k = taken-fits slots bytes_eq own_name m d [] (prepared-fits fs slots e u d h.prepared.simplifies f) tt in
    let each : AllByRecursion (λ (p : Partition Bytes). SlotsFit slots p.expression) s.partitions =
    each-mapped (SlotsFit slots) (λ (p : Partition Bytes). p.expression) s.partitions (subst (AllByRecursion (SlotsFit slots)) (sym sp.expressions) (each-pack slots m x.shares k.shares)) in (
      All-from_recursion (λ (p : Partition Bytes). SlotsFit slots p.expression) s.partitions each,
      keeps_slots simplified_typed simplified_typed-kept (partitions_type own_name s.partitions) slots x.expression r.typed.0 s.root_expression (left-typed fs e u d s h ∙ r.typed.1) sp.root_is k.expression,
    )
