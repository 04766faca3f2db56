-- Each node of the parts of an expression split by its columns is asked, so the nodes break where the asked ones do.
use Rattle.std.proofs.Common.{◌≡◌, refl, ap, sym, ◌∙◌, Bool, true, ◌||◌, List, [], ◌∷◌}
use Rattle.std.specs.List.{AllByRecursion, list_any}
use Rattle.std.proofs.lemmas.List.Elements.{All-from_recursion}
use Rattle.vx_dtype.specs.Types.{Bytes, Ty, Fields}
use Rattle.vx_dtype.specs.TypeRules.{no_name_twice}
use Rattle.vx_dtype.specs.Values.{Val}
use Rattle.vx_expr.specs.Trees.{Tree}
use Rattle.vx_semantics.specs.Meaning.{Slots}
use Rattle.vx_semantics.specs.Breaks.{Cause}
use Rattle.vx_semantics.specs.Tables.{row_type}
use Rattle.vx_passes.specs.Splitting.{Partition, partitions_type}
use Rattle.vx_laws.proofs.EachNode.{IsTyped, all-map}
use Rattle.vx_laws_simplifying.specs.Asking.{breaks_along}
use Rattle.vx_laws_removing.proofs.Settled.{simplified_simple}
use Rattle.vx_laws_parts.proofs.Rowless.{simplified_typed-rowless}
use Rattle.vx_laws_parts.specs.Recombining.{partitions_row}
use Rattle.vx_laws_columns.specs.Evaluable.{node_breaks_at, NodesBreakAsAsked, NodesStandAlone, PartitionNodesStandAlone}
use Rattle.vx_laws_columns.proofs.Rows.{IsRowless}
use Rattle.vx_laws_columns.proofs.Entries.{columns_map, columns-known}
use Rattle.vx_laws_columns.proofs.AskedColumns.{IsSimple}
use Rattle.vx_laws_columns.proofs.Partitions.{own_name, taken_by_columns, IsOfColumn}
use Rattle.vx_laws_columns.proofs.SameBreaks.{each-asked}
use Rattle.vx_laws_columns.proofs.ByColumn.{ready, is-split, touches, stands-alone}
use Rattle.vx_laws_columns.proofs.LeftOver.{stays-simple}
use Rattle.vx_laws_columns.proofs.Breaking.{partitions_break_asked}
use Rattle.vx_laws_columns.proofs.RootType.{root_is_typed}

-- of a typed expression of simple nodes the nodes break where the asked ones do
nodes-asked : (cause : Cause) (t : Ty) (slots : Slots) (row : Val) (e : Tree) → IsTyped t e → IsSimple e → IsRowless e → node_breaks_at cause t slots row e ≡ breaks_along cause t slots row e []
nodes-asked cause t slots row e h s r = sym (each-asked t slots row cause e h s r)

part-nodes : (cause : Cause) (t : Ty) (slots : Slots) (row : Val) (p : Partition Bytes) → IsOfColumn t p → node_breaks_at cause t slots row p.expression ≡ breaks_along cause t slots row p.expression []
part-nodes cause t slots row p k = let c = touches t p k in nodes-asked cause t slots row p.expression (p.ty, k.typed) c.simple c.rowless

parts-nodes : (cause : Cause) (t : Ty) (slots : Slots) (row : Val) (ps : List (Partition Bytes)) → AllByRecursion (IsOfColumn t) ps
    → list_any (λ (p : Partition Bytes). node_breaks_at cause t slots row p.expression) ps ≡ list_any (λ (p : Partition Bytes). breaks_along cause t slots row p.expression []) ps
parts-nodes cause t slots row [] h = refl
parts-nodes cause t slots row (p ∷ ps) h =
    ap (λ (b : Bool). b || list_any (λ (q : Partition Bytes). node_breaks_at cause t slots row q.expression) ps) (part-nodes cause t slots row p h.0)
    ∙ ap (λ (b : Bool). breaks_along cause t slots row p.expression [] || b) (parts-nodes cause t slots row ps h.1)

pub nodes_break_as_asked : NodesBreakAsAsked
nodes_break_as_asked fs slots row e u d s cause h g =
    let t = row_type fs in
    let r = ready fs e u d h.prepared.simplifies in
    let sp = is-split fs e u d s h in
    let v = partitions_type own_name s.partitions in
    let made = partitions_row own_name t slots row s.partitions in
    let left = (taken_by_columns t d).expression in
    let known = columns-known t d r.rowless in
    let stays = stays-simple t v slots row made cause (columns_map t d) d r.rowless known r.simple [] in
    let w = root_is_typed fs e u d s h in
    let of_root : node_breaks_at cause v slots made s.root_expression ≡ breaks_along cause v slots made s.root_expression [] =
    nodes-asked cause v slots made s.root_expression (w.0, w.1) (simplified_simple v left s.root_expression sp.root_is) (simplified_typed-rowless v left s.root_expression stays.rowless sp.root_is) in
    ap (λ (b : Bool). b || node_breaks_at cause v slots made s.root_expression) (parts-nodes cause t slots row s.partitions sp.of_columns)
    ∙ (ap (λ (b : Bool). list_any (λ (p : Partition Bytes). breaks_along cause t slots row p.expression []) s.partitions || b) of_root ∙ partitions_break_asked fs slots row e u d s cause h g)

nodes-alone : (fs gs : Fields) (p : Partition Bytes) → IsOfColumn (row_type fs) p → no_name_twice (row_type gs) ≡ true → NodesStandAlone fs gs p
nodes-alone fs gs p k h same slots row other value cause =
    let t = row_type gs in
    let c = touches (row_type fs) p k in
    let a = stands-alone fs gs p k h same in
    nodes-asked cause t slots other p.expression (p.ty, a.0) c.simple c.rowless ∙ ((a.1 slots row other value).1 cause ∙ sym (part-nodes cause (row_type fs) slots row p k))

pub partition_nodes_stand_alone : PartitionNodesStandAlone
partition_nodes_stand_alone fs e u d s gs h k =
    All-from_recursion (NodesStandAlone fs gs) s.partitions (all-map (IsOfColumn (row_type fs)) (NodesStandAlone fs gs) s.partitions (λ p j. nodes-alone fs gs p j k) (is-split fs e u d s h).of_columns)
