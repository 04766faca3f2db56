-- Where an expression that is split by its columns breaks, a partition breaks, or the root does.
use Rattle.std.proofs.Common.{◌≡◌, refl, ap, sym, ◌∙◌, Bool, false, ◌||◌, subst, List, [], ◌∷◌, map, Ok}
use Rattle.std.specs.List.{AllByRecursion, list_any}
use Rattle.std.specs.Str.{bytes_eq}
use Rattle.vx_dtype.specs.declared.Nullability.TheVariants.{NonNullable}
use Rattle.vx_dtype.specs.Types.{Bytes, Ty}
use Rattle.vx_dtype.specs.Values.{Val, struct_val}
use Rattle.vx_expr.specs.Trees.{Tree, pack, Trees, trees_of, listed}
use Rattle.vx_semantics.specs.Typing.{typed_of}
use Rattle.vx_semantics.specs.Meaning.{Slots, zip_members, mean, meanings}
use Rattle.vx_semantics.specs.Breaks.{Cause, by_sum, by_cast, breaks_by}
use Rattle.vx_semantics.specs.Nodes.{some_node}
use Rattle.vx_semantics.specs.Tables.{row_type}
use Rattle.vx_passes.specs.Annotating.{Entry}
use Rattle.vx_passes.specs.TypedSimplifying.{simplified_typed}
use Rattle.vx_passes.specs.Splitting.{Share, packed_parts, part_names, Partition, partitions_type}
use Rattle.vx_laws.proofs.Inverting.{Ok-same}
use Rattle.vx_laws.proofs.EachNode.{IsTyped, children-typed, all-map}
use Rattle.vx_laws_simplifying.specs.Asking.{breaks_along}
use Rattle.vx_laws_simplifying.proofs.Observing.{breaking, breaking-observes, breaking-along, or-comm, or-false}
use Rattle.vx_laws.proofs.AnySlots.{fits-but_nulls, mean-but_nulls}
use Rattle.vx_laws_removing.proofs.Composed.{simplified_typed-kept}
use Rattle.vx_laws_parts.proofs.Outcomes.{preserved_breaks}
use Rattle.vx_laws_parts.specs.Taking.{packed_shares}
use Rattle.vx_laws_parts.specs.Recombining.{partitions_row}
use Rattle.vx_laws_parts.proofs.SharesHold.{map-twice, SharesHold}
use Rattle.vx_laws_parts.proofs.Taken.{all-stand, taken_typed}
use Rattle.vx_laws_parts.proofs.Recombined.{mean-list}
use Rattle.vx_laws_columns.specs.Columns.{PartitionsBreak, PartitionsBreakAsked}
use Rattle.vx_laws_columns.proofs.Rows.{IsRowless}
use Rattle.vx_laws_columns.proofs.Entries.{columns_map, columns-known}
use Rattle.vx_laws_columns.proofs.AskedColumns.{IsSimple}
use Rattle.vx_laws_columns.proofs.Partitions.{listed-trees, pack-simple, pack-rowless, Part, own_name, taken_by_columns, parts-of}
use Rattle.vx_laws_columns.proofs.Remade.{some-by_children}
use Rattle.vx_laws_columns.proofs.SameBreaks.{each-asked}
use Rattle.vx_laws_columns.proofs.ByColumn.{ready, is-split}
use Rattle.vx_laws_columns.proofs.LeftOver.{stays-simple, left-breaks}
use Rattle.vx_laws_columns.proofs.RootScope.{packs, root-scope}

any-map : {X Y : Type 0} (test : Y → Bool) (f : X → Y) (xs : List X) → list_any (λ x. test (f x)) xs ≡ list_any test (map f xs)
any-map test f [] = refl
any-map test f (x ∷ xs) = ap (λ (b : Bool). test (f x) || b) (any-map test f xs)

module _ (t : Ty) (slots : Slots) (row : Val) (cause : Cause) where
  abbrev node_breaks : Tree → Bool
  node_breaks n = breaks_by cause t slots row n

  abbrev asked_breaks : Tree → Bool
  asked_breaks e = breaks_along cause t slots row e []

  pack-quiet : (c : Cause) (names : List Bytes) (es : Trees) → breaks_by c t slots row (pack names es NonNullable) ≡ false
  pack-quiet by_sum names es = refl
  pack-quiet by_cast names es = refl

  share-breaks : (c : Bytes) (es : List Tree) → IsTyped t (packed_parts c es) → AllByRecursion (Part t c) es → asked_breaks (packed_parts c es) ≡ list_any (some_node node_breaks) es
  share-breaks c es h k =
      let names = part_names c 0 es in
      each-asked t slots row cause (packed_parts c es) h (pack-simple names es (all-map (Part t c) IsSimple es (λ n j. j.simple) k)) (pack-rowless names es (all-map (Part t c) IsRowless es (λ n j. j.rowless) k))
      ∙ (some-by_children node_breaks (packed_parts c es)
      ∙ (ap (λ (b : Bool). b || list_any (some_node node_breaks) (listed (trees_of es))) (pack-quiet cause names (trees_of es)) ∙ ap (list_any (some_node node_breaks)) (listed-trees es)))

  shares-break : (m : List (Entry Bytes)) (ss : List (Share Bytes)) → AllByRecursion (IsTyped t) (packs ss) → SharesHold bytes_eq own_name m (Part t) ss
      → list_any asked_breaks (packs ss) ≡ list_any (λ x. list_any (some_node node_breaks) x.parts) ss
  shares-break m [] h k = refl
  shares-break m (x ∷ xs) h k =
      ap (λ (b : Bool). b || list_any asked_breaks (packs xs)) (share-breaks x.annotation x.parts h.0 k.0)
      ∙ ap (λ (b : Bool). list_any (some_node node_breaks) x.parts || b) (shares-break m xs h.1 k.1)

packs-mean : (t : Ty) (slots : Slots) (row : Val) (ss : List (Share Bytes))
    → mean t slots row (packed_shares own_name ss) ≡ struct_val (zip_members (map (λ x. x.annotation) ss) (meanings t slots row (trees_of (packs ss))))
unfolding mean
packs-mean t slots row ss = refl

pub partitions_break : PartitionsBreak
partitions_break fs slots row e u d s cause h g =
    let t = row_type fs in
    let q = h.prepared.simplifies in
    let r = ready fs e u d q in
    let m = columns_map t d in
    let x = taken_by_columns t d in
    let ss = x.shares in
    let ps = s.partitions in
    let sp = is-split fs e u d s h in
    let o = root-scope fs e u d s h in
    let v = o.ty in
    let over = packed_shares own_name ss in
    let made = mean t slots row over in
    let known = columns-known t d r.rowless in
    let whole = left-breaks t v slots row made cause m d r.rowless known [] (all-stand bytes_eq own_name m t slots row ss v o.takes.typed) in
    let simple = stays-simple t v slots row made cause m d r.rowless known r.simple [] in
    let of_parts : list_any (λ (p : Partition Bytes). asked_breaks t slots row cause p.expression) ps ≡ list_any (λ y. list_any (some_node (node_breaks t slots row cause)) y.parts) ss =
    any-map (asked_breaks t slots row cause) (λ (p : Partition Bytes). p.expression) ps
    ∙ (ap (list_any (asked_breaks t slots row cause)) sp.expressions
    ∙ shares-break t slots row cause m ss (subst (AllByRecursion (IsTyped t)) (listed-trees (packs ss)) (children-typed t over (v, o.takes.typed))) (parts-of t d r.typed r.simple r.rowless)) in
    let values : map (λ p. mean t slots row p.expression) ps ≡ meanings t slots row (trees_of (packs ss)) =
    sym (map-twice (mean t slots row) (λ (p : Partition Bytes). p.expression) ps) ∙ (ap (map (mean t slots row)) sp.expressions ∙ sym (mean-list t slots row (packs ss))) in
    let at : partitions_row own_name t slots row ps ≡ made =
    ap (λ (cs : List Bytes). struct_val (zip_members cs (map (λ p. mean t slots row p.expression) ps))) sp.annotations_same
    ∙ (ap (λ (vs : List Val). struct_val (zip_members (map (λ (y : Share Bytes). y.annotation) ss) vs)) values ∙ sym (packs-mean t slots row ss)) in
    let typed : typed_of v x.expression ≡ Ok r.typed.0 = taken_typed Bytes bytes_eq own_name m t d v o.takes ∙ r.typed.1 in
    let fits = mean-but_nulls t slots row over v (fits-but_nulls row t g) o.takes.typed in
    let z = simplified_typed-kept v slots made (breaking cause v slots made) (breaking-observes cause v slots made) x.expression r.typed.0 fits typed in
    let root : z.made ≡ s.root_expression = Ok-same (simplified_typed v x.expression) z.made s.root_expression z.is (ap (λ (c : Ty). simplified_typed c x.expression) (sym o.is) ∙ sp.root_is) in
    let of_root : breaks_along cause v slots made s.root_expression [] ≡ some_node (node_breaks v slots made cause) x.expression =
    ap (λ (c : Tree). breaks_along cause v slots made c []) (sym root)
    ∙ (breaking-along cause v slots made z.made []
    ∙ (z.kept.sees [] refl ∙ (sym (breaking-along cause v slots made x.expression []) ∙ each-asked v slots made cause x.expression (r.typed.0, typed) simple.simple simple.rowless))) in
    ap (λ (b : Bool). b || breaks_along cause (partitions_type own_name ps) slots (partitions_row own_name t slots row ps) s.root_expression []) of_parts
    ∙ (ap (λ (c : Ty). list_any (λ y. list_any (some_node (node_breaks t slots row cause)) y.parts) ss || breaks_along cause c slots (partitions_row own_name t slots row ps) s.root_expression []) o.is
    ∙ (ap (λ (w : Val). list_any (λ y. list_any (some_node (node_breaks t slots row cause)) y.parts) ss || breaks_along cause v slots w s.root_expression []) at
    ∙ (ap (λ (b : Bool). list_any (λ y. list_any (some_node (node_breaks t slots row cause)) y.parts) ss || b) of_root
    ∙ (or-comm (list_any (λ y. list_any (some_node (node_breaks t slots row cause)) y.parts) ss) (some_node (node_breaks v slots made cause) x.expression)
    ∙ (whole ∙ or-false (some_node (node_breaks t slots row cause) d))))))

pub partitions_break_asked : PartitionsBreakAsked
partitions_break_asked fs slots row e u d s cause h g = partitions_break fs slots row e u d s cause h g ∙ preserved_breaks fs slots row e u d cause h.prepared.simplifies g
