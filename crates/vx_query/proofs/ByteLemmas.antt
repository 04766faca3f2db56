-- What is known of an expression whose bytes were written, and of one that has none.
use Rattle.std.proofs.Common.{◌≡◌, subst, List, [], ◌∷◌, inl, inr}
use Rattle.std.specs.List.{AllByRecursion}
use Rattle.vx_dtype.specs.Types.{Bytes, Ty, bool_ty, int_ty, text_ty, list_ty, struct_ty, Fields, no_fields, field}
use Rattle.vx_expr.specs.Trees.{Tree, root, literal, get_item, binary, not_of, is_null_of, like, between, cast, list_contains, pack, merge, select, dynamic}
use Rattle.vx_wire_bytes.specs.Fields.{IsShort, IsText}
use Rattle.vx_wire_bytes.specs.TypeForms.{NamesAre, FieldNamesAre}
use Rattle.vx_wire_bytes.specs.Wires.{Wire, node, Wires, no_wires, first, Spells, IsSpellable, AreSpellable, HasShortParts, HaveShortParts}
use Rattle.vx_wire_bytes.proofs.LengthLemmas.{texts_short}
use Rattle.vx_wire.specs.Forms.{wire_of, Everywhere}
use Rattle.vx_wire.specs.Metadata.{HasMetadata, IsSerializable, HasShortMetadata}
use Rattle.vx_wire.proofs.EverywhereLemmas.{also_everywhere}
use Rattle.vx_query.specs.Running.{IsShallow, HasBytes}

-- ---- metadata that has a spelling

shallow_node : (e : Tree) → HasMetadata e → IsSerializable e
shallow_node root h = tt
shallow_node (literal s) h = h.0.depth
shallow_node (get_item f e) h = tt
shallow_node (binary l op r) h = tt
shallow_node (not_of e) h = tt
shallow_node (is_null_of e) h = tt
shallow_node (like e p negated fold_case) h = tt
shallow_node (between e lower upper options) h = tt
shallow_node (cast e t) h = h.depth
shallow_node (list_contains l v) h = tt
shallow_node (pack names es n) h = tt
shallow_node (merge es n) h = tt
shallow_node (select s e) h = tt
shallow_node (dynamic e op k t default) h = h

names_short : (names : List Bytes) → AllByRecursion IsText names → AllByRecursion IsShort names
names_short [] h = tt
names_short (f ∷ names) h = (h.0.short, names_short names h.1)

mutual
  type_short : (t : Ty) → NamesAre IsText t → NamesAre IsShort t
  type_short (bool_ty n) h = tt
  type_short (int_ty p n) h = tt
  type_short (text_ty n) h = tt
  type_short (list_ty e n) h = type_short e h
  type_short (struct_ty fs n) h = (h.0, fields_short fs h.1)

  fields_short : (fs : Fields) → FieldNamesAre IsText fs → FieldNamesAre IsShort fs
  fields_short no_fields h = tt
  fields_short (field f t fs) h = (h.0.short, type_short t h.1, fields_short fs h.2)

short_node : (e : Tree) → HasMetadata e → HasShortMetadata e
short_node root h = tt
short_node (literal s) h = (type_short s.ty h.0.names, texts_short s.value h.1.texts)
short_node (get_item f e) h = h.short
short_node (binary l op r) h = tt
short_node (not_of e) h = tt
short_node (is_null_of e) h = tt
short_node (like e p negated fold_case) h = tt
short_node (between e lower upper options) h = tt
short_node (cast e t) h = type_short t h.names
short_node (list_contains l v) h = tt
short_node (pack names es n) h = (h.0, names_short names h.1)
short_node (merge es n) h = tt
short_node (select s e) h = (h.0, names_short _ h.1)
short_node (dynamic e op k t default) h = absurd h

pub is_shallow : (e : Tree) → Everywhere HasMetadata e → IsShallow e
is_shallow e h = also_everywhere HasMetadata IsSerializable shallow_node e h

pub is_short : (e : Tree) → Everywhere HasMetadata e → Everywhere HasShortMetadata e
is_short e h = also_everywhere HasMetadata HasShortMetadata short_node e h

-- ---- a wire tree that has a spelling

mutual
  parts_short : (w : Wire) → IsSpellable w → HasShortParts w
  parts_short (node id metadata children) h = (h.0.id, h.0.metadata, h.0.children, all_parts_short children h.1)

  all_parts_short : (ws : Wires) → AreSpellable ws → HaveShortParts ws
  all_parts_short no_wires h = tt
  all_parts_short (first w ws) h = (parts_short w h.0, all_parts_short ws h.1)

-- an expression whose wire tree was written has bytes
pub has_bytes : (e : Tree) (w : Wire) (bytes : Bytes) → w ≡ wire_of e → IsShallow e → Everywhere HasShortMetadata e → Spells bytes w → HasBytes e
has_bytes e w bytes is shallow short spelled =
    let parts : HasShortParts (wire_of e) = subst HasShortParts is (parts_short w spelled.spellable) in
    (shallow, λ long. elim long [ inl metadata ↦ metadata short | inr wires ↦ wires parts ])
