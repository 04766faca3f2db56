-- Expressions whose metadata has a spelling have no type that is too deep.
use Rattle.vx_expr.specs.Trees.{Tree, root, literal, get_item, binary, not_of, is_null_of, like, between, cast, list_contains, pack, merge, select, dynamic}
use Rattle.vx_wire.specs.Forms.{Everywhere}
use Rattle.vx_wire.specs.Metadata.{HasMetadata, IsSerializable}
use Rattle.vx_wire.proofs.EverywhereLemmas.{also_everywhere}

shallow_node : (e : Tree) → HasMetadata e → IsSerializable e
shallow_node root h = tt
shallow_node (literal s) h = h.0.depth
shallow_node (get_item f e) h = tt
shallow_node (binary l op r) h = tt
shallow_node (not_of e) h = tt
shallow_node (is_null_of e) h = tt
shallow_node (like e p negated fold_case) h = tt
shallow_node (between e lower upper options) h = tt
shallow_node (cast e t) h = h.depth
shallow_node (list_contains l v) h = tt
shallow_node (pack names es n) h = tt
shallow_node (merge es n) h = tt
shallow_node (select s e) h = tt
shallow_node (dynamic e op k t default) h = h

pub is_shallow : (e : Tree) → Everywhere HasMetadata e → Everywhere IsSerializable e
is_shallow e h = also_everywhere HasMetadata IsSerializable shallow_node e h
