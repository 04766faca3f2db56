-- Wire trees of expressions by their children, and wire trees that are built.
use Rattle.std.proofs.Common.{◌≡◌, Bool, true, false, cond, List, [], ◌∷◌, length, Option, Some, None, Result, Ok, Err, IfOk, IfErr, refl, sym, ap, subst, ◌∙◌, inr, arith}
use Rattle.std.specs.Option.{option_and_then}
use Rattle.std.proofs.lemmas.Option.{same_Some, none-some}
use Rattle.vx_dtype.specs.Types.{Bytes}
use Rattle.vx_expr.specs.Trees.{Tree, root, literal, get_item, binary, not_of, is_null_of, like, between, cast, list_contains, pack, merge, select, dynamic, trees_of, children_of}
use Rattle.vx_expr.specs.Children.{id_of}
use Rattle.vx_expr.proofs.TreeLemmas.{trees_of_listed}
use Rattle.vx_wire_bytes.specs.Wires.{node, Wires, no_wires, first, number_of}
use Rattle.vx_wire_bytes.specs.LeftToWrite.{children_in}
use Rattle.vx_wire_bytes.specs.WireViews.{tree_view, trees_view}
use Rattle.vx_wire_bytes.specs.declared.trees.WireTree.{WireTree}
use Rattle.vx_wire_bytes.specs.declared.trees.WireTree.TheViews.{out-WireTree}
use Rattle.vx_wire_bytes.proofs.TreeLemmas.{tree_view-out}
use Rattle.vx_wire.specs.Encodings.{encoding_of, encoding_id, kind_named}
use Rattle.vx_wire.specs.Registries.{held_named}
use Rattle.vx_wire.specs.Metadata.{takes, HasForm}
use Rattle.vx_wire.specs.Forms.{node_with, wire_of, wires_of, Everywhere, EverywhereIn}
use Rattle.vx_wire.specs.Building.{IsBuiltOf, IsUnbuiltOf, IsBuilt, AreBuilt, AreBuiltTo, IsRefusedAt, IsUnbuilt}
use Rattle.vx_wire.specs.declared.encodings.ExprEncoding.{ExprEncoding}
use Rattle.vx_wire.specs.declared.errors.BuildError.{BuildError}
use Rattle.vx_wire.specs.declared.errors.BuildError.TheVariants as errors
use Rattle.vx_wire.proofs.KindLemmas.{named_is, encoding_id-encoding_of}

pub wire_of-children : (e : Tree) → wire_of e ≡ node_with e (wires_of (trees_of (children_of e)))
wire_of-children root = refl
wire_of-children (literal s) = refl
wire_of-children (get_item f e) = refl
wire_of-children (binary l op r) = refl
wire_of-children (not_of e) = refl
wire_of-children (is_null_of e) = refl
wire_of-children (like e p negated fold_case) = refl
wire_of-children (between e lower upper options) = refl
wire_of-children (cast e t) = refl
wire_of-children (list_contains l v) = refl
wire_of-children (pack names es n) = ap (λ x. node_with (pack names es n) (wires_of x)) (sym (trees_of_listed es))
wire_of-children (merge es n) = ap (λ x. node_with (merge es n) (wires_of x)) (sym (trees_of_listed es))
wire_of-children (select s e) = refl
wire_of-children (dynamic e op k t default) = refl

pub here : (P : Tree → Type 0) (e : Tree) → Everywhere P e → P e
here P root h = h
here P (literal s) h = h
here P (get_item f e) h = h.0
here P (binary l op r) h = h.0
here P (not_of e) h = h.0
here P (is_null_of e) h = h.0
here P (like e p negated fold_case) h = h.0
here P (between e lower upper options) h = h.0
here P (cast e t) h = h.0
here P (list_contains l v) h = h.0
here P (pack names es n) h = h.0
here P (merge es n) h = h.0
here P (select s e) h = h.0
here P (dynamic e op k t default) h = h.0

pub below : (P : Tree → Type 0) (e : Tree) → Everywhere P e → EverywhereIn P (trees_of (children_of e))
below P root h = tt
below P (literal s) h = tt
below P (get_item f e) h = (h.1, tt)
below P (binary l op r) h = (h.1, (h.2, tt))
below P (not_of e) h = (h.1, tt)
below P (is_null_of e) h = (h.1, tt)
below P (like e p negated fold_case) h = (h.1, (h.2, tt))
below P (between e lower upper options) h = (h.1, (h.2, (h.3, tt)))
below P (cast e t) h = (h.1, tt)
below P (list_contains l v) h = (h.1, (h.2, tt))
below P (pack names es n) h = subst (EverywhereIn P) (sym (trees_of_listed es)) h.1
below P (merge es n) h = subst (EverywhereIn P) (sym (trees_of_listed es)) h.1
below P (select s e) h = (h.1, tt)
below P (dynamic e op k t default) h = (h.1, tt)

pub everywhere : (P : Tree → Type 0) (e : Tree) → P e → EverywhereIn P (trees_of (children_of e)) → Everywhere P e
everywhere P root p h = p
everywhere P (literal s) p h = p
everywhere P (get_item f e) p h = (p, h.0)
everywhere P (binary l op r) p h = (p, h.0, h.1.0)
everywhere P (not_of e) p h = (p, h.0)
everywhere P (is_null_of e) p h = (p, h.0)
everywhere P (like e d negated fold_case) p h = (p, h.0, h.1.0)
everywhere P (between e lower upper options) p h = (p, h.0, h.1.0, h.1.1.0)
everywhere P (cast e t) p h = (p, h.0)
everywhere P (list_contains l v) p h = (p, h.0, h.1.0)
everywhere P (pack names es n) p h = (p, subst (EverywhereIn P) (trees_of_listed es) h)
everywhere P (merge es n) p h = (p, subst (EverywhereIn P) (trees_of_listed es) h)
everywhere P (select s e) p h = (p, h.0)
everywhere P (dynamic e op k t default) p h = (p, h.0)

pub record RowBuilt (holds : ExprEncoding → Bool) (ns : Wires) (es : List Tree) : Type 0 where
  pub form : ns ≡ wires_of (trees_of es)
  pub forms : EverywhereIn HasForm (trees_of es)
  pub held : EverywhereIn (λ n. holds (encoding_of n) ≡ true) (trees_of es)
  pub number : number_of ns ≡ length es
  pub all : AreBuilt holds ns

row_built : (holds : ExprEncoding → Bool) (ns : Wires) (es : List Tree) → AreBuiltTo holds ns es → RowBuilt holds ns es
row_built holds no_wires [] h = record { form = refl; forms = tt; held = tt; number = refl; all = tt }
row_built holds no_wires (e ∷ es) h = absurd h
row_built holds (first n ns) [] h = absurd h
row_built holds (first n ns) (e ∷ es) h =
    let others = row_built holds ns es h.1 in
    record {
      form = ap (λ x. first x ns) h.0.form ∙ ap (first (wire_of e)) others.form;
      forms = (h.0.forms, others.forms);
      held = (h.0.held, others.held);
      number = omega (arith, others.number);
      all = ((e, h.0), others.all);
    }

pub built_rows : (holds : ExprEncoding → Bool) (ns : Wires) (es : List Tree) → AreBuiltTo holds ns es → AreBuilt holds ns
built_rows holds ns es h = (row_built holds ns es h).all

held_is : (holds : ExprEncoding → Bool) (o : Option ExprEncoding) (kind : ExprEncoding) → option_and_then (λ e. cond (holds e) (Some e) None) o ≡ Some kind → (o ≡ Some kind) × (holds kind ≡ true)
held_is holds None kind e = absurd (none-some kind e)
held_is holds (Some k) kind e = go (holds k) refl e
  where
    go : (b : Bool) → holds k ≡ b → cond b (Some k) None ≡ Some kind → (Some k ≡ Some kind) × (holds kind ≡ true)
    go true test h = (h, subst (λ x. holds x ≡ true) (same_Some k kind h) test)
    go false test h = absurd (none-some kind h)

-- a node whose children are built is built, where its kind is held
pub node_built : (holds : ExprEncoding → Bool) (id metadata : Bytes) (ns : Wires) (es : List Tree) (kind : ExprEncoding) (e : Tree) → AreBuiltTo holds ns es → Some kind ≡ held_named holds id → IsBuiltOf kind metadata es e → IsBuilt holds (node id metadata ns) e
node_built holds id metadata ns es kind e children known h =
    let row = row_built holds ns es children in
    let found = held_is holds (kind_named id) kind (sym known) in
    let name : id ≡ id_of e = named_is id kind found.0 ∙ ap encoding_id (sym h.spelled.is_kind) ∙ encoding_id-encoding_of e in
    let same = sym h.children_are in
    record {
      form = ap (λ x. node x metadata ns) name ∙ ap (λ x. node (id_of e) x ns) h.spelled.bytes ∙ ap (λ x. node_with e x) (row.form ∙ ap (λ x. wires_of (trees_of x)) same) ∙ sym (wire_of-children e);
      forms = everywhere HasForm e (record { metadata = h.spelled.form; children = subst (λ x. takes e (length x) ≡ true) same h.number }) (subst (λ x. EverywhereIn HasForm (trees_of x)) same row.forms);
      held = everywhere (λ n. holds (encoding_of n) ≡ true) e (ap holds h.spelled.is_kind ∙ found.1) (subst (λ x. EverywhereIn (λ n. holds (encoding_of n) ≡ true) (trees_of x)) same row.held);
    }

-- a refusal that is in the node itself
refused_here : (holds : ExprEncoding → Bool) (id metadata : Bytes) (ns : Wires) (es : List Tree) (why : BuildError) → AreBuiltTo holds ns es → IsRefusedAt (held_named holds id) metadata (number_of ns) why → IsUnbuilt holds (node id metadata ns) why
refused_here holds id metadata ns es errors.NoMemory children h = tt
refused_here holds id metadata ns es errors.UnknownExpr children h = inr ((row_built holds ns es children).all, h)
refused_here holds id metadata ns es errors.BadMetadata children h = inr ((row_built holds ns es children).all, h)
refused_here holds id metadata ns es errors.WrongChildren children h = inr ((row_built holds ns es children).all, h)

pub unknown_here : (holds : ExprEncoding → Bool) (id metadata : Bytes) (ns : Wires) (es : List Tree) → AreBuiltTo holds ns es → None ≡ held_named holds id → IsUnbuilt holds (node id metadata ns) errors.UnknownExpr
unknown_here holds id metadata ns es children e =
    refused_here holds id metadata ns es errors.UnknownExpr children (subst (λ k. IsRefusedAt k metadata (number_of ns) errors.UnknownExpr) e refl)

pub unbuilt_here : (holds : ExprEncoding → Bool) (id metadata : Bytes) (ns : Wires) (es : List Tree) (kind : ExprEncoding) (why : BuildError) → AreBuiltTo holds ns es → Some kind ≡ held_named holds id → IsUnbuiltOf kind metadata (length es) why → IsUnbuilt holds (node id metadata ns) why
unbuilt_here holds id metadata ns es kind errors.NoMemory children e h = tt
unbuilt_here holds id metadata ns es kind errors.UnknownExpr children e h = absurd h
unbuilt_here holds id metadata ns es kind errors.BadMetadata children e h =
    refused_here holds id metadata ns es errors.BadMetadata children (subst (λ k. IsRefusedAt k metadata (number_of ns) errors.BadMetadata) e h)
unbuilt_here holds id metadata ns es kind errors.WrongChildren children e h =
    let number : length es ≡ number_of ns = sym (row_built holds ns es children).number in
    refused_here holds id metadata ns es errors.WrongChildren children
    (subst (λ k. IsRefusedAt k metadata (number_of ns) errors.WrongChildren) e (subst (λ k. IsUnbuiltOf kind metadata k errors.WrongChildren) number h))

-- ---- a node of the code, once its children are built

over_children : (holds : ExprEncoding → Bool) (t : WireTree) (es : List Tree) → AreBuiltTo holds (children_in (tree_view t)) es → AreBuiltTo holds (trees_view (out-WireTree t).children.items) es
over_children holds t es h = subst (λ n. AreBuiltTo holds (children_in n) es) (tree_view-out t) h

pub unknown_kind : (holds : ExprEncoding → Bool) (t : WireTree) (es : List Tree) (name : Bytes) → AreBuiltTo holds (children_in (tree_view t)) es → name ≡ (out-WireTree t).id → None ≡ held_named holds name
    → IsUnbuilt holds (tree_view t) errors.UnknownExpr
unknown_kind holds t es name h is none =
    let out = out-WireTree t in
    subst (λ n. IsUnbuilt holds n errors.UnknownExpr) (sym (tree_view-out t))
    (unknown_here holds out.id out.metadata.items (trees_view out.children.items) es (over_children holds t es h) (none ∙ ap (held_named holds) is))

pub kind_built : (holds : ExprEncoding → Bool) (t : WireTree) (es : List Tree) (name metadata : Bytes) (kind : ExprEncoding) (result : Result Tree BuildError)
    → AreBuiltTo holds (children_in (tree_view t)) es → name ≡ (out-WireTree t).id → Some kind ≡ held_named holds name → metadata ≡ (out-WireTree t).metadata.items
    → IfOk result (λ e. IsBuiltOf kind metadata es e) → IfOk result (λ e. IsBuilt holds (tree_view t) e)
kind_built holds t es name metadata kind (Ok e) h is known same built =
    let out = out-WireTree t in
    subst (λ n. IsBuilt holds n e) (sym (tree_view-out t))
    (node_built holds out.id out.metadata.items (trees_view out.children.items) es kind e (over_children holds t es h) (known ∙ ap (held_named holds) is) (subst (λ m. IsBuiltOf kind m es e) same built))
kind_built holds t es name metadata kind (Err why) h is known same built = tt

pub kind_unbuilt : (holds : ExprEncoding → Bool) (t : WireTree) (es : List Tree) (name metadata : Bytes) (kind : ExprEncoding) (result : Result Tree BuildError)
    → AreBuiltTo holds (children_in (tree_view t)) es → name ≡ (out-WireTree t).id → Some kind ≡ held_named holds name → metadata ≡ (out-WireTree t).metadata.items
    → IfErr result (λ why. IsUnbuiltOf kind metadata (length es) why) → IfErr result (λ why. IsUnbuilt holds (tree_view t) why)
kind_unbuilt holds t es name metadata kind (Ok e) h is known same refused = tt
kind_unbuilt holds t es name metadata kind (Err why) h is known same refused =
    let out = out-WireTree t in
    subst (λ n. IsUnbuilt holds n why) (sym (tree_view-out t))
    (unbuilt_here holds out.id out.metadata.items (trees_view out.children.items) es kind why (over_children holds t es h) (known ∙ ap (held_named holds) is) (subst (λ m. IsUnbuiltOf kind m (length es) why) same refused))
