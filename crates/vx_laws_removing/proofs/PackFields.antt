-- Taking fields straight from packs leaves no more nodes, and each has a type within the bounds where each had one.
use Rattle.std.proofs.Common.{◌≡◌, ◌≤◌, ℕ, ◌+◌, refl, ap, sym, Bool, true, false, cond, Option, Some, None, subst, List, [], ◌∷◌, ◌++◌, Ok, arith}
use Rattle.std.specs.Str.{bytes_eq}
use Rattle.vx_dtype.specs.Types.{Bytes, Ty}
use Rattle.vx_expr.specs.Trees.{Tree, root, literal, get_item, binary, not_of, is_null_of, like, between, cast, list_contains, pack, merge, select, dynamic, Trees, no_trees, tree, listed, children_of}
use Rattle.vx_semantics.specs.Typing.{typed_of}
use Rattle.vx_semantics.specs.Nodes.{nodes_of, nodes_of_all}
use Rattle.vx_passes.specs.Rebuilding.{rebuilt}
use Rattle.vx_expr.specs.Children.{packed_value}
use Rattle.vx_passes.specs.Simplifying.{known_field, field_of_pack, without_packed_fields}
use Rattle.vx_laws.proofs.Inverting.{Ok-same}
use Rattle.vx_laws_simplifying.proofs.PackedFields.{without_packed_fields-kept}
use Rattle.vx_laws_removing.proofs.Walked.{Typed, narrowed, typed-made}
use Rattle.vx_laws_removing.proofs.Counted.{weight, size, sizes, Each, each-append, each-split}
use Rattle.vx_laws_removing.proofs.Slim.{Slim, Within, within-typed}
use Rattle.vx_laws_removing.proofs.Ranging.{AllWithin}
use Rattle.vx_laws_removing.proofs.Leaning.{Sized, sized}

-- what holds of each of a pack's values holds of the value of a name, which has no more nodes than they have
pub value-of : (G : Tree → Type 0) (f : Bytes) (names : List Bytes) (es : Trees) (y : Tree) → Each G (listed es) → packed_value f names es ≡ Some y → G y × (size y ≤ sizes es)
unfolding weight
value-of G f [] es y g h = let no : ⊥ = cc in absurd no
value-of G f (p ∷ names) no_trees y g h = let no : ⊥ = cc in absurd no
value-of G f (p ∷ names) (tree e es) y g h = by-test (bytes_eq f p) h (λ k. value-of G f names es y g.1 k)
  where
    by-test : (b : Bool) → cond b (Some e) (packed_value f names es) ≡ Some y → (packed_value f names es ≡ Some y → G y × (size y ≤ sizes es)) → G y × (size y ≤ sizes (tree e es))
    by-test true k later =
        let same : e ≡ y = cc in
        (subst G same g.0, subst (λ (z : Tree). size z ≤ size e + sizes es) same (omega arith))
    by-test false k later = let r = later k in let a = r.1 in (r.0, omega (arith, a))

pub known-some : (o : Option Tree) (y : Tree) → known_field o ≡ Ok y → o ≡ Some y
known-some (Some e) y h = ap Some (Ok-same (Ok y) e y (sym h) refl)
known-some None y h = let no : ⊥ = cc in absurd no

module _ (w d : ℕ) (t : Ty) where
  abbrev F : Tree → Type 0
  F e = AllWithin w d t e

  fits-list : (es : Trees) → Each F (listed es) → Each (Within w d t) (nodes_of_all es)
  unfolding nodes_of
  fits-list no_trees h = tt
  fits-list (tree e es) h = each-append (Within w d t) (nodes_of e) (nodes_of_all es) h.0 (fits-list es h.1)

  list-fits : (es : Trees) → Each (Within w d t) (nodes_of_all es) → Each F (listed es)
  unfolding nodes_of
  list-fits no_trees h = tt
  list-fits (tree e es) h = let p = each-split (Within w d t) (nodes_of e) (nodes_of_all es) h in (p.0, list-fits es p.1)

  fits-node : (n : Tree) → Within w d t n → Each F (children_of n) → F n
  unfolding nodes_of
  fits-node root h g = (h, tt)
  fits-node (literal s) h g = (h, tt)
  fits-node (get_item f e) h g = (h, g.0)
  fits-node (binary l op r) h g = (h, each-append (Within w d t) (nodes_of l) (nodes_of r) g.0 g.1.0)
  fits-node (not_of e) h g = (h, g.0)
  fits-node (is_null_of e) h g = (h, g.0)
  fits-node (like l r negated fold_case) h g = (h, each-append (Within w d t) (nodes_of l) (nodes_of r) g.0 g.1.0)
  fits-node (between e lower upper options) h g =
      (h, each-append (Within w d t) (nodes_of e) (nodes_of lower ++ nodes_of upper) g.0 (each-append (Within w d t) (nodes_of lower) (nodes_of upper) g.1.0 g.1.1.0))
  fits-node (cast e target) h g = (h, g.0)
  fits-node (list_contains l r) h g = (h, each-append (Within w d t) (nodes_of l) (nodes_of r) g.0 g.1.0)
  fits-node (pack names es n) h g = (h, fits-list es g)
  fits-node (merge es n) h g = (h, fits-list es g)
  fits-node (select s e) h g = (h, g.0)
  fits-node (dynamic e op slot ty default) h g = (h, g.0)

  own : (n m : Tree) (v : Ty) → field_of_pack n ≡ Ok n → Each F (children_of n) → field_of_pack n ≡ Ok m → typed_of t m ≡ Ok v → Slim w d v → (size m ≤ 0 + size n) × F m
  own n m v stays g h ty s =
      let same = Ok-same (field_of_pack n) n m stays h in
      let typed = subst (λ (z : Tree). typed_of t z ≡ Ok v) (sym same) ty in
      subst (λ (z : Tree). (size z ≤ 0 + size n) × F z) same (omega arith, fits-node n (within-typed w d t n v typed s) g)

  at : (n m : Tree) (v : Ty) → Each F (children_of n) → field_of_pack n ≡ Ok m → typed_of t m ≡ Ok v → Slim w d v → (size m ≤ 0 + size n) × F m
  unfolding weight nodes_of
  at (get_item f (pack names es k)) m v g h ty s =
      let r = value-of F f names es m (list-fits es g.0.1) (known-some (packed_value f names es) m h) in
      let a = r.1 in
      (omega (arith, a), r.0)
  at n m v g h ty s = own n m v refl g h ty s

  types : (e : Tree) (u : Ty) (m : Tree) → typed_of t e ≡ Ok u → rebuilt field_of_pack e ≡ Ok m → Typed t m u
  types e u m h r = typed-made t (without_packed_fields e) u m (narrowed (λ t e. without_packed_fields e) without_packed_fields-kept t e u h) r

  pub packed-small : (e : Tree) (u : Ty) → typed_of t e ≡ Ok u → F e → (m : Tree) → without_packed_fields e ≡ Ok m → Sized F 0 e m
  packed-small e u h s m r = sized t w d field_of_pack 0 F types at e u h s m r
