-- Where each node has the columns that it touches, the row stands in parts, and the shares are those of the columns.
use Rattle.std.proofs.Common.{◌≡◌, refl, ap, sym, ◌∙◌, Bool, true, false, ◌&&◌, ◌⊎◌, inl, inr, subst, List, [], ◌∷◌}
use Rattle.std.specs.List.{flat_map, AllByRecursion}
use Rattle.std.specs.Str.{bytes_eq}
use Rattle.std.proofs.lemmas.Bool.{and_from}
use Rattle.vx_dtype.specs.Types.{Bytes, Ty}
use Rattle.vx_expr.specs.Trees.{Tree, root, literal, get_item, binary, not_of, is_null_of, like, between, cast, list_contains, pack, merge, select, dynamic, Trees, no_trees, tree, listed, children_of}
use Rattle.vx_semantics.specs.Nodes.{nodes_of}
use Rattle.vx_passes.specs.Annotating.{Entry, entry_of}
use Rattle.vx_passes.specs.Splitting.{Share, with_part, taken_from}
use Rattle.vx_laws.proofs.EachNode.{by_children, nodes-below, all-then, all-map, each_node}
use Rattle.vx_laws_parts.proofs.Shown.{is_of_row}
use Rattle.vx_laws_parts.specs.Taking.{part_or, row_in_parts, row_in_parts_of_all}
use Rattle.vx_laws_parts.proofs.SharesHold.{shares_after, shares_with, shares-by_children, annotations, annotations-with_part}
use Rattle.vx_laws_columns.specs.Columns.{ColumnsCoverRowless}
use Rattle.vx_laws_columns.proofs.Sets.{joined, set_of, joined-both, joined-set}
use Rattle.vx_laws_columns.proofs.Rows.{columns_in, Form, is_row, is_column, is_other, form, columns-by_children, IsRowless, children-rowless, row-not-rowless, column-alone}
use Rattle.vx_laws_columns.proofs.Entries.{columns_map, Known, columns-known}

module _ {A : Type 0} (m : List (Entry A)) where
  abbrev pub IsCovered : Tree → Type 0
  IsCovered e = row_in_parts m e ≡ true

  pub or-covered : (xs : List A) (b : Bool) → b ≡ true → part_or xs b ≡ true
  or-covered [] b h = h
  or-covered (a ∷ []) b h = refl
  or-covered (a ∷ c ∷ xs) b h = h

  all-covered : (es : Trees) → AllByRecursion IsCovered (listed es) → row_in_parts_of_all m es ≡ true
  unfolding row_in_parts
  all-covered no_trees h = refl
  all-covered (tree e es) h = and_from (row_in_parts m e) (row_in_parts_of_all m es) h.0 (all-covered es h.1)

  -- a node over covered children, but for the row itself, is covered
  pub node-covered : (e : Tree) → is_of_row e ≡ false → AllByRecursion IsCovered (children_of e) → IsCovered e
  unfolding row_in_parts
  node-covered root o h = let no : ⊥ = cc in absurd no
  node-covered (literal s) o h = or-covered (entry_of (literal s) m) true refl
  node-covered (get_item f e) o h = or-covered (entry_of (get_item f e) m) (row_in_parts m e) h.0
  node-covered (binary l op r) o h = or-covered (entry_of (binary l op r) m) (row_in_parts m l && row_in_parts m r) (and_from (row_in_parts m l) (row_in_parts m r) h.0 h.1.0)
  node-covered (not_of e) o h = or-covered (entry_of (not_of e) m) (row_in_parts m e) h.0
  node-covered (is_null_of e) o h = or-covered (entry_of (is_null_of e) m) (row_in_parts m e) h.0
  node-covered (like e p negated fold_case) o h =
      or-covered (entry_of (like e p negated fold_case) m) (row_in_parts m e && row_in_parts m p) (and_from (row_in_parts m e) (row_in_parts m p) h.0 h.1.0)
  node-covered (between e lower upper options) o h =
      or-covered (entry_of (between e lower upper options) m) (row_in_parts m e && (row_in_parts m lower && row_in_parts m upper))
      (and_from (row_in_parts m e) (row_in_parts m lower && row_in_parts m upper) h.0 (and_from (row_in_parts m lower) (row_in_parts m upper) h.1.0 h.1.1.0))
  node-covered (cast e t) o h = or-covered (entry_of (cast e t) m) (row_in_parts m e) h.0
  node-covered (list_contains l v) o h = or-covered (entry_of (list_contains l v) m) (row_in_parts m l && row_in_parts m v) (and_from (row_in_parts m l) (row_in_parts m v) h.0 h.1.0)
  node-covered (pack names es n) o h = or-covered (entry_of (pack names es n) m) (row_in_parts_of_all m es) (all-covered es h)
  node-covered (merge es n) o h = or-covered (entry_of (merge es n) m) (row_in_parts_of_all m es) (all-covered es h)
  node-covered (select s e) o h = or-covered (entry_of (select s e) m) (row_in_parts m e) h.0
  node-covered (dynamic e op k t default) o h = or-covered (entry_of (dynamic e op k t default) m) (row_in_parts m e) h.0

  column-covered : (f : Bytes) (a : A) → entry_of (get_item f root) m ≡ a ∷ [] → IsCovered (get_item f root)
  unfolding row_in_parts
  column-covered f a h = ap (λ (xs : List A). part_or xs (row_in_parts m root)) h

module _ (t : Ty) (m : List (Entry Bytes)) where
  -- each node has the columns that it touches
  abbrev pub NodesKnown : Tree → Type 0
  NodesKnown e = AllByRecursion (λ n. IsRowless n → Known t m n) (nodes_of e)

  pub own-known : (e : Tree) → NodesKnown e → IsRowless e → Known t m e
  own-known e h r = (nodes-below (λ n. IsRowless n → Known t m n) e h).0 r

  Covers : Tree → Type 0
  Covers e = IsRowless e → NodesKnown e → IsCovered m e

  pub known-covered : (e : Tree) → IsRowless e → NodesKnown e → IsCovered m e
  unfolding Covers
  known-covered = by_children Covers (λ e below. by-form e below (form e))
    where
      by-form : (e : Tree) → AllByRecursion Covers (children_of e) → Form e → Covers e
      by-form e below (is_row i) = λ h k. absurd (row-not-rowless (subst IsRowless i h))
      by-form e below (is_column f i) =
          λ h k. subst (IsCovered m) (sym i) (column-covered m f f (ap (λ (z : Tree). entry_of z m) (sym i) ∙ (own-known e k h ∙ (ap (λ (z : Tree). set_of (columns_in z)) i ∙ ap set_of (column-alone f)))))
      by-form e below (is_other i) =
          λ h k.
          let p = nodes-below (λ n. IsRowless n → Known t m n) e k in
          node-covered m e i
          (all-then (λ c. IsRowless c × NodesKnown c) Covers (IsCovered m) (children_of e) (λ c j r. r j.0 j.1)
          (all-then IsRowless NodesKnown (λ c. IsRowless c × NodesKnown c) (children_of e) (λ c x y. (x, y)) (children-rowless e i h) p.1) below)

  module _ (text : Bytes → Bytes) where
    abbrev shares_of : Tree → List (Share Bytes) → List (Share Bytes)
    shares_of e ss = (taken_from bytes_eq text m e ss).shares

    abbrev names : List (Share Bytes) → List Bytes
    names ss = annotations bytes_eq text m ss

    InOrder : Tree → Type 0
    InOrder e = IsRowless e → NodesKnown e → (ss : List (Share Bytes)) → names (shares_of e ss) ≡ joined (names ss) (columns_in e)

    after-order : (cs : List Tree) → AllByRecursion InOrder cs → AllByRecursion IsRowless cs → AllByRecursion NodesKnown cs → (ss : List (Share Bytes))
        → names (shares_after bytes_eq text m cs ss) ≡ joined (names ss) (flat_map columns_in cs)
    unfolding InOrder
    after-order [] g h k ss = refl
    after-order (c ∷ cs) g h k ss =
        after-order cs g.1 h.1 k.1 (shares_of c ss)
        ∙ (ap (λ (xs : List Bytes). joined xs (flat_map columns_in cs)) (g.0 h.0 k.0 ss) ∙ sym (joined-both (names ss) (columns_in c) (flat_map columns_in cs)))

    one-order : (e : Tree) (a : Bytes) (ss : List (Share Bytes)) → set_of (columns_in e) ≡ a ∷ [] → names (with_part bytes_eq a e ss) ≡ joined (names ss) (columns_in e)
    one-order e a ss h = annotations-with_part bytes_eq text m a e ss ∙ (ap (joined (names ss)) (sym h) ∙ joined-set (names ss) (columns_in e))

    by-columns : (e : Tree) (xs : List Bytes) (after : List (Share Bytes) → List (Share Bytes)) (ss : List (Share Bytes)) → set_of (columns_in e) ≡ xs
        → names (after ss) ≡ joined (names ss) (columns_in e) → names (shares_with bytes_eq text m e xs after ss) ≡ joined (names ss) (columns_in e)
    by-columns e [] after ss h k = k
    by-columns e (a ∷ []) after ss h k = one-order e a ss h
    by-columns e (a ∷ b ∷ xs) after ss h k = k

    -- the shares' annotations are the columns in order of first use
    pub shares-order : (e : Tree) → IsRowless e → NodesKnown e → (ss : List (Share Bytes)) → names (shares_of e ss) ≡ joined (names ss) (columns_in e)
    unfolding InOrder
    shares-order = by_children InOrder (λ e below. by-form e below (form e))
      where
        whole : (e : Tree) → IsRowless e → NodesKnown e → (ss : List (Share Bytes))
            → names (shares_of e ss) ≡ names (shares_with bytes_eq text m e (set_of (columns_in e)) (shares_after bytes_eq text m (children_of e)) ss)
        whole e h k ss =
            ap names (shares-by_children bytes_eq text m e ss)
            ∙ ap (λ (xs : List Bytes). names (shares_with bytes_eq text m e xs (shares_after bytes_eq text m (children_of e)) ss)) (own-known e k h)

        by-form : (e : Tree) → AllByRecursion InOrder (children_of e) → Form e → InOrder e
        by-form e below (is_row i) = λ h k ss. absurd (row-not-rowless (subst IsRowless i h))
        by-form e below (is_column f i) =
            λ h k ss.
            let one : set_of (columns_in e) ≡ f ∷ [] = ap (λ (z : Tree). set_of (columns_in z)) i ∙ ap set_of (column-alone f) in
            whole e h k ss
            ∙ (ap (λ (xs : List Bytes). names (shares_with bytes_eq text m e xs (shares_after bytes_eq text m (children_of e)) ss)) one ∙ one-order e f ss one)
        by-form e below (is_other i) =
            λ h k ss.
            let p = nodes-below (λ n. IsRowless n → Known t m n) e k in
            whole e h k ss
            ∙ by-columns e (set_of (columns_in e)) (shares_after bytes_eq text m (children_of e)) ss refl
            (after-order (children_of e) below (children-rowless e i h) p.1 ss ∙ ap (joined (names ss)) (sym (columns-by_children e i)))

-- a node of such an expression is such an expression, or the row
abbrev pub IsRowlessOrRow : Tree → Type 0
IsRowlessOrRow n = IsRowless n ⊎ (n ≡ root)

children-rowless-or : (e : Tree) → IsRowlessOrRow e → AllByRecursion IsRowlessOrRow (children_of e)
children-rowless-or e (inr h) = subst (λ (z : Tree). AllByRecursion IsRowlessOrRow (children_of z)) (sym h) tt
children-rowless-or e (inl h) = by-form (form e)
  where
    by-form : Form e → AllByRecursion IsRowlessOrRow (children_of e)
    by-form (is_row i) = subst (λ (z : Tree). AllByRecursion IsRowlessOrRow (children_of z)) (sym i) tt
    by-form (is_column f i) = subst (λ (z : Tree). AllByRecursion IsRowlessOrRow (children_of z)) (sym i) (inr refl, tt)
    by-form (is_other i) = all-map IsRowless IsRowlessOrRow (children_of e) (λ c r. inl r) (children-rowless e i h)

pub nodes-rowless : (e : Tree) → IsRowless e → AllByRecursion IsRowlessOrRow (nodes_of e)
nodes-rowless e h = each_node IsRowlessOrRow children-rowless-or e (inl h)

pub columns_cover_rowless : ColumnsCoverRowless
columns_cover_rowless t e h = known-covered t (columns_map t e) e h (columns-known t e h)
