-- Over another scope in which its columns have the same types and values, an expression breaks at the same nodes.
use Rattle.std.proofs.Common.{◌≡◌, refl, ap, sym, ◌∙◌, Bool, ◌||◌, subst, List, [], ◌∷◌}
use Rattle.std.specs.List.{flat_map, AllByRecursion, list_any}
use Rattle.vx_dtype.specs.Types.{Bytes, Ty}
use Rattle.vx_dtype.specs.Values.{Val}
use Rattle.vx_expr.specs.Trees.{Tree, root, get_item, binary, cast, children_of}
use Rattle.vx_semantics.specs.Meaning.{Slots}
use Rattle.vx_semantics.specs.Breaks.{Cause, breaks_by}
use Rattle.vx_semantics.specs.Nodes.{nodes_of, some_node}
use Rattle.vx_laws.proofs.EachNode.{by_children, IsTyped}
use Rattle.vx_laws_simplifying.specs.Asking.{breaks_along}
use Rattle.vx_laws_simplifying.proofs.Observing.{breaking, breaking-along}
use Rattle.vx_laws_parts.proofs.Shown.{shown, breaking-shows}
use Rattle.vx_laws_columns.proofs.Rows.{columns_in, Form, is_row, is_column, is_other, form, columns-by_children, IsRowless, children-rowless, row-not-rowless}
use Rattle.vx_laws_columns.proofs.AskedColumns.{IsSimple}
use Rattle.vx_laws_columns.proofs.OtherScope.{Same, ColumnsSame, columns-apart, moved}
use Rattle.vx_laws_columns.proofs.Remade.{some-by_children, breaks_over_row, breaks_over_parts, sums-across, casts-across}

-- of a typed expression of simple nodes each node is asked
pub each-asked : (t : Ty) (slots : Slots) (row : Val) (cause : Cause) (e : Tree) → IsTyped t e → IsSimple e → IsRowless e → breaks_along cause t slots row e [] ≡ some_node (breaks_by cause t slots row) e
each-asked t slots row cause e h s r =
    breaking-along cause t slots row e []
    ∙ shown t (breaking cause t slots row) (breaks_by cause t slots row) (breaking-shows cause t slots row) e h.0 h.1 s r [] (λ i. refl)

module _ (t u : Ty) (slots : Slots) (row made : Val) (cause : Cause) where
  abbrev here : Tree → Bool
  here n = breaks_over_row t u slots row made cause n

  abbrev there : Tree → Bool
  there n = breaks_over_parts t u slots row made cause n

  node-breaks : (e : Tree) → AllByRecursion (Same t u slots row made) (children_of e) → there e ≡ here e
  node-breaks (binary l op r) h = sums-across t u slots row made cause l l op r r h.0.means h.1.0.means
  node-breaks (cast e target) h = casts-across t u slots row made cause e e target h.0.means
  node-breaks _ h = refl

  Agrees : Tree → Type 0
  Agrees e = IsRowless e → ColumnsSame t u slots row made (columns_in e) → some_node there e ≡ some_node here e

  any-agrees : (cs : List Tree) → AllByRecursion Agrees cs → AllByRecursion IsRowless cs → ColumnsSame t u slots row made (flat_map columns_in cs)
      → list_any (some_node there) cs ≡ list_any (some_node here) cs
  unfolding Agrees
  any-agrees [] g h k = refl
  any-agrees (c ∷ cs) g h k =
      let p = columns-apart t u slots row made c cs k in
      ap (λ (b : Bool). b || list_any (some_node there) cs) (g.0 h.0 p.0) ∙ ap (λ (b : Bool). some_node here c || b) (any-agrees cs g.1 h.1 p.1)

  column-agrees : (f : Bytes) → some_node there (get_item f root) ≡ some_node here (get_item f root)
  unfolding nodes_of
  column-agrees f = refl

  -- some node breaks there exactly where one does here
  pub some-agrees : (e : Tree) → IsRowless e → ColumnsSame t u slots row made (columns_in e) → some_node there e ≡ some_node here e
  unfolding Agrees
  some-agrees = by_children Agrees (λ e below. by-form e below (form e))
    where
      by-form : (e : Tree) → AllByRecursion Agrees (children_of e) → Form e → Agrees e
      by-form e below (is_row i) = λ h k. absurd (row-not-rowless (subst IsRowless i h))
      by-form e below (is_column f i) = λ h k. ap (some_node there) i ∙ (column-agrees f ∙ sym (ap (some_node here) i))
      by-form e below (is_other i) =
          λ h k.
          let cs = children_of e in
          let j = subst (ColumnsSame t u slots row made) (columns-by_children e i) k in
          let r = children-rowless e i h in
          some-by_children there e
          ∙ (ap (λ (b : Bool). b || list_any (some_node there) cs) (node-breaks e (each-same cs r j))
          ∙ (ap (λ (b : Bool). here e || b) (any-agrees cs below r j) ∙ sym (some-by_children here e)))
        where
          each-same : (cs : List Tree) → AllByRecursion IsRowless cs → ColumnsSame t u slots row made (flat_map columns_in cs) → AllByRecursion (Same t u slots row made) cs
          each-same [] r j = tt
          each-same (c ∷ cs) r j = let p = columns-apart t u slots row made c cs j in (moved t u slots row made c r.0 p.0, each-same cs r.1 p.1)
