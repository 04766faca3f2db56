-- The columns that an expression of simple nodes asks are the fields of the row in it, in order; a strictly typed one has them in its scope.
use Rattle.std.proofs.Common.{arith, ◌≡◌, refl, ap, sym, ◌∙◌, Bool, true, false, cond, ◌&&◌, ◌||◌, Some, subst, List, [], ◌∷◌, ◌++◌, length, suc, Ok}
use Rattle.std.specs.List.{flat_map, AllByRecursion}
use Rattle.std.specs.Str.{bytes_eq}
use Rattle.std.proofs.lemmas.Bool.{and_parts}
use Rattle.std.proofs.lemmas.Grind.{flat_map-append}
use Rattle.std.proofs.lemmas.List.Folds.{list_any-append}
use Rattle.vx_dtype.specs.Types.{Bytes, Ty, struct_ty, Fields, no_fields, field}
use Rattle.vx_dtype.specs.TypeRules.{has_name, field_names, field_type, no_name_twice}
use Rattle.vx_expr.specs.Trees.{Tree, root, literal, get_item, binary, not_of, is_null_of, like, between, cast, list_contains, pack, merge, select, dynamic, Trees, no_trees, tree, listed, children_of}
use Rattle.vx_semantics.specs.Typing.{duplicate_field, and_then, item_type, pack_type, typed_of, all_typed, names_in}
use Rattle.vx_semantics.specs.Asked.{Asking, column_in, asked, asked_in_pack}
use Rattle.vx_laws.proofs.Inverting.{and_then-ok, unless-ok, bytes_same}
use Rattle.vx_laws.proofs.Preserving.{distinct_type-ok}
use Rattle.vx_laws.proofs.Structs.{item_type-ok}
use Rattle.vx_laws.proofs.EachNode.{by_children, IsTyped, children-typed, one-flat, two-flat, three-flat, all-then}
use Rattle.vx_laws_removing.specs.Simplest.{nodes_below, nodes_in, all_nodes, is_simple}
use Rattle.vx_laws_parts.proofs.Shown.{is_of_row, is_pack, pack-even, simple-item, never-pack}
use Rattle.vx_laws_columns.proofs.Rows.{columns_in, Form, is_row, is_column, is_other, form, columns-by_children, IsRowless, children-rowless, row-not-rowless, column-alone}

-- an expression of simple nodes
abbrev pub IsSimple : Tree → Type 0
IsSimple e = all_nodes is_simple e ≡ true

listed-simple : (es : Trees) → nodes_in is_simple es ≡ true → AllByRecursion IsSimple (listed es)
unfolding nodes_below
listed-simple no_trees h = tt
listed-simple (tree e es) h = let p = and_parts (all_nodes is_simple e) (nodes_in is_simple es) h in (p.0, listed-simple es p.1)

pub children-simple : (e : Tree) → IsSimple e → AllByRecursion IsSimple (children_of e)
unfolding nodes_below
children-simple root h = tt
children-simple (literal s) h = tt
children-simple (get_item f e) h = ((and_parts (is_simple (get_item f e)) (all_nodes is_simple e) h).1, tt)
children-simple (binary l op r) h = let p = and_parts (all_nodes is_simple l) (all_nodes is_simple r) h in (p.0, (p.1, tt))
children-simple (not_of e) h = (h, tt)
children-simple (is_null_of e) h = (h, tt)
children-simple (like e p negated fold_case) h = let q = and_parts (all_nodes is_simple e) (all_nodes is_simple p) h in (q.0, (q.1, tt))
children-simple (between e lower upper options) h =
    let p = and_parts (all_nodes is_simple e) (all_nodes is_simple lower && all_nodes is_simple upper) h in
    let q = and_parts (all_nodes is_simple lower) (all_nodes is_simple upper) p.1 in
    (p.0, (q.0, (q.1, tt)))
children-simple (cast e t) h = (h, tt)
children-simple (list_contains l v) h = let p = and_parts (all_nodes is_simple l) (all_nodes is_simple v) h in (p.0, (p.1, tt))
children-simple (pack names es n) h = listed-simple es h
children-simple (merge es n) h = let no : ⊥ = cc in absurd no
children-simple (select s e) h = let no : ⊥ = cc in absurd no
children-simple (dynamic e op k t default) h = (h, tt)

-- the columns that are asked
abbrev pub columns_asked : List Asking → List Bytes
columns_asked asks = flat_map column_in asks

both-asked : (xs ys : List Asking) (a b : List Bytes) → columns_asked xs ≡ a → columns_asked ys ≡ b → columns_asked (xs ++ ys) ≡ a ++ b
both-asked xs ys a b h k = flat_map-append column_in xs ys ∙ (ap (λ (zs : List Bytes). zs ++ columns_asked ys) h ∙ ap (λ (zs : List Bytes). a ++ zs) k)

module _ (t : Ty) where
  -- the columns that it asks, along no path but where it is no pack, are its columns
  AsksOwn : Tree → Type 0
  AsksOwn e = IsTyped t e → IsSimple e → IsRowless e → (path : List Bytes) → (is_pack e ≡ true → path ≡ []) → columns_asked (asked t e path) ≡ columns_in e

  -- for the empty path
  abbrev AsksAlone : Tree → Type 0
  AsksAlone e = columns_asked (asked t e []) ≡ columns_in e

  packed-asked : (names : List Bytes) (es : Trees) → length names ≡ length (listed es) → AllByRecursion AsksAlone (listed es)
      → columns_asked (asked_in_pack t names es []) ≡ flat_map columns_in (listed es)
  unfolding asked
  packed-asked names no_trees l h = refl
  packed-asked [] (tree e es) l h = absurd (omega arith)
  packed-asked (f ∷ names) (tree e es) l h =
      both-asked (asked t e []) (asked_in_pack t names es []) (columns_in e) (flat_map columns_in (listed es)) h.0 (packed-asked names es (omega arith) h.1)

  listed-many : (es : Trees) (us : List Ty) → all_typed t es ≡ Ok us → length (listed es) ≡ length us
  unfolding typed_of
  listed-many no_trees us h = let same : [] ≡ us = cc in ap length same
  listed-many (tree e es) us h =
      let a = and_then-ok (typed_of t e) (λ x. and_then (all_typed t es) (λ xs. Ok (x ∷ xs))) us h in
      let b = and_then-ok (all_typed t es) (λ xs. Ok (a.given ∷ xs)) us a.gave in
      let same : a.given ∷ b.given ≡ us = cc (b.gave) in
      let more : suc (length b.given) ≡ length us = ap length same in
      let rest = listed-many es b.given b.was in
      omega arith

  own-asked : (e : Tree) → is_of_row e ≡ false → IsTyped t e → IsSimple e → IsRowless e → AllByRecursion AsksOwn (children_of e) → (path : List Bytes) → (is_pack e ≡ true → path ≡ [])
      → columns_asked (asked t e path) ≡ flat_map columns_in (children_of e)
  unfolding AsksOwn asked typed_of nodes_below
  own-asked root o h s r below path p = let no : ⊥ = cc in absurd no
  own-asked (literal c) o h s r below path p = refl
  own-asked (get_item f root) o h s r below path p = let no : ⊥ = cc in absurd no
  own-asked (get_item f e) o h s r below path p =
      let q = and_parts (is_simple (get_item f e)) (all_nodes is_simple e) s in
      let k = children-typed t (get_item f e) h in
      below.0 k.0 q.1 (children-rowless (get_item f e) o r).0 (f ∷ path) (never-pack e (f ∷ path) (simple-item f e q.0)) ∙ one-flat columns_in e
  own-asked (binary l op q) o h s r below path p =
      let k = children-typed t (binary l op q) h in
      let i = children-simple (binary l op q) s in
      let j = children-rowless (binary l op q) o r in
      both-asked (asked t l []) (asked t q []) (columns_in l) (columns_in q) (below.0 k.0 i.0 j.0 [] (λ z. refl)) (below.1.0 k.1.0 i.1.0 j.1.0 [] (λ z. refl)) ∙ two-flat columns_in l q
  own-asked (not_of e) o h s r below path p =
      below.0 (children-typed t (not_of e) h).0 (children-simple (not_of e) s).0 (children-rowless (not_of e) o r).0 [] (λ z. refl) ∙ one-flat columns_in e
  own-asked (is_null_of e) o h s r below path p =
      below.0 (children-typed t (is_null_of e) h).0 (children-simple (is_null_of e) s).0 (children-rowless (is_null_of e) o r).0 [] (λ z. refl) ∙ one-flat columns_in e
  own-asked (like l q negated fold_case) o h s r below path p =
      let k = children-typed t (like l q negated fold_case) h in
      let i = children-simple (like l q negated fold_case) s in
      let j = children-rowless (like l q negated fold_case) o r in
      both-asked (asked t l []) (asked t q []) (columns_in l) (columns_in q) (below.0 k.0 i.0 j.0 [] (λ z. refl)) (below.1.0 k.1.0 i.1.0 j.1.0 [] (λ z. refl)) ∙ two-flat columns_in l q
  own-asked (between e l q options) o h s r below path p =
      let k = children-typed t (between e l q options) h in
      let i = children-simple (between e l q options) s in
      let j = children-rowless (between e l q options) o r in
      both-asked (asked t e []) (asked t l [] ++ asked t q []) (columns_in e) (columns_in l ++ columns_in q) (below.0 k.0 i.0 j.0 [] (λ z. refl))
      (both-asked (asked t l []) (asked t q []) (columns_in l) (columns_in q) (below.1.0 k.1.0 i.1.0 j.1.0 [] (λ z. refl)) (below.1.1.0 k.1.1.0 i.1.1.0 j.1.1.0 [] (λ z. refl)))
      ∙ three-flat columns_in e l q
  own-asked (cast e target) o h s r below path p =
      below.0 (children-typed t (cast e target) h).0 (children-simple (cast e target) s).0 (children-rowless (cast e target) o r).0 [] (λ z. refl) ∙ one-flat columns_in e
  own-asked (list_contains l q) o h s r below path p =
      let k = children-typed t (list_contains l q) h in
      let i = children-simple (list_contains l q) s in
      let j = children-rowless (list_contains l q) o r in
      both-asked (asked t l []) (asked t q []) (columns_in l) (columns_in q) (below.0 k.0 i.0 j.0 [] (λ z. refl)) (below.1.0 k.1.0 i.1.0 j.1.0 [] (λ z. refl)) ∙ two-flat columns_in l q
  own-asked (pack names es n) o h s r below path p =
      let a = and_then-ok (all_typed t es) (pack_type names n) h.0 h.1 in
      let even : length names ≡ length (listed es) = pack-even names n a.given h.0 a.gave ∙ sym (listed-many es a.given a.was) in
      let k = children-typed t (pack names es n) h in
      let i = children-simple (pack names es n) s in
      let j = children-rowless (pack names es n) o r in
      let facts = all-then (IsTyped t) (λ c. IsSimple c × IsRowless c) (λ c. IsTyped t c × (IsSimple c × IsRowless c)) (listed es) (λ c x y. (x, y)) k
      (all-then IsSimple IsRowless (λ c. IsSimple c × IsRowless c) (listed es) (λ c x y. (x, y)) i j) in
      ap (λ (z : List Bytes). columns_asked (asked t (pack names es n) z)) (p refl)
      ∙ packed-asked names es even
      (all-then AsksOwn (λ c. IsTyped t c × (IsSimple c × IsRowless c)) AsksAlone (listed es) (λ c x y. x y.0 y.1.0 y.1.1 [] (λ z. refl)) below facts)
  own-asked (merge es n) o h s r below path p = let no : ⊥ = cc in absurd no
  own-asked (select c e) o h s r below path p = let no : ⊥ = cc in absurd no
  own-asked (dynamic e op k slot default) o h s r below path p =
      below.0 (children-typed t (dynamic e op k slot default) h).0 (children-simple (dynamic e op k slot default) s).0 (children-rowless (dynamic e op k slot default) o r).0 [] (λ z. refl)
      ∙ one-flat columns_in e

  asks-own : (e : Tree) → AsksOwn e
  unfolding AsksOwn asked
  asks-own = by_children AsksOwn (λ e below. by-form e below (form e))
    where
      by-form : (e : Tree) → AllByRecursion AsksOwn (children_of e) → Form e → AsksOwn e
      by-form e below (is_row i) = λ h s r path p. absurd (row-not-rowless (subst IsRowless i r))
      by-form e below (is_column f i) =
          λ h s r path p. ap (λ (z : Tree). columns_asked (asked t z path)) i ∙ sym (ap columns_in i ∙ column-alone f)
      by-form e below (is_other i) = λ h s r path p. own-asked e i h s r below path p ∙ sym (columns-by_children e i)

  -- the columns that it asks are its columns, in order
  pub asked-own : (e : Tree) → IsTyped t e → IsSimple e → IsRowless e → columns_asked (asked t e []) ≡ columns_in e
  unfolding AsksOwn
  asked-own e h s r = asks-own e h s r [] (λ z. refl)

  -- a name in a scope whose structs have no name twice
  abbrev pub InScope : Bytes → Type 0
  InScope c = (has_name c (names_in t) ≡ true) × (no_name_twice t ≡ true)

  typed-has : (f : Bytes) (fs : Fields) (w : Ty) → field_type f fs ≡ Some w → has_name f (field_names fs) ≡ true
  typed-has f no_fields w h = let no : ⊥ = cc in absurd no
  typed-has f (field g u fs) w h = by-test (bytes_eq f g) h (typed-has f fs w)
    where
      by-test : (b : Bool) → cond b (Some u) (field_type f fs) ≡ Some w → (field_type f fs ≡ Some w → has_name f (field_names fs) ≡ true) → (b || has_name f (field_names fs)) ≡ true
      by-test true k r = refl
      by-test false k r = r k

  column-in_scope : (f : Bytes) → IsTyped t (get_item f root) → InScope f
  unfolding typed_of
  column-in_scope f h =
      let a = and_then-ok (typed_of t root) (item_type f) h.0 h.1 in
      let d = unless-ok (no_name_twice t) duplicate_field (Ok t) a.given a.was in
      let k = item_type-ok f a.given h.0 a.gave in
      let is : t ≡ struct_ty k.fields k.nullability = distinct_type-ok t a.given a.was ∙ k.is in
      (ap (λ (z : Ty). has_name f (names_in z)) is ∙ typed-has f k.fields k.own k.found, d.holds)

  HasItsColumns : Tree → Type 0
  HasItsColumns e = IsTyped t e → IsRowless e → (c : Bytes) → has_name c (columns_in e) ≡ true → InScope c

  below-in_scope : (cs : List Tree) → AllByRecursion HasItsColumns cs → AllByRecursion (IsTyped t) cs → AllByRecursion IsRowless cs → (c : Bytes) → has_name c (flat_map columns_in cs) ≡ true → InScope c
  unfolding HasItsColumns
  below-in_scope [] g h r c k = let no : ⊥ = cc in absurd no
  below-in_scope (d ∷ cs) g h r c k =
      by-test (has_name c (columns_in d)) refl (sym (list_any-append (bytes_eq c) (columns_in d) (flat_map columns_in cs)) ∙ k) (below-in_scope cs g.1 h.1 r.1 c)
    where
      by-test : (b : Bool) → has_name c (columns_in d) ≡ b → (b || has_name c (flat_map columns_in cs)) ≡ true → (has_name c (flat_map columns_in cs) ≡ true → InScope c) → InScope c
      by-test true i j more = g.0 h.0 r.0 c i
      by-test false i j more = more j

  -- the columns of a strictly typed expression are in its scope, which then has no name twice
  pub columns-in_scope : (e : Tree) → IsTyped t e → IsRowless e → (c : Bytes) → has_name c (columns_in e) ≡ true → InScope c
  unfolding HasItsColumns
  columns-in_scope = by_children HasItsColumns (λ e below. by-form e below (form e))
    where
      same-name : (c f : Bytes) → (bytes_eq c f || false) ≡ true → f ≡ c
      same-name c f k = by-test (bytes_eq c f) refl k
        where
          by-test : (b : Bool) → bytes_eq c f ≡ b → (b || false) ≡ true → f ≡ c
          by-test true i j = sym (bytes_same c f i)
          by-test false i j = let no : ⊥ = cc in absurd no

      by-form : (e : Tree) → AllByRecursion HasItsColumns (children_of e) → Form e → HasItsColumns e
      by-form e below (is_row i) = λ h r c k. absurd (row-not-rowless (subst IsRowless i r))
      by-form e below (is_column f i) =
          λ h r c k.
          let own : (bytes_eq c f || false) ≡ true = sym (ap (λ (z : Tree). has_name c (columns_in z)) i ∙ ap (has_name c) (column-alone f)) ∙ k in
          subst InScope (same-name c f own) (column-in_scope f (subst (IsTyped t) i h))
      by-form e below (is_other i) =
          λ h r c k. below-in_scope (children_of e) below (children-typed t e h) (children-rowless e i r) c (sym (ap (has_name c) (columns-by_children e i)) ∙ k)
