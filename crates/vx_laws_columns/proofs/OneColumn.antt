-- Over a type of one column the row itself has this column, so it stands in parts wherever it stands.
use Rattle.std.proofs.Common.{◌≡◌, refl, ap, sym, ◌∙◌, Bool, true, false, cond, ◌⊎◌, inl, inr, subst, List, [], ◌∷◌, ◌++◌}
use Rattle.std.specs.List.{flat_map, AllByRecursion}
use Rattle.std.specs.Str.{bytes_eq}
use Rattle.std.proofs.lemmas.Bool.{or_left}
use Rattle.vx_dtype.specs.Types.{Bytes, Ty}
use Rattle.vx_expr.specs.Children.{is_root_tree}
use Rattle.vx_expr.specs.Equal.{tree_eq}
use Rattle.vx_expr.specs.EqualLaws.{tree_decides}
use Rattle.vx_expr.specs.Trees.{Tree, root, get_item, children_of}
use Rattle.vx_semantics.specs.Typing.{names_in}
use Rattle.vx_passes.specs.Annotating.{Entry, entry_of, with_annotations, annotated_down, annotated_up, annotated_from, column_annotation}
use Rattle.vx_laws.proofs.Inverting.{bytes_eq-itself}
use Rattle.vx_laws.proofs.EachNode.{by_children}
use Rattle.vx_laws_parts.proofs.Shown.{is_of_row}
use Rattle.vx_laws_parts.specs.Taking.{part_or, row_in_parts}
use Rattle.vx_laws_columns.specs.Columns.{OneColumnCovers}
use Rattle.vx_laws_columns.proofs.Sets.{joined, one-known}
use Rattle.vx_laws_columns.proofs.Rows.{Form, is_row, is_column, is_other, form, IsRowless, column-rowless}
use Rattle.vx_laws_columns.proofs.Entries.{columns_map, after, annotated-by_children, entry-with, no-annotation}
use Rattle.vx_laws_columns.proofs.Covered.{IsCovered, or-covered, node-covered, columns_cover_rowless}
use Rattle.vx_laws_columns.proofs.Remade.{rowless-node}

module _ (t : Ty) (c : Bytes) (one : names_in t ≡ c ∷ []) where
  abbrev visited : Tree → List (Entry Bytes) → List (Entry Bytes)
  visited e m = annotated_from bytes_eq (column_annotation t) e m

  -- the row has its column, or has none
  abbrev HasColumn : List (Entry Bytes) → Type 0
  HasColumn m = entry_of root m ≡ c ∷ []

  abbrev MayHaveColumn : List (Entry Bytes) → Type 0
  MayHaveColumn m = (entry_of root m ≡ []) ⊎ HasColumn m

  -- a visit keeps the row's column, and gives it where the row stands otherwise than straight below fields
  record Goes (rowless_so : Type 0) (m k : List (Entry Bytes)) : Type 0 where
    pub may : MayHaveColumn k
    pub kept : HasColumn m → HasColumn k
    pub has : rowless_so ⊎ HasColumn k

  not-row : (e : Tree) → is_root_tree e ≡ false → tree_eq root e ≡ false
  not-row e h = by-test (tree_eq root e) refl
    where
      by-test : (b : Bool) → tree_eq root e ≡ b → b ≡ false
      by-test false i = refl
      by-test true i = let no : true ≡ false = ap is_root_tree ((tree_decides root e).0 i) ∙ h in let wrong : ⊥ = cc in absurd wrong

  other-kept : (e : Tree) → is_root_tree e ≡ false → (ys : List Bytes) (m : List (Entry Bytes)) → entry_of root (with_annotations bytes_eq e ys m) ≡ entry_of root m
  other-kept e h ys m =
      entry-with bytes_eq (column_annotation t) e root ys m ∙ ap (λ (b : Bool). cond b (joined (entry_of e m) ys) (entry_of root m)) (not-row e h)

  same-entry : (P : Type 0) (m k l : List (Entry Bytes)) → entry_of root l ≡ entry_of root k → Goes P m k → Goes P m l
  same-entry P m k l e g = record { may = by-may g.may; kept = λ h. e ∙ g.kept h; has = by-has g.has }
    where
      by-may : MayHaveColumn k → MayHaveColumn l
      by-may (inl i) = inl (e ∙ i)
      by-may (inr i) = inr (e ∙ i)

      by-has : P ⊎ HasColumn k → P ⊎ HasColumn l
      by-has (inl p) = inl p
      by-has (inr i) = inr (e ∙ i)

  Visits : Tree → Type 0
  Visits e = (m : List (Entry Bytes)) → MayHaveColumn m → Goes (IsRowless e) m (visited e m)

  after-visits : (cs : List Tree) → AllByRecursion Visits cs → (m : List (Entry Bytes)) → MayHaveColumn m → Goes (AllByRecursion IsRowless cs) m (after bytes_eq (column_annotation t) cs m)
  unfolding Visits
  after-visits [] g m h = record { may = h; kept = λ i. i; has = inl tt }
  after-visits (e ∷ cs) g m h =
      let first = g.0 m h in
      let rest = after-visits cs g.1 (visited e m) first.may in
      record { may = rest.may; kept = λ i. rest.kept (first.kept i); has = by-has first.has rest.has (rest.kept) }
    where
      by-has : IsRowless e ⊎ HasColumn (visited e m) → AllByRecursion IsRowless cs ⊎ HasColumn (after bytes_eq (column_annotation t) cs (visited e m))
          → (HasColumn (visited e m) → HasColumn (after bytes_eq (column_annotation t) cs (visited e m)))
          → AllByRecursion IsRowless (e ∷ cs) ⊎ HasColumn (after bytes_eq (column_annotation t) cs (visited e m))
      by-has (inl p) (inl q) k = inl (p, q)
      by-has (inl p) (inr q) k = inr q
      by-has (inr p) q k = inr (k p)

  row-visits : Visits root
  unfolding Visits annotated_from
  row-visits m h =
      let k = with_annotations bytes_eq root (c ∷ []) m in
      let own : tree_eq root root ≡ true = (tree_decides root root).1 refl in
      let first : HasColumn k =
      entry-with bytes_eq (column_annotation t) root root (c ∷ []) m
      ∙ (ap (λ (b : Bool). cond b (joined (entry_of root m) (c ∷ [])) (entry_of root m)) own ∙ by-may h) in
      let second : HasColumn (with_annotations bytes_eq root [] k) =
      entry-with bytes_eq (column_annotation t) root root [] k ∙ (ap (λ (b : Bool). cond b (entry_of root k) (entry_of root k)) own ∙ first) in
      let is : visited root m ≡ with_annotations bytes_eq root [] k = ap (λ (xs : List Bytes). annotated_up bytes_eq root (annotated_down bytes_eq root xs (λ l. l) m)) one in
      let last : HasColumn (visited root m) = ap (entry_of root) is ∙ second in
      record { may = inr last; kept = λ i. last; has = inr last }
    where
      by-may : MayHaveColumn m → joined (entry_of root m) (c ∷ []) ≡ c ∷ []
      by-may (inl i) = ap (λ (xs : List Bytes). joined xs (c ∷ [])) i
      by-may (inr i) = ap (λ (xs : List Bytes). joined xs (c ∷ [])) i ∙ one-known (c ∷ []) c (or_left (bytes_eq c c) false (bytes_eq-itself c))

  column-visits : (f : Bytes) → Visits (get_item f root)
  unfolding Visits annotated_from
  column-visits f m h =
      let e = get_item f root in
      let k = with_annotations bytes_eq e (f ∷ []) m in
      let same : entry_of root (visited e m) ≡ entry_of root m = other-kept e refl (entry_of root k ++ []) k ∙ other-kept e refl (f ∷ []) m in
      same-entry (IsRowless e) m m (visited e m) same (record { may = h; kept = λ i. i; has = inl (column-rowless f) })

  other-visits : (e : Tree) → is_of_row e ≡ false → AllByRecursion Visits (children_of e) → Visits e
  unfolding Visits
  other-visits e o below m h =
      let cs = children_of e in
      let k = after bytes_eq (column_annotation t) cs m in
      let all = after-visits cs below m h in
      let is : visited e m ≡ with_annotations bytes_eq e (flat_map (λ d. entry_of d k) cs) k =
      annotated-by_children bytes_eq (column_annotation t) e m
      ∙ ap (λ (xs : List Bytes). annotated_up bytes_eq e (annotated_down bytes_eq e xs (after bytes_eq (column_annotation t) cs) m)) (no-annotation t e o) in
      let same : entry_of root (visited e m) ≡ entry_of root k = ap (entry_of root) is ∙ other-kept e (no-root e o) (flat_map (λ d. entry_of d k) cs) k in
      same-entry (IsRowless e) m k (visited e m) same (record { may = all.may; kept = all.kept; has = by-has k all.has })
    where
      no-root : (n : Tree) → is_of_row n ≡ false → is_root_tree n ≡ false
      no-root root i = let no : ⊥ = cc in absurd no
      no-root _ i = refl

      by-has : (k : List (Entry Bytes)) → AllByRecursion IsRowless (children_of e) ⊎ HasColumn k → IsRowless e ⊎ HasColumn k
      by-has k (inl p) = inl (rowless-node e (no-root e o) p)
      by-has k (inr q) = inr q

  visits : (e : Tree) → Visits e
  unfolding Visits
  visits = by_children Visits (λ e below. by-form e below (form e))
    where
      by-form : (e : Tree) → AllByRecursion Visits (children_of e) → Form e → Visits e
      by-form e below (is_row i) = subst Visits (sym i) row-visits
      by-form e below (is_column f i) = subst Visits (sym i) (column-visits f)
      by-form e below (is_other i) = other-visits e i below

  -- where the row has its column, each expression is covered
  covers : (m : List (Entry Bytes)) → HasColumn m → (e : Tree) → IsCovered m e
  unfolding row_in_parts
  covers m h = by_children (IsCovered m) (λ e below. by-form e below (form e))
    where
      row-covered : row_in_parts m root ≡ true
      row-covered = ap (λ (xs : List Bytes). part_or xs false) h

      by-form : (e : Tree) → AllByRecursion (IsCovered m) (children_of e) → Form e → IsCovered m e
      by-form e below (is_row i) = subst (IsCovered m) (sym i) row-covered
      by-form e below (is_column f i) = subst (IsCovered m) (sym i) (or-covered m (entry_of (get_item f root) m) (row_in_parts m root) row-covered)
      by-form e below (is_other i) = node-covered m e i below

pub one_column_covers : OneColumnCovers
unfolding Visits
one_column_covers t e c one = by-has (visits t c one e [] (inl refl)).has
  where
    by-has : IsRowless e ⊎ HasColumn t c one (columns_map t e) → row_in_parts (columns_map t e) e ≡ true
    by-has (inl r) = columns_cover_rowless t e r
    by-has (inr h) = covers t c one (columns_map t e) h e
