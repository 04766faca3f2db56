-- The entries of the map of columns: where the row stands only straight below fields, each node has the columns that it touches.
use Rattle.std.proofs.Common.{◌≡◌, refl, ap, sym, ◌∙◌, Bool, true, false, cond, ◌⊎◌, inl, inr, subst, List, [], ◌∷◌, ◌++◌}
use Rattle.std.specs.List.{flat_map, AllByRecursion}
use Rattle.std.specs.Str.{bytes_eq}
use Rattle.std.proofs.lemmas.Bool.{or_left}
use Rattle.vx_dtype.specs.Types.{Bytes, Ty}
use Rattle.vx_expr.specs.Equal.{tree_eq}
use Rattle.vx_expr.specs.EqualLaws.{tree_decides}
use Rattle.vx_expr.specs.Trees.{Tree, root, literal, get_item, binary, not_of, is_null_of, like, between, cast, list_contains, pack, merge, select, dynamic, Trees, no_trees, tree, listed, children_of}
use Rattle.vx_semantics.specs.Nodes.{nodes_of}
use Rattle.vx_passes.specs.Annotating.{Entry, joined_sets, entry_of, with_annotations, annotated_down, annotated_up, annotated_node, annotated_from, all_annotated_from, annotated, column_annotation}
use Rattle.vx_laws.proofs.Inverting.{bytes_eq-itself}
use Rattle.vx_laws.proofs.EachNode.{by_children, nodes-by_children, all-map, all-flat}
use Rattle.vx_laws_parts.proofs.Shown.{is_of_row}
use Rattle.vx_laws_columns.proofs.Sets.{joined, set_of, joined-sets, set-twice, one-known}
use Rattle.vx_laws_columns.proofs.Rows.{columns_in, Form, is_row, is_column, is_other, form, columns-by_children, IsRowless, children-rowless, row-not-rowless, column-alone}

module _ {A : Type 0} (same : A → A → Bool) (annotate : Tree → List A) where
  -- the map after a visit of several expressions
  abbrev pub after : List Tree → List (Entry A) → List (Entry A)
  after [] m = m
  after (c ∷ cs) m = after cs (annotated_from same annotate c m)

  listed-after : (es : Trees) (m : List (Entry A)) → all_annotated_from same annotate es m ≡ after (listed es) m
  unfolding annotated_from
  listed-after no_trees m = refl
  listed-after (tree e es) m = listed-after es (annotated_from same annotate e m)

  by-visit : (e : Tree) (xs : List A) (visit others : List (Entry A) → List (Entry A)) (m : List (Entry A)) → visit m ≡ others m
      → annotated_up same e (annotated_down same e xs visit m) ≡ annotated_up same e (annotated_down same e xs others m)
  by-visit e [] visit others m h = ap (annotated_up same e) h
  by-visit e (x ∷ xs) visit others m h = refl

  -- the map after a visit of an expression, by its children
  pub annotated-by_children : (e : Tree) (m : List (Entry A)) → annotated_from same annotate e m ≡ annotated_node same annotate e (after (children_of e)) m
  unfolding annotated_from
  annotated-by_children root m = refl
  annotated-by_children (literal s) m = refl
  annotated-by_children (get_item f e) m = refl
  annotated-by_children (binary l op r) m = refl
  annotated-by_children (not_of e) m = refl
  annotated-by_children (is_null_of e) m = refl
  annotated-by_children (like e p negated fold_case) m = refl
  annotated-by_children (between e lower upper options) m = refl
  annotated-by_children (cast e t) m = refl
  annotated-by_children (list_contains l v) m = refl
  annotated-by_children (pack names es n) m = by-visit (pack names es n) (annotate (pack names es n)) (all_annotated_from same annotate es) (after (listed es)) m (listed-after es m)
  annotated-by_children (merge es n) m = by-visit (merge es n) (annotate (merge es n)) (all_annotated_from same annotate es) (after (listed es)) m (listed-after es m)
  annotated-by_children (select s e) m = refl
  annotated-by_children (dynamic e op k t default) m = refl

  -- the entry of an expression in a map that got annotations
  pub entry-with : (e n : Tree) (ys : List A) (m : List (Entry A)) → entry_of n (with_annotations same e ys m) ≡ cond (tree_eq n e) (joined_sets same (entry_of e m) ys) (entry_of n m)
  entry-with e n ys [] = refl
  entry-with e n ys (x ∷ xs) = by-test (tree_eq e x.expression) refl (entry-with e n ys xs)
    where
      by-here : (p : Bool) (old new : List A) → cond p new (entry_of n xs) ≡ cond p new (cond p old (entry_of n xs))
      by-here true old new = refl
      by-here false old new = refl

      by-later : (p q : Bool) (new : List A) → tree_eq n e ≡ p → tree_eq n x.expression ≡ q → tree_eq e x.expression ≡ false
          → cond q x.annotations (cond p new (entry_of n xs)) ≡ cond p new (cond q x.annotations (entry_of n xs))
      by-later true true new h k i =
          let e_same : n ≡ e = (tree_decides n e).0 h in
          let x_same : n ≡ x.expression = (tree_decides n x.expression).0 k in
          let both : tree_eq e x.expression ≡ true = (tree_decides e x.expression).1 (sym e_same ∙ x_same) in
          let no : true ≡ false = sym both ∙ i in let wrong : ⊥ = cc in absurd wrong
      by-later true false new h k i = refl
      by-later false true new h k i = refl
      by-later false false new h k i = refl

      by-test : (b : Bool) → tree_eq e x.expression ≡ b
          → entry_of n (with_annotations same e ys xs) ≡ cond (tree_eq n e) (joined_sets same (entry_of e xs) ys) (entry_of n xs)
          → entry_of n (cond b (record { expression = x.expression; annotations = joined_sets same x.annotations ys } ∷ xs) (x ∷ with_annotations same e ys xs))
          ≡ cond (tree_eq n e) (joined_sets same (cond b x.annotations (entry_of e xs)) ys) (entry_of n (x ∷ xs))
      by-test true h r =
          let here : e ≡ x.expression = (tree_decides e x.expression).0 h in
          by-here (tree_eq n x.expression) x.annotations (joined_sets same x.annotations ys)
          ∙ ap (λ (z : Tree). cond (tree_eq n z) (joined_sets same x.annotations ys) (cond (tree_eq n x.expression) x.annotations (entry_of n xs))) (sym here)
      by-test false h r =
          ap (λ (zs : List A). cond (tree_eq n x.expression) x.annotations zs) r
          ∙ by-later (tree_eq n e) (tree_eq n x.expression) (joined_sets same (entry_of e xs) ys) refl refl h

module _ (t : Ty) where
  -- the map of the columns of an expression
  abbrev pub columns_map : Tree → List (Entry Bytes)
  columns_map e = annotated bytes_eq (column_annotation t) e

  abbrev visited : Tree → List (Entry Bytes) → List (Entry Bytes)
  visited e m = annotated_from bytes_eq (column_annotation t) e m

  -- a node has the columns that it touches
  abbrev pub Known : List (Entry Bytes) → Tree → Type 0
  Known m n = entry_of n m ≡ set_of (columns_in n)

  -- each node has none or these, the row none
  record Right (m : List (Entry Bytes)) : Type 0 where
    pub row : entry_of root m ≡ []
    pub other : (n : Tree) → IsRowless n → (entry_of n m ≡ []) ⊎ Known m n

  record Added (e : Tree) (m k : List (Entry Bytes)) : Type 0 where
    pub right : Right k
    pub kept : (n : Tree) → Known m n → Known k n
    pub known : Known k e

  added : (e : Tree) (ys : List Bytes) (m : List (Entry Bytes)) → IsRowless e → Right m → joined (entry_of e m) ys ≡ set_of (columns_in e) → Added e m (with_annotations bytes_eq e ys m)
  added e ys m h r j = record {
    right = record {
      row = at root ∙ row-other (tree_eq root e) refl;
      other = λ n i. by-test n (tree_eq n e) refl (r.other n i);
    };
    kept = λ n k. at n ∙ kept-by n (tree_eq n e) refl k;
    known = at e ∙ ap (λ (b : Bool). cond b (set_of (columns_in e)) (entry_of e m)) ((tree_decides e e).1 refl);
  }
    where
      at : (n : Tree) → entry_of n (with_annotations bytes_eq e ys m) ≡ cond (tree_eq n e) (set_of (columns_in e)) (entry_of n m)
      at n = entry-with bytes_eq (column_annotation t) e n ys m ∙ ap (λ (zs : List Bytes). cond (tree_eq n e) zs (entry_of n m)) j

      row-other : (b : Bool) → tree_eq root e ≡ b → cond b (set_of (columns_in e)) (entry_of root m) ≡ []
      row-other true i = absurd (row-not-rowless (subst IsRowless (sym ((tree_decides root e).0 i)) h))
      row-other false i = r.row

      kept-by : (n : Tree) (b : Bool) → tree_eq n e ≡ b → Known m n → cond b (set_of (columns_in e)) (entry_of n m) ≡ set_of (columns_in n)
      kept-by n true i k = ap (λ (z : Tree). set_of (columns_in z)) (sym ((tree_decides n e).0 i))
      kept-by n false i k = k

      by-test : (n : Tree) (b : Bool) → tree_eq n e ≡ b → (entry_of n m ≡ []) ⊎ Known m n
          → (entry_of n (with_annotations bytes_eq e ys m) ≡ []) ⊎ Known (with_annotations bytes_eq e ys m) n
      by-test n true i k =
          inr (at n ∙ (ap (λ (b : Bool). cond b (set_of (columns_in e)) (entry_of n m)) i ∙ ap (λ (z : Tree). set_of (columns_in z)) (sym ((tree_decides n e).0 i))))
      by-test n false i (inl k) = inl (at n ∙ (ap (λ (b : Bool). cond b (set_of (columns_in e)) (entry_of n m)) i ∙ k))
      by-test n false i (inr k) = inr (at n ∙ (ap (λ (b : Bool). cond b (set_of (columns_in e)) (entry_of n m)) i ∙ k))

  abbrev KnownWhereRowless : List (Entry Bytes) → Tree → Type 0
  KnownWhereRowless m n = IsRowless n → Known m n

  record Visited (e : Tree) (m k : List (Entry Bytes)) : Type 0 where
    pub right : Right k
    pub kept : (n : Tree) → Known m n → Known k n
    pub known : AllByRecursion (KnownWhereRowless k) (nodes_of e)

  record AllVisited (cs : List Tree) (m k : List (Entry Bytes)) : Type 0 where
    pub right : Right k
    pub kept : (n : Tree) → Known m n → Known k n
    pub own : AllByRecursion (Known k) cs
    pub known : AllByRecursion (λ c. AllByRecursion (KnownWhereRowless k) (nodes_of c)) cs

  Goes : Tree → Type 0
  Goes e = IsRowless e → (m : List (Entry Bytes)) → Right m → Visited e m (visited e m)

  first-known : (k : List (Entry Bytes)) (c : Tree) → IsRowless c → AllByRecursion (KnownWhereRowless k) (nodes_of c) → Known k c
  first-known k c h a = (subst (AllByRecursion (KnownWhereRowless k)) (nodes-by_children c) a).0 h

  after-visited : (cs : List Tree) → AllByRecursion Goes cs → AllByRecursion IsRowless cs → (m : List (Entry Bytes)) → Right m → AllVisited cs m (after bytes_eq (column_annotation t) cs m)
  unfolding Goes
  after-visited [] g h m r = record { right = r; kept = λ n k. k; own = tt; known = tt }
  after-visited (c ∷ cs) g h m r =
      let first = g.0 h.0 m r in
      let rest = after-visited cs g.1 h.1 (visited c m) first.right in
      let last = after bytes_eq (column_annotation t) cs (visited c m) in
      record {
        right = rest.right;
        kept = λ n k. rest.kept n (first.kept n k);
        own = (rest.kept c (first-known (visited c m) c h.0 first.known), rest.own);
        known = (all-map (KnownWhereRowless (visited c m)) (KnownWhereRowless last) (nodes_of c) (λ n k i. rest.kept n (k i)) first.known, rest.known);
      }

  entries-same : (m : List (Entry Bytes)) (cs : List Tree) → AllByRecursion (Known m) cs → flat_map (λ c. entry_of c m) cs ≡ flat_map (λ c. set_of (columns_in c)) cs
  entries-same m [] h = refl
  entries-same m (c ∷ cs) h =
      ap (λ (xs : List Bytes). xs ++ flat_map (λ d. entry_of d m) cs) h.0 ∙ ap (λ (xs : List Bytes). set_of (columns_in c) ++ xs) (entries-same m cs h.1)

  pub no-annotation : (e : Tree) → is_of_row e ≡ false → column_annotation t e ≡ []
  no-annotation root h = let no : ⊥ = cc in absurd no
  no-annotation (get_item f root) h = let no : ⊥ = cc in absurd no
  no-annotation (get_item f _) h = refl
  no-annotation _ h = refl

  other-visited : (e : Tree) → is_of_row e ≡ false → AllByRecursion Goes (children_of e) → Goes e
  unfolding Goes
  other-visited e o below h m r =
      let cs = children_of e in
      let a = after-visited cs below (children-rowless e o h) m r in
      let k = after bytes_eq (column_annotation t) cs m in
      let ys = flat_map (λ c. entry_of c k) cs in
      let is : visited e m ≡ with_annotations bytes_eq e ys k =
      annotated-by_children bytes_eq (column_annotation t) e m
      ∙ ap (λ (xs : List Bytes). annotated_up bytes_eq e (annotated_down bytes_eq e xs (after bytes_eq (column_annotation t) cs) m)) (no-annotation e o) in
      let whole : columns_in e ≡ flat_map columns_in cs = columns-by_children e o in
      let known_ys : (xs : List Bytes) → joined xs ys ≡ joined xs (columns_in e) =
      λ xs. ap (joined xs) (entries-same k cs a.own) ∙ (joined-sets columns_in cs xs ∙ ap (joined xs) (sym whole)) in
      let new = added e ys k h a.right (by-entry k ys known_ys (a.right.other e h)) in
      let last = with_annotations bytes_eq e ys k in
      subst (Visited e m) (sym is)
      (record {
        right = new.right;
        kept = λ n j. new.kept n (a.kept n j);
        known =
            subst (AllByRecursion (KnownWhereRowless last)) (sym (nodes-by_children e)) (
              (λ i. new.known),
              all-flat (KnownWhereRowless last) nodes_of cs
                  (all-map (λ c. AllByRecursion (KnownWhereRowless k) (nodes_of c)) (λ c. AllByRecursion (KnownWhereRowless last) (nodes_of c)) cs
                  (λ c. all-map (KnownWhereRowless k) (KnownWhereRowless last) (nodes_of c) (λ n j i. new.kept n (j i))) a.known),
            );
      })
    where
      by-entry : (k : List (Entry Bytes)) (ys : List Bytes) → ((xs : List Bytes) → joined xs ys ≡ joined xs (columns_in e)) → (entry_of e k ≡ []) ⊎ Known k e → joined (entry_of e k) ys ≡ set_of (columns_in e)
      by-entry k ys f (inl i) = ap (λ (xs : List Bytes). joined xs ys) i ∙ f []
      by-entry k ys f (inr i) = ap (λ (xs : List Bytes). joined xs ys) i ∙ (f (set_of (columns_in e)) ∙ set-twice (columns_in e))

  column-visited : (f : Bytes) → Goes (get_item f root)
  unfolding Goes annotated_from nodes_of
  column-visited f h m r =
      let e = get_item f root in
      let k = with_annotations bytes_eq e (f ∷ []) m in
      let first = added e (f ∷ []) m h r (by-entry (r.other e h)) in
      let none : joined (entry_of e k) (entry_of root k ++ []) ≡ set_of (columns_in e) = ap (λ (xs : List Bytes). joined (entry_of e k) (xs ++ [])) first.right.row ∙ first.known in
      let second = added e (entry_of root k ++ []) k h first.right none in
      record {
        right = second.right;
        kept = λ n j. second.kept n (first.kept n j);
        known = ((λ i. second.known), ((λ i. absurd (row-not-rowless i)), tt));
      }
    where
      own : set_of (columns_in (get_item f root)) ≡ f ∷ []
      own = ap set_of (column-alone f)

      by-entry : (entry_of (get_item f root) m ≡ []) ⊎ Known m (get_item f root) → joined (entry_of (get_item f root) m) (f ∷ []) ≡ set_of (columns_in (get_item f root))
      by-entry (inl i) = ap (λ (xs : List Bytes). joined xs (f ∷ [])) i ∙ sym own
      by-entry (inr i) = ap (λ (xs : List Bytes). joined xs (f ∷ [])) (i ∙ own) ∙ (one-known (f ∷ []) f (or_left (bytes_eq f f) false (bytes_eq-itself f)) ∙ sym own)

  goes : (e : Tree) → Goes e
  unfolding Goes
  goes = by_children Goes (λ e below. by-form e below (form e))
    where
      by-form : (e : Tree) → AllByRecursion Goes (children_of e) → Form e → Goes e
      by-form e below (is_row i) = λ h. absurd (row-not-rowless (subst IsRowless i h))
      by-form e below (is_column f i) = subst Goes (sym i) (column-visited f)
      by-form e below (is_other i) = other-visited e i below

  -- each node of an expression has the columns that it touches, and the row none
  pub columns-known : (e : Tree) → IsRowless e → AllByRecursion (λ n. IsRowless n → Known (columns_map e) n) (nodes_of e)
  unfolding Goes
  columns-known e h = (goes e h [] (record { row = refl; other = λ n i. inl refl })).known

  pub row-none : (e : Tree) → IsRowless e → entry_of root (columns_map e) ≡ []
  unfolding Goes
  row-none e h = (goes e h [] (record { row = refl; other = λ n i. inl refl })).right.row
