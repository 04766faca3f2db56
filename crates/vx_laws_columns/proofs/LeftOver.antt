-- What is left of an expression without its parts: it stays simple, and it breaks, or a part does, where the expression does.
use Rattle.std.proofs.Common.{◌≡◌, refl, ap, sym, ◌∙◌, Bool, true, false, cond, ◌||◌, ◌⊎◌, inl, inr, subst, List, [], ◌∷◌, ◌++◌}
use Rattle.std.specs.List.{AllByRecursion, list_any}
use Rattle.std.specs.Str.{bytes_eq}
use Rattle.std.proofs.lemmas.Bool.{and_parts}
use Rattle.std.proofs.lemmas.List.Folds.{list_any-append}
use Rattle.vx_dtype.specs.Types.{Bytes, Ty}
use Rattle.vx_dtype.specs.Values.{Val}
use Rattle.vx_expr.specs.Children.{is_root_tree}
use Rattle.vx_expr.specs.Trees.{Tree, root, get_item, children_of}
use Rattle.vx_semantics.specs.Meaning.{Slots}
use Rattle.vx_semantics.specs.Breaks.{Cause, by_sum, by_cast, breaks_by}
use Rattle.vx_semantics.specs.Nodes.{nodes_of, some_node}
use Rattle.vx_passes.specs.Annotating.{Entry, entry_of}
use Rattle.vx_passes.specs.Splitting.{Share, Taken, parts_count, with_part, part_name, taken_from}
use Rattle.vx_laws.proofs.Inverting.{bytes_same}
use Rattle.vx_laws.proofs.EachNode.{by_children, nodes-below}
use Rattle.vx_laws_simplifying.proofs.Observing.{or-assoc, or-comm, or-false}
use Rattle.vx_laws_removing.specs.Simplest.{nodes_below, is_simple}
use Rattle.vx_laws_parts.specs.Preserved.{rowless}
use Rattle.vx_laws_parts.proofs.Shown.{is_of_row, is_pack}
use Rattle.vx_laws_parts.proofs.PutBack.{SharesStand, taken-goes}
use Rattle.vx_laws_parts.proofs.SharesHold.{shares_after, shares_with, shares-by_children}
use Rattle.vx_laws_columns.proofs.Sets.{set_of}
use Rattle.vx_laws_columns.proofs.Rows.{columns_in, Form, is_row, is_column, is_other, form, IsRowless, children-rowless, row-not-rowless, column-alone}
use Rattle.vx_laws_columns.proofs.Entries.{Known}
use Rattle.vx_laws_columns.proofs.Covered.{NodesKnown, own-known, known-covered}
use Rattle.vx_laws_columns.proofs.AskedColumns.{IsSimple, children-simple}
use Rattle.vx_laws_columns.proofs.Partitions.{own_name}
use Rattle.vx_laws_columns.proofs.Remade.{some-by_children, simple-node, rowless-node, PackOnlyWhere, MeanSame, breaks_over_row, breaks_over_parts, Remade, taken_after, TakenAs, taken-as}

swap-any : (a n p : Bool) → (a || (n || p)) ≡ (n || (a || p))
swap-any a n p = sym (or-assoc a n p) ∙ (ap (λ (b : Bool). b || p) (or-comm a n) ∙ or-assoc n a p)

-- two steps, each of which keeps what is found in what is left or in the parts
two-steps : (a e f n p c q : Bool) → (e || f) ≡ (n || p) → (a || p) ≡ (c || q) → ((a || e) || f) ≡ ((c || n) || q)
two-steps a e f n p c q h k =
    or-assoc a e f
    ∙ (ap (λ (b : Bool). a || b) h
    ∙ (swap-any a n p ∙ (ap (λ (b : Bool). n || b) k ∙ (sym (or-assoc n c q) ∙ ap (λ (b : Bool). b || q) (or-comm n c)))))

module _ (t v : Ty) (slots : Slots) (row made : Val) (cause : Cause) (m : List (Entry Bytes)) where
  abbrev left : Tree → List (Share Bytes) → Taken Bytes
  left e ss = taken_from bytes_eq own_name m e ss

  abbrev all_left : List Tree → List (Share Bytes) → List Tree
  all_left cs ss = taken_after t v slots row made cause bytes_eq own_name m cs ss

  -- the name of the next part of a column
  abbrev access_name : Bytes → List (Share Bytes) → Bytes
  access_name c ss = part_name c (parts_count bytes_eq c ss)

  abbrev LeftAs : Tree → List Bytes → List (Share Bytes) → Tree → Type 0
  LeftAs e xs ss d = TakenAs t v slots row made cause bytes_eq own_name m e xs ss d

  abbrev Over : Tree → List Tree → Tree → Type 0
  Over e cs d = Remade t v slots row made cause e cs d

  -- simple, with the row only straight below fields, and a pack only where the expression is one
  pub record StaysSimple (e d : Tree) : Type 0 where
    pub simple : IsSimple d
    pub rowless : IsRowless d
    pub packs : is_pack d ≡ true → is_pack e ≡ true

  access-simple : (e : Tree) (f g : Bytes) → StaysSimple e (get_item f (get_item g root))
  unfolding nodes_below rowless
  access-simple e f g = record { simple = refl; rowless = refl; packs = λ h. let no : ⊥ = cc in absurd no }

  Stays : Tree → Type 0
  Stays e = IsRowless e → NodesKnown t m e → IsSimple e → (ss : List (Share Bytes)) → StaysSimple e (left e ss).expression

  record AllStay (cs ds : List Tree) : Type 0 where
    pub simple : AllByRecursion IsSimple ds
    pub rowless : AllByRecursion IsRowless ds
    pub packs : PackOnlyWhere ds cs

  all-stay : (cs : List Tree) → AllByRecursion Stays cs → AllByRecursion IsRowless cs → AllByRecursion (NodesKnown t m) cs → AllByRecursion IsSimple cs → (ss : List (Share Bytes)) → AllStay cs (all_left cs ss)
  unfolding Stays
  all-stay [] g h k s ss = record { simple = tt; rowless = tt; packs = tt }
  all-stay (c ∷ cs) g h k s ss =
      let first = g.0 h.0 k.0 s.0 ss in
      let rest = all-stay cs g.1 h.1 k.1 s.1 (left c ss).shares in
      record { simple = (first.simple, rest.simple); rowless = (first.rowless, rest.rowless); packs = (first.packs, rest.packs) }

  remade-simple : (e d : Tree) (cs : List Tree) → is_of_row e ≡ false → IsSimple e → Over e cs d → AllStay (children_of e) cs → StaysSimple e d
  unfolding nodes_below
  remade-simple e d cs o s r a = record {
    simple = simple-node d (r.simple a.packs (own-simple e s)) (subst (AllByRecursion IsSimple) (sym r.children) a.simple);
    rowless = rowless-node d (r.root_same ∙ no-root e o) (subst (AllByRecursion IsRowless) (sym r.children) a.rowless);
    packs = λ h. sym r.packs ∙ h;
  }
    where
      own-simple : (n : Tree) → IsSimple n → is_simple n ≡ true
      own-simple n h = (and_parts (is_simple n) (nodes_below is_simple n) h).0

      no-root : (n : Tree) → is_of_row n ≡ false → is_root_tree n ≡ false
      no-root root h = let no : ⊥ = cc in absurd no
      no-root _ h = refl

  by-left : (e d : Tree) (xs : List Bytes) (ss : List (Share Bytes)) → is_of_row e ≡ false → IsSimple e → LeftAs e xs ss d → AllStay (children_of e) (all_left (children_of e) ss) → StaysSimple e d
  by-left e d [] ss o s r a = remade-simple e d (all_left (children_of e) ss) o s r a
  by-left e d (c ∷ []) ss o s r a = subst (StaysSimple e) (sym r) (access-simple e (access_name c ss) c)
  by-left e d (c ∷ b ∷ xs) ss o s r a = remade-simple e d (all_left (children_of e) ss) o s r a

  -- what is left of a simple expression is simple
  pub stays-simple : (e : Tree) → IsRowless e → NodesKnown t m e → IsSimple e → (ss : List (Share Bytes)) → StaysSimple e (left e ss).expression
  unfolding Stays
  stays-simple = by_children Stays (λ e below. by-form e below (form e))
    where
      by-form : (e : Tree) → AllByRecursion Stays (children_of e) → Form e → Stays e
      by-form e below (is_row i) = λ h k s ss. absurd (row-not-rowless (subst IsRowless i h))
      by-form e below (is_column f i) =
          λ h k s ss.
          let one : entry_of e m ≡ f ∷ [] = own-known t m e k h ∙ (ap (λ (z : Tree). set_of (columns_in z)) i ∙ ap set_of (column-alone f)) in
          let access : LeftAs e (f ∷ []) ss (left e ss).expression = subst (λ (xs : List Bytes). LeftAs e xs ss (left e ss).expression) one (taken-as t v slots row made cause bytes_eq own_name m e ss) in
          subst (StaysSimple e) (sym access) (access-simple e (access_name f ss) f)
      by-form e below (is_other i) =
          λ h k s ss.
          let p = nodes-below (λ n. IsRowless n → Known t m n) e k in
          by-left e (left e ss).expression (entry_of e m) ss i s (taken-as t v slots row made cause bytes_eq own_name m e ss)
          (all-stay (children_of e) below (children-rowless e i h) p.1 (children-simple e s) ss)

  -- whether a node in the parts of shares breaks
  abbrev pub some_part_breaks : List (Share Bytes) → Bool
  some_part_breaks ss = list_any (λ x. list_any (some_node (breaks_over_row t v slots row made cause)) x.parts) ss

  abbrev whole_breaks : Tree → Bool
  whole_breaks e = some_node (breaks_over_row t v slots row made cause) e

  abbrev left_breaks : Tree → Bool
  left_breaks d = some_node (breaks_over_parts t v slots row made cause) d

  part-breaks : (a : Bytes) (e : Tree) (ss : List (Share Bytes)) → some_part_breaks (with_part bytes_eq a e ss) ≡ (whole_breaks e || some_part_breaks ss)
  part-breaks a e [] = ap (λ (b : Bool). b || false) (or-false (whole_breaks e))
  part-breaks a e (x ∷ xs) = by-test (bytes_eq a x.annotation) (part-breaks a e xs)
    where
      by-test : (b : Bool) → some_part_breaks (with_part bytes_eq a e xs) ≡ (whole_breaks e || some_part_breaks xs)
          → some_part_breaks (cond b (record { annotation = x.annotation; parts = x.parts ++ e ∷ [] } ∷ xs) (x ∷ with_part bytes_eq a e xs)) ≡ (whole_breaks e || (list_any whole_breaks x.parts || some_part_breaks xs))
      by-test true r =
          ap (λ (b : Bool). b || some_part_breaks xs) (list_any-append whole_breaks x.parts (e ∷ []) ∙ (ap (λ (b : Bool). list_any whole_breaks x.parts || b) (or-false (whole_breaks e)) ∙ or-comm (list_any whole_breaks x.parts) (whole_breaks e)))
          ∙ or-assoc (whole_breaks e) (list_any whole_breaks x.parts) (some_part_breaks xs)
      by-test false r = ap (λ (b : Bool). list_any whole_breaks x.parts || b) r ∙ swap-any (list_any whole_breaks x.parts) (whole_breaks e) (some_part_breaks xs)

  access-quiet : (f g : Bytes) → left_breaks (get_item f (get_item g root)) ≡ false
  unfolding nodes_of
  access-quiet f g = by-cause cause
    where
      by-cause : (c : Cause) → some_node (breaks_by c v slots made) (get_item f (get_item g root)) ≡ false
      by-cause by_sum = refl
      by-cause by_cast = refl

  abbrev pub SharesOver : List (Share Bytes) → Type 0
  SharesOver ss = SharesStand t v slots row made bytes_eq own_name m ss

  Breaks : Tree → Type 0
  Breaks e = IsRowless e → NodesKnown t m e → (ss : List (Share Bytes)) → SharesOver (left e ss).shares
      → (left_breaks (left e ss).expression || some_part_breaks (left e ss).shares) ≡ (whole_breaks e || some_part_breaks ss)

  record AllBreak (cs : List Tree) (ss : List (Share Bytes)) : Type 0 where
    pub before : SharesOver ss
    pub mean_same : MeanSame t v slots row made cause (all_left cs ss) cs
    pub same : (list_any left_breaks (all_left cs ss) || some_part_breaks (shares_after bytes_eq own_name m cs ss)) ≡ (list_any whole_breaks cs || some_part_breaks ss)

  all-break : (cs : List Tree) → AllByRecursion Breaks cs → AllByRecursion IsRowless cs → AllByRecursion (NodesKnown t m) cs → (ss : List (Share Bytes)) → SharesOver (shares_after bytes_eq own_name m cs ss) → AllBreak cs ss
  unfolding Breaks
  all-break [] g h k ss o = record { before = o; mean_same = tt; same = refl }
  all-break (c ∷ cs) g h k ss o =
      let x = left c ss in
      let rest = all-break cs g.1 h.1 k.1 x.shares o in
      let goes = taken-goes t v slots row made bytes_eq own_name m (λ a b i. sym (bytes_same a b i)) c ss rest.before in
      record {
        before = goes.before;
        mean_same = ((goes.stands (known-covered t m c h.0 k.0)).means, rest.mean_same);
        same =
            two-steps (left_breaks x.expression) (list_any left_breaks (all_left cs x.shares)) (some_part_breaks (shares_after bytes_eq own_name m cs x.shares)) (list_any whole_breaks cs)
            (some_part_breaks x.shares) (whole_breaks c) (some_part_breaks ss) rest.same (g.0 h.0 k.0 ss rest.before);
      }

  part-of : (e d : Tree) (a : Bytes) (ss : List (Share Bytes)) → LeftAs e (a ∷ []) ss d → (left_breaks d || some_part_breaks (with_part bytes_eq a e ss)) ≡ (whole_breaks e || some_part_breaks ss)
  part-of e d a ss r = ap (λ (b : Bool). b || some_part_breaks (with_part bytes_eq a e ss)) (ap left_breaks r ∙ access-quiet (access_name a ss) a) ∙ part-breaks a e ss

  remade-breaks : (e d : Tree) (ss : List (Share Bytes)) → Over e (all_left (children_of e) ss) d → AllBreak (children_of e) ss
      → (left_breaks d || some_part_breaks (shares_after bytes_eq own_name m (children_of e) ss)) ≡ (whole_breaks e || some_part_breaks ss)
  remade-breaks e d ss r a =
      let last = some_part_breaks (shares_after bytes_eq own_name m (children_of e) ss) in
      let own = breaks_over_row t v slots row made cause e in
      ap (λ (b : Bool). b || last)
      (some-by_children (breaks_over_parts t v slots row made cause) d
      ∙ (ap (λ (cs : List Tree). breaks_over_parts t v slots row made cause d || list_any left_breaks cs) r.children
      ∙ ap (λ (b : Bool). b || list_any left_breaks (all_left (children_of e) ss)) (r.breaks a.mean_same)))
      ∙ (or-assoc own (list_any left_breaks (all_left (children_of e) ss)) last
      ∙ (ap (λ (b : Bool). own || b) a.same
      ∙ (sym (or-assoc own (list_any whole_breaks (children_of e)) (some_part_breaks ss))
      ∙ ap (λ (b : Bool). b || some_part_breaks ss) (sym (some-by_children (breaks_over_row t v slots row made cause) e)))))

  by-entry : (e d : Tree) (xs : List Bytes) (ss : List (Share Bytes)) → LeftAs e xs ss d → SharesOver (shares_with bytes_eq own_name m e xs (shares_after bytes_eq own_name m (children_of e)) ss)
      → (SharesOver (shares_after bytes_eq own_name m (children_of e) ss) → AllBreak (children_of e) ss)
      → (left_breaks d || some_part_breaks (shares_with bytes_eq own_name m e xs (shares_after bytes_eq own_name m (children_of e)) ss)) ≡ (whole_breaks e || some_part_breaks ss)
  by-entry e d [] ss r o a = remade-breaks e d ss r (a o)
  by-entry e d (c ∷ []) ss r o a = part-of e d c ss r
  by-entry e d (c ∷ b ∷ xs) ss r o a = remade-breaks e d ss r (a o)

  -- a node of what is left breaks, or one of the parts, where one of the expression does
  pub left-breaks : (e : Tree) → IsRowless e → NodesKnown t m e → (ss : List (Share Bytes)) → SharesOver (left e ss).shares
      → (left_breaks (left e ss).expression || some_part_breaks (left e ss).shares) ≡ (whole_breaks e || some_part_breaks ss)
  unfolding Breaks
  left-breaks = by_children Breaks (λ e below. by-form e below (form e))
    where
      left-as : (e : Tree) (ss : List (Share Bytes)) → LeftAs e (entry_of e m) ss (left e ss).expression
      left-as e ss = taken-as t v slots row made cause bytes_eq own_name m e ss

      by-shares : (e : Tree) (ss : List (Share Bytes)) (xs : List Bytes) → entry_of e m ≡ xs → SharesOver (left e ss).shares
          → (SharesOver (shares_after bytes_eq own_name m (children_of e) ss) → AllBreak (children_of e) ss) ⊎ ((a : Bytes) × (xs ≡ a ∷ []))
          → (left_breaks (left e ss).expression || some_part_breaks (left e ss).shares) ≡ (whole_breaks e || some_part_breaks ss)
      by-shares e ss xs i o a =
          let is : (left e ss).shares ≡ shares_with bytes_eq own_name m e xs (shares_after bytes_eq own_name m (children_of e)) ss =
          shares-by_children bytes_eq own_name m e ss ∙ ap (λ (ys : List Bytes). shares_with bytes_eq own_name m e ys (shares_after bytes_eq own_name m (children_of e)) ss) i in
          let r : LeftAs e xs ss (left e ss).expression = subst (λ (ys : List Bytes). LeftAs e ys ss (left e ss).expression) i (left-as e ss) in
          ap (λ (ks : List (Share Bytes)). left_breaks (left e ss).expression || some_part_breaks ks) is ∙ by-case r (subst SharesOver is o) a
        where
          by-case : LeftAs e xs ss (left e ss).expression → SharesOver (shares_with bytes_eq own_name m e xs (shares_after bytes_eq own_name m (children_of e)) ss)
              → (SharesOver (shares_after bytes_eq own_name m (children_of e) ss) → AllBreak (children_of e) ss) ⊎ ((c : Bytes) × (xs ≡ c ∷ []))
              → (left_breaks (left e ss).expression || some_part_breaks (shares_with bytes_eq own_name m e xs (shares_after bytes_eq own_name m (children_of e)) ss)) ≡ (whole_breaks e || some_part_breaks ss)
          by-case r q (inl f) = by-entry e (left e ss).expression xs ss r q f
          by-case r q (inr f) =
              ap (λ (ys : List Bytes). left_breaks (left e ss).expression || some_part_breaks (shares_with bytes_eq own_name m e ys (shares_after bytes_eq own_name m (children_of e)) ss)) f.1
              ∙ part-of e (left e ss).expression f.0 ss (subst (λ (ys : List Bytes). LeftAs e ys ss (left e ss).expression) f.1 r)

      by-form : (e : Tree) → AllByRecursion Breaks (children_of e) → Form e → Breaks e
      by-form e below (is_row i) = λ h k ss o. absurd (row-not-rowless (subst IsRowless i h))
      by-form e below (is_column f i) =
          λ h k ss o.
          by-shares e ss (entry_of e m) refl o (inr (f, own-known t m e k h ∙ (ap (λ (z : Tree). set_of (columns_in z)) i ∙ ap set_of (column-alone f))))
      by-form e below (is_other i) =
          λ h k ss o.
          let p = nodes-below (λ n. IsRowless n → Known t m n) e k in
          by-shares e ss (entry_of e m) refl o (inl (λ q. all-break (children_of e) below (children-rowless e i h) p.1 ss q))
