-- Taking parts out of an expression goes by its children.
use Rattle.std.proofs.Common.{◌≡◌, ℕ, suc, ◌==◌, Bool, List, [], ◌∷◌, ◌++◌, length, take, drop, reverse, Option, Some, None, refl, sym, ap, subst, ◌∙◌, append_assoc, append-nil, arith}
use Rattle.std.specs.Prelude.{unwrap_or}
use Rattle.std.specs.List.{slice_get}
use Rattle.std.proofs.lemmas.List.{length-append, reverse-append}
use Rattle.std.proofs.lemmas.Option.{same_Some, none-some}
use Rattle.vx_dtype.specs.Types.{Bytes}
use Rattle.vx_expr.specs.Children.{one_of, where_so}
use Rattle.vx_expr.specs.Trees.{Tree, root, literal, get_item, binary, not_of, is_null_of, like, between, cast, list_contains, pack, merge, select, dynamic}
use Rattle.vx_expr.specs.Trees.{Trees, no_trees, tree, trees_of, listed, children_of}
use Rattle.vx_traversal.specs.FoldTurns.{MayTurn}
use Rattle.vx_traversal.proofs.FoldTurnLemmas.{turns}
use Rattle.vx_passes.specs.Annotating.{Entry, entry_of}
use Rattle.vx_passes.specs.Splitting.{Share, Taken, AllTaken, parts_count, with_part, part_access, part_or_below, over_list, before_others, taken_from, all_taken_from}
use Rattle.vx_transform.specs.Rebuilds.{or_same, all_or_same, with_these}
use Rattle.vx_transform.proofs.RebuildLemmas.{with_as_many}
use Rattle.vx_partition.specs.Entries.{IsSound, numbered_entries}
use Rattle.vx_partition.specs.Numbering.{known, AreNumbersOf}
use Rattle.vx_partition.specs.Takings.{taken_as, ListTaken, listed_as, put_before, taken_in_turn, over_these, taken_below, next_numbers, IsNext, Takes, TakesBelow}
use Rattle.vx_partition.specs.Views.{shares_view}
use Rattle.vx_partition.specs.declared.taking.Taking.{Taking}

module _ {A : Type 0} (same : A → A → Bool) (text : A → Bytes) (m : List (Entry A)) where
  -- as a list of the tree's own
  abbrev as_all : ListTaken A → AllTaken A
  as_all x = record { expressions = trees_of x.expressions; shares = x.shares }

  all_taken : (es : Trees) (ss : List (Share A)) → all_taken_from same text m es ss ≡ as_all (taken_in_turn same text m (listed es) ss)
  unfolding taken_from
  all_taken no_trees ss = refl
  all_taken (tree e es) ss = let x = taken_from same text m e ss in ap (before_others x.expression) (all_taken es x.shares)

  -- as many expressions come as went
  pub as_many : (es : List Tree) (ss : List (Share A)) → length ((taken_in_turn same text m es ss).expressions) ≡ length es
  as_many [] ss = refl
  as_many (e ∷ es) ss = ap suc (as_many es ((taken_from same text m e ss).shares))

  many_below : (node : Trees → Tree) (es : Trees) (other : Tree) (ss : List (Share A))
      → over_list node (all_taken_from same text m es ss)
      ≡ taken_as (unwrap_or (where_so (length ((taken_in_turn same text m (listed es) ss).expressions) == length (listed es)) (node (trees_of ((taken_in_turn same text m (listed es) ss).expressions)))) other)
      ((taken_in_turn same text m (listed es) ss).shares)
  many_below node es other ss =
      let x = taken_in_turn same text m (listed es) ss in
      ap (over_list node) (all_taken es ss)
      ∙ ap (λ d. taken_as d x.shares) (sym (with_as_many (length x.expressions) (length (listed es)) (node (trees_of x.expressions)) other (as_many (listed es) ss)))

  -- a part, or what the children become
  pub by_children : (e : Tree) (ss : List (Share A))
      → taken_from same text m e ss ≡ part_or_below same text e (entry_of e m) (taken_below same text m e) ss
  unfolding taken_from
  by_children root ss = refl
  by_children (literal s) ss = refl
  by_children (get_item f e) ss = refl
  by_children (binary l op r) ss = refl
  by_children (not_of e) ss = refl
  by_children (is_null_of e) ss = refl
  by_children (like e p negated fold_case) ss = refl
  by_children (between e lower upper options) ss = refl
  by_children (cast e t) ss = refl
  by_children (list_contains l v) ss = refl
  by_children (pack names es n) ss =
      λ i. part_or_below same text (pack names es n) (entry_of (pack names es n) m) (λ rs. many_below (λ ds. pack names ds n) es (pack names es n) rs i) ss
  by_children (merge es n) ss =
      λ i. part_or_below same text (merge es n) (entry_of (merge es n) m) (λ rs. many_below (λ ds. merge ds n) es (merge es n) rs i) ss
  by_children (select s e) ss = refl
  by_children (dynamic e op k t default) ss = refl

  no_part : (e : Tree) (xs : List A) (below : List (Share A) → Taken A) (ss : List (Share A)) → one_of xs ≡ None → part_or_below same text e xs below ss ≡ below ss
  no_part e [] below ss h = refl
  no_part e (x ∷ []) below ss h = absurd (none-some x (sym h))
  no_part e (x ∷ y ∷ xs) below ss h = refl

  one_part : (e : Tree) (xs : List A) (a : A) (below : List (Share A) → Taken A) (ss : List (Share A)) → one_of xs ≡ Some a
      → part_or_below same text e xs below ss ≡ taken_as (part_access (text a) (parts_count same a ss)) (with_part same a e ss)
  one_part e [] a below ss h = absurd (none-some a h)
  one_part e (x ∷ []) a below ss h = ap (λ b. taken_as (part_access (text b) (parts_count same b ss)) (with_part same b e ss)) (same_Some x a h)
  one_part e (x ∷ y ∷ xs) a below ss h = absurd (none-some a h)

  in_turn_more : (es ds : List Tree) (ss : List (Share A))
      → taken_in_turn same text m (es ++ ds) ss
      ≡ put_before ((taken_in_turn same text m es ss).expressions) (taken_in_turn same text m ds ((taken_in_turn same text m es ss).shares))
  in_turn_more [] ds ss = refl
  in_turn_more (e ∷ es) ds ss = let x = taken_from same text m e ss in ap (put_before (x.expression ∷ [])) (in_turn_more es ds x.shares)

-- what was made of one more expression
became_more : (es : List Tree) (made : List (Option Tree)) (e : Tree) (d : Option Tree) → length made ≡ length es
    → all_or_same (es ++ e ∷ []) (made ++ d ∷ []) ≡ all_or_same es made ++ or_same e d ∷ []
became_more [] [] e d many = refl
became_more [] (m ∷ made) e d many = absurd (omega (arith, many))
became_more (b ∷ es) [] e d many = absurd (omega (arith, many))
became_more (b ∷ es) (m ∷ made) e d many =
    let fewer : length made ≡ length es = omega (arith, many) in
    ap (λ ds. or_same b m ∷ ds) (became_more es made e d fewer)

-- ---- the fold

-- the last element of a list is the first of the list turned round
pub last_first : {A : Type 0} (xs ys : List A) (y : A) → ys ≡ xs ++ y ∷ [] → reverse ys ≡ y ∷ reverse xs
last_first xs ys y is = ap reverse is ∙ reverse-append xs (y ∷ [])

-- no expression is looked at next where no number is left
pub none_next : (numbered : List Tree) (ns : List ℕ) (e : Tree) → length ns ≡ 0 → AreNumbersOf numbered (take 1 (reverse ns)) (e ∷ []) → ⊥
none_next numbered [] e none h = h
none_next numbered (n ∷ ns) e none h = absurd (omega (arith, none))

module _ {A : Type 0} (same : A → A → Bool) (text : A → Bytes) (s : Taking A) (e : Tree) where
  abbrev m : List (Entry A)
  m = numbered_entries s.found.now

  -- the last number is that of the node, and the others are left
  pub next_taken : (rest : List ℕ) (n : ℕ) → s.next.items ≡ rest ++ n ∷ [] → IsNext s e
      → (slice_get (known s.found.now.numbers) n ≡ Some e) × (reverse rest ≡ drop 1 (next_numbers s))
  next_taken rest n is next =
      let first = last_first rest s.next.items n is in
      let numbers : AreNumbersOf (known s.found.now.numbers) (n ∷ []) (e ∷ []) = subst (λ ns. AreNumbersOf (known s.found.now.numbers) (take 1 ns) (e ∷ [])) first next.number in
      (numbers.0, ap (drop 1) (sym first))

  -- the node becomes a part
  pub taken_part : (a : A) (d : Tree) (t : Taking A) → Some a ≡ one_of (entry_of e m) → t.found ≡ s.found → next_numbers t ≡ drop 1 (next_numbers s)
      → d ≡ part_access (text a) (parts_count same a (shares_view s.shares)) → shares_view t.shares ≡ with_part same a e (shares_view s.shares) → Takes same text s e (Some d) t
  taken_part a d t at found next access shares =
      record {
        found = found;
        next = next;
        taken =
            by_children same text m e (shares_view s.shares) ∙ one_part same text m e (entry_of e m) a (taken_below same text m e) (shares_view s.shares) (sym at)
            ∙ (λ i. taken_as (sym access i) (sym shares i));
      }

  -- the node over what its children became
  pub taken_over : (made : List (Option Tree)) (t : Taking A) (d : Option Tree) → TakesBelow same text s e made t
      → or_same e d ≡ with_these e (all_or_same (children_of e) made) → Takes same text s e d t
  taken_over made t d below is =
      record {
        found = below.found;
        next = below.next;
        taken =
            by_children same text m e (shares_view s.shares) ∙ no_part same text m e (entry_of e m) (taken_below same text m e) (shares_view s.shares) below.none
            ∙ ap (over_these e) below.taken ∙ ap (λ c. taken_as c (shares_view t.shares)) (sym is);
      }

  -- some of its children were looked at, and the numbers of the others are next
  abbrev Midway : List Tree → List Tree → List (Option Tree) → Taking A → Type 0
  Midway done rest made t =
      (done ++ rest ≡ children_of e) × (t.found ≡ s.found) × (length made ≡ length done)
      × (taken_in_turn same text m done (shares_view s.shares) ≡ listed_as (all_or_same done made) (shares_view t.shares))
      × (ns : List ℕ) × AreNumbersOf (known s.found.now.numbers) ns rest × (next_numbers t ≡ ns ++ drop 1 (next_numbers s))

  next_child : IsSound s.found.now → (done : List Tree) (c : Tree) (rest : List Tree) (made : List (Option Tree)) (t : Taking A) → Midway done (c ∷ rest) made t
      → IsNext t c × ((x : Option Tree) (u : Taking A) → Takes same text t c x u → Midway (done ++ c ∷ []) rest (made ++ x ∷ []) u)
  next_child sound done c rest made t (whole, found, many, taken, [], numbers, next) = absurd numbers
  next_child sound done c rest made t (whole, found, many, taken, n ∷ ns, numbers, next) = (
    record {
      sound = subst (λ f. IsSound f.now) (sym found) sound;
      number =
          subst (λ ms. AreNumbersOf (known t.found.now.numbers) (take 1 ms) (c ∷ [])) (sym next)
          (subst (λ f. slice_get (known f.now.numbers) n ≡ Some c) (sym found) numbers.0, tt);
    },
    λ x u takes. (
      append_assoc done (c ∷ []) rest ∙ whole,
      takes.found ∙ found,
      omega (arith, many, length-append made (x ∷ []), length-append done (c ∷ [])),
      in_turn_more same text m done (c ∷ []) (shares_view s.shares)
          ∙ ap (λ z. put_before z.expressions (taken_in_turn same text m (c ∷ []) z.shares)) taken
          ∙ ap (λ f. put_before (all_or_same done made) (taken_in_turn same text (numbered_entries f.now) (c ∷ []) (shares_view t.shares))) (sym found)
          ∙ ap (λ z. listed_as (all_or_same done made ++ z.expression ∷ []) z.shares) takes.taken
          ∙ ap (λ ds. listed_as ds (shares_view u.shares)) (sym (became_more done made c x many)),
      ns,
      numbers.1,
      takes.next ∙ ap (drop 1) next,
    ),
  )

  no_child : one_of (entry_of e m) ≡ None → (done : List Tree) (made : List (Option Tree)) (t : Taking A) → Midway done [] made t → TakesBelow same text s e made t
  no_child none done made t (whole, found, many, taken, n ∷ ns, numbers, next) = absurd numbers
  no_child none done made t (whole, found, many, taken, [], numbers, next) =
      let all : done ≡ children_of e = sym (append-nil done) ∙ whole in
      record {
        none = none;
        found = found;
        next = next;
        many = subst (λ es. length made ≡ length es) all many;
        taken = subst (λ es. taken_in_turn same text m es (shares_view s.shares) ≡ listed_as (all_or_same es made) (shares_view t.shares)) all taken;
      }

  -- the children of a node that becomes no part may be looked at in turn, once their numbers are next
  pub children_taken : (t : Taking A) (ns : List ℕ) → IsSound s.found.now → one_of (entry_of e m) ≡ None → AreNumbersOf (known s.found.now.numbers) ns (children_of e)
      → t.found ≡ s.found → t.shares ≡ s.shares → next_numbers t ≡ ns ++ drop 1 (next_numbers s)
      → MayTurn IsNext (Takes same text) (TakesBelow same text s e) (children_of e) [] t
  children_taken t ns sound none numbers found shares next =
      turns IsNext (Takes same text) (TakesBelow same text s e) Midway (next_child sound) (no_child none) (children_of e) [] [] t
      (refl, found, refl, ap (λ ss. listed_as [] (shares_view ss)) (sym shares), ns, numbers, next)
