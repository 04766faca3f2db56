-- A visit of an expression goes by its children.
use Rattle.std.proofs.Common.{◌≡◌, ℕ, ◌+◌, ◌<◌, ◌≤◌, ◌==◌, Bool, true, false, List, [], ◌∷◌, ◌++◌, length, take, Some, Ok, Err, Result, refl, sym, ap, ◌∙◌, append_assoc, append-nil, arith, true≢false}
use Rattle.std.specs.Prelude.{OnOk}
use Rattle.std.specs.Cmp.{unsigned_Decides}
use Rattle.std.specs.List.{slice_get, flat_map}
use Rattle.std.proofs.Math.ListN.{get_or}
use Rattle.std.proofs.lemmas.List.{take_all, take_more}
use Rattle.vx_expr.specs.Trees.{Tree, root, literal, get_item, binary, not_of, is_null_of, like, between, cast, list_contains, pack, merge, select, dynamic}
use Rattle.vx_expr.specs.Trees.{Trees, no_trees, tree, listed, children_of}
use Rattle.vx_traversal.specs.FoldTurns.{MayTurn}
use Rattle.vx_traversal.proofs.FoldTurnLemmas.{turn_on}
use Rattle.vx_passes.specs.Annotating.{Entry, with_annotations, annotated_down, annotated_up, annotated_node, annotated_from, all_annotated_from}
use Rattle.vx_partition.specs.Entries.{IsSound, Extends, numbered_entries}
use Rattle.vx_partition.specs.Numbering.{known}
use Rattle.vx_partition.specs.Visits.{visited_in_turn, HasVisited, HasVisitedBelow}
use Rattle.vx_partition.specs.declared.annotating.Visit.{Visit}
use Rattle.vx_partition.proofs.EntryLemmas.{extends_on}
use Rattle.vx_partition.proofs.TableLemmas.{numbers_on}

module _ {A : Type 0} (same : A → A → Bool) (annotate : Tree → List A) where
  all_in_turn : (es : Trees) (m : List (Entry A)) → all_annotated_from same annotate es m ≡ visited_in_turn same annotate (listed es) m
  unfolding annotated_from
  all_in_turn no_trees m = refl
  all_in_turn (tree e es) m = all_in_turn es (annotated_from same annotate e m)

  -- down and up, with the children in turn between
  pub by_children : (e : Tree) (m : List (Entry A))
      → annotated_from same annotate e m ≡ annotated_node same annotate e (visited_in_turn same annotate (children_of e)) m
  unfolding annotated_from
  by_children root m = refl
  by_children (literal s) m = refl
  by_children (get_item f e) m = refl
  by_children (binary l op r) m = refl
  by_children (not_of e) m = refl
  by_children (is_null_of e) m = refl
  by_children (like e p negated fold_case) m = refl
  by_children (between e lower upper options) m = refl
  by_children (cast e t) m = refl
  by_children (list_contains l v) m = refl
  by_children (pack names es n) m = λ i. annotated_node same annotate (pack names es n) (λ k. all_in_turn es k i) m
  by_children (merge es n) m = λ i. annotated_node same annotate (merge es n) (λ k. all_in_turn es k i) m
  by_children (select s e) m = refl
  by_children (dynamic e op k t default) m = refl

  in_turn_more : (es ds : List Tree) (m : List (Entry A))
      → visited_in_turn same annotate (es ++ ds) m ≡ visited_in_turn same annotate ds (visited_in_turn same annotate es m)
  in_turn_more [] ds m = refl
  in_turn_more (e ∷ es) ds m = in_turn_more es ds (annotated_from same annotate e m)

  -- a node that has no annotations itself gets what its children hold once these are visited
  up_alone : (e : Tree) (ys : List A) (m : List (Entry A)) → ys ≡ [] → annotated_node same (λ _. ys) e (visited_in_turn same annotate (children_of e)) m
      ≡ annotated_up same e (visited_in_turn same annotate (children_of e) m)
  up_alone e ys m none = ap (λ zs. annotated_up same e (annotated_down same e zs (visited_in_turn same annotate (children_of e)) m)) none

  -- a node that has some gets these first, and its children aren't visited
  own_first : (e : Tree) (ys : List A) (m : List (Entry A)) → (length ys ≡ 0 → ⊥) → annotated_node same (λ _. ys) e (visited_in_turn same annotate (children_of e)) m
      ≡ annotated_up same e (with_annotations same e ys m)
  own_first e [] m some = absurd (some refl)
  own_first e (y ∷ ys) m some = refl

-- a list that is told as empty is, and one that isn't has an element
pub empty_is : {A : Type 0} (xs : List A) (n : ℕ) (b : Bool) → b ≡ (n == 0) → n ≡ length xs → b ≡ true → xs ≡ []
empty_is [] n b told long so = refl
empty_is (x ∷ xs) n b told long so = absurd (omega (arith, long, (unsigned_Decides n 0).0 (sym told ∙ so)))

pub filled_is : {A : Type 0} (xs : List A) (n : ℕ) (b : Bool) → b ≡ (n == 0) → n ≡ length xs → b ≡ false → length xs ≡ 0 → ⊥
filled_is xs n b told long so none = true≢false (sym (told ∙ (unsigned_Decides n 0).1 (long ∙ none)) ∙ so)

-- what holds where there is an answer
pub on_ok : {X E : Type 0} (r : Result X E) (P Q : Type 0) → (P → Q) → OnOk r P → OnOk r Q
on_ok (Ok x) P Q next h = next h
on_ok (Err e) P Q next h = h

flat_map_behind : {X Y : Type 0} (f : X → List Y) (xs : List X) (x : X) → flat_map f (xs ++ x ∷ []) ≡ flat_map f xs ++ f x
flat_map_behind f [] x = append-nil (f x)
flat_map_behind f (z ∷ xs) x = ap (λ ys. f z ++ ys) (flat_map_behind f xs x) ∙ sym (append_assoc (f z) (flat_map f xs) (f x))

-- what the elements up to this one give
pub next_held : {X Y : Type 0} (f : X → List Y) (xs : List X) (i : ℕ) (x : X) (held held_with : List Y) → held ≡ flat_map f (take i xs)
    → i < length xs → x ≡ get_or xs i x → held_with ≡ held ++ f x → held_with ≡ flat_map f (take (i + 1) xs)
next_held f xs i x held held_with so_far within at is =
    is ∙ ap (λ ys. ys ++ f x) so_far ∙ sym (flat_map_behind f (take i xs) x)
    ∙ ap (flat_map f) (sym (take_more xs i x within ∙ ap (λ y. take i xs ++ y ∷ []) (sym at)))

pub all_held : {X Y : Type 0} (f : X → List Y) (xs : List X) (i : ℕ) (held : List Y) → held ≡ flat_map f (take i xs) → length xs ≤ i → held ≡ flat_map f xs
all_held f xs i held so_far past = so_far ∙ ap (flat_map f) (take_all i xs past)

-- ---- the fold

module _ {F A : Type 0} (same : A → A → Bool) (annotated : F → Tree → List A) where
  -- one more node is visited
  visited_on : (s t u : Visit F A) (es : List Tree) (ns : List ℕ) (e : Tree) (n : ℕ) → HasVisited same annotated s es ns t → HasVisited same annotated t (e ∷ []) (n ∷ []) u
      → HasVisited same annotated s (es ++ e ∷ []) (ns ++ n ∷ []) u
  visited_on s t u es ns e n first second =
      record {
        rule = second.rule ∙ first.rule;
        entries =
            second.entries ∙ ap (λ rule. annotated_from same (annotated rule.now) e (numbered_entries t.found)) first.rule
            ∙ ap (annotated_from same (annotated s.rule.now) e) first.entries ∙ sym (in_turn_more same (annotated s.rule.now) es (e ∷ []) (numbered_entries s.found));
        extended = extends_on s.found t.found u.found first.extended second.extended;
        numbers = numbers_on (known t.found.numbers) (known u.found.numbers) ns (n ∷ []) es (e ∷ []) second.extended.kept first.numbers second.numbers;
      }

  module _ (s : Visit F A) (e : Tree) where
    -- the children of a node that has no annotations itself may be visited in turn
    pub children_visited : annotated s.rule.now e ≡ [] → IsSound s.found
        → MayTurn (λ t _. IsSound t.found) (λ t d n u. HasVisited same annotated t (d ∷ []) (n ∷ []) u)
        (HasVisitedBelow same annotated s e) (children_of e) [] s
    children_visited none sound =
        turn_on (λ t _. IsSound t.found) (HasVisited same annotated) (λ r t ds ns visited d. visited.extended.sound) visited_on s s (children_of e)
        (HasVisitedBelow same annotated s e)
        (record { rule = refl; entries = refl; extended = record { sound = sound; kept = λ n d at. at }; numbers = tt }) (λ ns t visited. record { none = none; visited = visited })

    -- then it is
    pub visited_over : (ns : List ℕ) (t u : Visit F A) (n : ℕ) → HasVisitedBelow same annotated s e ns t → u.rule ≡ t.rule
        → numbered_entries u.found ≡ annotated_up same e (numbered_entries t.found) → Extends t.found u.found → slice_get (known u.found.numbers) n ≡ Some e
        → HasVisited same annotated s (e ∷ []) (n ∷ []) u
    visited_over ns t u n below rule entries extended number =
        record {
          rule = rule ∙ below.visited.rule;
          entries =
              entries ∙ ap (annotated_up same e) below.visited.entries
              ∙ sym (by_children same (annotated s.rule.now) e (numbered_entries s.found) ∙ up_alone same (annotated s.rule.now) e (annotated s.rule.now e) (numbered_entries s.found) below.none);
          extended = extends_on s.found t.found u.found below.visited.extended extended;
          numbers = (number, tt);
        }

    -- a node that has annotations itself is visited alone
    pub visited_alone : (ys : List A) (u : Visit F A) (n : ℕ) → ys ≡ annotated s.rule.now e → (length ys ≡ 0 → ⊥) → u.rule ≡ s.rule
        → numbered_entries u.found ≡ annotated_up same e (with_annotations same e ys (numbered_entries s.found)) → Extends s.found u.found
        → slice_get (known u.found.numbers) n ≡ Some e → HasVisited same annotated s (e ∷ []) (n ∷ []) u
    visited_alone ys u n own some rule entries extended number =
        record {
          rule = rule;
          entries =
              entries ∙ sym (own_first same (annotated s.rule.now) e ys (numbered_entries s.found) some)
              ∙ ap (λ zs. annotated_node same (λ _. zs) e (visited_in_turn same (annotated s.rule.now) (children_of e)) (numbered_entries s.found)) own
              ∙ sym (by_children same (annotated s.rule.now) e (numbered_entries s.found));
          extended = extended;
          numbers = (number, tt);
        }
