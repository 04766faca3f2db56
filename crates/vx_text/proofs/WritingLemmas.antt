-- What is left to write of an expression: what a step of the loop makes of it.
use Rattle.std.proofs.Common.{◌≡◌, refl, IfOk, IsOk, Result, Ok, Err, ℕ, zero, suc, ◌+◌, add-zero, zero-add, ◌<◌, ◌≤◌, min, arith, List, [], ◌∷◌, ◌++◌, length, take, drop, get_or, Some, ap, ◌∙◌, sym, subst, append_assoc, append-nil, codes}
use Rattle.std.specs.List.{slice_get}
use Rattle.std.specs.Fmt.{HasWritten, IsPlainFormatter}
use Rattle.std.specs.declared.fmt.Formatter.{Formatter}
use Rattle.std.proofs.Output.{has_written_append}
use Rattle.std.proofs.Math.Seq.{take-length}
use Rattle.std.proofs.lemmas.List.{drop_all, length-append, length-take}
use Rattle.vx_dtype.specs.Types.{Bytes}
use Rattle.vx_dtype.specs.Texts.{separator_at}
use Rattle.vx_dtype.proofs.TextLemmas.{separator_after}
use Rattle.vx_expr.specs.OperatorTexts.{operator_text}
use Rattle.vx_expr.specs.Trees.{Tree, root, literal, get_item, binary, not_of, is_null_of, like, between, cast, list_contains, pack, merge, select, dynamic, Trees, no_trees, tree, trees_of, listed, children_of}
use Rattle.vx_expr.specs.PostOrders.{post_order, post_order_all}
use Rattle.vx_expr.proofs.PostOrderLemmas.{node_last}
use Rattle.vx_tokens.specs.Names.{name_text}
use Rattle.vx_text.specs.Writing.{query_text, literal_text, like_word, between_word, pack_word, merge_word, listed_texts, named_texts}
use Rattle.vx_text.specs.WritingParts.{most_written, written_children, opening_text, before_text, closing_text, children_text, part_text, parts_text, part_steps, parts_steps, Began}
use Rattle.vx_text.proofs.ChildLemmas.{left_step}

-- ---- the children that are written

-- as many as there are, but no more than are written at most
pub number_written : (e : Tree) → length (written_children e) ≡ min (most_written e) (length (children_of e))
number_written e = length-take (most_written e) (children_of e)

-- ---- the text of a node

-- children with separators
listed_children : (before : ℕ → Bytes) (closing : Bytes) → ((k : ℕ) → before k ≡ separator_at k) → (i : ℕ) (es : Trees)
    → children_text before closing i (listed es) ≡ listed_texts (separator_at i) es ++ closing
unfolding query_text
listed_children before closing h i no_trees = refl
listed_children before closing h i (tree e es) =
    ap (λ b. b ++ (query_text e ++ children_text before closing (i + 1) (listed es))) (h i)
    ∙ ap (λ b. separator_at i ++ (query_text e ++ b)) (listed_children before closing h (i + 1) es)
    ∙ ap (λ s. separator_at i ++ (query_text e ++ (listed_texts s es ++ closing))) (sym (separator_after i))
    ∙ ap (λ b. separator_at i ++ b) (sym (append_assoc (query_text e) (listed_texts (codes ", ") es) closing))
    ∙ sym (append_assoc (separator_at i) (query_text e ++ listed_texts (codes ", ") es) closing)

regrouped : (a b c d e x : Bytes) → (a ++ (b ++ c)) ++ (d ++ (e ++ x)) ≡ (a ++ (b ++ (c ++ (d ++ e)))) ++ x
regrouped a b c d e x =
    append_assoc a (b ++ c) (d ++ (e ++ x)) ∙ ap (λ t. a ++ t) (append_assoc b c (d ++ (e ++ x)))
    ∙ ap (λ t. a ++ (b ++ (c ++ t))) (sym (append_assoc d e x)) ∙ ap (λ t. a ++ (b ++ t)) (sym (append_assoc c (d ++ e) x))
    ∙ ap (λ t. a ++ t) (sym (append_assoc b (c ++ (d ++ e)) x)) ∙ sym (append_assoc a (b ++ (c ++ (d ++ e))) x)

-- children with separators and names, as far as there are names
named_children : (before : ℕ → Bytes) (closing : Bytes) (i : ℕ) (names : List Bytes) (es : Trees)
    → ((k : ℕ) → before (i + k) ≡ separator_at (i + k) ++ (name_text (get_or names k []) ++ codes ": "))
    → children_text before closing i (take (length names) (listed es)) ≡ named_texts (separator_at i) names es ++ closing
unfolding query_text
named_children before closing i [] no_trees h = refl
named_children before closing i [] (tree e es) h = refl
named_children before closing i (f ∷ names) no_trees h = refl
named_children before closing i (f ∷ names) (tree e es) h =
    let here : before i ≡ separator_at i ++ (name_text f ++ codes ": ") = subst (λ j. before j ≡ separator_at j ++ (name_text f ++ codes ": ")) (add-zero i) (h 0) in
    let later : (k : ℕ) → before (i + 1 + k) ≡ separator_at (i + 1 + k) ++ (name_text (get_or names k []) ++ codes ": ") =
    λ k. let moved : i + suc k ≡ i + 1 + k = omega arith in subst (λ j. before j ≡ separator_at j ++ (name_text (get_or names k []) ++ codes ": ")) moved (h (suc k)) in
    ap (λ b. b ++ (query_text e ++ children_text before closing (i + 1) (take (length names) (listed es)))) here
    ∙ ap (λ b. (separator_at i ++ (name_text f ++ codes ": ")) ++ (query_text e ++ b)) (named_children before closing (i + 1) names es later)
    ∙ ap (λ s. (separator_at i ++ (name_text f ++ codes ": ")) ++ (query_text e ++ (named_texts s names es ++ closing))) (sym (separator_after i))
    ∙ regrouped (separator_at i) (name_text f) (codes ": ") (query_text e) (named_texts (codes ", ") names es) closing

-- the text of a node is what stands before its children, and what is left from the first child on
pub text_opened : (e : Tree) → query_text e ≡ opening_text e ++ part_text (e, 0)
unfolding query_text
text_opened root = refl
text_opened (literal s) = sym (append-nil (literal_text s))
text_opened (get_item f e) = refl
text_opened (binary l op r) = ap (λ b. codes "(" ++ (query_text l ++ (codes " " ++ b))) (sym (append_assoc (operator_text op) (codes " ") (query_text r ++ codes ")")))
text_opened (not_of e) = refl
text_opened (is_null_of e) = refl
text_opened (like e p negated fold_case) = sym (append_assoc (like_word negated fold_case) (codes "(") (query_text e ++ (codes ", " ++ (query_text p ++ codes ")"))))
text_opened (between e lower upper options) =
    sym (append_assoc (between_word options) (codes "(") (query_text e ++ (codes ", " ++ (query_text lower ++ (codes ", " ++ (query_text upper ++ codes ")"))))))
text_opened (cast e t) = refl
text_opened (list_contains l v) = refl
text_opened (pack names es n) =
    sym (append_assoc (pack_word n) (codes "(") (named_texts [] names es ++ codes ")"))
    ∙ ap (λ b. (pack_word n ++ codes "(") ++ b) (sym (named_children (before_text (pack names es n)) (codes ")") 0 names es (λ k. ap (λ j. separator_at (0 + k) ++ (name_text (get_or names j []) ++ codes ": ")) (zero-add k))))
text_opened (merge es n) =
    sym (append_assoc (merge_word n) (codes "(") (listed_texts [] es ++ codes ")"))
    ∙ ap (λ b. (merge_word n ++ codes "(") ++ b) (sym (listed_children (before_text (merge es n)) (codes ")") (λ k. refl) 0 es))
    ∙ ap (λ cs. (merge_word n ++ codes "(") ++ children_text (before_text (merge es n)) (codes ")") 0 cs) (sym (take-length (listed es)))
text_opened (select s e) = refl
text_opened (dynamic e op k t default) = refl

-- from a child on it is what stands before the child, the child's text, and what is left from the next child on
part_next : (e c : Tree) (i : ℕ) → slice_get (written_children e) i ≡ Some c → part_text (e, i) ≡ before_text e i ++ ((opening_text c ++ part_text (c, 0)) ++ part_text (e, i + 1))
part_next e c i at =
    ap (children_text (before_text e) (closing_text e) i) (left_step (written_children e) i c at)
    ∙ ap (λ b. before_text e i ++ (b ++ part_text (e, i + 1))) (text_opened c)

-- ---- how many steps a part takes

nodes_among : (n : ℕ) (cs : List Tree) → length (post_order_all (trees_of (take n cs))) ≤ length (post_order_all (trees_of cs))
unfolding post_order
nodes_among zero cs = omega arith
nodes_among (suc n) [] = omega arith
nodes_among (suc n) (c ∷ cs) =
    omega (
      arith,
      nodes_among n cs,
      length-append (post_order c) (post_order_all (trees_of (take n cs))),
      length-append (post_order c) (post_order_all (trees_of cs)),
    )

child_and_others : (c : Tree) (cs : List Tree) → length (post_order_all (trees_of (c ∷ cs))) ≡ length (post_order_all (trees_of (children_of c))) + 1 + length (post_order_all (trees_of cs))
unfolding post_order
child_and_others c cs =
    omega (
      arith,
      length-append (post_order c) (post_order_all (trees_of cs)),
      ap length (node_last c),
      length-append (post_order_all (trees_of (children_of c))) (c ∷ []),
    )

fewer_steps : (e c : Tree) (i : ℕ) → slice_get (written_children e) i ≡ Some c → part_steps (e, i + 1) + part_steps (c, 0) < part_steps (e, i)
fewer_steps e c i at =
    omega (
      arith,
      ap (λ cs. length (post_order_all (trees_of cs))) (left_step (written_children e) i c at),
      child_and_others c (drop (i + 1) (written_children e)),
      nodes_among (most_written c) (children_of c),
    )

-- ---- a step of the loop

module _ {W : Type 0} (took : W → List ℕ → W → Type 0) where
  -- behind the last child, what stands there is written, and nothing of the node is left
  pub began_closing : {E : Type 0} (f g : Formatter W) (result : Result (Unit {0}) E) (before : List (Tree × ℕ)) (e : Tree) (i : ℕ) → length (written_children e) ≤ i
      → (IsPlainFormatter f → IsOk result → HasWritten took f (closing_text e) g) → IfOk result (λ _. Began took f g before before (e, i))
  began_closing f g (Ok x) before e i past wrote =
      record {
        written = closing_text e;
        rest = [];
        wrote = λ plain. wrote plain refl;
        left = sym (append-nil before);
        text = ap (children_text (before_text e) (closing_text e) i) (drop_all i (written_children e) past) ∙ sym (append-nil (closing_text e));
        steps = omega arith;
      }
  began_closing f g (Err x) before e i past wrote = tt

  -- what stands before a child is written, and what stands before the child's own children; what stands behind each is left
  pub began_child : {E : Type 0} (f g h : Formatter W) (result : Result (Unit {0}) E) (before mid after : List (Tree × ℕ)) (e c : Tree) (i : ℕ) → slice_get (written_children e) i ≡ Some c
      → (IsPlainFormatter f → HasWritten took f (before_text e i) g) → mid ≡ before ++ (e, i + 1) ∷ []
      → (IsPlainFormatter g → IsOk result → HasWritten took g (opening_text c) h) → IfOk result (λ _. after ≡ mid ++ (c, 0) ∷ [])
      → IfOk result (λ _. Began took f h before after (e, i))
  began_child f g h (Ok x) before mid after e c i at first put second left =
      record {
        written = before_text e i ++ opening_text c;
        rest = (e, i + 1) ∷ (c, 0) ∷ [];
        wrote = λ plain. let begun = first plain in has_written_append took f (before_text e i) g (opening_text c) h begun (second begun.plain refl);
        left = left ∙ ap (λ ps. ps ++ (c, 0) ∷ []) put ∙ append_assoc before ((e, i + 1) ∷ []) ((c, 0) ∷ []);
        text =
            part_next e c i at ∙ ap (λ b. before_text e i ++ b) (append_assoc (opening_text c) (part_text (c, 0)) (part_text (e, i + 1)))
            ∙ sym (append_assoc (before_text e i) (opening_text c) (part_text (c, 0) ++ part_text (e, i + 1)));
        steps = omega (arith, fewer_steps e c i at);
      }
  began_child f g h (Err x) before mid after e c i at first put second left = tt

-- ---- the list of what is left

text_append : (ps qs : List (Tree × ℕ)) → parts_text (ps ++ qs) ≡ parts_text qs ++ parts_text ps
text_append [] qs = sym (append-nil (parts_text qs))
text_append (p ∷ ps) qs = ap (λ t. t ++ part_text p) (text_append ps qs) ∙ append_assoc (parts_text qs) (parts_text ps) (part_text p)

steps_append : (ps qs : List (Tree × ℕ)) → parts_steps (ps ++ qs) ≡ parts_steps ps + parts_steps qs
steps_append [] qs = omega arith
steps_append (p ∷ ps) qs = omega (arith, steps_append ps qs)

-- the text of the parts is what was written of the last one, and the text of those that are left
pub text_begun : (all ps after rest : List (Tree × ℕ)) (p : Tree × ℕ) (written : Bytes) → all ≡ ps ++ p ∷ [] → after ≡ ps ++ rest → part_text p ≡ written ++ parts_text rest
    → parts_text all ≡ written ++ parts_text after
text_begun all ps after rest p written popped left text =
    ap parts_text popped ∙ text_append ps (p ∷ []) ∙ ap (λ t. t ++ parts_text ps) text ∙ append_assoc written (parts_text rest) (parts_text ps)
    ∙ ap (λ t. written ++ t) (sym (text_append ps rest)) ∙ ap (λ qs. written ++ parts_text qs) (sym left)

pub steps_fewer : (all ps after rest : List (Tree × ℕ)) (p : Tree × ℕ) → all ≡ ps ++ p ∷ [] → after ≡ ps ++ rest → parts_steps rest < part_steps p → parts_steps after < parts_steps all
steps_fewer all ps after rest p popped left fewer =
    omega (arith, ap parts_steps popped, ap parts_steps left, steps_append ps (p ∷ []), steps_append ps rest, fewer)
