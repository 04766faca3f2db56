-- Tables of numbered expressions: what an entry says, and what an entry that is new adds.
use Rattle.std.proofs.Common.{◌≡◌, ℕ, zero, suc, Bool, true, false, cond, List, [], ◌∷◌, ◌++◌, length, Option, Some, None, ◌⊎◌, inl, inr, refl, sym, ap, subst, ◌∙◌, true≢false}
use Rattle.std.specs.List.{slice_get}
use Rattle.std.specs.Map.{lookup, lookup_key}
use Rattle.std.proofs.lemmas.Option.{same_Some, none-some}
use Rattle.indexmap.specs.IndexMap.{insert_entry}
use Rattle.vx_expr.specs.Equal.{tree_eq}
use Rattle.vx_expr.specs.EqualLaws.{tree_decides}
use Rattle.vx_expr.specs.Trees.{Tree, children_of}
use Rattle.vx_partition.specs.Numbering.{over_numbers, exprs_of, AreNumbersOf, IsNumbering, KeepsNumbers, Grows, HasNumbered}
use Rattle.vx_partition.specs.declared.numbers.Numbered.{Numbered}
use Rattle.vx_partition.specs.declared.numbers.Numbers.{Numbers}
use Rattle.vx_partition.proofs.NumberLemmas.{same_numbers, same_node}
use Rattle.vx_traversal.specs.FoldTurns.{MayTurn}
use Rattle.vx_traversal.proofs.FoldTurnLemmas.{turn_on}

-- ---- lists

kept_before : {X : Type 0} (xs zs : List X) (n : ℕ) (x : X) → slice_get xs n ≡ Some x → slice_get (xs ++ zs) n ≡ Some x
kept_before [] zs n x at = absurd (none-some x at)
kept_before (y ∷ xs) zs zero x at = at
kept_before (y ∷ xs) zs (suc n) x at = kept_before xs zs n x at

pub last_at : {X : Type 0} (xs : List X) (x : X) → slice_get (xs ++ x ∷ []) (length xs) ≡ Some x
last_at [] x = refl
last_at (y ∷ xs) x = last_at xs x

before_or_last : {X : Type 0} (xs : List X) (x y : X) (n : ℕ) → slice_get (xs ++ x ∷ []) n ≡ Some y
    → (slice_get xs n ≡ Some y) ⊎ ((n ≡ length xs) × (x ≡ y))
before_or_last [] x y zero at = inr (refl, same_Some x y at)
before_or_last [] x y (suc n) at = absurd (none-some y at)
before_or_last (z ∷ xs) x y zero at = inl at
before_or_last (z ∷ xs) x y (suc n) at = elim (before_or_last xs x y n at) [ inl a ↦ inl a | inr b ↦ inr (ap suc b.0, b.1) ]

-- ---- the numbers of a list of expressions

pub as_many_numbers : (known : List Tree) (ns : List ℕ) (es : List Tree) → AreNumbersOf known ns es → length ns ≡ length es
as_many_numbers known [] [] h = refl
as_many_numbers known [] (e ∷ es) h = absurd h
as_many_numbers known (n ∷ ns) [] h = absurd h
as_many_numbers known (n ∷ ns) (e ∷ es) h = ap suc (as_many_numbers known ns es h.1)

pub kept_numbers : (old new : List Tree) (ns : List ℕ) (es : List Tree) → KeepsNumbers old new → AreNumbersOf old ns es → AreNumbersOf new ns es
kept_numbers old new [] [] kept h = tt
kept_numbers old new [] (e ∷ es) kept h = absurd h
kept_numbers old new (n ∷ ns) [] kept h = absurd h
kept_numbers old new (n ∷ ns) (e ∷ es) kept h = (kept n e h.0, kept_numbers old new ns es kept h.1)

-- the numbers of the expressions of two lists, one behind the other
pub numbers_on : (old new : List Tree) (ms ns : List ℕ) (ds es : List Tree) → KeepsNumbers old new → AreNumbersOf old ms ds → AreNumbersOf new ns es
    → AreNumbersOf new (ms ++ ns) (ds ++ es)
numbers_on old new [] ns [] es kept h k = k
numbers_on old new [] ns (d ∷ ds) es kept h k = absurd h
numbers_on old new (m ∷ ms) ns [] es kept h k = absurd h
numbers_on old new (m ∷ ms) ns (d ∷ ds) es kept h k = (kept m d h.0, numbers_on old new ms ns ds es kept h.1 k)

same_exprs : (known : List Tree) (ns : List ℕ) (ds es : List Tree) → AreNumbersOf known ns ds → AreNumbersOf known ns es → ds ≡ es
same_exprs known [] [] [] h k = refl
same_exprs known [] [] (e ∷ es) h k = absurd k
same_exprs known [] (d ∷ ds) es h k = absurd h
same_exprs known (n ∷ ns) [] es h k = absurd h
same_exprs known (n ∷ ns) (d ∷ ds) [] h k = absurd k
same_exprs known (n ∷ ns) (d ∷ ds) (e ∷ es) h k = λ i. same_Some d e (sym h.0 ∙ k.0) i ∷ same_exprs known ns ds es h.1 k.1 i

only_numbers : (known : List Tree) → ((m n : ℕ) (e : Tree) → slice_get known m ≡ Some e → slice_get known n ≡ Some e → m ≡ n)
    → (ms ns : List ℕ) (es : List Tree) → AreNumbersOf known ms es → AreNumbersOf known ns es → ms ≡ ns
only_numbers known once [] [] [] h k = refl
only_numbers known once [] [] (e ∷ es) h k = absurd h
only_numbers known once [] (n ∷ ns) [] h k = absurd k
only_numbers known once [] (n ∷ ns) (e ∷ es) h k = absurd h
only_numbers known once (m ∷ ms) [] [] h k = absurd h
only_numbers known once (m ∷ ms) [] (e ∷ es) h k = absurd k
only_numbers known once (m ∷ ms) (n ∷ ns) [] h k = absurd h
only_numbers known once (m ∷ ms) (n ∷ ns) (e ∷ es) h k = λ i. once m n e h.0 k.0 i ∷ only_numbers known once ms ns es h.1 k.1 i

-- ---- entries

abbrev Node : Type 0
Node = Tree × Numbered

pub expr_at : (nodes : List Node) (n : ℕ) (r : Node) → slice_get nodes n ≡ Some r → slice_get (exprs_of nodes) n ≡ Some r.1.expr
expr_at [] n r at = absurd (none-some r at)
expr_at (x ∷ nodes) zero r at = ap (λ y. Some y.1.expr) (same_Some x r at)
expr_at (x ∷ nodes) (suc n) r at = expr_at nodes n r at

node_at : (nodes : List Node) (n : ℕ) (e : Tree) → slice_get (exprs_of nodes) n ≡ Some e → (r : Node) × (slice_get nodes n ≡ Some r) × (r.1.expr ≡ e)
node_at [] n e at = absurd (none-some e at)
node_at (x ∷ nodes) zero e at = (x, refl, same_Some x.1.expr e at)
node_at (x ∷ nodes) (suc n) e at = node_at nodes n e at

pub as_many_nodes : (nodes : List Node) → length (exprs_of nodes) ≡ length nodes
as_many_nodes [] = refl
as_many_nodes (x ∷ nodes) = ap suc (as_many_nodes nodes)

exprs_behind : (nodes : List Node) (r : Node) → exprs_of (nodes ++ r ∷ []) ≡ exprs_of nodes ++ r.1.expr ∷ []
exprs_behind [] r = refl
exprs_behind (x ∷ nodes) r = ap (λ es. x.1.expr ∷ es) (exprs_behind nodes r)

-- the numbers of the children of an entry's expression
pub numbers_below : (nodes : List Node) → IsNumbering nodes → (n : ℕ) (r : Node) → slice_get nodes n ≡ Some r
    → (e : Tree) → slice_get (exprs_of nodes) n ≡ Some e → AreNumbersOf (exprs_of nodes) r.1.below.items (children_of e)
numbers_below nodes is n r at e at_e =
    subst (λ d. AreNumbersOf (exprs_of nodes) r.1.below.items (children_of d)) (same_Some r.1.expr e (sym (expr_at nodes n r at) ∙ at_e)) (is.numbered n r at)

-- an expression is that of the entry that stands under its node over numbers
pub is_found : (nodes : List Node) → IsNumbering nodes → (n : ℕ) (r : Node) → slice_get nodes n ≡ Some r → (e : Tree) (ns : List ℕ)
    → AreNumbersOf (exprs_of nodes) ns (children_of e) → over_numbers e ns ≡ r.0 → slice_get (exprs_of nodes) n ≡ Some e
is_found nodes is n r at e ns numbers key =
    let known = exprs_of nodes in
    let d = r.1.expr in
    let ms = r.1.below.items in
    let same : over_numbers e ns ≡ over_numbers d ms = key ∙ is.keyed n r at in
    let many_e : length ns ≡ length (children_of e) = as_many_numbers known ns (children_of e) numbers in
    let many_d : length ms ≡ length (children_of d) = as_many_numbers known ms (children_of d) (is.numbered n r at) in
    let alike : children_of e ≡ children_of d =
    same_exprs known ms (children_of e) (children_of d)
    (subst (λ ks. AreNumbersOf known ks (children_of e)) (same_numbers e d ns ms many_e many_d same) numbers) (is.numbered n r at) in
    expr_at nodes n r at ∙ ap Some (sym (same_node e d ns ms many_e many_d same alike))

-- ---- looking up

key_where : (b : Bool) (test : Tree → Bool) (x k : Tree) (o : Option Tree) → test x ≡ b → (o ≡ Some k → test k ≡ true) → cond b (Some x) o ≡ Some k → test k ≡ true
key_where true test x k o is next h = ap test (sym (same_Some x k h)) ∙ is
key_where false test x k o is next h = next h

key_passes : (test : Tree → Bool) (nodes : List Node) (k : Tree) → lookup_key test nodes ≡ Some k → test k ≡ true
key_passes test [] k h = absurd (none-some k h)
key_passes test (x ∷ nodes) k h = key_where (test x.0) test x.0 k (lookup_key test nodes) refl (key_passes test nodes k) h

-- the key that was found is the one that was looked for
pub same_key : (key k : Tree) (nodes : List Node) → lookup_key (tree_eq key) nodes ≡ Some k → key ≡ k
same_key key k nodes h = (tree_decides key k).0 (key_passes (tree_eq key) nodes k h)

none_where : (b : Bool) (r : Numbered) (o : Option Numbered) → cond b (Some r) o ≡ None → (b ≡ false) × (o ≡ None)
none_where true r o h = absurd (none-some r (sym h))
none_where false r o h = (refl, h)

no_node : (key : Tree) (nodes : List Node) (n : ℕ) (r : Node) → lookup (tree_eq key) nodes ≡ None → slice_get nodes n ≡ Some r → key ≡ r.0 → ⊥
no_node key [] n r h at is = absurd (none-some r at)
no_node key (x ∷ nodes) zero r h at is =
    true≢false (sym ((tree_decides key x.0).1 (is ∙ ap (λ y. y.0) (sym (same_Some x r at)))) ∙ (none_where (tree_eq key x.0) x.1 (lookup (tree_eq key) nodes) h).0)
no_node key (x ∷ nodes) (suc n) r h at is =
    no_node key nodes n r (none_where (tree_eq key x.0) x.1 (lookup (tree_eq key) nodes) h).1 at is

goes_last : (key : Tree) (v : Numbered) (nodes : List Node) → lookup (tree_eq key) nodes ≡ None → insert_entry tree_eq nodes key v ≡ nodes ++ (key, v) ∷ []
goes_last key v [] h = refl
goes_last key v (x ∷ nodes) h =
    let none = none_where (tree_eq key x.0) x.1 (lookup (tree_eq key) nodes) h in
    ap (λ b. cond b ((x.0, v) ∷ nodes) (x ∷ insert_entry tree_eq nodes key v)) none.0 ∙ ap (λ rs. x ∷ rs) (goes_last key v nodes none.1)

-- ---- an entry that is new

module _ (nodes : List Node) (is : IsNumbering nodes) (key : Tree) (v : Numbered)
    (numbers : AreNumbersOf (exprs_of nodes) v.below.items (children_of v.expr)) (key_is : key ≡ over_numbers v.expr v.below.items)
    (absent : lookup (tree_eq key) nodes ≡ None) where
  -- the expression had no number
  is_new : (m : ℕ) → slice_get (exprs_of nodes) m ≡ Some v.expr → ⊥
  is_new m at =
      let known = exprs_of nodes in
      let r = node_at nodes m v.expr at in
      let same : r.0.1.below.items ≡ v.below.items =
      only_numbers known is.once r.0.1.below.items v.below.items (children_of v.expr) (numbers_below nodes is m r.0 r.1 v.expr at) numbers in
      no_node key nodes m r.0 absent r.1
      (key_is ∙ sym (is.keyed m r.0 r.1 ∙ ap (over_numbers r.0.1.expr) same ∙ ap (λ e. over_numbers e v.below.items) r.2))

  abbrev more : List Node
  more = nodes ++ (key, v) ∷ []

  known_before : KeepsNumbers (exprs_of nodes) (exprs_of more)
  known_before n e at = ap (λ es. slice_get es n) (exprs_behind nodes (key, v)) ∙ kept_before (exprs_of nodes) (v.expr ∷ []) n e at

  before_or_new : (n : ℕ) (e : Tree) → slice_get (exprs_of more) n ≡ Some e → (slice_get (exprs_of nodes) n ≡ Some e) ⊎ ((n ≡ length (exprs_of nodes)) × (v.expr ≡ e))
  before_or_new n e at = before_or_last (exprs_of nodes) v.expr e n (ap (λ es. slice_get es n) (sym (exprs_behind nodes (key, v))) ∙ at)

  one_place : (m n : ℕ) (e : Tree) → (slice_get (exprs_of nodes) m ≡ Some e) ⊎ ((m ≡ length (exprs_of nodes)) × (v.expr ≡ e))
      → (slice_get (exprs_of nodes) n ≡ Some e) ⊎ ((n ≡ length (exprs_of nodes)) × (v.expr ≡ e)) → m ≡ n
  one_place m n e (inl a) (inl b) = is.once m n e a b
  one_place m n e (inl a) (inr b) = absurd (is_new m (a ∙ ap Some (sym b.1)))
  one_place m n e (inr a) (inl b) = absurd (is_new n (b ∙ ap Some (sym a.1)))
  one_place m n e (inr a) (inr b) = a.0 ∙ sym b.0

  numbering_more : IsNumbering more
  numbering_more =
      record {
        keyed = λ n r at.
            elim (before_or_last nodes (key, v) r n at) [
              | inl a ↦ is.keyed n r a
              | inr b ↦ subst (λ x. x.0 ≡ over_numbers x.1.expr x.1.below.items) b.1 key_is
            ];
        numbered = λ n r at.
            elim (before_or_last nodes (key, v) r n at) [
              | inl a ↦ kept_numbers (exprs_of nodes) (exprs_of more) r.1.below.items (children_of r.1.expr) known_before (is.numbered n r a)
              | inr b ↦
                  subst (λ x. AreNumbersOf (exprs_of more) x.1.below.items (children_of x.1.expr)) b.1
                  (kept_numbers (exprs_of nodes) (exprs_of more) v.below.items (children_of v.expr) known_before numbers)
            ];
        once = λ m n e at_m at_n. one_place m n e (before_or_new m e at_m) (before_or_new n e at_n);
      }

  module _ (new : List Node) (inserted : new ≡ insert_entry tree_eq nodes key v) where
    new_is : more ≡ new
    new_is = sym (inserted ∙ goes_last key v nodes absent)

    pub still_numbering : IsNumbering new
    still_numbering = subst IsNumbering new_is numbering_more

    pub still_known : KeepsNumbers (exprs_of nodes) (exprs_of new)
    still_known n e at = ap (λ rs. slice_get (exprs_of rs) n) (sym new_is) ∙ known_before n e at

    pub new_number : slice_get (exprs_of new) (length nodes) ≡ Some v.expr
    new_number = expr_at new (length nodes) (key, v) (ap (λ rs. slice_get rs (length nodes)) (sym new_is) ∙ last_at nodes (key, v))

pub grows_on : (old mid new : Numbers) → Grows old mid → Grows mid new → Grows old new
grows_on old mid new first second = record { numbering = second.numbering; kept = λ n e at. second.kept n e (first.kept n e at) }

-- ---- the fold

-- one more node is numbered
numbered_on : (s t u : Numbers) (es : List Tree) (ns : List ℕ) (e : Tree) (n : ℕ) → HasNumbered s es ns t → HasNumbered t (e ∷ []) (n ∷ []) u
    → HasNumbered s (es ++ e ∷ []) (ns ++ n ∷ []) u
numbered_on s t u es ns e n first second =
    record {
      numbers = numbers_on (exprs_of t.nodes.entries) (exprs_of u.nodes.entries) ns (n ∷ []) es (e ∷ []) second.grown.kept first.numbers second.numbers;
      grown = grows_on s t u first.grown second.grown;
    }

-- the children of a node may be numbered in turn
pub children_numbered : (s : Numbers) (es : List Tree) → IsNumbering s.nodes.entries
    → MayTurn (λ t _. IsNumbering t.nodes.entries) (λ t e n u. HasNumbered t (e ∷ []) (n ∷ []) u) (HasNumbered s es) es [] s
children_numbered s es is =
    turn_on (λ t _. IsNumbering t.nodes.entries) HasNumbered (λ r t ds ns numbered e. numbered.grown.numbering) numbered_on s s es (HasNumbered s es)
    (record { numbers = tt; grown = record { numbering = is; kept = λ n e at. at } }) (λ ns t numbered. numbered)
