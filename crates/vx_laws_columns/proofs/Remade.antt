-- A node over other children: whether it breaks, and whether it stays simple.
use Rattle.std.proofs.Common.{◌≡◌, refl, ap, sym, ◌∙◌, Bool, true, false, not, ◌&&◌, ◌||◌, List, [], ◌∷◌}
use Rattle.std.specs.List.{flat_map, AllByRecursion, list_any}
use Rattle.std.proofs.lemmas.Bool.{and_from, or_right}
use Rattle.std.proofs.lemmas.List.Folds.{list_any-append}
use Rattle.vx_dtype.specs.Types.{Bytes, Ty}
use Rattle.vx_dtype.specs.Values.{Val}
use Rattle.vx_dtype.specs.Casts.{cast3}
use Rattle.vx_expr.specs.declared.Operator.{Operator}
use Rattle.vx_expr.specs.Children.{is_root_tree}
use Rattle.vx_expr.specs.Trees.{Tree, root, literal, get_item, binary, not_of, is_null_of, like, between, cast, list_contains, pack, merge, select, dynamic, Trees, no_trees, tree, listed, children_of}
use Rattle.vx_semantics.specs.Meaning.{Slots, binary3, mean}
use Rattle.vx_semantics.specs.Breaks.{Cause, by_sum, by_cast, is_fault, cause_where, is_cause, breaks_by}
use Rattle.vx_semantics.specs.Nodes.{nodes_of, some_node}
use Rattle.vx_passes.specs.Annotating.{Entry, entry_of}
use Rattle.vx_passes.specs.Splitting.{Share, Taken, parts_count, part_access, part_or_below, over_one, over_two, over_three, over_list, taken_from, all_taken_from}
use Rattle.vx_laws.proofs.EachNode.{nodes-by_children}
use Rattle.vx_laws_removing.specs.Simplest.{nodes_below, nodes_in, all_nodes, is_simple}
use Rattle.vx_laws_parts.specs.Preserved.{rowless, all_rowless}
use Rattle.vx_laws_parts.proofs.Shown.{is_pack, simple-item}
use Rattle.vx_laws_columns.proofs.Rows.{IsRowless}
use Rattle.vx_laws_columns.proofs.AskedColumns.{IsSimple}

any-below : (test : Tree → Bool) (es : List Tree) → list_any test (flat_map nodes_of es) ≡ list_any (some_node test) es
any-below test [] = refl
any-below test (e ∷ es) = list_any-append test (nodes_of e) (flat_map nodes_of es) ∙ ap (λ (b : Bool). some_node test e || b) (any-below test es)

-- some node of an expression is the expression or one of its children's
pub some-by_children : (test : Tree → Bool) (e : Tree) → some_node test e ≡ (test e || list_any (some_node test) (children_of e))
some-by_children test e = ap (list_any test) (nodes-by_children e) ∙ ap (λ (b : Bool). test e || b) (any-below test (children_of e))

all-simple : (es : Trees) → AllByRecursion IsSimple (listed es) → nodes_in is_simple es ≡ true
unfolding nodes_below
all-simple no_trees h = refl
all-simple (tree e es) h = and_from (all_nodes is_simple e) (nodes_in is_simple es) h.0 (all-simple es h.1)

-- a simple node over simple expressions
pub simple-node : (e : Tree) → is_simple e ≡ true → AllByRecursion IsSimple (children_of e) → IsSimple e
unfolding nodes_below
simple-node root s h = refl
simple-node (literal c) s h = refl
simple-node (get_item f e) s h = and_from (is_simple (get_item f e)) (all_nodes is_simple e) s h.0
simple-node (binary l op r) s h = and_from (all_nodes is_simple l) (all_nodes is_simple r) h.0 h.1.0
simple-node (not_of e) s h = h.0
simple-node (is_null_of e) s h = h.0
simple-node (like e p negated fold_case) s h = and_from (all_nodes is_simple e) (all_nodes is_simple p) h.0 h.1.0
simple-node (between e lower upper options) s h =
    and_from (all_nodes is_simple e) (all_nodes is_simple lower && all_nodes is_simple upper) h.0 (and_from (all_nodes is_simple lower) (all_nodes is_simple upper) h.1.0 h.1.1.0)
simple-node (cast e t) s h = h.0
simple-node (list_contains l v) s h = and_from (all_nodes is_simple l) (all_nodes is_simple v) h.0 h.1.0
simple-node (pack names es n) s h = all-simple es h
simple-node (merge es n) s h = let no : ⊥ = cc in absurd no
simple-node (select c e) s h = let no : ⊥ = cc in absurd no
simple-node (dynamic e op k t default) s h = h.0

all-rowless : (es : Trees) → AllByRecursion IsRowless (listed es) → all_rowless es ≡ true
unfolding rowless
all-rowless no_trees h = refl
all-rowless (tree e es) h = and_from (rowless e) (all_rowless es) h.0 (all-rowless es h.1)

-- a node that is not the row over expressions that have it only straight below fields
pub rowless-node : (e : Tree) → is_root_tree e ≡ false → AllByRecursion IsRowless (children_of e) → IsRowless e
unfolding rowless
rowless-node root o h = let no : ⊥ = cc in absurd no
rowless-node (literal s) o h = refl
rowless-node (get_item f e) o h = or_right (is_root_tree e) (rowless e) h.0
rowless-node (binary l op r) o h = and_from (rowless l) (rowless r) h.0 h.1.0
rowless-node (not_of e) o h = h.0
rowless-node (is_null_of e) o h = h.0
rowless-node (like e p negated fold_case) o h = and_from (rowless e) (rowless p) h.0 h.1.0
rowless-node (between e lower upper options) o h = and_from (rowless e) (rowless lower && rowless upper) h.0 (and_from (rowless lower) (rowless upper) h.1.0 h.1.1.0)
rowless-node (cast e t) o h = h.0
rowless-node (list_contains l v) o h = and_from (rowless l) (rowless v) h.0 h.1.0
rowless-node (pack names es n) o h = all-rowless es h
rowless-node (merge es n) o h = all-rowless es h
rowless-node (select s e) o h = h.0
rowless-node (dynamic e op k t default) o h = h.0

-- a pack only where the other is one
abbrev pub PackOnlyWhere : List Tree → List Tree → Type 0
PackOnlyWhere [] es = Unit {0}
PackOnlyWhere (c ∷ cs) [] = Unit {0}
PackOnlyWhere (c ∷ cs) (e ∷ es) = (is_pack c ≡ true → is_pack e ≡ true) × PackOnlyWhere cs es

item-simple : (f : Bytes) (c : Tree) → is_pack c ≡ false → is_simple (get_item f c) ≡ true
item-simple f (pack names es n) h = let no : ⊥ = cc in absurd no
item-simple f _ h = refl

no-pack : (c e : Tree) → (is_pack c ≡ true → is_pack e ≡ true) → is_pack e ≡ false → is_pack c ≡ false
no-pack c e h k = by-test (is_pack c) h
  where
    by-test : (b : Bool) → (b ≡ true → is_pack e ≡ true) → b ≡ false
    by-test false i = refl
    by-test true i = let no : true ≡ false = sym (i refl) ∙ k in let wrong : ⊥ = cc in absurd wrong

module _ (t v : Ty) (slots : Slots) (row made : Val) (cause : Cause) where
  -- expressions mean over what the parts give what others mean over the row
  abbrev pub MeanSame : List Tree → List Tree → Type 0
  MeanSame [] es = Unit {0}
  MeanSame (c ∷ cs) [] = Unit {0}
  MeanSame (c ∷ cs) (e ∷ es) = (mean v slots made c ≡ mean t slots row e) × MeanSame cs es

  abbrev pub breaks_over_row : Tree → Bool
  breaks_over_row n = breaks_by cause t slots row n

  abbrev pub breaks_over_parts : Tree → Bool
  breaks_over_parts n = breaks_by cause v slots made n

  pub sums-across : (c l : Tree) (op : Operator) (d r : Tree) → mean v slots made c ≡ mean t slots row l → mean v slots made d ≡ mean t slots row r
      → breaks_over_parts (binary c op d) ≡ breaks_over_row (binary l op r)
  unfolding mean
  sums-across c l Operator.Add d r h i =
      ap (λ (a : Val). is_cause cause (cause_where (not (is_fault a) && not (is_fault (mean v slots made d))) (binary3 Operator.Add a (mean v slots made d)) by_sum)) h
      ∙ ap (λ (b : Val). is_cause cause (cause_where (not (is_fault (mean t slots row l)) && not (is_fault b)) (binary3 Operator.Add (mean t slots row l) b) by_sum)) i
  sums-across c l Operator.Sub d r h i =
      ap (λ (a : Val). is_cause cause (cause_where (not (is_fault a) && not (is_fault (mean v slots made d))) (binary3 Operator.Sub a (mean v slots made d)) by_sum)) h
      ∙ ap (λ (b : Val). is_cause cause (cause_where (not (is_fault (mean t slots row l)) && not (is_fault b)) (binary3 Operator.Sub (mean t slots row l) b) by_sum)) i
  sums-across c l _ d r h i = refl

  pub casts-across : (c e : Tree) (target : Ty) → mean v slots made c ≡ mean t slots row e → breaks_over_parts (cast c target) ≡ breaks_over_row (cast e target)
  unfolding mean
  casts-across c e target h = ap (λ (a : Val). is_cause cause (cause_where (not (is_fault a)) (cast3 target a) by_cast)) h

  -- a node over other children
  pub record Remade (e : Tree) (cs : List Tree) (d : Tree) : Type 0 where
    pub children : children_of d ≡ cs
    pub breaks : MeanSame cs (children_of e) → breaks_over_parts d ≡ breaks_over_row e
    pub simple : PackOnlyWhere cs (children_of e) → is_simple e ≡ true → is_simple d ≡ true
    pub packs : is_pack d ≡ is_pack e
    pub root_same : is_root_tree d ≡ is_root_tree e

  module _ {A : Type 0} (same : A → A → Bool) (text : A → Bytes) (m : List (Entry A)) where
    -- several expressions in which parts were taken out, one after another
    abbrev pub taken_after : List Tree → List (Share A) → List Tree
    taken_after [] ss = []
    taken_after (c ∷ cs) ss = (taken_from same text m c ss).expression ∷ taken_after cs (taken_from same text m c ss).shares

    -- a part's place, or a node over what is left of its children
    abbrev pub TakenAs : Tree → List A → List (Share A) → Tree → Type 0
    TakenAs e (a ∷ []) ss d = d ≡ part_access (text a) (parts_count same a ss)
    TakenAs e _ ss d = Remade e (taken_after (children_of e) ss) d

    by-entry : (e : Tree) (xs : List A) (below : List (Share A) → Taken A) (ss : List (Share A)) → Remade e (taken_after (children_of e) ss) (below ss).expression
        → TakenAs e xs ss (part_or_below same text e xs below ss).expression
    by-entry e [] below ss h = h
    by-entry e (a ∷ []) below ss h = refl
    by-entry e (a ∷ b ∷ xs) below ss h = h

    listed-taken : (es : Trees) (ss : List (Share A)) → listed (all_taken_from same text m es ss).expressions ≡ taken_after (listed es) ss
    unfolding taken_from
    listed-taken no_trees ss = refl
    listed-taken (tree e es) ss = ap (λ (ds : List Tree). (taken_from same text m e ss).expression ∷ ds) (listed-taken es (taken_from same text m e ss).shares)

    pub taken-as : (e : Tree) (ss : List (Share A)) → TakenAs e (entry_of e m) ss (taken_from same text m e ss).expression
    unfolding taken_from
    taken-as root ss =
        by-entry root (entry_of root m) (λ ks. record { expression = root; shares = ks }) ss
        (record { children = refl; breaks = λ h. refl; simple = λ a h. h; packs = refl; root_same = refl })
    taken-as (literal s) ss =
        by-entry (literal s) (entry_of (literal s) m) (λ ks. record { expression = literal s; shares = ks }) ss
        (record { children = refl; breaks = λ h. refl; simple = λ a h. h; packs = refl; root_same = refl })
    taken-as (get_item f e) ss =
        by-entry (get_item f e) (entry_of (get_item f e) m) (λ ks. over_one (get_item f) (taken_from same text m e ks)) ss
        (record {
          children = refl;
          breaks = λ h. refl;
          simple = λ a h. item-simple f (taken_from same text m e ss).expression (no-pack (taken_from same text m e ss).expression e a.0 (simple-item f e h));
          packs = refl;
          root_same = refl;
        })
    taken-as (binary l op r) ss =
        let x = taken_from same text m l ss in
        let y = taken_from same text m r x.shares in
        by-entry (binary l op r) (entry_of (binary l op r) m) (λ ks. over_two (λ a. λ b. binary a op b) (taken_from same text m r) (taken_from same text m l ks)) ss
        (record { children = refl; breaks = λ h. sums-across x.expression l op y.expression r h.0 h.1.0; simple = λ a h. refl; packs = refl; root_same = refl })
    taken-as (not_of e) ss =
        by-entry (not_of e) (entry_of (not_of e) m) (λ ks. over_one not_of (taken_from same text m e ks)) ss
        (record { children = refl; breaks = λ h. refl; simple = λ a h. refl; packs = refl; root_same = refl })
    taken-as (is_null_of e) ss =
        by-entry (is_null_of e) (entry_of (is_null_of e) m) (λ ks. over_one is_null_of (taken_from same text m e ks)) ss
        (record { children = refl; breaks = λ h. refl; simple = λ a h. refl; packs = refl; root_same = refl })
    taken-as (like e p negated fold_case) ss =
        by-entry (like e p negated fold_case) (entry_of (like e p negated fold_case) m)
        (λ ks. over_two (λ d. λ q. like d q negated fold_case) (taken_from same text m p) (taken_from same text m e ks)) ss
        (record { children = refl; breaks = λ h. refl; simple = λ a h. refl; packs = refl; root_same = refl })
    taken-as (between e lower upper options) ss =
        by-entry (between e lower upper options) (entry_of (between e lower upper options) m)
        (λ ks. over_three (λ d. λ a. λ b. between d a b options) (taken_from same text m lower) (taken_from same text m upper) (taken_from same text m e ks)) ss
        (record { children = refl; breaks = λ h. refl; simple = λ a h. refl; packs = refl; root_same = refl })
    taken-as (cast e target) ss =
        by-entry (cast e target) (entry_of (cast e target) m) (λ ks. over_one (λ d. cast d target) (taken_from same text m e ks)) ss
        (record { children = refl; breaks = λ h. casts-across (taken_from same text m e ss).expression e target h.0; simple = λ a h. refl; packs = refl; root_same = refl })
    taken-as (list_contains l v) ss =
        by-entry (list_contains l v) (entry_of (list_contains l v) m) (λ ks. over_two list_contains (taken_from same text m v) (taken_from same text m l ks)) ss
        (record { children = refl; breaks = λ h. refl; simple = λ a h. refl; packs = refl; root_same = refl })
    taken-as (pack names es n) ss =
        by-entry (pack names es n) (entry_of (pack names es n) m) (λ ks. over_list (λ ds. pack names ds n) (all_taken_from same text m es ks)) ss
        (record { children = listed-taken es ss; breaks = λ h. refl; simple = λ a h. refl; packs = refl; root_same = refl })
    taken-as (merge es n) ss =
        by-entry (merge es n) (entry_of (merge es n) m) (λ ks. over_list (λ ds. merge ds n) (all_taken_from same text m es ks)) ss
        (record { children = listed-taken es ss; breaks = λ h. refl; simple = λ a h. h; packs = refl; root_same = refl })
    taken-as (select s e) ss =
        by-entry (select s e) (entry_of (select s e) m) (λ ks. over_one (select s) (taken_from same text m e ks)) ss
        (record { children = refl; breaks = λ h. refl; simple = λ a h. h; packs = refl; root_same = refl })
    taken-as (dynamic e op k target default) ss =
        by-entry (dynamic e op k target default) (entry_of (dynamic e op k target default) m) (λ ks. over_one (λ d. dynamic d op k target default) (taken_from same text m e ks)) ss
        (record { children = refl; breaks = λ h. refl; simple = λ a h. refl; packs = refl; root_same = refl })
