-- Of an expression of simple nodes with the row below fields alone, each node is asked.
use Rattle.std.proofs.Common.{◌≡◌, refl, ap, sym, ◌∙◌, Bool, true, false, ◌&&◌, ◌||◌, subst, List, [], ◌∷◌, ◌++◌, Result, Ok, suc, arith}
use Rattle.std.specs.Prelude.{nat_eq, length}
use Rattle.std.specs.List.{list_any}
use Rattle.std.proofs.lemmas.Bool.{and_parts, eqb-true}
use Rattle.std.proofs.lemmas.List.Folds.{list_any-append}
use Rattle.vx_dtype.specs.declared.Nullability.{Nullability}
use Rattle.vx_dtype.specs.declared.Nullability.TheVariants.{NonNullable}
use Rattle.vx_dtype.specs.Types.{Bytes, Ty, bool_ty, struct_ty}
use Rattle.vx_dtype.specs.TypeRules.{distinct_names}
use Rattle.vx_dtype.specs.Zipped.{zipped}
use Rattle.vx_dtype.specs.Values.{Val}
use Rattle.vx_expr.specs.Trees.{Tree, root, literal, get_item, binary, not_of, is_null_of, like, between, cast, list_contains, pack, merge, select, dynamic, Trees, no_trees, tree}
use Rattle.vx_semantics.specs.Typing.{Refusal, duplicate_field, type_mismatch, and_then, unless, item_type, pack_type, binary_type, not_type, like_type, between_type, contains_type, cast_type, dynamic_type, typed_of, all_typed}
use Rattle.vx_semantics.specs.Meaning.{Slots}
use Rattle.vx_semantics.specs.Breaks.{Cause, by_sum, by_cast, breaks_by}
use Rattle.vx_semantics.specs.Asked.{Asking, asks_node, asks_column, asked, asked_in_pack}
use Rattle.vx_semantics.specs.Nodes.{nodes_of, nodes_of_all, some_node}
use Rattle.vx_laws.proofs.Inverting.{and_then-ok, unless-ok, Ok-same}
use Rattle.vx_laws_simplifying.proofs.Observing.{seen, or-false, breaking, is_column}
use Rattle.vx_laws_removing.specs.Simplest.{nodes_below, nodes_in, all_nodes, is_simple}
use Rattle.vx_laws_parts.specs.Preserved.{rowless, all_rowless, is_column_node}

-- whether a node is the row or a field of it
abbrev pub is_of_row : Tree → Bool
is_of_row root = true
is_of_row (get_item f root) = true
is_of_row _ = false

abbrev pub is_pack : Tree → Bool
is_pack (pack names es n) = true
is_pack _ = false

-- a test of nodes that shows what a test of what is asked does
pub record Shows (test : Asking → Bool) (node : Tree → Bool) : Type 0 where
  pub row : node root ≡ false
  pub field : (f : Bytes) → node (get_item f root) ≡ (test (asks_node (get_item f root)) || test (asks_column f))
  pub other : (n : Tree) → is_of_row n ≡ false → node n ≡ test (asks_node n)

pub breaking-shows : (cause : Cause) (t : Ty) (slots : Slots) (row : Val) → Shows (breaking cause t slots row) (breaks_by cause t slots row)
breaking-shows by_sum t slots row = record { row = refl; field = λ f. refl; other = λ n h. refl }
breaking-shows by_cast t slots row = record { row = refl; field = λ f. refl; other = λ n h. refl }

no-column : (c : Bytes) (n : Tree) → is_of_row n ≡ false → is_column_node c n ≡ false
no-column c (get_item f root) h = let no : ⊥ = cc in absurd no
no-column c (get_item f _) h = refl
no-column c _ h = refl

pub is_column-shows : (c : Bytes) → Shows (is_column c) (is_column_node c)
is_column-shows c = record { row = refl; field = λ f. refl; other = no-column c }

-- a field straight on what is no pack
pub simple-item : (f : Bytes) (x : Tree) → is_simple (get_item f x) ≡ true → is_pack x ≡ false
simple-item f (pack names es n) h = let no : ⊥ = cc in absurd no
simple-item f _ h = refl

pub never-pack : (x : Tree) (path : List Bytes) → is_pack x ≡ false → is_pack x ≡ true → path ≡ []
never-pack x path h k = let no : ⊥ = cc in absurd no

-- a typed pack has as many names as values
pub pack-even : (names : List Bytes) (n : Nullability) (us : List Ty) (u : Ty) → pack_type names n us ≡ Ok u → length names ≡ length us
pack-even names n us u h =
    let made : Result Ty Refusal = Ok (struct_ty (zipped names us) n) in
    let a = unless-ok (distinct_names names) duplicate_field (unless (nat_eq (length names) (length us)) type_mismatch made) u h in
    eqb-true (length names) (length us) (unless-ok (nat_eq (length names) (length us)) type_mismatch made u a.gave).holds

module _ (t : Ty) (test : Asking → Bool) (node : Tree → Bool) (s : Shows test node) where
  node-shown : (n : Tree) (asks : List Asking) (ns : List Tree) → is_of_row n ≡ false → list_any test asks ≡ list_any node ns → list_any test (asks_node n ∷ asks) ≡ list_any node (n ∷ ns)
  node-shown n asks ns h k = ap (λ (x : Bool). x || list_any test asks) (sym (s.other n h)) ∙ ap (λ (x : Bool). node n || x) k

  both-shown : (xs ys : List Asking) (ms ns : List Tree) → list_any test xs ≡ list_any node ms → list_any test ys ≡ list_any node ns → list_any test (xs ++ ys) ≡ list_any node (ms ++ ns)
  both-shown xs ys ms ns h k =
      list_any-append test xs ys ∙ (ap (λ (x : Bool). x || list_any test ys) h ∙ (ap (λ (x : Bool). list_any node ms || x) k ∙ sym (list_any-append node ms ns)))

  field-shown : (f : Bytes) → (test (asks_node (get_item f root)) || (test (asks_column f) || false)) ≡ (node (get_item f root) || (node root || false))
  field-shown f =
      ap (λ (x : Bool). test (asks_node (get_item f root)) || x) (or-false (test (asks_column f)))
      ∙ sym (ap (λ (x : Bool). node (get_item f root) || (x || false)) s.row ∙ (or-false (node (get_item f root)) ∙ s.field f))

  mutual
    unfolding asked typed_of nodes_below rowless nodes_of

    pub shown : (x : Tree) (u : Ty) → typed_of t x ≡ Ok u → all_nodes is_simple x ≡ true → rowless x ≡ true → (path : List Bytes) → (is_pack x ≡ true → path ≡ []) → seen test t x path ≡ some_node node x
    shown root u h g r path e = let no : ⊥ = cc in absurd no
    shown (literal c) u h g r path e = node-shown (literal c) [] [] refl refl
    shown (get_item f root) u h g r path e = field-shown f
    shown (get_item f x) u h g r path e =
        let p = and_parts (is_simple (get_item f x)) (all_nodes is_simple x) g in
        let a = and_then-ok (typed_of t x) (item_type f) u h in
        node-shown (get_item f x) (asked t x (f ∷ path)) (nodes_of x) refl
        (shown x a.given a.was p.1 r (f ∷ path) (never-pack x (f ∷ path) (simple-item f x p.0)))
    shown (binary l op q) u h g r path e =
        let p = and_parts (all_nodes is_simple l) (all_nodes is_simple q) g in
        let w = and_parts (rowless l) (rowless q) r in
        let a = and_then-ok (typed_of t l) (λ z. and_then (typed_of t q) (binary_type op z)) u h in
        let b = and_then-ok (typed_of t q) (binary_type op a.given) u a.gave in
        node-shown (binary l op q) (asked t l [] ++ asked t q []) (nodes_of l ++ nodes_of q) refl
        (both-shown (asked t l []) (asked t q []) (nodes_of l) (nodes_of q) (shown l a.given a.was p.0 w.0 [] (λ i. refl)) (shown q b.given b.was p.1 w.1 [] (λ i. refl)))
    shown (not_of x) u h g r path e =
        let a = and_then-ok (typed_of t x) not_type u h in
        node-shown (not_of x) (asked t x []) (nodes_of x) refl (shown x a.given a.was g r [] (λ i. refl))
    shown (is_null_of x) u h g r path e =
        let a = and_then-ok (typed_of t x) (λ z. Ok (bool_ty NonNullable)) u h in
        node-shown (is_null_of x) (asked t x []) (nodes_of x) refl (shown x a.given a.was g r [] (λ i. refl))
    shown (like l q negated fold_case) u h g r path e =
        let p = and_parts (all_nodes is_simple l) (all_nodes is_simple q) g in
        let w = and_parts (rowless l) (rowless q) r in
        let a = and_then-ok (typed_of t l) (λ z. and_then (typed_of t q) (like_type z)) u h in
        let b = and_then-ok (typed_of t q) (like_type a.given) u a.gave in
        node-shown (like l q negated fold_case) (asked t l [] ++ asked t q []) (nodes_of l ++ nodes_of q) refl
        (both-shown (asked t l []) (asked t q []) (nodes_of l) (nodes_of q) (shown l a.given a.was p.0 w.0 [] (λ i. refl)) (shown q b.given b.was p.1 w.1 [] (λ i. refl)))
    shown (between x l q options) u h g r path e =
        let p = and_parts (all_nodes is_simple x) (all_nodes is_simple l && all_nodes is_simple q) g in
        let m = and_parts (all_nodes is_simple l) (all_nodes is_simple q) p.1 in
        let w = and_parts (rowless x) (rowless l && rowless q) r in
        let v = and_parts (rowless l) (rowless q) w.1 in
        let a = and_then-ok (typed_of t x) (λ y. and_then (typed_of t l) (λ z. and_then (typed_of t q) (between_type y z))) u h in
        let b = and_then-ok (typed_of t l) (λ z. and_then (typed_of t q) (between_type a.given z)) u a.gave in
        let c = and_then-ok (typed_of t q) (between_type a.given b.given) u b.gave in
        node-shown (between x l q options) (asked t x [] ++ (asked t l [] ++ asked t q [])) (nodes_of x ++ (nodes_of l ++ nodes_of q)) refl
        (both-shown (asked t x []) (asked t l [] ++ asked t q []) (nodes_of x) (nodes_of l ++ nodes_of q) (shown x a.given a.was p.0 w.0 [] (λ i. refl))
        (both-shown (asked t l []) (asked t q []) (nodes_of l) (nodes_of q) (shown l b.given b.was m.0 v.0 [] (λ i. refl)) (shown q c.given c.was m.1 v.1 [] (λ i. refl))))
    shown (cast x target) u h g r path e =
        let a = and_then-ok (typed_of t x) (cast_type target) u h in
        node-shown (cast x target) (asked t x []) (nodes_of x) refl (shown x a.given a.was g r [] (λ i. refl))
    shown (list_contains l q) u h g r path e =
        let p = and_parts (all_nodes is_simple l) (all_nodes is_simple q) g in
        let w = and_parts (rowless l) (rowless q) r in
        let a = and_then-ok (typed_of t l) (λ z. and_then (typed_of t q) (contains_type z)) u h in
        let b = and_then-ok (typed_of t q) (contains_type a.given) u a.gave in
        node-shown (list_contains l q) (asked t l [] ++ asked t q []) (nodes_of l ++ nodes_of q) refl
        (both-shown (asked t l []) (asked t q []) (nodes_of l) (nodes_of q) (shown l a.given a.was p.0 w.0 [] (λ i. refl)) (shown q b.given b.was p.1 w.1 [] (λ i. refl)))
    shown (pack names es n) u h g r path e =
        let a = and_then-ok (all_typed t es) (pack_type names n) u h in
        subst (λ (z : List Bytes). seen test t (pack names es n) z ≡ some_node node (pack names es n)) (sym (e refl))
        (node-shown (pack names es n) (asked_in_pack t names es []) (nodes_of_all es) refl (all_shown names es a.given a.was (pack-even names n a.given u a.gave) g r))
    shown (merge es n) u h g r path e = let no : ⊥ = cc in absurd no
    shown (select c x) u h g r path e = let no : ⊥ = cc in absurd no
    shown (dynamic x op k slot default) u h g r path e =
        let a = and_then-ok (typed_of t x) (dynamic_type slot) u h in
        node-shown (dynamic x op k slot default) (asked t x []) (nodes_of x) refl (shown x a.given a.was g r [] (λ i. refl))

    all_shown : (names : List Bytes) (es : Trees) (us : List Ty) → all_typed t es ≡ Ok us → length names ≡ length us → nodes_in is_simple es ≡ true → all_rowless es ≡ true
        → list_any test (asked_in_pack t names es []) ≡ list_any node (nodes_of_all es)
    all_shown [] no_trees us h k g r = refl
    all_shown (f ∷ names) no_trees us h k g r = refl
    all_shown [] (tree d ds) us h k g r =
        let a = and_then-ok (typed_of t d) (λ x. and_then (all_typed t ds) (λ xs. Ok (x ∷ xs))) us h in
        let b = and_then-ok (all_typed t ds) (λ xs. Ok (a.given ∷ xs)) us a.gave in
        let same : a.given ∷ b.given ≡ us = Ok-same (Ok us) (a.given ∷ b.given) us (sym b.gave) refl in
        let more : suc (length b.given) ≡ length us = ap length same in
        absurd (omega arith)
    all_shown (f ∷ names) (tree d ds) us h k g r =
        let p = and_parts (all_nodes is_simple d) (nodes_in is_simple ds) g in
        let w = and_parts (rowless d) (all_rowless ds) r in
        let a = and_then-ok (typed_of t d) (λ x. and_then (all_typed t ds) (λ xs. Ok (x ∷ xs))) us h in
        let b = and_then-ok (all_typed t ds) (λ xs. Ok (a.given ∷ xs)) us a.gave in
        let same : a.given ∷ b.given ≡ us = Ok-same (Ok us) (a.given ∷ b.given) us (sym b.gave) refl in
        let more : suc (length b.given) ≡ length us = ap length same in
        let even : length names ≡ length b.given = omega arith in
        both-shown (asked t d []) (asked_in_pack t names ds []) (nodes_of d) (nodes_of_all ds) (shown d a.given a.was p.0 w.0 [] (λ i. refl))
        (all_shown names ds b.given b.was even p.1 w.1)
