-- Where no node of an expression breaks, no node of it means a value that holds a fault.
use Rattle.std.proofs.Common.{◌≡◌, refl, ◌∙◌, Bool, true, false, cond, Option, Some, None, List, [], ◌∷◌, ◌++◌, map}
use Rattle.std.specs.Prelude.{is_some, option_map, unwrap_or}
use Rattle.std.specs.Str.{bytes_eq}
use Rattle.std.specs.List.{list_any, AllByRecursion}
use Rattle.std.specs.Option.{option_or}
use Rattle.std.proofs.lemmas.Bool.{or_parts, or_from}
use Rattle.std.proofs.lemmas.List.Elements.{All-from_recursion}
use Rattle.std.proofs.lemmas.List.Folds.{list_any-append}
use Rattle.vx_dtype.specs.Types.{Bytes, Ty}
use Rattle.vx_dtype.specs.TypeRules.{has_name}
use Rattle.vx_dtype.specs.Values.{Val}
use Rattle.vx_expr.specs.Trees.{Tree, root, literal, get_item, binary, not_of, is_null_of, like, between, cast, list_contains, pack, merge, select, dynamic, Trees, no_trees, tree, listed, children_of}
use Rattle.vx_semantics.specs.Typing.{names_in, given_names}
use Rattle.vx_semantics.specs.Meaning.{Slots, mean}
use Rattle.vx_semantics.specs.Merging.{merged_names, last_giver}
use Rattle.vx_semantics.specs.Breaks.{Cause, by_sum, by_cast, is_cause, break_of, breaks, breaks_by}
use Rattle.vx_semantics.specs.Nodes.{nodes_of, breaks_at_some}
use Rattle.vx_semantics.specs.Asked.{Asking, asks_column, root_asks, each_asked, path_or_each, Giver, giver_names, givers, asked_of_giver, asked, asked_in_pack}
use Rattle.vx_laws.specs.Faults.{NoNodeBreaksNoFault}
use Rattle.vx_laws.proofs.EachNode.{all-then, by_children, nodes-below, IsTyped, nodes-typed, SlotsFit, nodes-fit, each_node}
use Rattle.vx_laws.proofs.Sound.{HoldsNoFault}
use Rattle.vx_laws.proofs.Paths.{Quiet, asking_breaks}
use Rattle.vx_laws.proofs.Faultless.{mean-faultless}

module _ (t : Ty) (slots : Slots) (row : Val) where
  -- nothing that breaks is asked along any path
  abbrev EverQuiet : (List Bytes → List Asking) → Type 0
  EverQuiet ask = (path : List Bytes) → Quiet t slots row (ask path)

  quiet-both : (xs ys : List Asking) → Quiet t slots row xs → Quiet t slots row ys → Quiet t slots row (xs ++ ys)
  quiet-both xs ys h k =
      list_any-append (asking_breaks t slots row) xs ys ∙ or_from (list_any (asking_breaks t slots row) xs) (list_any (asking_breaks t slots row) ys) h k

  columns-quiet : (names : List Bytes) → Quiet t slots row (map asks_column names)
  columns-quiet [] = refl
  columns-quiet (f ∷ names) = columns-quiet names

  root-quiet : (path : List Bytes) → Quiet t slots row (root_asks t path)
  root-quiet [] = columns-quiet (names_in t)
  root-quiet (c ∷ path) = refl

  each-asked-quiet : (ask : List Bytes → List Asking) → EverQuiet ask → (names : List Bytes) → Quiet t slots row (each_asked ask names)
  each-asked-quiet ask h [] = refl
  each-asked-quiet ask h (f ∷ names) = quiet-both (ask (f ∷ [])) (each_asked ask names) (h (f ∷ [])) (each-asked-quiet ask h names)

  path_or_each-quiet : (ask : List Bytes → List Asking) → EverQuiet ask → (names : List Bytes) → EverQuiet (path_or_each ask names)
  path_or_each-quiet ask h names [] = each-asked-quiet ask h names
  path_or_each-quiet ask h names (f ∷ path) = h (f ∷ path)

  in_pack-quiet : (names : List Bytes) (es : Trees) → AllByRecursion (λ e. EverQuiet (asked t e)) (listed es) → EverQuiet (asked_in_pack t names es)
  unfolding asked
  in_pack-quiet names no_trees h path = refl
  in_pack-quiet [] (tree e es) h path = refl
  in_pack-quiet (f ∷ names) (tree e es) h [] = quiet-both (asked t e []) (asked_in_pack t names es []) (h.0 []) (in_pack-quiet names es h.1 [])
  in_pack-quiet (f ∷ names) (tree e es) h (g ∷ path) = by-test (bytes_eq g f) (h.0 path) (in_pack-quiet names es h.1 (g ∷ path))
    where
      by-test : (b : Bool) → Quiet t slots row (asked t e path) → Quiet t slots row (asked_in_pack t names es (g ∷ path))
          → Quiet t slots row (cond b (asked t e path) (asked_in_pack t names es (g ∷ path)))
      by-test true i k = i
      by-test false i k = k

  of_giver-quiet : (gs : List Giver) → AllByRecursion (λ g. EverQuiet g.asks) gs → EverQuiet (asked_of_giver gs)
  of_giver-quiet gs h [] = refl
  of_giver-quiet gs h (f ∷ path) = last-quiet gs h
    where
      or-here : (o : Option Giver) (g : Giver) (b : Bool) → EverQuiet g.asks
          → Quiet t slots row (unwrap_or (option_map (λ (x : Giver). x.asks (f ∷ path)) o) [])
          → Quiet t slots row (unwrap_or (option_map (λ (x : Giver). x.asks (f ∷ path)) (option_or o (cond b (Some g) None))) [])
      or-here (Some x) g b i k = k
      or-here None g true i k = i (f ∷ path)
      or-here None g false i k = refl

      last-quiet : (xs : List Giver) → AllByRecursion (λ g. EverQuiet g.asks) xs
          → Quiet t slots row (unwrap_or (option_map (λ (x : Giver). x.asks (f ∷ path)) (last_giver giver_names f xs)) [])
      last-quiet [] i = refl
      last-quiet (x ∷ xs) i = or-here (last_giver giver_names f xs) x (has_name f x.names) i.0 (last-quiet xs i.1)

  givers-quiet : (es : Trees) → AllByRecursion (λ e. EverQuiet (asked t e)) (listed es) → AllByRecursion (λ (g : Giver). EverQuiet g.asks) (givers t es)
  unfolding asked
  givers-quiet no_trees h = tt
  givers-quiet (tree e es) h = (h.0, givers-quiet es h.1)

  -- a node that doesn't break, over children of which nothing that breaks is asked
  node-quiet : (e : Tree) → breaks t slots row e ≡ false → AllByRecursion (λ c. EverQuiet (asked t c)) (children_of e) → EverQuiet (asked t e)
  unfolding asked
  node-quiet root b h path = root-quiet path
  node-quiet (literal s) b h path = refl
  node-quiet (get_item f e) b h path = h.0 (f ∷ path)
  node-quiet (binary l op r) b h path =
      or_from (breaks t slots row (binary l op r)) (list_any (asking_breaks t slots row) (asked t l [] ++ asked t r [])) b
      (quiet-both (asked t l []) (asked t r []) (h.0 []) (h.1.0 []))
  node-quiet (not_of e) b h path = h.0 []
  node-quiet (is_null_of e) b h path = h.0 []
  node-quiet (like e p negated fold_case) b h path = quiet-both (asked t e []) (asked t p []) (h.0 []) (h.1.0 [])
  node-quiet (between e lower upper options) b h path =
      quiet-both (asked t e []) (asked t lower [] ++ asked t upper []) (h.0 []) (quiet-both (asked t lower []) (asked t upper []) (h.1.0 []) (h.1.1.0 []))
  node-quiet (cast e target) b h path =
      or_from (breaks t slots row (cast e target)) (list_any (asking_breaks t slots row) (asked t e [])) b (h.0 [])
  node-quiet (list_contains l v) b h path = quiet-both (asked t l []) (asked t v []) (h.0 []) (h.1.0 [])
  node-quiet (pack names es n) b h path = in_pack-quiet names es h path
  node-quiet (merge es n) b h path =
      path_or_each-quiet (asked_of_giver (givers t es)) (of_giver-quiet (givers t es) (givers-quiet es h)) (merged_names giver_names (givers t es)) path
  node-quiet (select s e) b h path = path_or_each-quiet (asked t e) h.0 (given_names t (select s e)) path
  node-quiet (dynamic e op k slot default) b h path = h.0 []

  -- an expression no node of which breaks
  abbrev Unbroken : Tree → Type 0
  Unbroken e = AllByRecursion (λ n. breaks t slots row n ≡ false) (nodes_of e)

  unbroken-quiet : (e : Tree) → Unbroken e → EverQuiet (asked t e)
  unbroken-quiet =
      by_children (λ e. Unbroken e → EverQuiet (asked t e))
      (λ e below h.
      let p = nodes-below (λ n. breaks t slots row n ≡ false) e h in
      node-quiet e p.0 (all-then (λ c. Unbroken c → EverQuiet (asked t c)) Unbroken (λ c. EverQuiet (asked t c)) (children_of e) (λ c r u. r u) below p.1))

  neither-cause : (n : Tree) → breaks_by by_sum t slots row n ≡ false → breaks_by by_cast t slots row n ≡ false → breaks t slots row n ≡ false
  neither-cause n h k = by-break (break_of t slots row n) h k
    where
      by-break : (o : Option Cause) → is_cause by_sum o ≡ false → is_cause by_cast o ≡ false → is_some o ≡ false
      by-break None i j = refl
      by-break (Some by_sum) i j = i
      by-break (Some by_cast) i j = j

  none-breaks : (ns : List Tree) → ((c : Cause) → list_any (breaks_at_some c t slots (row ∷ [])) ns ≡ false) → AllByRecursion (λ n. breaks t slots row n ≡ false) ns
  none-breaks [] h = tt
  none-breaks (n ∷ ns) h =
      let own : (c : Cause) → breaks_by c t slots row n ≡ false =
      λ c. (or_parts (breaks_by c t slots row n) false (or_parts (breaks_at_some c t slots (row ∷ []) n) (list_any (breaks_at_some c t slots (row ∷ [])) ns) (h c)).0).0 in (
        neither-cause n (own by_sum) (own by_cast),
        none-breaks ns (λ c. (or_parts (breaks_at_some c t slots (row ∷ []) n) (list_any (breaks_at_some c t slots (row ∷ [])) ns) (h c)).1),
      )

unbroken-nodes : (t : Ty) (slots : Slots) (row : Val) (e : Tree) → Unbroken t slots row e → AllByRecursion (Unbroken t slots row) (nodes_of e)
unbroken-nodes t slots row = each_node (Unbroken t slots row) (λ e h. (nodes-below (λ n. breaks t slots row n ≡ false) e h).1)

pub no_node_breaks_no_fault : NoNodeBreaksNoFault
no_node_breaks_no_fault t slots row e u h s k q =
    let sound = all-then (SlotsFit slots) (Unbroken t slots row) (λ n. SlotsFit slots n × Unbroken t slots row n) (nodes_of e) (λ n i j. (i, j))
    (nodes-fit slots e s) (unbroken-nodes t slots row e (none-breaks t slots row (nodes_of e) q)) in
    All-from_recursion (λ n. HoldsNoFault (mean t slots row n)) (nodes_of e)
    (all-then (IsTyped t) (λ n. SlotsFit slots n × Unbroken t slots row n) (λ n. HoldsNoFault (mean t slots row n)) (nodes_of e)
    (λ n typed j. mean-faultless t slots row n typed.0 h j.0 typed.1 [] refl (unbroken-quiet t slots row n j.1 [])) (nodes-typed t e u k) sound)
