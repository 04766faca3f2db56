-- A walk over the nodes of an expression, each before those below it: what is left is a stack of expressions.
use Rattle.std.proofs.Common.{◌≡◌, refl, ap, sym, ◌∙◌, ℕ, ◌<◌, arith, List, [], ◌∷◌, ◌++◌, map, reverse, length, append_assoc}
use Rattle.std.specs.List.{flat_map}
use Rattle.std.proofs.lemmas.Grind.{flat_map-append}
use Rattle.std.proofs.lemmas.List.{map-append, reverse-append, reverse-reverse}
use Rattle.vx_expr.specs.Trees.{Tree, trees_of, children_of}
use Rattle.vx_semantics.specs.Nodes.{nodes_of, nodes_of_all}
use Rattle.vx_eval.specs.Versions.{own_slots}
use Rattle.vx_eval.proofs.NodeSplits.{nodes_split}

-- the nodes of the expressions that are left, of which the last one comes first
abbrev pub nodes_left : List Tree → List Tree
nodes_left es = flat_map nodes_of (reverse es)

nodes_of_each : (es : List Tree) → nodes_of_all (trees_of es) ≡ flat_map nodes_of es
unfolding nodes_of
nodes_of_each [] = refl
nodes_of_each (e ∷ es) = ap (λ ns. nodes_of e ++ ns) (nodes_of_each es)

map-reverse : {A B : Type 0} (f : A → B) (xs : List A) → map f (reverse xs) ≡ reverse (map f xs)
map-reverse f [] = refl
map-reverse f (x ∷ xs) = ap (map f) (reverse-append (x ∷ []) xs) ∙ map-append f (reverse xs) (x ∷ []) ∙ ap (λ ys. ys ++ f x ∷ []) (map-reverse f xs) ∙ sym (reverse-append (f x ∷ []) (map f xs))

-- the last one gives way to its children, the last of them first
module _ {A : Type 0} (see : A → Tree) (before kept after children turned : List A) (n : A) (was : before ≡ kept ++ n ∷ []) (below : map see children ≡ children_of (see n))
    (is_turned : turned ≡ reverse children) (are : after ≡ kept ++ turned) where
  abbrev others : List Tree
  others = reverse (map see kept)

  left_after : nodes_left (map see after) ≡ nodes_of_all (trees_of (children_of (see n))) ++ flat_map nodes_of others
  left_after =
      let cs = children_of (see n) in
      ap (λ xs. nodes_left (map see xs)) (are ∙ ap (λ xs. kept ++ xs) is_turned)
      ∙ ap nodes_left (map-append see kept (reverse children) ∙ ap (λ es. map see kept ++ es) (map-reverse see children ∙ ap reverse below))
      ∙ ap (flat_map nodes_of) (reverse-append (map see kept) (reverse cs) ∙ ap (λ es. es ++ others) (reverse-reverse cs))
      ∙ flat_map-append nodes_of cs others ∙ ap (λ ns. ns ++ flat_map nodes_of others) (sym (nodes_of_each cs))

  -- so of the nodes that are left the first one is gone
  pub gone : nodes_left (map see before) ≡ see n ∷ nodes_left (map see after)
  gone =
      ap (λ xs. nodes_left (map see xs)) was ∙ ap nodes_left (map-append see kept (n ∷ []))
      ∙ ap (flat_map nodes_of) (reverse-append (map see kept) (see n ∷ []))
      ∙ ap (λ ns. ns ++ flat_map nodes_of others) (nodes_split (see n)) ∙ ap (λ ns. see n ∷ ns) (sym left_after)

  pub fewer : length (nodes_left (map see after)) < length (nodes_left (map see before))
  fewer = omega (arith, ap length gone)

  -- and its numbers are put behind those from before
  pub put_behind : (whole ks more : List ℕ) → ks ++ flat_map own_slots (nodes_left (map see before)) ≡ whole → more ≡ ks ++ own_slots (see n) → more ++ flat_map own_slots (nodes_left (map see after)) ≡ whole
  put_behind whole ks more so_far grown =
      let rest = flat_map own_slots (nodes_left (map see after)) in
      ap (λ ns. ns ++ rest) grown ∙ append_assoc ks (own_slots (see n)) rest ∙ ap (λ ns. ks ++ flat_map own_slots ns) (sym gone) ∙ so_far
