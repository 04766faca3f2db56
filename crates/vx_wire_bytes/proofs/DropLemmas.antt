-- What a tree takes to be dropped: its nodes, and those of them that don't stand on the way down first children.
use Rattle.std.proofs.Common.{◌≡◌, ◌<◌, ◌≤◌, ℕ, ◌+◌, ap, sym, ◌∙◌, List, [], ◌∷◌, ◌++◌, length, slice_index_or, remove, refl, arith}
use Rattle.vx_wire_bytes.specs.Wires.{Wire, node, Wires, no_wires, first, size_of, sizes_of}
use Rattle.vx_wire_bytes.specs.WireViews.{tree_view, trees_view}
use denote.Hole.Rolled.{depth_is}
use Rattle.vx_wire_bytes.specs.declared.trees.WireTree.{WireTree, size-WireTree}
use Rattle.vx_wire_bytes.specs.declared.trees.WireTree.TheOpen.{WireTree-F}
use Rattle.vx_wire_bytes.specs.declared.trees.WireTree.TheViews.{out-WireTree, roll-WireTree}
use Rattle.vx_wire_bytes.proofs.TreeLemmas.{tree_view-out, tree_view-roll}

abbrev mutual
  -- how many nodes don't stand on the way from a node down first children
  pub aside : Wire → ℕ
  aside (node id metadata children) = all_aside children

  pub all_aside : Wires → ℕ
  all_aside no_wires = 0
  all_aside (first n ns) = aside n + sizes_of ns

-- the nodes, and those aside once more
abbrev pub steps : WireTree → ℕ
steps t = size_of (tree_view t) + aside (tree_view t)

-- the children of a tree
abbrev kids : WireTree → List WireTree
kids t = (out-WireTree t).children.items

sizes_of-more : (ts : List WireTree) (t : WireTree) → sizes_of (trees_view (ts ++ t ∷ [])) ≡ sizes_of (trees_view ts) + size_of (tree_view t)
sizes_of-more [] t = omega arith
sizes_of-more (u ∷ ts) t = omega (arith, sizes_of-more ts t)

all_aside-more : (ts : List WireTree) (t : WireTree) → 0 < length ts → all_aside (trees_view (ts ++ t ∷ [])) ≡ all_aside (trees_view ts) + size_of (tree_view t)
all_aside-more [] t some = absurd (omega (arith, some))
all_aside-more (u ∷ ts) t some = omega (arith, sizes_of-more ts t)

size_of-roll : (n : WireTree-F WireTree) → size_of (tree_view (roll-WireTree n)) ≡ 1 + sizes_of (trees_view n.children.items)
size_of-roll n = ap size_of (tree_view-roll n)

aside-roll : (n : WireTree-F WireTree) → aside (tree_view (roll-WireTree n)) ≡ all_aside (trees_view n.children.items)
aside-roll n = ap aside (tree_view-roll n)

size_of-kids : (t : WireTree) (ts : List WireTree) → kids t ≡ ts → size_of (tree_view t) ≡ 1 + sizes_of (trees_view ts)
size_of-kids t ts is = ap size_of (tree_view-out t) ∙ ap (λ us. 1 + sizes_of (trees_view us)) is

aside-kids : (t : WireTree) (ts : List WireTree) → kids t ≡ ts → aside (tree_view t) ≡ all_aside (trees_view ts)
aside-kids t ts is = ap aside (tree_view-out t) ∙ ap (λ us. all_aside (trees_view us)) is

-- a tree that is dropped in fewer steps, and has no more nodes
pub record IsLess (new old : WireTree) : Type 0 where
  pub size : size_of (tree_view new) ≤ size_of (tree_view old)
  pub steps_fewer : steps new < steps old

-- the last child is gone
pub without_last : (old last : WireTree) (new : WireTree-F WireTree) → kids old ≡ new.children.items ++ last ∷ [] → 0 < length new.children.items → IsLess (roll-WireTree new) old
without_last old last new was some =
    let before = size_of-kids old (new.children.items ++ last ∷ []) was in
    let before_aside = aside-kids old (new.children.items ++ last ∷ []) was in
    let more = sizes_of-more new.children.items last in
    let more_aside = all_aside-more new.children.items last some in
    let some_nodes : 0 < size_of (tree_view last) = omega (arith, size_of-kids last (kids last) refl) in
    record {
      size = omega (arith, size_of-roll new, before, more);
      steps_fewer = omega (arith, size_of-roll new, aside-roll new, before, before_aside, more, more_aside, some_nodes);
    }

-- the node stands in the place of the first child of its last child, and has that one in the place of its last
pub turned : (old last head : WireTree) (rest new : WireTree-F WireTree) (more others : List WireTree) → kids old ≡ more ++ last ∷ [] → 0 < length more → kids last ≡ head ∷ others
    → rest.children.items ≡ more ++ head ∷ [] → new.children.items ≡ roll-WireTree rest ∷ others → IsLess (roll-WireTree new) old
turned old last head rest new more others was some below is made =
    let before = size_of-kids old (more ++ last ∷ []) was in
    let before_aside = aside-kids old (more ++ last ∷ []) was in
    let last_size = size_of-kids last (head ∷ others) below in
    let rest_size = size_of-roll rest ∙ ap (λ ts. 1 + sizes_of (trees_view ts)) is in
    let rest_aside = aside-roll rest ∙ ap (λ ts. all_aside (trees_view ts)) is in
    let new_size = size_of-roll new ∙ ap (λ ts. 1 + sizes_of (trees_view ts)) made in
    let new_aside = aside-roll new ∙ ap (λ ts. all_aside (trees_view ts)) made in
    record {
      size = omega (arith, before, last_size, rest_size, new_size, sizes_of-more more last, sizes_of-more more head);
      steps_fewer = omega (
        arith,
        before,
        before_aside,
        last_size,
        rest_size,
        rest_aside,
        new_size,
        new_aside,
        sizes_of-more more last,
        sizes_of-more more head,
        all_aside-more more last some,
        all_aside-more more head some,
      );
    }

-- what stood first, and behind it what is left once it is gone
pub first_gone : (ts others : List WireTree) (t : WireTree) → 0 < length ts → t ≡ slice_index_or ts 0 t → others ≡ remove ts 0 → ts ≡ t ∷ others
first_gone [] others t some is left = absurd (omega (arith, some))
first_gone (u ∷ ts) others t some is left = λ i. sym is i ∷ sym left i

-- a tree has some depth
pub some_depth : (t : WireTree) → 0 < size-WireTree t
unfolding Rattle.vx_wire_bytes.specs.declared.trees.WireTree.TheBlock.the_depth
some_depth t = search (arith, depth_is)
