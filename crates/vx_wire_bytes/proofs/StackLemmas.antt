-- The reader's stack, and a whole node that its innermost node gets.
use Rattle.std.proofs.Common.{◌≡◌, ◌<◌, ◌≤◌, List, [], ◌∷◌, ◌++◌, length, map, refl, sym, ap, ◌∙◌, arith}
use Rattle.std.specs.Prelude.{reverse}
use Rattle.std.proofs.lemmas.Bool.{lt-ltb, le-ltb}
use Rattle.std.proofs.lemmas.List.{map-append, reverse-append, length-reverse, length-map}
use Rattle.vx_wire_bytes.specs.Wires.{Wire, node, first, number_of}
use Rattle.vx_wire_bytes.specs.Reading.{appended, Closed, still_open, all_whole, closed}
use Rattle.vx_wire_bytes.specs.WireViews.{tree_view, trees_view, wires_in}
use Rattle.vx_wire_bytes.specs.OpenViews.{head_view, open_view, stack_of}
use Rattle.vx_wire_bytes.specs.declared.trees.WireTree.{WireTree}
use Rattle.vx_wire_bytes.specs.declared.reading.OpenNode.{OpenNode}

pub stack_of-push : (os : List OpenNode) (o : OpenNode) → stack_of (os ++ o ∷ []) ≡ open_view o ∷ stack_of os
stack_of-push os o = ap reverse (map-append open_view os (o ∷ [])) ∙ reverse-append (map open_view os) (open_view o ∷ [])

nodes_of-push : (ns : List Wire) (n : Wire) → wires_in (ns ++ n ∷ []) ≡ appended (wires_in ns) n
nodes_of-push [] n = refl
nodes_of-push (m ∷ ns) n = ap (first m) (nodes_of-push ns n)

pub trees_view-push : (ts : List WireTree) (t : WireTree) → trees_view (ts ++ t ∷ []) ≡ appended (trees_view ts) (tree_view t)
trees_view-push ts t = ap wires_in (map-append tree_view ts (t ∷ [])) ∙ nodes_of-push (map tree_view ts) (tree_view t)

pub number_of-trees_view : (ts : List WireTree) → number_of (trees_view ts) ≡ length ts
number_of-trees_view [] = refl
number_of-trees_view (t ∷ ts) = omega (arith, number_of-trees_view ts)

-- the node that gets a child is still open
pub close-open : (os : List OpenNode) (o p : OpenNode) (t : WireTree) (total : Closed) → head_view p ≡ head_view o → p.whole.items ≡ o.whole.items ++ t ∷ [] → length p.whole.items < o.children
    → closed (stack_of (os ++ o ∷ [])) (tree_view t) ≡ total → still_open (stack_of (os ++ p ∷ [])) ≡ total
unfolding closed
close-open os o p t total head whole more e =
    let row : trees_view p.whole.items ≡ appended (trees_view o.whole.items) (tree_view t) = ap trees_view whole ∙ trees_view-push o.whole.items t in
    let number : number_of (appended (trees_view o.whole.items) (tree_view t)) < o.children = omega (arith, ap number_of row, number_of-trees_view p.whole.items) in
    let one : closed (stack_of (os ++ o ∷ [])) (tree_view t) ≡ still_open (record { head = head_view o; whole = appended (trees_view o.whole.items) (tree_view t) } ∷ stack_of os) =
    ap (λ s. closed s (tree_view t)) (stack_of-push os o) ∙ rw (lt-ltb _ _ number) refl in
    let same : open_view p ≡ record { head = head_view o; whole = appended (trees_view o.whole.items) (tree_view t) } =
    λ i. record { head = head i; whole = row i } in
    ap still_open (stack_of-push os p ∙ ap (λ x. x ∷ stack_of os) same) ∙ sym one ∙ e

-- the node that gets a child is whole itself
pub close-whole : (os : List OpenNode) (o : OpenNode) (t : WireTree) (ts : List WireTree) (total : Closed) → ts ≡ o.whole.items ++ t ∷ [] → o.children ≤ length ts
    → closed (stack_of (os ++ o ∷ [])) (tree_view t) ≡ total → closed (stack_of os) (node o.id o.metadata.items (trees_view ts)) ≡ total
unfolding closed
close-whole os o t ts total whole enough e =
    let row : trees_view ts ≡ appended (trees_view o.whole.items) (tree_view t) = ap trees_view whole ∙ trees_view-push o.whole.items t in
    let number : o.children ≤ number_of (appended (trees_view o.whole.items) (tree_view t)) = omega (arith, ap number_of row, number_of-trees_view ts) in
    let one : closed (stack_of (os ++ o ∷ [])) (tree_view t) ≡ closed (stack_of os) (node o.id o.metadata.items (appended (trees_view o.whole.items) (tree_view t))) =
    ap (λ s. closed s (tree_view t)) (stack_of-push os o) ∙ rw (le-ltb _ _ number) refl in
    ap (λ w. closed (stack_of os) (node o.id o.metadata.items w)) row ∙ sym one ∙ e

pub close-none : (os : List OpenNode) (t : WireTree) (total : Closed) → os ≡ [] → closed (stack_of os) (tree_view t) ≡ total → all_whole (tree_view t) ≡ total
unfolding closed
close-none os t total none e = ap (λ o. closed (stack_of o) (tree_view t)) (sym none) ∙ e

pub length-stack_of : (os : List OpenNode) → length (stack_of os) ≡ length os
length-stack_of os = length-reverse (map open_view os) ∙ length-map os open_view
