use Rattle.std.proofs.Common.{rules, ℕ, ◌≡◌, true, false, ◌+◌, ◌-◌, List, ap, sym, ◌∙◌, length, length-drop, take, drop, arith}
use Rattle.std.proofs.lemmas.List.{take_all}
use Rattle.std.specs.Str.{bytes_eq}
use Rattle.vx_wire_bytes.specs.Wires.{sizes_of}
use Rattle.vx_wire_bytes.specs.WireEqual.{wire_eq, wires_eq}
use Rattle.vx_wire_bytes.specs.WireViews.{tree_view, trees_view}
use Rattle.vx_wire_bytes.specs.declared.trees.WireTree.{WireTree}
use Rattle.vx_wire_bytes.specs.declared.trees.WireTree.TheViews.{out-WireTree}
use Rattle.vx_wire_bytes.proofs.TreeLemmas.{other_ids, other_metadata, same_heads, size_of-out}
use Rattle.vx_wire_bytes.proofs.EqualLemmas.{other_before, other_behind, same_around, size_of-at, sizes_of-drop, sizes_of-take, wires_eq_lengths}
use Rattle.vx_wire_bytes.proofs.trees.+same.Goals as goal

-- what stands behind a place is the rest of a list
behind : (i : ℕ) (xs : List WireTree) → take (length xs - i) (drop i xs) ≡ drop i xs
behind i xs = take_all (length xs - i) (drop i xs) (omega (arith, length-drop i xs))

pub same-returns-then-ne : goal.same-returns-then-ne
same-returns-then-ne t c =
    let x = c.loop-first.first.now in
    let y = c.loop-first.second.now in
    let ids : bytes_eq (out-WireTree x).id (out-WireTree y).id ≡ false = search rules in
    sym (c.loop-first.invariant.1 ∙ other_ids x y ids)

pub same-returns-then-ne-2 : goal.same-returns-then-ne-2
same-returns-then-ne-2 t c =
    let x = c.loop-first.first.now in
    let y = c.loop-first.second.now in
    let ids : bytes_eq (out-WireTree x).id (out-WireTree y).id ≡ true = search rules in
    let metadata : bytes_eq (out-WireTree x).metadata.items (out-WireTree y).metadata.items ≡ false = search rules in
    sym (c.loop-first.invariant.1 ∙ other_metadata x y ids metadata)

pub same-returns-then-lefts-rights : goal.same-returns-then-lefts-rights
same-returns-then-lefts-rights t c =
    let x = c.loop-first.first.now in
    let y = c.loop-first.second.now in
    let ids : bytes_eq (out-WireTree x).id (out-WireTree y).id ≡ true = search rules in
    let metadata : bytes_eq (out-WireTree x).metadata.items (out-WireTree y).metadata.items ≡ true = search rules in
    let parts : wire_eq (tree_view x) (tree_view y) ≡ wires_eq (trees_view c.as_slice-lefts.result.now) (trees_view c.as_slice-rights.result.now) =
    same_heads x y ids metadata ∙ (λ i. wires_eq (trees_view (sym c.as_slice-lefts.ensures.value i)) (trees_view (sym c.as_slice-rights.ensures.value i))) in
    sym (c.loop-first.invariant.1 ∙ parts ∙ wires_eq_lengths tree_view c.as_slice-lefts.result.now c.as_slice-rights.result.now c.if-lefts-rights.true)

pub same-returns-in_default : goal.same-returns-in_default
same-returns-in_default t c =
    let x = c.loop-first.first.now in
    let y = c.loop-first.second.now in
    let ids : bytes_eq (out-WireTree x).id (out-WireTree y).id ≡ true = search rules in
    let metadata : bytes_eq (out-WireTree x).metadata.items (out-WireTree y).metadata.items ≡ true = search rules in
    let parts : wire_eq (tree_view x) (tree_view y) ≡ wires_eq (trees_view c.as_slice-lefts.result.now) (trees_view c.as_slice-rights.result.now) =
    same_heads x y ids metadata ∙ (λ i. wires_eq (trees_view (sym c.as_slice-lefts.ensures.value i)) (trees_view (sym c.as_slice-rights.ensures.value i))) in
    sym (c.loop-first.invariant.1 ∙ parts ∙ sym c.same_children.ensures)

pub same-same_children-requires : goal.same-same_children-requires
same-same_children-requires t c =
    let all = ap (λ ts. sizes_of (trees_view ts)) c.as_slice-lefts.ensures.value in
    (omega (arith, all, c.decreases, size_of-out c.loop-first.first.now, c.loop-first.invariant.0), tt)

pub same-same_children-requires-in-loop-first : goal.same-same_children-requires-in-loop-first
same-same_children-requires-in-loop-first t c =
    let all = ap (λ ts. sizes_of (trees_view ts)) c.as_slice-lefts.ensures.value in
    let some = sizes_of-take tree_view c.in-Some.place c.as_slice-lefts.result.now in
    (omega (arith, all, some, c.decreases, size_of-out c.loop-first.first.now, c.loop-first.invariant.0), tt)

pub same-same_children-requires-in-loop-first-2 : goal.same-same_children-requires-in-loop-first-2
same-same_children-requires-in-loop-first-2 t c =
    let all = ap (λ ts. sizes_of (trees_view ts)) c.as_slice-lefts.ensures.value in
    let some = sizes_of-drop tree_view (c.in-Some.place + 1) c.as_slice-lefts.result.now in
    let rest = ap (λ ts. sizes_of (trees_view ts)) (behind (c.in-Some.place + 1) c.as_slice-lefts.result.now) in
    (omega (arith, all, some, rest, c.decreases, size_of-out c.loop-first.first.now, c.loop-first.invariant.0), tt)

pub same-returns-then-not-same_children : goal.same-returns-then-not-same_children
same-returns-then-not-same_children t c =
    let x = c.loop-first.first.now in
    let y = c.loop-first.second.now in
    let ids : bytes_eq (out-WireTree x).id (out-WireTree y).id ≡ true = search rules in
    let metadata : bytes_eq (out-WireTree x).metadata.items (out-WireTree y).metadata.items ≡ true = search rules in
    let parts : wire_eq (tree_view x) (tree_view y) ≡ wires_eq (trees_view c.as_slice-lefts.result.now) (trees_view c.as_slice-rights.result.now) =
    same_heads x y ids metadata ∙ (λ i. wires_eq (trees_view (sym c.as_slice-lefts.ensures.value i)) (trees_view (sym c.as_slice-rights.ensures.value i))) in
    let xs = c.as_slice-lefts.result.now in
    let ys = c.as_slice-rights.result.now in
    let place = c.in-Some.place in
    sym (c.loop-first.invariant.1 ∙ parts ∙ other_before tree_view xs ys place c.in-Some.ensures c.if-lefts-rights.false (sym c.same_children-in-loop-first.ensures ∙ c.if-not-same_children.true))

pub same-returns-then-not-same_children-2 : goal.same-returns-then-not-same_children-2
same-returns-then-not-same_children-2 t c =
    let x = c.loop-first.first.now in
    let y = c.loop-first.second.now in
    let ids : bytes_eq (out-WireTree x).id (out-WireTree y).id ≡ true = search rules in
    let metadata : bytes_eq (out-WireTree x).metadata.items (out-WireTree y).metadata.items ≡ true = search rules in
    let parts : wire_eq (tree_view x) (tree_view y) ≡ wires_eq (trees_view c.as_slice-lefts.result.now) (trees_view c.as_slice-rights.result.now) =
    same_heads x y ids metadata ∙ (λ i. wires_eq (trees_view (sym c.as_slice-lefts.ensures.value i)) (trees_view (sym c.as_slice-rights.ensures.value i))) in
    let xs = c.as_slice-lefts.result.now in
    let ys = c.as_slice-rights.result.now in
    let place = c.in-Some.place in
    let rest : wires_eq (trees_view (drop (place + 1) xs)) (trees_view (drop (place + 1) ys)) ≡ false =
    (λ i. wires_eq (trees_view (sym (behind (place + 1) xs) i)) (trees_view (sym (behind (place + 1) ys) i))) ∙ sym c.same_children-in-loop-first-2.ensures ∙ c.if-not-same_children-2.true in
    sym (c.loop-first.invariant.1 ∙ parts ∙ other_behind tree_view xs ys place c.in-Some.ensures c.if-lefts-rights.false rest)

pub same-loop-first-preserved : goal.same-loop-first-preserved
same-loop-first-preserved t c =
    let x = c.loop-first.first.now in
    let y = c.loop-first.second.now in
    let ids : bytes_eq (out-WireTree x).id (out-WireTree y).id ≡ true = search rules in
    let metadata : bytes_eq (out-WireTree x).metadata.items (out-WireTree y).metadata.items ≡ true = search rules in
    let parts : wire_eq (tree_view x) (tree_view y) ≡ wires_eq (trees_view c.as_slice-lefts.result.now) (trees_view c.as_slice-rights.result.now) =
    same_heads x y ids metadata ∙ (λ i. wires_eq (trees_view (sym c.as_slice-lefts.ensures.value i)) (trees_view (sym c.as_slice-rights.ensures.value i))) in
    let xs = c.as_slice-lefts.result.now in
    let ys = c.as_slice-rights.result.now in
    let place = c.in-Some.place in
    let a = c.index-lefts-place.result in
    let b = c.index-rights-place.result in
    let before : wires_eq (trees_view (take place xs)) (trees_view (take place ys)) ≡ true = sym c.same_children-in-loop-first.ensures ∙ c.if-not-same_children.false in
    let rest : wires_eq (trees_view (drop (place + 1) xs)) (trees_view (drop (place + 1) ys)) ≡ true =
    (λ i. wires_eq (trees_view (sym (behind (place + 1) xs) i)) (trees_view (sym (behind (place + 1) ys) i))) ∙ sym c.same_children-in-loop-first-2.ensures ∙ c.if-not-same_children-2.false in
    let all = ap (λ ts. sizes_of (trees_view ts)) c.as_slice-lefts.ensures.value in
    let one = size_of-at tree_view xs place a c.in-Some.ensures c.index-lefts-place.is in (
      omega (arith, all, one, size_of-out x, c.loop-first.invariant.0),
      c.loop-first.invariant.1 ∙ parts ∙ same_around tree_view xs ys place a b c.in-Some.ensures c.if-lefts-rights.false c.index-lefts-place.is c.index-rights-place.is before rest,
    )

pub same-loop-first-smaller : goal.same-loop-first-smaller
same-loop-first-smaller t c =
    let all = ap (λ ts. sizes_of (trees_view ts)) c.as_slice-lefts.ensures.value in
    let one = size_of-at tree_view c.as_slice-lefts.result.now c.in-Some.place c.index-lefts-place.result c.in-Some.ensures c.index-lefts-place.is in
    omega (arith, all, one, size_of-out c.loop-first.first.now)

pub same_children-same-requires : goal.same_children-same-requires
same_children-same-requires t c =
    let one = size_of-at tree_view c.args.left.now c.loop-i.i c.index-left-i.result c.loop-i-test.true c.index-left-i.is in
    (omega (arith, one, c.decreases), tt)
