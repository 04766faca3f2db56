-- What is left to write of a tree: what a step of the loop makes of it.
use Rattle.std.proofs.Common.{◌≡◌, ◌<◌, ◌≤◌, ℕ, ◌+◌, ◌*◌, length, map, drop, get_or, List, [], ◌∷◌, ◌++◌, refl, sym, ap, ◌∙◌, append_assoc, subst, arith}
use Rattle.std.specs.List.{IsFirstAndRest}
use Rattle.std.proofs.lemmas.List.{append-nil, map-append}
use Rattle.vx_dtype.specs.Types.{Bytes}
use Rattle.vx_wire_bytes.specs.Wires.{Wire, node, Wires, no_wires, first, size_of, sizes_of, wire_bytes, wires_bytes, head_bytes, head_of, head_of_tree, IsHead, IsSpellable, AreSpellable, HasShortParts, HaveShortParts, Spells}
use Rattle.vx_wire_bytes.specs.LeftToWrite.{children_in, joined, nodes_left, steps_left, IsLeft}
use Rattle.vx_wire_bytes.specs.WireViews.{tree_view, trees_view}
use Rattle.vx_wire_bytes.specs.WriteAnswers.{IsUnwritten}
use Rattle.vx_wire_bytes.specs.declared.trees.WireTree.{WireTree}
use Rattle.vx_wire_bytes.specs.declared.errors.WireError.{WireError}
use Rattle.vx_wire_bytes.specs.declared.errors.WireError.TheVariants as errors
use Rattle.vx_wire_bytes.proofs.ListLemmas.{joined-nil}

-- ---- one list behind another

joined_joined : (ns ms ls : Wires) → joined (joined ns ms) ls ≡ joined ns (joined ms ls)
joined_joined no_wires ms ls = refl
joined_joined (first n ns) ms ls = ap (first n) (joined_joined ns ms ls)

bytes_joined : (ns ms : Wires) → wires_bytes (joined ns ms) ≡ wires_bytes ns ++ wires_bytes ms
bytes_joined no_wires ms = refl
bytes_joined (first n ns) ms = ap (λ (b : Bytes). wire_bytes n ++ b) (bytes_joined ns ms) ∙ sym (append_assoc (wire_bytes n) (wires_bytes ns) (wires_bytes ms))

spellable_first : (ns ms : Wires) → AreSpellable (joined ns ms) → AreSpellable ns
spellable_first no_wires ms h = tt
spellable_first (first n ns) ms h = (h.0, spellable_first ns ms h.1)

spellable_second : (ns ms : Wires) → AreSpellable (joined ns ms) → AreSpellable ms
spellable_second no_wires ms h = h
spellable_second (first n ns) ms h = spellable_second ns ms h.1

short_joined : (ns ms : Wires) → HaveShortParts ns → HaveShortParts ms → HaveShortParts (joined ns ms)
short_joined no_wires ms h k = k
short_joined (first n ns) ms h k = (h.0, short_joined ns ms h.1 k)

-- ---- lists that are left

nodes_pushed : (lists : List Wires) (ns : Wires) → nodes_left (lists ++ ns ∷ []) ≡ joined ns (nodes_left lists)
nodes_pushed [] ns = sym (joined-nil ns)
nodes_pushed (ms ∷ lists) ns = ap (λ (ls : Wires). joined ls ms) (nodes_pushed lists ns) ∙ joined_joined ns (nodes_left lists) ms

steps_pushed : (lists : List Wires) (ns : Wires) → steps_left (lists ++ ns ∷ []) ≡ steps_left lists + (1 + 2 * sizes_of ns)
steps_pushed [] ns = omega arith
steps_pushed (ms ∷ lists) ns = omega (arith, steps_pushed lists ns)

size_in : (n : Wire) → size_of n ≡ 1 + sizes_of (children_in n)
size_in (node id metadata children) = refl

-- ---- lists of the code

pub first_of : (ts : List WireTree) (t : WireTree) (others : List WireTree) → IsFirstAndRest ts t others → trees_view ts ≡ first (tree_view t) (trees_view others)
first_of ts t others is = ap trees_view is.0

pub none_of : (ts : List WireTree) → length ts ≡ 0 → trees_view ts ≡ no_wires
none_of [] few = refl
none_of (x ∷ ts) few = absurd (omega (arith, few))

pub pushed : {A B : Type 0} (f : A → B) (xs ys : List A) (y : A) → ys ≡ xs ++ y ∷ [] → map f ys ≡ map f xs ++ f y ∷ []
pushed f xs ys y h = ap (map f) h ∙ map-append f xs (y ∷ [])

-- ---- the loop

-- the head of the first node is written, and its children are left in its place
node_written : (bytes after : Bytes) (tree n : Wire) (rest : Wires) → IsHead (head_of_tree n) → after ≡ bytes ++ head_bytes (head_of_tree n) → IsLeft bytes tree (first n rest)
    → IsLeft after tree (joined (children_in n) rest)
node_written bytes after tree (node id metadata children) rest head more h =
    let own = head_bytes (head_of id metadata children) in
    record {
      written =
          ap (λ (b : Bytes). b ++ wires_bytes (joined children rest)) more
          ∙ append_assoc bytes own (wires_bytes (joined children rest))
          ∙ ap (λ (b : Bytes). bytes ++ (own ++ b)) (bytes_joined children rest)
          ∙ ap (λ (b : Bytes). bytes ++ b) (sym (append_assoc own (wires_bytes children) (wires_bytes rest)))
          ∙ h.written;
      spellable = λ all. h.spellable ((head, spellable_first children rest all), spellable_second children rest all);
      short = λ all. let parts = h.short all in short_joined children rest parts.0.3 parts.1;
    }

-- nothing but the tree is left
pub all_left : (tree : Wire) → IsLeft [] tree (first tree no_wires)
all_left tree =
    record {
      written = append-nil (wire_bytes tree);
      spellable = λ all. all.0;
      short = λ short. (short, tt);
    }

-- the tree's head is written, and its children are left
pub begins : (bytes after : Bytes) (tree : Wire) (none lists : List Wires) → bytes ≡ [] → none ≡ [] → IsHead (head_of_tree tree) → after ≡ bytes ++ head_bytes (head_of_tree tree)
    → lists ≡ none ++ children_in tree ∷ [] → IsLeft after tree (nodes_left lists)
begins bytes after tree none lists empty at_first head more left =
    subst (IsLeft after tree) (sym (ap nodes_left (left ∙ ap (λ ls. ls ++ children_in tree ∷ []) at_first) ∙ joined-nil-behind (children_in tree)))
    (node_written bytes after tree tree no_wires head more (subst (λ (b : Bytes). IsLeft b tree (first tree no_wires)) (sym empty) (all_left tree)))
  where
    joined-nil-behind : (ns : Wires) → joined no_wires ns ≡ joined ns no_wires
    joined-nil-behind ns = sym (joined-nil ns)

-- a list without nodes is taken away
pub none_here : (bytes : Bytes) (tree : Wire) (all lists : List Wires) (ns : Wires) → all ≡ lists ++ ns ∷ [] → ns ≡ no_wires → IsLeft bytes tree (nodes_left all) → IsLeft bytes tree (nodes_left lists)
none_here bytes tree all lists ns popped none h =
    subst (IsLeft bytes tree) (ap nodes_left popped ∙ nodes_pushed lists ns ∙ ap (λ ms. joined ms (nodes_left lists)) none) h

-- the first node of the last list is written
pub first_here : (bytes after : Bytes) (tree n : Wire) (all lists mid more : List Wires) (ns others : Wires) → all ≡ lists ++ ns ∷ [] → ns ≡ first n others → mid ≡ lists ++ others ∷ []
    → more ≡ mid ++ children_in n ∷ [] → IsHead (head_of_tree n) → after ≡ bytes ++ head_bytes (head_of_tree n) → IsLeft bytes tree (nodes_left all) → IsLeft after tree (nodes_left more)
first_here bytes after tree n all lists mid more ns others popped is pushed left head grown h =
    let here : nodes_left all ≡ first n (joined others (nodes_left lists)) = ap nodes_left popped ∙ nodes_pushed lists ns ∙ ap (λ ms. joined ms (nodes_left lists)) is in
    let there : nodes_left more ≡ joined (children_in n) (joined others (nodes_left lists)) =
    ap nodes_left left ∙ nodes_pushed mid (children_in n) ∙ ap (joined (children_in n)) (ap nodes_left pushed ∙ nodes_pushed lists others) in
    subst (IsLeft after tree) (sym there) (node_written bytes after tree n (joined others (nodes_left lists)) head grown (subst (IsLeft bytes tree) here h))

pub none_fewer : (all lists : List Wires) (ns : Wires) → all ≡ lists ++ ns ∷ [] → steps_left lists < steps_left all
none_fewer all lists ns popped = omega (arith, ap steps_left popped, steps_pushed lists ns)

pub first_fewer : (n : Wire) (all lists mid more : List Wires) (ns others : Wires) → all ≡ lists ++ ns ∷ [] → ns ≡ first n others → mid ≡ lists ++ others ∷ []
    → more ≡ mid ++ children_in n ∷ [] → steps_left more < steps_left all
first_fewer n all lists mid more ns others popped is pushed left =
    omega (
      arith,
      ap steps_left popped,
      steps_pushed lists ns,
      ap sizes_of is,
      size_in n,
      ap steps_left left,
      steps_pushed mid (children_in n),
      ap steps_left pushed,
      steps_pushed lists others,
    )

-- nothing is left
pub all_written : (bytes : Bytes) (tree : Wire) (lists : List Wires) → lists ≡ [] → IsLeft bytes tree (nodes_left lists) → Spells bytes tree
all_written bytes tree lists none h =
    let left = subst (λ ls. IsLeft bytes tree (nodes_left ls)) none h in
    record { spellable = left.spellable tt; spelled = sym (append-nil bytes) ∙ left.written }

-- where a node that is left isn't written, the tree isn't
pub unwritten : (tree n : Wire) (why : WireError) → (HasShortParts tree → HasShortParts n) → IsUnwritten n why → IsUnwritten tree why
unwritten tree n errors.NoMemory f h = tt
unwritten tree n errors.TooLong f h = λ short. h (f short)
unwritten tree n errors.BadWire f h = h
unwritten tree n errors.TooDeep f h = h
unwritten tree n errors.TooManyNodes f h = h
unwritten tree n errors.NotSerializable f h = h

pub unwritten_here : (bytes : Bytes) (tree n : Wire) (all lists : List Wires) (ns others : Wires) (why : WireError) → all ≡ lists ++ ns ∷ [] → ns ≡ first n others
    → IsLeft bytes tree (nodes_left all) → IsUnwritten n why → IsUnwritten tree why
unwritten_here bytes tree n all lists ns others why popped is h refused =
    let here : nodes_left all ≡ first n (joined others (nodes_left lists)) = ap nodes_left popped ∙ nodes_pushed lists ns ∙ ap (λ ms. joined ms (nodes_left lists)) is in
    unwritten tree n why (λ short. (subst HaveShortParts here (h.short short)).0) refused
