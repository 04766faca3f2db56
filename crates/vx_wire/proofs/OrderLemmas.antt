-- The nodes of a wire tree from the leaves up: the walk that lists them, and the expressions that a loop over them builds.
use Rattle.std.proofs.Common.{◌⊎◌, inl, inr, ◌≡◌, ℕ, suc, ◌+◌, ◌<◌, ◌≤◌, Bool, List, [], ◌∷◌, ◌++◌, map, take, drop, get_or, reverse, length, refl, ap, sym, ◌∙◌, subst, append_assoc, arith}
use Rattle.std.proofs.lemmas.List.{append-nil, length-append, map-append, reverse-append, take_all, take_more}
use Rattle.vx_expr.specs.Trees.{Tree}
use Rattle.vx_wire_bytes.specs.LeftToWrite.{children_in}
use Rattle.vx_wire_bytes.specs.Wires.{Wire, node, Wires, no_wires, first, number_of}
use Rattle.vx_wire_bytes.specs.WireViews.{wires_in, tree_view, trees_view}
use Rattle.vx_wire_bytes.specs.declared.trees.WireTree.{WireTree}
use Rattle.vx_wire_bytes.specs.declared.trees.WireTree.TheViews.{out-WireTree}
use Rattle.vx_wire_bytes.proofs.TreeLemmas.{tree_view-out}
use Rattle.vx_wire.specs.Building.{AreBuilt, AreBuiltTo, IsBuilt, IsRefusedFirst, IsOneRefused, IsUnbuilt}
use Rattle.vx_wire.specs.WireOrders.{wire_nodes, all_wire_nodes}
use Rattle.vx_wire.specs.declared.encodings.ExprEncoding.{ExprEncoding}
use Rattle.vx_wire.specs.declared.errors.BuildError.{BuildError}
use Rattle.vx_wire.specs.declared.errors.BuildError.TheVariants as errors
use Rattle.vx_wire.proofs.WireLemmas.{built_rows}

-- ---- the walk that lists the nodes

all_append : (ns ms : List Wire) → all_wire_nodes (wires_in (ns ++ ms)) ≡ all_wire_nodes (wires_in ns) ++ all_wire_nodes (wires_in ms)
unfolding wire_nodes
all_append [] ms = refl
all_append (n ∷ ns) ms = ap (λ x. wire_nodes n ++ x) (all_append ns ms) ∙ sym (append_assoc (wire_nodes n) (all_wire_nodes (wires_in ns)) (all_wire_nodes (wires_in ms)))

-- a node stands behind those below it
node_last : (n : Wire) → wire_nodes n ≡ all_wire_nodes (children_in n) ++ n ∷ []
unfolding wire_nodes
node_last (node id metadata children) = refl

children_are : (t : WireTree) → children_in (tree_view t) ≡ trees_view (out-WireTree t).children.items
children_are t = ap children_in (tree_view-out t)

-- the nodes of what is left once a node gave way to its children
given_way : (left before after : List Wire) (t : WireTree) (i : ℕ) → before ≡ left ++ tree_view t ∷ [] → length (out-WireTree t).children.items ≤ i
    → after ≡ left ++ map tree_view (take i (out-WireTree t).children.items) → all_wire_nodes (wires_in before) ≡ all_wire_nodes (wires_in after) ++ tree_view t ∷ []
unfolding wire_nodes
given_way left before after t i was all is =
    let n = tree_view t in
    let ns = all_wire_nodes (wires_in left) in
    let below = map tree_view (out-WireTree t).children.items in
    ap (λ ds. all_wire_nodes (wires_in ds)) was ∙ all_append left (n ∷ [])
    ∙ ap (λ ms. ns ++ ms) (append-nil (wire_nodes n) ∙ node_last n ∙ ap (λ c. all_wire_nodes c ++ n ∷ []) (children_are t))
    ∙ sym (append_assoc ns (all_wire_nodes (wires_in below)) (n ∷ []))
    ∙ ap (λ ms. ms ++ n ∷ []) (sym (all_append left below))
    ∙ ap (λ ds. all_wire_nodes (wires_in ds) ++ n ∷ []) (sym (is ∙ ap (λ ts. left ++ map tree_view ts) (take_all i (out-WireTree t).children.items all)))

-- fewer nodes are left
pub fewer : (left before after : List Wire) (t : WireTree) (i : ℕ) → before ≡ left ++ tree_view t ∷ [] → length (out-WireTree t).children.items ≤ i
    → after ≡ left ++ map tree_view (take i (out-WireTree t).children.items) → length (all_wire_nodes (wires_in after)) < length (all_wire_nodes (wires_in before))
fewer left before after t i was all is =
    let more : length (all_wire_nodes (wires_in before)) ≡ length (all_wire_nodes (wires_in after) ++ tree_view t ∷ []) = ap length (given_way left before after t i was all is) in
    omega (arith, more, length-append (all_wire_nodes (wires_in after)) (tree_view t ∷ []))

-- what was found grows by the node
pub walked_on : (left before after found more : List Wire) (t : WireTree) (whole : Wire) (i : ℕ) → before ≡ left ++ tree_view t ∷ [] → length (out-WireTree t).children.items ≤ i
    → after ≡ left ++ map tree_view (take i (out-WireTree t).children.items) → more ≡ found ++ tree_view t ∷ [] → all_wire_nodes (wires_in before) ++ reverse found ≡ wire_nodes whole
    → all_wire_nodes (wires_in after) ++ reverse more ≡ wire_nodes whole
walked_on left before after found more t whole i was all is grown known =
    ap (λ ds. all_wire_nodes (wires_in after) ++ reverse ds) grown
    ∙ ap (λ ds. all_wire_nodes (wires_in after) ++ ds) (reverse-append found (tree_view t ∷ []))
    ∙ sym (append_assoc (all_wire_nodes (wires_in after)) (tree_view t ∷ []) (reverse found))
    ∙ ap (λ ds. ds ++ reverse found) (sym (given_way left before after t i was all is))
    ∙ known

-- a child more is put behind what is left
pub child_more : (left after more : List Wire) (ts : List WireTree) (i : ℕ) (t : WireTree) → i < length ts → t ≡ get_or ts i t → after ≡ left ++ map tree_view (take i ts)
    → more ≡ after ++ tree_view t ∷ [] → more ≡ left ++ map tree_view (take (i + 1) ts)
child_more left after more ts i t within at h k =
    k ∙ ap (λ ds. ds ++ tree_view t ∷ []) h ∙ append_assoc left (map tree_view (take i ts)) (tree_view t ∷ [])
    ∙ ap (λ ds. left ++ ds) (sym (map-append tree_view (take i ts) (t ∷ [])) ∙ ap (λ u. map tree_view (take i ts ++ u ∷ [])) at ∙ ap (map tree_view) (sym (take_more ts i t within)))

pub alone : (n : Wire) → all_wire_nodes (wires_in (n ∷ [])) ++ [] ≡ wire_nodes n
unfolding wire_nodes
alone n = append-nil (wire_nodes n ++ []) ∙ append-nil (wire_nodes n)

map-reverse : {A B : Type 0} (f : A → B) (xs : List A) → map f (reverse xs) ≡ reverse (map f xs)
map-reverse f [] = refl
map-reverse f (x ∷ xs) = ap (map f) (reverse-append (x ∷ []) xs) ∙ map-append f (reverse xs) (x ∷ []) ∙ ap (λ ys. ys ++ f x ∷ []) (map-reverse f xs) ∙ sym (reverse-append (f x ∷ []) (map f xs))

-- nothing is left, so what was found, turned round, is the whole
pub all_found : {A : Type 0} (f : A → Wire) (left found turned : List A) (whole : Wire) → left ≡ [] → turned ≡ reverse found
    → all_wire_nodes (wires_in (map f left)) ++ reverse (map f found) ≡ wire_nodes whole → map f turned ≡ wire_nodes whole
unfolding wire_nodes
all_found f left found turned whole none is known =
    ap (map f) is ∙ map-reverse f found ∙ ap (λ ds. all_wire_nodes (wires_in (map f ds)) ++ reverse (map f found)) (sym none) ∙ known

-- ---- what a loop over the nodes makes

-- nodes, as a plain list
abbrev pub listed : Wires → List Wire
listed no_wires = []
listed (first n ns) = n ∷ listed ns

wires_in-listed : (ns : Wires) → wires_in (listed ns) ≡ ns
wires_in-listed no_wires = refl
wires_in-listed (first n ns) = ap (first n) (wires_in-listed ns)

number-listed : (ns : Wires) → length (listed ns) ≡ number_of ns
number-listed no_wires = refl
number-listed (first n ns) = omega (arith, number-listed ns)

-- the nodes that are left make one tree of those that are made: each takes its children from their end
abbrev pub Builds : List Wire → List Wire → Wire → Type 0
Builds [] made whole = made ≡ whole ∷ []
Builds (n ∷ ns) made whole = (before : List Wire) × (made ≡ before ++ listed (children_in n)) × Builds ns (before ++ n ∷ []) whole

mutual
  unfolding wire_nodes

  -- the nodes of a tree make it, whatever is made before them and left behind them
  builds : (n : Wire) (rest made : List Wire) (whole : Wire) → Builds rest (made ++ n ∷ []) whole → Builds (wire_nodes n ++ rest) made whole
  builds (node id metadata ns) rest made whole h =
      rw (append_assoc (all_wire_nodes ns) (node id metadata ns ∷ []) rest) (builds_all ns (node id metadata ns ∷ rest) made whole (made, refl, h))

  builds_all : (ns : Wires) (rest made : List Wire) (whole : Wire) → Builds rest (made ++ listed ns) whole → Builds (all_wire_nodes ns ++ rest) made whole
  builds_all no_wires rest made whole h = subst (λ m. Builds rest m whole) (append-nil made) h
  builds_all (first n ns) rest made whole h =
      rw (append_assoc (wire_nodes n) (all_wire_nodes ns) rest)
      (builds n (all_wire_nodes ns ++ rest) made whole (builds_all ns rest (made ++ n ∷ []) whole (subst (λ m. Builds rest m whole) (sym (append_assoc made (n ∷ []) (listed ns))) h)))

-- a tree's nodes, from the leaves up, make it of nothing
built : (n : Wire) → Builds (wire_nodes n) [] n
built n = subst (λ ns. Builds ns [] n) (append-nil (wire_nodes n)) (builds n [] [] n refl)

-- where a list with a certain element is cut: after it, or before it
cut : (p : List Wire) (x : Wire) (q r s : List Wire) → p ++ x ∷ q ≡ r ++ s
    → ((m : List Wire) × (p ≡ r ++ m) × (s ≡ m ++ x ∷ q)) ⊎ ((m : List Wire) × (r ≡ p ++ x ∷ m) × (q ≡ m ++ s))
cut p x q [] s h = inl (p, refl, sym h)
cut [] x q (y ∷ r) s h = let head : y ≡ x = cc in let others : q ≡ r ++ s = cc in inr (r, ap (λ z. z ∷ r) head, others)
cut (z ∷ p) x q (y ∷ r) s h =
    let head : z ≡ y = cc in let others : p ++ x ∷ q ≡ r ++ s = cc in
    elim (cut p x q r s others) [
      | inl found ↦ inl (found.0, ap (λ w. w ∷ p) head ∙ ap (λ ws. y ∷ ws) found.1, found.2)
      | inr found ↦ inr (found.0, ap (λ w. w ∷ r) (sym head) ∙ ap (λ ws. z ∷ ws) found.1, found.2)
    ]

module _ (holds : ExprEncoding → Bool) where
  built_before : (xs ys : List Wire) → AreBuilt holds (wires_in (xs ++ ys)) → AreBuilt holds (wires_in xs)
  built_before [] ys h = tt
  built_before (x ∷ xs) ys h = (h.0, built_before xs ys h.1)

  built_behind : (xs ys : List Wire) → AreBuilt holds (wires_in (xs ++ ys)) → AreBuilt holds (wires_in ys)
  built_behind [] ys h = h
  built_behind (x ∷ xs) ys h = built_behind xs ys h.1

  one_refused : (why : BuildError) (before : List Wire) (x : Wire) (after : List Wire) → AreBuilt holds (wires_in before) → IsRefusedFirst holds why x
      → IsOneRefused holds why (wires_in (before ++ x ∷ after))
  one_refused why [] x after fine bad = inl bad
  one_refused why (b ∷ before) x after fine bad = inr (fine.0, one_refused why before x after fine.1 bad)

  -- the refusal of a child is that of its parent
  refused_above : (why : BuildError) (n : Wire) (before : List Wire) (x : Wire) (after : List Wire) → listed (children_in n) ≡ before ++ x ∷ after → AreBuilt holds (wires_in before)
      → IsRefusedFirst holds why x → IsRefusedFirst holds why n
  refused_above why (node id metadata ns) before x after is fine bad =
      inl (subst (IsOneRefused holds why) (ap wires_in (sym is) ∙ wires_in-listed ns) (one_refused why before x after fine bad))

  -- and the first refusal is that of the whole
  first_refused : (why : BuildError) (ns before : List Wire) (x : Wire) (after : List Wire) (whole : Wire) → Builds ns (before ++ x ∷ after) whole → AreBuilt holds (wires_in before)
      → IsRefusedFirst holds why x → IsRefusedFirst holds why whole
  first_refused why [] [] x after whole h fine bad = let same : x ≡ whole = cc in subst (IsRefusedFirst holds why) same bad
  first_refused why [] (b ∷ []) x after whole h fine bad = let no : ⊥ = cc in absurd no
  first_refused why [] (b ∷ c ∷ bs) x after whole h fine bad = let no : ⊥ = cc in absurd no
  first_refused why (n ∷ ns) before x after whole h fine bad =
      elim (cut before x after h.0 (listed (children_in n)) h.1) [
        | inl found ↦
            let all : AreBuilt holds (wires_in (h.0 ++ found.0)) = subst (λ ms. AreBuilt holds (wires_in ms)) found.1 fine in
            first_refused why ns h.0 n [] whole h.2 (built_before h.0 found.0 all)
            (refused_above why n found.0 x after found.2 (built_behind h.0 found.0 all) bad)
        | inr found ↦
            first_refused why ns before x (found.0 ++ n ∷ []) whole
            (subst (λ made. Builds ns made whole) (ap (λ made. made ++ n ∷ []) found.1 ∙ append_assoc before (x ∷ found.0) (n ∷ [])) h.2) fine bad
      ]

  as_many : (ns : List Wire) (es : List Tree) → AreBuiltTo holds (wires_in ns) es → length ns ≡ length es
  as_many [] [] h = refl
  as_many [] (e ∷ es) h = absurd h
  as_many (n ∷ ns) [] h = absurd h
  as_many (n ∷ ns) (e ∷ es) h = ap suc (as_many ns es h.1)

  two_parts : (ns ms : List Wire) (es : List Tree) → AreBuiltTo holds (wires_in (ns ++ ms)) es
      → AreBuiltTo holds (wires_in ns) (take (length ns) es) × AreBuiltTo holds (wires_in ms) (drop (length ns) es)
  two_parts [] ms es h = (tt, h)
  two_parts (n ∷ ns) ms [] h = absurd h
  two_parts (n ∷ ns) ms (e ∷ es) h = let parts = two_parts ns ms es h.1 in ((h.0, parts.0), parts.1)

  one_behind : (ns : List Wire) (n : Wire) (es : List Tree) (e : Tree) → AreBuiltTo holds (wires_in ns) es → IsBuilt holds n e → AreBuiltTo holds (wires_in (ns ++ n ∷ [])) (es ++ e ∷ [])
  one_behind [] n [] e h built = (built, tt)
  one_behind [] n (d ∷ es) e h built = absurd h
  one_behind (m ∷ ns) n [] e h built = absurd h
  one_behind (m ∷ ns) n (d ∷ es) e h built = (h.0, one_behind ns n es e h.1 built)

  -- the expressions are built of trees of which the nodes that are left make one
  pub record Making (left : List Wire) (es : List Tree) (whole : Wire) : Type 0 where
    pub made : List Wire
    pub each : AreBuiltTo holds (wires_in made) es
    pub builds : Builds left made whole

  pub none_made : (whole : Wire) (nodes : List Wire) (es : List Tree) → nodes ≡ wire_nodes whole → es ≡ [] → Making nodes es whole
  none_made whole nodes es are none =
      record { made = []; each = subst (AreBuiltTo holds no_wires) (sym none) tt; builds = subst (λ ns. Builds ns [] whole) (sym are) (built whole) }

  module _ (whole : Wire) (t : WireTree) (left more : List Wire) (es : List Tree) (is : left ≡ tree_view t ∷ more) (h : Making left es whole) where
    builds_here : Builds (tree_view t ∷ more) h.made whole
    builds_here = subst (λ ns. Builds ns h.made whole) is h.builds

    each_here : AreBuiltTo holds (wires_in (builds_here.0 ++ listed (children_in (tree_view t)))) es
    each_here = subst (λ ns. AreBuiltTo holds (wires_in ns) es) builds_here.1 h.each

    number_here : length es ≡ length builds_here.0 + length (out-WireTree t).children.items
    number_here =
        sym (as_many (builds_here.0 ++ listed (children_in (tree_view t))) es each_here) ∙ length-append builds_here.0 (listed (children_in (tree_view t)))
        ∙ ap (λ k. length builds_here.0 + k) (ap (λ ns. length (listed ns)) (children_are t) ∙ listed-many (out-WireTree t).children.items)
      where
        listed-many : (ts : List WireTree) → length (listed (trees_view ts)) ≡ length ts
        listed-many [] = refl
        listed-many (u ∷ ts) = ap suc (listed-many ts)

    -- a node's children are among what is made
    pub has_room : length (out-WireTree t).children.items ≤ length es
    has_room = omega (arith, number_here)

    through : (why : BuildError) → IsRefusedFirst holds why (tree_view t) → IsRefusedFirst holds why whole
    through why bad =
        first_refused why more builds_here.0 (tree_view t) [] whole builds_here.2
        (built_rows holds (wires_in builds_here.0) (take (length builds_here.0) es) (two_parts builds_here.0 (listed (children_in (tree_view t))) es each_here).0) bad

    -- the first refusal of a node is that of the whole
    pub refused_here : (why : BuildError) → IsUnbuilt holds (tree_view t) why → IsUnbuilt holds whole why
    refused_here errors.NoMemory bad = tt
    refused_here errors.UnknownExpr bad = through errors.UnknownExpr bad
    refused_here errors.BadMetadata bad = through errors.BadMetadata bad
    refused_here errors.WrongChildren bad = through errors.WrongChildren bad

    module _ (k : ℕ) (cut_at : k + length (out-WireTree t).children.items ≡ length es) where
      place : length builds_here.0 ≡ k
      place = omega (arith, number_here, cut_at)

      -- their expressions stand at the end
      pub children_made : AreBuiltTo holds (children_in (tree_view t)) (drop k es)
      children_made =
          subst (λ ns. AreBuiltTo holds ns (drop k es)) (wires_in-listed (children_in (tree_view t)))
          (subst (λ j. AreBuiltTo holds (wires_in (listed (children_in (tree_view t)))) (drop j es)) place (two_parts builds_here.0 (listed (children_in (tree_view t))) es each_here).1)

      -- the node's own takes their place
      pub node_made : (e : Tree) (new : List Tree) → new ≡ take k es ++ e ∷ [] → IsBuilt holds (tree_view t) e → Making more new whole
      node_made e new row built =
          record {
            made = builds_here.0 ++ tree_view t ∷ [];
            each =
                subst (AreBuiltTo holds (wires_in (builds_here.0 ++ tree_view t ∷ []))) (sym row)
                (one_behind builds_here.0 (tree_view t) (take k es) e
                (subst (λ j. AreBuiltTo holds (wires_in builds_here.0) (take j es)) place (two_parts builds_here.0 (listed (children_in (tree_view t))) es each_here).0) built);
            builds = builds_here.2;
          }

  only_made : (whole : Wire) (left : List Wire) (es : List Tree) → left ≡ [] → Making left es whole → AreBuiltTo holds (first whole no_wires) es
  only_made whole left es none h =
      let alone_made : h.made ≡ whole ∷ [] = subst (λ ns. Builds ns h.made whole) none h.builds in subst (λ ns. AreBuiltTo holds (wires_in ns) es) alone_made h.each

  last_built : (n : Wire) (rest : List Tree) (e : Tree) → AreBuiltTo holds (first n no_wires) (rest ++ e ∷ []) → IsBuilt holds n e
  last_built n [] e h = h.0
  last_built n (d ∷ []) e h = absurd h.1
  last_built n (d ∷ c ∷ rest) e h = absurd h.1

  -- the last expression is that of the whole
  pub whole_built : (whole : Wire) (left : List Wire) (es rest : List Tree) (e : Tree) → left ≡ [] → es ≡ rest ++ e ∷ [] → Making left es whole → IsBuilt holds whole e
  whole_built whole left es rest e none popped h = last_built whole rest e (subst (AreBuiltTo holds (first whole no_wires)) popped (only_made whole left es none h))

  pub some_built : (whole : Wire) (left : List Wire) (es : List Tree) → left ≡ [] → Making left es whole → es ≡ [] → ⊥
  some_built whole left es none h empty = subst (AreBuiltTo holds (first whole no_wires)) empty (only_made whole left es none h)
