-- What is known of the bytes where reading stops.
use Rattle.std.proofs.Common.{◌≡◌, ◌≢◌, ℕ, suc, ◌+◌, ◌<◌, ◌≤◌, List, [], ◌++◌, length, Some, None, refl, sym, ap, subst, ◌∙◌, arith, inl, inr}
use Rattle.std.proofs.lemmas.Bool.{cases_lt}
use Rattle.std.proofs.lemmas.List.{append-nil, length-append}
use Rattle.vx_dtype.specs.Types.{Bytes}
use Rattle.vx_wire_bytes.specs.Wires.{Wire, size_of, wire_bytes, IsSpellable, Spells, Head}
use Rattle.vx_wire_bytes.specs.Openings.{Open, opening_bytes, Opening, most_open, most_nodes, IsTooDeep, IsTooMany}
use Rattle.vx_wire_bytes.specs.Reading.{head_at, Closed, closed, Place, before, behind, nowhere, place_of, begins, place_after, next, place}
use Rattle.vx_wire_bytes.specs.ReadAnswers.{IsRead, IsBadWire}
use Rattle.vx_wire_bytes.proofs.NumberLemmas.{IsBytes}
use Rattle.vx_wire_bytes.proofs.PlaceLemmas.{node_step, opening_step}
use Rattle.vx_wire_bytes.proofs.OrderLemmas.{IsBefore, IsBehind, IsAt, place_is, later_over, behind_next, falls_later}

-- reading has come to this place, and no place before it was too deep
pub record Reached (bytes : Bytes) (k : ℕ) (nodes : List Open) (rest : Bytes) : Type 0 where
  pub here : place k bytes ≡ before nodes rest
  pub shallow : (j : ℕ) (others : List Open) (left : Bytes) → j < k → place j bytes ≡ before others left → length others ≢ most_open

-- nothing comes after this place
abbrev pub IsLast : Bytes → ℕ → Type 0
IsLast bytes k = (nodes : List Open) (rest : Bytes) → place (suc k) bytes ≢ before nodes rest

pub starts : (bytes : Bytes) → Reached bytes 0 [] bytes
unfolding place
starts bytes = record { here = refl; shallow = λ j others left lt e. absurd (omega arith) }

pub place_next : (bytes : Bytes) (k : ℕ) (nodes : List Open) (rest : Bytes) (h : Head) (left : Bytes) (c : Closed) → place k bytes ≡ before nodes rest → Some (h, left) ≡ head_at rest → c ≡ begins nodes h → place (suc k) bytes ≡ place_of c left
unfolding place
place_next bytes k nodes rest h left c here head e = ap next here ∙ ap (place_after nodes) (sym head) ∙ ap (λ c. place_of c left) (sym e)

place_none : (bytes : Bytes) (k : ℕ) (nodes : List Open) (rest : Bytes) → place k bytes ≡ before nodes rest → None ≡ head_at rest → place (suc k) bytes ≡ nowhere
unfolding place
place_none bytes k nodes rest here none = ap next here ∙ ap (place_after nodes) (sym none)

same_nodes : (nodes others : List Open) (rest left : Bytes) (p : Place) → p ≡ before nodes rest → p ≡ before others left → nodes ≡ others
same_nodes nodes others rest left p a b = let e : before nodes rest ≡ before others left = sym a ∙ b in cc

same_rest : (nodes others : List Open) (rest left : Bytes) (p : Place) → p ≡ before nodes rest → p ≡ before others left → rest ≡ left
same_rest nodes others rest left p a b = let e : before nodes rest ≡ before others left = sym a ∙ b in cc

pub goes_on : (bytes : Bytes) (k : ℕ) (nodes after : List Open) (rest left : Bytes) → Reached bytes k nodes rest → length nodes ≢ most_open → place (suc k) bytes ≡ before after left → Reached bytes (k + 1) after left
goes_on bytes k nodes after rest left r shallow e =
    let i : k + 1 ≡ suc k = omega arith in
    record {
      here = ap (λ i. place i bytes) i ∙ e;
      shallow = λ j others there lt at. elim (cases_lt j k) [
        | inl earlier ↦ r.shallow j others there earlier at
        | inr now ↦
            let same : j ≡ k = omega arith in
            let nodes_are = same_nodes nodes others rest there (place k bytes) r.here (ap (λ i. place i bytes) (sym same) ∙ at) in
            λ deep. shallow (ap length nodes_are ∙ deep)
      ];
    }

-- where an opening is a prefix, reading comes to it
opening_is : (bytes prefix rest : Bytes) (depth count : ℕ) → bytes ≡ prefix ++ rest → (o : Opening prefix depth count) → place count bytes ≡ before o.nodes rest
opening_is bytes prefix rest depth count e o = ap (λ i. place i bytes) o.count_is ∙ opening_step o.nodes o.each bytes rest (e ∙ ap (λ (p : Bytes). p ++ rest) o.written)

-- the place where reading has come to is an opening
here_opens : (bytes : Bytes) → IsBytes bytes → (k : ℕ) (nodes : List Open) (rest : Bytes) → place k bytes ≡ before nodes rest → IsBefore bytes k nodes rest
here_opens bytes fits k nodes rest e = subst (IsAt bytes k) e (place_is bytes fits k)

-- further on, less is left
lengths : (bytes : Bytes) → IsBytes bytes → (k m : ℕ) (nodes others : List Open) (rest left prefix other : Bytes) → k < m → place k bytes ≡ before nodes rest → place m bytes ≡ before others left → bytes ≡ prefix ++ rest → bytes ≡ other ++ left → length prefix < length other
lengths bytes fits k m nodes others rest left prefix other lt from to a b =
    let fewer = falls_later bytes fits k m others nodes left rest lt from to in
    omega (arith, ap length a, ap length b, length-append prefix rest, length-append other left)

pub too_many : (bytes : Bytes) → IsBytes bytes → (nodes : List Open) (rest : Bytes) → Reached bytes most_nodes nodes rest → IsTooMany bytes
too_many bytes fits nodes rest r =
    let at = here_opens bytes fits most_nodes nodes rest r.here in
    record {
      prefix = opening_bytes nodes;
      rest = rest;
      depth = length nodes;
      bytes_are = at.parts;
      many = record { nodes = nodes; each = at.each; written = refl; depth_is = refl; count_is = sym at.count };
      first = λ other after count e o.
          let there = opening_is bytes other after most_open count e o in
          elim (cases_lt count most_nodes) [
            | inl earlier ↦ absurd (r.shallow count o.nodes after earlier there (sym o.depth_is))
            | inr later ↦ elim (cases_lt most_nodes count) [
              | inl further ↦
                  let longer = lengths bytes fits most_nodes count nodes o.nodes rest after (opening_bytes nodes) other further r.here there at.parts e in
                  omega arith
              | inr here ↦
                  let same : count ≡ most_nodes = omega arith in
                  let rest_is = same_rest nodes o.nodes rest after (place most_nodes bytes) r.here (ap (λ i. place i bytes) (sym same) ∙ there) in
                  omega (arith, ap length at.parts, ap length e, ap length rest_is, length-append (opening_bytes nodes) rest, length-append other after)
            ]
          ];
    }

pub too_deep : (bytes : Bytes) → IsBytes bytes → (k : ℕ) (nodes : List Open) (rest : Bytes) → Reached bytes k nodes rest → k < most_nodes → length nodes ≡ most_open → IsTooDeep bytes
too_deep bytes fits k nodes rest r lt deep =
    let at = here_opens bytes fits k nodes rest r.here in
    record {
      prefix = opening_bytes nodes;
      rest = rest;
      count = k;
      bytes_are = at.parts;
      deep = record { nodes = nodes; each = at.each; written = refl; depth_is = sym deep; count_is = sym at.count };
      first = λ other after depth e o.
          let there = opening_is bytes other after depth most_nodes e o in
          lengths bytes fits k most_nodes nodes o.nodes rest after (opening_bytes nodes) other lt r.here there at.parts e;
    }

-- where a place is the last, the places further on are none of the grammar
last_over : (bytes : Bytes) (k : ℕ) (p : Place) → place (suc k) bytes ≡ p → IsLast bytes k → (m : ℕ) (nodes : List Open) (rest : Bytes) → k < m → place m bytes ≢ before nodes rest
last_over bytes k (before ns r) e last m nodes rest lt at = last ns r e
last_over bytes k nowhere e last m nodes rest lt at =
    let gone = later_over bytes (suc k) m (omega arith) e in
    let never : nowhere ≡ before nodes rest = sym gone ∙ at in
    cc
last_over bytes k (behind t r) e last m nodes rest lt at =
    elim (cases_lt (suc k) m) [
      | inl further ↦
          let gone = later_over bytes (suc (suc k)) m (omega arith) (behind_next bytes (suc k) t r e) in
          let never : nowhere ≡ before nodes rest = sym gone ∙ at in
          cc
      | inr here ↦
          let same : m ≡ suc k = omega arith in
          let never : behind t r ≡ before nodes rest = sym e ∙ ap (λ i. place i bytes) (sym same) ∙ at in
          cc
    ]

-- no limit is met where reading ends within them
pub record MeetsNoLimit (bytes : Bytes) : Type 0 where
  pub not_deep : ¬ (IsTooDeep bytes)
  pub not_many : ¬ (IsTooMany bytes)

no_limit : (bytes : Bytes) (k : ℕ) (nodes : List Open) (rest : Bytes) → Reached bytes k nodes rest → k < most_nodes → length nodes ≢ most_open → IsLast bytes k → MeetsNoLimit bytes
no_limit bytes k nodes rest r lt shallow last = record {
  not_deep = λ t.
      let there = opening_is bytes t.prefix t.rest most_open t.count t.bytes_are t.deep in
      elim (cases_lt k t.count) [
        | inl further ↦ last_over bytes k (place (suc k) bytes) refl last t.count t.deep.nodes t.rest further there
        | inr le ↦ elim (cases_lt t.count k) [
          | inl earlier ↦ r.shallow t.count t.deep.nodes t.rest earlier there (sym t.deep.depth_is)
          | inr here ↦
              let same : t.count ≡ k = omega arith in
              let nodes_are = same_nodes nodes t.deep.nodes rest t.rest (place k bytes) r.here (ap (λ i. place i bytes) (sym same) ∙ there) in
              shallow (ap length nodes_are ∙ sym t.deep.depth_is)
        ]
      ];
  not_many = λ t. last_over bytes k (place (suc k) bytes) refl last most_nodes t.many.nodes t.rest lt (opening_is bytes t.prefix t.rest t.depth most_nodes t.bytes_are t.many);
}

-- where a tree is spelled, reading comes behind it
spelled_is : (bytes : Bytes) (tree : Wire) → Spells bytes tree → place (size_of tree) bytes ≡ behind tree []
unfolding place closed
spelled_is bytes tree s =
    let i : 0 + size_of tree ≡ size_of tree = omega arith in
    ap (λ i. place i bytes) (sym i) ∙ node_step tree s.spellable 0 bytes [] [] (ap (before []) (s.spelled ∙ sym (append-nil (wire_bytes tree))))

-- the places before the one that was reached are between nodes
is_between : (bytes : Bytes) (j k : ℕ) (nodes : List Open) (rest : Bytes) (tree : Wire) (left : Bytes) → j ≤ k → place k bytes ≡ before nodes rest → place j bytes ≢ behind tree left
is_between bytes j k nodes rest tree left le here at =
    elim (cases_lt j k) [
      | inl lt ↦
          let gone = later_over bytes (suc j) k (omega arith) (behind_next bytes j tree left at) in
          let never : nowhere ≡ before nodes rest = sym gone ∙ here in
          cc
      | inr ge ↦
          let same : j ≡ k = omega arith in
          let never : behind tree left ≡ before nodes rest = sym at ∙ ap (λ i. place i bytes) same ∙ here in
          cc
    ]

pub bad_head : (bytes : Bytes) (k : ℕ) (nodes : List Open) (rest : Bytes) → Reached bytes k nodes rest → k < most_nodes → length nodes ≢ most_open → None ≡ head_at rest → IsBadWire bytes
bad_head bytes k nodes rest r lt shallow none =
    let gone = place_none bytes k nodes rest r.here none in
    let limit = no_limit bytes k nodes rest r lt shallow (λ ns left e. let never : nowhere ≡ before ns left = sym gone ∙ e in cc) in
    record {
      no_tree = λ tree s.
          let there = spelled_is bytes tree s in
          elim (cases_lt k (size_of tree)) [
            | inl further ↦
                let over_there = later_over bytes (suc k) (size_of tree) (omega arith) gone in
                let never : nowhere ≡ behind tree [] = sym over_there ∙ there in
                cc
            | inr le ↦ is_between bytes (size_of tree) k nodes rest tree [] le r.here there
          ];
      not_deep = limit.not_deep;
      not_many = limit.not_many;
    }

behind_last : (bytes : Bytes) (k : ℕ) (tree : Wire) (left : Bytes) → place (suc k) bytes ≡ behind tree left → IsLast bytes k
behind_last bytes k tree left at ns rest e = let never : behind tree left ≡ before ns rest = sym at ∙ e in cc

pub is_read : (bytes : Bytes) → IsBytes bytes → (k : ℕ) (nodes : List Open) (rest : Bytes) (tree : Wire) → Reached bytes k nodes rest → k < most_nodes → length nodes ≢ most_open → place (suc k) bytes ≡ behind tree [] → IsRead bytes tree
is_read bytes fits k nodes rest tree r lt shallow at =
    let limit = no_limit bytes k nodes rest r lt shallow (behind_last bytes k tree [] at) in
    let b : IsBehind bytes (suc k) tree [] = subst (IsAt bytes (suc k)) at (place_is bytes fits (suc k)) in
    record {
      spelled = record { spellable = b.spellable; spelled = b.parts ∙ append-nil (wire_bytes tree) };
      not_deep = limit.not_deep;
      not_many = limit.not_many;
    }

pub left_over : (bytes : Bytes) (k : ℕ) (nodes : List Open) (rest : Bytes) (tree : Wire) (left : Bytes) → Reached bytes k nodes rest → k < most_nodes → length nodes ≢ most_open → place (suc k) bytes ≡ behind tree left → left ≢ [] → IsBadWire bytes
left_over bytes k nodes rest tree left r lt shallow at some =
    let limit = no_limit bytes k nodes rest r lt shallow (behind_last bytes k tree left at) in
    record {
      no_tree = λ other s.
          let there = spelled_is bytes other s in
          elim (cases_lt k (size_of other)) [
            | inl further ↦ elim (cases_lt (suc k) (size_of other)) [
              | inl beyond ↦
                  let gone = later_over bytes (suc (suc k)) (size_of other) (omega arith) (behind_next bytes (suc k) tree left at) in
                  let never : nowhere ≡ behind other [] = sym gone ∙ there in
                  cc
              | inr here ↦
                  let same : size_of other ≡ suc k = omega arith in
                  let both : behind tree left ≡ behind other [] = sym at ∙ ap (λ i. place i bytes) (sym same) ∙ there in
                  let none : left ≡ [] = cc in
                  some none
            ]
            | inr le ↦ is_between bytes (size_of other) k nodes rest other [] le r.here there
          ];
      not_deep = limit.not_deep;
      not_many = limit.not_many;
    }

-- ---- laws

-- no text of a node begins another
pub one_node : (a b : Wire) (x y : Bytes) → IsSpellable a → IsSpellable b → wire_bytes a ++ x ≡ wire_bytes b ++ y → (a ≡ b) × (x ≡ y)
unfolding place closed
one_node a b x y fa fb e =
    let bytes = wire_bytes a ++ x in
    let i : 0 + size_of a ≡ size_of a = omega arith in
    let j : 0 + size_of b ≡ size_of b = omega arith in
    let at_a : place (size_of a) bytes ≡ behind a x = ap (λ i. place i bytes) (sym i) ∙ node_step a fa 0 bytes [] x refl in
    let at_b : place (size_of b) bytes ≡ behind b y = ap (λ i. place i bytes) (sym j) ∙ node_step b fb 0 bytes [] y (ap (before []) e) in
    elim (cases_lt (size_of a) (size_of b)) [
      | inl lt ↦
          let gone = later_over bytes (suc (size_of a)) (size_of b) (omega arith) (behind_next bytes (size_of a) a x at_a) in
          let never : nowhere ≡ behind b y = sym gone ∙ at_b in
          absurd cc
      | inr le ↦ elim (cases_lt (size_of b) (size_of a)) [
        | inl lt ↦
            let gone = later_over bytes (suc (size_of b)) (size_of a) (omega arith) (behind_next bytes (size_of b) b y at_b) in
            let never : nowhere ≡ behind a x = sym gone ∙ at_a in
            absurd cc
        | inr ge ↦
            let same : size_of a ≡ size_of b = omega arith in
            let both : behind a x ≡ behind b y = sym at_a ∙ ap (λ i. place i bytes) same ∙ at_b in
            let trees : a ≡ b = cc in
            let rests : x ≡ y = cc in
            (trees, rests)
      ]
    ]
