-- The places that reading comes to are those that the grammar has, in order.
use Rattle.std.proofs.Common.{◌≡◌, ℕ, suc, ◌+◌, ◌<◌, ◌≤◌, true, false, eqb, List, [], ◌∷◌, ◌++◌, refl, sym, ap, ◌∙◌, append_assoc, arith, inl, inr}
use Rattle.std.specs.List.{AllByRecursion}
use Rattle.std.proofs.lemmas.Bool.{cases_lt, lt-ltb, le-ltb, eqb-true}
use Rattle.vx_dtype.specs.Types.{Bytes}
use Rattle.vx_wire_bytes.specs.Wires.{Wire, node, Wires, no_wires, first, number_of, size_of, sizes_of, wire_bytes, wires_bytes, IsSpellable, AreSpellable, Head, head_of, head_bytes, IsHead}
use Rattle.vx_wire_bytes.specs.Openings.{Open, IsOpen, open_bytes, opening_bytes, begun}
use Rattle.vx_wire_bytes.specs.Reading.{appended, Closed, still_open, settled, closed, before, place_of, begins, place_after, next, place}
use Rattle.vx_wire_bytes.proofs.HeadLemmas.{head_again}
use Rattle.vx_wire_bytes.specs.LeftToWrite.{joined}
use Rattle.vx_wire_bytes.proofs.ListLemmas.{joined-nil, joined-appended, joined-one, number_of-appended, number_of-none}

-- ---- what is spelled is read

-- where a head stands, its node is begun
head_step : (k : ℕ) (bytes : Bytes) (outer : List Open) (h : Head) (rest : Bytes) → IsHead h → place k bytes ≡ before outer (head_bytes h ++ rest) → place (suc k) bytes ≡ place_of (begins outer h) rest
unfolding place
head_step k bytes outer h rest fits at = ap next at ∙ ap (place_after outer) (head_again h rest fits)

opens : (outer : List Open) (h : Head) → 0 < h.children → begins outer h ≡ still_open (record { head = h; whole = no_wires } ∷ outer)
opens outer h some =
    let test : eqb h.children 0 ≡ false = grind (arith, eqb-true) in
    rw test refl

is_open : (h : Head) (whole : Wires) (outer : List Open) (c : Closed) → number_of whole < h.children → settled h whole outer c ≡ still_open (record { head = h; whole = whole } ∷ outer)
is_open h whole outer c lt = rw (lt-ltb _ _ lt) refl

is_whole : (h : Head) (whole : Wires) (outer : List Open) (c : Closed) → h.children ≤ number_of whole → settled h whole outer c ≡ c
is_whole h whole outer c le = rw (le-ltb _ _ le) refl

closed-open : (h : Head) (whole : Wires) (outer : List Open) (n : Wire) → closed (record { head = h; whole = whole } ∷ outer) n ≡ settled h (appended whole n) outer (closed outer (node h.id h.metadata (appended whole n)))
unfolding closed
closed-open h whole outer n = refl

-- a head without children begins a whole node
begun-whole : (outer : List Open) (h : Head) (ns : Wires) (rest : Bytes) → eqb h.children 0 ≡ true → ns ≡ no_wires → place_of (begins outer h) (wires_bytes ns ++ rest) ≡ place_of (closed outer (node h.id h.metadata ns)) rest
begun-whole outer h ns rest none e =
    let left : wires_bytes ns ++ rest ≡ rest = ap (λ (x : Wires). wires_bytes x ++ rest) e in
    rw (none, left) (ap (λ w. place_of (closed outer (node h.id h.metadata w)) rest) (sym e))

mutual
  pub node_step : (n : Wire) → IsSpellable n → (k : ℕ) (bytes : Bytes) (outer : List Open) (rest : Bytes) → place k bytes ≡ before outer (wire_bytes n ++ rest) → place (k + size_of n) bytes ≡ place_of (closed outer n) rest
  node_step (node id metadata ns) fits k bytes outer rest at =
      let h = head_of id metadata ns in
      let same = append_assoc (head_bytes h) (wires_bytes ns) rest in
      let begun_here = head_step k bytes outer h (wires_bytes ns ++ rest) fits.0 (at ∙ ap (before outer) same) in
      let later : k + (1 + sizes_of ns) ≡ suc k + sizes_of ns = omega arith in
      ap (λ i. place i bytes) later ∙
      elim (cases_lt 0 (number_of ns)) [
        | inl some ↦
            let inside = begun_here ∙ ap (λ c. place_of c (wires_bytes ns ++ rest)) (opens outer h some) in
            let all = nodes_step ns fits.1 (suc k) bytes h no_wires outer rest (omega arith) some inside in
            all ∙ ap (λ c. place_of c rest) (is_whole h ns outer (closed outer (node id metadata ns)) (omega arith))
        | inr none ↦
            let e : ns ≡ no_wires = number_of-none ns (omega arith) in
            let test : eqb (number_of ns) 0 ≡ true = ap (λ n. eqb (number_of n) 0) e in
            let count : suc k + sizes_of ns ≡ suc k = omega (arith, ap sizes_of e) in
            ap (λ i. place i bytes) count ∙ begun_here ∙ begun-whole outer h ns rest test e
      ]

  -- a list of nodes in an open one, which has room for all of them
  pub nodes_step : (ns : Wires) → AreSpellable ns → (k : ℕ) (bytes : Bytes) (h : Head) (whole : Wires) (outer : List Open) (rest : Bytes) → number_of whole + number_of ns ≤ h.children → number_of whole < h.children
      → place k bytes ≡ before (record { head = h; whole = whole } ∷ outer) (wires_bytes ns ++ rest)
      → place (k + sizes_of ns) bytes ≡ place_of (settled h (joined whole ns) outer (closed outer (node h.id h.metadata (joined whole ns)))) rest
  nodes_step no_wires fits k bytes h whole outer rest room more at =
      let count : k + 0 ≡ k = omega arith in
      ap (λ i. place i bytes) count ∙ at
      ∙ ap (λ c. place_of c rest) (sym (is_open h whole outer (closed outer (node h.id h.metadata whole)) more))
      ∙ ap (λ w. place_of (settled h w outer (closed outer (node h.id h.metadata w))) rest) (sym (joined-nil whole))
  nodes_step (first n ns) fits k bytes h whole outer rest room more at =
      let same = append_assoc (wire_bytes n) (wires_bytes ns) rest in
      let one = node_step n fits.0 k bytes (record { head = h; whole = whole } ∷ outer) (wires_bytes ns ++ rest) (at ∙ ap (before (record { head = h; whole = whole } ∷ outer)) same) in
      let settled_here = one ∙ ap (λ c. place_of c (wires_bytes ns ++ rest)) (closed-open h whole outer n) in
      let count : k + (size_of n + sizes_of ns) ≡ k + size_of n + sizes_of ns = omega arith in
      ap (λ i. place i bytes) count ∙
      elim (cases_lt (number_of (appended whole n)) h.children) [
        | inl still ↦
            let goes_on = settled_here ∙ ap (λ c. place_of c (wires_bytes ns ++ rest)) (is_open h (appended whole n) outer (closed outer (node h.id h.metadata (appended whole n))) still) in
            let others = nodes_step ns fits.1 (k + size_of n) bytes h (appended whole n) outer rest (omega (arith, number_of-appended whole n)) still goes_on in
            others ∙ ap (λ w. place_of (settled h w outer (closed outer (node h.id h.metadata w))) rest) (joined-appended whole n ns)
        | inr last ↦
            let e : ns ≡ no_wires = number_of-none ns (omega (arith, number_of-appended whole n)) in
            let here : k + size_of n + sizes_of ns ≡ k + size_of n = omega (arith, ap sizes_of e) in
            let left : wires_bytes ns ++ rest ≡ rest = ap (λ (x : Wires). wires_bytes x ++ rest) e in
            let row : joined whole (first n ns) ≡ appended whole n = ap (λ x. joined whole (first n x)) e ∙ joined-one whole n in
            ap (λ i. place i bytes) here ∙ settled_here
            ∙ ap (place_of (settled h (appended whole n) outer (closed outer (node h.id h.metadata (appended whole n))))) left
            ∙ ap (λ w. place_of (settled h w outer (closed outer (node h.id h.metadata w))) rest) (sym row)
      ]

-- reading comes to each opening, once as many nodes are begun as it has
pub opening_step : (nodes : List Open) → AllByRecursion IsOpen nodes → (bytes rest : Bytes) → bytes ≡ opening_bytes nodes ++ rest → place (begun nodes) bytes ≡ before nodes rest
unfolding place
opening_step [] fits bytes rest e = ap (before []) e
opening_step (o ∷ outer) fits bytes rest e =
    let here = opening_step outer fits.1 bytes (open_bytes o ++ rest) (e ∙ append_assoc (opening_bytes outer) (open_bytes o) rest) in
    let same = append_assoc (head_bytes o.head) (wires_bytes o.whole) rest in
    let begun_here = head_step (begun outer) bytes outer o.head (wires_bytes o.whole ++ rest) fits.0.head (here ∙ ap (before outer) same) in
    let inside = begun_here ∙ ap (λ c. place_of c (wires_bytes o.whole ++ rest)) (opens outer o.head (omega (arith, fits.0.more))) in
    let all = nodes_step o.whole fits.0.whole (suc (begun outer)) bytes o.head no_wires outer rest (omega (arith, fits.0.more)) (omega (arith, fits.0.more)) inside in
    let count : begun outer + (1 + sizes_of o.whole) ≡ suc (begun outer) + sizes_of o.whole = omega arith in
    ap (λ i. place i bytes) count ∙ all ∙ ap (λ c. place_of c rest) (is_open o.head o.whole outer (closed outer (node o.head.id o.head.metadata o.whole)) fits.0.more)
