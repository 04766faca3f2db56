-- Where reading comes to a place, the bytes before it are those of the grammar, and the places come in order.
use Rattle.std.proofs.Common.{◌≡◌, ℕ, zero, suc, ◌+◌, ◌-◌, ◌<◌, ◌≤◌, true, false, eqb, List, [], ◌∷◌, ◌++◌, length, Option, Some, None, refl, sym, ap, subst, ◌∙◌, append_assoc, arith, inl, inr}
use Rattle.std.specs.List.{AllByRecursion}
use Rattle.std.proofs.lemmas.Bool.{cases_lt, lt-ltb, le-ltb, eqb-true}
use Rattle.std.proofs.lemmas.List.{append-nil, length-append}
use Rattle.vx_dtype.specs.Types.{Bytes}
use Rattle.vx_wire_bytes.specs.Wires.{Wire, node, no_wires, number_of, size_of, sizes_of, wire_bytes, wires_bytes, IsSpellable, Head, head_of, head_bytes, IsHead}
use Rattle.vx_wire_bytes.specs.Openings.{Open, IsOpen, open_bytes, opening_bytes, begun}
use Rattle.vx_wire_bytes.specs.Reading.{head_at, appended, Closed, still_open, all_whole, closed, Place, before, behind, nowhere, place_of, begins, place_after, next, place}
use Rattle.vx_wire_bytes.proofs.NumberLemmas.{IsBytes}
use Rattle.vx_wire_bytes.proofs.HeadLemmas.{head_takes, head_some}
use Rattle.vx_wire_bytes.proofs.ListLemmas.{number_of-appended, sizes_of-appended, nodes_bytes-appended, AreSpellable-appended}

-- ---- what is read is spelled

-- the nodes are open there, and the bytes before the rest are theirs
pub record IsBefore (bytes : Bytes) (k : ℕ) (nodes : List Open) (rest : Bytes) : Type 0 where
  pub each : AllByRecursion IsOpen nodes
  pub parts : bytes ≡ opening_bytes nodes ++ rest
  pub count : begun nodes ≡ k
  pub fits : IsBytes rest

-- the bytes before the rest are the tree
pub record IsBehind (bytes : Bytes) (k : ℕ) (tree : Wire) (rest : Bytes) : Type 0 where
  pub spellable : IsSpellable tree
  pub parts : bytes ≡ wire_bytes tree ++ rest
  pub count : size_of tree ≡ k
  pub fits : IsBytes rest

abbrev pub IsAt : Bytes → ℕ → Place → Type 0
IsAt bytes k (before nodes rest) = IsBefore bytes k nodes rest
IsAt bytes k (behind tree rest) = IsBehind bytes k tree rest
IsAt bytes k nowhere = Unit {0}

closed_is : (nodes : List Open) → AllByRecursion IsOpen nodes → (n : Wire) → IsSpellable n → (bytes rest : Bytes) (k : ℕ) → bytes ≡ opening_bytes nodes ++ (wire_bytes n ++ rest) → IsBytes rest → begun nodes + size_of n ≡ k → IsAt bytes k (place_of (closed nodes n) rest)
unfolding closed
closed_is [] each n fits bytes rest k e are count = record { spellable = fits; parts = e; count = omega arith; fits = are }
closed_is (o ∷ outer) each n fits bytes rest k e are count =
    let whole = appended o.whole n in
    let more = each.0.more in
    let bytes_of : open_bytes o ++ (wire_bytes n ++ rest) ≡ (head_bytes o.head ++ wires_bytes whole) ++ rest =
    sym (append_assoc (open_bytes o) (wire_bytes n) rest) ∙ ap (λ (b : Bytes). b ++ rest) (append_assoc (head_bytes o.head) (wires_bytes o.whole) (wire_bytes n) ∙ ap (λ (b : Bytes). head_bytes o.head ++ b) (sym (nodes_bytes-appended o.whole n))) in
    let parts : bytes ≡ opening_bytes outer ++ ((head_bytes o.head ++ wires_bytes whole) ++ rest) = e ∙ append_assoc (opening_bytes outer) (open_bytes o) (wire_bytes n ++ rest) ∙ ap (λ (b : Bytes). opening_bytes outer ++ b) bytes_of in
    let spellable = AreSpellable-appended o.whole n each.0.whole fits in
    let sizes : begun outer + (1 + sizes_of whole) ≡ k = omega (arith, sizes_of-appended o.whole n) in
    elim (cases_lt (number_of whole) o.head.children) [
      | inl lt ↦ rw (lt-ltb (number_of whole) o.head.children lt)
          (record {
            each = (record { head = each.0.head; whole = spellable; more = lt }, each.1);
            parts = parts ∙ sym (append_assoc (opening_bytes outer) (head_bytes o.head ++ wires_bytes whole) rest);
            count = sizes;
            fits = are;
          })
      | inr le ↦
          let number : number_of whole ≡ o.head.children = omega (arith, number_of-appended o.whole n) in
          let head : head_of o.head.id o.head.metadata whole ≡ o.head = ap (λ (c : ℕ). let h : Head = record { id = o.head.id; metadata = o.head.metadata; children = c } in h) number in
          let is_head : IsHead (head_of o.head.id o.head.metadata whole) = subst IsHead (sym head) each.0.head in
          let same : (head_bytes o.head ++ wires_bytes whole) ++ rest ≡ wire_bytes (node o.head.id o.head.metadata whole) ++ rest = ap (λ h. (head_bytes h ++ wires_bytes whole) ++ rest) (sym head) in
          rw (le-ltb (number_of whole) o.head.children le)
          (closed_is outer each.1 (node o.head.id o.head.metadata whole) (is_head, spellable) bytes rest k (parts ∙ ap (λ (b : Bytes). opening_bytes outer ++ b) same) are sizes)
    ]

-- a head that was read begins a node
begins_is : (nodes : List Open) (h : Head) (bytes rest : Bytes) (k : ℕ) → AllByRecursion IsOpen nodes → IsHead h → bytes ≡ opening_bytes nodes ++ (head_bytes h ++ rest) → IsBytes rest → begun nodes ≡ k → IsAt bytes (suc k) (place_of (begins nodes h) rest)
begins_is nodes h bytes rest k each fits e are count =
    elim (cases_lt 0 h.children) [
      | inl lt ↦
          let test : eqb h.children 0 ≡ false = grind (arith, eqb-true) in
          rw test (record {
            each = (record { head = fits; whole = tt; more = lt }, each);
            parts = e ∙ ap (λ (b : Bytes). opening_bytes nodes ++ (b ++ rest)) (sym (append-nil (head_bytes h))) ∙ sym (append_assoc (opening_bytes nodes) (head_bytes h ++ []) rest);
            count = omega arith;
            fits = are;
          })
      | inr le ↦
          let none : h.children ≡ 0 = omega arith in
          let test : eqb h.children 0 ≡ true = ap (λ n. eqb n 0) none in
          let head : head_of h.id h.metadata no_wires ≡ h = ap (λ (c : ℕ). let g : Head = record { id = h.id; metadata = h.metadata; children = c } in g) (sym none) in
          let same : head_bytes h ++ rest ≡ wire_bytes (node h.id h.metadata no_wires) ++ rest = ap (λ (g : Head). head_bytes g ++ rest) (sym head) ∙ ap (λ (b : Bytes). b ++ rest) (sym (append-nil (head_bytes (head_of h.id h.metadata no_wires)))) in
          rw test (closed_is nodes each (node h.id h.metadata no_wires) (subst IsHead (sym head) fits, tt) bytes rest (suc k) (e ∙ ap (λ (b : Bytes). opening_bytes nodes ++ b) same) are (omega arith))
    ]

next_is : (bytes : Bytes) (k : ℕ) (p : Place) → IsAt bytes k p → IsAt bytes (suc k) (next p)
next_is bytes k (before nodes rest) at = step (head_at rest) refl
  where
    step : (found : Option (Head × Bytes)) → head_at rest ≡ found → IsAt bytes (suc k) (place_after nodes found)
    step None e = tt
    step (Some x) e =
        let t = head_takes rest x at.fits e in
        begins_is nodes x.0 bytes x.1 k at.each t.1 (at.parts ∙ ap (λ (b : Bytes). opening_bytes nodes ++ b) t.0.parts) t.0.fits at.count
next_is bytes k (behind tree rest) at = tt
next_is bytes k nowhere at = tt

pub place_is : (bytes : Bytes) → IsBytes bytes → (k : ℕ) → IsAt bytes k (place k bytes)
unfolding place
place_is bytes fits zero = record { each = tt; parts = refl; count = refl; fits = fits }
place_is bytes fits (suc k) = next_is bytes k (place k bytes) (place_is bytes fits k)

-- ---- the places come in order

-- behind the tree, or where no head can be read, nothing comes
pub over : (bytes : Bytes) (j k : ℕ) → place k bytes ≡ nowhere → place (j + k) bytes ≡ nowhere
unfolding place
over bytes zero k e =
    let i : zero + k ≡ k = omega arith in
    ap (λ i. place i bytes) i ∙ e
over bytes (suc j) k e =
    let i : suc j + k ≡ suc (j + k) = omega arith in
    ap (λ i. place i bytes) i ∙ ap next (over bytes j k e)

pub behind_next : (bytes : Bytes) (k : ℕ) (tree : Wire) (rest : Bytes) → place k bytes ≡ behind tree rest → place (suc k) bytes ≡ nowhere
unfolding place
behind_next bytes k tree rest e = ap next e

-- where nothing comes after a place, no place further on is one of the grammar
pub later_over : (bytes : Bytes) (k m : ℕ) → k ≤ m → place k bytes ≡ nowhere → place m bytes ≡ nowhere
later_over bytes k m le e =
    let i : m ≡ (m - k) + k = omega arith in
    ap (λ i. place i bytes) i ∙ over bytes (m - k) k e

-- what comes behind a place between nodes is shorter
place_rest : (c : Closed) (rest : Bytes) (nodes : List Open) (left : Bytes) → place_of c rest ≡ before nodes left → rest ≡ left
place_rest (still_open ns) rest nodes left e = cc
place_rest (all_whole t) rest nodes left e = absurd cc

comes_from : (bytes : Bytes) (k : ℕ) (p : Place) (nodes : List Open) (rest : Bytes) → IsAt bytes k p → next p ≡ before nodes rest → (outer : List Open) × (left : Bytes) × (p ≡ before outer left) × (length rest < length left)
comes_from bytes k (before outer left) nodes rest at e = (outer, left, refl, step (head_at left) refl e)
  where
    step : (found : Option (Head × Bytes)) → head_at left ≡ found → place_after outer found ≡ before nodes rest → length rest < length left
    step None f e = absurd cc
    step (Some x) f e =
        let t = head_takes left x at.fits f in
        let same : x.1 ≡ rest = place_rest (begins outer x.0) x.1 nodes rest e in
        omega (arith, head_some x.0, length-append (head_bytes x.0) x.1, ap length t.0.parts, ap length same)
comes_from bytes k (behind tree left) nodes rest at e = absurd cc
comes_from bytes k nowhere nodes rest at e = absurd cc

-- the bytes that are left fall from place to place
pub falls : (bytes : Bytes) → IsBytes bytes → (j k : ℕ) (nodes outer : List Open) (rest left : Bytes) → place k bytes ≡ before outer left → place (suc j + k) bytes ≡ before nodes rest → length rest < length left
unfolding place
falls bytes fits zero k nodes outer rest left from to =
    let i : suc zero + k ≡ suc k = omega arith in
    let c = comes_from bytes k (place k bytes) nodes rest (place_is bytes fits k) (ap (λ i. place i bytes) (sym i) ∙ to) in
    let same : before c.0 c.1 ≡ before outer left = sym c.2 ∙ from in
    let left_is : c.1 ≡ left = cc in
    omega (arith, c.3, ap length left_is)
falls bytes fits (suc j) k nodes outer rest left from to =
    let i : suc (suc j) + k ≡ suc (suc j + k) = omega arith in
    let c = comes_from bytes (suc j + k) (place (suc j + k) bytes) nodes rest (place_is bytes fits (suc j + k)) (ap (λ i. place i bytes) (sym i) ∙ to) in
    let before_that = falls bytes fits j k c.0 outer c.1 left from c.2 in
    omega (arith, c.3)

pub falls_later : (bytes : Bytes) → IsBytes bytes → (k m : ℕ) (nodes outer : List Open) (rest left : Bytes) → k < m → place k bytes ≡ before outer left → place m bytes ≡ before nodes rest → length rest < length left
falls_later bytes fits k m nodes outer rest left lt from to =
    let i : suc (m - k - 1) + k ≡ m = omega arith in
    falls bytes fits (m - k - 1) k nodes outer rest left from (ap (λ i. place i bytes) i ∙ to)
