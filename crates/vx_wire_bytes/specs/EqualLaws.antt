-- For the checker: no public clause cites this.
-- The test of equality answers true exactly where the two sides are one.
use Rattle.std.specs.Prelude.{◌≡◌, true, ◌&&◌, refl, Decides}
use Rattle.std.proofs.Common.{subst}
use Rattle.std.specs.Cmp.{IsEquivalence, decided, first_so, second_so}
use Rattle.std.specs.Str.{bytes_eq}
use Rattle.std.proofs.lemmas.Slice.Eq.{bytes_eq-Decides}
use Rattle.vx_wire_bytes.specs.Wires.{Wire, node, Wires, no_wires, first}
use Rattle.vx_wire_bytes.specs.WireEqual.{wire_eq, wires_eq}

mutual
  unfolding wire_eq

  pub wire_eq-same : (a b : Wire) → wire_eq a b ≡ true → a ≡ b
  wire_eq-same (node id m ns) (node id' m' ms) e =
      let rest : (bytes_eq m m' && wires_eq ns ms) ≡ true = second_so (bytes_eq id id') (bytes_eq m m' && wires_eq ns ms) e in
      let same_id : id ≡ id' = (bytes_eq-Decides id id').0 (first_so (bytes_eq id id') (bytes_eq m m' && wires_eq ns ms) e) in
      let same_metadata : m ≡ m' = (bytes_eq-Decides m m').0 (first_so (bytes_eq m m') (wires_eq ns ms) rest) in
      let same_children : ns ≡ ms = wires_eq-same ns ms (second_so (bytes_eq m m') (wires_eq ns ms) rest) in
      λ i. node (same_id i) (same_metadata i) (same_children i)

  pub wires_eq-same : (ns ms : Wires) → wires_eq ns ms ≡ true → ns ≡ ms
  wires_eq-same no_wires no_wires e = refl
  wires_eq-same (first n ns) (first m ms) e = λ i. first (wire_eq-same n m (first_so _ _ e) i) (wires_eq-same ns ms (second_so _ _ e) i)
  wires_eq-same _ _ e = cc

mutual
  unfolding wire_eq

  pub wire_eq-own : (a : Wire) → wire_eq a a ≡ true
  wire_eq-own (node id m ns) = λ i. (bytes_eq-Decides id id).1 refl i && ((bytes_eq-Decides m m).1 refl i && wires_eq-own ns i)

  pub wires_eq-own : (ns : Wires) → wires_eq ns ns ≡ true
  wires_eq-own no_wires = refl
  wires_eq-own (first n ns) = λ i. wire_eq-own n i && wires_eq-own ns i

pub wire_decides : (a b : Wire) → Decides (wire_eq a b) (a ≡ b)
wire_decides a b = (wire_eq-same a b, λ e. subst (λ c. wire_eq a c ≡ true) e (wire_eq-own a))

pub wire_eq_equiv : IsEquivalence wire_eq
wire_eq_equiv = decided wire_eq wire_decides
