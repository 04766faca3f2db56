-- Lists of nodes, one put behind the others.
use Rattle.std.proofs.Common.{◌≡◌, ◌+◌, ◌++◌, refl, sym, ap, ◌∙◌, append_assoc, arith}
use Rattle.std.proofs.lemmas.List.{append-nil}
use Rattle.vx_wire_bytes.specs.Wires.{Wire, Wires, no_wires, first, number_of, size_of, sizes_of, wire_bytes, wires_bytes, IsSpellable, AreSpellable}
use Rattle.vx_wire_bytes.specs.Reading.{appended}
use Rattle.vx_wire_bytes.specs.LeftToWrite.{joined}

pub joined-nil : (ns : Wires) → joined ns no_wires ≡ ns
joined-nil no_wires = refl
joined-nil (first n ns) = ap (first n) (joined-nil ns)

pub joined-appended : (ns : Wires) (n : Wire) (ms : Wires) → joined (appended ns n) ms ≡ joined ns (first n ms)
joined-appended no_wires n ms = refl
joined-appended (first m ns) n ms = ap (first m) (joined-appended ns n ms)

pub joined-one : (ns : Wires) (n : Wire) → joined ns (first n no_wires) ≡ appended ns n
joined-one no_wires n = refl
joined-one (first m ns) n = ap (first m) (joined-one ns n)

pub number_of-appended : (ns : Wires) (n : Wire) → number_of (appended ns n) ≡ number_of ns + 1
number_of-appended no_wires n = refl
number_of-appended (first m ns) n = omega (arith, number_of-appended ns n)

pub number_of-none : (ns : Wires) → number_of ns ≡ 0 → ns ≡ no_wires
number_of-none no_wires e = refl
number_of-none (first m ns) e = absurd (omega arith)

pub sizes_of-appended : (ns : Wires) (n : Wire) → sizes_of (appended ns n) ≡ sizes_of ns + size_of n
sizes_of-appended no_wires n = omega arith
sizes_of-appended (first m ns) n = omega (arith, sizes_of-appended ns n)

pub nodes_bytes-appended : (ns : Wires) (n : Wire) → wires_bytes (appended ns n) ≡ wires_bytes ns ++ wire_bytes n
nodes_bytes-appended no_wires n = append-nil (wire_bytes n)
nodes_bytes-appended (first m ns) n = ap (λ b. wire_bytes m ++ b) (nodes_bytes-appended ns n) ∙ sym (append_assoc (wire_bytes m) (wires_bytes ns) (wire_bytes n))

pub AreSpellable-appended : (ns : Wires) (n : Wire) → AreSpellable ns → IsSpellable n → AreSpellable (appended ns n)
AreSpellable-appended no_wires n all one = (one, tt)
AreSpellable-appended (first m ns) n all one = (all.0, AreSpellable-appended ns n all.1 one)
