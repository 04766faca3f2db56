-- Bytes that are few meet no limit of wire texts.
use Rattle.std.proofs.Common.{ap, ℕ, ◌+◌, ◌<◌, ◌≤◌, Bool, true, false, List, [], ◌∷◌, ◌++◌, length, length-append, nat_lt, ◌/◌, ◌%◌, arith}
use Rattle.std.specs.Prelude.{if◌then◌else◌}
use Rattle.vx_dtype.specs.Types.{Bytes}
use Rattle.vx_wire_bytes.specs.Numbers.{number_bytes, piece_bytes, sevens}
use Rattle.vx_wire_bytes.specs.Wires.{Wire, node, Wires, no_wires, first, size_of, sizes_of, wire_bytes, wires_bytes, Head, head_bytes, head_of}
use Rattle.vx_wire_bytes.specs.Openings.{Open, open_bytes, opening_bytes, begun, IsTooDeep, IsTooMany}

-- a number has a byte, and so has a head
number-has_byte : (n : ℕ) → 1 ≤ length (number_bytes n)
unfolding number_bytes
number-has_byte n = by (nat_lt n 128)
  where
    by : (b : Bool) → 1 ≤ length (if b then n ∷ [] else (n % 128 + 128) ∷ sevens 3 (n / 128))
    by true = omega arith
    by false = omega arith

head-has_byte : (h : Head) → 1 ≤ length (head_bytes h)
head-has_byte h =
    let number = number-has_byte h.children in
    let inner = length-append (piece_bytes h.metadata) (number_bytes h.children) in
    let outer = length-append (piece_bytes h.id) (piece_bytes h.metadata ++ number_bytes h.children) in
    omega arith

mutual
  -- a node has as many bytes as nodes, at least
  node-has_bytes : (n : Wire) → size_of n ≤ length (wire_bytes n)
  node-has_bytes (node id metadata children) =
      let head = head-has_byte (head_of id metadata children) in
      let others = nodes-have_bytes children in
      let whole = length-append (head_bytes (head_of id metadata children)) (wires_bytes children) in
      omega arith

  nodes-have_bytes : (ns : Wires) → sizes_of ns ≤ length (wires_bytes ns)
  nodes-have_bytes no_wires = omega arith
  nodes-have_bytes (first n ns) =
      let one = node-has_bytes n in
      let others = nodes-have_bytes ns in
      let whole = length-append (wire_bytes n) (wires_bytes ns) in
      omega arith

-- an opening has as many bytes as nodes that are begun, and as many of these as are open
opening-has_bytes : (nodes : List Open) → (begun nodes ≤ length (opening_bytes nodes)) × (length nodes ≤ begun nodes)
opening-has_bytes [] = (omega arith, omega arith)
opening-has_bytes (inner ∷ outer) =
    let before = opening-has_bytes outer in
    let head = head-has_byte inner.head in
    let others = nodes-have_bytes inner.whole in
    let own = length-append (head_bytes inner.head) (wires_bytes inner.whole) in
    let whole = length-append (opening_bytes outer) (open_bytes inner) in
    (omega arith, omega arith)

pub few-not_deep : (bytes : Bytes) → length bytes < 256 → ¬ (IsTooDeep bytes)
few-not_deep bytes few deep =
    let opening = deep.deep in
    let own = opening-has_bytes opening.nodes in
    let written = ap (λ (bs : Bytes). length bs) opening.written in
    let all = ap (λ (bs : Bytes). length bs) deep.bytes_are in
    let parts = length-append deep.prefix deep.rest in
    let depth = opening.depth_is in
    absurd (omega arith)

pub few-not_many : (bytes : Bytes) → length bytes < 256 → ¬ (IsTooMany bytes)
few-not_many bytes few many =
    let opening = many.many in
    let own = opening-has_bytes opening.nodes in
    let written = ap (λ (bs : Bytes). length bs) opening.written in
    let all = ap (λ (bs : Bytes). length bs) many.bytes_are in
    let parts = length-append many.prefix many.rest in
    let count = opening.count_is in
    absurd (omega arith)
