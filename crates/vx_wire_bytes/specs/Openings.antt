-- Openings: prefixes of a wire text that end just before a node, and the two limits that they meet.
use Rattle.std.specs.Prelude.{◌≡◌, ℕ, ◌+◌, ◌<◌, ◌≤◌, List, [], ◌∷◌, ◌++◌, length}
use Rattle.std.specs.List.{AllByRecursion}
use Rattle.vx_dtype.specs.Types.{Bytes}
use Rattle.vx_wire_bytes.specs.Wires.{Wires, number_of, sizes_of, wires_bytes, AreSpellable, Head, head_bytes, IsHead}

-- a node that is open: its head, and the children of it that stand whole
pub record Open : Type 0 where
  pub head : Head
  pub whole : Wires

-- more children than those that stand whole are to come, and all that stands has a spelling
pub record IsOpen (o : Open) : Type 0 where
  pub head : IsHead o.head
  pub whole : AreSpellable o.whole
  pub more : number_of o.whole < o.head.children

-- what is written of an open node: its head, and its whole children
abbrev pub open_bytes : Open → Bytes
open_bytes o = head_bytes o.head ++ wires_bytes o.whole

-- what is written of nodes that are open one in the other, of which the list names the innermost first
abbrev pub opening_bytes : List Open → Bytes
opening_bytes [] = []
opening_bytes (inner ∷ outer) = opening_bytes outer ++ open_bytes inner

-- how many nodes are begun there: the open ones, and those in their whole children
abbrev pub begun : List Open → ℕ
begun [] = 0
begun (inner ∷ outer) = begun outer + (1 + sizes_of inner.whole)

-- the bytes are an opening: so many nodes are open at their end, and so many are begun in them
pub record Opening (bytes : Bytes) (depth count : ℕ) : Type 0 where
  pub nodes : List Open
  pub each : AllByRecursion IsOpen nodes
  pub written : bytes ≡ opening_bytes nodes
  pub depth_is : depth ≡ length nodes
  pub count_is : count ≡ begun nodes

-- the most nodes that may be open, and the most that a text may have
abbrev pub most_open : ℕ
most_open = 256

abbrev pub most_nodes : ℕ
most_nodes = 4096

-- an opening of depth 256 is a prefix of the bytes, and none with 4,096 nodes before it is a shorter prefix or the same one
pub record IsTooDeep (bytes : Bytes) : Type 0 where
  pub prefix : Bytes
  pub rest : Bytes
  pub count : ℕ
  pub bytes_are : bytes ≡ prefix ++ rest
  pub deep : Opening prefix most_open count
  pub first : (other after : Bytes) (depth : ℕ) → bytes ≡ other ++ after → Opening other depth most_nodes → length prefix < length other

-- an opening with 4,096 nodes before it is a prefix of the bytes, and none of depth 256 is a shorter prefix
pub record IsTooMany (bytes : Bytes) : Type 0 where
  pub prefix : Bytes
  pub rest : Bytes
  pub depth : ℕ
  pub bytes_are : bytes ≡ prefix ++ rest
  pub many : Opening prefix depth most_nodes
  pub first : (other after : Bytes) (count : ℕ) → bytes ≡ other ++ after → Opening other most_open count → length prefix ≤ length other
