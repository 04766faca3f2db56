-- The wire form of trees: what a wire tree is, node by node, and the bytes that spell it.
use Rattle.std.specs.Prelude.{◌≡◌, ℕ, ◌+◌, true, [], ◌++◌}
use Rattle.std.specs.Str.{is_utf8}
use Rattle.vx_dtype.specs.Types.{Bytes}
use Rattle.vx_wire_bytes.specs.Numbers.{number_bytes, piece_bytes}
use Rattle.vx_wire_bytes.specs.Fields.{IsNumber, IsShort}

mutual
  -- a wire tree, or a node of one: its id, its metadata, its children
  pub data Wire : Type 0 where
    node : Bytes → Bytes → Wires → Wire

  -- a list of nodes
  pub data Wires : Type 0 where
    no_wires : Wires
    first : Wire → Wires → Wires

-- how many nodes stand in a list
abbrev pub number_of : Wires → ℕ
number_of no_wires = 0
number_of (first n ns) = 1 + number_of ns

abbrev mutual
  -- how many nodes a node has in all, itself among them
  pub size_of : Wire → ℕ
  size_of (node id metadata children) = 1 + sizes_of children

  -- how many nodes those of a list have in all
  pub sizes_of : Wires → ℕ
  sizes_of no_wires = 0
  sizes_of (first n ns) = size_of n + sizes_of ns

-- the head of a node: its id, its metadata, how many children it has
pub record Head : Type 0 where
  pub id : Bytes
  pub metadata : Bytes
  pub children : ℕ

-- the text of the id, the metadata with its length, and the number of children
abbrev pub head_bytes : Head → Bytes
head_bytes h = piece_bytes h.id ++ (piece_bytes h.metadata ++ number_bytes h.children)

-- what has a spelling as a head: the id is UTF-8, and each length has a spelling
pub record IsHead (h : Head) : Type 0 where
  pub text : is_utf8 h.id ≡ true
  pub id : IsShort h.id
  pub metadata : IsShort h.metadata
  pub children : IsNumber h.children

-- the head of a node with these children
abbrev pub head_of : Bytes → Bytes → Wires → Head
head_of id metadata children = record { id = id; metadata = metadata; children = number_of children }

-- the head of a node
abbrev pub head_of_tree : Wire → Head
head_of_tree (node id metadata children) = head_of id metadata children

abbrev mutual
  -- the bytes of a node: its head, and its children one after the other
  pub wire_bytes : Wire → Bytes
  wire_bytes (node id metadata children) = head_bytes (head_of id metadata children) ++ wires_bytes children

  -- the bytes of a list of nodes
  pub wires_bytes : Wires → Bytes
  wires_bytes no_wires = []
  wires_bytes (first n ns) = wire_bytes n ++ wires_bytes ns

abbrev mutual
  -- what has a spelling: each head in the tree has one
  pub IsSpellable : Wire → Type 0
  IsSpellable (node id metadata children) = IsHead (head_of id metadata children) × AreSpellable children

  pub AreSpellable : Wires → Type 0
  AreSpellable no_wires = Unit {0}
  AreSpellable (first n ns) = IsSpellable n × AreSpellable ns

-- the bytes are exactly one node, with nothing after it, and the tree is that node
pub record Spells (bytes : Bytes) (tree : Wire) : Type 0 where
  pub spellable : IsSpellable tree
  pub spelled : bytes ≡ wire_bytes tree

-- the length of each id, of each metadata and of each list of children has a spelling
abbrev mutual
  pub HasShortParts : Wire → Type 0
  HasShortParts (node id metadata children) = IsShort id × IsShort metadata × IsNumber (number_of children) × HaveShortParts children

  pub HaveShortParts : Wires → Type 0
  HaveShortParts no_wires = Unit {0}
  HaveShortParts (first n ns) = HasShortParts n × HaveShortParts ns
