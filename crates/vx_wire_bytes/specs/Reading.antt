-- For the checker: no public clause cites this.
-- Reading from left to right: fields, heads, and the places between nodes.
use Rattle.std.specs.Prelude.{ℕ, zero, suc, ◌+◌, ◌*◌, ◌-◌, List, [], ◌∷◌, length, take, drop, Option, Some, None, nat_lt, ◌==◌, if◌then◌else◌}
use Rattle.std.specs.Str.{is_utf8}
use Rattle.vx_dtype.specs.Types.{Bytes}
use Rattle.vx_wire_bytes.specs.Wires.{Wire, node, Wires, no_wires, first, number_of, Head}
use Rattle.vx_wire_bytes.specs.Openings.{Open}

-- the step after a field that was read, none where there was none
infixl 10 ◌>>=◌
abbrev pub ◌>>=◌ : {A B : Type 0} → Option A → (A → Option B) → Option B
(Some x) >>= f = f x
None >>= f = None

-- the value of a first byte and of the rest of a number, which is not 0
abbrev pub with_low : ℕ → ℕ × Bytes → Option (ℕ × Bytes)
with_low low high = if high.0 == 0 then None else Some (low + 128 * high.0, high.1)

-- A number at the front of bytes, and the bytes after it. So many bytes at most follow the first.
unfoldable pub sevens_at : ℕ → Bytes → Option (ℕ × Bytes)
sevens_at more [] = None
sevens_at zero (b ∷ bytes) = if nat_lt b 16 then Some (b, bytes) else None
sevens_at (suc more) (b ∷ bytes) = if nat_lt b 128 then Some (b, bytes) else (sevens_at more bytes >>= with_low (b - 128))

unfoldable pub number_at : Bytes → Option (ℕ × Bytes)
number_at bytes = sevens_at 4 bytes

-- so many bytes of the front, and the rest
abbrev pub split_bytes : ℕ × Bytes → Option (Bytes × Bytes)
split_bytes n = if nat_lt (length n.1) n.0 then None else Some (take n.0 n.1, drop n.0 n.1)

-- bytes behind their length
unfoldable pub piece_at : Bytes → Option (Bytes × Bytes)
piece_at bytes = number_at bytes >>= split_bytes

abbrev pub checked_text : Bytes × Bytes → Option (Bytes × Bytes)
checked_text piece = if is_utf8 piece.0 then Some piece else None

-- bytes behind their length that are UTF-8
unfoldable pub text_at : Bytes → Option (Bytes × Bytes)
text_at bytes = piece_at bytes >>= checked_text

unfoldable pub head_at : Bytes → Option (Head × Bytes)
head_at bytes = do
  id ← text_at bytes
  metadata ← piece_at id.1
  children ← number_at metadata.1
  Some (record { id = id.0; metadata = metadata.0; children = children.0 }, children.1)

-- the list with a node at its end
abbrev pub appended : Wires → Wire → Wires
appended no_wires n = first n no_wires
appended (first m ns) n = first m (appended ns n)

-- what a node that has become whole leaves: nodes that are still open, or the whole tree
pub data Closed : Type 0 where
  still_open : List Open → Closed
  all_whole : Wire → Closed

-- an open node with so many whole children is still open, or is whole itself
abbrev pub settled : Head → Wires → List Open → Closed → Closed
settled h whole outer closed_outer = if nat_lt (number_of whole) h.children then still_open (record { head = h; whole = whole } ∷ outer) else closed_outer

-- the innermost open node gets a whole child, and becomes one in turn where that was the last
unfoldable pub closed : List Open → Wire → Closed
closed [] n = all_whole n
closed (inner ∷ outer) n =
    let whole = appended inner.whole n in
    settled inner.head whole outer (closed outer (node inner.head.id inner.head.metadata whole))

-- a place in the bytes: before a node, with the nodes that are open and the bytes to come; behind the whole tree; or where no head can be read
pub data Place : Type 0 where
  before : List Open → Bytes → Place
  behind : Wire → Bytes → Place
  nowhere : Place

abbrev pub place_of : Closed → Bytes → Place
place_of (still_open nodes) rest = before nodes rest
place_of (all_whole tree) rest = behind tree rest

-- what a head that was read begins: a node that is open, or one that is whole at once
abbrev pub begins : List Open → Head → Closed
begins nodes h = if h.children == 0 then closed nodes (node h.id h.metadata no_wires) else still_open (record { head = h; whole = no_wires } ∷ nodes)

abbrev pub place_after : List Open → Option (Head × Bytes) → Place
place_after nodes None = nowhere
place_after nodes (Some h) = place_of (begins nodes h.0) h.1

-- the place after one more node was begun
abbrev pub next : Place → Place
next (before nodes rest) = place_after nodes (head_at rest)
next (behind tree rest) = nowhere
next nowhere = nowhere

-- the place after so many nodes were begun
unfoldable pub place : ℕ → Bytes → Place
place zero bytes = before [] bytes
place (suc n) bytes = next (place n bytes)
