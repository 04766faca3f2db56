-- For the checker: no public clause cites this.
-- The order of the rows that are held: by their keys in the direction of the order, null last, and rows of one key by their places.
use Rattle.std.specs.Prelude.{ℕ, ℤ, pos, Bool, true, false, cond, List, [], Option, Some, None}
use Rattle.std.specs.declared.cmp.Ordering.{Ordering}
use Rattle.std.specs.Ordering.{nat_cmp, int_cmp, bool_cmp, ordering_then}
use Rattle.std.specs.Cmp.Lexicographic.{slice_cmp}
use Rattle.vx_dtype.specs.Types.{Ty}
use Rattle.vx_dtype.specs.Values.{Raw, raw_null, raw_bool, raw_int, raw_text, Typed}
use Rattle.vx_topk.specs.declared.row_keys.SortKey.{SortKey}
use Rattle.vx_topk.specs.declared.row_keys.SortKey.TheVariants as keys
use Rattle.vx_topk.specs.declared.row_keys.RowPlace.{RowPlace}
use Rattle.vx_topk.specs.declared.row_keys.RowKey.{RowKey}

-- the raw value of a key
abbrev pub key_raw : SortKey → Raw
key_raw keys.Null = raw_null
key_raw (keys.Truth b) = raw_bool b
key_raw (keys.Number i) = raw_int i
key_raw (keys.Text s) = raw_text s

-- the key beside its type, none where it is null
abbrev pub known_key : Ty → SortKey → Option Typed
known_key t keys.Null = None
known_key t (keys.Truth b) = Some (record { ty = t; value = raw_bool b })
known_key t (keys.Number i) = Some (record { ty = t; value = raw_int i })
known_key t (keys.Text s) = Some (record { ty = t; value = raw_text s })

-- the number of a key's kind; null has the greatest, so that it stands last
abbrev pub key_kind : SortKey → ℕ
key_kind (keys.Truth b) = 0
key_kind (keys.Number i) = 1
key_kind (keys.Text s) = 2
key_kind keys.Null = 3

-- a key's truth, number and text, and what stands for it in a key of another kind
abbrev pub key_truth : SortKey → Bool
key_truth (keys.Truth b) = b
key_truth _ = false

abbrev pub key_number : SortKey → ℤ
key_number (keys.Number i) = i
key_number _ = pos 0

abbrev pub key_text : SortKey → List ℕ
key_text (keys.Text s) = s
key_text _ = []

-- how two keys of one kind stand, in ascending order
abbrev pub kin_cmp : SortKey → SortKey → Ordering
kin_cmp a b =
    ordering_then (bool_cmp (key_truth a) (key_truth b))
    (ordering_then (int_cmp (key_number a) (key_number b)) (slice_cmp nat_cmp (key_text a) (key_text b)))

-- the same in a direction
abbrev pub directed_cmp : Bool → SortKey → SortKey → Ordering
directed_cmp true a b = kin_cmp b a
directed_cmp false a b = kin_cmp a b

-- the key of a row whose order ascends, and of one whose order descends; null stands for the other
abbrev pub rising : RowKey → SortKey
rising k = cond k.descending keys.Null k.key

abbrev pub falling : RowKey → SortKey
falling k = cond k.descending k.key keys.Null

-- how two places stand: by their blocks, and in one block by their rows
abbrev pub place_cmp : RowPlace → RowPlace → Ordering
place_cmp a b = ordering_then (nat_cmp a.block b.block) (nat_cmp a.row b.row)

-- how two rows stand
abbrev pub row_cmp : RowKey → RowKey → Ordering
row_cmp a b =
    ordering_then (bool_cmp a.descending b.descending)
    (ordering_then (nat_cmp (key_kind a.key) (key_kind b.key))
    (ordering_then (kin_cmp (rising a) (rising b)) (ordering_then (kin_cmp (falling b) (falling a)) (place_cmp a.place b.place))))
