-- The first rows of a table by a key, over blocks that are skipped under a bound which tightens.
use Rattle.std.specs.Prelude.{ℕ, Bool, true, false, cond, ◌||◌, nat_eq, nat_le, List, [], ◌∷◌, ◌++◌, map, length, take, Option, Some, None}
use Rattle.std.specs.List.{flat_map}
use Rattle.vx_dtype.specs.declared.CompareOperator.{CompareOperator}
use Rattle.vx_dtype.specs.Types.{Bytes, Ty}
use Rattle.vx_dtype.specs.Values.{Val, null_val}
use Rattle.vx_dtype.specs.Order.{compares}
use Rattle.vx_dtype.specs.Structs.{field_of}
use Rattle.vx_expr.specs.declared.Operator.{Operator}
use Rattle.vx_expr.specs.Trees.{Tree, root, get_item, binary, dynamic}
use Rattle.vx_semantics.specs.Meaning.{Slots, mean}
use Rattle.vx_semantics.specs.Tables.{Table, Zones, row_type, numbered_from}
use Rattle.vx_semantics.specs.Pruning.{known, rules_out}
use Rattle.vx_semantics.specs.Scans.{matching_rows}
use Rattle.vx_laws_stats.specs.BuiltStatistics.{raw_of}

-- a row that a scan gives: its key, and what the projection means there
pub record Keyed : Type 0 where
  pub key : Val
  pub value : Val

-- the comparison by which one key stands before another: the greatest key is first where the order descends, else the least
abbrev pub key_operator : Bool → CompareOperator
key_operator true = CompareOperator.Gt
key_operator false = CompareOperator.Lt

-- whether a key stands before another: none before its equal, and null behind all others
abbrev pub stands_before : Bool → Val → Val → Bool
stands_before descending null_val w = false
stands_before descending v null_val = true
stands_before descending v w = compares (key_operator descending) v w

-- a row put before the first of ordered rows that doesn't stand before it: it came before them all, so it goes before those of its own key
abbrev pub put_in_key_order : Bool → Keyed → List Keyed → List Keyed
put_in_key_order descending r [] = r ∷ []
put_in_key_order descending r (s ∷ ss) = cond (stands_before descending s.key r.key) (s ∷ put_in_key_order descending r ss) (r ∷ s ∷ ss)

-- rows in the order of their keys, those of one key in their own order
abbrev pub in_key_order : Bool → List Keyed → List Keyed
in_key_order descending [] = []
in_key_order descending (r ∷ rs) = put_in_key_order descending r (in_key_order descending rs)

-- the first of them, so many
abbrev pub top : Bool → ℕ → List Keyed → List Keyed
top descending count rows = take count (in_key_order descending rows)

-- what is asked: the rows at which the filter means true, what the projection means there, the column that is the key and its type, the direction of its
-- order, and how many rows
pub record TopAsk : Type 0 where
  pub filter_expr : Tree
  pub projection : Tree
  pub key : Bytes
  pub key_type : Ty
  pub descending : Bool
  pub count : ℕ

-- the first rows that are asked, of these
abbrev pub first_rows : TopAsk → List Keyed → List Keyed
first_rows ask rows = top ask.descending ask.count rows

-- the key of the last row, where there is one and its key isn't null
abbrev pub known_last : List Keyed → Option Val
known_last [] = None
known_last (r ∷ []) = known r.key
known_last (r ∷ s ∷ rs) = known_last (s ∷ rs)

-- the key before which a further row has to stand, to be among the first rows that are asked: that of the last of these, where as many were found and it
-- isn't null
abbrev pub bound_before : TopAsk → List Keyed → Option Val
bound_before ask found = cond (nat_le ask.count (length found)) (known_last (first_rows ask found)) None

-- the filter, and that the key stands before the value of the first slot, which is true where the slot has none
abbrev pub bounded_filter : TopAsk → Tree
bounded_filter ask =
    binary ask.filter_expr Operator.And (dynamic (get_item ask.key root) (key_operator ask.descending) 0 ask.key_type true)

-- the slots with this bound
abbrev pub bound_slots : TopAsk → Option Val → Slots
bound_slots ask None = None ∷ []
bound_slots ask (Some bound) = Some (record { ty = ask.key_type; value = raw_of bound }) ∷ []

-- whether a block is skipped behind the rows that were found: where no row is asked, or the bounded filter rules the block out
abbrev pub top_skips : TopAsk → Zones → List Keyed → ℕ → Bool
top_skips ask zones found block = nat_eq ask.count 0 || rules_out zones (bound_slots ask (bound_before ask found)) block (bounded_filter ask)

-- a row of the table with its key
abbrev pub keyed : TopAsk → Ty → Slots → Val → Keyed
keyed ask t slots row = record { key = field_of ask.key row; value = mean t slots row ask.projection }

-- the rows of a block at which a filter means true, each with its key
abbrev pub block_keyed : TopAsk → Ty → Slots → Tree → List Val → List Keyed
block_keyed ask t slots filter_expr rows = map (keyed ask t slots) (matching_rows t slots filter_expr rows)

-- the rows found behind a block: those before, and where the block isn't skipped those at which the bounded filter means true
abbrev pub found_with : TopAsk → Ty → Zones → List Keyed → ℕ × List Val → List Keyed
found_with ask t zones found b =
    cond (top_skips ask zones found b.0) found (found ++ block_keyed ask t (bound_slots ask (bound_before ask found)) (bounded_filter ask) b.1)

-- the rows found behind blocks, each block with its number
abbrev pub found_over : TopAsk → Ty → Zones → List Keyed → List (ℕ × List Val) → List Keyed
found_over ask t zones found [] = found
found_over ask t zones found (b ∷ bs) = found_over ask t zones (found_with ask t zones found b) bs

-- the numbers of the blocks that are skipped, in order
abbrev pub skipped_over : TopAsk → Ty → Zones → List Keyed → List (ℕ × List Val) → List ℕ
skipped_over ask t zones found [] = []
skipped_over ask t zones found (b ∷ bs) =
    cond (top_skips ask zones found b.0) (b.0 ∷ skipped_over ask t zones (found_with ask t zones found b) bs)
    (skipped_over ask t zones (found_with ask t zones found b) bs)

-- the values of rows
abbrev pub values_of : List Keyed → List Val
values_of rows = map (λ r. r.value) rows

-- the rows of the answer over the blocks that are kept, and the numbers of the skipped ones
abbrev pub top_rows_of : TopAsk → Table → Zones → List Val
top_rows_of ask table zones = values_of (first_rows ask (found_over ask (row_type table.columns) zones [] (numbered_from 0 table.blocks)))

abbrev pub top_skipped : TopAsk → Table → Zones → List ℕ
top_skipped ask table zones = skipped_over ask (row_type table.columns) zones [] (numbered_from 0 table.blocks)

-- all rows of the table at which the filter means true, each with its key
abbrev pub all_keyed : TopAsk → Table → List Keyed
all_keyed ask table = flat_map (block_keyed ask (row_type table.columns) [] ask.filter_expr) table.blocks
