-- What the first rows by a key are, and that over honest statistics they are the first of all rows of the answer.
use Rattle.std.specs.Prelude.{ℕ, ◌≡◌, Bool, true, false, not, ◌&&◌, List, [], ◌∷◌, ◌++◌, map, length, Some}
use Rattle.std.specs.List.{filter, list_any}
use Rattle.vx_dtype.specs.Types.{Ty}
use Rattle.vx_dtype.specs.TypeRules.{is_plain, field_type}
use Rattle.vx_dtype.specs.Values.{Val}
use Rattle.vx_expr.specs.Trees.{Tree, dynamic}
use Rattle.vx_semantics.specs.Nodes.{nodes_of}
use Rattle.vx_semantics.specs.Tables.{Table, Zones, row_type, numbered_from}
use Rattle.vx_semantics.specs.Honest.{IsHonest}
use Rattle.vx_semantics.specs.Scans.{rows_of}
use Rattle.vx_laws_scan.specs.Agreeing.{all_rows_fit}
use Rattle.vx_laws_stats.specs.BuiltLaws.{AreOfType}
use Rattle.vx_laws_topk.specs.TopRows.{Keyed, TopAsk, stands_before, in_key_order, top, first_rows, bound_before, values_of, all_keyed, top_rows_of}
use Rattle.vx_laws_topk.specs.TopRows.{top_skipped}

-- the keys of rows
abbrev pub keys_of : List Keyed → List Val
keys_of rows = map (λ r. r.key) rows

-- rows whose keys are null, or of one plain type
pub record HaveKeys (t : Ty) (rows : List Keyed) : Type 0 where
  pub plain : is_plain t ≡ true
  pub fit : AreOfType t (keys_of rows)

-- whether no row stands before an earlier one
abbrev pub is_in_key_order : Bool → List Keyed → Bool
is_in_key_order descending [] = true
is_in_key_order descending (r ∷ rs) = not (list_any (λ s. stands_before descending s.key r.key) rs) && is_in_key_order descending rs

-- whether two rows are tied: neither stands before the other
abbrev pub is_tied : Bool → Keyed → Keyed → Bool
is_tied descending r s = not (stands_before descending r.key s.key) && not (stands_before descending s.key r.key)

-- the rows in order are the given ones: as many of them pass any test
abbrev pub OrderKeepsRows : Type 0
OrderKeepsRows =
    (descending : Bool) (rows : List Keyed) (test : Keyed → Bool) → length (filter test (in_key_order descending rows)) ≡ length (filter test rows)

-- no row stands before an earlier one
abbrev pub OrderIsSorted : Type 0
OrderIsSorted = (t : Ty) (descending : Bool) (rows : List Keyed) → HaveKeys t rows → is_in_key_order descending (in_key_order descending rows) ≡ true

-- rows that are tied are in their own order
abbrev pub OrderIsStable : Type 0
OrderIsStable =
    (t : Ty) (descending : Bool) (r : Keyed) (rows : List Keyed) → HaveKeys t (r ∷ rows)
    → filter (is_tied descending r) (in_key_order descending rows) ≡ filter (is_tied descending r) rows

-- of rows and further rows the first are the first of the first and of the further rows
abbrev pub TopOfTop : Type 0
TopOfTop =
    (t : Ty) (descending : Bool) (count : ℕ) (rows more : List Keyed) → HaveKeys t (rows ++ more)
    → top descending count (top descending count rows ++ more) ≡ top descending count (rows ++ more)

-- of further rows only those whose keys stand before the bound can be among the first
abbrev pub BoundLosesNone : Type 0
BoundLosesNone =
    (ask : TopAsk) (bound : Val) (found more : List Keyed) → HaveKeys ask.key_type (found ++ more) → bound_before ask found ≡ Some bound
    → first_rows ask (found ++ filter (λ r. stands_before ask.descending r.key bound) more) ≡ first_rows ask (found ++ more)

-- whether a node is a comparison with a slot, and whether no node of an expression is
abbrev pub is_slot_comparison : Tree → Bool
is_slot_comparison (dynamic e op k t default) = true
is_slot_comparison _ = false

abbrev pub has_no_slot : Tree → Bool
has_no_slot e = not (list_any is_slot_comparison (nodes_of e))

-- what is asked of a table: the key is a column of a plain type, and neither filter nor projection compares with a slot
pub record IsAskedOf (table : Table) (ask : TopAsk) : Type 0 where
  pub column : field_type ask.key table.columns ≡ Some ask.key_type
  pub plain : is_plain ask.key_type ≡ true
  pub filter_slots : has_no_slot ask.filter_expr ≡ true
  pub projection_slots : has_no_slot ask.projection ≡ true

-- over honest statistics of a table whose rows are values of its type, the rows of the answer are the first of all matching rows
abbrev pub TopIsOfAllRows : Type 0
TopIsOfAllRows =
    (ask : TopAsk) (table : Table) (zones : Zones)
    → IsAskedOf table ask → all_rows_fit (row_type table.columns) table.blocks ≡ true → IsHonest zones table
    → top_rows_of ask table zones ≡ values_of (first_rows ask (all_keyed ask table))

-- these, without their keys, are all rows of the answer
abbrev pub AllKeyedAreRows : Type 0
AllKeyedAreRows = (ask : TopAsk) (table : Table) → values_of (all_keyed ask table) ≡ rows_of table [] ask.filter_expr ask.projection

-- where no row is asked all blocks are skipped, and there is no row
abbrev pub CountOfNone : Type 0
CountOfNone =
    (ask : TopAsk) (table : Table) (zones : Zones) → ask.count ≡ 0
    → (top_rows_of ask table zones ≡ []) × (top_skipped ask table zones ≡ map (λ b. b.0) (numbered_from 0 table.blocks))
