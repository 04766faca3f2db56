-- For the checker: no public clause cites this.
-- What is held of the rows that were found: the first of them, in order.
use Rattle.std.specs.Prelude.{◌≡◌, ℕ, ◌+◌, Bool, true, List, ◌++◌, map, take}
use Rattle.std.specs.List.{AllByRecursion}
use Rattle.std.specs.declared.cmp.Ordering.TheVariants.{Less, Greater}
use Rattle.vx_dtype.specs.Types.{Ty}
use Rattle.vx_dtype.specs.TypeRules.{is_plain}
use Rattle.vx_dtype.specs.Values.{Val, valued}
use Rattle.vx_dtype.specs.Fits.{fits}
use Rattle.vx_dtype.specs.RawViews.{raw_view}
use Rattle.vx_dtype.specs.declared.values.ScalarValue.{ScalarValue}
use Rattle.vx_laws_stats.proofs.Extremes.{is_of}
use Rattle.vx_laws_topk.specs.TopRows.{Keyed, TopAsk, top}
use Rattle.vx_laws_topk.specs.BoundLaws.{keyed_type, unpacked}
use Rattle.vx_column.specs.Columns.{seen_rows, values_fit}
use Rattle.vx_topk.specs.RowKeys.{key_raw, place_cmp, row_cmp}
use Rattle.vx_topk.specs.declared.row_keys.SortKey.{SortKey}
use Rattle.vx_topk.specs.declared.row_keys.RowPlace.{RowPlace}
use Rattle.vx_topk.specs.declared.row_keys.RowKey.{RowKey}
use Rattle.vx_topk.specs.declared.first_rows.FirstRows.{FirstRows}

-- a held row: its key and place, and its value
abbrev pub Entry : Type 0
Entry = RowKey × ScalarValue

-- the row that a held one stands for, at the types of key and value
abbrev pub keyed_entry : Ty → Ty → Entry → Keyed
keyed_entry k v e = record { key = valued (key_raw e.0.key) k; value = valued (raw_view e.1) v }

-- a held row is of the direction, its key and value are of their types, and it was found before a place
pub record IsHeld (k v : Ty) (descending : Bool) (next : RowPlace) (e : Entry) : Type 0 where
  pub direction : e.0.descending ≡ descending
  pub key : fits (key_raw e.0.key) k ≡ true
  pub value : fits (raw_view e.1) v ≡ true
  pub earlier : place_cmp e.0.place next ≡ Less

-- the held rows are the first of those that were found before a place, whose keys are null or of the plain key type
pub record HoldFirst (k v : Ty) (found : List Keyed) (next : RowPlace) (first : FirstRows) : Type 0 where
  pub plain : is_plain k ≡ true
  pub keys : AllByRecursion (λ r. is_of k r.key ≡ true) found
  pub held : AllByRecursion (IsHeld k v first.descending next) first.rows.entries
  pub rows : map (keyed_entry k v) first.rows.entries ≡ top first.descending first.count found

-- the place behind another in its block, and the first of a block
abbrev pub behind : RowPlace → RowPlace
behind p = record { block = p.block; row = p.row + 1 }

abbrev pub start_of : ℕ → RowPlace
start_of block = record { block = block; row = 0 }

-- what is asked of first rows stays
abbrev pub AsksTheSame : FirstRows → FirstRows → Type 0
AsksTheSame before after = (after.count ≡ before.count) × (after.descending ≡ before.descending)

-- so many rows are asked, in this direction, by a key of this type
pub record IsAskedBy (ask : TopAsk) (k : Ty) (first : FirstRows) : Type 0 where
  pub ty : ask.key_type ≡ k
  pub count : ask.count ≡ first.count
  pub descending : ask.descending ≡ first.descending

-- a row is behind all held ones
abbrev pub IsBehindAll : RowKey → List Entry → Type 0
IsBehindAll row es = AllByRecursion (λ e. row_cmp row e.0 ≡ Greater) es

-- a key and a value are of their types, and are those of a packed row
pub record ArePartsOf (k v : Ty) (row : Val) (parts : SortKey × ScalarValue) : Type 0 where
  pub key : fits (key_raw parts.0) k ≡ true
  pub value : fits (raw_view parts.1) v ≡ true
  pub row_is : unpacked row ≡ record { key = valued (key_raw parts.0) k; value = valued (raw_view parts.1) v }

-- the rows of a block up to a place are put in
pub record ArePutIn (before after : FirstRows) (block row : ℕ) (rows : List ScalarValue) : Type 0 where
  pub same : AsksTheSame before after
  pub holds : (k v : Ty) (found : List Keyed) → HoldFirst k v found (start_of block) before → values_fit (keyed_type k v) rows ≡ true
      → HoldFirst k v (found ++ map unpacked (seen_rows (keyed_type k v) (take row rows))) (record { block = block; row = row }) after
