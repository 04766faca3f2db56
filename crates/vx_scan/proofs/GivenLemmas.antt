-- What expressions give over the columns of a block, and at the rows at which its filter is true.
use Rattle.std.proofs.Common.{◌≡◌, refl, ap, ◌∙◌, sym, ℕ, true, Option, Some, None, List, ◌++◌, map, length, Result, Ok, Err, subst}
use Rattle.std.specs.List.{slice_get}
use Rattle.vx_dtype.specs.TypeRules.{no_name_twice}
use Rattle.vx_dtype.specs.Types.{Bytes, Fields}
use Rattle.vx_dtype.specs.Values.{Val}
use Rattle.vx_column.specs.Columns.{Column, kept_rows}
use Rattle.vx_column.specs.declared.columns.ColumnRef.{ColumnRef}
use Rattle.vx_expr.specs.Trees.{Tree}
use Rattle.vx_semantics.specs.Meaning.{Slots, mean}
use Rattle.vx_semantics.specs.Scans.{matching_rows, block_rows}
use Rattle.vx_semantics.specs.Tables.{Table, Zones, row_type}
use Rattle.vx_prepare.specs.Preparing.{IsPrepared, AreOf, HaveColumns}
use Rattle.vx_prepare.specs.declared.prepared.PreparedExpr.{PreparedExpr}
use Rattle.vx_scan.specs.Stores.{StoreSeen, WhereTold, AgreesWith, IsSameStore}
use Rattle.vx_scan.specs.Steps.{AreColumnsOf, kept_column, GivesAsked, AreTruths, AddsToldRows, IsFiltered}
use Rattle.vx_scan.specs.declared.errors.ScanError.{ScanError}
use Rattle.vx_scan.specs.declared.filtering.FilteredBlock.{FilteredBlock}
use Rattle.vx_scan.proofs.ColumnLemmas.{IsBlock, block_is, block_columns, columns_are, kept_are, matching_columns, columns_moved, some_same}
use Rattle.vx_scan.proofs.PartLemmas.{BlockTold, GivesTold}

-- what follows of a table that is told
told_is : (held : Option Table) (P Q : Table → Type 0) → ((table : Table) → held ≡ Some table → P table → Q table) → WhereTold held P → WhereTold held Q
told_is None P Q h k = tt
told_is (Some table) P Q h k = h table refl k

pub block_told : (a : StoreSeen) (block len : ℕ) → WhereTold a.held (AgreesWith a.zones) → slice_get a.zones.lengths block ≡ Some len → BlockTold a block len
block_told a block len agrees e = told_is a.held (AgreesWith a.zones) (IsBlock a.zones block len) (λ table same agree. block_is a.zones block len table agree e) agrees

-- what an expression that is evaluated over columns gives at the rows that have them
abbrev pub GivesWhereHeld : Slots → PreparedExpr → ℕ → List Column → Result ColumnRef ScanError → Type 0
GivesWhereHeld slots expr len cs result = (fs : Fields) (e : Tree) → IsPrepared fs slots e expr → no_name_twice (row_type fs) ≡ true
    → AreOf fs len expr.columns cs → (rows : List Val) → HaveColumns fs len expr.columns cs rows → GivesAsked (row_type fs) slots e rows result

pub gives_whole : (a : StoreSeen) (slots : Slots) (e : Tree) (expr : PreparedExpr) (block len : ℕ) (cs : List Column) (result : Result ColumnRef ScanError) → slice_get a.zones.lengths block ≡ Some len → BlockTold a block len
    → AreColumnsOf a block expr.columns cs → IsPrepared a.zones.columns slots e expr → no_name_twice (row_type a.zones.columns) ≡ true → GivesWhereHeld slots expr len cs result
    → GivesTold slots e block (λ rows. rows) a result
gives_whole a slots e expr block len cs result at told columns prepared distinct gives =
    told_is a.held (IsBlock a.zones block len) (λ table. (rows : List Val) × (slice_get table.blocks block ≡ Some rows) × GivesAsked (row_type a.zones.columns) slots e rows result)
    (λ table same is. (is.rows, is.there, gives a.zones.columns e prepared distinct (columns_are a block len expr.columns cs at columns) is.rows (block_columns a table block len expr.columns cs is same columns)))
    told

-- the truths of a filter that was evaluated
pub truths_of : (a : StoreSeen) (slots : Slots) (f : Tree) (block : ℕ) (c : ColumnRef) → GivesTold slots f block (λ rows. rows) a (Ok c) → WhereTold a.held (AreTruths (row_type a.zones.columns) slots f block c.rows)
truths_of a slots f block c h =
    told_is a.held (λ table. (rows : List Val) × (slice_get table.blocks block ≡ Some rows) × GivesAsked (row_type a.zones.columns) slots f rows (Ok c)) (AreTruths (row_type a.zones.columns) slots f block c.rows)
    (λ table same k. (k.0, k.1, k.2.0)) h

-- the same at the rows at which the filter is true
both_told : (held : Option Table) (P Q : Table → Type 0) → WhereTold held P → WhereTold held Q → WhereTold held (λ table. P table × Q table)
both_told None P Q h k = tt
both_told (Some table) P Q h k = (h, k)

pub gives_matching : (a : StoreSeen) (slots : Slots) (f e : Tree) (expr : PreparedExpr) (block : ℕ) (cs : List Column) (keep : List Val) (result : Result ColumnRef ScanError) → slice_get a.zones.lengths block ≡ Some (length keep) → BlockTold a block (length keep)
    → AreColumnsOf a block expr.columns cs → IsPrepared a.zones.columns slots e expr → no_name_twice (row_type a.zones.columns) ≡ true → WhereTold a.held (AreTruths (row_type a.zones.columns) slots f block keep)
    → GivesWhereHeld slots expr (length (kept_rows keep keep)) (map (kept_column keep) cs) result → GivesTold slots e block (matching_rows (row_type a.zones.columns) slots f) a result
gives_matching a slots f e expr block cs keep result at told columns prepared distinct truths gives =
    let t = row_type a.zones.columns in
    told_is a.held (λ table. IsBlock a.zones block (length keep) table × AreTruths t slots f block keep table)
    (λ table. (rows : List Val) × (slice_get table.blocks block ≡ Some rows) × GivesAsked t slots e (matching_rows t slots f rows) result)
    (λ table same k.
    let rows = k.0.rows in
    let own : k.1.0 ≡ rows = some_same (sym k.1.1 ∙ k.0.there) in
    let here : keep ≡ map (λ row. mean t slots row f) rows = k.1.2 ∙ ap (map (λ row. mean t slots row f)) own in
    let whole = block_columns a table block (length keep) expr.columns cs k.0 same columns in
    (rows, k.0.there, gives a.zones.columns e prepared distinct (kept_are a block expr.columns cs keep at columns) (matching_rows t slots f rows) (matching_columns a slots f expr.columns cs rows keep (length keep) whole here)))
    (both_told a.held (IsBlock a.zones block (length keep)) (AreTruths t slots f block keep) told truths)

-- the rows that a projection gives stand behind those before
pub rows_added : (a : StoreSeen) (slots : Slots) (f p : Tree) (block : ℕ) (was now : List Val) (c : ColumnRef) → GivesTold slots p block (matching_rows (row_type a.zones.columns) slots f) a (Ok c)
    → now ≡ was ++ c.rows → WhereTold a.held (AddsToldRows (block_rows (row_type a.zones.columns) slots f p) block was now (Ok tt))
rows_added a slots f p block was now c h e =
    let t = row_type a.zones.columns in
    told_is a.held (λ table. (rows : List Val) × (slice_get table.blocks block ≡ Some rows) × GivesAsked t slots p (matching_rows t slots f rows) (Ok c)) (AddsToldRows (block_rows t slots f p) block was now (Ok tt))
    (λ table same k. (k.0, k.1, e ∙ ap (λ (rs : List Val). was ++ rs) k.2.0)) h

pub nothing_added : (a : StoreSeen) (given : List Val → List Val) (block : ℕ) (was now : List Val) (e : ScanError) → WhereTold a.held (AddsToldRows given block was now (Err e))
nothing_added a given block was now e = anywhere a.held
  where
    anywhere : (held : Option Table) → WhereTold held (AddsToldRows given block was now (Err e))
    anywhere None = tt
    anywhere (Some table) = tt

-- a filtered block is one in each state of the store
pub filtered_moved : (a b : StoreSeen) (slots : Slots) (f : Tree) (names : List Bytes) (block : ℕ) (filtered : FilteredBlock) → IsSameStore a b → IsFiltered slots f names block a filtered → IsFiltered slots f names block b filtered
filtered_moved a b slots f names block filtered s h = record {
  columns = columns_moved a b block names filtered.columns.items s.zones s.held h.columns;
  len = subst (λ (z : Zones). slice_get z.lengths block ≡ Some (length filtered.keep.rows)) (sym s.zones) h.len;
  boolean = h.boolean;
  count = h.count;
  told = subst (λ (z : Zones). WhereTold b.held (AreTruths (row_type z.columns) slots f block filtered.keep.rows)) (sym s.zones)
      (subst (λ (held : Option Table). WhereTold held (AreTruths (row_type a.zones.columns) slots f block filtered.keep.rows)) (sym s.held) h.told);
}

-- what a projection gives at the rows that are kept
pub gives_kept : (a : StoreSeen) (slots : Slots) (f p : Tree) (expr : PreparedExpr) (names : List Bytes) (block : ℕ) (filtered : FilteredBlock) (cs kept : List Column) (result : Result ColumnRef ScanError)
    → WhereTold a.held (AgreesWith a.zones) → IsFiltered slots f names block a filtered → AreColumnsOf a block expr.columns cs → IsPrepared a.zones.columns slots p expr → no_name_twice (row_type a.zones.columns) ≡ true
    → kept ≡ map (kept_column filtered.keep.rows) cs → GivesWhereHeld slots expr filtered.count kept result → GivesTold slots p block (matching_rows (row_type a.zones.columns) slots f) a result
gives_kept a slots f p expr names block filtered cs kept result agrees k own prepared distinct e gives =
    let keep = filtered.keep.rows in
    gives_matching a slots f p expr block cs keep result k.len (block_told a block (length keep) agrees k.len) own prepared distinct k.told
    (λ fs g x y own rows have. gives fs g x y
    (subst (λ (n : ℕ). AreOf fs n expr.columns kept) (sym k.count) (subst (λ (xs : List Column). AreOf fs (length (kept_rows keep keep)) expr.columns xs) (sym e) own)) rows
    (subst (λ (n : ℕ). HaveColumns fs n expr.columns kept rows) (sym k.count) (subst (λ (xs : List Column). HaveColumns fs (length (kept_rows keep keep)) expr.columns xs rows) (sym e) have)))
