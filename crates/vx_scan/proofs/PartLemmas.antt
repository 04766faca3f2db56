-- The runs of the phases of a block: what was read and what was evaluated, and how both phases make the block's run.
use Rattle.std.proofs.Common.{◌≡◌, refl, sym, ℕ, Some, List, [], ◌∷◌, Result, Ok, Err}
use Rattle.std.specs.List.{slice_get}
use Rattle.std.proofs.lemmas.List.{append-nil}
use Rattle.vx_dtype.specs.Types.{Ty}
use Rattle.vx_dtype.specs.Values.{Val}
use Rattle.vx_column.specs.declared.columns.ColumnRef.{ColumnRef}
use Rattle.vx_expr.specs.Trees.{Tree}
use Rattle.vx_semantics.specs.Meaning.{Slots}
use Rattle.vx_semantics.specs.Scans.{Phase}
use Rattle.vx_semantics.specs.Tables.{row_type}
use Rattle.vx_scan.specs.Stores.{Read, StoreSeen, WhereTold}
use Rattle.vx_scan.specs.Steps.{ending, MakesReads, GivesAsked, BreaksAsAsked, RunsTold, RunsPart}
use Rattle.vx_scan.specs.declared.errors.ScanError.{ScanError}
use Rattle.vx_scan.specs.declared.errors.ScanError.TheVariants as errors
use Rattle.vx_scan.proofs.ColumnLemmas.{IsBlock}
use Rattle.vx_scan.proofs.ReadLemmas.{by_reads}
use Rattle.vx_scan.proofs.RunLemmas.{phase_ran, phase_broke_by_sum, phase_broke_by_cast, phase_read_failed, phase_read_partly}
use Rattle.vx_scan.proofs.ScanLemmas.{told_so}

-- the phase of an expression with these reads at these rows
abbrev phase_of : Tree → List Read → List Val → Phase
phase_of e reads rows = record { expression = e; reads = reads; rows = rows }

-- the rows of the block, where the table is told
abbrev pub BlockTold : StoreSeen → ℕ → ℕ → Type 0
BlockTold seen block len = WhereTold seen.held (IsBlock seen.zones block len)

-- a read failed, or there was no memory among the reads
abbrev UnreadPart : Slots → Tree → List Read → ℕ → (List Val → List Val) → StoreSeen → StoreSeen → Result (Unit {0}) ScanError → Type 0
UnreadPart slots e reads block of_rows a b (Ok u) = Unit {0}
UnreadPart slots e reads block of_rows a b (Err err) = RunsPart slots e reads block of_rows a b (Err err)

pub part_unread : (slots : Slots) (e : Tree) (reads : List Read) (block len : ℕ) (of_rows : List Val → List Val) (a b : StoreSeen) (err : ScanError)
    → BlockTold a block len → MakesReads reads a b (Err err) → RunsPart slots e reads block of_rows a b (Err err)
part_unread slots e reads block len of_rows a b err told =
    by_reads reads a b (UnreadPart slots e reads block of_rows a b)
    (λ u k. tt)
    (λ k. record {
      made = k.1;
      left = k.0 ∷ k.2;
      grown = k.5;
      first = k.6;
      ends = (k.0, k.2, k.3, k.4, refl);
      told = told_so a.held (IsBlock a.zones block len) (RunsTold t slots e reads block of_rows a b (Err errors.StoreFault))
          (λ table is. (is.rows, is.there, phase_read_failed t slots (phase_of e reads (of_rows is.rows)) a.log b.log b.failed k.0 k.1 k.2 k.3 k.5 k.6)) told;
    })
    (λ k. record {
      made = k.0;
      left = k.1;
      grown = k.3;
      first = k.4;
      ends = k.2;
      told = told_so a.held (IsBlock a.zones block len) (RunsTold t slots e reads block of_rows a b (Err errors.NoMemory))
          (λ table is. (is.rows, is.there, phase_read_partly t slots (phase_of e reads (of_rows is.rows)) a.log b.log b.failed k.0 k.1 k.3 k.4)) told;
    })
    (Err err)
  where
    t : Ty
    t = row_type a.zones.columns

-- all was read, and then there was no memory
pub part_cut : (slots : Slots) (e : Tree) (reads : List Read) (block len : ℕ) (of_rows : List Val → List Val) (a b : StoreSeen)
    → BlockTold a block len → MakesReads reads a b (Ok tt) → RunsPart slots e reads block of_rows a b (Err errors.NoMemory)
part_cut slots e reads block len of_rows a b told h =
    part_unread slots e reads block len of_rows a b errors.NoMemory told (reads, [], h.1, h.0, sym (append-nil reads))

-- what was evaluated over the rows of the block that are the phase's, where the table is told
abbrev pub GivesTold : Slots → Tree → ℕ → (List Val → List Val) → StoreSeen → Result ColumnRef ScanError → Type 0
GivesTold slots e block of_rows a result =
    WhereTold a.held (λ table. (rows : List Val) × (slice_get table.blocks block ≡ Some rows) × GivesAsked (row_type a.zones.columns) slots e (of_rows rows) result)

-- all was read, and the expression was evaluated
pub part_ran : (slots : Slots) (e : Tree) (reads : List Read) (block len : ℕ) (of_rows : List Val → List Val) (a b : StoreSeen) (result : Result ColumnRef ScanError)
    → BlockTold a block len → MakesReads reads a b (Ok tt) → BreaksAsAsked (row_type a.zones.columns) e result → GivesTold slots e block of_rows a result
    → RunsPart slots e reads block of_rows a b (ending result)
part_ran slots e reads block len of_rows a b (Ok c) there h asks gives = record {
  made = reads;
  left = [];
  grown = h.0;
  first = sym (append-nil reads);
  ends = (refl, h.1);
  told = told_so a.held (λ table. (rows : List Val) × (slice_get table.blocks block ≡ Some rows) × GivesAsked (row_type a.zones.columns) slots e (of_rows rows) (Ok c))
      (RunsTold (row_type a.zones.columns) slots e reads block of_rows a b (Ok tt))
      (λ table g. (g.0, g.1, phase_ran (row_type a.zones.columns) slots (phase_of e reads (of_rows g.0)) a.log b.log b.failed h.0 g.2.1)) gives;
}
part_ran slots e reads block len of_rows a b (Err errors.Overflow) there h asks gives = record {
  made = reads;
  left = [];
  grown = h.0;
  first = sym (append-nil reads);
  ends = (refl, h.1, asks);
  told = told_so a.held (λ table. (rows : List Val) × (slice_get table.blocks block ≡ Some rows) × GivesAsked (row_type a.zones.columns) slots e (of_rows rows) (Err errors.Overflow))
      (RunsTold (row_type a.zones.columns) slots e reads block of_rows a b (Err errors.Overflow))
      (λ table g. (g.0, g.1, phase_broke_by_sum (row_type a.zones.columns) slots (phase_of e reads (of_rows g.0)) a.log b.log b.failed h.0 g.2)) gives;
}
part_ran slots e reads block len of_rows a b (Err errors.BadCast) there h asks gives = record {
  made = reads;
  left = [];
  grown = h.0;
  first = sym (append-nil reads);
  ends = (refl, h.1, asks);
  told = told_so a.held (λ table. (rows : List Val) × (slice_get table.blocks block ≡ Some rows) × GivesAsked (row_type a.zones.columns) slots e (of_rows rows) (Err errors.BadCast))
      (RunsTold (row_type a.zones.columns) slots e reads block of_rows a b (Err errors.BadCast))
      (λ table g. (g.0, g.1, phase_broke_by_cast (row_type a.zones.columns) slots (phase_of e reads (of_rows g.0)) a.log b.log b.failed h.0 g.2)) gives;
}
part_ran slots e reads block len of_rows a b (Err errors.NoMemory) there h asks gives = part_cut slots e reads block len of_rows a b there h
part_ran slots e reads block len of_rows a b (Err _) there h asks gives = absurd asks
