-- The run of a block: its filter's phase ended it, its filter is true at no row, or its projection's phase follows.
use Rattle.std.proofs.Common.{◌≡◌, refl, ap, ◌∙◌, sym, ℕ, ◌≤◌, Bool, true, false, ◌||◌, cond, nat_eq, Option, Some, None, List, [], ◌∷◌, ◌++◌, map, length, Result, Ok, Err, arith, subst}
use Rattle.std.specs.List.{slice_get}
use Rattle.std.proofs.lemmas.Bool.{or_left, or_right}
use Rattle.std.proofs.lemmas.Bool.Decides.{nat_tests}
use Rattle.std.proofs.lemmas.List.{append_assoc, append-nil, nil_from_length}
use Rattle.vx_dtype.specs.Types.{Ty, Fields}
use Rattle.vx_dtype.specs.Values.{Val}
use Rattle.vx_column.specs.Columns.{kept_rows}
use Rattle.vx_expr.specs.Trees.{Tree}
use Rattle.vx_semantics.specs.Meaning.{Slots, mean}
use Rattle.vx_semantics.specs.Breaks.{Cause, by_sum, by_cast}
use Rattle.vx_semantics.specs.Asked.{asked_columns}
use Rattle.vx_semantics.specs.Scans.{Phase, reads_in, further_columns, matching_rows, block_rows, block_phases, has_rows}
use Rattle.vx_semantics.specs.Tables.{Table, Zones, row_type}
use Rattle.vx_scan.specs.Stores.{Read, StoreSeen, WhereTold, AgreesWith, IsSameStore}
use Rattle.vx_scan.specs.Scanning.{asks_breaking}
use Rattle.vx_scan.specs.BlockRuns.{Runs, block_asked, FailedAmong, EndsBlock, AddsRows, RunsBlock, RunsBlockOf}
use Rattle.vx_scan.specs.Steps.{EndsPart, RunsTold, RunsPart, AreTruths, AddsToldRows}
use Rattle.vx_scan.specs.declared.errors.ScanError.{ScanError}
use Rattle.vx_scan.specs.declared.errors.ScanError.TheVariants as errors
use Rattle.vx_scan.proofs.AmongLemmas.{among_first, among_next}
use Rattle.vx_scan.proofs.ColumnLemmas.{some_same, matching_length}
use Rattle.vx_scan.proofs.ReadLemmas.{one_more_later}
use Rattle.vx_scan.proofs.RunLemmas.{logged, run_on, run_more}
use Rattle.vx_scan.proofs.ScanLemmas.{same_after, told_both}

-- how the last phase that ran ends is how the block ends: what was made and what is left are reads of the block
ends_block : (f p g : Tree) (block : ℕ) (a m b : StoreSeen) (made left behind : List Read) (result : Result (Unit {0}) ScanError) → m.failed ≡ a.failed → a.faults ≤ m.faults
    → ((c : Cause) → asks_breaking c (row_type a.zones.columns) g ≡ true → (asks_breaking c (row_type a.zones.columns) f || asks_breaking c (row_type a.zones.columns) p) ≡ true)
    → block_asked a.zones f p block ≡ made ++ (left ++ behind) → EndsPart (row_type a.zones.columns) g left m b result → EndsBlock f p block a b made result
ends_block f p g block a m b made left behind (Ok u) k later asks all h = h.1 ∙ k
ends_block f p g block a m b made left behind (Err errors.Overflow) k later asks all h = (h.1 ∙ k, asks by_sum h.2)
ends_block f p g block a m b made left behind (Err errors.BadCast) k later asks all h = (h.1 ∙ k, asks by_cast h.2)
ends_block f p g block a m b made left behind (Err errors.StoreFault) k later asks all h =
    let next : block_asked a.zones f p block ≡ made ++ (h.0 ∷ (h.1 ++ behind)) = all ∙ ap (λ (rs : List Read). made ++ (rs ++ behind)) h.4 in (
      one_more_later a.faults m.faults b.faults later h.3,
      subst (λ (read : Option Read). FailedAmong (block_asked a.zones f p block) made read) (sym h.2) (among_next made (h.1 ++ behind) (block_asked a.zones f p block) h.0 next),
    )
ends_block f p g block a m b made left behind (Err errors.NoMemory) k later asks all h = h ∙ k
ends_block f p g block a m b made left behind (Err _) k later asks all h = absurd h

-- the reads of the filter's phase and of the projection's, and whole runs of the filter's
abbrev pub FilterPart : Slots → Tree → ℕ → StoreSeen → StoreSeen → Result (Unit {0}) ScanError → Type 0
FilterPart slots f block a b result =
    RunsPart slots f (reads_in block (asked_columns (row_type a.zones.columns) f)) block (λ rows. rows) a b result

abbrev pub ProjectionPart : Slots → Tree → Tree → ℕ → StoreSeen → StoreSeen → Result (Unit {0}) ScanError → Type 0
ProjectionPart slots f p block a b result =
    RunsPart slots p (reads_in block (further_columns (row_type a.zones.columns) f p)) block (matching_rows (row_type a.zones.columns) slots f) a b result

by_filter : (f p : Tree) (t : Ty) (c : Cause) → asks_breaking c t f ≡ true → (asks_breaking c t f || asks_breaking c t p) ≡ true
by_filter f p t c h = or_left (asks_breaking c t f) (asks_breaking c t p) h

by_projection : (f p : Tree) (t : Ty) (c : Cause) → asks_breaking c t p ≡ true → (asks_breaking c t f || asks_breaking c t p) ≡ true
by_projection f p t c h = or_right (asks_breaking c t f) (asks_breaking c t p) h

-- the filter's phase did not end well
pub block_stops : (slots : Slots) (f p : Tree) (block : ℕ) (a b : StoreSeen) (was now : List Val) (e : ScanError) → IsSameStore a b → WhereTold a.held (AgreesWith a.zones)
    → FilterPart slots f block a b (Err e) → RunsBlock slots f p block a b was now (Err e)
block_stops slots f p block a b was now e same agrees h =
    let t = row_type a.zones.columns in
    let ys = reads_in block (further_columns t f p) in
    let all : block_asked a.zones f p block ≡ h.made ++ (h.left ++ ys) = ap (λ (rs : List Read). rs ++ ys) h.first ∙ append_assoc h.made h.left ys in
    record {
      same = same;
      made = h.made;
      grown = h.grown;
      asked = among_first h.made (h.left ++ ys) (block_asked a.zones f p block) all;
      ends = ends_block f p f block a a b h.made h.left ys (Err e) refl (omega arith) (by_filter f p t) all h.ends;
      told = told_both a.held (AgreesWith a.zones) (RunsTold t slots f (reads_in block (asked_columns t f)) block (λ rows. rows) a b (Err e))
          (λ table. RunsBlockOf slots f p block table a b was now (Err e))
          (λ table agree k. record {
            held_rows = k.0;
            there = k.1;
            ran = subst (λ (fs : Fields). Runs (row_type fs) slots (block_phases (row_type fs) slots f p (block, k.0)) a.log b.log b.failed (Err e)) (sym agree.columns)
                (run_more t slots (record { expression = f; reads = reads_in block (asked_columns t f); rows = k.0 } ∷ [])
                (cond (has_rows (matching_rows t slots f k.0)) (record { expression = p; reads = ys; rows = matching_rows t slots f k.0 } ∷ []) [])
                a.log b.log b.failed e k.2);
            adds = tt;
          })
          agrees h.told;
    }

-- a block without and with rows at which the filter is true
none_match : (rows : List Val) → nat_eq (length rows) 0 ≡ true → rows ≡ []
none_match rows h = nil_from_length rows (grind (arith, nat_tests))

some_match : (rows : List Val) → nat_eq (length rows) 0 ≡ false → has_rows rows ≡ true
some_match [] h = let no : ⊥ = cc in absurd no
some_match (row ∷ rows) h = refl

-- the filter is true at no row: the block gives no row
pub block_without : (slots : Slots) (f p : Tree) (block : ℕ) (a b : StoreSeen) (was keep : List Val) → IsSameStore a b → WhereTold a.held (AgreesWith a.zones)
    → FilterPart slots f block a b (Ok tt) → WhereTold a.held (AreTruths (row_type a.zones.columns) slots f block keep) → nat_eq (length (kept_rows keep keep)) 0 ≡ true
    → RunsBlock slots f p block a b was was (Ok tt)
block_without slots f p block a b was keep same agrees h truths none =
    let t = row_type a.zones.columns in
    let ys = reads_in block (further_columns t f p) in
    let all : block_asked a.zones f p block ≡ h.made ++ (h.left ++ ys) = ap (λ (rs : List Read). rs ++ ys) h.first ∙ append_assoc h.made h.left ys in
    record {
      same = same;
      made = h.made;
      grown = h.grown;
      asked = among_first h.made (h.left ++ ys) (block_asked a.zones f p block) all;
      ends = h.ends.1;
      told = told_both a.held (AgreesWith a.zones) (λ table. RunsTold t slots f (reads_in block (asked_columns t f)) block (λ rows. rows) a b (Ok tt) table × AreTruths t slots f block keep table)
          (λ table. RunsBlockOf slots f p block table a b was was (Ok tt))
          (λ table agree k.
          let rows = k.0.0 in
          let own : k.1.0 ≡ rows = some_same (sym k.1.1 ∙ k.0.1) in
          let truths_here : keep ≡ map (λ row. mean t slots row f) rows = k.1.2 ∙ ap (map (λ row. mean t slots row f)) own in
          let empty : matching_rows t slots f rows ≡ [] = none_match (matching_rows t slots f rows) (ap (λ n. nat_eq n 0) (matching_length t slots f rows keep truths_here) ∙ none) in
          let phase : Phase = record { expression = f; reads = reads_in block (asked_columns t f); rows = rows } in
          record {
            held_rows = rows;
            there = k.0.1;
            ran = subst (λ (fs : Fields). Runs (row_type fs) slots (block_phases (row_type fs) slots f p (block, rows)) a.log b.log b.failed (Ok tt)) (sym agree.columns)
                (subst (λ (ms : List Val). Runs t slots (phase ∷ cond (has_rows ms) (record { expression = p; reads = ys; rows = ms } ∷ []) []) a.log b.log b.failed (Ok tt)) (sym empty) k.0.2);
            adds = subst (λ (fs : Fields). was ≡ was ++ block_rows (row_type fs) slots f p rows) (sym agree.columns)
                (subst (λ (ms : List Val). was ≡ was ++ map (λ row. mean t slots row p) ms) (sym empty) (sym (append-nil was)));
          })
          agrees (told_both a.held (RunsTold t slots f (reads_in block (asked_columns t f)) block (λ rows. rows) a b (Ok tt)) (AreTruths t slots f block keep)
          (λ table. RunsTold t slots f (reads_in block (asked_columns t f)) block (λ rows. rows) a b (Ok tt) table × AreTruths t slots f block keep table)
          (λ table x y. (x, y)) h.told truths);
    }

-- what is known of a table where the projection's phase has run
record Projected (t : Ty) (slots : Slots) (f p : Tree) (block : ℕ) (a m b : StoreSeen) (was now keep : List Val) (result : Result (Unit {0}) ScanError) (table : Table) : Type 0 where
  columns : row_type table.columns ≡ t
  filtered : RunsTold t slots f (reads_in block (asked_columns t f)) block (λ rows. rows) a m (Ok tt) table
  truths : AreTruths t slots f block keep table
  projected : RunsTold t slots p (reads_in block (further_columns t f p)) block (matching_rows t slots f) m b result table
  adds : AddsToldRows (block_rows t slots f p) block was now result table

adds_rows : (T : Ty) (slots : Slots) (f p : Tree) (block : ℕ) (was now rows : List Val) (result : Result (Unit {0}) ScanError) (table : Table) → slice_get table.blocks block ≡ Some rows
    → AddsToldRows (block_rows T slots f p) block was now result table → AddsRows (block_rows T slots f p rows) was now result
adds_rows T slots f p block was now rows (Ok u) table e h = h.2 ∙ ap (λ (rs : List Val). was ++ block_rows T slots f p rs) (some_same (sym h.1 ∙ e))
adds_rows T slots f p block was now rows (Err x) table e h = tt

projected_block : (T : Ty) (slots : Slots) (f p : Tree) (block : ℕ) (a m b : StoreSeen) (was now keep : List Val) (result : Result (Unit {0}) ScanError) (table : Table)
    → nat_eq (length (kept_rows keep keep)) 0 ≡ false → Projected T slots f p block a m b was now keep result table → RunsBlockOf slots f p block table a b was now result
projected_block T slots f p block a m b was now keep result table some k =
    let rows = k.filtered.0 in
    let own : k.truths.0 ≡ rows = some_same (sym k.truths.1 ∙ k.filtered.1) in
    let others : k.projected.0 ≡ rows = some_same (sym k.projected.1 ∙ k.filtered.1) in
    let truths_here : keep ≡ map (λ row. mean T slots row f) rows = k.truths.2 ∙ ap (map (λ row. mean T slots row f)) own in
    let matches : has_rows (matching_rows T slots f rows) ≡ true = some_match (matching_rows T slots f rows) (ap (λ n. nat_eq n 0) (matching_length T slots f rows keep truths_here) ∙ some) in
    let first : Phase = record { expression = f; reads = reads_in block (asked_columns T f); rows = rows } in
    let second : Phase = record { expression = p; reads = reads_in block (further_columns T f p); rows = matching_rows T slots f rows } in
    let ran : Runs T slots (second ∷ []) m.log b.log b.failed result =
    subst (λ (rs : List Val). Runs T slots (record { expression = p; reads = reads_in block (further_columns T f p); rows = matching_rows T slots f rs } ∷ []) m.log b.log b.failed result) others k.projected.2 in
    record {
      held_rows = rows;
      there = k.filtered.1;
      ran = subst (λ (t : Ty). Runs t slots (block_phases t slots f p (block, rows)) a.log b.log b.failed result) (sym k.columns)
          (subst (λ (some : Bool). Runs T slots (first ∷ cond some (second ∷ []) []) a.log b.log b.failed result) (sym matches)
          (run_on T slots (first ∷ []) (second ∷ []) a.log m.log b.log m.failed b.failed result k.filtered.2 ran));
      adds = subst (λ (t : Ty). AddsRows (block_rows t slots f p rows) was now result) (sym k.columns) (adds_rows T slots f p block was now rows result table k.filtered.1 k.adds);
    }

-- the projection's phase ran after the filter's
pub block_projects : (slots : Slots) (f p : Tree) (block : ℕ) (a m b : StoreSeen) (was now keep : List Val) (result : Result (Unit {0}) ScanError) → IsSameStore a m → IsSameStore m b
    → WhereTold a.held (AgreesWith a.zones) → FilterPart slots f block a m (Ok tt) → WhereTold a.held (AreTruths (row_type a.zones.columns) slots f block keep)
    → nat_eq (length (kept_rows keep keep)) 0 ≡ false → ProjectionPart slots f p block m b result
    → WhereTold m.held (AddsToldRows (block_rows (row_type m.zones.columns) slots f p) block was now result) → RunsBlock slots f p block a b was now result
block_projects slots f p block a m b was now keep result same later agrees h truths some k adds =
    let t = row_type a.zones.columns in
    let xs = reads_in block (asked_columns t f) in
    let ys = reads_in block (further_columns t f p) in
    let types : row_type m.zones.columns ≡ t = ap (λ (z : Zones). row_type z.columns) same.zones in
    let whole : xs ≡ h.made = h.first ∙ ap (λ (rs : List Read). h.made ++ rs) h.ends.0 ∙ append-nil h.made in
    let rest : ys ≡ k.made ++ k.left = ap (λ (u : Ty). reads_in block (further_columns u f p)) (sym types) ∙ k.first in
    let all : block_asked a.zones f p block ≡ (h.made ++ k.made) ++ (k.left ++ []) =
    (λ i. whole i ++ rest i) ∙ sym (append_assoc h.made k.made k.left) ∙ ap (λ (rs : List Read). (h.made ++ k.made) ++ rs) (sym (append-nil k.left)) in
    let projected : WhereTold a.held (RunsTold t slots p ys block (matching_rows t slots f) m b result) =
    subst (λ (held : Option Table). WhereTold held (RunsTold t slots p ys block (matching_rows t slots f) m b result)) same.held
    (subst (λ (u : Ty). WhereTold m.held (RunsTold u slots p (reads_in block (further_columns u f p)) block (matching_rows u slots f) m b result)) types k.told) in
    let added : WhereTold a.held (AddsToldRows (block_rows t slots f p) block was now result) =
    subst (λ (held : Option Table). WhereTold held (AddsToldRows (block_rows t slots f p) block was now result)) same.held
    (subst (λ (u : Ty). WhereTold m.held (AddsToldRows (block_rows u slots f p) block was now result)) types adds) in
    record {
      same = same_after a m b same later;
      made = h.made ++ k.made;
      grown = logged a.log m.log b.log h.made k.made h.grown k.grown;
      asked = among_first (h.made ++ k.made) (k.left ++ []) (block_asked a.zones f p block) all;
      ends = ends_block f p p block a m b (h.made ++ k.made) k.left [] result h.ends.1 same.later (by_projection f p t) all
          (subst (λ (u : Ty). EndsPart u p k.left m b result) types k.ends);
      told = by_table a.held agrees h.told truths projected added;
    }
  where
    by_table : (held : Option Table) → WhereTold held (AgreesWith a.zones)
        → WhereTold held (RunsTold (row_type a.zones.columns) slots f (reads_in block (asked_columns (row_type a.zones.columns) f)) block (λ rows. rows) a m (Ok tt))
        → WhereTold held (AreTruths (row_type a.zones.columns) slots f block keep)
        → WhereTold held (RunsTold (row_type a.zones.columns) slots p (reads_in block (further_columns (row_type a.zones.columns) f p)) block (matching_rows (row_type a.zones.columns) slots f) m b result)
        → WhereTold held (AddsToldRows (block_rows (row_type a.zones.columns) slots f p) block was now result)
        → WhereTold held (λ table. RunsBlockOf slots f p block table a b was now result)
    by_table None agree filtered truth projected added = tt
    by_table (Some table) agree filtered truth projected added =
        projected_block (row_type a.zones.columns) slots f p block a m b was now keep result table some
        (record { columns = ap row_type agree.columns; filtered = filtered; truths = truth; projected = projected; adds = added })
