-- A scan of files as one table does what scans of the files do, one after another.
use Rattle.std.proofs.Common.{◌≡◌, refl, ap, sym, ◌∙◌, ℕ, ◌+◌, ◌≤◌, Bool, true, false, cond, ◌||◌, List, [], ◌∷◌, ◌++◌, map, length, arith, append-nil}
use Rattle.std.specs.List.{list_any, sum}
use Rattle.std.proofs.lemmas.List.{length-append, length-map}
use Rattle.std.proofs.lemmas.List.Folds.{list_any-append}
use Rattle.std.proofs.lemmas.List.Sums.{sum_by-cons}
use Rattle.vx_dtype.specs.Types.{Ty, Fields}
use Rattle.vx_dtype.specs.Values.{Val}
use Rattle.vx_expr.specs.Trees.{Tree}
use Rattle.vx_semantics.specs.Breaks.{Cause}
use Rattle.vx_semantics.specs.Meaning.{Slots}
use Rattle.vx_semantics.specs.Tables.{row_type}
use Rattle.vx_semantics.specs.Scans.{Phase, rows_of, kept_rows_of, kept_blocks, skipped_blocks, phases_of, reads_of, phase_breaks, phase_breaks_by, some_phase_breaks, first_breaks_by}
use Rattle.vx_scan.specs.Stores.{Read}
use Rattle.vx_scan.specs.Cutting.{shifted_reads, shifted_phase, IsOfRuns}
use Rattle.vx_scan.proofs.CutLemmas.{scans_of_runs}
use Rattle.vx_laws_shell.specs.Folders.{TableFile, zones_before, file_before, files_joined, HasItsZones, IsOfForm, breaks_first_by, ScansOfFiles}
use Rattle.vx_laws_shell.proofs.FolderFiles.{has_before, joined, others_are, front_table, back_table, front_zones, back_zones}

-- ---- phases

shifted_breaks : (t : Ty) (slots : Slots) (n : ℕ) (phases : List Phase)
    → list_any (phase_breaks t slots) (map (shifted_phase n) phases) ≡ list_any (phase_breaks t slots) phases
shifted_breaks t slots n [] = refl
shifted_breaks t slots n (phase ∷ phases) = ap (λ (b : Bool). phase_breaks t slots phase || b) (shifted_breaks t slots n phases)

first_shifted : (c : Cause) (t : Ty) (slots : Slots) (n : ℕ) (phases : List Phase)
    → first_breaks_by c t slots (map (shifted_phase n) phases) ≡ first_breaks_by c t slots phases
first_shifted c t slots n [] = refl
first_shifted c t slots n (phase ∷ phases) =
    ap (λ (b : Bool). cond (phase_breaks t slots phase) (phase_breaks_by c t slots phase) b) (first_shifted c t slots n phases)

first_append : (c : Cause) (t : Ty) (slots : Slots) (xs ys : List Phase)
    → first_breaks_by c t slots (xs ++ ys) ≡ cond (list_any (phase_breaks t slots) xs) (first_breaks_by c t slots xs) (first_breaks_by c t slots ys)
first_append c t slots [] ys = refl
first_append c t slots (x ∷ xs) ys = by-test (phase_breaks t slots x) (first_append c t slots xs ys)
  where
    by-test : (b : Bool)
        → first_breaks_by c t slots (xs ++ ys) ≡ cond (list_any (phase_breaks t slots) xs) (first_breaks_by c t slots xs) (first_breaks_by c t slots ys)
        → cond b (phase_breaks_by c t slots x) (first_breaks_by c t slots (xs ++ ys))
        ≡ cond (b || list_any (phase_breaks t slots) xs) (cond b (phase_breaks_by c t slots x) (first_breaks_by c t slots xs)) (first_breaks_by c t slots ys)
    by-test true e = refl
    by-test false e = e

-- phases of which none breaks break by no cause
quiet_first : (c : Cause) (t : Ty) (slots : Slots) (phases : List Phase)
    → cond (list_any (phase_breaks t slots) phases) (first_breaks_by c t slots phases) false ≡ first_breaks_by c t slots phases
quiet_first c t slots [] = refl
quiet_first c t slots (phase ∷ phases) = by-test (phase_breaks t slots phase) (quiet_first c t slots phases)
  where
    by-test : (b : Bool) → cond (list_any (phase_breaks t slots) phases) (first_breaks_by c t slots phases) false ≡ first_breaks_by c t slots phases
        → cond (b || list_any (phase_breaks t slots) phases) (cond b (phase_breaks_by c t slots phase) (first_breaks_by c t slots phases)) false
        ≡ cond b (phase_breaks_by c t slots phase) (first_breaks_by c t slots phases)
    by-test true e = refl
    by-test false e = e

-- ---- a file before another one

module _ (file other : TableFile) (own : HasItsZones file) (more : HasItsZones other) (form : IsOfForm file other) (slots : Slots) (f p : Tree) where
  within : length file.table.blocks ≤ length (zones_before file.zones other.zones).lengths
  within = omega (arith, length-append file.zones.lengths other.zones.lengths, own.blocks)

  runs : IsOfRuns (file_before file other).table (file_before file other).zones slots f p (length file.table.blocks)
  runs =
      scans_of_runs (file_before file other).table (file_before file other).zones slots f p (length file.table.blocks) (has_before file other own more).blocks within

  rows_both : rows_of (file_before file other).table slots f p ≡ rows_of file.table slots f p ++ rows_of other.table slots f p
  rows_both =
      let one = front_table file.table other.table in
      let two = back_table file.table other.table form.columns in
      runs.rows ∙ (λ i. rows_of (one i) slots f p ++ rows_of (two i) slots f p)

  kept_rows_both : kept_rows_of (file_before file other).table (file_before file other).zones slots f p
      ≡ kept_rows_of file.table file.zones slots f p ++ kept_rows_of other.table other.zones slots f p
  kept_rows_both =
      let one = front_table file.table other.table in
      let two = back_table file.table other.table form.columns in
      let first = front_zones file other own more form in
      let second = back_zones file other own more form in
      runs.kept_rows ∙ (λ i. kept_rows_of (one i) (first i) slots f p ++ kept_rows_of (two i) (second i) slots f p)

  pub kept_both : kept_blocks (file_before file other).zones slots f
      ≡ kept_blocks file.zones slots f ++ map (λ (b : ℕ). length file.table.blocks + b) (kept_blocks other.zones slots f)
  kept_both =
      let first = front_zones file other own more form in
      let second = back_zones file other own more form in
      runs.kept ∙ (λ i. kept_blocks (first i) slots f ++ map (λ (b : ℕ). length file.table.blocks + b) (kept_blocks (second i) slots f))

  skipped_both : length (skipped_blocks (file_before file other).zones slots f)
      ≡ length (skipped_blocks file.zones slots f) + length (skipped_blocks other.zones slots f)
  skipped_both =
      let first = front_zones file other own more form in
      let second = back_zones file other own more form in
      let behind : List ℕ = map (λ (b : ℕ). length file.table.blocks + b) (skipped_blocks other.zones slots f) in
      ap (λ (ns : List ℕ). length ns) runs.skipped
      ∙ (λ i. length (skipped_blocks (first i) slots f ++ map (λ (b : ℕ). length file.table.blocks + b) (skipped_blocks (second i) slots f)))
      ∙ length-append (skipped_blocks file.zones slots f) behind
      ∙ ap (λ (n : ℕ). length (skipped_blocks file.zones slots f) + n) (length-map (skipped_blocks other.zones slots f) (λ (b : ℕ). length file.table.blocks + b))

  phases_both : phases_of (file_before file other).table (file_before file other).zones slots f p
      ≡ phases_of file.table file.zones slots f p ++ map (shifted_phase (length file.table.blocks)) (phases_of other.table other.zones slots f p)
  phases_both =
      let one = front_table file.table other.table in
      let two = back_table file.table other.table form.columns in
      let first = front_zones file other own more form in
      let second = back_zones file other own more form in
      runs.phases
      ∙ (λ i. phases_of (one i) (first i) slots f p ++ map (shifted_phase (length file.table.blocks)) (phases_of (two i) (second i) slots f p))

  reads_both : reads_of (file_before file other).table (file_before file other).zones slots f p
      ≡ reads_of file.table file.zones slots f p ++ shifted_reads (length file.table.blocks) (reads_of other.table other.zones slots f p)
  reads_both =
      let one = front_table file.table other.table in
      let two = back_table file.table other.table form.columns in
      let first = front_zones file other own more form in
      let second = back_zones file other own more form in
      runs.reads
      ∙ (λ i. reads_of (one i) (first i) slots f p ++ shifted_reads (length file.table.blocks) (reads_of (two i) (second i) slots f p))

  breaks_both : some_phase_breaks (file_before file other).table (file_before file other).zones slots f p
      ≡ (some_phase_breaks file.table file.zones slots f p || some_phase_breaks other.table other.zones slots f p)
  breaks_both =
      let t = row_type file.table.columns in
      let phases = phases_of file.table file.zones slots f p in
      let others = phases_of other.table other.zones slots f p in
      let columns : file.table.columns ≡ other.table.columns = sym form.columns in
      ap (λ (ps : List Phase). list_any (phase_breaks t slots) ps) phases_both
      ∙ list_any-append (phase_breaks t slots) phases (map (shifted_phase (length file.table.blocks)) others)
      ∙ ap (λ (b : Bool). list_any (phase_breaks t slots) phases || b) (shifted_breaks t slots (length file.table.blocks) others)
      ∙ ap (λ (fs : Fields). list_any (phase_breaks t slots) phases || list_any (phase_breaks (row_type fs) slots) others) columns

  first_both : (c : Cause) → breaks_first_by c slots f p (file_before file other)
      ≡ cond (some_phase_breaks file.table file.zones slots f p) (breaks_first_by c slots f p file) (breaks_first_by c slots f p other)
  first_both c =
      let t = row_type file.table.columns in
      let phases = phases_of file.table file.zones slots f p in
      let others = phases_of other.table other.zones slots f p in
      let columns : file.table.columns ≡ other.table.columns = sym form.columns in
      ap (λ (ps : List Phase). first_breaks_by c t slots ps) phases_both
      ∙ first_append c t slots phases (map (shifted_phase (length file.table.blocks)) others)
      ∙ ap (λ (b : Bool). cond (list_any (phase_breaks t slots) phases) (first_breaks_by c t slots phases) b)
      (first_shifted c t slots (length file.table.blocks) others)
      ∙ ap (λ (fs : Fields). cond (list_any (phase_breaks t slots) phases) (first_breaks_by c t slots phases) (first_breaks_by c (row_type fs) slots others)) columns

-- ---- files

one_number : (n : ℕ) → n ≡ sum (n ∷ [])
one_number n = omega (arith, sum_by-cons (λ (m : ℕ). m) n [])

or_none : (b : Bool) → (b || false) ≡ b
or_none true = refl
or_none false = refl

pub scans_of_files : ScansOfFiles
scans_of_files first [] slots f p h =
    record {
      rows = sym (append-nil (rows_of first.table slots f p));
      kept_rows = sym (append-nil (kept_rows_of first.table first.zones slots f p));
      reads = sym (append-nil (reads_of first.table first.zones slots f p));
      skipped = one_number (length (skipped_blocks first.zones slots f));
      breaks = sym (or_none (some_phase_breaks first.table first.zones slots f p));
      first_break = λ c. sym (quiet_first c (row_type first.table.columns) slots (phases_of first.table first.zones slots f p));
    }
scans_of_files first (next ∷ files) slots f p h =
    let rest = joined first next files h in
    let other = files_joined next files in
    let more = scans_of_files next files slots f p (others_are first next files h) in
    record {
      rows = rows_both first other h.first_has rest.has rest.form slots f p ∙ ap (λ (vs : List Val). rows_of first.table slots f p ++ vs) more.rows;
      kept_rows = kept_rows_both first other h.first_has rest.has rest.form slots f p
          ∙ ap (λ (vs : List Val). kept_rows_of first.table first.zones slots f p ++ vs) more.kept_rows;
      reads = reads_both first other h.first_has rest.has rest.form slots f p
          ∙ ap (λ (rs : List Read). reads_of first.table first.zones slots f p ++ shifted_reads (length first.table.blocks) rs) more.reads;
      skipped = skipped_both first other h.first_has rest.has rest.form slots f p
          ∙ ap (λ (n : ℕ). length (skipped_blocks first.zones slots f) + n) more.skipped
          ∙ sym (sum_by-cons (λ (m : ℕ). m) (length (skipped_blocks first.zones slots f)) (map (λ (file : TableFile). length (skipped_blocks file.zones slots f)) (next ∷ files)));
      breaks = breaks_both first other h.first_has rest.has rest.form slots f p
          ∙ ap (λ (b : Bool). some_phase_breaks first.table first.zones slots f p || b) more.breaks;
      first_break = λ c. first_both first other h.first_has rest.has rest.form slots f p c
          ∙ ap (λ (b : Bool). cond (some_phase_breaks first.table first.zones slots f p) (breaks_first_by c slots f p first) b) (more.first_break c);
    }
