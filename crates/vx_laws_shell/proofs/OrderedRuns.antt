-- A run through the blocks of a table in their order writes the answer.
use Rattle.std.proofs.Common.{◌≡◌, refl, ap, sym, ◌∙◌, ℕ, ◌+◌, ◌-◌, ◌^◌, ◌<◌, ◌≤◌, nat_eq, min, suc, Bool, true, false, cond, not, Option, Some, None, is_some, List, [], ◌∷◌, ◌++◌, map, length, take, Ok, ⊎_elim, arith, append_assoc, append-nil, length-append, subst}
use Rattle.std.specs.Prelude.{◌⊎◌}
use Rattle.std.specs.List.{list_any, flat_map, filter, sum}
use Rattle.std.specs.Option.{option_or}
use Rattle.std.proofs.Math.Seq.{take-append-add, take-nil}
use Rattle.std.proofs.lemmas.Bool.{cases_lt}
use Rattle.std.proofs.lemmas.List.{take-append-le, take_all, append_cancel_left, length-map, length-take}
use Rattle.std.proofs.lemmas.List.Concat.{flat_map-append}
use Rattle.std.proofs.lemmas.List.Sums.{sum_by-cons}
use Rattle.vx_dtype.specs.Logic.{is_true_val}
use Rattle.vx_dtype.specs.TypeRules.{field_names}
use Rattle.vx_dtype.specs.Types.{Ty}
use Rattle.vx_dtype.specs.Values.{Val}
use Rattle.vx_expr.specs.Trees.{Tree}
use Rattle.vx_io.specs.Counts.{one_more}
use Rattle.vx_io.specs.Ends.{Added, AddedPrefix}
use Rattle.vx_semantics.specs.Pruning.{rules_out}
use Rattle.vx_semantics.specs.Tables.{Table, Zones, row_type, numbered_from}
use Rattle.vx_semantics.specs.Meaning.{mean}
use Rattle.vx_semantics.specs.Scans.{block_phases, phase_reads, phases_to_break, kept_of, matching_rows, read_columns}
use Rattle.vx_scan.specs.BlockRuns.{RunsUntil}
use Rattle.vx_scan.specs.ErrorKinds.{ErrorKind, of_memory, of_break, of_read, kind_of, of_text, of_types}
use Rattle.vx_scan.specs.Stores.{Read}
use Rattle.vx_scan.proofs.ReadLemmas.{one_more_later}
use Rattle.vx_laws_topk.specs.TopPhases.{SlottedPhase, slotted_reads}
use Rattle.vx_laws_shell.specs.Answers.{Stop, damaged, broken, first_stop, first_of_rows, phases_in, rows_in, scanned_for, scanned_of, before_stop, Found, found_in_order, answer_found, answer_stopped, counts_of}
use Rattle.vx_laws_shell.specs.Lines.{Counts, row_line, row_lines}
use Rattle.vx_laws_shell.specs.Running.{End}
use Rattle.vx_laws_shell.specs.OrderedRuns.{Progress, RunEnd, finished, without_value, without_column, without_room, without_output, StopsBy, BlockRan, StopsIn, CutsIn, WritesIn}
use Rattle.vx_laws_shell.specs.OrderedRuns.{more_rows, limit_behind, RunsOver, blocks_scanned, counts_by, WritesAnswer, OrderedRunsWriteAnswers}
use Rattle.vx_laws_shell.proofs.Adding.{added_nothing, added_none_of, added_both, prefix_of_more, prefix_behind}
use Rattle.vx_laws_shell.proofs.Stops.{undamaged_parts, stop_append, unslotted_reads, unslotted_none, unslotted_broken, unslotted_damaged}

-- ---- rows

-- the lines of rows and of more rows
pub lines_append : (xs ys : List Val) → row_lines (xs ++ ys) ≡ row_lines xs ++ row_lines ys
lines_append xs ys = flat_map-append row_line xs ys

-- the first rows of some and of more are the first of those, and as many of these as are wanted still
pub take_both : (n : ℕ) (xs ys : List Val) → take n (xs ++ ys) ≡ take n xs ++ take (n - length xs) ys
take_both n xs ys =
    ⊎_elim
    (λ (h : n < length xs).
    let none : n - length xs ≡ 0 = omega arith in
    take-append-le n xs ys (omega arith) ∙ sym (append-nil (take n xs)) ∙ ap (λ (k : ℕ). take n xs ++ take k ys) (sym none))
    (λ (h : length xs ≤ n).
    let all : n ≡ length xs + (n - length xs) = omega arith in
    ap (λ (k : ℕ). take k (xs ++ ys)) all ∙ take-append-add xs ys (n - length xs)
    ∙ ap (λ (zs : List Val). zs ++ take (n - length xs) ys) (sym (take_all n xs h)))
    (cases_lt n (length xs))

pub first_rows_append : (limit : Option ℕ) (xs ys : List Val) → first_of_rows limit (xs ++ ys) ≡ first_of_rows limit xs ++ first_of_rows (limit_behind limit (length xs)) ys
first_rows_append None xs ys = refl
first_rows_append (Some n) xs ys = take_both n xs ys

first_of_none : (limit : Option ℕ) → first_of_rows limit [] ≡ []
first_of_none None = refl
first_of_none (Some n) = take-nil n

-- ---- what a run found over blocks

-- the rows that are written of blocks, and how these stop a run
abbrev rows_over : (Read → Bool) → Ty → Tree → Tree → Option ℕ → List (ℕ × List Val) → List Val
rows_over is_damaged t f p limit blocks = first_of_rows limit (flat_map (rows_in t f p) (before_stop is_damaged t f p blocks))

abbrev stop_over : (Read → Bool) → Ty → Tree → Tree → List (ℕ × List Val) → Option Stop
stop_over is_damaged t f p blocks = first_stop is_damaged t (flat_map (phases_in t f p) blocks)

-- by its end: the stop that it met, and what it wrote of the rows
abbrev pub FindsRows : RunEnd → (Read → Bool) → Option Stop → List Val → Option Read → End → End → Type 0
FindsRows finished is_damaged stop rows failed before after = (stop ≡ None) × Added before.bytes after.bytes (row_lines rows)
FindsRows without_value is_damaged stop rows failed before after = (stop ≡ Some broken) × Added before.bytes after.bytes (row_lines rows)
FindsRows without_column is_damaged stop rows failed before after =
    (read : Read) × (failed ≡ Some read) × AddedPrefix before.bytes after.bytes (row_lines rows)
    × (is_damaged read ≡ true → (stop ≡ Some damaged) × Added before.bytes after.bytes (row_lines rows))
FindsRows without_room is_damaged stop rows failed before after = AddedPrefix before.bytes after.bytes (row_lines rows)
FindsRows without_output is_damaged stop rows failed before after =
    AddedPrefix before.bytes after.bytes (row_lines rows) × (one_more before.faults ≤ after.faults)

-- where nothing stopped it, that it counted the rows
abbrev CountsRows : RunEnd → List Val → Progress → Progress → Type 0
CountsRows finished rows before after = after.rows ≡ more_rows before.rows (length rows)
CountsRows _ rows before after = Unit {0}

-- and where nothing stopped it, that all blocks were scanned
abbrev ScansAll : RunEnd → Ty → Tree → Tree → List (ℕ × List Val) → Progress → Progress → List Read → Type 0
ScansAll finished t f p blocks before after made =
    (after.scanned ≡ before.scanned + length blocks) × (made ≡ slotted_reads (flat_map (phases_in t f p) blocks))
ScansAll _ t f p blocks before after made = Unit {0}

record FindsOver (t : Ty) (f p : Tree) (limit : Option ℕ) (blocks : List (ℕ × List Val)) (before after : Progress) (end : RunEnd) : Type 0 where
  made : List Read
  grown : after.store.log ≡ before.store.log ++ made
  found : (is_damaged : Read → Bool) → list_any is_damaged made ≡ false
      → FindsRows end is_damaged (stop_over is_damaged t f p blocks) (rows_over is_damaged t f p limit blocks) after.store.failed before.output after.output
  counted : (is_damaged : Read → Bool) → list_any is_damaged made ≡ false → CountsRows end (rows_over is_damaged t f p limit blocks) before after
  all : ScansAll end t f p blocks before after made

-- ---- over no block

finds_nothing : (t : Ty) (f p : Tree) (limit : Option ℕ) (before : Progress) → before.rows ≤ 2 ^ 64 - 1 → FindsOver t f p limit [] before before finished
finds_nothing t f p limit before few =
    record {
      made = [];
      grown = sym (append-nil before.store.log);
      found = λ is_damaged h. (
        refl,
        subst (λ (rows : List Val). Added before.output.bytes before.output.bytes (row_lines rows)) (sym (first_of_none limit)) (added_nothing before.output.bytes),
      );
      counted = λ is_damaged h.
          let small : before.rows ≡ more_rows before.rows 0 = omega arith in
          small ∙ ap (λ (rows : List Val). more_rows before.rows (length rows)) (sym (first_of_none limit));
      all = ((let same : before.scanned ≡ before.scanned + 0 = omega arith in same), refl);
    }

-- ---- stopped in a block

-- the first phase that stops a run in a block stops it over all
stopped_over : (is_damaged : Read → Bool) (t : Ty) (f p : Tree) (block : ℕ × List Val) (blocks : List (ℕ × List Val)) (stop : Stop)
    → first_stop is_damaged t (phases_in t f p block) ≡ Some stop → stop_over is_damaged t f p (block ∷ blocks) ≡ Some stop
stopped_over is_damaged t f p block blocks stop h =
    stop_append is_damaged t (phases_in t f p block) (flat_map (phases_in t f p) blocks)
    ∙ ap (λ (o : Option Stop). option_or o (stop_over is_damaged t f p blocks)) h

-- no row of it is written
unwritten_rows : (is_damaged : Read → Bool) (t : Ty) (f p : Tree) (limit : Option ℕ) (block : ℕ × List Val) (blocks : List (ℕ × List Val)) (stop : Stop)
    → first_stop is_damaged t (phases_in t f p block) ≡ Some stop → rows_over is_damaged t f p limit (block ∷ blocks) ≡ []
unwritten_rows is_damaged t f p limit block blocks stop h =
    ap (λ (o : Option Stop). first_of_rows limit (flat_map (rows_in t f p) (cond (is_some o) [] (block ∷ before_stop is_damaged t f p blocks)))) h
    ∙ first_of_none limit

-- the output is as before
same_output : (before after : Progress) (rows : List Val) → after.output ≡ before.output → rows ≡ [] → Added before.output.bytes after.output.bytes (row_lines rows)
same_output before after rows same none =
    subst (λ (end : End). Added before.output.bytes end.bytes (row_lines rows)) (sym same)
    (subst (λ (rs : List Val). Added before.output.bytes before.output.bytes (row_lines rs)) (sym none) (added_nothing before.output.bytes))

no_bytes : (before after : Progress) (lines : List ℕ) → after.output ≡ before.output → AddedPrefix before.output.bytes after.output.bytes lines
no_bytes before after lines same =
    subst (λ (end : End). AddedPrefix before.output.bytes end.bytes lines) (sym same) (added_none_of before.output.bytes lines)

-- by the kind of the error
finds_stopped : (kind : ErrorKind) (t : Ty) (f p : Tree) (limit : Option ℕ) (block : ℕ × List Val) (blocks : List (ℕ × List Val)) (before after : Progress) (end : RunEnd)
    → RunsUntil kind t [] (block_phases t [] f p block) before.store.log after.store.log after.store.failed → StopsBy kind end → after.output ≡ before.output
    → FindsOver t f p limit (block ∷ blocks) before after end
finds_stopped of_memory t f p limit block blocks before after end ran h same =
    subst (FindsOver t f p limit (block ∷ blocks) before after) (sym h)
    (record {
      made = ran.0;
      grown = ran.2;
      found = λ is_damaged k. no_bytes before after (row_lines (rows_over is_damaged t f p limit (block ∷ blocks))) same;
      counted = λ is_damaged k. tt;
      all = tt;
    })
finds_stopped of_text t f p limit block blocks before after end ran h same = absurd h
finds_stopped of_types t f p limit block blocks before after end ran h same = absurd h
finds_stopped (of_break cause) t f p limit block blocks before after end ran h same =
    let phases = block_phases t [] f p block in
    subst (FindsOver t f p limit (block ∷ blocks) before after) (sym h)
    (record {
      made = phase_reads (phases_to_break t [] phases);
      grown = ran.0;
      found = λ is_damaged k.
          let stop = unslotted_broken is_damaged t cause phases k ran.1 in (
            stopped_over is_damaged t f p block blocks broken stop,
            same_output before after (rows_over is_damaged t f p limit (block ∷ blocks)) same (unwritten_rows is_damaged t f p limit block blocks broken stop),
          );
      counted = λ is_damaged k. tt;
      all = tt;
    })
finds_stopped of_read t f p limit block blocks before after end ran h same =
    let phases = block_phases t [] f p block in
    subst (FindsOver t f p limit (block ∷ blocks) before after) (sym h)
    (record {
      made = ran.1;
      grown = ran.4;
      found = λ is_damaged k. (
        ran.0,
        ran.3,
        no_bytes before after (row_lines (rows_over is_damaged t f p limit (block ∷ blocks))) same,
        λ d.
            let stop = unslotted_damaged is_damaged t phases ran.1 ran.2 ran.0 ran.5 k d in (
              stopped_over is_damaged t f p block blocks damaged stop,
              same_output before after (rows_over is_damaged t f p limit (block ∷ blocks)) same (unwritten_rows is_damaged t f p limit block blocks damaged stop),
            ),
      );
      counted = λ is_damaged k. tt;
      all = tt;
    })

-- ---- behind a block that ran to its end

-- its rows stand before those of the others
written_rows : (is_damaged : Read → Bool) (t : Ty) (f p : Tree) (limit : Option ℕ) (block : ℕ × List Val) (blocks : List (ℕ × List Val))
    → first_stop is_damaged t (phases_in t f p block) ≡ None
    → rows_over is_damaged t f p limit (block ∷ blocks)
    ≡ first_of_rows limit (rows_in t f p block) ++ rows_over is_damaged t f p (limit_behind limit (length (rows_in t f p block))) blocks
written_rows is_damaged t f p limit block blocks h =
    ap (λ (o : Option Stop). first_of_rows limit (flat_map (rows_in t f p) (cond (is_some o) [] (block ∷ before_stop is_damaged t f p blocks)))) h
    ∙ first_rows_append limit (rows_in t f p block) (flat_map (rows_in t f p) (before_stop is_damaged t f p blocks))

-- the others stop the run
others_stop : (is_damaged : Read → Bool) (t : Ty) (f p : Tree) (block : ℕ × List Val) (blocks : List (ℕ × List Val))
    → first_stop is_damaged t (phases_in t f p block) ≡ None → stop_over is_damaged t f p (block ∷ blocks) ≡ stop_over is_damaged t f p blocks
others_stop is_damaged t f p block blocks h =
    stop_append is_damaged t (phases_in t f p block) (flat_map (phases_in t f p) blocks)
    ∙ ap (λ (o : Option Stop). option_or o (stop_over is_damaged t f p blocks)) h

-- of which not all is written
cut_rows : (is_damaged : Read → Bool) (t : Ty) (f p : Tree) (limit : Option ℕ) (block : ℕ × List Val) (blocks : List (ℕ × List Val)) (before after : Progress)
    → BlockRan t f p block before after (Ok tt) → AddedPrefix before.output.bytes after.output.bytes (row_lines (first_of_rows limit (rows_in t f p block)))
    → list_any is_damaged (phase_reads (block_phases t [] f p block)) ≡ false
    → AddedPrefix before.output.bytes after.output.bytes (row_lines (rows_over is_damaged t f p limit (block ∷ blocks)))
cut_rows is_damaged t f p limit block blocks before after ran part k =
    let none = unslotted_none is_damaged t (block_phases t [] f p block) k ran.1 in
    let own = first_of_rows limit (rows_in t f p block) in
    let others = rows_over is_damaged t f p (limit_behind limit (length (rows_in t f p block))) blocks in
    subst (λ (rows : List Val). AddedPrefix before.output.bytes after.output.bytes (row_lines rows)) (sym (written_rows is_damaged t f p limit block blocks none))
    (subst (AddedPrefix before.output.bytes after.output.bytes) (sym (lines_append own others))
    (prefix_of_more before.output.bytes after.output.bytes (row_lines own) (row_lines others) part))

finds_cut : (t : Ty) (f p : Tree) (limit : Option ℕ) (block : ℕ × List Val) (blocks : List (ℕ × List Val)) (before after : Progress) (end : RunEnd)
    → CutsIn t f p limit block before after end → FindsOver t f p limit (block ∷ blocks) before after end
finds_cut t f p limit block blocks before after without_room c =
    record {
      made = phase_reads (block_phases t [] f p block);
      grown = c.ran.0;
      found = λ is_damaged k. cut_rows is_damaged t f p limit block blocks before after c.ran c.part k;
      counted = λ is_damaged k. tt;
      all = tt;
    }
finds_cut t f p limit block blocks before after without_output c =
    record {
      made = phase_reads (block_phases t [] f p block);
      grown = c.ran.0;
      found = λ is_damaged k. (cut_rows is_damaged t f p limit block blocks before after c.ran c.part k, c.cuts);
      counted = λ is_damaged k. tt;
      all = tt;
    }
finds_cut t f p limit block blocks before after finished c = absurd c.cuts
finds_cut t f p limit block blocks before after without_value c = absurd c.cuts
finds_cut t f p limit block blocks before after without_column c = absurd c.cuts

-- ---- and on over the others

-- counts that stay at a greatest value
more_more : (top a b c : ℕ) → min (min (a + b) top + c) top ≡ min (a + (b + c)) top
more_more top a b c = omega arith

found_on : (end : RunEnd) (is_damaged : Read → Bool) (stop : Option Stop) (xs rows : List Val) (failed : Option Read) (before middle after : End)
    → Added before.bytes middle.bytes (row_lines xs) → before.faults ≤ middle.faults
    → FindsRows end is_damaged stop rows failed middle after → FindsRows end is_damaged stop (xs ++ rows) failed before after
found_on end is_damaged stop xs rows failed before middle after whole later = by-end end
  where
    added : Added middle.bytes after.bytes (row_lines rows) → Added before.bytes after.bytes (row_lines (xs ++ rows))
    added h =
        subst (Added before.bytes after.bytes) (sym (lines_append xs rows))
        (added_both before.bytes middle.bytes after.bytes (row_lines xs) (row_lines rows) whole h)

    part : AddedPrefix middle.bytes after.bytes (row_lines rows) → AddedPrefix before.bytes after.bytes (row_lines (xs ++ rows))
    part h =
        subst (AddedPrefix before.bytes after.bytes) (sym (lines_append xs rows))
        (prefix_behind before.bytes middle.bytes after.bytes (row_lines xs) (row_lines rows) whole h)

    by-end : (end : RunEnd) → FindsRows end is_damaged stop rows failed middle after → FindsRows end is_damaged stop (xs ++ rows) failed before after
    by-end finished h = (h.0, added h.1)
    by-end without_value h = (h.0, added h.1)
    by-end without_column h = (h.0, h.1, part h.2, λ d. ((h.3 d).0, added (h.3 d).1))
    by-end without_room h = part h
    by-end without_output h = (part h.0, one_more_later before.faults middle.faults after.faults later h.1)

counted_on : (end : RunEnd) (xs rows : List Val) (before middle after : Progress) → middle.rows ≡ more_rows before.rows (length xs)
    → CountsRows end rows middle after → CountsRows end (xs ++ rows) before after
counted_on finished xs rows before middle after counted h =
    h ∙ ap (λ (n : ℕ). more_rows n (length rows)) counted ∙ more_more (2 ^ 64 - 1) before.rows (length xs) (length rows)
    ∙ ap (more_rows before.rows) (sym (length-append xs rows))
counted_on without_value xs rows before middle after counted h = tt
counted_on without_column xs rows before middle after counted h = tt
counted_on without_room xs rows before middle after counted h = tt
counted_on without_output xs rows before middle after counted h = tt

all_on : (end : RunEnd) (t : Ty) (f p : Tree) (block : ℕ × List Val) (blocks : List (ℕ × List Val)) (before middle after : Progress) (made : List Read)
    → middle.scanned ≡ before.scanned + 1 → ScansAll end t f p blocks middle after made
    → ScansAll end t f p (block ∷ blocks) before after (phase_reads (block_phases t [] f p block) ++ made)
all_on finished t f p block blocks before middle after made one h = (
  omega (arith, h.0, one),
  ap (λ (rs : List Read). rs ++ made) (sym (unslotted_reads (block_phases t [] f p block))) ∙ ap (λ (rs : List Read). slotted_reads (phases_in t f p block) ++ rs) h.1
      ∙ sym (flat_map-append (λ (s : SlottedPhase). s.phase.reads) (phases_in t f p block) (flat_map (phases_in t f p) blocks)),
)
all_on without_value t f p block blocks before middle after made one h = tt
all_on without_column t f p block blocks before middle after made one h = tt
all_on without_room t f p block blocks before middle after made one h = tt
all_on without_output t f p block blocks before middle after made one h = tt

finds_on : (t : Ty) (f p : Tree) (limit : Option ℕ) (block : ℕ × List Val) (blocks : List (ℕ × List Val)) (before middle after : Progress) (end : RunEnd)
    → WritesIn t f p limit block before middle → FindsOver t f p (limit_behind limit (length (rows_in t f p block))) blocks middle after end
    → FindsOver t f p limit (block ∷ blocks) before after end
finds_on t f p limit block blocks before middle after end w rest =
    let reads = phase_reads (block_phases t [] f p block) in
    let own = first_of_rows limit (rows_in t f p block) in
    record {
      made = reads ++ rest.made;
      grown = rest.grown ∙ ap (λ (log : List Read). log ++ rest.made) w.ran.0 ∙ append_assoc before.store.log reads rest.made;
      found = λ is_damaged k.
          let clean = undamaged_parts is_damaged reads rest.made k in
          let none = unslotted_none is_damaged t (block_phases t [] f p block) clean.0 w.ran.1 in
          let others = rows_over is_damaged t f p (limit_behind limit (length (rows_in t f p block))) blocks in
          subst (λ (stop : Option Stop). FindsRows end is_damaged stop (rows_over is_damaged t f p limit (block ∷ blocks)) after.store.failed before.output after.output)
          (sym (others_stop is_damaged t f p block blocks none))
          (subst (λ (rows : List Val). FindsRows end is_damaged (stop_over is_damaged t f p blocks) rows after.store.failed before.output after.output)
          (sym (written_rows is_damaged t f p limit block blocks none))
          (found_on end is_damaged (stop_over is_damaged t f p blocks) own others after.store.failed before.output middle.output after.output w.whole w.later
          (rest.found is_damaged clean.1)));
      counted = λ is_damaged k.
          let clean = undamaged_parts is_damaged reads rest.made k in
          let none = unslotted_none is_damaged t (block_phases t [] f p block) clean.0 w.ran.1 in
          let others = rows_over is_damaged t f p (limit_behind limit (length (rows_in t f p block))) blocks in
          subst (λ (rows : List Val). CountsRows end rows before after) (sym (written_rows is_damaged t f p limit block blocks none))
          (counted_on end own others before middle after w.rows (rest.counted is_damaged clean.1));
      all = all_on end t f p block blocks before middle after rest.made w.scanned rest.all;
    }

finds_over : (t : Ty) (f p : Tree) (limit : Option ℕ) (blocks : List (ℕ × List Val)) (before after : Progress) (end : RunEnd)
    → before.rows ≤ 2 ^ 64 - 1 → RunsOver t f p limit blocks before after end → FindsOver t f p limit blocks before after end
finds_over t f p limit [] before after end few h =
    subst (FindsOver t f p limit [] before after) (sym h.0)
    (subst (λ (now : Progress). FindsOver t f p limit [] before now finished) (sym h.1) (finds_nothing t f p limit before few))
finds_over t f p limit (block ∷ blocks) before after end few h =
    ⊎_elim
    (λ (s : StopsIn t f p block before after end). finds_stopped (kind_of s.error) t f p limit block blocks before after end s.ran s.stops s.unwritten)
    (λ (r : CutsIn t f p limit block before after end
    ⊎ ((middle : Progress) × WritesIn t f p limit block before middle
    × RunsOver t f p (limit_behind limit (length (rows_in t f p block))) blocks middle after end)).
    ⊎_elim
    (λ (c : CutsIn t f p limit block before after end). finds_cut t f p limit block blocks before after end c)
    (λ (m : (middle : Progress) × WritesIn t f p limit block before middle
    × RunsOver t f p (limit_behind limit (length (rows_in t f p block))) blocks middle after end).
    let small : m.0.rows ≤ 2 ^ 64 - 1 = omega (arith, m.1.rows) in
    finds_on t f p limit block blocks before m.0 after end m.1
    (finds_over t f p (limit_behind limit (length (rows_in t f p block))) blocks m.0 after end small m.2))
    r)
    h

-- ---- how many rows there are

-- the rows of blocks
abbrev rows_held : List (ℕ × List Val) → ℕ
rows_held [] = 0
rows_held (block ∷ blocks) = length block.1 + rows_held blocks

length-first : (limit : Option ℕ) (rows : List Val) → length (first_of_rows limit rows) ≤ length rows
length-first None rows = omega arith
length-first (Some n) rows = omega (arith, length-take n rows)

length-filter : {X : Type 0} (test : X → Bool) (xs : List X) → length (filter test xs) ≤ length xs
length-filter test [] = omega arith
length-filter test (x ∷ xs) = by-test (test x) (length-filter test xs)
  where
    by-test : (b : Bool) → length (filter test xs) ≤ length xs → length (cond b (x ∷ filter test xs) (filter test xs)) ≤ suc (length xs)
    by-test true h = omega arith
    by-test false h = omega arith

length-rows_in : (t : Ty) (f p : Tree) (block : ℕ × List Val) → length (rows_in t f p block) ≤ length block.1
length-rows_in t f p block =
    omega (
      arith,
      length-map (matching_rows t [] f block.1) (λ row. mean t [] row p),
      length-filter (λ row. is_true_val (mean t [] row f)) block.1,
    )

length-rows_before : (is_damaged : Read → Bool) (t : Ty) (f p : Tree) (blocks : List (ℕ × List Val))
    → length (flat_map (rows_in t f p) (before_stop is_damaged t f p blocks)) ≤ rows_held blocks
length-rows_before is_damaged t f p [] = omega arith
length-rows_before is_damaged t f p (block ∷ blocks) =
    by-test (is_some (first_stop is_damaged t (phases_in t f p block))) (length-rows_before is_damaged t f p blocks)
  where
    by-test : (b : Bool) → length (flat_map (rows_in t f p) (before_stop is_damaged t f p blocks)) ≤ rows_held blocks
        → length (flat_map (rows_in t f p) (cond b [] (block ∷ before_stop is_damaged t f p blocks))) ≤ length block.1 + rows_held blocks
    by-test true h = omega arith
    by-test false h =
        omega (
          arith,
          length-append (rows_in t f p block) (flat_map (rows_in t f p) (before_stop is_damaged t f p blocks)),
          length-rows_in t f p block,
          h,
        )

held-scanned_for : (t : Ty) (f p : Tree) (n : ℕ) (blocks : List (ℕ × List Val)) → rows_held (scanned_for t f p n blocks) ≤ rows_held blocks
held-scanned_for t f p n [] = omega arith
held-scanned_for t f p n (block ∷ blocks) =
    by-test (nat_eq n 0) (held-scanned_for t f p (n - length (rows_in t f p block)) blocks)
  where
    by-test : (b : Bool) → rows_held (scanned_for t f p (n - length (rows_in t f p block)) blocks) ≤ rows_held blocks
        → rows_held (cond b [] (block ∷ scanned_for t f p (n - length (rows_in t f p block)) blocks)) ≤ length block.1 + rows_held blocks
    by-test true h = omega arith
    by-test false h = omega (arith, h)

held-scanned_of : (t : Ty) (f p : Tree) (limit : Option ℕ) (blocks : List (ℕ × List Val)) → rows_held (scanned_of t f p limit blocks) ≤ rows_held blocks
held-scanned_of t f p None blocks = omega arith
held-scanned_of t f p (Some n) blocks = held-scanned_for t f p n blocks

held-filter : (test : ℕ × List Val → Bool) (blocks : List (ℕ × List Val)) → rows_held (filter test blocks) ≤ rows_held blocks
held-filter test [] = omega arith
held-filter test (block ∷ blocks) = by-test (test block) (held-filter test blocks)
  where
    by-test : (b : Bool) → rows_held (filter test blocks) ≤ rows_held blocks
        → rows_held (cond b (block ∷ filter test blocks) (filter test blocks)) ≤ length block.1 + rows_held blocks
    by-test true h = omega (arith, h)
    by-test false h = omega (arith, h)

held-numbered : (n : ℕ) (blocks : List (List Val)) → rows_held (numbered_from n blocks) ≡ sum (map length blocks)
held-numbered n [] = refl
held-numbered n (rows ∷ blocks) =
    ap (λ (k : ℕ). length rows + k) (held-numbered (suc n) blocks) ∙ sym (sum_by-cons (λ (x : ℕ). x) (length rows) (map length blocks))

few_rows : (is_damaged : Read → Bool) (table : Table) (zones : Zones) (f p : Tree) (limit : Option ℕ)
    → length (rows_over is_damaged (row_type table.columns) f p limit (blocks_scanned table zones f p limit)) ≤ sum (map length table.blocks)
few_rows is_damaged table zones f p limit =
    let t = row_type table.columns in
    let scanned = blocks_scanned table zones f p limit in
    omega (
      arith,
      length-first limit (flat_map (rows_in t f p) (before_stop is_damaged t f p scanned)),
      length-rows_before is_damaged t f p scanned,
      held-scanned_of t f p limit (kept_of table zones [] f),
      held-filter (λ b. not (rules_out zones [] b.0 f)) (numbered_from 0 table.blocks),
      held-numbered 0 table.blocks,
    )

-- ---- the answer

-- whatever stops a run, its rows are written
output_is : (table : Table) (found : Found) (stop : Option Stop) → row_lines found.rows ≡ (answer_stopped table found stop).output
output_is table found None = refl
output_is table found (Some damaged) = refl
output_is table found (Some broken) = refl

pub writes_answer : (end : RunEnd) (is_damaged : Read → Bool) (table : Table) (found : Found) (counts : Counts) (failed : Option Read) (before after : End)
    → FindsRows end is_damaged (first_stop is_damaged (row_type table.columns) found.phases) found.rows failed before after
    → (end ≡ finished → counts_of table found ≡ counts) → WritesAnswer end is_damaged (answer_found is_damaged table found) counts failed before after
writes_answer end is_damaged table found counts failed before after h counted = by-end end h counted
  where
    stop : Option Stop
    stop = first_stop is_damaged (row_type table.columns) found.phases

    part : AddedPrefix before.bytes after.bytes (row_lines found.rows) → AddedPrefix before.bytes after.bytes (answer_stopped table found stop).output
    part k = subst (AddedPrefix before.bytes after.bytes) (output_is table found stop) k

    by-end : (end : RunEnd) → FindsRows end is_damaged stop found.rows failed before after → (end ≡ finished → counts_of table found ≡ counts)
        → WritesAnswer end is_damaged (answer_stopped table found stop) counts failed before after
    by-end finished k same =
        subst (λ (s : Option Stop). WritesAnswer finished is_damaged (answer_stopped table found s) counts failed before after) (sym k.0)
        (refl, k.1, ap Some (same refl))
    by-end without_value k same =
        subst (λ (s : Option Stop). WritesAnswer without_value is_damaged (answer_stopped table found s) counts failed before after) (sym k.0) (refl, k.1)
    by-end without_column k same = (
      k.0,
      k.1,
      part k.2,
      λ d.
          subst (λ (s : Option Stop). ((answer_stopped table found s).status ≡ 3) × Added before.bytes after.bytes (answer_stopped table found s).output)
          (sym (k.3 d).0) (refl, (k.3 d).1),
    )
    by-end without_room k same = part k
    by-end without_output k same = (part k.0, k.1)

same_counts : (end : RunEnd) (is_damaged : Read → Bool) (table : Table) (zones : Zones) (f p : Tree) (limit : Option ℕ) (before after : Progress) (made : List Read)
    → sum (map length table.blocks) < 2 ^ 64 → before.rows ≡ 0 → before.scanned ≡ 0
    → ScansAll end (row_type table.columns) f p (blocks_scanned table zones f p limit) before after made
    → CountsRows end (found_in_order is_damaged table zones f p limit).rows before after → end ≡ finished
    → counts_of table (found_in_order is_damaged table zones f p limit) ≡ counts_by table made (length table.blocks - after.scanned) after.rows
same_counts finished is_damaged table zones f p limit before after made few no_rows no_blocks all counted is =
    let t = row_type table.columns in
    let scanned = blocks_scanned table zones f p limit in
    let found = found_in_order is_damaged table zones f p limit in
    let small : length found.rows ≤ sum (map length table.blocks) = few_rows is_damaged table zones f p limit in
    let rows : length found.rows ≡ after.rows = omega (arith, counted, no_rows, small, few) in
    let skipped : length table.blocks - length scanned ≡ length table.blocks - after.scanned = omega (arith, all.0, no_blocks) in
    λ i.
    record {
      blocks = length table.blocks;
      skipped = skipped i;
      columns = length (field_names table.columns);
      columns_read = length (read_columns table (sym all.1 i));
      rows = rows i;
    }
same_counts without_value is_damaged table zones f p limit before after made few no_rows no_blocks all counted is = let no : ⊥ = cc in absurd no
same_counts without_column is_damaged table zones f p limit before after made few no_rows no_blocks all counted is = let no : ⊥ = cc in absurd no
same_counts without_room is_damaged table zones f p limit before after made few no_rows no_blocks all counted is = let no : ⊥ = cc in absurd no
same_counts without_output is_damaged table zones f p limit before after made few no_rows no_blocks all counted is = let no : ⊥ = cc in absurd no

pub ordered_runs_write_answers : OrderedRunsWriteAnswers
ordered_runs_write_answers is_damaged table zones f p limit before after made end few no_rows no_blocks runs grown clean =
    let t = row_type table.columns in
    let scanned = blocks_scanned table zones f p limit in
    let start : before.rows ≤ 2 ^ 64 - 1 = omega (arith, no_rows) in
    let over = finds_over t f p limit scanned before after end start runs in
    let own : over.made ≡ made = append_cancel_left before.store.log over.made made (sym over.grown ∙ grown) in
    let own_clean : list_any is_damaged over.made ≡ false = ap (list_any is_damaged) own ∙ clean in
    writes_answer end is_damaged table (found_in_order is_damaged table zones f p limit) (counts_by table made (length table.blocks - after.scanned) after.rows)
    after.store.failed before.output after.output (over.found is_damaged own_clean)
    (same_counts end is_damaged table zones f p limit before after made few no_rows no_blocks
    (subst (ScansAll end t f p scanned before after) own over.all) (over.counted is_damaged own_clean))
