-- A run by a key writes the answer.
use Rattle.std.proofs.Common.{◌≡◌, ap, sym, ◌∙◌, ℕ, Bool, false, Option, Some, None, List, [], length, ⊎_elim, subst}
use Rattle.std.specs.List.{list_any}
use Rattle.vx_dtype.specs.TypeRules.{field_names}
use Rattle.vx_dtype.specs.Values.{Val}
use Rattle.vx_io.specs.Ends.{Added, AddedPrefix}
use Rattle.vx_semantics.specs.Tables.{Table, Zones, row_type}
use Rattle.vx_semantics.specs.Scans.{read_columns}
use Rattle.vx_laws_topk.specs.TopRows.{TopAsk, top_rows_of}
use Rattle.vx_laws_topk.specs.TopPhases.{top_phases}
use Rattle.vx_scan.specs.Stores.{Read}
use Rattle.vx_laws_shell.specs.Answers.{Stop, damaged, broken, first_stop, rows_unless, found_by_key, counts_of}
use Rattle.vx_laws_shell.specs.KeyedRuns.{FoundKeyed, CutKeyed, RunsByKey, KeyedRunsWriteAnswers}
use Rattle.vx_laws_shell.specs.Lines.{row_lines}
use Rattle.vx_laws_shell.specs.OrderedRuns.{RunEnd, finished, without_value, without_column, without_room, without_output, counts_by}
use Rattle.vx_laws_shell.specs.Running.{End}
use Rattle.vx_laws_shell.proofs.Adding.{added_nothing, added_none_of}
use Rattle.vx_laws_shell.proofs.OrderedRuns.{FindsRows, writes_answer}
use Rattle.vx_laws_shell.proofs.Stops.{stop_none, stop_broken, stop_damaged}

-- how the phases stop the run
abbrev stop_of : (Read → Bool) → TopAsk → Table → Zones → Option Stop
stop_of is_damaged ask table zones = first_stop is_damaged (row_type table.columns) (top_phases ask table zones)

-- where they don't, the rows are the first by the key; else there is none
found_none : (is_damaged : Read → Bool) (ask : TopAsk) (table : Table) (zones : Zones) (made : List Read) → FoundKeyed ask table zones made
    → list_any is_damaged made ≡ false → stop_of is_damaged ask table zones ≡ None
found_none is_damaged ask table zones made h clean =
    stop_none is_damaged (row_type table.columns) (top_phases ask table zones) (ap (list_any is_damaged) (sym h.0) ∙ clean) h.1

rows_whole : (is_damaged : Read → Bool) (ask : TopAsk) (table : Table) (zones : Zones) → stop_of is_damaged ask table zones ≡ None
    → (found_by_key is_damaged table zones ask).rows ≡ top_rows_of ask table zones
rows_whole is_damaged ask table zones none = ap (λ (o : Option Stop). rows_unless o (top_rows_of ask table zones)) none

no_row : (is_damaged : Read → Bool) (ask : TopAsk) (table : Table) (zones : Zones) (stop : Stop) → stop_of is_damaged ask table zones ≡ Some stop
    → (found_by_key is_damaged table zones ask).rows ≡ []
no_row is_damaged ask table zones stop h = ap (λ (o : Option Stop). rows_unless o (top_rows_of ask table zones)) h

nothing_written : (before after : End) (rows : List Val) → after ≡ before → rows ≡ [] → Added before.bytes after.bytes (row_lines rows)
nothing_written before after rows same none =
    subst (λ (end : End). Added before.bytes end.bytes (row_lines rows)) (sym same)
    (subst (λ (rs : List Val). Added before.bytes before.bytes (row_lines rs)) (sym none) (added_nothing before.bytes))

first_bytes : (before after : End) (lines : List ℕ) → after ≡ before → AddedPrefix before.bytes after.bytes lines
first_bytes before after lines same = subst (λ (end : End). AddedPrefix before.bytes end.bytes lines) (sym same) (added_none_of before.bytes lines)

cut_part : (is_damaged : Read → Bool) (ask : TopAsk) (table : Table) (zones : Zones) (made : List Read) (before after : End)
    → CutKeyed ask table zones made before after → list_any is_damaged made ≡ false
    → AddedPrefix before.bytes after.bytes (row_lines (found_by_key is_damaged table zones ask).rows)
cut_part is_damaged ask table zones made before after h clean =
    subst (λ (rows : List Val). AddedPrefix before.bytes after.bytes (row_lines rows))
    (sym (rows_whole is_damaged ask table zones (found_none is_damaged ask table zones made h.0 clean))) h.1

finds_keyed : (is_damaged : Read → Bool) (ask : TopAsk) (table : Table) (zones : Zones) (made : List Read) (failed : Option Read) (skipped rows : ℕ) (before after : End)
    (end : RunEnd) → RunsByKey end ask table zones made failed skipped rows before after → list_any is_damaged made ≡ false
    → FindsRows end is_damaged (stop_of is_damaged ask table zones) (found_by_key is_damaged table zones ask).rows failed before after
finds_keyed is_damaged ask table zones made failed skipped rows before after finished h clean =
    let none = found_none is_damaged ask table zones made h.0 clean in (
      none,
      subst (λ (rs : List Val). Added before.bytes after.bytes (row_lines rs)) (sym (rows_whole is_damaged ask table zones none)) h.1,
    )
finds_keyed is_damaged ask table zones made failed skipped rows before after without_value h clean =
    let stop = stop_broken is_damaged (row_type table.columns) h.0 (top_phases ask table zones) (ap (list_any is_damaged) (sym h.1) ∙ clean) h.2 in
    (stop, nothing_written before after (found_by_key is_damaged table zones ask).rows h.3 (no_row is_damaged ask table zones broken stop))
finds_keyed is_damaged ask table zones made failed skipped rows before after without_column h clean = (
  h.0,
  h.2,
  first_bytes before after (row_lines (found_by_key is_damaged table zones ask).rows) h.4,
  λ d.
      let stop = stop_damaged is_damaged (row_type table.columns) (top_phases ask table zones) made h.1 h.0 h.3 clean d in
      (stop, nothing_written before after (found_by_key is_damaged table zones ask).rows h.4 (no_row is_damaged ask table zones damaged stop)),
)
finds_keyed is_damaged ask table zones made failed skipped rows before after without_room h clean =
    ⊎_elim
    (λ (same : after ≡ before). first_bytes before after (row_lines (found_by_key is_damaged table zones ask).rows) same)
    (λ (k : CutKeyed ask table zones made before after). cut_part is_damaged ask table zones made before after k clean)
    h
finds_keyed is_damaged ask table zones made failed skipped rows before after without_output h clean =
    (cut_part is_damaged ask table zones made before after h.0 clean, h.1)

counts_keyed : (is_damaged : Read → Bool) (ask : TopAsk) (table : Table) (zones : Zones) (made : List Read) (failed : Option Read) (skipped rows : ℕ) (before after : End)
    (end : RunEnd) → RunsByKey end ask table zones made failed skipped rows before after → list_any is_damaged made ≡ false → end ≡ finished
    → counts_of table (found_by_key is_damaged table zones ask) ≡ counts_by table made skipped rows
counts_keyed is_damaged ask table zones made failed skipped rows before after finished h clean is =
    let none = found_none is_damaged ask table zones made h.0 clean in
    let all : (found_by_key is_damaged table zones ask).rows ≡ top_rows_of ask table zones = rows_whole is_damaged ask table zones none in
    let number : length (found_by_key is_damaged table zones ask).rows ≡ rows = ap (λ (rs : List Val). length rs) all ∙ sym h.3 in
    λ i.
    record {
      blocks = length table.blocks;
      skipped = sym h.2 i;
      columns = length (field_names table.columns);
      columns_read = length (read_columns table (sym h.0.0 i));
      rows = number i;
    }
counts_keyed is_damaged ask table zones made failed skipped rows before after without_value h clean is = let no : ⊥ = cc in absurd no
counts_keyed is_damaged ask table zones made failed skipped rows before after without_column h clean is = let no : ⊥ = cc in absurd no
counts_keyed is_damaged ask table zones made failed skipped rows before after without_room h clean is = let no : ⊥ = cc in absurd no
counts_keyed is_damaged ask table zones made failed skipped rows before after without_output h clean is = let no : ⊥ = cc in absurd no

pub keyed_runs_write_answers : KeyedRunsWriteAnswers
keyed_runs_write_answers is_damaged ask table zones made failed skipped rows before after end h clean =
    writes_answer end is_damaged table (found_by_key is_damaged table zones ask) (counts_by table made skipped rows) failed before after
    (finds_keyed is_damaged ask table zones made failed skipped rows before after end h clean)
    (counts_keyed is_damaged ask table zones made failed skipped rows before after end h clean)
