-- How a run ends whose arguments ask the scan of a generated table, and what it leaves.
use Rattle.std.proofs.Common.{◌≡◌, ◌∙◌, sym, ap, refl, subst, ℕ, true, [], map, length, Option, Some, None, true≢false}
use Rattle.std.specs.List.{flat_map, list_all}
use Rattle.std.proofs.lemmas.List.{length-map}
use Rattle.std.proofs.lemmas.Option.{same_Some}
use Rattle.vx_semantics.specs.Scans.{kept_of, kept_blocks}
use Rattle.vx_semantics.specs.Tables.{row_type}
use Rattle.vx_laws_scan.specs.Pruned.{KeptNumbersAreKeptBlocks}
use Rattle.vx_laws_scan.proofs.BlockReads.{block_reads, reads_by_block}
use Rattle.vx_io.specs.Ends.{Added}
use Rattle.vx_scan.specs.BlockRuns.{block_asked}
use Rattle.vx_scan.specs.ScanLaws.{is_asked_read}
use Rattle.vx_scan.specs.Scanning.{AreAmong, asked_reads}
use Rattle.vx_scan.specs.Stores.{StoreSeen}
use Rattle.vx_scan.proofs.AskedLemmas.{reads_are_asked}
use Rattle.vx_request.specs.Requests.{RequestedScan}
use Rattle.vx_laws_generated.specs.GeneratedTable.{block_numbers, block_length, generated_block, generated_table, generated_zones, generated_filter, generated_projection}
use Rattle.vx_laws_generated.specs.GeneratedLine.{gen_line}
use Rattle.vx_generated.specs.GeneratedBlocks.{generated_blocks, generated_reads, generated_store}
use Rattle.vx_query.specs.Running.{End, Form, scan_form, explain_form, show_form, gen_form, top_form, words_of, file_form, scan_file_form, help_form, version_form, asked_rows, Outcome, misused, helped, versioned, out_of_memory, unread, refused, unscanned, broken, answered, explained, undecoded, unshown, shown, unnamed, unserialized, overlong, named, summed, unkeyed, top_broken, topped, unfiled, filed, file_ended, Writing, whole, cut, IsOutcome, IsWriting, IsRun, status_of, outcome_text, used_by}
use Rattle.vx_query.specs.Exactly.{RunsWell, EndsWith}
use Rattle.vx_query.specs.GeneratedCauses.{GeneratedEnd, with_line, cut_off, without_memory, HasGeneratedReads}
use Rattle.vx_query.proofs.FormLemmas.{others_take_nothing}
use Rattle.vx_query.proofs.ReadLemmas.{blocks_among}
use Rattle.vx_query.proofs.RequestEnds.{not_none}

-- such arguments are of no other form
asks_other : (rows : ℕ) (other : Option Form) → asked_rows other ≡ None → ¬ (Some (gen_form rows) ≡ other)
asks_other rows other none same = not_none (ap asked_rows same ∙ none)

-- the number of rows of a run is the one that is given
same_rows : (rows other : ℕ) → Some (gen_form rows) ≡ Some (gen_form other) → other ≡ rows
same_rows rows other h = same_Some _ _ (sym (ap asked_rows h))

pub generated_end : (rows : ℕ) (i i' o o' : End) (used : Option StoreSeen) (status : ℕ) → IsRun (Some (gen_form rows)) i i' o o' used status
    → GeneratedEnd rows i i' o o' used status
generated_end rows i i' o o' used status run =
    by run.outcome run.writing run.comes run.written run.held (others_take_nothing (Some (gen_form rows)) i i' o o' used status refl run)
  where
    by : (outcome : Outcome) (writing : Writing) → IsOutcome (Some (gen_form rows)) i i' outcome
        → IsWriting o o' (outcome_text outcome) (status_of outcome) status writing → used ≡ used_by outcome → i' ≡ i → GeneratedEnd rows i i' o o' used status
    by outcome cut comes written held untaken = cut_off written.0 written.1.1 untaken
    by misused whole comes written held untaken = absurd (not_none comes.0)
    by helped whole comes written held untaken = absurd (asks_other rows (Some help_form) refl comes.0)
    by versioned whole comes written held untaken = absurd (asks_other rows (Some version_form) refl comes.0)
    by out_of_memory whole comes written held untaken = without_memory written.0 untaken held
    by unread whole comes written held untaken = absurd (true≢false (sym comes.reads))
    by (refused input e) whole comes written held untaken = absurd (true≢false (sym comes.asks))
    by (unscanned input e) whole comes written held untaken = absurd (true≢false (sym comes.asks))
    by (broken chosen cause input a f p) whole comes written held untaken = absurd (asks_other rows (Some (scan_form chosen)) refl comes.asks)
    by (answered chosen input a f p) whole comes written held untaken = absurd (asks_other rows (Some (scan_form chosen)) refl comes.asks)
    by (explained input a f p) whole comes written held untaken = absurd (asks_other rows (Some explain_form) refl comes.asks)
    by undecoded whole comes written held untaken = absurd (not_none (sym comes.asks))
    by (unshown e) whole comes written held untaken = absurd (not_none (sym comes.asks))
    by (shown showing e) whole comes written held untaken = absurd (asks_other rows (Some (show_form showing comes.word)) refl comes.asks)
    by (unnamed e) whole comes written held untaken = absurd (not_none (sym comes.asks))
    by unserialized whole comes written held untaken = absurd (not_none (sym comes.asks))
    by overlong whole comes written held untaken = absurd (not_none (sym comes.asks))
    by (named e) whole comes written held untaken = absurd (not_none (sym comes.asks))
    by (summed other) whole comes written held untaken =
        let same = same_rows rows other comes.0 in
        with_line written.0 record {
          untaken = untaken;
          written = subst (λ n. Added o.bytes o'.bytes (gen_line n)) same written.1.0;
          held = held ∙ ap (λ n. Some (generated_store n)) same;
        }
    by (unkeyed top input r) whole comes written held untaken = absurd (asks_other rows (Some (top_form top)) refl comes.asks)
    by (top_broken cause input a ask) whole comes written held untaken = absurd (asks_other rows (Some (top_form (words_of ask))) refl comes.asks)
    by (topped input a ask) whole comes written held untaken = absurd (asks_other rows (Some (top_form (words_of ask))) refl comes.asks)
    by (unfiled input) whole comes written held untaken = absurd (asks_other rows (Some file_form) refl comes.asks)
    by (filed input a) whole comes written held untaken = absurd (asks_other rows (Some file_form) refl comes.asks)
    by (file_ended input ending) whole comes written held untaken = absurd (asks_other rows (Some scan_file_form) refl comes.asks)

-- where there is memory, and the sink counts no fault, it ends with the line
pub was_summed_whole : (rows : ℕ) (i i' o o' : End) (used : Option StoreSeen) (status : ℕ) → RunsWell (Some (gen_form rows)) i i' o o' used status
    → EndsWith 0 (gen_line rows) o o' status
was_summed_whole rows i i' o o' used status well = by (generated_end rows i i' o o' used status well.run)
  where
    by : GeneratedEnd rows i i' o o' used status → EndsWith 0 (gen_line rows) o o' status
    by (with_line s told) = (s, told.written)
    by (cut_off s risen untaken) = absurd (well.quiet risen)
    by (without_memory s untaken unheld) = absurd (well.memory s)

-- ---- the store

generated_among : KeptNumbersAreKeptBlocks → (rows : ℕ)
    → AreAmong (generated_reads rows) (asked_reads (generated_zones rows) [] (generated_filter rows) generated_projection)
generated_among kept rows =
    let zones = generated_zones rows in
    let table = generated_table rows in
    let f = generated_filter rows in
    let p = generated_projection in
    let a : RequestedScan = record { zones = zones; blocks = generated_blocks rows; filter = []; projection = [] } in
    let blocks = kept_of table zones [] f in
    let many : length table.blocks ≡ length zones.lengths =
    length-map (block_numbers rows) (generated_block rows) ∙ sym (length-map (block_numbers rows) (block_length rows)) in
    let numbers : map (λ b. b.0) blocks ≡ kept_blocks zones [] f = kept zones table [] f many in
    subst (λ rs. AreAmong rs (asked_reads zones [] f p)) (sym (reads_by_block table zones [] f p))
    (subst (λ ns. AreAmong (flat_map (block_reads (row_type zones.columns) [] f p) blocks) (flat_map (block_asked zones f p) ns)) numbers (blocks_among a f p blocks))

store_of : (rows : ℕ) (i i' o o' : End) (store : StoreSeen) (status : ℕ) → IsRun (Some (gen_form rows)) i i' o o' (Some store) status → store ≡ generated_store rows
store_of rows i i' o o' store status run = by run.outcome run.comes run.held
  where
    by : (outcome : Outcome) → IsOutcome (Some (gen_form rows)) i i' outcome → Some store ≡ used_by outcome → store ≡ generated_store rows
    by misused comes held = absurd (not_none held)
    by helped comes held = absurd (not_none held)
    by versioned comes held = absurd (not_none held)
    by out_of_memory comes held = absurd (not_none held)
    by unread comes held = absurd (not_none held)
    by (refused input e) comes held = absurd (not_none held)
    by (unscanned input e) comes held = absurd (not_none held)
    by (broken chosen cause input a f p) comes held = absurd (asks_other rows (Some (scan_form chosen)) refl comes.asks)
    by (answered chosen input a f p) comes held = absurd (asks_other rows (Some (scan_form chosen)) refl comes.asks)
    by (explained input a f p) comes held = absurd (not_none held)
    by undecoded comes held = absurd (not_none held)
    by (unshown e) comes held = absurd (not_none held)
    by (shown showing e) comes held = absurd (not_none held)
    by (unnamed e) comes held = absurd (not_none held)
    by unserialized comes held = absurd (not_none held)
    by overlong comes held = absurd (not_none held)
    by (named e) comes held = absurd (not_none held)
    by (summed other) comes held = same_Some store (generated_store other) held ∙ ap generated_store (same_rows rows other comes.0)
    by (unkeyed top input r) comes held = absurd (not_none held)
    by (top_broken cause input a ask) comes held = absurd (asks_other rows (Some (top_form (words_of ask))) refl comes.asks)
    by (topped input a ask) comes held = absurd (asks_other rows (Some (top_form (words_of ask))) refl comes.asks)
    by (unfiled input) comes held = absurd (not_none held)
    by (filed input a) comes held = absurd (not_none held)
    by (file_ended input ending) comes held = absurd (not_none held)

pub generated_reads_asked : KeptNumbersAreKeptBlocks → (rows : ℕ) (i i' o o' : End) (store : StoreSeen) (status : ℕ)
    → IsRun (Some (gen_form rows)) i i' o o' (Some store) status → HasGeneratedReads rows store
generated_reads_asked kept rows i i' o o' store status run =
    let same = store_of rows i i' o o' store status run in
    record {
      scanned = same;
      all_asked = subst (λ rs. list_all (is_asked_read (generated_zones rows) [] (generated_filter rows) generated_projection) rs ≡ true)
          (sym (ap (λ s. s.log) same))
          (reads_are_asked (generated_zones rows) [] (generated_filter rows) generated_projection (generated_reads rows) (generated_among kept rows));
    }
