-- How the program comes to an end.
use Rattle.std.proofs.Common.{◌≡◌, ◌∙◌, sym, ap, refl, ℕ, ◌+◌, ◌≤◌, length, Option, Some, None, Result, Ok, Err, subst, true, inl, inr}
use Rattle.std.specs.Prelude.{IfErr}
use Rattle.std.specs.Result.{IsErrAnd}
use Rattle.std.specs.declared.string.String.{String}
use Rattle.std.specs.declared.alloc.Global.{Global}
use Rattle.vx_dtype.specs.Types.{Bytes}
use Rattle.vx_semantics.specs.Breaks.{by_sum, by_cast}
use Rattle.vx_io.specs.Counts.{one_more}
use Rattle.vx_io.specs.Ends.{TookUpTo}
use Rattle.vx_scan.specs.Stores.{StoreSeen}
use Rattle.vx_scan.specs.declared.errors.ScanError.{ScanError}
use Rattle.vx_scan.specs.declared.errors.ScanError.TheVariants as scans
use Rattle.vx_laws_generated.specs.GeneratedLine.{gen_line}
use Rattle.vx_generated.specs.GeneratedBlocks.{generated_store}
use Rattle.vx_request.specs.Requests.{most_bytes}
use Rattle.vx_request.specs.declared.errors.RequestError.TheVariants as requests
use Rattle.vx_file_query.specs.FileEndings.{misasked, misfiled, file_unscanned, file_broken, file_reported}
use Rattle.vx_file_query.specs.FileAnswers.{IsFileUnreported}
use Rattle.vx_file_query.specs.declared.errors.FileScanError.TheVariants as files
use Rattle.vx_query.specs.EndingViews.{ending_status, ending_text, EndsBy, IsAnswered}
use Rattle.vx_laws_topk.specs.TopRows.{TopAsk}
use Rattle.vx_query.specs.TopWords.{AskedTop, unknown_key, bad_key}
use Rattle.vx_query.specs.TopViews.{ask_of, TopEndsBy, IsTopAnswered, IsTopUnanswered}
use Rattle.vx_query.specs.Running.{End, Form, HasNoKey, Showing, Statistics, shown_text, scan_form, explain_form, show_form, text_form, gen_form, top_form, file_form, scan_file_form, reads_input, uses_expressions, shown_word, scan_by, Outcome, out_of_memory, unread, refused, unscanned, broken, answered, explained, undecoded, unshown, shown, unnamed, unserialized, overlong, named, summed, unkeyed, top_broken, topped, unfiled, filed, file_ended, Writing, IsOutcome, IsTaken, IsPartTaken, IsWriting, IsRun, status_of, outcome_text, used_by}
use Rattle.vx_query.specs.RefusalViews.{refusal_status, refusal_text, input_refusal, IsUnanswered, IsFileUnanswered, IsFileUnscanned, IsWordUnshown, IsQueryRefused}
use Rattle.vx_query.specs.TextViews.{answer_status, answer_text, ExplainsInput, FilesInput, ReportsFile, ShowsWord, AnswersQuery, IsAnsweredBy}
use Rattle.vx_io.specs.declared.reading.InputError.{InputError}
use Rattle.vx_io.specs.declared.reading.InputError.TheVariants as inputs
use Rattle.vx_query.specs.declared.endings.Ending.{Ending}
use Rattle.vx_query.specs.declared.endings.Ending.TheVariants.{Report, Overflow, BadCast}
use Rattle.vx_query.specs.declared.refusals.Refusal.{Refusal}
use Rattle.vx_query.specs.declared.refusals.Refusal.TheVariants.{NoMemory, ReadFault, InputTooLong, BadJson, BadRequest, BadHex, BadTable, BadHexText, Scan, Query, NotSerializable, LongPart, UnknownKey, BadKey, LongTable, FileScan}
use Rattle.vx_query.proofs.RequestEnds.{uses_reads, requests_read}

-- an outcome that a refusal stands for
abbrev pub EndsRefused : Option Form → End → End → Refusal → Type 0
EndsRefused form before after r =
    (o : Outcome) × IsOutcome form before after o × (status_of o ≡ refusal_status r) × (outcome_text o ≡ refusal_text r) × (used_by o ≡ None)

-- an input that isn't read
pub refused_unread : (form : Option Form) → reads_input form ≡ true → (before after : End) (e : InputError) → IsPartTaken before after
    → (e ≡ inputs.NoMemory → after.faults ≡ before.faults) → (e ≡ inputs.ReadFault → one_more before.faults ≤ after.faults) → EndsRefused form before after (input_refusal e)
refused_unread form reads before after inputs.NoMemory part quiet cause = (out_of_memory, inl (reads, (part, quiet refl)), refl, refl, refl)
refused_unread form reads before after inputs.ReadFault part quiet cause = (unread, record { reads = reads; part = part; risen = cause refl }, refl, refl, refl)

-- an input that is taken and has no report
pub refused_taken : (form : Option Form) → uses_expressions form ≡ true → (before after : End) (input : Bytes) (r : Refusal) → ¬ (HasNoKey form input)
    → IsPartTaken before after → IsTaken before after input → IsUnanswered input r → EndsRefused form before after r
refused_taken form uses before after input NoMemory keyed part taken told =
    (out_of_memory, inl (requests_read form (uses_reads form uses), (part, taken.quiet)), refl, refl, refl)
refused_taken form uses before after input ReadFault keyed part taken told = absurd told
refused_taken form uses before after input InputTooLong keyed part taken told = (refused input requests.InputTooLong, record { asks = uses_reads form uses; taken = taken; holds = told }, refl, refl, refl)
refused_taken form uses before after input BadJson keyed part taken told = (refused input requests.BadJson, record { asks = uses_reads form uses; taken = taken; holds = told }, refl, refl, refl)
refused_taken form uses before after input (BadRequest place) keyed part taken told =
    (refused input (requests.BadRequest place), record { asks = uses_reads form uses; taken = taken; holds = told }, refl, refl, refl)
refused_taken form uses before after input (BadHex side) keyed part taken told = (refused input (requests.BadHex side), record { asks = uses_reads form uses; taken = taken; holds = told }, refl, refl, refl)
refused_taken form uses before after input (BadTable refusal) keyed part taken told =
    (refused input (requests.BadTable refusal), record { asks = uses_reads form uses; taken = taken; holds = told }, refl, refl, refl)
refused_taken form uses before after input BadHexText keyed part taken told = absurd told
refused_taken form uses before after input (Scan e) keyed part taken told = (unscanned input e, record { asks = uses; taken = taken; holds = (told, keyed) }, refl, refl, refl)
refused_taken form uses before after input (Query e) keyed part taken told = absurd told
refused_taken form uses before after input NotSerializable keyed part taken told = absurd told
refused_taken form uses before after input LongPart keyed part taken told = absurd told
refused_taken form uses before after input UnknownKey keyed part taken told = absurd told
refused_taken form uses before after input BadKey keyed part taken told = absurd told
refused_taken form uses before after input LongTable keyed part taken told = absurd told
refused_taken form uses before after input (FileScan e) keyed part taken told = absurd told

-- an input whose table's block file is asked, and that has none
unfiled_taken : (before after : End) (input : Bytes) (r : Refusal) → IsPartTaken before after → IsTaken before after input → IsFileUnanswered input r
    → EndsRefused (Some file_form) before after r
unfiled_taken before after input NoMemory part taken told = (out_of_memory, inl (refl, (part, taken.quiet)), refl, refl, refl)
unfiled_taken before after input ReadFault part taken told = absurd told
unfiled_taken before after input InputTooLong part taken told = (refused input requests.InputTooLong, record { asks = refl; taken = taken; holds = told }, refl, refl, refl)
unfiled_taken before after input BadJson part taken told = (refused input requests.BadJson, record { asks = refl; taken = taken; holds = told }, refl, refl, refl)
unfiled_taken before after input (BadRequest place) part taken told =
    (refused input (requests.BadRequest place), record { asks = refl; taken = taken; holds = told }, refl, refl, refl)
unfiled_taken before after input (BadHex side) part taken told = (refused input (requests.BadHex side), record { asks = refl; taken = taken; holds = told }, refl, refl, refl)
unfiled_taken before after input (BadTable refusal) part taken told =
    (refused input (requests.BadTable refusal), record { asks = refl; taken = taken; holds = told }, refl, refl, refl)
unfiled_taken before after input BadHexText part taken told = absurd told
unfiled_taken before after input (Scan e) part taken told = absurd told
unfiled_taken before after input (Query e) part taken told = absurd told
unfiled_taken before after input NotSerializable part taken told = absurd told
unfiled_taken before after input LongPart part taken told = absurd told
unfiled_taken before after input LongTable part taken told = (unfiled input, record { asks = refl; taken = taken; holds = told }, refl, refl, refl)
unfiled_taken before after input UnknownKey part taken told = absurd told
unfiled_taken before after input BadKey part taken told = absurd told
unfiled_taken before after input (FileScan e) part taken told = absurd told

-- an input that asks the scan of a block file which has no report, by an error of the scan
stopped_file : (before after : End) (input : Bytes) (e : ScanError) → IsTaken before after input → IsFileUnreported input (files.Scan e)
    → EndsRefused (Some scan_file_form) before after (FileScan (files.Scan e))
stopped_file before after input scans.NoMemory taken told = absurd told
stopped_file before after input (scans.BadWire side) taken told =
    (file_ended input (file_unscanned (scans.BadWire side)), record { asks = refl; taken = taken; holds = told }, refl, refl, refl)
stopped_file before after input (scans.TooDeep side) taken told =
    (file_ended input (file_unscanned (scans.TooDeep side)), record { asks = refl; taken = taken; holds = told }, refl, refl, refl)
stopped_file before after input (scans.TooManyNodes side) taken told =
    (file_ended input (file_unscanned (scans.TooManyNodes side)), record { asks = refl; taken = taken; holds = told }, refl, refl, refl)
stopped_file before after input (scans.UnknownExpr side) taken told =
    (file_ended input (file_unscanned (scans.UnknownExpr side)), record { asks = refl; taken = taken; holds = told }, refl, refl, refl)
stopped_file before after input (scans.BadMetadata side) taken told =
    (file_ended input (file_unscanned (scans.BadMetadata side)), record { asks = refl; taken = taken; holds = told }, refl, refl, refl)
stopped_file before after input (scans.WrongChildren side) taken told =
    (file_ended input (file_unscanned (scans.WrongChildren side)), record { asks = refl; taken = taken; holds = told }, refl, refl, refl)
stopped_file before after input (scans.NotStruct side) taken told =
    (file_ended input (file_unscanned (scans.NotStruct side)), record { asks = refl; taken = taken; holds = told }, refl, refl, refl)
stopped_file before after input (scans.NullableSelect side) taken told =
    (file_ended input (file_unscanned (scans.NullableSelect side)), record { asks = refl; taken = taken; holds = told }, refl, refl, refl)
stopped_file before after input (scans.UnknownField side) taken told =
    (file_ended input (file_unscanned (scans.UnknownField side)), record { asks = refl; taken = taken; holds = told }, refl, refl, refl)
stopped_file before after input (scans.DuplicateField side) taken told =
    (file_ended input (file_unscanned (scans.DuplicateField side)), record { asks = refl; taken = taken; holds = told }, refl, refl, refl)
stopped_file before after input (scans.TypeMismatch side) taken told =
    (file_ended input (file_unscanned (scans.TypeMismatch side)), record { asks = refl; taken = taken; holds = told }, refl, refl, refl)
stopped_file before after input scans.FilterNotBool taken told =
    (file_ended input (file_unscanned scans.FilterNotBool), record { asks = refl; taken = taken; holds = told }, refl, refl, refl)
stopped_file before after input scans.Overflow taken told =
    (file_ended input (file_broken by_sum), record { asks = refl; taken = taken; holds = told }, refl, refl, refl)
stopped_file before after input scans.BadCast taken told =
    (file_ended input (file_broken by_cast), record { asks = refl; taken = taken; holds = told }, refl, refl, refl)
stopped_file before after input scans.StoreFault taken told = absurd told

-- by any refusal
unscanned_file : (before after : End) (input : Bytes) (r : Refusal) → IsPartTaken before after → IsTaken before after input → IsFileUnscanned input r
    → EndsRefused (Some scan_file_form) before after r
unscanned_file before after input NoMemory part taken told = (out_of_memory, inl (refl, (part, taken.quiet)), refl, refl, refl)
unscanned_file before after input ReadFault part taken told = absurd told
unscanned_file before after input InputTooLong part taken told = absurd told
unscanned_file before after input BadJson part taken told = absurd told
unscanned_file before after input (BadRequest place) part taken told = absurd told
unscanned_file before after input (BadHex side) part taken told = absurd told
unscanned_file before after input (BadTable refusal) part taken told = absurd told
unscanned_file before after input BadHexText part taken told = absurd told
unscanned_file before after input (Scan e) part taken told = absurd told
unscanned_file before after input (Query e) part taken told = absurd told
unscanned_file before after input NotSerializable part taken told = absurd told
unscanned_file before after input LongPart part taken told = absurd told
unscanned_file before after input UnknownKey part taken told = absurd told
unscanned_file before after input BadKey part taken told = absurd told
unscanned_file before after input LongTable part taken told = absurd told
unscanned_file before after input (FileScan files.NoMemory) part taken told = absurd told
unscanned_file before after input (FileScan (files.Request e)) part taken told =
    (file_ended input (misasked e), record { asks = refl; taken = taken; holds = told }, refl, refl, refl)
unscanned_file before after input (FileScan (files.BadFile bad)) part taken told =
    (file_ended input (misfiled bad), record { asks = refl; taken = taken; holds = told }, refl, refl, refl)
unscanned_file before after input (FileScan (files.Scan e)) part taken told = stopped_file before after input e taken told

-- a word that is not shown
word_refused : (form : Option Form) (word : Bytes) → shown_word form ≡ Some word → (source : End) (r : Refusal) → IsWordUnshown word r
    → EndsRefused form source source r
word_refused form word is source NoMemory told = (out_of_memory, inr (inl (word, inl is), refl), refl, refl, refl)
word_refused form word is source ReadFault told = absurd told
word_refused form word is source InputTooLong told = absurd told
word_refused form word is source BadJson told = absurd told
word_refused form word is source (BadRequest place) told = absurd told
word_refused form word is source (BadHex side) told = absurd told
word_refused form word is source (BadTable refusal) told = absurd told
word_refused form word is source BadHexText told = (undecoded, record { word = word; asks = is; holds = told; untaken = refl }, refl, refl, refl)
word_refused form word is source (Scan e) told = (unshown e, record { word = word; asks = is; holds = told; untaken = refl }, refl, refl, refl)
word_refused form word is source (Query e) told = absurd told
word_refused form word is source NotSerializable told = absurd told
word_refused form word is source LongPart told = absurd told
word_refused form word is source UnknownKey told = absurd told
word_refused form word is source BadKey told = absurd told
word_refused form word is source LongTable told = absurd told
word_refused form word is source (FileScan e) told = absurd told

-- a query that has no bytes
query_refused : (query : Bytes) (source : End) (r : Refusal) → IsQueryRefused query r → EndsRefused (Some (text_form query)) source source r
query_refused query source NoMemory told = (out_of_memory, inr (inl (query, inr refl), refl), refl, refl, refl)
query_refused query source ReadFault told = absurd told
query_refused query source InputTooLong told = absurd told
query_refused query source BadJson told = absurd told
query_refused query source (BadRequest place) told = absurd told
query_refused query source (BadHex side) told = absurd told
query_refused query source (BadTable refusal) told = absurd told
query_refused query source BadHexText told = absurd told
query_refused query source (Scan e) told = absurd told
query_refused query source (Query e) told = (unnamed e, record { word = query; asks = refl; holds = told; untaken = refl }, refl, refl, refl)
query_refused query source NotSerializable told = (unserialized, record { word = query; asks = refl; holds = told; untaken = refl }, refl, refl, refl)
query_refused query source LongPart told = (overlong, record { word = query; asks = refl; holds = told; untaken = refl }, refl, refl, refl)
query_refused query source UnknownKey told = absurd told
query_refused query source BadKey told = absurd told
query_refused query source LongTable told = absurd told
query_refused query source (FileScan e) told = absurd told

-- an answer that is a refusal
answered_refusal : (form : Option Form) (before after : End) (r : Refusal) → EndsRefused form before after r → IsAnsweredBy form before after (Err r)
answered_refusal form before after r h = record { outcome = h.0; comes = h.1; status = h.2; text = h.3; unheld = h.4 }

pub answered_err : (form : Option Form) (before after : End) (r : Refusal) (result : Result (String Global) Refusal) → IsErrAnd result (λ x. x ≡ r)
    → EndsRefused form before after r → IsAnsweredBy form before after result
answered_err form before after r (Ok x) h k = absurd h
answered_err form before after r (Err x) h k = answered_refusal form before after x (subst (EndsRefused form before after) (sym h) k)

-- an input that is explained
pub explained_taken : (before after : End) (input : Bytes) (answer : Result (String Global) Refusal) → IsPartTaken before after → IsTaken before after input
    → ExplainsInput input answer → IsAnsweredBy (Some explain_form) before after answer
explained_taken before after input (Ok text) part taken h = record {
  outcome = explained input h.asked h.filter h.projection;
  comes = record { asks = refl; taken = taken; holds = h.holds };
  status = refl;
  text = sym h.told;
  unheld = refl;
}
explained_taken before after input (Err r) part taken h =
    answered_refusal (Some explain_form) before after r (refused_taken (Some explain_form) refl before after input r (λ none. none) part taken h)

-- one whose table's block file is written
pub filed_taken : (before after : End) (input : Bytes) (answer : Result (String Global) Refusal) → IsPartTaken before after → IsTaken before after input
    → FilesInput input answer → IsAnsweredBy (Some file_form) before after answer
filed_taken before after input (Ok text) part taken h =
    record { outcome = filed input h.0; comes = record { asks = refl; taken = taken; holds = h.1 }; status = refl; text = sym h.2; unheld = refl }
filed_taken before after input (Err r) part taken h =
    answered_refusal (Some file_form) before after r (unfiled_taken before after input r part taken h)

-- one whose block file is scanned
pub file_scanned_taken : (before after : End) (input : Bytes) (answer : Result (String Global) Refusal) → IsPartTaken before after → IsTaken before after input
    → ReportsFile input answer → IsAnsweredBy (Some scan_file_form) before after answer
file_scanned_taken before after input (Ok text) part taken h = record {
  outcome = file_ended input (file_reported h.0 h.1 h.2 h.3);
  comes = record { asks = refl; taken = taken; holds = h.4 };
  status = refl;
  text = sym h.5;
  unheld = refl;
}
file_scanned_taken before after input (Err r) part taken h =
    answered_refusal (Some scan_file_form) before after r (unscanned_file before after input r part taken h)

-- a word that is shown
pub word_shown : (showing : Showing) (word : Bytes) (source : End) (answer : Result (String Global) Refusal) → ShowsWord (shown_text showing) word answer
    → IsAnsweredBy (Some (show_form showing word)) source source answer
word_shown showing word source (Ok text) h =
    record { outcome = shown showing h.0; comes = record { word = word; asks = refl; holds = h.1; untaken = refl }; status = refl; text = sym h.2; unheld = refl }
word_shown showing word source (Err r) h =
    answered_refusal (Some (show_form showing word)) source source r (word_refused (Some (show_form showing word)) word refl source r h)

-- a query that is answered
pub query_answered : (query : Bytes) (source : End) (answer : Result (String Global) Refusal) → AnswersQuery query answer
    → IsAnsweredBy (Some (text_form query)) source source answer
query_answered query source (Ok text) h =
    record { outcome = named h.0; comes = record { word = query; asks = refl; holds = (h.1, h.2); untaken = refl }; status = refl; text = sym h.3; unheld = refl }
query_answered query source (Err r) h = answered_refusal (Some (text_form query)) source source r (query_refused query source r h)

-- what is answered where an input is refused
pub refused_by : {T : Type 0} (form : Option Form) (before after : End) (r : Refusal) (result : Result T Refusal) → IsErrAnd result (λ x. x ≡ r)
    → EndsRefused form before after r → IfErr result (EndsRefused form before after)
refused_by form before after r (Ok x) h k = absurd h
refused_by form before after r (Err x) h k = subst (EndsRefused form before after) (sym h) k

-- what is taken is the input
pub taken_as : (before after : End) (bytes input : Bytes) → input ≡ bytes → TookUpTo (most_bytes + 1) before.bytes after.bytes bytes
    → length bytes ≤ most_bytes + 1
    → after.faults ≡ before.faults → IsTaken before after input
taken_as before after bytes input e took within quiet = record {
  bytes = subst (TookUpTo (most_bytes + 1) before.bytes after.bytes) (sym e) took;
  within = subst (λ bs. length bs ≤ most_bytes + 1) (sym e) within;
  quiet = quiet;
}

-- an outcome that an ending stands for
abbrev pub IsEnded : Option Form → End → End → Ending → Option StoreSeen → Type 0
IsEnded form before after ending used =
    (o : Outcome) × IsOutcome form before after o × (status_of o ≡ ending_status ending) × (outcome_text o ≡ ending_text ending)
    × (used ≡ used_by o)

-- an input that holds a scan
pub told_taken : (chosen : Statistics) (before after : End) (input : Bytes) (ending : Ending) (seen : StoreSeen) → IsTaken before after input
    → IsAnswered chosen input ending seen → IsEnded (Some (scan_form chosen)) before after ending (Some seen)
told_taken chosen before after input ending seen taken found = by ending found.ends
  where
    by : (e : Ending) → EndsBy (scan_by chosen found.asked) found.filter found.projection e seen → IsEnded (Some (scan_form chosen)) before after e (Some seen)
    by (Report text) ends = (answered chosen input found.asked found.filter found.projection, record { asks = refl; taken = taken; holds = (found.holds, ends.0) }, refl, sym ends.1, ap Some ends.2)
    by Overflow ends = (broken chosen by_sum input found.asked found.filter found.projection, record { asks = refl; taken = taken; holds = (found.holds, ends.0) }, refl, refl, ap Some ends.1)
    by BadCast ends = (broken chosen by_cast input found.asked found.filter found.projection, record { asks = refl; taken = taken; holds = (found.holds, ends.0) }, refl, refl, ap Some ends.1)

-- an input that holds a search for first rows
pub searched_taken : (top : AskedTop) (before after : End) (input : Bytes) (ending : Ending) (seen : StoreSeen) → IsTaken before after input
    → IsTopAnswered top input ending seen → IsEnded (Some (top_form top)) before after ending (Some seen)
searched_taken top before after input ending seen taken found = by ending found.ends
  where
    ask : TopAsk
    ask = ask_of top found.filter found.projection found.key_type

    by : (e : Ending) → TopEndsBy found.asked ask e seen → IsEnded (Some (top_form top)) before after e (Some seen)
    by (Report text) ends = (topped input found.asked ask, record { asks = refl; taken = taken; holds = (found.holds, ends.0) }, refl, sym ends.1, ap Some ends.2)
    by Overflow ends = (top_broken by_sum input found.asked ask, record { asks = refl; taken = taken; holds = (found.holds, ends.0) }, refl, refl, ap Some ends.1)
    by BadCast ends = (top_broken by_cast input found.asked ask, record { asks = refl; taken = taken; holds = (found.holds, ends.0) }, refl, refl, ap Some ends.1)

-- and one of which first rows are asked and not found
pub unsearched_taken : (top : AskedTop) (before after : End) (input : Bytes) (r : Refusal) → IsPartTaken before after → IsTaken before after input
    → IsTopUnanswered top input r → EndsRefused (Some (top_form top)) before after r
unsearched_taken top before after input NoMemory part taken told = (out_of_memory, inl (refl, (part, taken.quiet)), refl, refl, refl)
unsearched_taken top before after input ReadFault part taken told = absurd told
unsearched_taken top before after input InputTooLong part taken told = (refused input requests.InputTooLong, record { asks = refl; taken = taken; holds = told }, refl, refl, refl)
unsearched_taken top before after input BadJson part taken told = (refused input requests.BadJson, record { asks = refl; taken = taken; holds = told }, refl, refl, refl)
unsearched_taken top before after input (BadRequest place) part taken told =
    (refused input (requests.BadRequest place), record { asks = refl; taken = taken; holds = told }, refl, refl, refl)
unsearched_taken top before after input (BadHex side) part taken told = (refused input (requests.BadHex side), record { asks = refl; taken = taken; holds = told }, refl, refl, refl)
unsearched_taken top before after input (BadTable refusal) part taken told =
    (refused input (requests.BadTable refusal), record { asks = refl; taken = taken; holds = told }, refl, refl, refl)
unsearched_taken top before after input BadHexText part taken told = absurd told
unsearched_taken top before after input (Scan e) part taken told = (unscanned input e, record { asks = refl; taken = taken; holds = told }, refl, refl, refl)
unsearched_taken top before after input (Query e) part taken told = absurd told
unsearched_taken top before after input NotSerializable part taken told = absurd told
unsearched_taken top before after input LongPart part taken told = absurd told
unsearched_taken top before after input LongTable part taken told = absurd told
unsearched_taken top before after input (FileScan e) part taken told = absurd told
unsearched_taken top before after input UnknownKey part taken told = (unkeyed top input unknown_key, record { asks = refl; taken = taken; holds = told }, refl, refl, refl)
unsearched_taken top before after input BadKey part taken told = (unkeyed top input bad_key, record { asks = refl; taken = taken; holds = told }, refl, refl, refl)

-- a run of an outcome
pub run_of : (form : Option Form) (i i' o o' : End) (used : Option StoreSeen) (status : ℕ) (outcome : Outcome) → IsOutcome form i i' outcome
    → used ≡ used_by outcome
    → (writing : Writing) × IsWriting o o' (outcome_text outcome) (status_of outcome) status writing → IsRun form i i' o o' used status
run_of form i i' o o' used status outcome comes held (writing, written) =
    record { outcome = outcome; comes = comes; writing = writing; written = written; held = held }

-- and of one that is told of another writing of the form
pub run_told : (form other : Option Form) (i i' o o' : End) (used : Option StoreSeen) (status : ℕ) (outcome : Outcome) → form ≡ other → IsOutcome other i i' outcome
    → used ≡ used_by outcome
    → (writing : Writing) × IsWriting o o' (outcome_text outcome) (status_of outcome) status writing → IsRun form i i' o o' used status
run_told form other i i' o o' used status outcome is comes held written =
    run_of form i i' o o' used status outcome (subst (λ f. IsOutcome f i i' outcome) (sym is) comes) held written

-- and of one of this form
pub run_same : (form other : Option Form) (i i' o o' : End) (used : Option StoreSeen) (status : ℕ) → form ≡ other → IsRun other i i' o o' used status
    → IsRun form i i' o o' used status
run_same form other i i' o o' used status is run = subst (λ f. IsRun f i i' o o' used status) (sym is) run

-- a run whose answer is a text or a line, and holds no store
pub run_answered : (form other : Option Form) (i i' o o' : End) (status : ℕ) (answer : Result (String Global) Refusal) → form ≡ other
    → IsAnsweredBy other i i' answer
    → (writing : Writing) × IsWriting o o' (answer_text answer) (answer_status answer) status writing → IsRun form i i' o o' None status
run_answered form other i i' o o' status answer is by (writing, written) = record {
  outcome = by.outcome;
  comes = subst (λ f. IsOutcome f i i' by.outcome) (sym is) by.comes;
  writing = writing;
  written = subst (λ k. k) (λ j. IsWriting o o' (sym by.text j) (sym by.status j) status writing) written;
  held = sym by.unheld;
}

-- a run whose scan or search ended
pub run_ended : (other form : Option Form) (i i' o o' : End) (used : Option StoreSeen) (status told : ℕ) (text : Bytes) (ending : Ending)
    → form ≡ other → IsEnded other i i' ending used → told ≡ ending_status ending → text ≡ ending_text ending
    → (writing : Writing) × IsWriting o o' text told status writing → IsRun form i i' o o' used status
run_ended other form i i' o o' used status told text ending is by tells texts (writing, written) = record {
  outcome = by.0;
  comes = subst (λ f. IsOutcome f i i' by.0) (sym is) by.1;
  writing = writing;
  written = subst (λ k. k) (λ j. IsWriting o o' ((texts ∙ sym by.3) j) ((tells ∙ sym by.2) j) status writing) written;
  held = by.4;
}

-- a run that is refused
pub run_refused : (form : Option Form) (i i' o o' : End) (used : Option StoreSeen) (status told : ℕ) (text : Bytes) (r : Refusal)
    → EndsRefused form i i' r → used ≡ None → told ≡ refusal_status r → text ≡ refusal_text r
    → (writing : Writing) × IsWriting o o' text told status writing → IsRun form i i' o o' used status
run_refused form i i' o o' used status told text r by unused tells texts (writing, written) = record {
  outcome = by.0;
  comes = by.1;
  writing = writing;
  written = subst (λ k. k) (λ j. IsWriting o o' ((texts ∙ sym by.3) j) ((tells ∙ sym by.2) j) status writing) written;
  held = unused ∙ sym by.4;
}

-- what is told of the scan of a generated table
abbrev pub IsSummed : ℕ → Option StoreSeen → End → End → ℕ → Type 0
IsSummed rows used o o' status =
    (source : End) → (outcome : Outcome) × IsOutcome (Some (gen_form rows)) source source outcome × (used ≡ used_by outcome)
    × ((writing : Writing) × IsWriting o o' (outcome_text outcome) (status_of outcome) status writing)

-- a generated table that was scanned
pub told_summed : (rows : ℕ) (seen : StoreSeen) (o o' : End) (status : ℕ) (text : Bytes) → text ≡ gen_line rows → seen ≡ generated_store rows
    → (writing : Writing) × IsWriting o o' text 0 status writing → IsSummed rows (Some seen) o o' status
told_summed rows seen o o' status text texts stores (writing, written) source =
    (summed rows, (refl, refl), ap Some stores, (writing, subst (λ k. k) (λ j. IsWriting o o' (texts j) 0 status writing) written))

-- and one for which there was no memory
pub told_unsummed : (rows : ℕ) (used : Option StoreSeen) (o o' : End) (status told : ℕ) (text : Bytes) → used ≡ None → told ≡ refusal_status NoMemory
    → text ≡ refusal_text NoMemory
    → (writing : Writing) × IsWriting o o' text told status writing → IsSummed rows used o o' status
told_unsummed rows used o o' status told text unused tells texts (writing, written) source =
    (out_of_memory, inr (inr (rows, refl), refl), unused, (writing, subst (λ k. k) (λ j. IsWriting o o' (texts j) (tells j) status writing) written))
