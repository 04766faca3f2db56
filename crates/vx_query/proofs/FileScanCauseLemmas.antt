-- What the status of a run whose arguments ask the scan of a block file tells.
use Rattle.std.proofs.Common.{◌≡◌, ◌⊎◌, ◌∙◌, sym, ap, refl, subst, ℕ, ◌+◌, true, false, List, [], ◌∷◌, Option, Some, None, Err, inl, inr, arith, true≢false}
use Rattle.std.specs.List.{AllByRecursion}
use Rattle.std.proofs.lemmas.List.{take_all}
use Rattle.vx_dtype.specs.Types.{Bytes}
use Rattle.vx_expr.specs.Trees.{Tree}
use Rattle.vx_semantics.specs.Breaks.{Cause}
use Rattle.vx_semantics.specs.Honest.{IsHonest}
use Rattle.vx_semantics.specs.Scans.{some_phase_breaks}
use Rattle.vx_laws_scan.specs.Pruned.{KeptRowsAreAll}
use Rattle.vx_io.specs.Ends.{TookUpTo, Added}
use Rattle.vx_laws_file.specs.FileForms.{FileContent, content_of, file_bytes}
use Rattle.vx_laws_file.specs.FileLaws.{WrittenIsOpened, WrittenIsHeld, WrittenIsWhole}
use Rattle.vx_laws_file.specs.HeldTables.{held_table}
use Rattle.vx_laws_file.specs.Lengths.{HasFile}
use Rattle.vx_laws_file.specs.Opening.{IsOpened}
use Rattle.vx_laws_file.specs.Ranges.{IsDamaged}
use Rattle.vx_scan.specs.Stores.{Read, StoreSeen}
use Rattle.vx_scan.specs.declared.errors.ScanError.{ScanError}
use Rattle.vx_request.specs.Requests.{RequestedScan, most_bytes}
use Rattle.vx_request.specs.FileRequests.{RequestedFile, file_request_of}
use Rattle.vx_request.specs.declared.errors.FileRequestError.{FileRequestError}
use Rattle.vx_file_query.specs.FileEndings.{MeetsNoDamage, BreaksFileBy, IsFileWhole, HoldsFileScan, HoldsFileRefused, HoldsBadFile, FileEnding, misasked, misfiled, file_unscanned, file_broken, file_reported, FileEnds, file_reads}
use Rattle.vx_file_query.specs.FileLaws.{IsSameEnding}
use Rattle.vx_file_query.specs.declared.errors.FilePart.{FilePart}
use Rattle.vx_file_query.proofs.FileEndLemmas.{one_file_scan, one_ending, scanned_ends}
use Rattle.vx_query.specs.Refusals.{file_request_refusal_name, bad_file_name, scan_refusal_name, break_name, refusal_line}
use Rattle.vx_query.specs.Running.{End, Form, scan_form, explain_form, show_form, text_form, gen_form, top_form, words_of, file_form, scan_file_form, help_form, version_form, scans_file, held_scan, scan_report, file_status, file_text, IsTaken, Outcome, misused, helped, versioned, out_of_memory, unread, refused, unscanned, broken, answered, explained, undecoded, unshown, shown, unnamed, unserialized, overlong, named, summed, unkeyed, top_broken, topped, unfiled, filed, file_ended, Writing, whole, cut, IsOutcome, IsWriting, IsRun, status_of, outcome_text, used_by}
use Rattle.vx_query.specs.Causes.{HasRisen, whole_report}
use Rattle.vx_query.specs.Exactly.{Tells, RunsWell, EndsWith, RequestsEndSo, taken_of}
use Rattle.vx_query.specs.FileScanCauses.{IsNoFileRequest, IsFileReported, IsMisasked, IsMisfiled, IsUnscannedFile, HasFileBroken, IsStoppedFile, TellsFileScan, told_file_report}
use Rattle.vx_query.proofs.LineLemmas.{one_file_request, one_part, no_part_name, one_scan_error, one_cause, told_name}
use Rattle.vx_query.proofs.FileRequestLemmas.{why_misasked, misasked_so, file_within}
use Rattle.vx_query.proofs.CauseLemmas.{taken_whole, taken_part, whole_where_honest}
use Rattle.vx_query.proofs.RequestEnds.{not_none}

-- how their run ends: its text was cut off, there was no memory, the input wasn't read, or the scan that it asks ended
pub data FileEnd (i i' o o' : End) (used : Option StoreSeen) (status : ℕ) : Type 0 where
  cut_off : status ≡ 7 → HasRisen o o' → FileEnd i i' o o' used status
  without_memory : status ≡ 8 → FileEnd i i' o o' used status
  not_read : status ≡ 6 → HasRisen i i' → FileEnd i i' o o' used status
  ended : (input : Bytes) (ending : FileEnding) → status ≡ file_status ending → IsTaken i i' input → FileEnds input ending
      → Added o.bytes o'.bytes (file_text ending) → used ≡ None → FileEnd i i' o o' used status

-- such arguments are of no other form
scans_other : (other : Option Form) → scans_file other ≡ false → ¬ (Some scan_file_form ≡ other)
scans_other other none same = true≢false (ap scans_file same ∙ none)

file_end : (i i' o o' : End) (used : Option StoreSeen) (status : ℕ) → IsRun (Some scan_file_form) i i' o o' used status → FileEnd i i' o o' used status
file_end i i' o o' used status run = by run.outcome run.writing run.comes run.written run.held
  where
    by : (outcome : Outcome) (writing : Writing) → IsOutcome (Some scan_file_form) i i' outcome
        → IsWriting o o' (outcome_text outcome) (status_of outcome) status writing → used ≡ used_by outcome → FileEnd i i' o o' used status
    by outcome cut comes written held = cut_off written.0 written.1.1
    by misused whole comes written held = absurd (scans_other None refl comes.0)
    by helped whole comes written held = absurd (scans_other (Some help_form) refl comes.0)
    by versioned whole comes written held = absurd (scans_other (Some version_form) refl comes.0)
    by out_of_memory whole comes written held = without_memory written.0
    by unread whole comes written held = not_read written.0 comes.risen
    by (refused input e) whole comes written held = absurd (true≢false (sym comes.asks))
    by (unscanned input e) whole comes written held = absurd (true≢false (sym comes.asks))
    by (broken chosen cause input a f p) whole comes written held = absurd (scans_other (Some (scan_form chosen)) refl comes.asks)
    by (answered chosen input a f p) whole comes written held = absurd (scans_other (Some (scan_form chosen)) refl comes.asks)
    by (explained input a f p) whole comes written held = absurd (scans_other (Some explain_form) refl comes.asks)
    by undecoded whole comes written held = absurd (not_none (sym comes.asks))
    by (unshown e) whole comes written held = absurd (not_none (sym comes.asks))
    by (shown showing e) whole comes written held = absurd (scans_other (Some (show_form showing comes.word)) refl comes.asks)
    by (unnamed e) whole comes written held = absurd (not_none (sym comes.asks))
    by unserialized whole comes written held = absurd (not_none (sym comes.asks))
    by overlong whole comes written held = absurd (not_none (sym comes.asks))
    by (named e) whole comes written held = absurd (not_none (sym comes.asks))
    by (summed rows) whole comes written held = absurd (scans_other (Some (gen_form rows)) refl comes.0)
    by (unkeyed top input r) whole comes written held = absurd (scans_other (Some (top_form top)) refl comes.asks)
    by (top_broken cause input a ask) whole comes written held = absurd (scans_other (Some (top_form (words_of ask))) refl comes.asks)
    by (topped input a ask) whole comes written held = absurd (scans_other (Some (top_form (words_of ask))) refl comes.asks)
    by (unfiled input) whole comes written held = absurd (scans_other (Some file_form) refl comes.asks)
    by (filed input a) whole comes written held = absurd (scans_other (Some file_form) refl comes.asks)
    by (file_ended input ending) whole comes written held = ended input ending written.0 comes.taken comes.holds written.1.0 held

-- ---- what each status means

pub file_scan_reported : (i i' o o' : End) (used : Option StoreSeen) → IsRun (Some scan_file_form) i i' o o' used 0 → IsFileReported i i' o o' used
file_scan_reported i i' o o' used run = by (file_end i i' o o' used 0 run)
  where
    by : FileEnd i i' o o' used 0 → IsFileReported i i' o o' used
    by (cut_off s risen) = absurd (omega (arith, s))
    by (without_memory s) = absurd (omega (arith, s))
    by (not_read s risen) = absurd (omega (arith, s))
    by (ended input (misasked e) s taken ends written held) = absurd (omega (arith, s))
    by (ended input (misfiled part) s taken ends written held) = absurd (omega (arith, s))
    by (ended input (file_unscanned e) s taken ends written held) = absurd (omega (arith, s))
    by (ended input (file_broken cause) s taken ends written held) = absurd (omega (arith, s))
    by (ended input (file_reported a content f p) s taken ends written held) = record {
      input = input;
      asked = a;
      content = content;
      filter = f;
      projection = p;
      taken = taken;
      asks = ends.0;
      whole = ends.1;
      written = written;
      unheld = held;
    }

pub file_scan_refused : (i i' o o' : End) (used : Option StoreSeen) → IsRun (Some scan_file_form) i i' o o' used 3
    → IsMisasked i i' o o' used ⊎ IsMisfiled i i' o o' used
file_scan_refused i i' o o' used run = by (file_end i i' o o' used 3 run)
  where
    by : FileEnd i i' o o' used 3 → IsMisasked i i' o o' used ⊎ IsMisfiled i i' o o' used
    by (cut_off s risen) = absurd (omega (arith, s))
    by (without_memory s) = absurd (omega (arith, s))
    by (not_read s risen) = absurd (omega (arith, s))
    by (ended input (misasked e) s taken ends written held) =
        inl record { input = input; refusal = e; taken = taken; cause = why_misasked e input ends; written = written; unheld = held }
    by (ended input (misfiled part) s taken ends written held) =
        inr record { input = input; part = part; taken = taken; cause = ends; written = written; unheld = held }
    by (ended input (file_unscanned e) s taken ends written held) = absurd (omega (arith, s))
    by (ended input (file_broken cause) s taken ends written held) = absurd (omega (arith, s))
    by (ended input (file_reported a content f p) s taken ends written held) = absurd (omega (arith, s))

pub file_scan_unscanned : (i i' o o' : End) (used : Option StoreSeen) → IsRun (Some scan_file_form) i i' o o' used 4 → IsUnscannedFile i i' o o' used
file_scan_unscanned i i' o o' used run = by (file_end i i' o o' used 4 run)
  where
    by : FileEnd i i' o o' used 4 → IsUnscannedFile i i' o o' used
    by (cut_off s risen) = absurd (omega (arith, s))
    by (without_memory s) = absurd (omega (arith, s))
    by (not_read s risen) = absurd (omega (arith, s))
    by (ended input (misasked e) s taken ends written held) = absurd (omega (arith, s))
    by (ended input (misfiled part) s taken ends written held) = absurd (omega (arith, s))
    by (ended input (file_unscanned e) s taken ends written held) =
        record { input = input; refusal = e; taken = taken; cause = ends; written = written; unheld = held }
    by (ended input (file_broken cause) s taken ends written held) = absurd (omega (arith, s))
    by (ended input (file_reported a content f p) s taken ends written held) = absurd (omega (arith, s))

pub file_scan_stopped : (i i' o o' : End) (used : Option StoreSeen) → IsRun (Some scan_file_form) i i' o o' used 5 → IsStoppedFile i i' o o' used
file_scan_stopped i i' o o' used run = by (file_end i i' o o' used 5 run)
  where
    by : FileEnd i i' o o' used 5 → IsStoppedFile i i' o o' used
    by (cut_off s risen) = absurd (omega (arith, s))
    by (without_memory s) = absurd (omega (arith, s))
    by (not_read s risen) = absurd (omega (arith, s))
    by (ended input (misasked e) s taken ends written held) = absurd (omega (arith, s))
    by (ended input (misfiled part) s taken ends written held) = absurd (omega (arith, s))
    by (ended input (file_unscanned e) s taken ends written held) = absurd (omega (arith, s))
    by (ended input (file_broken cause) s taken ends written held) =
        record { cause = cause; broken = (input, taken, ends); written = written; unheld = held }
    by (ended input (file_reported a content f p) s taken ends written held) = absurd (omega (arith, s))

-- ---- what a line tells

-- arguments that ask the scan of a block file are `scan file`
is_scan_file : (form : Option Form) → scans_file form ≡ true → form ≡ Some scan_file_form
is_scan_file None asks = absurd (true≢false (sym asks))
is_scan_file (Some (scan_form own)) asks = absurd (true≢false (sym asks))
is_scan_file (Some explain_form) asks = absurd (true≢false (sym asks))
is_scan_file (Some (show_form showing word)) asks = absurd (true≢false (sym asks))
is_scan_file (Some (text_form query)) asks = absurd (true≢false (sym asks))
is_scan_file (Some (gen_form rows)) asks = absurd (true≢false (sym asks))
is_scan_file (Some (top_form top)) asks = absurd (true≢false (sym asks))
is_scan_file (Some file_form) asks = absurd (true≢false (sym asks))
is_scan_file (Some scan_file_form) asks = refl
is_scan_file (Some help_form) asks = absurd (true≢false (sym asks))
is_scan_file (Some version_form) asks = absurd (true≢false (sym asks))

-- a run of them
run_of_file : (form : Option Form) (i i' o o' : End) (used : Option StoreSeen) (status : ℕ) → scans_file form ≡ true → IsRun form i i' o o' used status
    → IsRun (Some scan_file_form) i i' o o' used status
run_of_file form i i' o o' used status asks run = subst (λ g. IsRun g i i' o o' used status) (is_scan_file form asks) run

-- one that tells a refusal of its request
told_misasked : (e : FileRequestError) (form : Option Form) (i i' o o' : End) (used : Option StoreSeen) → scans_file form ≡ true
    → Tells form i i' o o' used 3 (refusal_line (file_request_refusal_name e)) → (input : Bytes) × IsTaken i i' input × (file_request_of input ≡ Err e)
told_misasked e form i i' o o' used asks tells = by (file_end i i' o o' used 3 (run_of_file form i i' o o' used 3 asks tells.run))
  where
    by : FileEnd i i' o o' used 3 → (input : Bytes) × IsTaken i i' input × (file_request_of input ≡ Err e)
    by (cut_off s risen) = absurd (omega (arith, s))
    by (without_memory s) = absurd (omega (arith, s))
    by (not_read s risen) = absurd (omega (arith, s))
    by (ended input (misasked g) s taken ends written held) =
        let same : g ≡ e =
        one_file_request g e
        (told_name o.bytes o'.bytes tells.before (file_request_refusal_name e) (file_request_refusal_name g) tells.stood tells.written written) in
        (input, taken, ends ∙ ap Err same)
    by (ended input (misfiled part) s taken ends written held) =
        absurd
        (no_part_name e part (sym (told_name o.bytes o'.bytes tells.before (file_request_refusal_name e) (bad_file_name part) tells.stood tells.written written)))
    by (ended input (file_unscanned g) s taken ends written held) = absurd (omega (arith, s))
    by (ended input (file_broken cause) s taken ends written held) = absurd (omega (arith, s))
    by (ended input (file_reported a content f p) s taken ends written held) = absurd (omega (arith, s))

-- one that tells a part of its file
told_misfiled : (part : FilePart) (form : Option Form) (i i' o o' : End) (used : Option StoreSeen) → scans_file form ≡ true
    → Tells form i i' o o' used 3 (refusal_line (bad_file_name part)) → (input : Bytes) × IsTaken i i' input × HoldsBadFile part input
told_misfiled part form i i' o o' used asks tells = by (file_end i i' o o' used 3 (run_of_file form i i' o o' used 3 asks tells.run))
  where
    by : FileEnd i i' o o' used 3 → (input : Bytes) × IsTaken i i' input × HoldsBadFile part input
    by (cut_off s risen) = absurd (omega (arith, s))
    by (without_memory s) = absurd (omega (arith, s))
    by (not_read s risen) = absurd (omega (arith, s))
    by (ended input (misasked e) s taken ends written held) =
        absurd
        (no_part_name e part (told_name o.bytes o'.bytes tells.before (bad_file_name part) (file_request_refusal_name e) tells.stood tells.written written))
    by (ended input (misfiled other) s taken ends written held) =
        let same : other ≡ part =
        one_part other part (told_name o.bytes o'.bytes tells.before (bad_file_name part) (bad_file_name other) tells.stood tells.written written) in
        (input, taken, subst (λ x. HoldsBadFile x input) same ends)
    by (ended input (file_unscanned e) s taken ends written held) = absurd (omega (arith, s))
    by (ended input (file_broken cause) s taken ends written held) = absurd (omega (arith, s))
    by (ended input (file_reported a content f p) s taken ends written held) = absurd (omega (arith, s))

-- one that tells a refusal of its expressions
told_unscanned : (e : ScanError) (form : Option Form) (i i' o o' : End) (used : Option StoreSeen) → scans_file form ≡ true
    → Tells form i i' o o' used 4 (refusal_line (scan_refusal_name e)) → (input : Bytes) × IsTaken i i' input × HoldsFileRefused e input
told_unscanned e form i i' o o' used asks tells =
    let found = file_scan_unscanned i i' o o' used (run_of_file form i i' o o' used 4 asks tells.run) in
    let same : found.refusal ≡ e =
    one_scan_error found.refusal e
    (told_name o.bytes o'.bytes tells.before (scan_refusal_name e) (scan_refusal_name found.refusal) tells.stood tells.written found.written) in
    (found.input, found.taken, subst (λ x. HoldsFileRefused x found.input) same found.cause)

-- one that tells a break
pub told_file_break : (cause : Cause) (i i' o o' : End) (used : Option StoreSeen) → Tells (Some scan_file_form) i i' o o' used 5 (refusal_line (break_name cause))
    → HasFileBroken cause i i'
told_file_break cause i i' o o' used tells =
    let found = file_scan_stopped i i' o o' used tells.run in
    let same : found.cause ≡ cause =
    one_cause found.cause cause
    (told_name o.bytes o'.bytes tells.before (break_name cause) (break_name found.cause) tells.stood tells.written found.written) in
    subst (λ c. HasFileBroken c i i') same found.broken

-- ---- runs over a source whose bytes are told

-- where what is taken of them ends so, and doesn't break, a run ends so
says_ending : (x : FileEnding) → ¬ (file_status x ≡ 5) → (i i' o o' : End) (used : Option StoreSeen) (status : ℕ) (all : Bytes) → i.bytes ≡ Some all
    → FileEnds (taken_of all) x → RunsWell (Some scan_file_form) i i' o o' used status → ¬ (HasRisen i i')
    → EndsWith (file_status x) (file_text x) o o' status
says_ending x unbroken i i' o o' used status all told cause well still = by (file_end i i' o o' used status well.run)
  where
    so : (y : FileEnding) → IsSameEnding x y → y ≡ x
    so y (inl same) = sym same
    so y (inr both) = absurd (unbroken (ap file_status both.2))

    by : FileEnd i i' o o' used status → EndsWith (file_status x) (file_text x) o o' status
    by (cut_off s risen) = absurd (well.quiet risen)
    by (without_memory s) = absurd (well.memory s)
    by (not_read s risen) = absurd (still risen)
    by (ended input y s taken ends written held) =
        let part : input ≡ taken_of all = taken_part i i' all input told taken.bytes in
        let same : y ≡ x = so y (one_ending (taken_of all) x y cause (subst (λ bytes. FileEnds bytes y) part ends)) in
        (s ∙ ap file_status same, subst (λ z. Added o.bytes o'.bytes (file_text z)) same written)

-- a row of an ending that isn't a break
file_row : (told : ℕ) (name : Bytes) (Cause : Bytes → Type 0) (x : FileEnding) → file_status x ≡ told → ¬ (file_status x ≡ 5)
    → file_text x ≡ refusal_line name → ((input : Bytes) → Cause input → FileEnds input x)
    → ((form : Option Form) (i i' o o' : End) (used : Option StoreSeen) → scans_file form ≡ true → Tells form i i' o o' used told (refusal_line name)
    → (input : Bytes) × IsTaken i i' input × Cause input) → RequestsEndSo scans_file told name Cause
file_row told name Cause x status unbroken text back only = record {
  only = only;
  always = λ form i i' o o' used ends all asks bytes cause well still.
      let own : RunsWell (Some scan_file_form) i i' o o' used ends =
      record { run = run_of_file form i i' o o' used ends asks well.run; memory = well.memory; quiet = well.quiet } in
      let so = says_ending x unbroken i i' o o' used ends all bytes (back (taken_of all) cause) own still in
      (so.0 ∙ status, subst (Added o.bytes o'.bytes) text so.1);
}

pub misasked_row : (e : FileRequestError) → RequestsEndSo scans_file 3 (file_request_refusal_name e) (IsNoFileRequest e)
misasked_row e =
    file_row 3 (file_request_refusal_name e) (IsNoFileRequest e) (misasked e) refl (λ h. omega (arith, h)) refl (misasked_so e)
    (λ form i i' o o' used asks tells.
    let found = told_misasked e form i i' o o' used asks tells in
    (found.0, found.1, why_misasked e found.0 found.2))

pub misfiled_row : (part : FilePart) → RequestsEndSo scans_file 3 (bad_file_name part) (HoldsBadFile part)
misfiled_row part =
    file_row 3 (bad_file_name part) (HoldsBadFile part) (misfiled part) refl (λ h. omega (arith, h)) refl (λ input cause. cause) (told_misfiled part)

pub unscanned_row : (e : ScanError) → RequestsEndSo scans_file 4 (scan_refusal_name e) (HoldsFileRefused e)
unscanned_row e =
    file_row 4 (scan_refusal_name e) (HoldsFileRefused e) (file_unscanned e) refl (λ h. omega (arith, h)) refl (λ input cause. cause) (told_unscanned e)

-- what is taken of bytes that ask a scan is the whole of them
taken_of_told : {i : End} (told : TellsFileScan i) → taken_of told.input ≡ told.input
taken_of_told told = take_all (most_bytes + 1) told.input (omega (arith, file_within told.input told.asked told.asks.holds.asked))

-- where the scan that is told is whole, its report is written
pub file_scan_completed : (i i' o o' : End) (used : Option StoreSeen) (status : ℕ) (told : TellsFileScan i)
    → IsFileWhole told.content told.filter told.projection → RunsWell (Some scan_file_form) i i' o o' used status → ¬ (HasRisen i i')
    → EndsWith 0 (told_file_report told) o o' status
file_scan_completed i i' o o' used status told unbroken well still =
    says_ending (file_reported told.asked told.content told.filter told.projection) (λ h. omega (arith, h)) i i' o o' used status told.input told.told
    (subst (λ bytes. FileEnds bytes (file_reported told.asked told.content told.filter told.projection)) (sym (taken_of_told told)) (told.asks, unbroken))
    well still

-- the input of a run over it is this one
told_file_input : {i : End} (i' : End) (input : Bytes) (told : TellsFileScan i) → TookUpTo (most_bytes + 1) i.bytes i'.bytes input → input ≡ told.input
told_file_input {i} i' input told took =
    taken_whole i i' told.input input told.told (file_within told.input told.asked told.asks.holds.asked) took

-- the report that is written is of the scan that is told
pub file_scan_as_told : (i i' o o' : End) (used : Option StoreSeen) (told : TellsFileScan i) → IsRun (Some scan_file_form) i i' o o' used 0
    → Added o.bytes o'.bytes (told_file_report told)
file_scan_as_told i i' o o' used told run =
    let found = file_scan_reported i i' o o' used run in
    let own = subst (λ bytes. HoldsFileScan bytes found.asked found.content found.filter found.projection)
    (told_file_input i' found.input told found.taken.bytes) found.asks in
    let same = one_file_scan told.input found.asked told.asked found.content told.content found.filter found.projection told.filter told.projection own told.asks in
    subst (Added o.bytes o'.bytes) (λ j. scan_report (held_scan (same.asked j) (same.content j)) (same.filter j) (same.projection j)) found.written

-- where it breaks before a damaged column is read, its run says so
abbrev pub SaysFileBreak : {i : End} → TellsFileScan i → End → End → ℕ → Type 0
SaysFileBreak told o o' status =
    (cause : Cause) × BreaksFileBy cause told.content told.filter told.projection × EndsWith 5 (refusal_line (break_name cause)) o o' status

pub says_file_break : (i i' o o' : End) (used : Option StoreSeen) (status : ℕ) (told : TellsFileScan i)
    → MeetsNoDamage told.content told.filter told.projection
    → some_phase_breaks (held_table told.content) told.content.zones [] told.filter told.projection ≡ true
    → RunsWell (Some scan_file_form) i i' o o' used status → ¬ (HasRisen i i') → SaysFileBreak told o o' status
says_file_break i i' o o' used status told none breaking well still = by (file_end i i' o o' used status well.run)
  where
    by : FileEnd i i' o o' used status → SaysFileBreak told o o' status
    by (cut_off s risen) = absurd (well.quiet risen)
    by (without_memory s) = absurd (well.memory s)
    by (not_read s risen) = absurd (still risen)
    by (ended input y s taken ends written held) =
        let own = subst (λ bytes. FileEnds bytes y) (told_file_input i' input told taken.bytes) ends in
        elim (scanned_ends told.input told.asked told.content told.filter told.projection y told.asks none own) [
          | inl broke ↦ (broke.0, broke.2, (s ∙ ap file_status broke.1, subst (λ z. Added o.bytes o'.bytes (file_text z)) broke.1 written))
          | inr unbroken ↦ absurd (true≢false (sym breaking ∙ unbroken.1.1))
        ]

-- ---- honest statistics

pub file_scan_honest : KeptRowsAreAll → (i i' o o' : End) (used : Option StoreSeen) (report : IsFileReported i i' o o' used)
    → IsHonest report.content.zones (held_table report.content)
    → Added o.bytes o'.bytes (whole_report (held_scan report.asked report.content) report.filter report.projection)
file_scan_honest all i i' o o' used report honest =
    subst (Added o.bytes o'.bytes) (whole_where_honest all (held_scan report.asked report.content) report.filter report.projection honest) report.written

pub file_scan_told_honest : KeptRowsAreAll → (i i' o o' : End) (used : Option StoreSeen) (told : TellsFileScan i)
    → IsRun (Some scan_file_form) i i' o o' used 0 → IsHonest told.content.zones (held_table told.content)
    → Added o.bytes o'.bytes (whole_report (held_scan told.asked told.content) told.filter told.projection)
file_scan_told_honest all i i' o o' used told run honest =
    subst (Added o.bytes o'.bytes) (whole_where_honest all (held_scan told.asked told.content) told.filter told.projection honest)
    (file_scan_as_told i i' o o' used told run)

-- ---- files that are written

pub written_opened : WrittenIsOpened → (a : RequestedScan) (r : RequestedFile) → HasFile a.zones a.blocks → r.file ≡ file_bytes a.zones a.blocks
    → IsOpened r.file (content_of a.zones a.blocks)
written_opened opened a r has same = subst (λ bytes. IsOpened bytes (content_of a.zones a.blocks)) (sym same) (opened a.zones a.blocks has)

pub written_held : WrittenIsHeld → (a : RequestedScan) (r : RequestedFile) → HasFile a.zones a.blocks → r.filter ≡ a.filter → r.projection ≡ a.projection
    → held_scan r (content_of a.zones a.blocks) ≡ a
written_held held a r has filter projection =
    λ i. record { zones = a.zones; blocks = held a.zones a.blocks has i; filter = filter i; projection = projection i }

none_damaged : (content : FileContent) → ((block : ℕ) (name : Bytes) → ¬ (IsDamaged content block name)) → (reads : List Read)
    → AllByRecursion (λ read. ¬ (IsDamaged content read.0 read.1)) reads
none_damaged content sound [] = tt
none_damaged content sound (read ∷ reads) = (sound read.0 read.1, none_damaged content sound reads)

pub written_undamaged : WrittenIsWhole → (a : RequestedScan) (f p : Tree) → HasFile a.zones a.blocks → MeetsNoDamage (content_of a.zones a.blocks) f p
written_undamaged sound a f p has damage =
    let content = content_of a.zones a.blocks in
    damage (none_damaged content (λ block name. sound a.zones a.blocks block name has) (file_reads content f p))
