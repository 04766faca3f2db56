-- What the status of a run whose arguments read a request tells.
use Rattle.std.proofs.Common.{◌≡◌, ◌∙◌, sym, ap, refl, subst, ℕ, ◌+◌, ◌≤◌, Bool, true, false, ◌||◌, cond, List, [], ◌∷◌, nat_le, map, length, take, codes, Option, Some, None, Result, Ok, Err, arith, true≢false}
use Rattle.std.specs.List.{list_any}
use Rattle.std.proofs.lemmas.Bool.{leb-true}
use Rattle.std.proofs.lemmas.List.{take_all}
use Rattle.std.proofs.lemmas.Option.{same_Some}
use Rattle.vx_dtype.specs.Types.{Bytes, Ty}
use Rattle.vx_expr.specs.Trees.{Tree}
use Rattle.vx_semantics.specs.Breaks.{Cause}
use Rattle.vx_semantics.specs.Honest.{IsHonest}
use Rattle.vx_semantics.specs.Meaning.{Slots}
use Rattle.vx_semantics.specs.Scans.{Phase, phase_breaks, phase_breaks_by, first_breaks_by, skipped_blocks, read_columns}
use Rattle.vx_semantics.specs.Tables.{row_type}
use Rattle.vx_display.specs.ValueTexts.{value_text}
use Rattle.vx_laws_scan.specs.Pruned.{KeptRowsAreAll}
use Rattle.vx_io.specs.Ends.{TookUpTo, Added}
use Rattle.vx_scan.specs.Stores.{StoreSeen}
use Rattle.vx_scan.specs.declared.errors.ScanError.{ScanError}
use Rattle.vx_explain.specs.Explanations.{explain_text}
use Rattle.vx_request.specs.Requests.{◌>>=◌, RequestedScan, request_of, ensured, json_in, scan_of, most_bytes}
use Rattle.vx_request.specs.declared.errors.RequestError.{RequestError}
use Rattle.vx_request.specs.declared.errors.RequestError.TheVariants.{InputTooLong}
use Rattle.vx_query.specs.Reports.{report_text}
use Rattle.vx_query.specs.Refusals.{request_refusal_name, scan_refusal_name, key_refusal_name, break_name, refusal_line}
use Rattle.vx_query.specs.Running.{End, Form, Statistics, HoldsScan, HoldsRefused, scan_by, scan_table, scan_reads, scan_phases, scan_breaks, scan_breaks_by, scan_report, scanned_store, broken_store, scan_form, explain_form, top_form, reads_request, uses_expressions, scans_file, asked_statistics, asked_top, HoldsNoKey, HasNoKey, IsTaken, IsRun}
use Rattle.vx_query.specs.TopWords.{AskedTop, KeyRefusal}
use Rattle.vx_query.specs.Exclusions.{IsSameScan}
use Rattle.vx_query.specs.WireLaws.{WireLaws}
use Rattle.vx_query.specs.Causes.{HasRisen, IsReported, IsUnasked, IsUnscanned, IsStopped, IsExplained, HasBroken, TellsScan, told_breaks, told_breaks_by, whole_report}
use Rattle.vx_query.specs.Exactly.{Tells, RunsWell, EndsWith, taken_of}
use Rattle.vx_query.proofs.RefusalLemmas.{one_err, not_err, one_scan, one_held_refusal, held_unrefused}
use Rattle.vx_query.proofs.LineLemmas.{one_request, one_scan_error, one_cause, no_key_name, no_long_name, told_name}
use Rattle.vx_query.proofs.FormLemmas.{broken_reads}
use Rattle.vx_query.proofs.RequestEnds.{not_none, RequestEnd, cut_off, without_memory, not_read, no_request, no_scan, breaks, reports, explains, no_key, top_stops, tops, no_file, files, uses_reads, uses_no_file, request_end}

-- whether a form is that of scans, where there is one
abbrev is_scan : Option Form → Bool
is_scan (Some (scan_form chosen)) = true
is_scan _ = false

no_explain : (chosen : Statistics) → ¬ (Some (scan_form chosen) ≡ Some explain_form)
no_explain chosen same = true≢false (ap is_scan same)

-- arguments that ask no first rows are not those that ask some; nor are those of a scan, nor `explain`
pub no_top : (form : Option Form) (top : AskedTop) → asked_top form ≡ None → ¬ (form ≡ Some (top_form top))
no_top form top none is = not_none (sym (ap asked_top is) ∙ none)

-- the statistics of a run are those that its arguments tell
same_statistics : (chosen own : Statistics) → Some (scan_form chosen) ≡ Some (scan_form own) → own ≡ chosen
same_statistics chosen own same = same_Some _ _ (sym (ap asked_statistics same))

-- ---- what each status means

-- the report that status 0 means
pub reported : (chosen : Statistics) (i i' o o' : End) (used : Option StoreSeen) → IsRun (Some (scan_form chosen)) i i' o o' used 0
    → IsReported chosen i i' o o' used
reported chosen i i' o o' used run = by (request_end (Some (scan_form chosen)) i i' o o' used 0 refl run)
  where
    by : RequestEnd (Some (scan_form chosen)) i i' o o' used 0 → IsReported chosen i i' o o' used
    by (cut_off s risen) = absurd (omega (arith, s))
    by (without_memory s held) = absurd (omega (arith, s))
    by (not_read s risen held) = absurd (omega (arith, s))
    by (no_request input e s taken why written held) = absurd (omega (arith, s))
    by (no_scan input e s asks taken why free written held) = absurd (omega (arith, s))
    by (breaks own cause input a f p s scans taken asks broken written held) = absurd (omega (arith, s))
    by (reports own input a f p s scans taken asks unbroken written held) =
        let told : IsReported own i i' o o' used = record {
          input = input;
          asked = a;
          filter = f;
          projection = p;
          taken = taken;
          asks = asks;
          unbroken = unbroken;
          written = written;
          held = held;
        } in
        subst (λ x. IsReported x i i' o o' used) (same_statistics chosen own scans) told
    by (explains input a f p s other taken asks written held) = absurd (no_explain chosen other)
    by (no_key top input r s is taken why written held) = absurd (omega (arith, s))
    by (top_stops cause input a ask s is taken asks broken written held) = absurd (omega (arith, s))
    by (tops input a ask s is taken asks unbroken written held) = absurd (no_top (Some (scan_form chosen)) _ refl is)
    by (no_file input s is taken why written held) = absurd (omega (arith, s))
    by (files input a s is taken holds written held) = absurd (uses_no_file (Some (scan_form chosen)) refl is)

-- the explanation that it means
pub was_explained : (i i' o o' : End) (used : Option StoreSeen) → IsRun (Some explain_form) i i' o o' used 0 → IsExplained i i' o o' used
was_explained i i' o o' used run = by (request_end (Some explain_form) i i' o o' used 0 refl run)
  where
    by : RequestEnd (Some explain_form) i i' o o' used 0 → IsExplained i i' o o' used
    by (cut_off s risen) = absurd (omega (arith, s))
    by (without_memory s held) = absurd (omega (arith, s))
    by (not_read s risen held) = absurd (omega (arith, s))
    by (no_request input e s taken why written held) = absurd (omega (arith, s))
    by (no_scan input e s asks taken why free written held) = absurd (omega (arith, s))
    by (breaks own cause input a f p s scans taken asks broken written held) = absurd (omega (arith, s))
    by (reports own input a f p s scans taken asks unbroken written held) = absurd (no_explain own (sym scans))
    by (explains input a f p s other taken asks written held) =
        record { input = input; asked = a; filter = f; projection = p; taken = taken; asks = asks; written = written; unheld = held }
    by (no_key top input r s is taken why written held) = absurd (omega (arith, s))
    by (top_stops cause input a ask s is taken asks broken written held) = absurd (omega (arith, s))
    by (tops input a ask s is taken asks unbroken written held) = absurd (no_top (Some explain_form) _ refl is)
    by (no_file input s is taken why written held) = absurd (omega (arith, s))
    by (files input a s is taken holds written held) = absurd (uses_no_file (Some explain_form) refl is)

-- an input that is no request
pub unasked : (form : Option Form) (i i' o o' : End) (used : Option StoreSeen) → uses_expressions form ≡ true → IsRun form i i' o o' used 3
    → IsUnasked i i' o o' used
unasked form i i' o o' used uses run = by (request_end form i i' o o' used 3 (uses_reads form uses) run)
  where
    by : RequestEnd form i i' o o' used 3 → IsUnasked i i' o o' used
    by (cut_off s risen) = absurd (omega (arith, s))
    by (without_memory s held) = absurd (omega (arith, s))
    by (not_read s risen held) = absurd (omega (arith, s))
    by (no_request input e s taken why written held) =
        record { input = input; refusal = e; taken = taken; cause = why; written = written; unheld = held }
    by (no_scan input e s asks taken why free written held) = absurd (omega (arith, s))
    by (breaks own cause input a f p s scans taken asks broken written held) = absurd (omega (arith, s))
    by (reports own input a f p s scans taken asks unbroken written held) = absurd (omega (arith, s))
    by (explains input a f p s other taken asks written held) = absurd (omega (arith, s))
    by (no_key top input r s is taken why written held) = absurd (omega (arith, s))
    by (top_stops cause input a ask s is taken asks broken written held) = absurd (omega (arith, s))
    by (tops input a ask s is taken asks unbroken written held) = absurd (omega (arith, s))
    by (no_file input s is taken why written held) = absurd (uses_no_file form uses is)
    by (files input a s is taken holds written held) = absurd (omega (arith, s))

-- a scan whose expressions are refused
pub unspelled : (form : Option Form) (i i' o o' : End) (used : Option StoreSeen) → reads_request form ≡ true → asked_top form ≡ None
    → IsRun form i i' o o' used 4 → IsUnscanned i i' o o' used
unspelled form i i' o o' used reads none run = by (request_end form i i' o o' used 4 reads run)
  where
    by : RequestEnd form i i' o o' used 4 → IsUnscanned i i' o o' used
    by (cut_off s risen) = absurd (omega (arith, s))
    by (without_memory s held) = absurd (omega (arith, s))
    by (not_read s risen held) = absurd (omega (arith, s))
    by (no_request input e s taken why written held) = absurd (omega (arith, s))
    by (no_scan input e s asks taken why free written held) =
        record { input = input; refusal = e; taken = taken; cause = why; written = written; unheld = held }
    by (breaks own cause input a f p s scans taken asks broken written held) = absurd (omega (arith, s))
    by (reports own input a f p s scans taken asks unbroken written held) = absurd (omega (arith, s))
    by (explains input a f p s other taken asks written held) = absurd (omega (arith, s))
    by (no_key top input r s is taken why written held) = absurd (no_top form top none is)
    by (top_stops cause input a ask s is taken asks broken written held) = absurd (omega (arith, s))
    by (tops input a ask s is taken asks unbroken written held) = absurd (omega (arith, s))
    by (no_file input s is taken why written held) = absurd (omega (arith, s))
    by (files input a s is taken holds written held) = absurd (omega (arith, s))

-- a scan that broke
pub stopped : (form : Option Form) (i i' o o' : End) (used : Option StoreSeen) → asked_top form ≡ None → scans_file form ≡ false
    → IsRun form i i' o o' used 5 → IsStopped form i i' o o' used
stopped form i i' o o' used none scans_none run = by (request_end form i i' o o' used 5 (broken_reads form i i' o o' used scans_none run) run)
  where
    by : RequestEnd form i i' o o' used 5 → IsStopped form i i' o o' used
    by (cut_off s risen) = absurd (omega (arith, s))
    by (without_memory s held) = absurd (omega (arith, s))
    by (not_read s risen held) = absurd (omega (arith, s))
    by (no_request input e s taken why written held) = absurd (omega (arith, s))
    by (no_scan input e s asks taken why free written held) = absurd (omega (arith, s))
    by (breaks own cause input a f p s scans taken asks broken written held) = record {
      cause = cause;
      broken = record {
        scan = record { statistics = own; scans = scans; input = input; asked = a; filter = f; projection = p; taken = taken; asks = asks };
        breaks = broken;
      };
      written = written;
      held = held;
    }
    by (reports own input a f p s scans taken asks unbroken written held) = absurd (omega (arith, s))
    by (explains input a f p s other taken asks written held) = absurd (omega (arith, s))
    by (no_key top input r s is taken why written held) = absurd (omega (arith, s))
    by (top_stops cause input a ask s is taken asks broken written held) = absurd (no_top form _ none is)
    by (tops input a ask s is taken asks unbroken written held) = absurd (omega (arith, s))
    by (no_file input s is taken why written held) = absurd (omega (arith, s))
    by (files input a s is taken holds written held) = absurd (omega (arith, s))

-- ---- what a line tells

-- a run that tells a refusal of its request
pub told_request : (e : RequestError) (form : Option Form) (i i' o o' : End) (used : Option StoreSeen) → reads_request form ≡ true
    → Tells form i i' o o' used 3 (refusal_line (request_refusal_name e)) → (input : Bytes) × IsTaken i i' input × (request_of input ≡ Err e)
told_request e form i i' o o' used reads tells = by (request_end form i i' o o' used 3 reads tells.run)
  where
    by : RequestEnd form i i' o o' used 3 → (input : Bytes) × IsTaken i i' input × (request_of input ≡ Err e)
    by (cut_off s risen) = absurd (omega (arith, s))
    by (without_memory s held) = absurd (omega (arith, s))
    by (not_read s risen held) = absurd (omega (arith, s))
    by (no_request input g s taken why written held) =
        let same : g ≡ e =
        one_request g e (told_name o.bytes o'.bytes tells.before (request_refusal_name e) (request_refusal_name g) tells.stood tells.written written) in
        (input, taken, why ∙ ap Err same)
    by (no_scan input g s asks taken why free written held) = absurd (omega (arith, s))
    by (breaks own cause input a f p s scans taken asks broken written held) = absurd (omega (arith, s))
    by (reports own input a f p s scans taken asks unbroken written held) = absurd (omega (arith, s))
    by (explains input a f p s other taken asks written held) = absurd (omega (arith, s))
    by (no_key top input r s is taken why written held) = absurd (omega (arith, s))
    by (top_stops cause input a ask s is taken asks broken written held) = absurd (omega (arith, s))
    by (tops input a ask s is taken asks unbroken written held) = absurd (omega (arith, s))
    by (no_file input s is taken why written held) =
        absurd (no_long_name e (sym (told_name o.bytes o'.bytes tells.before (request_refusal_name e) (codes "TooLong") tells.stood tells.written written)))
    by (files input a s is taken holds written held) = absurd (omega (arith, s))

-- one that tells a refusal of its expressions: the key isn't refused then
pub told_expressions : (e : ScanError) (form : Option Form) (i i' o o' : End) (used : Option StoreSeen) → reads_request form ≡ true
    → Tells form i i' o o' used 4 (refusal_line (scan_refusal_name e))
    → (input : Bytes) × IsTaken i i' input × HoldsRefused input e × (¬ (HasNoKey form input))
told_expressions e form i i' o o' used reads tells = by (request_end form i i' o o' used 4 reads tells.run)
  where
    by : RequestEnd form i i' o o' used 4 → (input : Bytes) × IsTaken i i' input × HoldsRefused input e × (¬ (HasNoKey form input))
    by (cut_off s risen) = absurd (omega (arith, s))
    by (without_memory s held) = absurd (omega (arith, s))
    by (not_read s risen held) = absurd (omega (arith, s))
    by (no_request input g s taken why written held) = absurd (omega (arith, s))
    by (no_scan input g s asks taken why free written held) =
        let same : g ≡ e =
        one_scan_error g e (told_name o.bytes o'.bytes tells.before (scan_refusal_name e) (scan_refusal_name g) tells.stood tells.written written) in
        (input, taken, subst (HoldsRefused input) same why, free)
    by (breaks own cause input a f p s scans taken asks broken written held) = absurd (omega (arith, s))
    by (reports own input a f p s scans taken asks unbroken written held) = absurd (omega (arith, s))
    by (explains input a f p s other taken asks written held) = absurd (omega (arith, s))
    by (no_key top input r s is taken why written held) =
        absurd
        (no_key_name e r (sym (told_name o.bytes o'.bytes tells.before (scan_refusal_name e) (key_refusal_name r) tells.stood tells.written written)))
    by (top_stops cause input a ask s is taken asks broken written held) = absurd (omega (arith, s))
    by (tops input a ask s is taken asks unbroken written held) = absurd (omega (arith, s))
    by (no_file input s is taken why written held) = absurd (omega (arith, s))
    by (files input a s is taken holds written held) = absurd (omega (arith, s))

-- one that tells a break
pub told_break : (cause : Cause) (form : Option Form) (i i' o o' : End) (used : Option StoreSeen) → asked_top form ≡ None → scans_file form ≡ false
    → Tells form i i' o o' used 5 (refusal_line (break_name cause))
    → HasBroken cause form i i'
told_break cause form i i' o o' used none scans_none tells =
    let found = stopped form i i' o o' used none scans_none tells.run in
    let same : found.cause ≡ cause =
    one_cause found.cause cause
    (told_name o.bytes o'.bytes tells.before (break_name cause) (break_name found.cause) tells.stood tells.written found.written) in
    subst (λ c. HasBroken c form i i') same found.broken

-- ---- what is taken of an input

-- what is answered under a condition shows it
asks_where : (b : Bool) (r : Result RequestedScan RequestError) (a : RequestedScan) → (ensured b InputTooLong >>= λ _. r) ≡ Ok a → b ≡ true
asks_where true r a e = refl
asks_where false r a e = absurd (cc e)

-- an input that holds a scan is no longer than the most
pub asks_within : (input : Bytes) (a : RequestedScan) → request_of input ≡ Ok a → length input ≤ most_bytes
unfolding request_of
asks_within input a e = leb-true (length input) most_bytes (asks_where (nat_le (length input) most_bytes) (json_in input >>= scan_of) a e)

-- such an input is taken whole
pub taken_whole : (before after : End) (all input : Bytes) → before.bytes ≡ Some all → length all ≤ most_bytes
    → TookUpTo (most_bytes + 1) before.bytes after.bytes input → input ≡ all
taken_whole before after all input told within took =
    let own = subst (λ b. TookUpTo (most_bytes + 1) b after.bytes input) told took in
    own.0 ∙ take_all (most_bytes + 1) all (omega (arith, within))

-- such an input is taken as far as it may be
pub taken_part : (before after : End) (all input : Bytes) → before.bytes ≡ Some all → TookUpTo (most_bytes + 1) before.bytes after.bytes input
    → input ≡ take (most_bytes + 1) all
taken_part before after all input told took = (subst (λ b. TookUpTo (most_bytes + 1) b after.bytes input) told took).0

-- the input that holds a scan is the one that the end tells
pub told_input : (i i' : End) (input : Bytes) (told : TellsScan i) → TookUpTo (most_bytes + 1) i.bytes i'.bytes input → input ≡ told.input
told_input i i' input told took = taken_whole i i' told.input input told.told (asks_within told.input told.asked told.asks.asked) took

-- a scan that is held is the one that the end tells
pub told_scan : WireLaws → (i i' : End) (input : Bytes) (a : RequestedScan) (f p : Tree) (told : TellsScan i) → TookUpTo (most_bytes + 1) i.bytes i'.bytes input
    → HoldsScan input a f p
    → IsSameScan a f p told.asked told.filter told.projection
told_scan laws i i' input a f p told took held =
    let same = told_input i i' input told took in
    one_scan laws told.input a f p told.asked told.filter told.projection (subst (λ bytes. HoldsScan bytes a f p) same held) told.asks

-- such an input is a request
pub told_unrefused : (i i' : End) (input : Bytes) (e : RequestError) (told : TellsScan i) → TookUpTo (most_bytes + 1) i.bytes i'.bytes input
    → ¬ (request_of input ≡ Err e)
told_unrefused i i' input e told took h =
    let same = told_input i i' input told took in
    not_err (request_of told.input) told.asked e told.asks.asked (sym (ap request_of same) ∙ h)

-- and its expressions are not refused
pub told_spelled : WireLaws → (i i' : End) (input : Bytes) (e : ScanError) (told : TellsScan i) → TookUpTo (most_bytes + 1) i.bytes i'.bytes input
    → ¬ (HoldsRefused input e)
told_spelled laws i i' input e told took h =
    let same = told_input i i' input told took in
    held_unrefused laws told.input told.asked told.filter told.projection e told.asks (subst (λ bytes. HoldsRefused bytes e) same h)

-- ---- phases that break

-- where the first phase that breaks does so by a cause, a phase breaks
break_step : (own other rest some : Bool) → (rest ≡ true → some ≡ true) → cond own other rest ≡ true → (own || some) ≡ true
break_step true other rest some more h = refl
break_step false other rest some more h = more h

some_breaks : (cause : Cause) (t : Ty) (slots : Slots) (phases : List Phase) → first_breaks_by cause t slots phases ≡ true
    → list_any (phase_breaks t slots) phases ≡ true
some_breaks cause t slots [] h = absurd (true≢false (sym h))
some_breaks cause t slots (phase ∷ phases) h =
    break_step (phase_breaks t slots phase) (phase_breaks_by cause t slots phase) (first_breaks_by cause t slots phases)
    (list_any (phase_breaks t slots) phases) (some_breaks cause t slots phases) h

pub breaks_by_one : (cause : Cause) (a : RequestedScan) (f p : Tree) → scan_breaks_by cause a f p ≡ true → scan_breaks a f p ≡ true
breaks_by_one cause a f p h = some_breaks cause (row_type a.zones.columns) [] (scan_phases a f p) h

-- the scan that is told breaks as the same one does
told_breaking : {i : End} (chosen own : Statistics) (told : TellsScan i) (a : RequestedScan) (f p : Tree) (b : Bool) → own ≡ chosen
    → IsSameScan a f p told.asked told.filter told.projection → scan_breaks (scan_by own a) f p ≡ b
    → told_breaks chosen told ≡ b
told_breaking chosen own told a f p b is same h = sym (λ j. scan_breaks (scan_by (is j) (same.asked j)) (same.filter j) (same.projection j)) ∙ h

-- ---- runs over a source whose bytes are told

-- where no phase of the scan that is told breaks, its report is written
pub completed : WireLaws → (chosen : Statistics) (i i' o o' : End) (used : Option StoreSeen) (status : ℕ) (told : TellsScan i) → told_breaks chosen told ≡ false
    → RunsWell (Some (scan_form chosen)) i i' o o' used status → ¬ (HasRisen i i')
    → EndsWith 0 (scan_report (scan_by chosen told.asked) told.filter told.projection) o o' status
completed laws chosen i i' o o' used status told unbroken well still = by (request_end (Some (scan_form chosen)) i i' o o' used status refl well.run)
  where
    by : RequestEnd (Some (scan_form chosen)) i i' o o' used status
        → EndsWith 0 (scan_report (scan_by chosen told.asked) told.filter told.projection) o o' status
    by (cut_off s risen) = absurd (well.quiet risen)
    by (without_memory s held) = absurd (well.memory s)
    by (not_read s risen held) = absurd (still risen)
    by (no_request input e s taken why written held) = absurd (told_unrefused i i' input e told taken.bytes why)
    by (no_scan input e s asks taken why free written held) = absurd (told_spelled laws i i' input e told taken.bytes why)
    by (breaks own cause input a f p s scans taken asks broken written held) =
        let same = told_scan laws i i' input a f p told taken.bytes asks in
        let breaking = breaks_by_one cause (scan_by own a) f p broken in
        absurd (true≢false (sym (told_breaking chosen own told a f p true (same_statistics chosen own scans) same breaking) ∙ unbroken))
    by (reports own input a f p s scans taken asks quiet written held) =
        let same = told_scan laws i i' input a f p told taken.bytes asks in
        let is = same_statistics chosen own scans in
        (s, subst (Added o.bytes o'.bytes) (λ j. scan_report (scan_by (is j) (same.asked j)) (same.filter j) (same.projection j)) written)
    by (explains input a f p s other taken asks written held) = absurd (no_explain chosen other)
    by (no_key top input r s is taken why written held) = absurd (no_top (Some (scan_form chosen)) _ refl is)
    by (top_stops cause input a ask s is taken asks broken written held) = absurd (no_top (Some (scan_form chosen)) _ refl is)
    by (tops input a ask s is taken asks unbroken written held) = absurd (no_top (Some (scan_form chosen)) _ refl is)
    by (no_file input s is taken why written held) = absurd (uses_no_file (Some (scan_form chosen)) refl is)
    by (files input a s is taken holds written held) = absurd (uses_no_file (Some (scan_form chosen)) refl is)

-- where the bytes that are told hold a scan, its explanation is written
pub explained_whole : WireLaws → (i i' o o' : End) (used : Option StoreSeen) (status : ℕ) (told : TellsScan i)
    → RunsWell (Some explain_form) i i' o o' used status → ¬ (HasRisen i i')
    → EndsWith 0 (explain_text told.asked.zones told.filter told.projection) o o' status
explained_whole laws i i' o o' used status told well still = by (request_end (Some explain_form) i i' o o' used status refl well.run)
  where
    by : RequestEnd (Some explain_form) i i' o o' used status → EndsWith 0 (explain_text told.asked.zones told.filter told.projection) o o' status
    by (cut_off s risen) = absurd (well.quiet risen)
    by (without_memory s held) = absurd (well.memory s)
    by (not_read s risen held) = absurd (still risen)
    by (no_request input e s taken why written held) = absurd (told_unrefused i i' input e told taken.bytes why)
    by (no_scan input e s asks taken why free written held) = absurd (told_spelled laws i i' input e told taken.bytes why)
    by (breaks own cause input a f p s scans taken asks broken written held) = absurd (no_explain own (sym scans))
    by (reports own input a f p s scans taken asks unbroken written held) = absurd (no_explain own (sym scans))
    by (explains input a f p s other taken asks written held) =
        let same = told_scan laws i i' input a f p told taken.bytes asks in
        (s, subst (Added o.bytes o'.bytes) (λ j. explain_text (same.asked j).zones (same.filter j) (same.projection j)) written)
    by (no_key top input r s is taken why written held) = absurd (no_top (Some explain_form) _ refl is)
    by (top_stops cause input a ask s is taken asks broken written held) = absurd (no_top (Some explain_form) _ refl is)
    by (tops input a ask s is taken asks unbroken written held) = absurd (no_top (Some explain_form) _ refl is)
    by (no_file input s is taken why written held) = absurd (uses_no_file (Some explain_form) refl is)
    by (files input a s is taken holds written held) = absurd (uses_no_file (Some explain_form) refl is)

-- where what is taken of them is no request
pub says_why : (e : RequestError) (form : Option Form) (i i' o o' : End) (used : Option StoreSeen) (status : ℕ) (input : Bytes) → reads_request form ≡ true
    → i.bytes ≡ Some input → request_of (taken_of input) ≡ Err e → RunsWell form i i' o o' used status → ¬ (HasRisen i i')
    → EndsWith 3 (refusal_line (request_refusal_name e)) o o' status
says_why e form i i' o o' used status all reads told refuses well still = by (request_end form i i' o o' used status reads well.run)
  where
    refused_all : (input : Bytes) → IsTaken i i' input → request_of input ≡ Err e
    refused_all input taken = ap request_of (taken_part i i' all input told taken.bytes) ∙ refuses

    by : RequestEnd form i i' o o' used status → EndsWith 3 (refusal_line (request_refusal_name e)) o o' status
    by (cut_off s risen) = absurd (well.quiet risen)
    by (without_memory s held) = absurd (well.memory s)
    by (not_read s risen held) = absurd (still risen)
    by (no_request input g s taken why written held) =
        let same : g ≡ e = one_err (request_of input) g e why (refused_all input taken) in
        (s, subst (λ x. Added o.bytes o'.bytes (refusal_line (request_refusal_name x))) same written)
    by (no_scan input g s asks taken why free written held) = absurd (not_err (request_of input) why.asked e why.held (refused_all input taken))
    by (breaks own cause input a f p s scans taken asks broken written held) = absurd (not_err (request_of input) a e asks.asked (refused_all input taken))
    by (reports own input a f p s scans taken asks unbroken written held) = absurd (not_err (request_of input) a e asks.asked (refused_all input taken))
    by (explains input a f p s other taken asks written held) = absurd (not_err (request_of input) a e asks.asked (refused_all input taken))
    by (no_key top input r s is taken why written held) = absurd (not_err (request_of input) why.asked e why.held (refused_all input taken))
    by (top_stops cause input a ask s is taken asks broken written held) = absurd (not_err (request_of input) a e asks.scan.asked (refused_all input taken))
    by (tops input a ask s is taken asks unbroken written held) = absurd (not_err (request_of input) a e asks.scan.asked (refused_all input taken))
    by (no_file input s is taken why written held) = absurd (not_err (request_of input) why.asked e why.held (refused_all input taken))
    by (files input a s is taken holds written held) = absurd (not_err (request_of input) a e holds.asked (refused_all input taken))

-- where it holds a scan whose expressions are refused
pub says_refusal : WireLaws → (e : ScanError) (form : Option Form) (i i' o o' : End) (used : Option StoreSeen) (status : ℕ) (input : Bytes)
    → uses_expressions form ≡ true → i.bytes ≡ Some input → HoldsRefused (taken_of input) e → ¬ (HasNoKey form (taken_of input))
    → RunsWell form i i' o o' used status → ¬ (HasRisen i i')
    → EndsWith 4 (refusal_line (scan_refusal_name e)) o o' status
says_refusal laws e form i i' o o' used status all uses told refuses keyed well still =
    by (request_end form i i' o o' used status (uses_reads form uses) well.run)
  where
    refused_all : (input : Bytes) → IsTaken i i' input → HoldsRefused input e
    refused_all input taken = subst (λ bytes. HoldsRefused bytes e) (sym (taken_part i i' all input told taken.bytes)) refuses

    keyless_all : (input : Bytes) → IsTaken i i' input → (top : AskedTop) (r : KeyRefusal) → form ≡ Some (top_form top) → HoldsNoKey r top.key input
        → HasNoKey form (taken_of all)
    keyless_all input taken top r is why =
        subst (λ g. HasNoKey g (taken_of all)) (sym is) (r, subst (HoldsNoKey r top.key) (taken_part i i' all input told taken.bytes) why)

    by : RequestEnd form i i' o o' used status → EndsWith 4 (refusal_line (scan_refusal_name e)) o o' status
    by (cut_off s risen) = absurd (well.quiet risen)
    by (without_memory s held) = absurd (well.memory s)
    by (not_read s risen held) = absurd (still risen)
    by (no_request input g s taken why written held) =
        let own = refused_all input taken in
        absurd (not_err (request_of input) own.asked g own.held why)
    by (no_scan input g s asks taken why free written held) =
        let same : g ≡ e = one_held_refusal laws input g e why (refused_all input taken) in
        (s, subst (λ x. Added o.bytes o'.bytes (refusal_line (scan_refusal_name x))) same written)
    by (breaks own cause input a f p s scans taken asks broken written held) = absurd (held_unrefused laws input a f p e asks (refused_all input taken))
    by (reports own input a f p s scans taken asks unbroken written held) = absurd (held_unrefused laws input a f p e asks (refused_all input taken))
    by (explains input a f p s other taken asks written held) = absurd (held_unrefused laws input a f p e asks (refused_all input taken))
    by (no_key top input r s is taken why written held) = absurd (keyed (keyless_all input taken top r is why))
    by (top_stops cause input a ask s is taken asks broken written held) = absurd (held_unrefused laws input a ask.filter_expr ask.projection e asks.scan (refused_all input taken))
    by (tops input a ask s is taken asks unbroken written held) = absurd (held_unrefused laws input a ask.filter_expr ask.projection e asks.scan (refused_all input taken))
    by (no_file input s is taken why written held) = absurd (uses_no_file form uses is)
    by (files input a s is taken holds written held) = absurd (uses_no_file form uses is)

-- the run of a scan that breaks says why, and holds its store
abbrev pub SaysBreak : {i : End} → Statistics → TellsScan i → End → End → Option StoreSeen → ℕ → Type 0
SaysBreak chosen told o o' used status =
    ((cause : Cause) × (told_breaks_by cause chosen told ≡ true) × EndsWith 5 (refusal_line (break_name cause)) o o' status)
    × (used ≡ Some (broken_store (scan_by chosen told.asked) told.filter told.projection))

-- where a phase of the scan that is told breaks
pub says_break : WireLaws → (chosen : Statistics) (i i' o o' : End) (used : Option StoreSeen) (status : ℕ) (told : TellsScan i) → told_breaks chosen told ≡ true
    → RunsWell (Some (scan_form chosen)) i i' o o' used status → ¬ (HasRisen i i') → SaysBreak chosen told o o' used status
says_break laws chosen i i' o o' used status told breaking well still = by (request_end (Some (scan_form chosen)) i i' o o' used status refl well.run)
  where
    by : RequestEnd (Some (scan_form chosen)) i i' o o' used status → SaysBreak chosen told o o' used status
    by (cut_off s risen) = absurd (well.quiet risen)
    by (without_memory s held) = absurd (well.memory s)
    by (not_read s risen held) = absurd (still risen)
    by (no_request input e s taken why written held) = absurd (told_unrefused i i' input e told taken.bytes why)
    by (no_scan input e s asks taken why free written held) = absurd (told_spelled laws i i' input e told taken.bytes why)
    by (breaks own cause input a f p s scans taken asks broken written held) =
        let same = told_scan laws i i' input a f p told taken.bytes asks in
        let is = same_statistics chosen own scans in
        let by_cause : told_breaks_by cause chosen told ≡ true =
        sym (λ j. scan_breaks_by cause (scan_by (is j) (same.asked j)) (same.filter j) (same.projection j)) ∙ broken in
        ((cause, by_cause, (s, written)), held ∙ (λ j. Some (broken_store (scan_by (is j) (same.asked j)) (same.filter j) (same.projection j))))
    by (reports own input a f p s scans taken asks unbroken written held) =
        let same = told_scan laws i i' input a f p told taken.bytes asks in
        let quiet = told_breaking chosen own told a f p false (same_statistics chosen own scans) same unbroken in
        absurd (true≢false (sym breaking ∙ quiet))
    by (explains input a f p s other taken asks written held) = absurd (no_explain chosen other)
    by (no_key top input r s is taken why written held) = absurd (no_top (Some (scan_form chosen)) _ refl is)
    by (top_stops cause input a ask s is taken asks broken written held) = absurd (no_top (Some (scan_form chosen)) _ refl is)
    by (tops input a ask s is taken asks unbroken written held) = absurd (no_top (Some (scan_form chosen)) _ refl is)
    by (no_file input s is taken why written held) = absurd (uses_no_file (Some (scan_form chosen)) refl is)
    by (files input a s is taken holds written held) = absurd (uses_no_file (Some (scan_form chosen)) refl is)

-- the scan that a run reports is the one that the source's bytes ask, and so is the one that is explained
pub reported_as_told : WireLaws → (chosen : Statistics) (i i' o o' : End) (used : Option StoreSeen) (told : TellsScan i)
    → IsRun (Some (scan_form chosen)) i i' o o' used 0
    → Added o.bytes o'.bytes (scan_report (scan_by chosen told.asked) told.filter told.projection)
    × (used ≡ Some (scanned_store (scan_by chosen told.asked) told.filter told.projection))
reported_as_told laws chosen i i' o o' used told run =
    let found = reported chosen i i' o o' used run in
    let same = told_scan laws i i' found.input found.asked found.filter found.projection told found.taken.bytes found.asks in (
      subst (Added o.bytes o'.bytes) (λ j. scan_report (scan_by chosen (same.asked j)) (same.filter j) (same.projection j)) found.written,
      found.held ∙ (λ j. Some (scanned_store (scan_by chosen (same.asked j)) (same.filter j) (same.projection j))),
    )

pub explained_as_told : WireLaws → (i i' o o' : End) (used : Option StoreSeen) (told : TellsScan i) → IsRun (Some explain_form) i i' o o' used 0
    → Added o.bytes o'.bytes (explain_text told.asked.zones told.filter told.projection)
explained_as_told laws i i' o o' used told run =
    let found = was_explained i i' o o' used run in
    let same = told_scan laws i i' found.input found.asked found.filter found.projection told found.taken.bytes found.asks in
    subst (Added o.bytes o'.bytes) (λ j. explain_text (same.asked j).zones (same.filter j) (same.projection j)) found.written

-- where the statistics are honest, the report tells all rows
pub whole_where_honest : KeptRowsAreAll → (a : RequestedScan) (f p : Tree) → IsHonest a.zones (scan_table a) → scan_report a f p ≡ whole_report a f p
whole_where_honest all a f p honest =
    ap (λ rows. report_text (map value_text rows) (skipped_blocks a.zones [] f) (read_columns (scan_table a) (scan_reads a f p)) (length (scan_reads a f p)))
    (all a.zones (scan_table a) [] f p honest)
