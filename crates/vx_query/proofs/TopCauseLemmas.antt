-- What the status of a run whose arguments ask first rows tells.
use Rattle.std.proofs.Common.{◌≡◌, ◌⊎◌, ◌∙◌, sym, ap, refl, subst, ℕ, ◌+◌, Bool, true, false, ◌||◌, cond, List, [], ◌∷◌, map, length, Option, Some, inl, inr, arith, true≢false}
use Rattle.std.specs.List.{list_any}
use Rattle.std.proofs.lemmas.Option.{same_Some}
use Rattle.vx_dtype.specs.Types.{Bytes, Ty}
use Rattle.vx_semantics.specs.Breaks.{Cause}
use Rattle.vx_semantics.specs.Honest.{IsHonest}
use Rattle.vx_semantics.specs.Scans.{read_columns}
use Rattle.vx_semantics.specs.Tables.{row_type}
use Rattle.vx_display.specs.ValueTexts.{value_text}
use Rattle.vx_wire.specs.Encodings.{is_default_kind}
use Rattle.vx_io.specs.Ends.{TookUpTo, Added}
use Rattle.vx_scan.specs.Stores.{StoreSeen}
use Rattle.vx_laws_topk.specs.TopRows.{TopAsk, top_skipped}
use Rattle.vx_laws_topk.specs.TopLaws.{TopIsOfAllRows, IsAskedOf}
use Rattle.vx_laws_topk.specs.TopPhases.{SlottedPhase, slotted_breaks, slotted_breaks_by, first_slotted_breaks_by, top_phases, top_reads}
use Rattle.vx_request.specs.Requests.{RequestedScan, request_of, most_bytes}
use Rattle.vx_query.specs.Reports.{report_text}
use Rattle.vx_query.specs.Refusals.{scan_refusal_name, key_refusal_name, break_name, refusal_line}
use Rattle.vx_query.specs.TopWords.{AskedTop, KeyRefusal}
use Rattle.vx_query.specs.Running.{End, Statistics, IsTaken, IsRun, HoldsNoKey, HoldsTop, words_of, scan_form, explain_form, top_form, asked_top, scan_table, top_report, topped_store, top_broken_store, top_breaks, top_breaks_by}
use Rattle.vx_query.specs.Exclusions.{IsSameTop}
use Rattle.vx_query.specs.WireLaws.{WireLaws}
use Rattle.vx_query.specs.Causes.{HasRisen, TellsScan}
use Rattle.vx_query.specs.TopCauses.{AsksTop, IsTopped, IsUnkeyed, IsKeyedUnscanned, IsTopStopped, HasTopBroken, TellsTop, whole_top_report}
use Rattle.vx_query.specs.Exactly.{Tells, RunsWell, EndsWith, KeysEndSo, taken_of}
use Rattle.vx_query.proofs.RefusalLemmas.{not_err}
use Rattle.vx_query.proofs.KeyLemmas.{one_key_refusal, key_unsearched, one_search}
use Rattle.vx_query.proofs.SlotLemmas.{spelled_slotless}
use Rattle.vx_query.proofs.LineLemmas.{one_key, one_cause, no_key_name, told_name}
use Rattle.vx_query.proofs.CauseLemmas.{no_top, told_input, taken_part, told_unrefused, told_spelled}
use Rattle.vx_query.proofs.HonestLemmas.{request_table}
use Rattle.vx_query.proofs.RequestEnds.{RequestEnd, cut_off, without_memory, not_read, no_request, no_scan, breaks, reports, explains, no_key, top_stops, tops, no_file, files, uses_no_file, request_end}

-- the words of a run are those that are given
pub one_words : (top own : AskedTop) → Some (top_form top) ≡ Some (top_form own) → own ≡ top
one_words top own same = same_Some _ _ (sym (ap asked_top same))

-- they are no words of a scan, and no `explain`
pub no_scanning : (top : AskedTop) (chosen : Statistics) → ¬ (Some (top_form top) ≡ Some (scan_form chosen))
no_scanning top chosen same = no_top (Some (scan_form chosen)) top refl (sym same)

no_explaining : (top : AskedTop) → ¬ (Some (top_form top) ≡ Some explain_form)
no_explaining top same = no_top (Some explain_form) top refl (sym same)

-- the search that the words of a run ask
abbrev pub asked_search : (top : AskedTop) (i i' : End) (input : Bytes) (a : RequestedScan) (ask : TopAsk) → Some (top_form top) ≡ Some (top_form (words_of ask))
    → IsTaken i i' input → HoldsTop input a ask → AsksTop top i i'
asked_search top i i' input a ask is taken asks =
    record { input = input; asked = a; ask = ask; words = one_words top (words_of ask) is; taken = taken; asks = asks }

-- ---- what each status means

pub found_rows : (top : AskedTop) (i i' o o' : End) (used : Option StoreSeen) → IsRun (Some (top_form top)) i i' o o' used 0 → IsTopped top i i' o o' used
found_rows top i i' o o' used run = by (request_end (Some (top_form top)) i i' o o' used 0 refl run)
  where
    by : RequestEnd (Some (top_form top)) i i' o o' used 0 → IsTopped top i i' o o' used
    by (cut_off s risen) = absurd (omega (arith, s))
    by (without_memory s held) = absurd (omega (arith, s))
    by (not_read s risen held) = absurd (omega (arith, s))
    by (no_request input e s taken why written held) = absurd (omega (arith, s))
    by (no_scan input e s asks taken why free written held) = absurd (omega (arith, s))
    by (breaks own cause input a f p s scans taken asks broken written held) = absurd (omega (arith, s))
    by (reports own input a f p s scans taken asks unbroken written held) = absurd (no_scanning top own scans)
    by (explains input a f p s other taken asks written held) = absurd (no_explaining top other)
    by (no_key own input r s is taken why written held) = absurd (omega (arith, s))
    by (top_stops cause input a ask s is taken asks broken written held) = absurd (omega (arith, s))
    by (tops input a ask s is taken asks unbroken written held) = record {
      search = asked_search top i i' input a ask is taken asks;
      unbroken = unbroken;
      written = written;
      held = held;
    }
    by (no_file input s is taken why written held) = absurd (omega (arith, s))
    by (files input a s is taken holds written held) = absurd (uses_no_file (Some (top_form top)) refl is)

-- an input of which the key is refused, or the expressions are
pub unfound : (top : AskedTop) (i i' o o' : End) (used : Option StoreSeen) → IsRun (Some (top_form top)) i i' o o' used 4
    → IsUnkeyed top i i' o o' used ⊎ IsKeyedUnscanned top i i' o o' used
unfound top i i' o o' used run = by (request_end (Some (top_form top)) i i' o o' used 4 refl run)
  where
    by : RequestEnd (Some (top_form top)) i i' o o' used 4 → IsUnkeyed top i i' o o' used ⊎ IsKeyedUnscanned top i i' o o' used
    by (cut_off s risen) = absurd (omega (arith, s))
    by (without_memory s held) = absurd (omega (arith, s))
    by (not_read s risen held) = absurd (omega (arith, s))
    by (no_request input e s taken why written held) = absurd (omega (arith, s))
    by (no_scan input e s asks taken why free written held) =
        inr (record { input = input; refusal = e; taken = taken; cause = why; written = written; unheld = held }, free)
    by (breaks own cause input a f p s scans taken asks broken written held) = absurd (omega (arith, s))
    by (reports own input a f p s scans taken asks unbroken written held) = absurd (omega (arith, s))
    by (explains input a f p s other taken asks written held) = absurd (omega (arith, s))
    by (no_key own input r s is taken why written held) =
        let same = one_words top own is in
        inl record {
          input = input;
          refusal = r;
          taken = taken;
          cause = subst (λ w. HoldsNoKey r w.key input) same why;
          written = written;
          unheld = held;
        }
    by (top_stops cause input a ask s is taken asks broken written held) = absurd (omega (arith, s))
    by (tops input a ask s is taken asks unbroken written held) = absurd (omega (arith, s))
    by (no_file input s is taken why written held) = absurd (omega (arith, s))
    by (files input a s is taken holds written held) = absurd (omega (arith, s))

-- a search that broke
pub search_stopped : (top : AskedTop) (i i' o o' : End) (used : Option StoreSeen) → IsRun (Some (top_form top)) i i' o o' used 5
    → IsTopStopped top i i' o o' used
search_stopped top i i' o o' used run = by (request_end (Some (top_form top)) i i' o o' used 5 refl run)
  where
    by : RequestEnd (Some (top_form top)) i i' o o' used 5 → IsTopStopped top i i' o o' used
    by (cut_off s risen) = absurd (omega (arith, s))
    by (without_memory s held) = absurd (omega (arith, s))
    by (not_read s risen held) = absurd (omega (arith, s))
    by (no_request input e s taken why written held) = absurd (omega (arith, s))
    by (no_scan input e s asks taken why free written held) = absurd (omega (arith, s))
    by (breaks own cause input a f p s scans taken asks broken written held) = absurd (no_scanning top own scans)
    by (reports own input a f p s scans taken asks unbroken written held) = absurd (omega (arith, s))
    by (explains input a f p s other taken asks written held) = absurd (omega (arith, s))
    by (no_key own input r s is taken why written held) = absurd (omega (arith, s))
    by (top_stops cause input a ask s is taken asks broken written held) = record {
      cause = cause;
      broken = record { search = asked_search top i i' input a ask is taken asks; breaks = broken };
      written = written;
      held = held;
    }
    by (tops input a ask s is taken asks unbroken written held) = absurd (omega (arith, s))
    by (no_file input s is taken why written held) = absurd (omega (arith, s))
    by (files input a s is taken holds written held) = absurd (omega (arith, s))

-- ---- what a line tells

pub told_search_break : (cause : Cause) (top : AskedTop) (i i' o o' : End) (used : Option StoreSeen)
    → Tells (Some (top_form top)) i i' o o' used 5 (refusal_line (break_name cause)) → HasTopBroken cause top i i'
told_search_break cause top i i' o o' used tells =
    let found = search_stopped top i i' o o' used tells.run in
    let same : found.cause ≡ cause =
    one_cause found.cause cause
    (told_name o.bytes o'.bytes tells.before (break_name cause) (break_name found.cause) tells.stood tells.written found.written) in
    subst (λ c. HasTopBroken c top i i') same found.broken

told_key : (r : KeyRefusal) (top : AskedTop) (i i' o o' : End) (used : Option StoreSeen)
    → Tells (Some (top_form top)) i i' o o' used 4 (refusal_line (key_refusal_name r)) → (input : Bytes) × IsTaken i i' input × HoldsNoKey r top.key input
told_key r top i i' o o' used tells = by (unfound top i i' o o' used tells.run)
  where
    by : IsUnkeyed top i i' o o' used ⊎ IsKeyedUnscanned top i i' o o' used → (input : Bytes) × IsTaken i i' input × HoldsNoKey r top.key input
    by (inl found) =
        let same : found.refusal ≡ r =
        one_key found.refusal r
        (told_name o.bytes o'.bytes tells.before (key_refusal_name r) (key_refusal_name found.refusal) tells.stood tells.written found.written) in
        (found.input, found.taken, subst (λ q. HoldsNoKey q top.key found.input) same found.cause)
    by (inr (found, free)) =
        absurd
        (no_key_name found.refusal r
        (told_name o.bytes o'.bytes tells.before (key_refusal_name r) (scan_refusal_name found.refusal) tells.stood tells.written found.written))

-- where what is taken of the told bytes has such a key
says_key : (r : KeyRefusal) (top : AskedTop) (i i' o o' : End) (used : Option StoreSeen) (status : ℕ) (all : Bytes) → i.bytes ≡ Some all
    → HoldsNoKey r top.key (taken_of all) → RunsWell (Some (top_form top)) i i' o o' used status → ¬ (HasRisen i i')
    → EndsWith 4 (refusal_line (key_refusal_name r)) o o' status
says_key r top i i' o o' used status all told refuses well still = by (request_end (Some (top_form top)) i i' o o' used status refl well.run)
  where
    refused_all : (input : Bytes) → IsTaken i i' input → HoldsNoKey r top.key input
    refused_all input taken = subst (HoldsNoKey r top.key) (sym (taken_part i i' all input told taken.bytes)) refuses

    unsearched : (input : Bytes) (a : RequestedScan) (ask : TopAsk) → Some (top_form top) ≡ Some (top_form (words_of ask)) → IsTaken i i' input
        → ¬ (HoldsTop input a ask)
    unsearched input a ask is taken asks =
        key_unsearched input r a ask (subst (λ w. HoldsNoKey r w.key input) (sym (one_words top (words_of ask) is)) (refused_all input taken)) asks

    by : RequestEnd (Some (top_form top)) i i' o o' used status → EndsWith 4 (refusal_line (key_refusal_name r)) o o' status
    by (cut_off s risen) = absurd (well.quiet risen)
    by (without_memory s held) = absurd (well.memory s)
    by (not_read s risen held) = absurd (still risen)
    by (no_request input e s taken why written held) =
        let own = refused_all input taken in
        absurd (not_err (request_of input) own.asked e own.held why)
    by (no_scan input e s asks taken why free written held) = absurd (free (r, refused_all input taken))
    by (breaks own cause input a f p s scans taken asks broken written held) = absurd (no_scanning top own scans)
    by (reports own input a f p s scans taken asks unbroken written held) = absurd (no_scanning top own scans)
    by (explains input a f p s other taken asks written held) = absurd (no_explaining top other)
    by (no_key own input q s is taken why written held) =
        let other : HoldsNoKey q top.key input = subst (λ w. HoldsNoKey q w.key input) (one_words top own is) why in
        let same : q ≡ r = one_key_refusal top.key input q r other (refused_all input taken) in
        (s, subst (λ x. Added o.bytes o'.bytes (refusal_line (key_refusal_name x))) same written)
    by (top_stops cause input a ask s is taken asks broken written held) = absurd (unsearched input a ask is taken asks)
    by (tops input a ask s is taken asks unbroken written held) = absurd (unsearched input a ask is taken asks)
    by (no_file input s is taken why written held) = absurd (uses_no_file (Some (top_form top)) refl is)
    by (files input a s is taken holds written held) = absurd (uses_no_file (Some (top_form top)) refl is)

pub key_row : (r : KeyRefusal) → KeysEndSo 4 (key_refusal_name r) (HoldsNoKey r)
key_row r = record { only = told_key r; always = says_key r }

-- ---- phases that break

break_step : (own other rest some : Bool) → (rest ≡ true → some ≡ true) → cond own other rest ≡ true → (own || some) ≡ true
break_step true other rest some more h = refl
break_step false other rest some more h = more h

some_breaks : (cause : Cause) (t : Ty) (phases : List SlottedPhase) → first_slotted_breaks_by cause t phases ≡ true → list_any (slotted_breaks t) phases ≡ true
some_breaks cause t [] h = absurd (true≢false (sym h))
some_breaks cause t (phase ∷ phases) h =
    break_step (slotted_breaks t phase) (slotted_breaks_by cause t phase) (first_slotted_breaks_by cause t phases)
    (list_any (slotted_breaks t) phases) (some_breaks cause t phases) h

pub search_breaks : (cause : Cause) (a : RequestedScan) (ask : TopAsk) → top_breaks_by cause a ask ≡ true → top_breaks a ask ≡ true
search_breaks cause a ask h = some_breaks cause (row_type a.zones.columns) (top_phases ask (scan_table a) a.zones) h

-- ---- runs over a source whose bytes are told

-- the scan of the search that an end tells
abbrev scan_told : {i : End} → TellsTop i → TellsScan i
scan_told told = record {
  input = told.input;
  told = told.told;
  asked = told.asked;
  filter = told.ask.filter_expr;
  projection = told.ask.projection;
  asks = told.asks.scan;
}

-- a search that is held by the same words is the one that the end tells
told_search : WireLaws → (i i' : End) (input : Bytes) (a : RequestedScan) (ask : TopAsk) (told : TellsTop i)
    → TookUpTo (most_bytes + 1) i.bytes i'.bytes input → words_of ask ≡ words_of told.ask → HoldsTop input a ask → IsSameTop a ask told.asked told.ask
told_search laws i i' input a ask told took words held =
    let same = told_input i i' input (scan_told told) took in
    one_search laws told.input a told.asked ask told.ask words (subst (λ bytes. HoldsTop bytes a ask) same held) told.asks

-- and its key isn't refused
told_keyed : (i i' : End) (input : Bytes) (r : KeyRefusal) (told : TellsTop i) → TookUpTo (most_bytes + 1) i.bytes i'.bytes input
    → ¬ (HoldsNoKey r told.ask.key input)
told_keyed i i' input r told took h =
    let same = told_input i i' input (scan_told told) took in
    key_unsearched told.input r told.asked told.ask (subst (HoldsNoKey r told.ask.key) same h) told.asks

-- the search that is told breaks as the same one does
told_breaking : {i : End} (told : TellsTop i) (a : RequestedScan) (ask : TopAsk) (b : Bool) → IsSameTop a ask told.asked told.ask → top_breaks a ask ≡ b
    → top_breaks told.asked told.ask ≡ b
told_breaking told a ask b same h = sym (λ j. top_breaks (same.asked j) (same.search j)) ∙ h

pub found_whole : WireLaws → (i i' o o' : End) (used : Option StoreSeen) (status : ℕ) (told : TellsTop i) → top_breaks told.asked told.ask ≡ false
    → RunsWell (Some (top_form (words_of told.ask))) i i' o o' used status → ¬ (HasRisen i i')
    → EndsWith 0 (top_report told.asked told.ask) o o' status
found_whole laws i i' o o' used status told unbroken well still =
    by (request_end (Some (top_form (words_of told.ask))) i i' o o' used status refl well.run)
  where
    by : RequestEnd (Some (top_form (words_of told.ask))) i i' o o' used status → EndsWith 0 (top_report told.asked told.ask) o o' status
    by (cut_off s risen) = absurd (well.quiet risen)
    by (without_memory s held) = absurd (well.memory s)
    by (not_read s risen held) = absurd (still risen)
    by (no_request input e s taken why written held) = absurd (told_unrefused i i' input e (scan_told told) taken.bytes why)
    by (no_scan input e s asks taken why free written held) = absurd (told_spelled laws i i' input e (scan_told told) taken.bytes why)
    by (breaks own cause input a f p s scans taken asks broken written held) = absurd (no_scanning (words_of told.ask) own scans)
    by (reports own input a f p s scans taken asks quiet written held) = absurd (no_scanning (words_of told.ask) own scans)
    by (explains input a f p s other taken asks written held) = absurd (no_explaining (words_of told.ask) other)
    by (no_key own input r s is taken why written held) =
        absurd (told_keyed i i' input r told taken.bytes (subst (λ w. HoldsNoKey r w.key input) (one_words (words_of told.ask) own is) why))
    by (top_stops cause input a ask s is taken asks broken written held) =
        let same = told_search laws i i' input a ask told taken.bytes (one_words (words_of told.ask) (words_of ask) is) asks in
        absurd (true≢false (sym (told_breaking told a ask true same (search_breaks cause a ask broken)) ∙ unbroken))
    by (tops input a ask s is taken asks quiet written held) =
        let same = told_search laws i i' input a ask told taken.bytes (one_words (words_of told.ask) (words_of ask) is) asks in
        (s, subst (Added o.bytes o'.bytes) (λ j. top_report (same.asked j) (same.search j)) written)
    by (no_file input s is taken why written held) = absurd (uses_no_file (Some (top_form (words_of told.ask))) refl is)
    by (files input a s is taken holds written held) = absurd (uses_no_file (Some (top_form (words_of told.ask))) refl is)

-- the run of a search that breaks says why, and holds its store
abbrev pub SaysBreak : {i : End} → TellsTop i → End → End → Option StoreSeen → ℕ → Type 0
SaysBreak told o o' used status =
    ((cause : Cause) × (top_breaks_by cause told.asked told.ask ≡ true) × EndsWith 5 (refusal_line (break_name cause)) o o' status)
    × (used ≡ Some (top_broken_store told.asked told.ask))

pub says_search_break : WireLaws → (i i' o o' : End) (used : Option StoreSeen) (status : ℕ) (told : TellsTop i) → top_breaks told.asked told.ask ≡ true
    → RunsWell (Some (top_form (words_of told.ask))) i i' o o' used status → ¬ (HasRisen i i') → SaysBreak told o o' used status
says_search_break laws i i' o o' used status told breaking well still =
    by (request_end (Some (top_form (words_of told.ask))) i i' o o' used status refl well.run)
  where
    by : RequestEnd (Some (top_form (words_of told.ask))) i i' o o' used status → SaysBreak told o o' used status
    by (cut_off s risen) = absurd (well.quiet risen)
    by (without_memory s held) = absurd (well.memory s)
    by (not_read s risen held) = absurd (still risen)
    by (no_request input e s taken why written held) = absurd (told_unrefused i i' input e (scan_told told) taken.bytes why)
    by (no_scan input e s asks taken why free written held) = absurd (told_spelled laws i i' input e (scan_told told) taken.bytes why)
    by (breaks own cause input a f p s scans taken asks broken written held) = absurd (no_scanning (words_of told.ask) own scans)
    by (reports own input a f p s scans taken asks quiet written held) = absurd (no_scanning (words_of told.ask) own scans)
    by (explains input a f p s other taken asks written held) = absurd (no_explaining (words_of told.ask) other)
    by (no_key own input r s is taken why written held) =
        absurd (told_keyed i i' input r told taken.bytes (subst (λ w. HoldsNoKey r w.key input) (one_words (words_of told.ask) own is) why))
    by (top_stops cause input a ask s is taken asks broken written held) =
        let same = told_search laws i i' input a ask told taken.bytes (one_words (words_of told.ask) (words_of ask) is) asks in
        let by_cause : top_breaks_by cause told.asked told.ask ≡ true =
        sym (λ j. top_breaks_by cause (same.asked j) (same.search j)) ∙ broken in
        ((cause, by_cause, (s, written)), held ∙ (λ j. Some (top_broken_store (same.asked j) (same.search j))))
    by (tops input a ask s is taken asks unbroken written held) =
        let same = told_search laws i i' input a ask told taken.bytes (one_words (words_of told.ask) (words_of ask) is) asks in
        let quiet = told_breaking told a ask false same unbroken in
        absurd (true≢false (sym breaking ∙ quiet))
    by (no_file input s is taken why written held) = absurd (uses_no_file (Some (top_form (words_of told.ask))) refl is)
    by (files input a s is taken holds written held) = absurd (uses_no_file (Some (top_form (words_of told.ask))) refl is)

-- the search that a run reports is the one that the source's bytes ask
pub found_as_told : WireLaws → (i i' o o' : End) (used : Option StoreSeen) (told : TellsTop i) → IsRun (Some (top_form (words_of told.ask))) i i' o o' used 0
    → Added o.bytes o'.bytes (top_report told.asked told.ask) × (used ≡ Some (topped_store told.asked told.ask))
found_as_told laws i i' o o' used told run =
    let found = found_rows (words_of told.ask) i i' o o' used run in
    let search = found.search in
    let same = told_search laws i i' search.input search.asked search.ask told search.taken.bytes search.words search.asks in (
      subst (Added o.bytes o'.bytes) (λ j. top_report (same.asked j) (same.search j)) found.written,
      found.held ∙ (λ j. Some (topped_store (same.asked j) (same.search j))),
    )

-- where the statistics are honest, the report tells the first of all rows
pub whole_where_honest : TopIsOfAllRows → (input : Bytes) (a : RequestedScan) (ask : TopAsk) → HoldsTop input a ask → IsHonest a.zones (scan_table a)
    → top_report a ask ≡ whole_top_report a ask
whole_where_honest all input a ask holds honest =
    let asked : IsAskedOf (scan_table a) ask = record {
      column = holds.column;
      plain = holds.plain;
      filter_slots = spelled_slotless is_default_kind a.filter ask.filter_expr holds.scan.spelled.filter_spelled;
      projection_slots = spelled_slotless is_default_kind a.projection ask.projection holds.scan.spelled.projection_spelled;
    } in
    ap
    (λ rows. report_text (map value_text rows) (top_skipped ask (scan_table a) a.zones) (read_columns (scan_table a) (top_reads ask (scan_table a) a.zones))
    (length (top_reads ask (scan_table a) a.zones)))
    (all ask (scan_table a) a.zones asked (request_table input a holds.scan.asked).fit honest)
