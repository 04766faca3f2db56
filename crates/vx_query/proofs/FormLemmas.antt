-- What the status of a run tells of the form of its arguments: none, which forms break, hold stores and take nothing; and of faults.
use Rattle.std.proofs.Common.{◌≡◌, ◌⊎◌, ◌∙◌, sym, ap, refl, ℕ, true, false, Option, Some, None, inl, inr, arith, true≢false}
use Rattle.vx_scan.specs.Stores.{StoreSeen}
use Rattle.vx_query.specs.TopWords.{AskedTop}
use Rattle.vx_query.specs.Running.{End, Form, Statistics, scan_form, explain_form, top_form, file_form, scan_file_form, words_of, reads_request, reads_input, scans_file, asked_rows, asked_statistics, asked_top, Outcome, misused, helped, versioned, out_of_memory, unread, refused, unscanned, broken, answered, explained, undecoded, unshown, shown, unnamed, unserialized, overlong, named, summed, unkeyed, top_broken, topped, unfiled, filed, file_ended, Writing, whole, cut, IsOutcome, IsWriting, IsRun, status_of, outcome_text, used_by}
use Rattle.vx_query.specs.Causes.{HasRisen, IsMisuse}
use Rattle.vx_query.proofs.RequestEnds.{not_none, uses_reads, requests_read, no_second}

-- ---- arguments of no form

pub unformed : (form : Option Form) (i i' o o' : End) (used : Option StoreSeen) → IsRun form i i' o o' used 2 → form ≡ None
unformed form i i' o o' used run = by run.outcome run.writing run.comes run.written
  where
    by : (outcome : Outcome) (writing : Writing) → IsOutcome form i i' outcome → IsWriting o o' (outcome_text outcome) (status_of outcome) 2 writing → form ≡ None
    by outcome cut comes written = absurd (omega (arith, written.0))
    by misused whole comes written = comes.0
    by helped whole comes written = absurd (omega (arith, written.0))
    by versioned whole comes written = absurd (omega (arith, written.0))
    by out_of_memory whole comes written = absurd (omega (arith, written.0))
    by unread whole comes written = absurd (omega (arith, written.0))
    by (refused input e) whole comes written = absurd (omega (arith, written.0))
    by (unscanned input e) whole comes written = absurd (omega (arith, written.0))
    by (broken chosen cause input a f p) whole comes written = absurd (omega (arith, written.0))
    by (answered chosen input a f p) whole comes written = absurd (omega (arith, written.0))
    by (explained input a f p) whole comes written = absurd (omega (arith, written.0))
    by undecoded whole comes written = absurd (omega (arith, written.0))
    by (unshown e) whole comes written = absurd (omega (arith, written.0))
    by (shown showing e) whole comes written = absurd (omega (arith, written.0))
    by (unnamed e) whole comes written = absurd (omega (arith, written.0))
    by unserialized whole comes written = absurd (omega (arith, written.0))
    by overlong whole comes written = absurd (omega (arith, written.0))
    by (named e) whole comes written = absurd (omega (arith, written.0))
    by (summed rows) whole comes written = absurd (omega (arith, written.0))
    by (unkeyed top input r) whole comes written = absurd (omega (arith, written.0))
    by (top_broken cause input a ask) whole comes written = absurd (omega (arith, written.0))
    by (topped input a ask) whole comes written = absurd (omega (arith, written.0))
    by (unfiled input) whole comes written = absurd (omega (arith, written.0))
    by (filed input a) whole comes written = absurd (omega (arith, written.0))
    by (file_ended input ending) whole comes written = absurd (no_second ending written.0)

pub misuses : (i i' o o' : End) (used : Option StoreSeen) (status : ℕ) → IsRun None i i' o o' used status → ¬ (HasRisen o o')
    → IsMisuse i i' o o' used status
misuses i i' o o' used status run quiet = by run.outcome run.writing run.comes run.written run.held
  where
    by : (outcome : Outcome) (writing : Writing) → IsOutcome None i i' outcome
        → IsWriting o o' (outcome_text outcome) (status_of outcome) status writing
        → used ≡ used_by outcome
        → IsMisuse i i' o o' used status
    by outcome cut comes written held = absurd (quiet written.1.1)
    by misused whole comes written held = record { ends = written.0; written = written.1.0; untaken = comes.1; unheld = held }
    by helped whole comes written held = absurd (not_none (sym comes.0))
    by versioned whole comes written held = absurd (not_none (sym comes.0))
    by out_of_memory whole comes written held = elim comes [
      | inl part ↦ absurd (true≢false (sym part.0))
      | inr given ↦ elim given.0 [
        | inl word ↦ elim word.1 [ inl shows ↦ absurd (not_none (sym shows)) | inr asks ↦ absurd (not_none (sym asks)) ]
        | inr rows ↦ absurd (not_none (sym rows.1))
      ]
    ]
    by unread whole comes written held = absurd (true≢false (sym comes.reads))
    by (refused input e) whole comes written held = absurd (true≢false (sym comes.asks))
    by (unscanned input e) whole comes written held = absurd (true≢false (sym comes.asks))
    by (broken chosen cause input a f p) whole comes written held = absurd (not_none (sym comes.asks))
    by (answered chosen input a f p) whole comes written held = absurd (not_none (sym comes.asks))
    by (explained input a f p) whole comes written held = absurd (not_none (sym comes.asks))
    by undecoded whole comes written held = absurd (not_none (sym comes.asks))
    by (unshown e) whole comes written held = absurd (not_none (sym comes.asks))
    by (shown showing e) whole comes written held = absurd (not_none (sym comes.asks))
    by (unnamed e) whole comes written held = absurd (not_none (sym comes.asks))
    by unserialized whole comes written held = absurd (not_none (sym comes.asks))
    by overlong whole comes written held = absurd (not_none (sym comes.asks))
    by (named e) whole comes written held = absurd (not_none (sym comes.asks))
    by (summed rows) whole comes written held = absurd (not_none (sym comes.0))
    by (unkeyed top input r) whole comes written held = absurd (not_none (sym comes.asks))
    by (top_broken cause input a ask) whole comes written held = absurd (not_none (sym comes.asks))
    by (topped input a ask) whole comes written held = absurd (not_none (sym comes.asks))
    by (unfiled input) whole comes written held = absurd (not_none (sym comes.asks))
    by (filed input a) whole comes written held = absurd (not_none (sym comes.asks))
    by (file_ended input ending) whole comes written held = absurd (not_none (sym comes.asks))

-- ---- which forms break, hold stores and take nothing

-- arguments of a scan, of first rows, or of the scan of a block file
abbrev pub BreaksSo : Option Form → Type 0
BreaksSo form = ((s : Statistics) × (form ≡ Some (scan_form s))) ⊎ (((top : AskedTop) × (form ≡ Some (top_form top))) ⊎ (form ≡ Some scan_file_form))

pub broken_scans : (form : Option Form) (i i' o o' : End) (used : Option StoreSeen) → IsRun form i i' o o' used 5
    → BreaksSo form
broken_scans form i i' o o' used run = by run.outcome run.writing run.comes run.written
  where
    by : (outcome : Outcome) (writing : Writing) → IsOutcome form i i' outcome
        → IsWriting o o' (outcome_text outcome) (status_of outcome) 5 writing
        → BreaksSo form
    by outcome cut comes written = absurd (omega (arith, written.0))
    by misused whole comes written = absurd (omega (arith, written.0))
    by helped whole comes written = absurd (omega (arith, written.0))
    by versioned whole comes written = absurd (omega (arith, written.0))
    by out_of_memory whole comes written = absurd (omega (arith, written.0))
    by unread whole comes written = absurd (omega (arith, written.0))
    by (refused input e) whole comes written = absurd (omega (arith, written.0))
    by (unscanned input e) whole comes written = absurd (omega (arith, written.0))
    by (broken chosen cause input a f p) whole comes written = inl (chosen, comes.asks)
    by (answered chosen input a f p) whole comes written = absurd (omega (arith, written.0))
    by (explained input a f p) whole comes written = absurd (omega (arith, written.0))
    by undecoded whole comes written = absurd (omega (arith, written.0))
    by (unshown e) whole comes written = absurd (omega (arith, written.0))
    by (shown showing e) whole comes written = absurd (omega (arith, written.0))
    by (unnamed e) whole comes written = absurd (omega (arith, written.0))
    by unserialized whole comes written = absurd (omega (arith, written.0))
    by overlong whole comes written = absurd (omega (arith, written.0))
    by (named e) whole comes written = absurd (omega (arith, written.0))
    by (summed rows) whole comes written = absurd (omega (arith, written.0))
    by (unkeyed top input r) whole comes written = absurd (omega (arith, written.0))
    by (top_broken cause input a ask) whole comes written = inr (inl (words_of ask, comes.asks))
    by (topped input a ask) whole comes written = absurd (omega (arith, written.0))
    by (unfiled input) whole comes written = absurd (omega (arith, written.0))
    by (filed input a) whole comes written = absurd (omega (arith, written.0))
    by (file_ended input ending) whole comes written = inr (inr comes.asks)

pub broken_reads : (form : Option Form) (i i' o o' : End) (used : Option StoreSeen) → scans_file form ≡ false → IsRun form i i' o o' used 5
    → reads_request form ≡ true
broken_reads form i i' o o' used no_file run =
    elim (broken_scans form i i' o o' used run) [
      | inl scans ↦ ap reads_request scans.1
      | inr others ↦ elim others [ inl asks ↦ ap reads_request asks.1 | inr is ↦ absurd (true≢false (sym (ap scans_file is) ∙ no_file)) ]
    ]

pub scans_hold : (form : Option Form) (i i' o o' : End) (used : Option StoreSeen) (status : ℕ) → asked_statistics form ≡ None → asked_rows form ≡ None
    → asked_top form ≡ None → IsRun form i i' o o' used status → used ≡ None
scans_hold form i i' o o' used status no_scan none no_top run = by run.outcome run.comes run.held
  where
    by : (outcome : Outcome) → IsOutcome form i i' outcome → used ≡ used_by outcome → used ≡ None
    by misused comes held = held
    by helped comes held = held
    by versioned comes held = held
    by out_of_memory comes held = held
    by unread comes held = held
    by (refused input e) comes held = held
    by (unscanned input e) comes held = held
    by (broken chosen cause input a f p) comes held = absurd (not_none (sym (ap asked_statistics comes.asks) ∙ no_scan))
    by (answered chosen input a f p) comes held = absurd (not_none (sym (ap asked_statistics comes.asks) ∙ no_scan))
    by (explained input a f p) comes held = held
    by undecoded comes held = held
    by (unshown e) comes held = held
    by (shown showing e) comes held = held
    by (unnamed e) comes held = held
    by unserialized comes held = held
    by overlong comes held = held
    by (named e) comes held = held
    by (summed rows) comes held = absurd (not_none (sym (ap asked_rows comes.0) ∙ none))
    by (unkeyed top input r) comes held = held
    by (top_broken cause input a ask) comes held = absurd (not_none (sym (ap asked_top comes.asks) ∙ no_top))
    by (topped input a ask) comes held = absurd (not_none (sym (ap asked_top comes.asks) ∙ no_top))
    by (unfiled input) comes held = held
    by (filed input a) comes held = held
    by (file_ended input ending) comes held = held

pub others_take_nothing : (form : Option Form) (i i' o o' : End) (used : Option StoreSeen) (status : ℕ) → reads_input form ≡ false
    → IsRun form i i' o o' used status → i' ≡ i
others_take_nothing form i i' o o' used status none run = by run.outcome run.comes
  where
    differs : (other : Option Form) → reads_input other ≡ true → ¬ (form ≡ other)
    differs other reads same = true≢false (sym reads ∙ sym (ap reads_input same) ∙ none)

    by : (outcome : Outcome) → IsOutcome form i i' outcome → i' ≡ i
    by misused comes = comes.1
    by helped comes = comes.1
    by versioned comes = comes.1
    by out_of_memory comes = elim comes [ inl part ↦ absurd (true≢false (sym part.0 ∙ none)) | inr word ↦ word.1 ]
    by unread comes = absurd (true≢false (sym comes.reads ∙ none))
    by (refused input e) comes = absurd (true≢false (sym (requests_read form comes.asks) ∙ none))
    by (unscanned input e) comes = absurd (true≢false (sym (requests_read form (uses_reads form comes.asks)) ∙ none))
    by (broken chosen cause input a f p) comes = absurd (differs (Some (scan_form chosen)) refl comes.asks)
    by (answered chosen input a f p) comes = absurd (differs (Some (scan_form chosen)) refl comes.asks)
    by (explained input a f p) comes = absurd (differs (Some explain_form) refl comes.asks)
    by undecoded comes = comes.untaken
    by (unshown e) comes = comes.untaken
    by (shown showing e) comes = comes.untaken
    by (unnamed e) comes = comes.untaken
    by unserialized comes = comes.untaken
    by overlong comes = comes.untaken
    by (named e) comes = comes.untaken
    by (summed rows) comes = comes.1
    by (unkeyed top input r) comes = absurd (differs (Some (top_form top)) refl comes.asks)
    by (top_broken cause input a ask) comes = absurd (differs (Some (top_form (words_of ask))) refl comes.asks)
    by (topped input a ask) comes = absurd (differs (Some (top_form (words_of ask))) refl comes.asks)
    by (unfiled input) comes = absurd (differs (Some file_form) refl comes.asks)
    by (filed input a) comes = absurd (differs (Some file_form) refl comes.asks)
    by (file_ended input ending) comes = absurd (differs (Some scan_file_form) refl comes.asks)
