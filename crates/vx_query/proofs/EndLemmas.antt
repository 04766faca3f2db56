-- What the status of a run tells of faults and of want of memory, and what help, words and queries that are refused leave.
use Rattle.std.proofs.Common.{◌≡◌, sym, ap, refl, ℕ, ◌-◌, ◌^◌, ◌<◌, false, codes, Option, Some, None, inl, inr, arith, true≢false}
use Rattle.vx_dtype.specs.Types.{Bytes}
use Rattle.vx_scan.specs.Stores.{StoreSeen}
use Rattle.vx_query.specs.Refusals.{text_refusal_name}
use Rattle.vx_query.specs.Running.{End, Form, scan_form, explain_form, show_form, text_form, gen_form, top_form, file_form, scan_file_form, help_form, version_form, help_text, version_text, reads_request, reads_input, shown_word, asked_rows, asked_statistics, asked_top, Outcome, misused, helped, versioned, out_of_memory, unread, refused, unscanned, broken, answered, explained, undecoded, unshown, shown, unnamed, unserialized, overlong, named, summed, unkeyed, top_broken, topped, unfiled, filed, file_ended, Writing, whole, cut, IsOutcome, IsWriting, IsRun, status_of, outcome_text, used_by}
use Rattle.vx_query.specs.Causes.{HasRisen, IsCut, IsUnread, IsWithoutMemory, IsTold, IsUndigited, IsUnshown, IsUnnamed}
use Rattle.vx_query.proofs.FormLemmas.{scans_hold, others_take_nothing}
use Rattle.vx_query.proofs.RequestEnds.{not_none, no_sixth, no_seventh, no_eighth}
use Rattle.vx_query.proofs.WordEnds as words
use Rattle.vx_query.proofs.QueryEnds as queries

-- ---- faults

-- a source that failed
pub source_unread : (form : Option Form) (i i' o o' : End) (used : Option StoreSeen) → IsRun form i i' o o' used 6 → IsUnread form i i' o o' used
source_unread form i i' o o' used run = by run.outcome run.writing run.comes run.written run.held
  where
    by : (outcome : Outcome) (writing : Writing) → IsOutcome form i i' outcome → IsWriting o o' (outcome_text outcome) (status_of outcome) 6 writing
        → used ≡ used_by outcome → IsUnread form i i' o o' used
    by outcome cut comes written held = absurd (omega (arith, written.0))
    by misused whole comes written held = absurd (omega (arith, written.0))
    by helped whole comes written held = absurd (omega (arith, written.0))
    by versioned whole comes written held = absurd (omega (arith, written.0))
    by out_of_memory whole comes written held = absurd (omega (arith, written.0))
    by unread whole comes written held = record { failed = comes; written = written.1.0; unheld = held }
    by (refused input e) whole comes written held = absurd (omega (arith, written.0))
    by (unscanned input e) whole comes written held = absurd (omega (arith, written.0))
    by (broken chosen cause input a f p) whole comes written held = absurd (omega (arith, written.0))
    by (answered chosen input a f p) whole comes written held = absurd (omega (arith, written.0))
    by (explained input a f p) whole comes written held = absurd (omega (arith, written.0))
    by undecoded whole comes written held = absurd (omega (arith, written.0))
    by (unshown e) whole comes written held = absurd (omega (arith, written.0))
    by (shown showing e) whole comes written held = absurd (omega (arith, written.0))
    by (unnamed e) whole comes written held = absurd (omega (arith, written.0))
    by unserialized whole comes written held = absurd (omega (arith, written.0))
    by overlong whole comes written held = absurd (omega (arith, written.0))
    by (named e) whole comes written held = absurd (omega (arith, written.0))
    by (summed rows) whole comes written held = absurd (omega (arith, written.0))
    by (unkeyed top input r) whole comes written held = absurd (omega (arith, written.0))
    by (top_broken cause input a ask) whole comes written held = absurd (omega (arith, written.0))
    by (topped input a ask) whole comes written held = absurd (omega (arith, written.0))
    by (unfiled input) whole comes written held = absurd (omega (arith, written.0))
    by (filed input a) whole comes written held = absurd (omega (arith, written.0))
    by (file_ended input ending) whole comes written held = absurd (no_sixth ending written.0)

-- a sink that failed
pub sink_cut : (form : Option Form) (i i' o o' : End) (used : Option StoreSeen) → IsRun form i i' o o' used 7 → IsCut form i i' o o' used
sink_cut form i i' o o' used run = by run.outcome run.writing run.comes run.written run.held
  where
    by : (outcome : Outcome) (writing : Writing) → IsOutcome form i i' outcome → IsWriting o o' (outcome_text outcome) (status_of outcome) 7 writing
        → used ≡ used_by outcome → IsCut form i i' o o' used
    by outcome cut comes written held = record { outcome = outcome; comes = comes; risen = written.1.1; written = written.1.0; held = held }
    by misused whole comes written held = absurd (omega (arith, written.0))
    by helped whole comes written held = absurd (omega (arith, written.0))
    by versioned whole comes written held = absurd (omega (arith, written.0))
    by out_of_memory whole comes written held = absurd (omega (arith, written.0))
    by unread whole comes written held = absurd (omega (arith, written.0))
    by (refused input e) whole comes written held = absurd (omega (arith, written.0))
    by (unscanned input e) whole comes written held = absurd (omega (arith, written.0))
    by (broken chosen cause input a f p) whole comes written held = absurd (omega (arith, written.0))
    by (answered chosen input a f p) whole comes written held = absurd (omega (arith, written.0))
    by (explained input a f p) whole comes written held = absurd (omega (arith, written.0))
    by undecoded whole comes written held = absurd (omega (arith, written.0))
    by (unshown e) whole comes written held = absurd (omega (arith, written.0))
    by (shown showing e) whole comes written held = absurd (omega (arith, written.0))
    by (unnamed e) whole comes written held = absurd (omega (arith, written.0))
    by unserialized whole comes written held = absurd (omega (arith, written.0))
    by overlong whole comes written held = absurd (omega (arith, written.0))
    by (named e) whole comes written held = absurd (omega (arith, written.0))
    by (summed rows) whole comes written held = absurd (omega (arith, written.0))
    by (unkeyed top input r) whole comes written held = absurd (omega (arith, written.0))
    by (top_broken cause input a ask) whole comes written held = absurd (omega (arith, written.0))
    by (topped input a ask) whole comes written held = absurd (omega (arith, written.0))
    by (unfiled input) whole comes written held = absurd (omega (arith, written.0))
    by (filed input a) whole comes written held = absurd (omega (arith, written.0))
    by (file_ended input ending) whole comes written held = absurd (no_seventh ending written.0)

-- want of memory
pub without_any : (form : Option Form) (i i' o o' : End) (used : Option StoreSeen) → IsRun form i i' o o' used 8 → IsWithoutMemory form i i' o o' used
without_any form i i' o o' used run = by run.outcome run.writing run.comes run.written run.held
  where
    by : (outcome : Outcome) (writing : Writing) → IsOutcome form i i' outcome → IsWriting o o' (outcome_text outcome) (status_of outcome) 8 writing
        → used ≡ used_by outcome → IsWithoutMemory form i i' o o' used
    by outcome cut comes written held = absurd (omega (arith, written.0))
    by misused whole comes written held = absurd (omega (arith, written.0))
    by helped whole comes written held = absurd (omega (arith, written.0))
    by versioned whole comes written held = absurd (omega (arith, written.0))
    by out_of_memory whole comes written held = record { part = comes; written = written.1.0; unheld = held }
    by unread whole comes written held = absurd (omega (arith, written.0))
    by (refused input e) whole comes written held = absurd (omega (arith, written.0))
    by (unscanned input e) whole comes written held = absurd (omega (arith, written.0))
    by (broken chosen cause input a f p) whole comes written held = absurd (omega (arith, written.0))
    by (answered chosen input a f p) whole comes written held = absurd (omega (arith, written.0))
    by (explained input a f p) whole comes written held = absurd (omega (arith, written.0))
    by undecoded whole comes written held = absurd (omega (arith, written.0))
    by (unshown e) whole comes written held = absurd (omega (arith, written.0))
    by (shown showing e) whole comes written held = absurd (omega (arith, written.0))
    by (unnamed e) whole comes written held = absurd (omega (arith, written.0))
    by unserialized whole comes written held = absurd (omega (arith, written.0))
    by overlong whole comes written held = absurd (omega (arith, written.0))
    by (named e) whole comes written held = absurd (omega (arith, written.0))
    by (summed rows) whole comes written held = absurd (omega (arith, written.0))
    by (unkeyed top input r) whole comes written held = absurd (omega (arith, written.0))
    by (top_broken cause input a ask) whole comes written held = absurd (omega (arith, written.0))
    by (topped input a ask) whole comes written held = absurd (omega (arith, written.0))
    by (unfiled input) whole comes written held = absurd (omega (arith, written.0))
    by (filed input a) whole comes written held = absurd (omega (arith, written.0))
    by (file_ended input ending) whole comes written held = absurd (no_eighth ending written.0)

-- a count that stayed hasn't risen, where it isn't at its last value
stayed : (i i' : End) → i.faults < 2 ^ 64 - 1 → i'.faults ≡ i.faults → ¬ (HasRisen i i')
stayed i i' below same risen = omega (arith, below, same, risen)

-- where the source counted a fault and the sink none, the input is told as not read
pub risen_unread : (form : Option Form) (i i' o o' : End) (used : Option StoreSeen) (status : ℕ) → i.faults < 2 ^ 64 - 1 → HasRisen i i' → ¬ (HasRisen o o')
    → IsRun form i i' o o' used status → status ≡ 6
risen_unread form i i' o o' used status below risen quiet run = by run.outcome run.writing run.comes run.written
  where
    kept : i' ≡ i → status ≡ 6
    kept same = absurd (stayed i i' below (ap (λ e. e.faults) same) risen)

    unrisen : i'.faults ≡ i.faults → status ≡ 6
    unrisen same = absurd (stayed i i' below same risen)

    by : (outcome : Outcome) (writing : Writing) → IsOutcome form i i' outcome → IsWriting o o' (outcome_text outcome) (status_of outcome) status writing
        → status ≡ 6
    by outcome cut comes written = absurd (quiet written.1.1)
    by misused whole comes written = kept comes.1
    by helped whole comes written = kept comes.1
    by versioned whole comes written = kept comes.1
    by out_of_memory whole comes written = elim comes [ inl part ↦ unrisen part.1.1 | inr word ↦ kept word.1 ]
    by unread whole comes written = written.0
    by (refused input e) whole comes written = unrisen comes.taken.quiet
    by (unscanned input e) whole comes written = unrisen comes.taken.quiet
    by (broken chosen cause input a f p) whole comes written = unrisen comes.taken.quiet
    by (answered chosen input a f p) whole comes written = unrisen comes.taken.quiet
    by (explained input a f p) whole comes written = unrisen comes.taken.quiet
    by undecoded whole comes written = kept comes.untaken
    by (unshown e) whole comes written = kept comes.untaken
    by (shown showing e) whole comes written = kept comes.untaken
    by (unnamed e) whole comes written = kept comes.untaken
    by unserialized whole comes written = kept comes.untaken
    by overlong whole comes written = kept comes.untaken
    by (named e) whole comes written = kept comes.untaken
    by (summed rows) whole comes written = kept comes.1
    by (unkeyed top input r) whole comes written = unrisen comes.taken.quiet
    by (top_broken cause input a ask) whole comes written = unrisen comes.taken.quiet
    by (topped input a ask) whole comes written = unrisen comes.taken.quiet
    by (unfiled input) whole comes written = unrisen comes.taken.quiet
    by (filed input a) whole comes written = unrisen comes.taken.quiet
    by (file_ended input ending) whole comes written = unrisen comes.taken.quiet

-- ---- help, and the version

-- the two are different forms
abbrev is_help : Option Form → Option Form
is_help (Some help_form) = Some help_form
is_help _ = None

other_form : ¬ (Some help_form ≡ Some version_form)
other_form same = not_none (ap is_help same)

pub help_told : (i i' o o' : End) (used : Option StoreSeen) (status : ℕ) → IsRun (Some help_form) i i' o o' used status → ¬ (HasRisen o o')
    → IsTold help_text i i' o o' used status
help_told i i' o o' used status run quiet = by run.outcome run.writing run.comes run.written run.held
  where
    by : (outcome : Outcome) (writing : Writing) → IsOutcome (Some help_form) i i' outcome
        → IsWriting o o' (outcome_text outcome) (status_of outcome) status writing
        → used ≡ used_by outcome → IsTold help_text i i' o o' used status
    by outcome cut comes written held = absurd (quiet written.1.1)
    by misused whole comes written held = absurd (not_none comes.0)
    by helped whole comes written held = record { ends = written.0; written = written.1.0; untaken = comes.1; unheld = held }
    by versioned whole comes written held = absurd (other_form comes.0)
    by out_of_memory whole comes written held = elim comes [
      | inl part ↦ absurd (true≢false (sym part.0))
      | inr given ↦ elim given.0 [
        | inl word ↦ elim word.1 [ inl shows ↦ absurd (not_none (sym shows)) | inr asks ↦ absurd (not_none (sym asks)) ]
        | inr rows ↦ absurd (not_none (sym rows.1))
      ]
    ]
    by unread whole comes written held = absurd (true≢false (sym comes.reads))
    by (refused input e) whole comes written held = absurd (true≢false (sym comes.asks))
    by (unscanned input e) whole comes written held = absurd (true≢false (sym comes.asks))
    by (broken chosen cause input a f p) whole comes written held = absurd (true≢false (sym (ap reads_request comes.asks)))
    by (answered chosen input a f p) whole comes written held = absurd (true≢false (sym (ap reads_request comes.asks)))
    by (explained input a f p) whole comes written held = absurd (true≢false (sym (ap reads_request comes.asks)))
    by undecoded whole comes written held = absurd (not_none (sym comes.asks))
    by (unshown e) whole comes written held = absurd (not_none (sym comes.asks))
    by (shown showing e) whole comes written held = absurd (not_none (sym (ap shown_word comes.asks)))
    by (unnamed e) whole comes written held = absurd (not_none (sym comes.asks))
    by unserialized whole comes written held = absurd (not_none (sym comes.asks))
    by overlong whole comes written held = absurd (not_none (sym comes.asks))
    by (named e) whole comes written held = absurd (not_none (sym comes.asks))
    by (summed rows) whole comes written held = absurd (not_none (sym (ap asked_rows comes.0)))
    by (unkeyed top input r) whole comes written held = absurd (true≢false (sym (ap reads_request comes.asks)))
    by (top_broken cause input a ask) whole comes written held = absurd (true≢false (sym (ap reads_request comes.asks)))
    by (topped input a ask) whole comes written held = absurd (true≢false (sym (ap reads_request comes.asks)))
    by (unfiled input) whole comes written held = absurd (true≢false (sym (ap reads_request comes.asks)))
    by (filed input a) whole comes written held = absurd (true≢false (sym (ap reads_request comes.asks)))
    by (file_ended input ending) whole comes written held = absurd (true≢false (sym (ap reads_input comes.asks)))

pub version_told : (i i' o o' : End) (used : Option StoreSeen) (status : ℕ) → IsRun (Some version_form) i i' o o' used status → ¬ (HasRisen o o')
    → IsTold version_text i i' o o' used status
version_told i i' o o' used status run quiet = by run.outcome run.writing run.comes run.written run.held
  where
    by : (outcome : Outcome) (writing : Writing) → IsOutcome (Some version_form) i i' outcome
        → IsWriting o o' (outcome_text outcome) (status_of outcome) status writing
        → used ≡ used_by outcome → IsTold version_text i i' o o' used status
    by outcome cut comes written held = absurd (quiet written.1.1)
    by misused whole comes written held = absurd (not_none comes.0)
    by helped whole comes written held = absurd (other_form (sym comes.0))
    by versioned whole comes written held = record { ends = written.0; written = written.1.0; untaken = comes.1; unheld = held }
    by out_of_memory whole comes written held = elim comes [
      | inl part ↦ absurd (true≢false (sym part.0))
      | inr given ↦ elim given.0 [
        | inl word ↦ elim word.1 [ inl shows ↦ absurd (not_none (sym shows)) | inr asks ↦ absurd (not_none (sym asks)) ]
        | inr rows ↦ absurd (not_none (sym rows.1))
      ]
    ]
    by unread whole comes written held = absurd (true≢false (sym comes.reads))
    by (refused input e) whole comes written held = absurd (true≢false (sym comes.asks))
    by (unscanned input e) whole comes written held = absurd (true≢false (sym comes.asks))
    by (broken chosen cause input a f p) whole comes written held = absurd (true≢false (sym (ap reads_request comes.asks)))
    by (answered chosen input a f p) whole comes written held = absurd (true≢false (sym (ap reads_request comes.asks)))
    by (explained input a f p) whole comes written held = absurd (true≢false (sym (ap reads_request comes.asks)))
    by undecoded whole comes written held = absurd (not_none (sym comes.asks))
    by (unshown e) whole comes written held = absurd (not_none (sym comes.asks))
    by (shown showing e) whole comes written held = absurd (not_none (sym (ap shown_word comes.asks)))
    by (unnamed e) whole comes written held = absurd (not_none (sym comes.asks))
    by unserialized whole comes written held = absurd (not_none (sym comes.asks))
    by overlong whole comes written held = absurd (not_none (sym comes.asks))
    by (named e) whole comes written held = absurd (not_none (sym comes.asks))
    by (summed rows) whole comes written held = absurd (not_none (sym (ap asked_rows comes.0)))
    by (unkeyed top input r) whole comes written held = absurd (true≢false (sym (ap reads_request comes.asks)))
    by (top_broken cause input a ask) whole comes written held = absurd (true≢false (sym (ap reads_request comes.asks)))
    by (topped input a ask) whole comes written held = absurd (true≢false (sym (ap reads_request comes.asks)))
    by (unfiled input) whole comes written held = absurd (true≢false (sym (ap reads_request comes.asks)))
    by (filed input a) whole comes written held = absurd (true≢false (sym (ap reads_request comes.asks)))
    by (file_ended input ending) whole comes written held = absurd (true≢false (sym (ap reads_input comes.asks)))

-- ---- words and queries that are refused

-- a form with a word takes nothing and holds nothing
word_reads_none : (form : Option Form) (word : Bytes) → shown_word form ≡ Some word → reads_input form ≡ false
word_reads_none None word shows = refl
word_reads_none (Some (scan_form chosen)) word shows = absurd (not_none (sym shows))
word_reads_none (Some explain_form) word shows = absurd (not_none (sym shows))
word_reads_none (Some (show_form showing other)) word shows = refl
word_reads_none (Some (text_form other)) word shows = refl
word_reads_none (Some (gen_form rows)) word shows = absurd (not_none (sym shows))
word_reads_none (Some (top_form top)) word shows = absurd (not_none (sym shows))
word_reads_none (Some file_form) word shows = absurd (not_none (sym shows))
word_reads_none (Some scan_file_form) word shows = absurd (not_none (sym shows))
word_reads_none (Some help_form) word shows = refl
word_reads_none (Some version_form) word shows = refl

word_scans_none : (form : Option Form) (word : Bytes) → shown_word form ≡ Some word → asked_statistics form ≡ None
word_scans_none None word shows = refl
word_scans_none (Some (scan_form chosen)) word shows = absurd (not_none (sym shows))
word_scans_none (Some explain_form) word shows = refl
word_scans_none (Some (show_form showing other)) word shows = refl
word_scans_none (Some (text_form other)) word shows = refl
word_scans_none (Some (gen_form rows)) word shows = refl
word_scans_none (Some (top_form top)) word shows = refl
word_scans_none (Some file_form) word shows = refl
word_scans_none (Some scan_file_form) word shows = refl
word_scans_none (Some help_form) word shows = refl
word_scans_none (Some version_form) word shows = refl

word_asks_none : (form : Option Form) (word : Bytes) → shown_word form ≡ Some word → asked_rows form ≡ None
word_asks_none None word shows = refl
word_asks_none (Some (scan_form chosen)) word shows = refl
word_asks_none (Some explain_form) word shows = refl
word_asks_none (Some (show_form showing other)) word shows = refl
word_asks_none (Some (text_form other)) word shows = refl
word_asks_none (Some (gen_form rows)) word shows = absurd (not_none (sym shows))
word_asks_none (Some (top_form top)) word shows = refl
word_asks_none (Some file_form) word shows = refl
word_asks_none (Some scan_file_form) word shows = refl
word_asks_none (Some help_form) word shows = refl
word_asks_none (Some version_form) word shows = refl

word_tops_none : (form : Option Form) (word : Bytes) → shown_word form ≡ Some word → asked_top form ≡ None
word_tops_none None word shows = refl
word_tops_none (Some (scan_form chosen)) word shows = refl
word_tops_none (Some explain_form) word shows = refl
word_tops_none (Some (show_form showing other)) word shows = refl
word_tops_none (Some (text_form other)) word shows = refl
word_tops_none (Some (gen_form rows)) word shows = refl
word_tops_none (Some (top_form top)) word shows = absurd (not_none (sym shows))
word_tops_none (Some file_form) word shows = refl
word_tops_none (Some scan_file_form) word shows = refl
word_tops_none (Some help_form) word shows = refl
word_tops_none (Some version_form) word shows = refl

pub no_digits_told : (form : Option Form) (word : Bytes) (i i' o o' : End) (used : Option StoreSeen) → shown_word form ≡ Some word
    → IsRun form i i' o o' used 3 → IsUndigited word i i' o o' used
no_digits_told form word i i' o o' used shows run = by (words.word_end form word i i' o o' used 3 shows run)
  where
    by : words.WordEnd form word i i' o o' used 3 → IsUndigited word i i' o o' used
    by (words.cut_off s risen) = absurd (omega (arith, s))
    by (words.without_memory s) = absurd (omega (arith, s))
    by (words.no_digits s none written) = record {
      cause = none;
      written = written;
      untaken = others_take_nothing form i i' o o' used 3 (word_reads_none form word shows) run;
      unheld = scans_hold form i i' o o' used 3 (word_scans_none form word shows) (word_asks_none form word shows) (word_tops_none form word shows) run;
    }
    by (words.no_expression e s why written) = absurd (omega (arith, s))
    by (words.told showing e s is spells untaken written held) = absurd (omega (arith, s))

pub refused_word_told : (form : Option Form) (word : Bytes) (i i' o o' : End) (used : Option StoreSeen) → shown_word form ≡ Some word
    → IsRun form i i' o o' used 4 → IsUnshown word i i' o o' used
refused_word_told form word i i' o o' used shows run = by (words.word_end form word i i' o o' used 4 shows run)
  where
    by : words.WordEnd form word i i' o o' used 4 → IsUnshown word i i' o o' used
    by (words.cut_off s risen) = absurd (omega (arith, s))
    by (words.without_memory s) = absurd (omega (arith, s))
    by (words.no_digits s none written) = absurd (omega (arith, s))
    by (words.no_expression e s why written) = record {
      refusal = e;
      cause = why;
      written = written;
      untaken = others_take_nothing form i i' o o' used 4 (word_reads_none form word shows) run;
      unheld = scans_hold form i i' o o' used 4 (word_scans_none form word shows) (word_asks_none form word shows) (word_tops_none form word shows) run;
    }
    by (words.told showing e s is spells untaken written held) = absurd (omega (arith, s))

pub refused_query_told : (query : Bytes) (i i' o o' : End) (used : Option StoreSeen) → IsRun (Some (text_form query)) i i' o o' used 4
    → IsUnnamed query i i' o o' used
refused_query_told query i i' o o' used run = by (queries.query_end query i i' o o' used 4 run)
  where
    untaken : i' ≡ i
    untaken = others_take_nothing (Some (text_form query)) i i' o o' used 4 refl run

    unheld : used ≡ None
    unheld = scans_hold (Some (text_form query)) i i' o o' used 4 refl refl refl run

    by : queries.QueryEnd query i i' o o' used 4 → IsUnnamed query i i' o o' used
    by (queries.cut_off s risen) = absurd (omega (arith, s))
    by (queries.without_memory s) = absurd (omega (arith, s))
    by (queries.no_query e s why written) =
        record { name = text_refusal_name e; cause = inl (e, why, refl); written = written; untaken = untaken; unheld = unheld }
    by (queries.too_deep e s names deep written) =
        record { name = codes "NotSerializable"; cause = inr (inl ((e, names, deep), refl)); written = written; untaken = untaken; unheld = unheld }
    by (queries.too_long e s names fits long written) =
        record { name = codes "TooLong"; cause = inr (inr ((e, names, fits, long), refl)); written = written; untaken = untaken; unheld = unheld }
    by (queries.bytes e s names has untaken written held) = absurd (omega (arith, s))

-- a query has no third status
pub queries_no_digits : (query : Bytes) (i i' o o' : End) (used : Option StoreSeen) → ¬ (IsRun (Some (text_form query)) i i' o o' used 3)
queries_no_digits query i i' o o' used run = by (queries.query_end query i i' o o' used 3 run)
  where
    by : queries.QueryEnd query i i' o o' used 3 → ⊥
    by (queries.cut_off s risen) = absurd (omega (arith, s))
    by (queries.without_memory s) = absurd (omega (arith, s))
    by (queries.no_query e s why written) = absurd (omega (arith, s))
    by (queries.too_deep e s names deep written) = absurd (omega (arith, s))
    by (queries.too_long e s names fits long written) = absurd (omega (arith, s))
    by (queries.bytes e s names has untaken written held) = absurd (omega (arith, s))
