-- How a run ends whose arguments show a word.
use Rattle.std.proofs.Common.{◌≡◌, ◌∙◌, sym, ap, refl, subst, ℕ, true, codes, Option, Some, None}
use Rattle.std.proofs.lemmas.Option.{same_Some}
use Rattle.vx_dtype.specs.Types.{Bytes}
use Rattle.vx_expr.specs.Trees.{Tree}
use Rattle.vx_io.specs.Ends.{Added}
use Rattle.vx_scan.specs.Stores.{StoreSeen}
use Rattle.vx_scan.specs.declared.errors.ScanError.{ScanError}
use Rattle.vx_request.specs.Requests.{hex_bytes}
use Rattle.vx_query.specs.Refusals.{scan_refusal_name, refusal_line}
use Rattle.vx_query.specs.Running.{End, Form, Showing, shown_text, WordSpells, WordIsRefused, scan_form, explain_form, show_form, text_form, gen_form, top_form, words_of, file_form, scan_file_form, help_form, version_form, reads_input, shown_word, asked_query, Outcome, misused, helped, versioned, out_of_memory, unread, refused, unscanned, broken, answered, explained, undecoded, unshown, shown, unnamed, unserialized, overlong, named, summed, unkeyed, top_broken, topped, unfiled, filed, file_ended, Writing, whole, cut, IsOutcome, IsWriting, IsRun, status_of, outcome_text, used_by}
use Rattle.vx_query.specs.Causes.{HasRisen}
use Rattle.vx_query.proofs.RequestEnds.{not_none, shows_none, uses_reads, requests_read}

-- how their run ends: its text was cut off, there was no memory, or the word was told
pub data WordEnd (form : Option Form) (word : Bytes) (i i' o o' : End) (used : Option StoreSeen) (status : ℕ) : Type 0 where
  cut_off : status ≡ 7 → HasRisen o o' → WordEnd form word i i' o o' used status
  without_memory : status ≡ 8 → WordEnd form word i i' o o' used status
  no_digits : status ≡ 3 → hex_bytes word ≡ None → Added o.bytes o'.bytes (refusal_line (codes "BadHex text"))
      → WordEnd form word i i' o o' used status
  no_expression : (e : ScanError) → status ≡ 4 → WordIsRefused word e → Added o.bytes o'.bytes (refusal_line (scan_refusal_name e))
      → WordEnd form word i i' o o' used status
  told : (showing : Showing) (e : Tree) → status ≡ 0 → form ≡ Some (show_form showing word) → WordSpells word e → i' ≡ i
      → Added o.bytes o'.bytes (shown_text showing e) → used ≡ None → WordEnd form word i i' o o' used status

-- such arguments are of no other form, read no input, and ask no query
shows_other : (form other : Option Form) (word : Bytes) → shown_word form ≡ Some word → shown_word other ≡ None → ¬ (form ≡ other)
shows_other form other word shows none same = not_none (sym shows ∙ ap shown_word same ∙ none)

shows_no_query : (form : Option Form) (word query : Bytes) → shown_word form ≡ Some word → ¬ (asked_query form ≡ Some query)
shows_no_query None word query shows h = not_none (sym shows)
shows_no_query (Some (scan_form chosen)) word query shows h = not_none (sym shows)
shows_no_query (Some explain_form) word query shows h = not_none (sym shows)
shows_no_query (Some (show_form showing other)) word query shows h = not_none (sym h)
shows_no_query (Some (text_form other)) word query shows h = not_none (sym shows)
shows_no_query (Some (gen_form rows)) word query shows h = not_none (sym shows)
shows_no_query (Some (top_form top)) word query shows h = not_none (sym shows)
shows_no_query (Some file_form) word query shows h = not_none (sym shows)
shows_no_query (Some scan_file_form) word query shows h = not_none (sym shows)
shows_no_query (Some help_form) word query shows h = not_none (sym shows)
shows_no_query (Some version_form) word query shows h = not_none (sym shows)

unread_word : (form : Option Form) (word : Bytes) → shown_word form ≡ Some word → ¬ (reads_input form ≡ true)
unread_word form word shows reads = shows_none form word reads shows

-- the word of a run is the one that is given
same_word : (form : Option Form) (word other : Bytes) → shown_word form ≡ Some word → shown_word form ≡ Some other → other ≡ word
same_word form word other h k = same_Some _ _ (sym k ∙ h)

pub word_end : (form : Option Form) (word : Bytes) (i i' o o' : End) (used : Option StoreSeen) (status : ℕ) → shown_word form ≡ Some word
    → IsRun form i i' o o' used status → WordEnd form word i i' o o' used status
word_end form word i i' o o' used status shows run = by run.outcome run.writing run.comes run.written run.held
  where
    by : (outcome : Outcome) (writing : Writing) → IsOutcome form i i' outcome → IsWriting o o' (outcome_text outcome) (status_of outcome) status writing
        → used ≡ used_by outcome → WordEnd form word i i' o o' used status
    by outcome cut comes written held = cut_off written.0 written.1.1
    by misused whole comes written held = absurd (shows_other form None word shows refl comes.0)
    by helped whole comes written held = absurd (shows_other form (Some help_form) word shows refl comes.0)
    by versioned whole comes written held = absurd (shows_other form (Some version_form) word shows refl comes.0)
    by out_of_memory whole comes written held = without_memory written.0
    by unread whole comes written held = absurd (unread_word form word shows comes.reads)
    by (refused input e) whole comes written held = absurd (unread_word form word shows (requests_read form comes.asks))
    by (unscanned input e) whole comes written held = absurd (unread_word form word shows (requests_read form (uses_reads form comes.asks)))
    by (broken chosen cause input a f p) whole comes written held = absurd (shows_other form (Some (scan_form chosen)) word shows refl comes.asks)
    by (answered chosen input a f p) whole comes written held = absurd (shows_other form (Some (scan_form chosen)) word shows refl comes.asks)
    by (explained input a f p) whole comes written held = absurd (shows_other form (Some explain_form) word shows refl comes.asks)
    by undecoded whole comes written held =
        no_digits written.0 (subst (λ w. hex_bytes w ≡ None) (same_word form word comes.word shows comes.asks) comes.holds) written.1.0
    by (unshown e) whole comes written held =
        no_expression e written.0 (subst (λ w. WordIsRefused w e) (same_word form word comes.word shows comes.asks) comes.holds) written.1.0
    by (shown showing e) whole comes written held =
        let same = same_word form word comes.word shows (ap shown_word comes.asks) in
        told showing e written.0 (subst (λ w. form ≡ Some (show_form showing w)) same comes.asks) (subst (λ w. WordSpells w e) same comes.holds) comes.untaken written.1.0 held
    by (unnamed e) whole comes written held = absurd (shows_no_query form word comes.word shows comes.asks)
    by unserialized whole comes written held = absurd (shows_no_query form word comes.word shows comes.asks)
    by overlong whole comes written held = absurd (shows_no_query form word comes.word shows comes.asks)
    by (named e) whole comes written held = absurd (shows_no_query form word comes.word shows comes.asks)
    by (summed rows) whole comes written held = absurd (shows_other form (Some (gen_form rows)) word shows refl comes.0)
    by (unkeyed top input r) whole comes written held = absurd (shows_other form (Some (top_form top)) word shows refl comes.asks)
    by (top_broken cause input a ask) whole comes written held = absurd (shows_other form (Some (top_form (words_of ask))) word shows refl comes.asks)
    by (topped input a ask) whole comes written held = absurd (shows_other form (Some (top_form (words_of ask))) word shows refl comes.asks)
    by (unfiled input) whole comes written held = absurd (shows_other form (Some file_form) word shows refl comes.asks)
    by (filed input a) whole comes written held = absurd (shows_other form (Some file_form) word shows refl comes.asks)
    by (file_ended input ending) whole comes written held = absurd (shows_other form (Some scan_file_form) word shows refl comes.asks)
