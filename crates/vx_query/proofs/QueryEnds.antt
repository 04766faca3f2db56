-- How a run ends whose arguments ask the bytes of a query.
use Rattle.std.proofs.Common.{◌≡◌, ◌∙◌, sym, ap, refl, subst, ℕ, codes, Option, Some, None, Err, true≢false}
use Rattle.std.proofs.lemmas.Option.{same_Some}
use Rattle.vx_dtype.specs.Types.{Bytes}
use Rattle.vx_expr.specs.Trees.{Tree}
use Rattle.vx_io.specs.Ends.{Added}
use Rattle.vx_scan.specs.Stores.{StoreSeen}
use Rattle.vx_text.specs.Reading.{reading_of}
use Rattle.vx_text.specs.declared.errors.TextError.{TextError}
use Rattle.vx_query.specs.Refusals.{text_refusal_name, refusal_line}
use Rattle.vx_query.specs.Running.{End, Form, Names, IsShallow, HasBytes, IsOverlong, bytes_line, scan_form, explain_form, show_form, text_form, gen_form, top_form, words_of, file_form, scan_file_form, help_form, version_form, asked_query, Outcome, misused, helped, versioned, out_of_memory, unread, refused, unscanned, broken, answered, explained, undecoded, unshown, shown, unnamed, unserialized, overlong, named, summed, unkeyed, top_broken, topped, unfiled, filed, file_ended, Writing, whole, cut, IsOutcome, IsWriting, IsRun, status_of, outcome_text, used_by}
use Rattle.vx_query.specs.Causes.{HasRisen}
use Rattle.vx_query.proofs.RequestEnds.{not_none}

-- how their run ends: its text was cut off, there was no memory, or the query was told
pub data QueryEnd (query : Bytes) (i i' o o' : End) (used : Option StoreSeen) (status : ℕ) : Type 0 where
  cut_off : status ≡ 7 → HasRisen o o' → QueryEnd query i i' o o' used status
  without_memory : status ≡ 8 → QueryEnd query i i' o o' used status
  no_query : (e : TextError) → status ≡ 4 → reading_of query ≡ Err e → Added o.bytes o'.bytes (refusal_line (text_refusal_name e))
      → QueryEnd query i i' o o' used status
  too_deep : (e : Tree) → status ≡ 4 → Names query e → ¬ (IsShallow e) → Added o.bytes o'.bytes (refusal_line (codes "NotSerializable"))
      → QueryEnd query i i' o o' used status
  too_long : (e : Tree) → status ≡ 4 → Names query e → IsShallow e → IsOverlong e → Added o.bytes o'.bytes (refusal_line (codes "TooLong"))
      → QueryEnd query i i' o o' used status
  bytes : (e : Tree) → status ≡ 0 → Names query e → HasBytes e → i' ≡ i → Added o.bytes o'.bytes (bytes_line e) → used ≡ None
      → QueryEnd query i i' o o' used status

-- such arguments are of no other form
asks_other : (query : Bytes) (other : Option Form) → asked_query other ≡ None → ¬ (Some (text_form query) ≡ other)
asks_other query other none same = not_none (ap asked_query same ∙ none)

-- the query of a run is the one that is given
same_query : (query other : Bytes) → Some query ≡ Some other → other ≡ query
same_query query other h = same_Some _ _ (sym h)

pub query_end : (query : Bytes) (i i' o o' : End) (used : Option StoreSeen) (status : ℕ) → IsRun (Some (text_form query)) i i' o o' used status
    → QueryEnd query i i' o o' used status
query_end query i i' o o' used status run = by run.outcome run.writing run.comes run.written run.held
  where
    by : (outcome : Outcome) (writing : Writing) → IsOutcome (Some (text_form query)) i i' outcome
        → IsWriting o o' (outcome_text outcome) (status_of outcome) status writing → used ≡ used_by outcome → QueryEnd query i i' o o' used status
    by outcome cut comes written held = cut_off written.0 written.1.1
    by misused whole comes written held = absurd (not_none comes.0)
    by helped whole comes written held = absurd (asks_other query (Some help_form) refl comes.0)
    by versioned whole comes written held = absurd (asks_other query (Some version_form) refl comes.0)
    by out_of_memory whole comes written held = without_memory written.0
    by unread whole comes written held = absurd (true≢false (sym comes.reads))
    by (refused input e) whole comes written held = absurd (true≢false (sym comes.asks))
    by (unscanned input e) whole comes written held = absurd (true≢false (sym comes.asks))
    by (broken chosen cause input a f p) whole comes written held = absurd (asks_other query (Some (scan_form chosen)) refl comes.asks)
    by (answered chosen input a f p) whole comes written held = absurd (asks_other query (Some (scan_form chosen)) refl comes.asks)
    by (explained input a f p) whole comes written held = absurd (asks_other query (Some explain_form) refl comes.asks)
    by undecoded whole comes written held = absurd (not_none (sym comes.asks))
    by (unshown e) whole comes written held = absurd (not_none (sym comes.asks))
    by (shown showing e) whole comes written held = absurd (asks_other query (Some (show_form showing comes.word)) refl comes.asks)
    by (unnamed e) whole comes written held =
        no_query e written.0 (subst (λ q. reading_of q ≡ Err e) (same_query query comes.word comes.asks) comes.holds) written.1.0
    by unserialized whole comes written held =
        too_deep comes.holds.0 written.0 (subst (λ q. Names q comes.holds.0) (same_query query comes.word comes.asks) comes.holds.1) comes.holds.2 written.1.0
    by overlong whole comes written held =
        too_long comes.holds.0 written.0 (subst (λ q. Names q comes.holds.0) (same_query query comes.word comes.asks) comes.holds.1) comes.holds.2 comes.holds.3 written.1.0
    by (named e) whole comes written held =
        bytes e written.0 (subst (λ q. Names q e) (same_query query comes.word comes.asks) comes.holds.0) comes.holds.1 comes.untaken written.1.0 held
    by (summed rows) whole comes written held = absurd (asks_other query (Some (gen_form rows)) refl comes.0)
    by (unkeyed top input r) whole comes written held = absurd (asks_other query (Some (top_form top)) refl comes.asks)
    by (top_broken cause input a ask) whole comes written held = absurd (asks_other query (Some (top_form (words_of ask))) refl comes.asks)
    by (topped input a ask) whole comes written held = absurd (asks_other query (Some (top_form (words_of ask))) refl comes.asks)
    by (unfiled input) whole comes written held = absurd (asks_other query (Some file_form) refl comes.asks)
    by (filed input a) whole comes written held = absurd (asks_other query (Some file_form) refl comes.asks)
    by (file_ended input ending) whole comes written held = absurd (asks_other query (Some scan_file_form) refl comes.asks)
