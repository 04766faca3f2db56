-- How a run ends whose arguments read a request.
use Rattle.std.proofs.Common.{◌≡◌, ◌∙◌, sym, ap, refl, ℕ, true, false, codes, Option, Some, None, Err, is_some, arith, true≢false}
use Rattle.vx_dtype.specs.Types.{Bytes}
use Rattle.vx_expr.specs.Trees.{Tree}
use Rattle.vx_semantics.specs.Breaks.{Cause}
use Rattle.vx_io.specs.Ends.{Added}
use Rattle.vx_laws_topk.specs.TopRows.{TopAsk}
use Rattle.vx_scan.specs.Stores.{StoreSeen}
use Rattle.vx_scan.specs.declared.errors.ScanError.{ScanError}
use Rattle.vx_explain.specs.Explanations.{explain_text}
use Rattle.vx_request.specs.Requests.{RequestedScan, request_of}
use Rattle.vx_request.specs.declared.errors.RequestError.{RequestError}
use Rattle.vx_file_query.specs.FileEndings.{FileEnding, misasked, misfiled, file_unscanned, file_broken, file_reported}
use Rattle.vx_query.specs.Refusals.{request_refusal_name, scan_refusal_name, key_refusal_name, break_name, refusal_line}
use Rattle.vx_query.specs.TopWords.{AskedTop, KeyRefusal}
use Rattle.vx_query.specs.Running.{End, Form, Statistics, HoldsScan, HoldsRefused, HoldsNoKey, HasNoKey, HoldsTop, words_of, top_breaks, top_breaks_by, top_report, topped_store, top_broken_store, scan_by, scan_breaks, scan_breaks_by, scan_report, scanned_store, broken_store, scan_form, explain_form, show_form, text_form, gen_form, top_form, file_form, scan_file_form, help_form, version_form, reads_request, reads_input, uses_expressions, HoldsLongTable, HoldsFile, file_line, file_status, shown_word, asked_query, IsTaken, Outcome, misused, helped, versioned, out_of_memory, unread, refused, unscanned, broken, answered, explained, undecoded, unshown, shown, unnamed, unserialized, overlong, named, summed, unkeyed, top_broken, topped, unfiled, filed, file_ended, Writing, whole, cut, IsOutcome, IsWriting, IsRun, status_of, outcome_text, used_by}
use Rattle.vx_query.specs.Causes.{HasRisen}

pub not_none : {X : Type 0} {x : X} → Some x ≡ None → ⊥
not_none e = true≢false (ap is_some e)

-- how their run ends: its text was cut off, there was no memory, the input wasn't read, or what it held was told
pub data RequestEnd (form : Option Form) (i i' o o' : End) (used : Option StoreSeen) (status : ℕ) : Type 0 where
  cut_off : status ≡ 7 → HasRisen o o' → RequestEnd form i i' o o' used status
  without_memory : status ≡ 8 → used ≡ None → RequestEnd form i i' o o' used status
  not_read : status ≡ 6 → HasRisen i i' → used ≡ None → RequestEnd form i i' o o' used status
  no_request : (input : Bytes) (e : RequestError) → status ≡ 3 → IsTaken i i' input → request_of input ≡ Err e
      → Added o.bytes o'.bytes (refusal_line (request_refusal_name e)) → used ≡ None → RequestEnd form i i' o o' used status
  no_scan : (input : Bytes) (e : ScanError) → status ≡ 4 → uses_expressions form ≡ true → IsTaken i i' input → HoldsRefused input e → ¬ (HasNoKey form input)
      → Added o.bytes o'.bytes (refusal_line (scan_refusal_name e)) → used ≡ None → RequestEnd form i i' o o' used status
  breaks : (chosen : Statistics) (cause : Cause) (input : Bytes) (a : RequestedScan) (f p : Tree) → status ≡ 5 → form ≡ Some (scan_form chosen)
      → IsTaken i i' input → HoldsScan input a f p → scan_breaks_by cause (scan_by chosen a) f p ≡ true
      → Added o.bytes o'.bytes (refusal_line (break_name cause)) → used ≡ Some (broken_store (scan_by chosen a) f p)
      → RequestEnd form i i' o o' used status
  reports : (chosen : Statistics) (input : Bytes) (a : RequestedScan) (f p : Tree) → status ≡ 0 → form ≡ Some (scan_form chosen) → IsTaken i i' input
      → HoldsScan input a f p → scan_breaks (scan_by chosen a) f p ≡ false → Added o.bytes o'.bytes (scan_report (scan_by chosen a) f p)
      → used ≡ Some (scanned_store (scan_by chosen a) f p) → RequestEnd form i i' o o' used status
  explains : (input : Bytes) (a : RequestedScan) (f p : Tree) → status ≡ 0 → form ≡ Some explain_form → IsTaken i i' input → HoldsScan input a f p
      → Added o.bytes o'.bytes (explain_text a.zones f p) → used ≡ None → RequestEnd form i i' o o' used status
  no_key : (top : AskedTop) (input : Bytes) (r : KeyRefusal) → status ≡ 4 → form ≡ Some (top_form top) → IsTaken i i' input → HoldsNoKey r top.key input
      → Added o.bytes o'.bytes (refusal_line (key_refusal_name r)) → used ≡ None → RequestEnd form i i' o o' used status
  top_stops : (cause : Cause) (input : Bytes) (a : RequestedScan) (ask : TopAsk) → status ≡ 5 → form ≡ Some (top_form (words_of ask)) → IsTaken i i' input
      → HoldsTop input a ask → top_breaks_by cause a ask ≡ true → Added o.bytes o'.bytes (refusal_line (break_name cause))
      → used ≡ Some (top_broken_store a ask) → RequestEnd form i i' o o' used status
  tops : (input : Bytes) (a : RequestedScan) (ask : TopAsk) → status ≡ 0 → form ≡ Some (top_form (words_of ask)) → IsTaken i i' input
      → HoldsTop input a ask → top_breaks a ask ≡ false → Added o.bytes o'.bytes (top_report a ask) → used ≡ Some (topped_store a ask)
      → RequestEnd form i i' o o' used status
  no_file : (input : Bytes) → status ≡ 3 → form ≡ Some file_form → IsTaken i i' input → HoldsLongTable input
      → Added o.bytes o'.bytes (refusal_line (codes "TooLong")) → used ≡ None → RequestEnd form i i' o o' used status
  files : (input : Bytes) (a : RequestedScan) → status ≡ 0 → form ≡ Some file_form → IsTaken i i' input → HoldsFile input a
      → Added o.bytes o'.bytes (file_line a) → used ≡ None → RequestEnd form i i' o o' used status

-- arguments that use the expressions of a request read it, and ask no block file
pub uses_reads : (form : Option Form) → uses_expressions form ≡ true → reads_request form ≡ true
uses_reads None uses = uses
uses_reads (Some (scan_form chosen)) uses = refl
uses_reads (Some explain_form) uses = refl
uses_reads (Some (show_form showing word)) uses = uses
uses_reads (Some (text_form query)) uses = uses
uses_reads (Some (gen_form rows)) uses = uses
uses_reads (Some (top_form top)) uses = refl
uses_reads (Some file_form) uses = refl
uses_reads (Some scan_file_form) uses = uses
uses_reads (Some help_form) uses = uses
uses_reads (Some version_form) uses = uses

pub uses_no_file : (form : Option Form) → uses_expressions form ≡ true → ¬ (form ≡ Some file_form)
uses_no_file form uses is = true≢false (sym uses ∙ ap uses_expressions is)

-- arguments that read a request read an input
pub requests_read : (form : Option Form) → reads_request form ≡ true → reads_input form ≡ true
requests_read None reads = reads
requests_read (Some (scan_form chosen)) reads = refl
requests_read (Some explain_form) reads = refl
requests_read (Some (show_form showing word)) reads = reads
requests_read (Some (text_form query)) reads = reads
requests_read (Some (gen_form rows)) reads = reads
requests_read (Some (top_form top)) reads = refl
requests_read (Some file_form) reads = refl
requests_read (Some scan_file_form) reads = refl
requests_read (Some help_form) reads = reads
requests_read (Some version_form) reads = reads

-- the scan of a block file ends with no other exit status
no_status : (n : ℕ) → ¬ (n ≡ 0) → ¬ (n ≡ 3) → ¬ (n ≡ 4) → ¬ (n ≡ 5) → (ending : FileEnding) → ¬ (n ≡ file_status ending)
no_status n zeroth third fourth fifth (misasked e) same = third same
no_status n zeroth third fourth fifth (misfiled part) same = third same
no_status n zeroth third fourth fifth (file_unscanned e) same = fourth same
no_status n zeroth third fourth fifth (file_broken cause) same = fifth same
no_status n zeroth third fourth fifth (file_reported a content f p) same = zeroth same

pub no_second : (ending : FileEnding) → ¬ (2 ≡ file_status ending)
no_second = no_status 2 (λ h. omega (arith, h)) (λ h. omega (arith, h)) (λ h. omega (arith, h)) (λ h. omega (arith, h))

pub no_sixth : (ending : FileEnding) → ¬ (6 ≡ file_status ending)
no_sixth = no_status 6 (λ h. omega (arith, h)) (λ h. omega (arith, h)) (λ h. omega (arith, h)) (λ h. omega (arith, h))

pub no_seventh : (ending : FileEnding) → ¬ (7 ≡ file_status ending)
no_seventh = no_status 7 (λ h. omega (arith, h)) (λ h. omega (arith, h)) (λ h. omega (arith, h)) (λ h. omega (arith, h))

pub no_eighth : (ending : FileEnding) → ¬ (8 ≡ file_status ending)
no_eighth = no_status 8 (λ h. omega (arith, h)) (λ h. omega (arith, h)) (λ h. omega (arith, h)) (λ h. omega (arith, h))

-- such arguments are of no other form; those that read an input show no word, and ask no query
reads_other : (form other : Option Form) → reads_request form ≡ true → reads_request other ≡ false → ¬ (form ≡ other)
reads_other form other reads none same = true≢false (sym reads ∙ ap reads_request same ∙ none)

pub shows_none : (form : Option Form) (word : Bytes) → reads_input form ≡ true → ¬ (shown_word form ≡ Some word)
shows_none None word reads h = true≢false (sym reads)
shows_none (Some (scan_form chosen)) word reads h = not_none (sym h)
shows_none (Some explain_form) word reads h = not_none (sym h)
shows_none (Some (show_form showing other)) word reads h = true≢false (sym reads)
shows_none (Some (text_form other)) word reads h = true≢false (sym reads)
shows_none (Some (gen_form rows)) word reads h = true≢false (sym reads)
shows_none (Some (top_form top)) word reads h = not_none (sym h)
shows_none (Some file_form) word reads h = not_none (sym h)
shows_none (Some scan_file_form) word reads h = not_none (sym h)
shows_none (Some help_form) word reads h = true≢false (sym reads)
shows_none (Some version_form) word reads h = true≢false (sym reads)

pub asks_none : (form : Option Form) (query : Bytes) → reads_input form ≡ true → ¬ (asked_query form ≡ Some query)
asks_none None query reads h = true≢false (sym reads)
asks_none (Some (scan_form chosen)) query reads h = not_none (sym h)
asks_none (Some explain_form) query reads h = not_none (sym h)
asks_none (Some (show_form showing other)) query reads h = true≢false (sym reads)
asks_none (Some (text_form other)) query reads h = true≢false (sym reads)
asks_none (Some (gen_form rows)) query reads h = true≢false (sym reads)
asks_none (Some (top_form top)) query reads h = not_none (sym h)
asks_none (Some file_form) query reads h = not_none (sym h)
asks_none (Some scan_file_form) query reads h = not_none (sym h)
asks_none (Some help_form) query reads h = true≢false (sym reads)
asks_none (Some version_form) query reads h = true≢false (sym reads)

pub request_end : (form : Option Form) (i i' o o' : End) (used : Option StoreSeen) (status : ℕ) → reads_request form ≡ true
    → IsRun form i i' o o' used status → RequestEnd form i i' o o' used status
request_end form i i' o o' used status reads run = by run.outcome run.writing run.comes run.written run.held
  where
    by : (outcome : Outcome) (writing : Writing) → IsOutcome form i i' outcome → IsWriting o o' (outcome_text outcome) (status_of outcome) status writing
        → used ≡ used_by outcome → RequestEnd form i i' o o' used status
    by outcome cut comes written held = cut_off written.0 written.1.1
    by misused whole comes written held = absurd (reads_other form None reads refl comes.0)
    by helped whole comes written held = absurd (reads_other form (Some help_form) reads refl comes.0)
    by versioned whole comes written held = absurd (reads_other form (Some version_form) reads refl comes.0)
    by out_of_memory whole comes written held = without_memory written.0 held
    by unread whole comes written held = not_read written.0 comes.risen held
    by (refused input e) whole comes written held = no_request input e written.0 comes.taken comes.holds written.1.0 held
    by (unscanned input e) whole comes written held = no_scan input e written.0 comes.asks comes.taken comes.holds.0 comes.holds.1 written.1.0 held
    by (broken chosen cause input a f p) whole comes written held =
        breaks chosen cause input a f p written.0 comes.asks comes.taken comes.holds.0 comes.holds.1 written.1.0 held
    by (answered chosen input a f p) whole comes written held =
        reports chosen input a f p written.0 comes.asks comes.taken comes.holds.0 comes.holds.1 written.1.0 held
    by (explained input a f p) whole comes written held = explains input a f p written.0 comes.asks comes.taken comes.holds written.1.0 held
    by undecoded whole comes written held = absurd (shows_none form comes.word (requests_read form reads) comes.asks)
    by (unshown e) whole comes written held = absurd (shows_none form comes.word (requests_read form reads) comes.asks)
    by (shown showing e) whole comes written held = absurd (reads_other form (Some (show_form showing comes.word)) reads refl comes.asks)
    by (unnamed e) whole comes written held = absurd (asks_none form comes.word (requests_read form reads) comes.asks)
    by unserialized whole comes written held = absurd (asks_none form comes.word (requests_read form reads) comes.asks)
    by overlong whole comes written held = absurd (asks_none form comes.word (requests_read form reads) comes.asks)
    by (named e) whole comes written held = absurd (asks_none form comes.word (requests_read form reads) comes.asks)
    by (summed rows) whole comes written held = absurd (reads_other form (Some (gen_form rows)) reads refl comes.0)
    by (unkeyed top input r) whole comes written held = no_key top input r written.0 comes.asks comes.taken comes.holds written.1.0 held
    by (top_broken cause input a ask) whole comes written held =
        top_stops cause input a ask written.0 comes.asks comes.taken comes.holds.0 comes.holds.1 written.1.0 held
    by (topped input a ask) whole comes written held = tops input a ask written.0 comes.asks comes.taken comes.holds.0 comes.holds.1 written.1.0 held
    by (unfiled input) whole comes written held = no_file input written.0 comes.asks comes.taken comes.holds written.1.0 held
    by (filed input a) whole comes written held = files input a written.0 comes.asks comes.taken comes.holds written.1.0 held
    by (file_ended input ending) whole comes written held = absurd (reads_other form (Some scan_file_form) reads refl comes.asks)
