-- What the status of a run whose arguments ask a block file tells.
use Rattle.std.proofs.Common.{◌≡◌, ◌⊎◌, ◌∙◌, sym, ap, refl, subst, ℕ, ◌+◌, true, codes, Option, Some, None, Ok, Err, inl, inr, arith, true≢false}
use Rattle.vx_dtype.specs.Types.{Bytes}
use Rattle.vx_io.specs.Ends.{TookUpTo, Added}
use Rattle.vx_laws_file.specs.FileLaws.{FilesAreShort}
use Rattle.vx_laws_file.specs.Lengths.{IsShortTable}
use Rattle.vx_scan.specs.Stores.{StoreSeen}
use Rattle.vx_request.specs.Requests.{RequestedScan, request_of, most_bytes}
use Rattle.vx_request.specs.declared.errors.RequestError.{RequestError}
use Rattle.vx_query.specs.Refusals.{request_refusal_name, refusal_line}
use Rattle.vx_query.specs.Running.{End, Form, Statistics, scan_form, explain_form, show_form, text_form, gen_form, top_form, file_form, scan_file_form, help_form, version_form, asks_file, IsTaken, IsRun, HoldsFile, HoldsLongTable, file_line}
use Rattle.vx_query.specs.TopWords.{AskedTop}
use Rattle.vx_query.specs.Causes.{HasRisen, IsUnasked}
use Rattle.vx_query.specs.FileCauses.{IsFiled, IsUnfiled, TellsTable}
use Rattle.vx_query.specs.Exactly.{Tells, RunsWell, EndsWith, RequestsEndSo, taken_of}
use Rattle.vx_query.specs.Exclusions.{TablesMeanOne}
use Rattle.vx_query.proofs.RefusalLemmas.{not_err, one_ok}
use Rattle.vx_query.proofs.RequestCauseLemmas.{refused_so}
use Rattle.vx_query.proofs.LineLemmas.{no_long_name, told_name}
use Rattle.vx_query.proofs.CauseLemmas.{asks_within, taken_whole, taken_part}
use Rattle.vx_query.proofs.RequestEnds.{RequestEnd, cut_off, without_memory, not_read, no_request, no_scan, breaks, reports, explains, no_key, top_stops, tops, no_file, files, uses_no_file, request_end}

-- `file` is no form of a scan, is no `explain`, and asks no first rows
no_scanning : (own : Statistics) → ¬ (Some file_form ≡ Some (scan_form own))
no_scanning own same = uses_no_file (Some (scan_form own)) refl (sym same)

no_explaining : ¬ (Some file_form ≡ Some explain_form)
no_explaining same = uses_no_file (Some explain_form) refl (sym same)

no_topping : (top : AskedTop) → ¬ (Some file_form ≡ Some (top_form top))
no_topping top same = uses_no_file (Some (top_form top)) refl (sym same)

-- ---- what each status means

pub was_filed : (i i' o o' : End) (used : Option StoreSeen) → IsRun (Some file_form) i i' o o' used 0 → IsFiled i i' o o' used
was_filed i i' o o' used run = by (request_end (Some file_form) i i' o o' used 0 refl run)
  where
    by : RequestEnd (Some file_form) i i' o o' used 0 → IsFiled i i' o o' used
    by (cut_off s risen) = absurd (omega (arith, s))
    by (without_memory s held) = absurd (omega (arith, s))
    by (not_read s risen held) = absurd (omega (arith, s))
    by (no_request input e s taken why written held) = absurd (omega (arith, s))
    by (no_scan input e s asks taken why free written held) = absurd (omega (arith, s))
    by (breaks own cause input a f p s scans taken asks broken written held) = absurd (omega (arith, s))
    by (reports own input a f p s scans taken asks unbroken written held) = absurd (no_scanning own scans)
    by (explains input a f p s other taken asks written held) = absurd (no_explaining other)
    by (no_key top input r s is taken why written held) = absurd (omega (arith, s))
    by (top_stops cause input a ask s is taken asks broken written held) = absurd (omega (arith, s))
    by (tops input a ask s is taken asks unbroken written held) = absurd (no_topping _ is)
    by (no_file input s is taken why written held) = absurd (omega (arith, s))
    by (files input a s is taken holds written held) =
        record { input = input; asked = a; taken = taken; holds = holds; written = written; unheld = held }

-- an input that is no request, or whose table is too long
pub was_unfiled : (i i' o o' : End) (used : Option StoreSeen) → IsRun (Some file_form) i i' o o' used 3
    → IsUnasked i i' o o' used ⊎ IsUnfiled i i' o o' used
was_unfiled i i' o o' used run = by (request_end (Some file_form) i i' o o' used 3 refl run)
  where
    by : RequestEnd (Some file_form) i i' o o' used 3 → IsUnasked i i' o o' used ⊎ IsUnfiled i i' o o' used
    by (cut_off s risen) = absurd (omega (arith, s))
    by (without_memory s held) = absurd (omega (arith, s))
    by (not_read s risen held) = absurd (omega (arith, s))
    by (no_request input e s taken why written held) =
        inl record { input = input; refusal = e; taken = taken; cause = why; written = written; unheld = held }
    by (no_scan input e s asks taken why free written held) = absurd (omega (arith, s))
    by (breaks own cause input a f p s scans taken asks broken written held) = absurd (omega (arith, s))
    by (reports own input a f p s scans taken asks unbroken written held) = absurd (omega (arith, s))
    by (explains input a f p s other taken asks written held) = absurd (omega (arith, s))
    by (no_key top input r s is taken why written held) = absurd (omega (arith, s))
    by (top_stops cause input a ask s is taken asks broken written held) = absurd (omega (arith, s))
    by (tops input a ask s is taken asks unbroken written held) = absurd (omega (arith, s))
    by (no_file input s is taken why written held) =
        inr record { input = input; taken = taken; cause = why; written = written; unheld = held }
    by (files input a s is taken holds written held) = absurd (omega (arith, s))

-- `file` has no fourth status
pub none_unscanned : (i i' o o' : End) (used : Option StoreSeen) → ¬ (IsRun (Some file_form) i i' o o' used 4)
none_unscanned i i' o o' used run = by (request_end (Some file_form) i i' o o' used 4 refl run)
  where
    by : RequestEnd (Some file_form) i i' o o' used 4 → ⊥
    by (cut_off s risen) = absurd (omega (arith, s))
    by (without_memory s held) = absurd (omega (arith, s))
    by (not_read s risen held) = absurd (omega (arith, s))
    by (no_request input e s taken why written held) = absurd (omega (arith, s))
    by (no_scan input e s asks taken why free written held) = true≢false (sym asks)
    by (breaks own cause input a f p s scans taken asks broken written held) = absurd (omega (arith, s))
    by (reports own input a f p s scans taken asks unbroken written held) = absurd (omega (arith, s))
    by (explains input a f p s other taken asks written held) = absurd (omega (arith, s))
    by (no_key top input r s is taken why written held) = no_topping top is
    by (top_stops cause input a ask s is taken asks broken written held) = absurd (omega (arith, s))
    by (tops input a ask s is taken asks unbroken written held) = absurd (omega (arith, s))
    by (no_file input s is taken why written held) = absurd (omega (arith, s))
    by (files input a s is taken holds written held) = absurd (omega (arith, s))

-- ---- runs over a source whose bytes are told

-- the input that holds a table is the one that the end tells, and so is the table
told_input : (i i' : End) (input : Bytes) (told : TellsTable i) → TookUpTo (most_bytes + 1) i.bytes i'.bytes input → input ≡ told.input
told_input i i' input told took = taken_whole i i' told.input input told.told (asks_within told.input told.asked told.holds) took

told_table : (i i' : End) (input : Bytes) (a : RequestedScan) (told : TellsTable i) → TookUpTo (most_bytes + 1) i.bytes i'.bytes input
    → request_of input ≡ Ok a → a ≡ told.asked
told_table i i' input a told took found =
    one_ok (request_of told.input) a told.asked (sym (ap request_of (told_input i i' input told took)) ∙ found) told.holds

-- such an input is a request
told_unrefused : (i i' : End) (input : Bytes) (e : RequestError) (told : TellsTable i) → TookUpTo (most_bytes + 1) i.bytes i'.bytes input
    → ¬ (request_of input ≡ Err e)
told_unrefused i i' input e told took h =
    not_err (request_of told.input) told.asked e told.holds (sym (ap request_of (told_input i i' input told took)) ∙ h)

-- the file that is written is of the table that is told
pub filed_as_told : (i i' o o' : End) (used : Option StoreSeen) (told : TellsTable i) → IsRun (Some file_form) i i' o o' used 0
    → Added o.bytes o'.bytes (file_line told.asked)
filed_as_told i i' o o' used told run =
    let found = was_filed i i' o o' used run in
    subst (λ a. Added o.bytes o'.bytes (file_line a)) (told_table i i' found.input found.asked told found.taken.bytes found.holds.asked) found.written

-- where nothing in it is too long, its file is written
pub filed_whole : (i i' o o' : End) (used : Option StoreSeen) (status : ℕ) (told : TellsTable i) → IsShortTable told.asked.zones told.asked.blocks
    → RunsWell (Some file_form) i i' o o' used status → ¬ (HasRisen i i') → EndsWith 0 (file_line told.asked) o o' status
filed_whole i i' o o' used status told short well still = by (request_end (Some file_form) i i' o o' used status refl well.run)
  where
    by : RequestEnd (Some file_form) i i' o o' used status → EndsWith 0 (file_line told.asked) o o' status
    by (cut_off s risen) = absurd (well.quiet risen)
    by (without_memory s held) = absurd (well.memory s)
    by (not_read s risen held) = absurd (still risen)
    by (no_request input e s taken why written held) = absurd (told_unrefused i i' input e told taken.bytes why)
    by (no_scan input e s asks taken why free written held) = absurd (true≢false (sym asks))
    by (breaks own cause input a f p s scans taken asks broken written held) = absurd (no_scanning own scans)
    by (reports own input a f p s scans taken asks unbroken written held) = absurd (no_scanning own scans)
    by (explains input a f p s other taken asks written held) = absurd (no_explaining other)
    by (no_key top input r s is taken why written held) = absurd (no_topping top is)
    by (top_stops cause input a ask s is taken asks broken written held) = absurd (no_topping _ is)
    by (tops input a ask s is taken asks unbroken written held) = absurd (no_topping _ is)
    by (no_file input s is taken why written held) =
        let same = told_table i i' input why.asked told taken.bytes why.held in
        absurd (why.long (subst (λ (a : RequestedScan). IsShortTable a.zones a.blocks) (sym same) short))
    by (files input a s is taken holds written held) =
        (s, subst (λ b. Added o.bytes o'.bytes (file_line b)) (told_table i i' input a told taken.bytes holds.asked) written)

-- ---- tables that are too long

-- a table that has a file isn't too long for it
long_unfiled : FilesAreShort → (input : Bytes) (a : RequestedScan) → HoldsLongTable input → ¬ (HoldsFile input a)
long_unfiled short input a h k =
    let same : h.asked ≡ a = one_ok (request_of input) h.asked a h.held k.asked in
    h.long (subst (λ (b : RequestedScan). IsShortTable b.zones b.blocks) (sym same) (short a.zones a.blocks k.has_file))

-- arguments that ask a block file are `file`
is_file : (form : Option Form) → asks_file form ≡ true → form ≡ Some file_form
is_file None asks = absurd (true≢false (sym asks))
is_file (Some (scan_form own)) asks = absurd (true≢false (sym asks))
is_file (Some explain_form) asks = absurd (true≢false (sym asks))
is_file (Some (show_form showing word)) asks = absurd (true≢false (sym asks))
is_file (Some (text_form query)) asks = absurd (true≢false (sym asks))
is_file (Some (gen_form rows)) asks = absurd (true≢false (sym asks))
is_file (Some (top_form top)) asks = absurd (true≢false (sym asks))
is_file (Some file_form) asks = refl
is_file (Some scan_file_form) asks = absurd (true≢false (sym asks))
is_file (Some help_form) asks = absurd (true≢false (sym asks))
is_file (Some version_form) asks = absurd (true≢false (sym asks))

-- a run that tells that its table is too long
told_long : (form : Option Form) (i i' o o' : End) (used : Option StoreSeen) → asks_file form ≡ true
    → Tells form i i' o o' used 3 (refusal_line (codes "TooLong")) → (input : Bytes) × IsTaken i i' input × HoldsLongTable input
told_long form i i' o o' used asks tells =
    by (was_unfiled i i' o o' used (subst (λ g. IsRun g i i' o o' used 3) (is_file form asks) tells.run))
  where
    by : IsUnasked i i' o o' used ⊎ IsUnfiled i i' o o' used → (input : Bytes) × IsTaken i i' input × HoldsLongTable input
    by (inl found) =
        absurd
        (no_long_name found.refusal
        (told_name o.bytes o'.bytes tells.before (codes "TooLong") (request_refusal_name found.refusal) tells.stood tells.written found.written))
    by (inr found) = (found.input, found.taken, found.cause)

-- where what is taken of the told bytes holds such a table
says_long : FilesAreShort → (form : Option Form) (i i' o o' : End) (used : Option StoreSeen) (status : ℕ) (all : Bytes) → asks_file form ≡ true
    → i.bytes ≡ Some all → HoldsLongTable (taken_of all) → RunsWell form i i' o o' used status → ¬ (HasRisen i i')
    → EndsWith 3 (refusal_line (codes "TooLong")) o o' status
says_long short form i i' o o' used status all asks told long well still =
    by (request_end (Some file_form) i i' o o' used status refl (subst (λ g. IsRun g i i' o o' used status) (is_file form asks) well.run))
  where
    long_all : (input : Bytes) → IsTaken i i' input → HoldsLongTable input
    long_all input taken = subst HoldsLongTable (sym (taken_part i i' all input told taken.bytes)) long

    by : RequestEnd (Some file_form) i i' o o' used status → EndsWith 3 (refusal_line (codes "TooLong")) o o' status
    by (cut_off s risen) = absurd (well.quiet risen)
    by (without_memory s held) = absurd (well.memory s)
    by (not_read s risen held) = absurd (still risen)
    by (no_request input e s taken why written held) =
        let own = long_all input taken in
        absurd (not_err (request_of input) own.asked e own.held why)
    by (no_scan input e s uses taken why free written held) = absurd (true≢false (sym uses))
    by (breaks own cause input a f p s scans taken holds broken written held) = absurd (no_scanning own scans)
    by (reports own input a f p s scans taken holds unbroken written held) = absurd (no_scanning own scans)
    by (explains input a f p s other taken holds written held) = absurd (no_explaining other)
    by (no_key top input r s is taken why written held) = absurd (no_topping top is)
    by (top_stops cause input a ask s is taken holds broken written held) = absurd (no_topping _ is)
    by (tops input a ask s is taken holds unbroken written held) = absurd (no_topping _ is)
    by (no_file input s is taken why written held) = (s, written)
    by (files input a s is taken holds written held) = absurd (long_unfiled short input a (long_all input taken) holds)

pub long_row : FilesAreShort → RequestsEndSo asks_file 3 (codes "TooLong") HoldsLongTable
long_row short = record { only = told_long; always = says_long short }

-- ---- one table

pub tables_mean_one : FilesAreShort → TablesMeanOne
tables_mean_one short = record {
  one_table = λ input a b h k. one_ok (request_of input) a b h.asked k.asked;
  none_long_filed = long_unfiled short;
  no_request_filed = λ input e a h k. not_err (request_of input) a e k.asked (refused_so e input h);
  no_request_long = λ input e h k. not_err (request_of input) k.asked e k.held (refused_so e input h);
}
