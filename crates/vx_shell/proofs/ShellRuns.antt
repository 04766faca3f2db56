-- What a run of the words is, by what its parts answer.
use Rattle.std.proofs.Common.{◌≡◌, refl, sym, ◌∙◌, subst, ◌⊎◌, inl, inr, ℕ, ◌+◌, ◌≤◌, Option, Some, None, Result, Ok, Err, List, [], arith}
use Rattle.vx_dtype.specs.Types.{Bytes}
use Rattle.vx_io.specs.Counts.{one_more}
use Rattle.vx_io.specs.Ends.{Added, TookPart}
use Rattle.vx_laws_file.specs.Opening.{FileRefusal, IsRefusedFile}
use Rattle.vx_laws_shell.specs.Answers.{Answer, answer_of}
use Rattle.vx_laws_shell.specs.Damage.{is_never_damaged}
use Rattle.vx_laws_shell.specs.Origins.{standard_input, block_file, folder, origin_of}
use Rattle.vx_laws_shell.specs.Running.{AskOf, AskSomeFile, AsksFile, AsksFolder, Cut, unwritten, without_memory, file_unread, cut_status, End, IsAnswerOfFile, IsCut, IsOutcome, IsShellRun, IsTaken, IsWhole, Outcome, misused, unnamed, unopened, unread, untold, misfiled, answered, output_of, status_of, TakesTable}
use Rattle.vx_laws_shell.specs.Paths.{CannotOpen, Paths, WhereKept}
use Rattle.vx_laws_shell.specs.ToldTables.{table_told}
use Rattle.vx_laws_shell.specs.Words.{Asked, asked_of}
use Rattle.vx_laws_shell.proofs.Adding.{added_nothing, prefix_of_whole}
use Rattle.vx_laws_statements.specs.Refusals.{StatementRefusal}
use Rattle.vx_laws_statements.specs.TableNames.{table_named}
use Rattle.vx_io.specs.declared.reading.InputError.{InputError}
use Rattle.vx_io.specs.declared.reading.InputError.TheVariants as inputs
use Rattle.vx_request.specs.Requests.{most_bytes}
use Rattle.vx_request.specs.Tables.{ToldTable, told_table}
use Rattle.vx_file_open.specs.Layouts.{WhereBytes, IsFileWith, content_at}
use Rattle.vx_shell.specs.declared.counting.Counts.{Counts}
use Rattle.vx_shell.specs.declared.errors.Refusal.{Refusal}
use Rattle.vx_shell.specs.declared.errors.Refusal.TheVariants as refusals
use Rattle.vx_files.specs.Kept as files
use Rattle.vx_files.specs.Listed as listings
use Rattle.vx_files.specs.declared.errors.OpenError.{OpenError}
use Rattle.vx_files.specs.declared.errors.OpenError.TheVariants as opens
use Rattle.vx_shell.specs.FileRuns.{WritesOut, IsNeverUnread, IsUntold, IsToldAnswer, AnswersBytes, IsMisfiled, IsFileAnswer, AnswersSource, content_answer, content_told}
use Rattle.vx_shell.specs.Founds.{EndsBy}
use Rattle.vx_folder.specs.FolderStates.{WhereHeld}
use Rattle.vx_folder.specs.PathViews.{kept_view, paths_by}
use Rattle.vx_shell.specs.Refusals.{RefusalKind, settled, cut, refusal_kind, kind_status, refusal_status, result_status, input_refusal, IsSettled, IsUnopened}
use Rattle.vx_shell.specs.RunParts.{IsStatementRefusal, IsFinished}

-- ---- nothing is taken

pub took_nothing : (most : ℕ) (at : Option Bytes) → TookPart most at at
took_nothing most None = refl
took_nothing most (Some all) = (0, omega arith, omega arith, refl)

-- ---- runs that are cut before the first row, and refusals before it

pub unready_room : (words : List Bytes) (paths : Paths) (i j o p : End) → TookPart (most_bytes + 1) i.bytes j.bytes → p ≡ o → IsShellRun words paths i j o p 8
unready_room words paths i j o p part same = inr (record { why = without_memory; told = refl; cause = tt; part = part; unwritten = same })

pub unready_file : (words : List Bytes) (paths : Paths) (i o p : End) → AskSomeFile words → p ≡ o → IsShellRun words paths i i o p 6
unready_file words paths i o p asks same =
    inr (record { why = file_unread; told = refl; cause = asks; part = took_nothing (most_bytes + 1) i.bytes; unwritten = same })

-- an outcome of which nothing is written
written_none : (outcome : Outcome) (o p : End) (status : ℕ) → p ≡ o → status ≡ status_of outcome → output_of outcome ≡ [] → IsWhole outcome o p status
written_none outcome o p status same told none = record {
  told = told;
  whole = subst (λ (q : End). Added o.bytes q.bytes (output_of outcome)) (sym same) (subst (λ (bytes : Bytes). Added o.bytes o.bytes bytes) (sym none) (added_nothing o.bytes));
}

pub ends_misused : (words : List Bytes) (paths : Paths) (i o : End) → asked_of words ≡ None → IsShellRun words paths i i o o 2
ends_misused words paths i o form = inl (record { outcome = misused; is = (form, refl); writes = inl (written_none misused o o 2 refl refl refl) })

ends_unnamed : (words : List Bytes) (paths : Paths) (i o : End) (asked : Asked) (r : StatementRefusal) → asked_of words ≡ Some asked
    → table_named asked.statement ≡ Err r → IsShellRun words paths i i o o 4
ends_unnamed words paths i o asked r form named =
    inl (record { outcome = unnamed r; is = (asked, form, named, refl); writes = inl (written_none (unnamed r) o o 4 refl refl refl) })

-- a statement that names no table, by the kind of its refusal
pub unnamed_run : (words : List Bytes) (paths : Paths) (i o : End) (asked : Asked) (kind : RefusalKind) → asked_of words ≡ Some asked
    → IsStatementRefusal (table_named asked.statement) kind → IsShellRun words paths i i o o (kind_status kind)
unnamed_run words paths i o asked (settled status) form h =
    subst (λ (s : ℕ). IsShellRun words paths i i o o s) (sym h.0) (ends_unnamed words paths i o asked h.1.0 form h.1.1)
unnamed_run words paths i o asked (cut why) form h =
    subst (λ (w : Cut). IsShellRun words paths i i o o (cut_status w)) (sym h) (unready_room words paths i i o o (took_nothing (most_bytes + 1) i.bytes) refl)

-- ---- answers

-- an answer ends whole, or is cut
ended_kind : (words : List Bytes) (answer : Answer) (o p : End) (kind : RefusalKind) → EndsBy kind answer o p → (kind ≡ cut file_unread → AskSomeFile words)
    → IsWhole (answered answer) o p (kind_status kind) ⊎ IsCut words (answered answer) o p (kind_status kind)
ended_kind words answer o p (settled status) h asks = inl (record { told = sym h.0; whole = h.1 })
ended_kind words answer o p (cut unwritten) h asks = inr (record { why = unwritten; told = refl; cause = h.1; part = h.0 })
ended_kind words answer o p (cut without_memory) h asks = inr (record { why = without_memory; told = refl; cause = tt; part = h.0 })
ended_kind words answer o p (cut file_unread) h asks = inr (record { why = file_unread; told = refl; cause = asks refl; part = h.0 })

ended : (words : List Bytes) (answer : Answer) (o p : End) (result : Result Counts Refusal) → WritesOut answer o p result
    → ((refusal : Refusal) → result ≡ Err refusal → refusal_kind refusal ≡ cut file_unread → AskSomeFile words)
    → IsWhole (answered answer) o p (result_status result) ⊎ IsCut words (answered answer) o p (result_status result)
ended words answer o p (Ok counted) h asks = inl (record { told = sym h.0; whole = h.1 })
ended words answer o p (Err refusal) h asks = ended_kind words answer o p (refusal_kind refusal) h (asks refusal refl)

-- no read fails of a table that is told
never_unread : (refusal : Refusal) → IsNeverUnread (Err refusal) → refusal_kind refusal ≡ cut file_unread → ⊥
never_unread refusals.Unread h e = h
never_unread refusals.StoreFault h e = h
never_unread refusal h e = cc

never_asks : (words : List Bytes) (result : Result Counts Refusal) → IsNeverUnread result → (refusal : Refusal) → result ≡ Err refusal
    → refusal_kind refusal ≡ cut file_unread → AskSomeFile words
never_asks words result h refusal is e = absurd (never_unread refusal (subst IsNeverUnread is h) e)

-- ---- the standard input

takes_table : (words : List Bytes) (i j : End) (asked : Asked) (name input : Bytes) → AskOf words asked name → origin_of name ≡ standard_input
    → IsTaken i j input → TakesTable words i j asked input
takes_table words i j asked name input asks origin taken = record { name = name; asks = asks; origin = origin; taken = taken }

told_run : (words : List Bytes) (paths : Paths) (i j o p : End) (asked : Asked) (input : Bytes) (result : Result Counts Refusal)
    → TakesTable words i j asked input → (told : ToldTable) × (told_table input ≡ Ok told) × IsToldAnswer asked told o p result
    → IsShellRun words paths i j o p (result_status result)
told_run words paths i j o p asked input result takes h =
    let answer = answer_of is_never_damaged (table_told h.0) h.0.zones asked in
    inl (record {
      outcome = answered answer;
      is = inl (asked, input, h.0, takes, h.1, refl);
      writes = ended words answer o p result h.2.writes (never_asks words result h.2.read);
    })

untold_run : (words : List Bytes) (paths : Paths) (i j o p : End) (asked : Asked) (input : Bytes) (result : Result Counts Refusal)
    → TakesTable words i j asked input → TookPart (most_bytes + 1) i.bytes j.bytes → p ≡ o → IsUntold (told_table input) result
    → IsShellRun words paths i j o p (result_status result)
untold_run words paths i j o p asked input (Ok counted) takes part same h = absurd h
untold_run words paths i j o p asked input (Err refusals.NoMemory) takes part same h = unready_room words paths i j o p part same
untold_run words paths i j o p asked input (Err (refusals.NoTable error)) takes part same h =
    inl (record { outcome = untold h.0; is = (asked, input, takes, h.1); writes = inl (written_none (untold h.0) o p 3 same refl refl) })
untold_run words paths i j o p asked input (Err _) takes part same h = absurd h

pub bytes_run : (words : List Bytes) (paths : Paths) (i j o p : End) (asked : Asked) (name input : Bytes) (result : Result Counts Refusal)
    → AskOf words asked name → origin_of name ≡ standard_input → IsTaken i j input → TookPart (most_bytes + 1) i.bytes j.bytes
    → AnswersBytes asked input o p result → IsShellRun words paths i j o p (result_status result)
bytes_run words paths i j o p asked name input result asks origin taken part (inl h) =
    told_run words paths i j o p asked input result (takes_table words i j asked name input asks origin taken) h
bytes_run words paths i j o p asked name input result asks origin taken part (inr h) =
    untold_run words paths i j o p asked input result (takes_table words i j asked name input asks origin taken) part h.0 h.1

pub unread_run : (words : List Bytes) (paths : Paths) (i j o : End) (asked : Asked) (name : Bytes) → AskOf words asked name
    → origin_of name ≡ standard_input → TookPart (most_bytes + 1) i.bytes j.bytes → one_more i.faults ≤ j.faults → IsShellRun words paths i j o o 6
unread_run words paths i j o asked name asks origin part risen =
    inl (record { outcome = unread; is = (asked, name, asks, origin, part, risen); writes = inl (written_none unread o o 6 refl refl refl) })

-- ---- a block file, and the files of a folder

some_file : (words : List Bytes) (asked : Asked) (name path : Bytes) → AskOf words asked name → origin_of name ≡ block_file path → AskSomeFile words
some_file words asked name path asks origin = (asked, name, path, asks, inl origin)

pub some_folder : (words : List Bytes) (asked : Asked) (name path : Bytes) → AskOf words asked name → origin_of name ≡ folder path → AskSomeFile words
some_folder words asked name path asks origin = (asked, name, path, asks, inr origin)

asks_file : (words : List Bytes) (i : End) (asked : Asked) (name path : Bytes) → AskOf words asked name → origin_of name ≡ block_file path
    → AsksFile words i i asked path
asks_file words i asked name path asks origin = record { name = name; asks = asks; origin = origin; untaken = refl }

pub asks_folder : (words : List Bytes) (i : End) (asked : Asked) (name path : Bytes) → AskOf words asked name → origin_of name ≡ folder path
    → AsksFolder words i i asked path
asks_folder words i asked name path asks origin = record { name = name; asks = asks; origin = origin; untaken = refl }

pub answered_run : (words : List Bytes) (paths : Paths) (i o p : End) (answer : Answer) (result : Result Counts Refusal)
    → IsOutcome words paths i i (answered answer) → AskSomeFile words → WritesOut answer o p result
    → IsShellRun words paths i i o p (result_status result)
answered_run words paths i o p answer result is some writes = inl (record {
  outcome = answered answer;
  is = is;
  writes = ended words answer o p result writes (λ refusal same unread. some);
})

-- an outcome of which nothing is written
pub ends_untold : (words : List Bytes) (paths : Paths) (i o p : End) (outcome : Outcome) → IsOutcome words paths i i outcome → output_of outcome ≡ []
    → p ≡ o → IsShellRun words paths i i o p (status_of outcome)
ends_untold words paths i o p outcome is none same =
    inl (record { outcome = outcome; is = is; writes = inl (written_none outcome o p (status_of outcome) same refl none) })

file_run : (words : List Bytes) (kept : Bytes → files.Kept) (listed : Bytes → listings.Listed) (i o p : End) (asked : Asked) (name path : Bytes)
    (told : Option Bytes) (result : Result Counts Refusal) → AskOf words asked name → origin_of name ≡ block_file path
    → files.IsOpenedAs (kept path) told → IsFileAnswer asked told o p result → IsShellRun words (paths_by kept listed) i i o p (result_status result)
file_run words kept listed i o p asked name path told result asks origin opened h = by (kept path) refl opened
  where
    answers : (answer : Answer) → WhereKept (kept_view (kept path)) (IsAnswerOfFile asked answer) → WritesOut answer o p result
        → IsShellRun words (paths_by kept listed) i i o p (result_status result)
    answers answer is writes =
        answered_run words (paths_by kept listed) i o p answer result
        (inr (inl (asked, path, asks_file words i asked name path asks origin, is)))
        (some_file words asked name path asks origin) writes

    by : (k : files.Kept) → kept path ≡ k → files.IsOpenedAs k told → IsShellRun words (paths_by kept listed) i i o p (result_status result)
    by files.unknown e here =
        answers h.answers.some.0 (subst (λ (k : files.Kept). WhereKept (kept_view k) (IsAnswerOfFile asked h.answers.some.0)) (sym e) tt)
        h.answers.some.1
    by files.absent e here = absurd here
    by (files.holds bytes) e here =
        let content = content_at h.file.header bytes in
        let answer = content_answer asked content in
        let file : IsFileWith h.file.header bytes = subst (λ (b : Option Bytes). WhereBytes b (IsFileWith h.file.header)) here h.opened in
        answers answer
        (subst (λ (k : files.Kept). WhereKept (kept_view k) (IsAnswerOfFile asked answer)) (sym e)
        (record { content = content; opened = file.opened; answer_is = refl }))
        (subst (λ (b : Option Bytes). WhereHeld (content_told h.file.header b) (λ content. WritesOut (content_answer asked content) o p result))
        (h.bytes ∙ here) h.answers.told)

misfiled_kept : (kept : files.Kept) (told : Option Bytes) (r : FileRefusal) → files.IsOpenedAs kept told → WhereBytes told (λ bytes. IsRefusedFile bytes r)
    → WhereKept (kept_view kept) (λ bytes. IsRefusedFile bytes r)
misfiled_kept files.unknown told r here h = tt
misfiled_kept files.absent told r here h = here
misfiled_kept (files.holds bytes) told r here h = subst (λ (o : Option Bytes). WhereBytes o (λ bytes. IsRefusedFile bytes r)) here h

misfiled_run : (words : List Bytes) (kept : Bytes → files.Kept) (listed : Bytes → listings.Listed) (i o p : End) (asked : Asked) (name path : Bytes)
    (told : Option Bytes) (result : Result Counts Refusal) → AskOf words asked name → origin_of name ≡ block_file path
    → files.IsOpenedAs (kept path) told → p ≡ o → IsMisfiled told result → IsShellRun words (paths_by kept listed) i i o p (result_status result)
misfiled_run words kept listed i o p asked name path told (Ok counted) asks origin opened same h = absurd h
misfiled_run words kept listed i o p asked name path told (Err refusals.NoMemory) asks origin opened same h =
    unready_room words (paths_by kept listed) i i o p (took_nothing (most_bytes + 1) i.bytes) same
misfiled_run words kept listed i o p asked name path told (Err refusals.Unread) asks origin opened same h =
    unready_file words (paths_by kept listed) i o p (some_file words asked name path asks origin) same
misfiled_run words kept listed i o p asked name path told (Err (refusals.NoFile error)) asks origin opened same h =
    ends_untold words (paths_by kept listed) i o p (misfiled h.0)
    (asked, path, asks_file words i asked name path asks origin, misfiled_kept (kept path) told h.0 opened h.1) refl same
misfiled_run words kept listed i o p asked name path told (Err _) asks origin opened same h = absurd h

pub source_run : (words : List Bytes) (kept : Bytes → files.Kept) (listed : Bytes → listings.Listed) (i o p : End) (asked : Asked) (name path : Bytes)
    (told : Option Bytes) (result : Result Counts Refusal) → AskOf words asked name → origin_of name ≡ block_file path
    → files.IsOpenedAs (kept path) told → AnswersSource asked told o p result → IsShellRun words (paths_by kept listed) i i o p (result_status result)
source_run words kept listed i o p asked name path told result asks origin opened (inl h) =
    file_run words kept listed i o p asked name path told result asks origin opened h
source_run words kept listed i o p asked name path told result asks origin opened (inr h) =
    misfiled_run words kept listed i o p asked name path told result asks origin opened h.0 h.1

-- an outcome of which nothing is written, by the kind of its refusal
pub settled_run : (words : List Bytes) (paths : Paths) (i o : End) (outcome : Outcome) (kind : RefusalKind) → IsOutcome words paths i i outcome
    → output_of outcome ≡ [] → IsSettled (status_of outcome) kind → IsShellRun words paths i i o o (kind_status kind)
settled_run words paths i o outcome (settled status) is none h =
    subst (λ (s : ℕ). IsShellRun words paths i i o o s) (sym h) (ends_untold words paths i o o outcome is none refl)
settled_run words paths i o outcome (cut why) is none h =
    subst (λ (w : Cut). IsShellRun words paths i i o o (cut_status w)) (sym h)
    (unready_room words paths i i o o (took_nothing (most_bytes + 1) i.bytes) refl)

pub no_room_run : (words : List Bytes) (paths : Paths) (i o : End) (kind : RefusalKind) → kind ≡ cut without_memory → IsShellRun words paths i i o o (kind_status kind)
no_room_run words paths i o kind same =
    subst (λ (k : RefusalKind). IsShellRun words paths i i o o (kind_status k)) (sym same)
    (unready_room words paths i i o o (took_nothing (most_bytes + 1) i.bytes) refl)

-- ---- the line of counts

-- where there was no memory for it the rows were written whole before
pub finished_run : (words : List Bytes) (paths : Paths) (i j o p : End) (status : ℕ) → IsFinished status → IsShellRun words paths i j o p 0
    → IsShellRun words paths i j o p status
finished_run words paths i j o p status (inl same) h = subst (λ (s : ℕ). IsShellRun words paths i j o p s) (sym same) h
finished_run words paths i j o p status (inr same) h = subst (λ (s : ℕ). IsShellRun words paths i j o p s) (sym same) (cut_short h)
  where
    by : (outcome : Outcome) → IsWhole outcome o p 0 ⊎ IsCut words outcome o p 0 → IsCut words outcome o p 8
    by outcome (inl w) = record { why = without_memory; told = refl; cause = tt; part = prefix_of_whole o.bytes p.bytes (output_of outcome) w.whole }
    by outcome (inr w) = record { why = without_memory; told = refl; cause = tt; part = w.part }

    cut_short : IsShellRun words paths i j o p 0 → IsShellRun words paths i j o p 8
    cut_short (inl ended) = inl (record { outcome = ended.outcome; is = ended.is; writes = inr (by ended.outcome ended.writes) })
    cut_short (inr unready) = inr (record { why = without_memory; told = refl; cause = tt; part = unready.part; unwritten = unready.unwritten })

-- the path of a file isn't opened
closed_view : (kept : files.Kept) → files.CannotOpen kept → CannotOpen (kept_view kept)
closed_view files.unknown h = tt
closed_view files.absent h = tt
closed_view (files.holds bytes) h = h

pub open_run : (words : List Bytes) (kept : Bytes → files.Kept) (listed : Bytes → listings.Listed) (i o : End) (asked : Asked) (name path : Bytes)
    (error : OpenError) (kind : RefusalKind) → AskOf words asked name → origin_of name ≡ block_file path
    → (error ≡ opens.NotOpened → files.CannotOpen (kept path)) → IsUnopened error kind
    → IsShellRun words (paths_by kept listed) i i o o (kind_status kind)
open_run words kept listed i o asked name path opens.NotOpened kind asks origin closed h =
    settled_run words (paths_by kept listed) i o unopened kind
    (inl (asked, path, asks_file words i asked name path asks origin, closed_view (kept path) (closed refl))) refl h
open_run words kept listed i o asked name path opens.NoMemory kind asks origin closed h = no_room_run words (paths_by kept listed) i o kind h

-- the standard input isn't read
pub input_run : (words : List Bytes) (paths : Paths) (i j o : End) (asked : Asked) (name : Bytes) (error : InputError) → AskOf words asked name
    → origin_of name ≡ standard_input → TookPart (most_bytes + 1) i.bytes j.bytes → (error ≡ inputs.ReadFault → one_more i.faults ≤ j.faults)
    → IsShellRun words paths i j o o (refusal_status (input_refusal error))
input_run words paths i j o asked name inputs.NoMemory asks origin part risen = unready_room words paths i j o o part refl
input_run words paths i j o asked name inputs.ReadFault asks origin part risen = unread_run words paths i j o asked name asks origin part (risen refl)
