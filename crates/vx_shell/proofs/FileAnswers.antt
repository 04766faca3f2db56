-- Files that are opened, and why they are not.
use Rattle.std.proofs.Common.{◌≡◌, refl, ap, sym, subst, ℕ, ◌≤◌, false, Option, Result, Ok, Err, List, [], ◌∷◌, arith}
use Rattle.std.specs.List.{list_any}
use Rattle.vx_dtype.specs.Types.{Bytes}
use Rattle.vx_io.specs.Counts.{one_more}
use Rattle.vx_column.specs.Columns.{Column}
use Rattle.vx_laws_file.specs.Opening.{bad_magic, bad_header, bad_zones, bad_end}
use Rattle.vx_laws_shell.specs.Answers.{answer_of}
use Rattle.vx_laws_shell.specs.Damage.{is_never_damaged}
use Rattle.vx_laws_shell.specs.Running.{End}
use Rattle.vx_laws_shell.specs.Words.{Asked}
use Rattle.vx_request.specs.RequestViews.{RequestAnswers, told_view}
use Rattle.vx_request.specs.Tables.{ToldTable}
use Rattle.vx_request.specs.declared.errors.RequestError.{RequestError}
use Rattle.vx_request.specs.declared.errors.RequestError.TheVariants as requests
use Rattle.vx_scan.specs.StoreAnswers.{new_store}
use Rattle.vx_scan.specs.StoreViews.{StoreState, store_seen}
use Rattle.vx_scan.specs.Stores.{StoreSeen, IsSameStore, Read}
use Rattle.vx_semantics.specs.Tables.{Zones}
use Rattle.vx_tables.specs.Blocks.{table_of_blocks}
use Rattle.vx_file_open.specs.Layouts.{WhereBytes}
use Rattle.vx_file_open.specs.OpenAnswers.{IsRefusedBy, refusal_of}
use Rattle.vx_file_open.specs.declared.errors.FileError.{FileError}
use Rattle.vx_file_open.specs.declared.errors.FileError.TheVariants as files
use Rattle.vx_file.specs.FileStates.{FileState, IsNewFile}
use Rattle.vx_file_scan.specs.FirstFailures.{IsUnread}
use Rattle.vx_shell.specs.declared.answers.Found.{Found}
use Rattle.vx_shell.specs.declared.counting.Counts.{Counts}
use Rattle.vx_shell.specs.declared.errors.Refusal.{Refusal}
use Rattle.vx_shell.specs.declared.errors.Refusal.TheVariants as refusals
use Rattle.vx_shell.specs.FileRuns.{WritesOut, Reports, IsNeverUnread, IsUntold, IsMisfiled}
use Rattle.vx_shell.specs.Founds.{CountsFault, AnswersStore}
use Rattle.vx_shell.specs.Refusals.{file_refusal, table_refusal}
use Rattle.vx_shell.proofs.FileRuns.{told_reported}

-- a file that was opened wasn't read yet
pub new_unread : (told : Option Bytes) (counted : ℕ) (s : FileState) → IsNewFile told counted s → IsUnread s
new_unread told counted s h = record { reads = h.reads; failed = h.failed; damaged = h.damaged }

-- why one isn't opened
pub misfiled : (told : Option Bytes) (error : FileError) → WhereBytes told (λ bytes. IsRefusedBy bytes (refusal_of error)) → IsMisfiled told (Err (file_refusal error))
misfiled told files.NoMemory h = tt
misfiled told files.ReadFault h = tt
misfiled told files.BadMagic h = (bad_magic, h)
misfiled told files.BadHeader h = (bad_header, h)
misfiled told (files.BadZones e) h = (bad_zones e, h)
misfiled told files.BadEnd h = (bad_end, h)

-- a store in memory counts no fault
pub never_faults : (zones : Zones) (blocks : List (List Column)) (s : StoreState) (t : StoreSeen) (x y : End) (found : Result Found Refusal) → s ≡ new_store zones blocks []
    → IsSameStore (store_seen s) t → CountsFault found (store_seen s) t x y → found ≡ Err refusals.StoreFault → ⊥
never_faults zones blocks s t x y found new same cause is =
    let store : StoreState = new_store zones blocks [] in
    let here : IsSameStore (store_seen store) t = subst (λ (u : StoreState). IsSameStore (store_seen u) t) new same in
    let risen : one_more 0 ≤ t.faults =
    subst (λ (u : StoreState). one_more u.faults ≤ t.faults) new
    (subst (λ (r : Result Found Refusal). CountsFault r (store_seen s) t x y) is cause) in
    let none : t.faults ≡ 0 = here.quiet refl in
    omega (arith, risen, none)

-- so none of its reads fails
never_read : (a b : StoreSeen) (x y : End) (refusal : Refusal) → (refusal ≡ refusals.StoreFault → ⊥) → CountsFault {A = Found} (Err refusal) a b x y
    → IsNeverUnread (Err refusal)
never_read a b x y refusals.Unread none h = h
never_read a b x y refusals.StoreFault none h = none refl
never_read a b x y refusal none h = tt

abbrev failed : Refusal → Result Found Refusal
failed r = Err r

pub reported_read : (a b : StoreSeen) (x y : End) (found : Result Found Refusal) (result : Result Counts Refusal) → (found ≡ Err refusals.StoreFault → ⊥)
    → CountsFault found a b x y → Reports found result → IsNeverUnread result
reported_read a b x y (Ok found) (Ok counted) none cause h = tt
reported_read a b x y (Ok found) (Err told) none cause h = subst (λ (r : Refusal). IsNeverUnread (Err r)) (sym h) tt
reported_read a b x y (Err refusal) (Ok counted) none cause h = absurd h
reported_read a b x y (Err refusal) (Err told) none cause h = subst (λ (r : Refusal). IsNeverUnread (Err r)) (sym h)
    (never_read a b x y refusal (λ is. none (ap failed is)) cause)

-- the answer over a table in memory that wasn't read yet
none_damaged : (made : List Read) → list_any is_never_damaged made ≡ false
none_damaged [] = refl
none_damaged (read ∷ made) = none_damaged made

pub store_answered : (asked : Asked) (s : StoreState) (t : StoreSeen) (x y : End) (found : Result Found Refusal) (result : Result Counts Refusal)
    → (found ≡ Err refusals.StoreFault → ⊥) → AnswersStore asked (store_seen s) t x y found → Reports found result
    → WritesOut (answer_of is_never_damaged (table_of_blocks s.zones s.blocks) s.zones asked) x y result
store_answered asked s t x y found result none h is =
    let table = table_of_blocks s.zones s.blocks in
    told_reported is_never_damaged (answer_of is_never_damaged table s.zones asked) table h.made t.failed x y found result none
    (h.told is_never_damaged (none_damaged h.made)) is

-- bytes that tell no table
pub untold_so : (given : Result ToldTable RequestError) (error : RequestError) → RequestAnswers told_view given (Err error)
    → IsUntold given (Err (table_refusal error))
untold_so given requests.NoMemory h = tt
untold_so given error h = (error, h)
