-- The answer over the table of a block file, or of files together, is written as it was found: what it met of damage is told by what is left of them.
use Rattle.std.proofs.Common.{◌≡◌, refl, ap, sym, ◌∙◌, subst, inl, inr, Bool, true, false, ◌||◌, Option, Some, None, option_map, Result, Ok, Err, List, [], ◌∷◌, ◌++◌}
use Rattle.std.specs.List.{AllByRecursion, list_any, slice_get}
use Rattle.std.proofs.lemmas.Option.{same_Some}
use Rattle.vx_dtype.specs.Types.{Bytes}
use Rattle.vx_io.specs.Ends.{Added, AddedPrefix}
use Rattle.vx_laws_file.specs.FileForms.{Header, FileContent}
use Rattle.vx_laws_file.specs.HeldTables.{held_table}
use Rattle.vx_laws_file.proofs.HeldLemmas.{read_is_not_damaged}
use Rattle.vx_laws_shell.specs.Answers.{Answer, answer_of}
use Rattle.vx_laws_shell.specs.Damage.{is_damaged_in}
use Rattle.vx_laws_shell.specs.Running.{file_unread, End}
use Rattle.vx_laws_shell.specs.Words.{Asked}
use Rattle.vx_laws_shell.proofs.Adding.{prefix_of_whole}
use Rattle.vx_laws_shell.proofs.Damage.{HasBytes, damage_so}
use Rattle.vx_laws_shell.proofs.FolderContents.{joined_has_bytes}
use Rattle.vx_scan.specs.Stores.{Read, StoreSeen, WhereTold}
use Rattle.vx_semantics.specs.Tables.{Table, Zones}
use Rattle.vx_file_open.specs.Layouts.{WhereBytes, IsFileWith, content_at}
use Rattle.vx_file.specs.FileStates.{FileState, file_seen, held_at, IsKept, IsSound, IsSpoilt}
use Rattle.vx_file_scan.specs.FileScans.{DamagedOnce}
use Rattle.vx_folder.specs.FolderStates.{WhereHeld}
use Rattle.vx_folder.specs.FolderStates as folders
use Rattle.vx_file_scan.specs.FirstFailures.{IsUnread, IsReadToFailure}
use Rattle.vx_file_scan.proofs.FailureLemmas.{left_at_failure}
use Rattle.vx_shell.specs.declared.answers.Found.{Found}
use Rattle.vx_shell.specs.declared.counting.Counts.{Counts}
use Rattle.vx_shell.specs.declared.errors.Refusal.{Refusal}
use Rattle.vx_shell.specs.declared.errors.Refusal.TheVariants as refusals
use Rattle.vx_shell.specs.FileRuns.{WritesOut, Reports, IsFaultOf, IsToldBy, ReportsFile, content_answer, AnswersContent, content_told, AnswersFile}
use Rattle.vx_shell.specs.Founds.{CountsFault, EndsBy, IsCutBy, IsWritten, AnswersStore}
use Rattle.vx_shell.specs.Refusals.{RefusalKind, settled, cut, refusal_kind}

-- ---- damaged reads

by_cases : (b : Bool) → (b ≡ true → ⊥) → b ≡ false
by_cases true h = absurd (h refl)
by_cases false h = refl

sound_undamaged : (content : FileContent) (reads : List Read) → HasBytes content → AllByRecursion (folders.IsSound content) reads
    → list_any (is_damaged_in content) reads ≡ false
sound_undamaged content [] here sound = refl
sound_undamaged content (read ∷ reads) here sound =
    let own : is_damaged_in content read ≡ false =
    by_cases (is_damaged_in content read) (λ e. read_is_not_damaged content read.0 read.1 sound.0.0 sound.0.1 ((damage_so content read here).0 e)) in
    λ i. own i || sound_undamaged content reads here sound.1 i

-- ---- how answers end

-- a write that failed counted a fault
abbrev IsCausedBy : RefusalKind → End → End → Type 0
IsCausedBy (settled status) before after = Unit {0}
IsCausedBy (cut why) before after = IsCutBy why before after

caused : (a b : StoreSeen) (x y : End) (refusal : Refusal) → CountsFault {A = Found} (Err refusal) a b x y → IsCausedBy (refusal_kind refusal) x y
caused a b x y refusals.Unwritten h = h
caused a b x y _ h = tt

-- some answer ends so
some_ends : (kind : RefusalKind) (x y : End) (lines : Bytes) → Added x.bytes y.bytes lines → IsCausedBy kind x y → (answer : Answer) × EndsBy kind answer x y
some_ends (settled status) x y lines added cause = (record { status = status; output = lines; counts = None }, (refl, added))
some_ends (cut why) x y lines added cause =
    (record { status = 0; output = lines; counts = None }, (prefix_of_whole x.bytes y.bytes lines added, cause))

whole_cut : (answer : Answer) (x y : End) (told : Refusal) → told ≡ refusals.NoMemory → Added x.bytes y.bytes answer.output → WritesOut answer x y (Err told)
whole_cut answer x y told same added =
    subst (λ (r : Refusal). WritesOut answer x y (Err r)) (sym same) (prefix_of_whole x.bytes y.bytes answer.output added, tt)

ends_as : (answer : Answer) (x y : End) (refusal told : Refusal) → told ≡ refusal → EndsBy (refusal_kind refusal) answer x y → WritesOut answer x y (Err told)
ends_as answer x y refusal told same h = subst (λ (r : Refusal). EndsBy (refusal_kind r) answer x y) (sym same) h

-- ---- some answer

pub some_reported : (a b : StoreSeen) (x y : End) (lines : Bytes) (found : Result Found Refusal) (result : Result Counts Refusal) → Added x.bytes y.bytes lines
    → CountsFault found a b x y → Reports found result → (answer : Answer) × WritesOut answer x y result
some_reported a b x y lines (Ok found) (Ok counted) added cause h = (record { status = 0; output = lines; counts = None }, (refl, added))
some_reported a b x y lines (Ok found) (Err told) added cause h =
    let answer : Answer = record { status = 0; output = lines; counts = None } in
    (answer, whole_cut answer x y told h added)
some_reported a b x y lines (Err refusal) (Ok counted) added cause h = absurd h
some_reported a b x y lines (Err refusal) (Err told) added cause h =
    let some = some_ends (refusal_kind refusal) x y lines added (caused a b x y refusal cause) in
    (some.0, ends_as some.0 x y refusal told h some.1)

-- a read that failed, by a fault of the source or by damage
fault_ends : (x y : End) (lines : Bytes) (damaged : List Read) (told : Refusal) → Added x.bytes y.bytes lines → IsFaultOf damaged told
    → (answer : Answer) × WritesOut answer x y (Err told)
fault_ends x y lines [] told added h =
    let some = some_ends (cut file_unread) x y lines added tt in
    (some.0, ends_as some.0 x y refusals.Unread told h some.1)
fault_ends x y lines (read ∷ damaged) told added h =
    let some = some_ends (settled 3) x y lines added tt in
    (some.0, ends_as some.0 x y refusals.Damaged told h some.1)

some_file : (a b : StoreSeen) (x y : End) (lines : Bytes) (damaged : List Read) (found : Result Found Refusal) (result : Result Counts Refusal)
    → Added x.bytes y.bytes lines → CountsFault found a b x y → ReportsFile damaged found result → (answer : Answer) × WritesOut answer x y result
some_file a b x y lines damaged (Ok found) result added cause h = some_reported a b x y lines (Ok found) result added cause h
some_file a b x y lines damaged (Err refusal) (Ok counted) added cause h = absurd h
some_file a b x y lines damaged (Err refusals.StoreFault) (Err told) added cause h = fault_ends x y lines damaged told added h
some_file a b x y lines damaged (Err refusal) (Err told) added cause h = some_reported a b x y lines (Err refusal) (Err told) added cause h

-- ---- the answer over a table

pub told_reported : (is_damaged : Read → Bool) (answer : Answer) (table : Table) (made : List Read) (failed : Option Read) (x y : End) (found : Result Found Refusal)
    (result : Result Counts Refusal) → (found ≡ Err refusals.StoreFault → ⊥) → IsWritten is_damaged answer table made failed x y found → Reports found result
    → WritesOut answer x y result
told_reported is_damaged answer table made failed x y (Ok found) (Ok counted) none w h = (w.0, w.1)
told_reported is_damaged answer table made failed x y (Ok found) (Err told) none w h = whole_cut answer x y told h w.1
told_reported is_damaged answer table made failed x y (Err refusal) (Ok counted) none w h = absurd h
told_reported is_damaged answer table made failed x y (Err refusals.StoreFault) (Err told) none w h = absurd (none refl)
told_reported is_damaged answer table made failed x y (Err refusal) (Err told) none w h = ends_as answer x y refusal told h w

-- a read that failed by damage is of a damaged column; one that failed by a fault of the source may be so too
fault_told : (content : FileContent) (answer : Answer) (x y : End) (failed : Option Read) (damaged : List Read) (told : Refusal) (read : Read)
    → HasBytes content → AllByRecursion (folders.IsSpoilt content) damaged → DamagedOnce failed damaged → failed ≡ Some read
    → AddedPrefix x.bytes y.bytes answer.output
    → (is_damaged_in content read ≡ true → (answer.status ≡ 3) × Added x.bytes y.bytes answer.output)
    → IsFaultOf damaged told → WritesOut answer x y (Err told)
fault_told content answer x y failed [] told read here spoilt once last part whole is = ends_as answer x y refusals.Unread told is (part, tt)
fault_told content answer x y failed (first ∷ damaged) told read here spoilt (inl none) last part whole is = let no : ⊥ = cc in absurd no
fault_told content answer x y failed (first ∷ damaged) told read here spoilt (inr once) last part whole is =
    let same : once.0 ≡ read = same_Some once.0 read (sym once.1 ∙ last) in
    let own : first ∷ damaged ≡ read ∷ [] = once.2 ∙ ap (λ (r : Read). r ∷ []) same in
    let there = subst (AllByRecursion (folders.IsSpoilt content)) own spoilt in
    ends_as answer x y refusals.Damaged told is (whole ((damage_so content read here).1 there.0))

told_content : (content : FileContent) (answer : Answer) (table : Table) (made : List Read) (x y : End) (failed : Option Read) (damaged : List Read)
    (found : Result Found Refusal) (result : Result Counts Refusal) → HasBytes content → AllByRecursion (folders.IsSpoilt content) damaged
    → DamagedOnce failed damaged → IsWritten (is_damaged_in content) answer table made failed x y found → ReportsFile damaged found result
    → WritesOut answer x y result
told_content content answer table made x y failed damaged (Ok found) result here spoilt once w is =
    told_reported (is_damaged_in content) answer table made failed x y (Ok found) result (λ e. cc) w is
told_content content answer table made x y failed damaged (Err refusal) (Ok counted) here spoilt once w is = absurd is
told_content content answer table made x y failed damaged (Err refusals.StoreFault) (Err told) here spoilt once w is =
    fault_told content answer x y failed damaged told w.0 here spoilt once w.1 w.2 w.3 is
told_content content answer table made x y failed damaged (Err refusal) (Err told) here spoilt once w is =
    told_reported (is_damaged_in content) answer table made failed x y (Err refusal) (Err told) (λ e. cc) w is

-- ---- what files hold

-- what is left of files that hold this: these reads had values, this is the last that failed, and these failed by damage
pub record IsLeft (content : FileContent) (made : List Read) (failed : Option Read) (damaged : List Read) : Type 0 where
  pub bytes : HasBytes content
  pub sound : AllByRecursion (folders.IsSound content) made
  pub spoilt : AllByRecursion (folders.IsSpoilt content) damaged
  pub once : DamagedOnce failed damaged

held_told : (asked : Asked) (content : FileContent) (a b : StoreSeen) (x y : End) (damaged : List Read) (found : Result Found Refusal)
    (result : Result Counts Refusal) → a.held ≡ Some (held_table content) → a.zones ≡ content.zones → (h : AnswersStore asked a b x y found)
    → IsLeft content h.made b.failed damaged → ReportsFile damaged found result → WritesOut (content_answer asked content) x y result
held_told asked content a b x y damaged found result held zones h left is =
    let table = held_table content in
    let over = subst
    (λ (o : Option Table). WhereTold o
    (λ table. (is_damaged : Read → Bool) → list_any is_damaged h.made ≡ false
    → IsWritten is_damaged (answer_of is_damaged table a.zones asked) table h.made b.failed x y found))
    held h.told in
    let written = over (is_damaged_in content) (sound_undamaged content h.made left.bytes left.sound) in
    told_content content (content_answer asked content) table h.made x y b.failed damaged found result left.bytes left.spoilt left.once
    (subst (λ (z : Zones). IsWritten (is_damaged_in content) (answer_of (is_damaged_in content) table z asked) table h.made b.failed x y found) zones written)
    is

-- the answer over files that weren't read yet
pub content_answered : (asked : Asked) (held : Option FileContent) (a b : StoreSeen) (x y : End) (damaged : List Read) (found : Result Found Refusal)
    (result : Result Counts Refusal) → a.held ≡ option_map held_table held → WhereHeld held (λ content. a.zones ≡ content.zones)
    → (h : AnswersStore asked a b x y found) → WhereHeld held (λ content. IsLeft content h.made b.failed damaged)
    → ReportsFile damaged found result → AnswersContent asked held x y result
content_answered asked None a b x y damaged found result told zones h left is =
    record { some = some_file a b x y h.lines damaged found result h.added h.cause is; told = tt }
content_answered asked (Some content) a b x y damaged found result told zones h left is =
    record {
      some = some_file a b x y h.lines damaged found result h.added h.cause is;
      told = held_told asked content a b x y damaged found result told zones h left is;
    }

-- ---- a file that was opened

-- what is left of it
record IsLeftOf (s t : FileState) : Type 0 where
  header : t.header ≡ s.header
  bytes : t.bytes ≡ s.bytes
  once : DamagedOnce t.failed t.damaged

left_of : (s t : FileState) → IsUnread s → IsReadToFailure s t → IsLeftOf s t
left_of s t unread moves =
    let left = left_at_failure s t unread moves in
    record { header = left.same.header; bytes = left.same.bytes; once = left.damaged }

kept_here : (s t : FileState) (bytes : Bytes) → IsLeftOf s t → s.bytes ≡ Some bytes → WhereBytes t.bytes (IsKept t) → IsKept t bytes
kept_here s t bytes left told kept = subst (λ (o : Option Bytes). WhereBytes o (IsKept t)) (left.bytes ∙ told) kept

file_left : (s t : FileState) (bytes : Bytes) (made : List Read) → IsUnread s → t.reads ≡ s.reads ++ made → IsLeftOf s t → IsKept t bytes
    → IsLeft (content_at s.header bytes) made t.failed t.damaged
file_left s t bytes made unread grown left kept =
    let file : IsFileWith s.header bytes = subst (λ (g : Header). IsFileWith g bytes) left.header kept.file in
    let reads : t.reads ≡ made = grown ∙ ap (λ (rs : List Read). rs ++ made) unread.reads in
    record {
      bytes = joined_has_bytes (bytes ∷ []) (content_at s.header bytes) [] (file.are_bytes, tt) (file.opened, tt);
      sound = subst (AllByRecursion (IsSound s.header bytes)) reads
          (subst (λ (g : Header). AllByRecursion (IsSound g bytes) t.reads) left.header kept.sound);
      spoilt = subst (λ (g : Header). AllByRecursion (IsSpoilt g bytes) t.damaged) left.header kept.spoilt;
      once = left.once;
    }

held_so : (h : Header) (bytes : Option Bytes) → option_map (held_at h) bytes ≡ option_map held_table (content_told h bytes)
held_so h None = refl
held_so h (Some bytes) = refl

same_zones : (h : Header) (bytes : Option Bytes) → WhereHeld (content_told h bytes) (λ content. h.zones ≡ content.zones)
same_zones h None = tt
same_zones h (Some bytes) = refl

-- the answer over a file that wasn't read yet
pub file_answered : (asked : Asked) (s t : FileState) (x y : End) (found : Result Found Refusal) (result : Result Counts Refusal) → IsUnread s
    → IsReadToFailure s t → WhereBytes t.bytes (IsKept t) → AnswersStore asked (file_seen s) (file_seen t) x y found → ReportsFile t.damaged found result
    → AnswersFile asked s x y result
file_answered asked s t x y found result unread moves kept h is =
    content_answered asked (content_told s.header s.bytes) (file_seen s) (file_seen t) x y t.damaged found result (held_so s.header s.bytes)
    (same_zones s.header s.bytes) h (by s.bytes refl) is
  where
    left : IsLeftOf s t
    left = left_of s t unread moves

    by : (o : Option Bytes) → s.bytes ≡ o → WhereHeld (content_told s.header o) (λ content. IsLeft content h.made t.failed t.damaged)
    by None e = tt
    by (Some bytes) e = file_left s t bytes h.made unread h.grown left (kept_here s t bytes left e kept)

-- ---- how a read that failed is told

pub fault_some : (damaged : List Read) (read : Read) → Some read ≡ slice_get damaged 0 → IsFaultOf damaged refusals.Damaged
fault_some [] read h = let no : ⊥ = cc in absurd no
fault_some (first ∷ damaged) read h = refl

pub fault_none : (damaged : List Read) → None ≡ slice_get damaged 0 → IsFaultOf damaged refusals.Unread
fault_none [] h = refl
fault_none (first ∷ damaged) h = let no : ⊥ = cc in absurd no

pub told_same : (damaged : List Read) (refusal : Refusal) → (refusal ≡ refusals.StoreFault → ⊥) → IsToldBy damaged refusal refusal
told_same damaged refusals.StoreFault other = absurd (other refl)
told_same damaged refusal other = refl
