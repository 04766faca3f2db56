-- What a run over the block files of a folder is, by what their parts answer.
use Rattle.std.proofs.Common.{◌≡◌, refl, ap, sym, ◌∙◌, subst, ◌⊎◌, inl, inr, Option, Some, None, Result, List, [], ◌∷◌, ◌++◌}
use Rattle.std.specs.List.{AllByRecursion}
use Rattle.std.specs.String.{string_bytes}
use Rattle.std.proofs.lemmas.Option.{none-some, same_Some}
use Rattle.vx_dtype.specs.Types.{Bytes}
use Rattle.vx_laws_file.specs.FileForms.{FileContent}
use Rattle.vx_laws_file.specs.Opening.{FileRefusal, bad_magic}
use Rattle.vx_laws_shell.specs.Answers.{Answer}
use Rattle.vx_laws_shell.specs.Paths.{Kept, unknown, absent, holds, Listed, unlisted, no_folder, lists, Paths, WhereEachKept, WhereListed}
use Rattle.vx_laws_shell.specs.FolderContents.{AreFileNames, WhereFiles, contents_joined, kept_in}
use Rattle.vx_laws_shell.specs.FolderContents.{FolderFault, no_file, unopened_file, no_block_file, unlike_file, too_many_blocks, IsFolderFault}
use Rattle.vx_laws_shell.specs.Origins.{folder, origin_of}
use Rattle.vx_laws_shell.specs.Running.{AskOf, End, IsAnswerOfFiles, IsShellRun, mixed, fault_status, unopened}
use Rattle.vx_laws_shell.specs.Words.{Asked}
use Rattle.vx_laws_shell.proofs.Damage.{HasBytes}
use Rattle.vx_laws_shell.proofs.FolderContents.{joined_has_bytes}
use Rattle.vx_scan.specs.Stores.{Read}
use Rattle.vx_file_open.specs.OpenAnswers.{refusal_of}
use Rattle.vx_file_scan.specs.FileScans.{DamagedOnce}
use Rattle.vx_folder.specs.FolderAnswers.{HoldsFiles, OpensFolder, TellsRefusal, IsRefusedFolder}
use Rattle.vx_folder.specs.FolderStates.{FolderState, WhereHeld, folder_seen, IsSound, IsKeptFolder, IsNewFolder, FailsByFault, FailsByDamage, IsUnfailed, FailsOnce, FailsAtMostOnce, IsReadFolder}
use Rattle.vx_folder.specs.declared.errors.FolderError.{FolderError}
use Rattle.vx_folder.specs.declared.errors.FolderError.TheVariants as folders
use Rattle.vx_shell.specs.declared.answers.Found.{Found}
use Rattle.vx_shell.specs.declared.counting.Counts.{Counts}
use Rattle.vx_shell.specs.declared.errors.Refusal.{Refusal}
use Rattle.vx_shell.specs.FileRuns.{WritesOut, ReportsFile, AnswersContent, content_answer}
use Rattle.vx_shell.specs.Founds.{AnswersStore}
use Rattle.vx_shell.specs.Refusals.{RefusalKind, kind_status, result_status, IsSettled, IsFolderRefusal}
use Rattle.vx_shell.proofs.FileRuns.{IsLeft, content_answered}
use Rattle.vx_shell.proofs.ShellRuns.{unready_file, no_room_run, some_folder, asks_folder, answered_run, settled_run}

-- ---- files that were opened

-- no read failed by damage, or the one that failed last did and no other
damaged_once : (s t : FolderState) → IsNewFolder s → IsReadFolder s t → DamagedOnce t.failed t.damaged
damaged_once s t new moves = by (subst (λ (o : Option Read). FailsAtMostOnce o s t) new.failed moves.once)
  where
    by-cause : (read : Read) → t.failed ≡ Some read → FailsByFault s t ⊎ FailsByDamage s t read → DamagedOnce t.failed t.damaged
    by-cause read last (inl k) = inl (k.damaged ∙ new.damaged)
    by-cause read last (inr k) = inr (read, last, k.damaged ∙ ap (λ (rs : List Read). rs ++ read ∷ []) new.damaged)

    by : IsUnfailed s t ⊎ FailsOnce s t → DamagedOnce t.failed t.damaged
    by (inl h) = inl (h.damaged ∙ new.damaged)
    by (inr h) = by-cause h.read h.failed h.cause

-- what is left of them
folder_left : (s t : FolderState) (content : FileContent) (made : List Read) → IsNewFolder s → IsReadFolder s t → t.reads ≡ s.reads ++ made
    → IsKeptFolder t content → IsLeft content made t.failed t.damaged
folder_left s t content made new moves grown kept =
    let files = kept.files in
    let reads : t.reads ≡ made = grown ∙ ap (λ (rs : List Read). rs ++ made) new.reads in
    record {
      bytes = subst HasBytes (sym files.content_is) (joined_has_bytes files.files files.first files.contents files.are_bytes files.together.opened);
      sound = subst (AllByRecursion (IsSound content)) reads kept.sound;
      spoilt = kept.spoilt;
      once = damaged_once s t new moves;
    }

-- the answer over the files of a folder that weren't read yet
pub folder_answered : (asked : Asked) (s t : FolderState) (x y : End) (found : Result Found Refusal) (result : Result Counts Refusal) → IsNewFolder s
    → IsReadFolder s t → WhereHeld t.content (IsKeptFolder t) → AnswersStore asked (folder_seen s) (folder_seen t) x y found
    → ReportsFile t.damaged found result → AnswersContent asked s.content x y result
folder_answered asked s t x y found result new moves kept h is =
    content_answered asked s.content (folder_seen s) (folder_seen t) x y t.damaged found result refl (zones s.content refl) h (left s.content refl) is
  where
    here : (content : FileContent) → s.content ≡ Some content → IsKeptFolder t content
    here content e = subst (λ (o : Option FileContent). WhereHeld o (IsKeptFolder t)) (moves.later.same.content ∙ e) kept

    zones : (o : Option FileContent) → s.content ≡ o → WhereHeld o (λ content. s.zones ≡ content.zones)
    zones None e = tt
    zones (Some content) e = let kept_so = here content e in sym (kept_so.zones ∙ moves.later.same.zones)

    left : (o : Option FileContent) → s.content ≡ o → WhereHeld o (λ content. IsLeft content h.made t.failed t.damaged)
    left None e = tt
    left (Some content) e = folder_left s t content h.made new moves h.grown (here content e)

-- ---- what holds of files

each_kept_so : (kept : List Kept) (P Q : List Bytes → Type 0) → ((files : List Bytes) → P files → Q files) → WhereEachKept kept P → WhereEachKept kept Q
each_kept_so [] P Q f h = f [] h
each_kept_so (unknown ∷ kept) P Q f h = tt
each_kept_so (absent ∷ kept) P Q f h = h
each_kept_so (holds bytes ∷ kept) P Q f h =
    each_kept_so kept (λ files. P (bytes ∷ files)) (λ files. Q (bytes ∷ files)) (λ files. f (bytes ∷ files)) h

listed_so : (listed : Listed) (P Q : List Bytes → Type 0) → ((names : List Bytes) → P names → Q names) → WhereListed listed P → WhereListed listed Q
listed_so unlisted P Q f h = tt
listed_so no_folder P Q f h = h
listed_so (lists names) P Q f h = f names h

files_so : (paths : Paths) (path : Bytes) (P Q : List Bytes → Type 0) → ((names : List Bytes) → P names → Q names) → WhereFiles paths path P
    → WhereFiles paths path Q
files_so paths path P Q f h =
    listed_so (paths.listed path) (λ listed. (names : List Bytes) × AreFileNames listed names × P names)
    (λ listed. (names : List Bytes) × AreFileNames listed names × Q names) (λ listed g. (g.0, g.1, f g.0 g.2)) h

-- ---- answers

module _ (words : List Bytes) (paths : Paths) (i o p : End) (asked : Asked) (name path : Bytes) (asks : AskOf words asked name)
    (origin : origin_of name ≡ folder path) where
  answered_so : (answer : Answer) (result : Result Counts Refusal)
      → WhereFiles paths path (λ names. WhereEachKept (kept_in paths.kept path names) (IsAnswerOfFiles asked answer)) → WritesOut answer o p result
      → IsShellRun words paths i i o p (result_status result)
  answered_so answer result is writes =
      answered_run words paths i o p answer result (inr (inr (asked, path, asks_folder words i asked name path asks origin, is)))
      (some_folder words asked name path asks origin) writes

  -- what files hold together, as the answer over it
  answer_held : (answer : Answer) (s : FolderState)
      → ((first : FileContent) (contents : List FileContent) → s.content ≡ Some (contents_joined first contents)
      → answer ≡ content_answer asked (contents_joined first contents))
      → OpensFolder paths path s → WhereFiles paths path (λ names. WhereEachKept (kept_in paths.kept path names) (IsAnswerOfFiles asked answer))
  answer_held answer s same h =
      files_so paths path (λ names. WhereEachKept (kept_in paths.kept path names) (HoldsFiles s.content))
      (λ names. WhereEachKept (kept_in paths.kept path names) (IsAnswerOfFiles asked answer))
      (λ names. each_kept_so (kept_in paths.kept path names) (HoldsFiles s.content) (IsAnswerOfFiles asked answer)
      (λ files k. record { first = k.first; contents = k.contents; together = k.together; answer_is = same k.first k.contents k.content_is }))
      h

  pub folder_run : (s : FolderState) (result : Result Counts Refusal) → OpensFolder paths path s → AnswersContent asked s.content o p result
      → IsShellRun words paths i i o p (result_status result)
  folder_run s result is h = by s.content refl h.told
    where
      by : (held : Option FileContent) → s.content ≡ held → WhereHeld held (λ content. WritesOut (content_answer asked content) o p result)
          → IsShellRun words paths i i o p (result_status result)
      by None e told =
          answered_so h.some.0 result
          (answer_held h.some.0 s (λ first contents k. absurd (none-some (contents_joined first contents) (sym e ∙ k))) is) h.some.1
      by (Some content) e told =
          answered_so (content_answer asked content) result
          (answer_held (content_answer asked content) s
          (λ first contents k. ap (content_answer asked) (same_Some content (contents_joined first contents) (sym e ∙ k))) is) told

-- ---- refusals

module _ (words : List Bytes) (paths : Paths) (i o : End) (asked : Asked) (name path : Bytes) (asks : AskOf words asked name)
    (origin : origin_of name ≡ folder path) where
  mixed_run : (fault : FolderFault) (kind : RefusalKind) → WhereFiles paths path (λ names. IsFolderFault paths.kept path names fault)
      → IsSettled (fault_status fault) kind → IsShellRun words paths i i o o (kind_status kind)
  mixed_run fault kind is h =
      settled_run words paths i o (mixed fault) kind (asked, path, asks_folder words i asked name path asks origin, is) refl h

  -- a file that is no block file, by the reason that an error tells
  no_block_file_run : (file : Bytes) (reason : Option FileRefusal) (kind : RefusalKind)
      → WhereFiles paths path (λ names. TellsRefusal reason (λ r. IsFolderFault paths.kept path names (no_block_file file r))) → IsSettled 3 kind
      → IsShellRun words paths i i o o (kind_status kind)
  no_block_file_run file None kind is h =
      mixed_run (no_block_file file bad_magic) kind
      (files_so paths path (λ names. ⊥) (λ names. IsFolderFault paths.kept path names (no_block_file file bad_magic)) (λ names no. absurd no) is) h
  no_block_file_run file (Some r) kind is h = mixed_run (no_block_file file r) kind is h

  pub refused_run : (error : FolderError) (kind : RefusalKind) → IsRefusedFolder paths path error → IsFolderRefusal error kind
      → IsShellRun words paths i i o o (kind_status kind)
  refused_run folders.NoMemory kind is h = no_room_run words paths i o kind h
  refused_run folders.ReadFault kind is h =
      subst (λ (k : RefusalKind). IsShellRun words paths i i o o (kind_status k)) (sym h)
      (unready_file words paths i o o (some_folder words asked name path asks origin) refl)
  refused_run folders.NotListed kind is h =
      settled_run words paths i o unopened kind (inr (asked, path, asks_folder words i asked name path asks origin, is)) refl h
  refused_run (folders.NotOpened file) kind is h = mixed_run (unopened_file (string_bytes file)) kind is h
  refused_run folders.NoFile kind is h = mixed_run no_file kind is h
  refused_run (folders.NoBlockFile file why) kind is h = no_block_file_run (string_bytes file) (refusal_of why) kind is h
  refused_run (folders.Unlike file) kind is h = mixed_run (unlike_file (string_bytes file)) kind is h
  refused_run folders.TooManyBlocks kind is h = mixed_run too_many_blocks kind is h
