-- What is known of files by what their paths lead to.
use Rattle.std.proofs.Common.{◌≡◌, refl, sym, ap, ◌∙◌, subst, ℕ, zero, suc, Option, Some, None, List, [], ◌∷◌, ◌++◌, map, slice_get}
use Rattle.std.specs.Prelude.{Result, Ok, Err}
use Rattle.std.specs.List.{AllByRecursion}
use Rattle.std.specs.Result.{result_ok}
use Rattle.std.proofs.lemmas.Option.{same_Some, none-some}
use Rattle.vx_dtype.specs.Types.{Bytes}
use Rattle.vx_files.specs.Kept as files
use Rattle.vx_laws_file.specs.FileForms.{FileContent}
use Rattle.vx_laws_file.specs.FileLaws.{AreBytes}
use Rattle.vx_laws_file.specs.FileReading.{opened_of, IsFileAnswer}
use Rattle.vx_laws_file.specs.Opening.{IsOpened, FileRefusal}
use Rattle.vx_laws_file.proofs.HeaderReaders.{answer_is_computed}
use Rattle.vx_laws_file.proofs.Openings.{one_content, opened_is_not_refused}
use Rattle.vx_file_open.specs.Layouts.{WhereBytes}
use Rattle.vx_laws_shell.specs.Paths.{WhereEachKept}
use Rattle.vx_laws_shell.specs.FolderContents.{AreOpened}
use Rattle.vx_laws_shell.specs.Paths.{Kept, unknown, absent, holds, WhereKept}
use Rattle.vx_folder.specs.PathViews.{kept_view}
use Rattle.vx_folder.specs.FolderParts.{content_in, content_kept, with_content, contents_kept}

-- ---- one more file

pub where_each_so : (ks : List Kept) (P Q : List Bytes → Type 0) → ((read : List Bytes) → P read → Q read) → WhereEachKept ks P → WhereEachKept ks Q
where_each_so [] P Q so h = so [] h
where_each_so (unknown ∷ ks) P Q so h = tt
where_each_so (absent ∷ ks) P Q so h = absurd h
where_each_so (holds bytes ∷ ks) P Q so h = where_each_so ks (λ read. P (bytes ∷ read)) (λ read. Q (bytes ∷ read)) (λ read. so (bytes ∷ read)) h

pub where_kept_so : (k : Kept) (Q : Bytes → Type 0) (R : List Bytes → Type 0) → ((bytes : Bytes) → Q bytes → R (bytes ∷ [])) → WhereKept k Q → WhereEachKept (k ∷ []) R
where_kept_so unknown Q R so h = tt
where_kept_so absent Q R so h = absurd h
where_kept_so (holds bytes) Q R so h = so bytes h

pub where_each_more : (ks : List Kept) (k : Kept) (P : List Bytes → Type 0) (Q : Bytes → Type 0) (R : List Bytes → Type 0)
    → ((read : List Bytes) (bytes : Bytes) → P read → Q bytes → R (read ++ bytes ∷ [])) → WhereEachKept ks P → WhereKept k Q → WhereEachKept (ks ++ k ∷ []) R
where_each_more [] k P Q R so h q = where_kept_so k Q R (λ bytes. so [] bytes h) q
where_each_more (unknown ∷ ks) k P Q R so h q = tt
where_each_more (absent ∷ ks) k P Q R so h q = absurd h
where_each_more (holds bytes ∷ ks) k P Q R so h q =
    where_each_more ks k (λ read. P (bytes ∷ read)) Q (λ read. R (bytes ∷ read)) (λ read. so (bytes ∷ read)) h q

-- ---- what is held

by_answer : (bytes : Bytes) (content : FileContent) (answer : Result FileContent FileRefusal) → IsFileAnswer bytes answer → IsOpened bytes content → result_ok answer ≡ Some content
by_answer bytes content (Ok other) told opened = ap Some (one_content bytes other content told opened)
by_answer bytes content (Err r) told opened = absurd (opened_is_not_refused bytes content r opened told)

-- bytes hold what they are opened as
pub content_is : (bytes : Bytes) (content : FileContent) → AreBytes bytes → IsOpened bytes content → content_in bytes ≡ Some content
content_is bytes content are opened = by_answer bytes content (opened_of bytes) (answer_is_computed bytes are) opened

-- what files hold, one by one
pub contents_are : (read : List Bytes) (contents : List FileContent) → AllByRecursion AreBytes read → AreOpened read contents
    → contents_kept (map holds read) ≡ Some contents
contents_are [] [] are opened = refl
contents_are [] (content ∷ contents) are opened = absurd opened
contents_are (bytes ∷ read) [] are opened = absurd opened
contents_are (bytes ∷ read) (content ∷ contents) are opened =
    let own = content_is bytes content are.0 opened.0 in
    let others = contents_are read contents are.1 opened.1 in
    λ i. with_content (own i) (others i)

-- what both hold, where it is known of both
pub record AreBoth (o : Option FileContent) (os : Option (List FileContent)) (contents : List FileContent) : Type 0 where
  pub first : FileContent
  pub others : List FileContent
  pub own : o ≡ Some first
  pub rest : os ≡ Some others
  pub both : contents ≡ first ∷ others

both_of : (o : Option FileContent) (os : Option (List FileContent)) (contents : List FileContent) → with_content o os ≡ Some contents → AreBoth o os contents
both_of None os contents e = absurd (none-some contents e)
both_of (Some first) None contents e = absurd (none-some contents e)
both_of (Some first) (Some others) contents e =
    record { first = first; others = others; own = refl; rest = refl; both = sym (same_Some (first ∷ others) contents e) }

-- where it is known what a path leads to holds, it is bytes that hold this
pub record IsKnown (k : Kept) (content : FileContent) : Type 0 where
  pub bytes : Bytes
  pub kept : k ≡ holds bytes
  pub holds_it : content_in bytes ≡ Some content

known_of : (k : Kept) (content : FileContent) → content_kept k ≡ Some content → IsKnown k content
known_of unknown content e = absurd (none-some content e)
known_of absent content e = absurd (none-some content e)
known_of (holds bytes) content e = record { bytes = bytes; kept = refl; holds_it = e }

-- what the file of a number holds
pub record IsKnownAt (contents : List FileContent) (number : ℕ) (k : Kept) : Type 0 where
  pub content : FileContent
  pub there : slice_get contents number ≡ Some content
  pub known : IsKnown k content

pub known_at : (ks : List Kept) (contents : List FileContent) (number : ℕ) (k : Kept) → contents_kept ks ≡ Some contents → slice_get ks number ≡ Some k → IsKnownAt contents number k
known_at [] contents number k e at = absurd (none-some k at)
known_at (first ∷ ks) contents zero k e at =
    let both = both_of (content_kept first) (contents_kept ks) contents e in
    let is = same_Some first k at in
    record {
      content = both.first;
      there = ap (λ (cs : List FileContent). slice_get cs 0) both.both;
      known = known_of k both.first (ap content_kept (sym is) ∙ both.own);
    }
known_at (first ∷ ks) contents (suc number) k e at =
    let both = both_of (content_kept first) (contents_kept ks) contents e in
    let rest = known_at ks both.others number k both.rest at in
    record { content = rest.content; there = ap (λ (cs : List FileContent). slice_get cs (suc number)) both.both ∙ rest.there; known = rest.known }

-- where it is known of each what it holds, each is bytes, of which holds what holds of them
pub record AreKnown (ks : List Kept) (P : List Bytes → Type 0) : Type 0 where
  pub read : List Bytes
  pub kept : ks ≡ map holds read
  pub holds_so : P read

pub all_known : (ks : List Kept) (contents : List FileContent) (P : List Bytes → Type 0) → contents_kept ks ≡ Some contents → WhereEachKept ks P → AreKnown ks P
all_known [] contents P e h = record { read = []; kept = refl; holds_so = h }
all_known (unknown ∷ ks) contents P e h = absurd (none-some contents e)
all_known (absent ∷ ks) contents P e h = absurd h
all_known (holds bytes ∷ ks) contents P e h =
    let both = both_of (content_in bytes) (contents_kept ks) contents e in
    let rest = all_known ks both.others (λ read. P (bytes ∷ read)) both.rest h in
    record { read = bytes ∷ rest.read; kept = ap (λ (others : List Kept). holds bytes ∷ others) rest.kept; holds_so = rest.holds_so }

-- ---- sources

-- the source of a file whose path leads to bytes tells these
pub told_bytes : (k : files.Kept) (told : Option Bytes) (bytes : Bytes) → files.IsOpenedAs k told → kept_view k ≡ holds bytes → told ≡ Some bytes
told_bytes files.unknown told bytes opened e = absurd cc
told_bytes files.absent told bytes opened e = absurd opened
told_bytes (files.holds own) told bytes opened e = let same : own ≡ bytes = cc in opened ∙ ap Some same

-- what holds of what a source tells holds where it is known what its path leads to
pub where_told : (k : files.Kept) (told : Option Bytes) (P : Bytes → Type 0) → files.IsOpenedAs k told → WhereBytes told P → WhereKept (kept_view k) P
where_told files.unknown told P opened h = tt
where_told files.absent told P opened h = absurd opened
where_told (files.holds bytes) told P opened h = subst (λ (o : Option Bytes). WhereBytes o P) opened h
