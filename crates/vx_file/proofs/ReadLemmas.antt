-- How a read of a block file ends, by what was found of its range and what it left.
use Rattle.std.proofs.Common.{◌≡◌, ◌⊎◌, inl, inr, refl, sym, ap, ◌∙◌, subst, ℕ, ◌+◌, ◌≤◌, Some, None, List, [], ◌∷◌, ◌++◌, length, length-append, arith}
use Rattle.std.specs.Prelude.{Result, Ok, Err}
use Rattle.std.proofs.lemmas.List.{append-nil}
use Rattle.vx_dtype.specs.Types.{Bytes}
use Rattle.vx_column.specs.Columns.{Column}
use Rattle.vx_column.specs.declared.columns.ColumnRef.{ColumnRef}
use Rattle.vx_laws_file.specs.Ranges.{IsReadAs}
use Rattle.vx_scan.specs.Stores.{Read, IsSameStore}
use Rattle.vx_scan.specs.declared.errors.StoreError.{StoreError}
use Rattle.vx_scan.specs.declared.errors.StoreError.TheVariants as errors
use Rattle.vx_file_open.specs.Layouts.{content_at, IsFileWith, WhereBytes}
use Rattle.vx_file_open.specs.ColumnAnswers.{IsColumnIn, IsRangeRead}
use Rattle.vx_file.specs.FileStates.{FileState, file_seen, IsSound, IsSpoilt, IsSameFile, HasGrown, IsLaterFile, FailsByFault, FailsByDamage, counted_to, after_read, after_damage, LeavesRead, LeavesFailed, IsReadOf}
use Rattle.vx_file.specs.FileMoves.{later_file}
use Rattle.vx_file.proofs.FileLemmas.{where_so, where_both, sound_is, spoilt_is, told_rows}

-- a file whose source counted no fault since is as it was
pub same_count : (s f : FileState) → f ≡ counted_to s f.count → f.count ≡ s.count → f ≡ s
same_count s f only quiet = only ∙ ap (counted_to s) quiet

same_when : (s t : FileState) → t.header ≡ s.header → t.bytes ≡ s.bytes → s.count ≤ t.count → length s.damaged ≤ length t.damaged → IsSameStore (file_seen s) (file_seen t)
same_when s t header bytes later longer = record {
  zones = ap (λ h. h.zones) header;
  held = λ i. (file_seen (record { header = header i; bytes = bytes i; count = t.count; reads = t.reads; failed = t.failed; damaged = t.damaged })).held;
  faultless = refl;
  later = omega (arith, later, longer);
  quiet = λ e. absurd cc;
}

same_file_when : (s t : FileState) → t.header ≡ s.header → t.bytes ≡ s.bytes → s.count ≤ t.count → IsSameFile s t
same_file_when s t header bytes later = record { header = header; bytes = bytes; later = later }

-- ---- what the entry of a read stands for

-- the entry of a pair whose column was read is sound
pub sound_entry : (s f : FileState) (r : Read) (block : ℕ) (name : Bytes) (c : Column) → r ≡ (block, name) → f ≡ s → WhereBytes s.bytes (IsFileWith s.header)
    → WhereBytes s.bytes (λ bytes. IsRangeRead (content_at s.header bytes) block name (Some c)) → WhereBytes f.bytes (λ bytes. IsSound f.header bytes r)
sound_entry s f r block name c entry same file range =
    subst (λ (g : FileState). WhereBytes g.bytes (λ bytes. IsSound g.header bytes r)) (sym same) (subst (λ (q : Read). WhereBytes s.bytes (λ bytes. IsSound s.header bytes q)) (sym entry)
    (where_both s.bytes (IsFileWith s.header) (λ bytes. IsRangeRead (content_at s.header bytes) block name (Some c)) (λ bytes. IsSound s.header bytes (block, name))
    (λ bytes w x. (c.rows, sound_is s.header bytes block name c w x)) file range))

-- that of one of which none was read is damaged
pub spoilt_entry : (s f : FileState) (r : Read) (block : ℕ) (name : Bytes) → r ≡ (block, name) → f ≡ s
    → WhereBytes s.bytes (λ bytes. IsRangeRead (content_at s.header bytes) block name None) → WhereBytes f.bytes (λ bytes. IsSpoilt f.header bytes r)
spoilt_entry s f r block name entry same range =
    subst (λ (g : FileState). WhereBytes g.bytes (λ bytes. IsSpoilt g.header bytes r)) (sym same) (subst (λ (q : Read). WhereBytes s.bytes (λ bytes. IsSpoilt s.header bytes q)) (sym entry)
    (where_so s.bytes (λ bytes. IsRangeRead (content_at s.header bytes) block name None) (λ bytes. IsSpoilt s.header bytes (block, name))
    (λ bytes x. spoilt_is s.header bytes block name x) range))

-- ---- how a read ends

-- without memory
pub ends_without : (s t : FileState) (block : ℕ) (name : Bytes) → t ≡ s → IsReadOf s t block name (Err errors.NoMemory)
ends_without s t block name is =
    subst (λ g. IsReadOf s g block name (Err errors.NoMemory)) (sym is) (record {
      same = same_when s s refl refl (omega arith) (omega arith);
      reads = (refl, refl);
      same_file = same_file_when s s refl refl (omega arith);
      file = refl;
    })

-- with a column
pub ends_in_column : (s f t : FileState) (r : Read) (block : ℕ) (name : Bytes) (c : Column) (answer : Result ColumnRef StoreError) → r ≡ (block, name) → f ≡ s
    → WhereBytes s.bytes (IsFileWith s.header) → IsColumnIn s.header.zones block name c → WhereBytes s.bytes (λ bytes. IsRangeRead (content_at s.header bytes) block name (Some c))
    → LeavesRead f t r c answer → IsReadOf s t block name answer
ends_in_column s f t r block name c (Ok d) entry same file here range left =
    let meant = after_read s (block, name) in
    let is : t ≡ meant = left.1 ∙ ap (λ (g : FileState). after_read g r) same ∙ ap (after_read s) entry in
    subst (λ g. IsReadOf s g block name (Ok d)) (sym is) (subst (λ e. IsReadOf s meant block name (Ok e)) (sym left.0) (record {
      same = same_when s meant refl refl (omega arith) (omega arith);
      reads = (record { ty = here.ty; len = here.len; rows = told_rows s.header s.bytes block name c file range }, refl, refl);
      same_file = same_file_when s meant refl refl (omega arith);
      file = record {
        same = refl;
        damaged = refl;
        values =
            where_both s.bytes (IsFileWith s.header) (λ bytes. IsRangeRead (content_at s.header bytes) block name (Some c))
            (λ bytes. IsReadAs (content_at s.header bytes) block name c.rows) (λ bytes w x. sound_is s.header bytes block name c w x) file range;
      };
    }))
ends_in_column s f t r block name c (Err errors.Failed) entry same file here range left = absurd left
ends_in_column s f t r block name c (Err errors.NoMemory) entry same file here range left = ends_without s t block name (left ∙ same)

-- by damage
pub ends_in_damage : (s f t : FileState) (r : Read) (block : ℕ) (name : Bytes) (answer : Result ColumnRef StoreError) → r ≡ (block, name) → f ≡ s
    → WhereBytes s.bytes (λ bytes. IsRangeRead (content_at s.header bytes) block name None) → LeavesFailed (after_damage f r) f t answer → IsReadOf s t block name answer
ends_in_damage s f t r block name (Ok c) entry same range left = absurd left
ends_in_damage s f t r block name (Err errors.Failed) entry same range left =
    let meant = after_damage s (block, name) in
    let is : t ≡ meant = left ∙ ap (λ (g : FileState). after_damage g r) same ∙ ap (after_damage s) entry in
    let more : length (s.damaged ++ (block, name) ∷ []) ≡ length s.damaged + 1 = length-append s.damaged ((block, name) ∷ []) in
    subst (λ g. IsReadOf s g block name (Err errors.Failed)) (sym is) (record {
      same = same_when s meant refl refl (omega arith) (omega (arith, more));
      reads = (omega (arith, more), refl, refl);
      same_file = same_file_when s meant refl refl (omega arith);
      file = inr (record { same = refl; damaged = refl; spoilt = spoilt_entry s s (block, name) block name refl refl range });
    })
ends_in_damage s f t r block name (Err errors.NoMemory) entry same range left = ends_without s t block name (left ∙ same)

-- ---- what a read makes of the file

grown_when_same : (before after : List Read) → after ≡ before → HasGrown before after
grown_when_same before after e = ([], e ∙ sym (append-nil before))

more_damaged : (s t : FileState) (read : Read) → FailsByFault s t ⊎ FailsByDamage s t read → HasGrown s.damaged t.damaged
more_damaged s t read (inl h) = grown_when_same s.damaged t.damaged h.damaged
more_damaged s t read (inr h) = (read ∷ [], h.damaged)

pub later_by_read : (s t : FileState) (block : ℕ) (name : Bytes) (answer : Result ColumnRef StoreError) → IsReadOf s t block name answer → IsLaterFile s t
later_by_read s t block name (Ok c) h =
    record { same = h.same_file; reads = ((block, name) ∷ [], h.reads.1); damaged = grown_when_same s.damaged t.damaged h.file.damaged }
later_by_read s t block name (Err errors.Failed) h =
    record { same = h.same_file; reads = grown_when_same s.reads t.reads h.reads.1; damaged = more_damaged s t (block, name) h.file }
later_by_read s t block name (Err errors.NoMemory) h = subst (λ (u : FileState). IsLaterFile s u) (sym h.file) (later_file s)
