-- How a read of a folder ends, by what was found of its range and what it left.
use Rattle.std.proofs.Common.{◌≡◌, ◌⊎◌, inl, inr, refl, sym, ap, ◌∙◌, subst, ℕ, ◌+◌, ◌≤◌, Some, None, Option, List, [], ◌∷◌, ◌++◌, length, length-append, arith}
use Rattle.std.specs.Prelude.{Result, Ok, Err}
use Rattle.std.proofs.lemmas.List.{append-nil}
use Rattle.vx_dtype.specs.Types.{Bytes}
use Rattle.vx_column.specs.Columns.{Column}
use Rattle.vx_column.specs.declared.columns.ColumnRef.{ColumnRef}
use Rattle.vx_io.specs.Counts.{one_more}
use Rattle.vx_laws_file.specs.Ranges.{IsReadAs}
use Rattle.vx_scan.specs.Stores.{Read, IsSameStore}
use Rattle.vx_scan.specs.declared.errors.StoreError.{StoreError}
use Rattle.vx_scan.specs.declared.errors.StoreError.TheVariants as errors
use Rattle.vx_file_open.specs.ColumnAnswers.{IsColumnIn, IsRangeRead}
use Rattle.vx_folder.specs.FolderStates.{FolderState, folder_seen, WhereHeld, IsKeptFolder, IsSound, IsSpoilt, HasGrown, IsLaterFolder, FailsByFault, FailsByDamage, IsUnfailed, FailsOnce, FailsAtMostOnce, IsReadFolder, after_read, after_fault, after_damage, LeavesRead, LeavesFailed, IsReadOf}
use Rattle.vx_folder.specs.FolderMoves.{later_folder}
use Rattle.vx_folder.proofs.FolderLemmas.{where_so, where_both, sound_is, spoilt_is, told_rows}

same_when : (s t : FolderState) → t.zones ≡ s.zones → t.content ≡ s.content → s.count ≤ t.count → length s.damaged ≤ length t.damaged → IsSameStore (folder_seen s) (folder_seen t)
same_when s t zones content later longer = record {
  zones = zones;
  held = λ i. (folder_seen (record { zones = zones i; content = content i; count = t.count; reads = t.reads; failed = t.failed; damaged = t.damaged })).held;
  faultless = refl;
  later = omega (arith, later, longer);
  quiet = λ e. absurd cc;
}

-- ---- what the entry of a read stands for

-- the entry of a pair whose column was read is sound
pub sound_entry : (s f : FolderState) (r : Read) (block : ℕ) (name : Bytes) (c : Column) → r ≡ (block, name) → f ≡ s → WhereHeld s.content (IsKeptFolder s)
    → WhereHeld s.content (λ content. IsRangeRead content block name (Some c)) → WhereHeld f.content (λ content. IsSound content r)
sound_entry s f r block name c entry same kept range =
    subst (λ (g : FolderState). WhereHeld g.content (λ content. IsSound content r)) (sym same)
    (subst (λ (q : Read). WhereHeld s.content (λ content. IsSound content q)) (sym entry)
    (where_both s.content (IsKeptFolder s) (λ content. IsRangeRead content block name (Some c)) (λ content. IsSound content (block, name))
    (λ content w x. (c.rows, sound_is content block name c w.files x)) kept range))

-- that of one of which none was read is damaged
pub spoilt_entry : (s f : FolderState) (r : Read) (block : ℕ) (name : Bytes) → r ≡ (block, name) → f ≡ s
    → WhereHeld s.content (λ content. IsRangeRead content block name None) → WhereHeld f.content (λ content. IsSpoilt content r)
spoilt_entry s f r block name entry same range =
    subst (λ (g : FolderState). WhereHeld g.content (λ content. IsSpoilt content r)) (sym same)
    (subst (λ (q : Read). WhereHeld s.content (λ content. IsSpoilt content q)) (sym entry)
    (where_so s.content (λ content. IsRangeRead content block name None) (λ content. IsSpoilt content (block, name))
    (λ content x. spoilt_is content block name x) range))

-- ---- how a read ends

-- without memory
pub ends_without : (s t : FolderState) (block : ℕ) (name : Bytes) → t ≡ s → IsReadOf s t block name (Err errors.NoMemory)
ends_without s t block name is =
    subst (λ g. IsReadOf s g block name (Err errors.NoMemory)) (sym is) (record {
      same = same_when s s refl refl (omega arith) (omega arith);
      reads = (refl, refl);
      same_folder = record { zones = refl; content = refl; later = omega arith };
      folder = refl;
    })

-- with a column
pub ends_in_column : (s f t : FolderState) (r : Read) (block : ℕ) (name : Bytes) (c : Column) (answer : Result ColumnRef StoreError) → r ≡ (block, name) → f ≡ s
    → WhereHeld s.content (IsKeptFolder s) → IsColumnIn s.zones block name c → WhereHeld s.content (λ content. IsRangeRead content block name (Some c))
    → LeavesRead f t r c answer → IsReadOf s t block name answer
ends_in_column s f t r block name c (Ok d) entry same kept here range left =
    let meant = after_read s (block, name) in
    let is : t ≡ meant = left.1 ∙ ap (λ (g : FolderState). after_read g r) same ∙ ap (after_read s) entry in
    subst (λ g. IsReadOf s g block name (Ok d)) (sym is) (subst (λ e. IsReadOf s meant block name (Ok e)) (sym left.0) (record {
      same = same_when s meant refl refl (omega arith) (omega arith);
      reads = (record { ty = here.ty; len = here.len; rows = told_rows s s.content block name c kept range }, refl, refl);
      same_folder = record { zones = refl; content = refl; later = omega arith };
      folder = record {
        same = refl;
        damaged = refl;
        values =
            where_both s.content (IsKeptFolder s) (λ content. IsRangeRead content block name (Some c))
            (λ content. IsReadAs content block name c.rows) (λ content w x. sound_is content block name c w.files x) kept range;
      };
    }))
ends_in_column s f t r block name c (Err errors.Failed) entry same kept here range left = absurd left
ends_in_column s f t r block name c (Err errors.NoMemory) entry same kept here range left = ends_without s t block name (left ∙ same)

-- by damage
pub ends_in_damage : (s f t : FolderState) (r : Read) (block : ℕ) (name : Bytes) (answer : Result ColumnRef StoreError) → r ≡ (block, name) → f ≡ s
    → WhereHeld s.content (λ content. IsRangeRead content block name None) → LeavesFailed (after_damage f r) f t answer → IsReadOf s t block name answer
ends_in_damage s f t r block name (Ok c) entry same range left = absurd left
ends_in_damage s f t r block name (Err errors.Failed) entry same range left =
    let meant = after_damage s (block, name) in
    let is : t ≡ meant = left ∙ ap (λ (g : FolderState). after_damage g r) same ∙ ap (after_damage s) entry in
    let more : length (s.damaged ++ (block, name) ∷ []) ≡ length s.damaged + 1 = length-append s.damaged ((block, name) ∷ []) in
    subst (λ g. IsReadOf s g block name (Err errors.Failed)) (sym is) (record {
      same = same_when s meant refl refl (omega arith) (omega (arith, more));
      reads = (omega (arith, more), refl, refl);
      same_folder = record { zones = refl; content = refl; later = omega arith };
      folder = inr (record { same = refl; damaged = refl; spoilt = spoilt_entry s s (block, name) block name refl refl range });
    })
ends_in_damage s f t r block name (Err errors.NoMemory) entry same range left = ends_without s t block name (left ∙ same)

-- by a fault
pub ends_in_fault : (s f t : FolderState) (r : Read) (block : ℕ) (name : Bytes) → s.count ≤ one_more s.count → r ≡ (block, name) → f ≡ s → t ≡ after_fault f r
    → IsReadOf s t block name (Err errors.Failed)
ends_in_fault s f t r block name rises entry same left =
    let meant = after_fault s (block, name) in
    let is : t ≡ meant = left ∙ ap (λ (g : FolderState). after_fault g r) same ∙ ap (after_fault s) entry in
    subst (λ g. IsReadOf s g block name (Err errors.Failed)) (sym is) (record {
      same = same_when s meant refl refl rises (omega arith);
      reads = (omega arith, refl, refl);
      same_folder = record { zones = refl; content = refl; later = rises };
      folder = inl (record { risen = omega arith; damaged = refl });
    })

-- ---- what a read makes of the folder

grown_when_same : (before after : List Read) → after ≡ before → HasGrown before after
grown_when_same before after e = ([], e ∙ sym (append-nil before))

more_damaged : (s t : FolderState) (read : Read) → FailsByFault s t ⊎ FailsByDamage s t read → HasGrown s.damaged t.damaged
more_damaged s t read (inl h) = grown_when_same s.damaged t.damaged h.damaged
more_damaged s t read (inr h) = (read ∷ [], h.damaged)

later_by_read : (s t : FolderState) (block : ℕ) (name : Bytes) (answer : Result ColumnRef StoreError) → IsReadOf s t block name answer → IsLaterFolder s t
later_by_read s t block name (Ok c) h =
    record { same = h.same_folder; reads = ((block, name) ∷ [], h.reads.1); damaged = grown_when_same s.damaged t.damaged h.folder.damaged }
later_by_read s t block name (Err errors.Failed) h =
    record { same = h.same_folder; reads = grown_when_same s.reads t.reads h.reads.1; damaged = more_damaged s t (block, name) h.folder }
later_by_read s t block name (Err errors.NoMemory) h = subst (λ (u : FolderState). IsLaterFolder s u) (sym h.folder) (later_folder s)

once_by_read : (s t : FolderState) (block : ℕ) (name : Bytes) (answer : Result ColumnRef StoreError) → s.failed ≡ None → IsReadOf s t block name answer
    → IsUnfailed s t ⊎ FailsOnce s t
once_by_read s t block name (Ok c) unfailed h =
    inl (record { failed = h.reads.2 ∙ unfailed; count = h.folder.same; damaged = h.folder.damaged })
once_by_read s t block name (Err errors.Failed) unfailed h = inr (record { read = (block, name); failed = h.reads.2; cause = h.folder })
once_by_read s t block name (Err errors.NoMemory) unfailed h =
    inl (record {
      failed = ap (λ (u : FolderState). u.failed) h.folder ∙ unfailed;
      count = ap (λ (u : FolderState). u.count) h.folder;
      damaged = ap (λ (u : FolderState). u.damaged) h.folder;
    })

pub read_by_read : (s t : FolderState) (block : ℕ) (name : Bytes) (answer : Result ColumnRef StoreError) → s.failed ≡ None → IsReadOf s t block name answer
    → IsReadFolder s t
read_by_read s t block name answer unfailed h = record {
  later = later_by_read s t block name answer h;
  once = subst (λ (o : Option Read). FailsAtMostOnce o s t) (sym unfailed) (once_by_read s t block name answer unfailed h);
}
