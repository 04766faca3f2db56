-- How the block files of a folder are seen as one store, and what its reads answer and leave.
use Rattle.std.specs.Prelude.{◌≡◌, ◌⊎◌, ℕ, ◌+◌, ◌≤◌, false, List, [], ◌∷◌, ◌++◌, length, Option, Some, None, option_map, Result, Ok, Err}
use Rattle.std.specs.List.{AllByRecursion}
use Rattle.vx_dtype.specs.Types.{Bytes}
use Rattle.vx_dtype.specs.Values.{Val}
use Rattle.vx_column.specs.Columns.{Column}
use Rattle.vx_column.specs.declared.columns.ColumnRef.{ColumnRef}
use Rattle.vx_semantics.specs.Tables.{Zones}
use Rattle.vx_io.specs.Counts.{one_more}
use Rattle.vx_laws_file.specs.FileForms.{FileContent}
use Rattle.vx_laws_file.specs.FileLaws.{AreBytes}
use Rattle.vx_laws_file.specs.Ranges.{IsReadAs, IsDamaged}
use Rattle.vx_laws_file.specs.HeldTables.{held_table}
use Rattle.vx_scan.specs.Stores.{Read, StoreSeen, IsSameStore, Reads}
use Rattle.vx_scan.specs.declared.errors.StoreError.{StoreError}
use Rattle.vx_scan.specs.declared.errors.StoreError.TheVariants as errors
use Rattle.vx_laws_shell.specs.FolderContents.{contents_joined, HoldTogether}

-- the block files of a folder as one: their statistics; what they hold together, where it is known what each of them holds; how many faults were counted;
-- the reads that succeeded, in order; the last one that failed; and those that failed since their ranges are damaged, in order
pub record FolderState : Type 0 where
  pub zones : Zones
  pub content : Option FileContent
  pub count : ℕ
  pub reads : List Read
  pub failed : Option Read
  pub damaged : List Read

-- what holds of what is held, where it is known
abbrev pub WhereHeld : Option FileContent → (FileContent → Type 0) → Type 0
WhereHeld None P = Unit {0}
WhereHeld (Some content) P = P content

-- a folder as any store is seen: it tells the table that its files hold together where it is known what they hold, and a damaged range counts as a fault
abbrev pub folder_seen : FolderState → StoreSeen
folder_seen s =
    record {
      zones = s.zones;
      held = option_map held_table s.content;
      log = s.reads;
      faults = s.count + length s.damaged;
      failed = s.failed;
      faultless = false;
    }

-- the pair of a read is damaged in what is held
abbrev pub IsSpoilt : FileContent → Read → Type 0
IsSpoilt content read = IsDamaged content read.0 read.1

-- it is read as some values
abbrev pub IsSound : FileContent → Read → Type 0
IsSound content read = (values : List Val) × IsReadAs content read.0 read.1 values

-- some files hold this together, and what they are made of are bytes
pub record IsOfFiles (content : FileContent) : Type 0 where
  pub files : List Bytes
  pub first : FileContent
  pub contents : List FileContent
  pub are_bytes : AllByRecursion AreBytes files
  pub together : HoldTogether files first contents
  pub content_is : content ≡ contents_joined first contents

-- what holds of each folder where it is known what its files hold: the statistics are theirs, each read that succeeded is sound, and each that failed by
-- damage is damaged
pub record IsKeptFolder (s : FolderState) (content : FileContent) : Type 0 where
  pub files : IsOfFiles content
  pub zones : content.zones ≡ s.zones
  pub sound : AllByRecursion (IsSound content) s.reads
  pub spoilt : AllByRecursion (IsSpoilt content) s.damaged

-- a folder that was opened just now: no fault was counted, and nothing read
pub record IsNewFolder (s : FolderState) : Type 0 where
  pub count : s.count ≡ 0
  pub reads : s.reads ≡ []
  pub failed : s.failed ≡ None
  pub damaged : s.damaged ≡ []

-- no call changes the statistics and what is held, and the count never falls
pub record IsSameFolder (before after : FolderState) : Type 0 where
  pub zones : after.zones ≡ before.zones
  pub content : after.content ≡ before.content
  pub later : before.count ≤ after.count

-- a list of reads has grown at its end, or is as it was
abbrev pub HasGrown : List Read → List Read → Type 0
HasGrown before after = (more : List Read) × (after ≡ before ++ more)

-- what calls make of a folder: its statistics and what it holds stay, the count never falls, and the reads that succeeded, and those that failed by damage,
-- grow at their ends
pub record IsLaterFolder (before after : FolderState) : Type 0 where
  pub same : IsSameFolder before after
  pub reads : HasGrown before.reads after.reads
  pub damaged : HasGrown before.damaged after.damaged

-- a read succeeded: no fault was counted, and where it is known what is held the values are those that the range of the pair spells
pub record Succeeds (before after : FolderState) (block : ℕ) (name : Bytes) (rows : List Val) : Type 0 where
  pub same : after.count ≡ before.count
  pub damaged : after.damaged ≡ before.damaged
  pub values : WhereHeld before.content (λ content. IsReadAs content block name rows)

-- a read failed by a fault, which was counted
pub record FailsByFault (before after : FolderState) : Type 0 where
  pub risen : one_more before.count ≤ after.count
  pub damaged : after.damaged ≡ before.damaged

-- a read failed by damage: no fault was counted, the pair is damaged, and the read is the last of those that failed so
pub record FailsByDamage (before after : FolderState) (read : Read) : Type 0 where
  pub same : after.count ≡ before.count
  pub damaged : after.damaged ≡ before.damaged ++ read ∷ []
  pub spoilt : WhereHeld before.content (λ content. IsSpoilt content read)

-- how a read ends: with the values of the pair; by a fault or by damage; or without memory, and then the folder is as it was
abbrev pub ReadsFolder : FolderState → FolderState → ℕ → Bytes → Result ColumnRef StoreError → Type 0
ReadsFolder before after block name (Ok c) = Succeeds before after block name c.rows
ReadsFolder before after block name (Err errors.Failed) = FailsByFault before after ⊎ FailsByDamage before after (block, name)
ReadsFolder before after block name (Err errors.NoMemory) = after ≡ before

-- ---- up to the first read that fails

-- none of the reads failed: no fault was counted, and no more were damaged
pub record IsUnfailed (before after : FolderState) : Type 0 where
  pub failed : after.failed ≡ None
  pub count : after.count ≡ before.count
  pub damaged : after.damaged ≡ before.damaged

-- one of the reads failed, which is the last one that did: by a fault, or by damage
pub record FailsOnce (before after : FolderState) : Type 0 where
  pub read : Read
  pub failed : after.failed ≡ Some read
  pub cause : FailsByFault before after ⊎ FailsByDamage before after read

-- what calls make of a folder by its last read that failed: it stays as it is where one did; else still none did, or one has
abbrev pub FailsAtMostOnce : Option Read → FolderState → FolderState → Type 0
FailsAtMostOnce (Some read) before after = after ≡ before
FailsAtMostOnce None before after = IsUnfailed before after ⊎ FailsOnce before after

-- what calls make of a folder, which is read up to the first read that fails: at most one read fails
pub record IsReadFolder (before after : FolderState) : Type 0 where
  pub later : IsLaterFolder before after
  pub once : FailsAtMostOnce before.failed before after

-- For the checker: no public clause cites what follows.

-- a folder after a read that succeeded; after one that failed by a fault; and after one that failed by damage
abbrev pub after_read : FolderState → Read → FolderState
after_read s read =
    record { zones = s.zones; content = s.content; count = s.count; reads = s.reads ++ read ∷ []; failed = s.failed; damaged = s.damaged }

abbrev pub after_fault : FolderState → Read → FolderState
after_fault s read =
    record { zones = s.zones; content = s.content; count = one_more s.count; reads = s.reads; failed = Some read; damaged = s.damaged }

abbrev pub after_damage : FolderState → Read → FolderState
after_damage s read =
    record { zones = s.zones; content = s.content; count = s.count; reads = s.reads; failed = Some read; damaged = s.damaged ++ read ∷ [] }

-- the folder is this one after the answer that is meant, and as it was where there was no memory for the entry
abbrev pub LeavesRead : FolderState → FolderState → Read → Column → Result ColumnRef StoreError → Type 0
LeavesRead before after read column (Ok c) = (c ≡ column) × (after ≡ after_read before read)
LeavesRead before after read column (Err errors.Failed) = ⊥
LeavesRead before after read column (Err errors.NoMemory) = after ≡ before

abbrev pub LeavesFailed : FolderState → FolderState → FolderState → Result ColumnRef StoreError → Type 0
LeavesFailed meant before after (Ok c) = ⊥
LeavesFailed meant before after (Err errors.Failed) = after ≡ meant
LeavesFailed meant before after (Err errors.NoMemory) = after ≡ before

-- what a read promises, as that of any store and as that of a folder
pub record IsReadOf (before after : FolderState) (block : ℕ) (name : Bytes) (answer : Result ColumnRef StoreError) : Type 0 where
  pub same : IsSameStore (folder_seen before) (folder_seen after)
  pub reads : Reads (folder_seen before) (folder_seen after) block name answer
  pub same_folder : IsSameFolder before after
  pub folder : ReadsFolder before after block name answer
