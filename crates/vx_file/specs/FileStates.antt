-- How a block file is seen, as itself and as any store, and what its reads answer and leave.
use Rattle.std.specs.Prelude.{◌≡◌, ◌⊎◌, ℕ, ◌+◌, ◌≤◌, false, List, [], ◌∷◌, ◌++◌, length, Option, Some, None, option_map, Result, Ok, Err}
use Rattle.std.specs.List.{AllByRecursion}
use Rattle.vx_dtype.specs.Types.{Bytes}
use Rattle.vx_dtype.specs.Values.{Val}
use Rattle.vx_column.specs.Columns.{Column}
use Rattle.vx_column.specs.declared.columns.ColumnRef.{ColumnRef}
use Rattle.vx_semantics.specs.Tables.{Table}
use Rattle.vx_io.specs.Counts.{one_more}
use Rattle.vx_laws_file.specs.FileForms.{Header}
use Rattle.vx_laws_file.specs.Ranges.{IsReadAs, IsDamaged}
use Rattle.vx_laws_file.specs.HeldTables.{held_table}
use Rattle.vx_scan.specs.Stores.{Read, StoreSeen, IsSameStore, Reads}
use Rattle.vx_scan.specs.declared.errors.StoreError.{StoreError}
use Rattle.vx_scan.specs.declared.errors.StoreError.TheVariants as errors
use Rattle.vx_file_open.specs.Layouts.{content_at, IsFileWith, WhereBytes}

-- a block file: its header; the bytes of its source, where they are told; how many faults the source counted; the reads that succeeded, in order; the last
-- one that failed; and those that failed since their ranges are damaged, in order
pub record FileState : Type 0 where
  pub header : Header
  pub bytes : Option Bytes
  pub count : ℕ
  pub reads : List Read
  pub failed : Option Read
  pub damaged : List Read

-- the table that the file with this header holds whose bytes these are
abbrev pub held_at : Header → Bytes → Table
held_at h bytes = held_table (content_at h bytes)

-- a block file as any store is seen: it tells the table that it holds where its source tells the bytes, and a damaged range counts as a fault
abbrev pub file_seen : FileState → StoreSeen
file_seen s =
    record {
      zones = s.header.zones;
      held = option_map (held_at s.header) s.bytes;
      log = s.reads;
      faults = s.count + length s.damaged;
      failed = s.failed;
      faultless = false;
    }

-- the pair of a read is damaged in the file that bytes are
abbrev pub IsSpoilt : Header → Bytes → Read → Type 0
IsSpoilt h bytes read = IsDamaged (content_at h bytes) read.0 read.1

-- it is read as some values
abbrev pub IsSound : Header → Bytes → Read → Type 0
IsSound h bytes read = (values : List Val) × IsReadAs (content_at h bytes) read.0 read.1 values

-- what holds of the bytes of each block file where they are told: they are the file with its header, each read that succeeded is sound, and each that
-- failed by damage is damaged
pub record IsKept (s : FileState) (bytes : Bytes) : Type 0 where
  pub file : IsFileWith s.header bytes
  pub sound : AllByRecursion (IsSound s.header bytes) s.reads
  pub spoilt : AllByRecursion (IsSpoilt s.header bytes) s.damaged

-- a block file that was opened just now, over a source that told these bytes and had counted so many faults
pub record IsNewFile (told : Option Bytes) (counted : ℕ) (s : FileState) : Type 0 where
  pub bytes : s.bytes ≡ told
  pub count : s.count ≡ counted
  pub reads : s.reads ≡ []
  pub failed : s.failed ≡ None
  pub damaged : s.damaged ≡ []

-- no call changes the header and the bytes, and the source's count never falls
pub record IsSameFile (before after : FileState) : Type 0 where
  pub header : after.header ≡ before.header
  pub bytes : after.bytes ≡ before.bytes
  pub later : before.count ≤ after.count

-- a list of reads has grown at its end, or is as it was
abbrev pub HasGrown : List Read → List Read → Type 0
HasGrown before after = (more : List Read) × (after ≡ before ++ more)

-- what calls make of a block file: its header and its bytes stay, the source's count never falls, and the reads that succeeded, and those that failed by
-- damage, grow at their ends
pub record IsLaterFile (before after : FileState) : Type 0 where
  pub same : IsSameFile before after
  pub reads : HasGrown before.reads after.reads
  pub damaged : HasGrown before.damaged after.damaged

-- a read succeeded: the source counted no fault, and where the bytes are told the values are those that the range of the pair spells
pub record Succeeds (before after : FileState) (block : ℕ) (name : Bytes) (rows : List Val) : Type 0 where
  pub same : after.count ≡ before.count
  pub damaged : after.damaged ≡ before.damaged
  pub values : WhereBytes before.bytes (λ bytes. IsReadAs (content_at before.header bytes) block name rows)

-- a read failed by a fault of the source: it was counted
pub record FailsByFault (before after : FileState) : Type 0 where
  pub risen : one_more before.count ≤ after.count
  pub damaged : after.damaged ≡ before.damaged

-- a read failed by damage: the source counted no fault, the pair is damaged, and the read is the last of those that failed so
pub record FailsByDamage (before after : FileState) (read : Read) : Type 0 where
  pub same : after.count ≡ before.count
  pub damaged : after.damaged ≡ before.damaged ++ read ∷ []
  pub spoilt : WhereBytes before.bytes (λ bytes. IsSpoilt before.header bytes read)

-- how a read ends: with the values of the pair; by a fault of the source or by damage; or without memory, and then the file is as it was
abbrev pub ReadsFile : FileState → FileState → ℕ → Bytes → Result ColumnRef StoreError → Type 0
ReadsFile before after block name (Ok c) = Succeeds before after block name c.rows
ReadsFile before after block name (Err errors.Failed) = FailsByFault before after ⊎ FailsByDamage before after (block, name)
ReadsFile before after block name (Err errors.NoMemory) = after ≡ before

-- For the checker: no public clause cites what follows.

-- a file whose source has counted so many faults since; one after a read that succeeded; after one that failed by a fault; and after one that failed by
-- damage
abbrev pub counted_to : FileState → ℕ → FileState
counted_to s n = record { header = s.header; bytes = s.bytes; count = n; reads = s.reads; failed = s.failed; damaged = s.damaged }

abbrev pub after_read : FileState → Read → FileState
after_read s read =
    record { header = s.header; bytes = s.bytes; count = s.count; reads = s.reads ++ read ∷ []; failed = s.failed; damaged = s.damaged }

abbrev pub after_fault : FileState → Read → FileState
after_fault s read = record { header = s.header; bytes = s.bytes; count = s.count; reads = s.reads; failed = Some read; damaged = s.damaged }

abbrev pub after_damage : FileState → Read → FileState
after_damage s read =
    record { header = s.header; bytes = s.bytes; count = s.count; reads = s.reads; failed = Some read; damaged = s.damaged ++ read ∷ [] }

-- the file is this one after the answer that is meant, and as it was where there was no memory for the entry
abbrev pub LeavesRead : FileState → FileState → Read → Column → Result ColumnRef StoreError → Type 0
LeavesRead before after read column (Ok c) = (c ≡ column) × (after ≡ after_read before read)
LeavesRead before after read column (Err errors.Failed) = ⊥
LeavesRead before after read column (Err errors.NoMemory) = after ≡ before

abbrev pub LeavesFailed : FileState → FileState → FileState → Result ColumnRef StoreError → Type 0
LeavesFailed meant before after (Ok c) = ⊥
LeavesFailed meant before after (Err errors.Failed) = after ≡ meant
LeavesFailed meant before after (Err errors.NoMemory) = after ≡ before

-- what a read promises, as that of any store and as that of a file
pub record IsReadOf (before after : FileState) (block : ℕ) (name : Bytes) (answer : Result ColumnRef StoreError) : Type 0 where
  pub same : IsSameStore (file_seen before) (file_seen after)
  pub reads : Reads (file_seen before) (file_seen after) block name answer
  pub same_file : IsSameFile before after
  pub file : ReadsFile before after block name answer
