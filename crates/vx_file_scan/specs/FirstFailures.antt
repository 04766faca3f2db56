-- A block file that is read up to the first read that fails.
use Rattle.std.specs.Prelude.{◌≡◌, ◌⊎◌, [], Option, Some, None}
use Rattle.vx_scan.specs.Stores.{Read}
use Rattle.vx_file.specs.FileStates.{FileState, IsLaterFile, FailsByFault, FailsByDamage}

-- a file that wasn't read yet
pub record IsUnread (s : FileState) : Type 0 where
  pub reads : s.reads ≡ []
  pub failed : s.failed ≡ None
  pub damaged : s.damaged ≡ []

-- none of its reads failed: the source counted no fault, and no more were damaged
pub record IsUnfailed (before after : FileState) : Type 0 where
  pub failed : after.failed ≡ None
  pub count : after.count ≡ before.count
  pub damaged : after.damaged ≡ before.damaged

-- one of its reads failed, which is the last one that did: by a fault of the source, or by damage
pub record FailsOnce (before after : FileState) : Type 0 where
  pub read : Read
  pub failed : after.failed ≡ Some read
  pub cause : FailsByFault before after ⊎ FailsByDamage before after read

-- what calls make of a file by its last read that failed: it stays as it is where one did; else still none did, or one has
abbrev pub FailsAtMostOnce : Option Read → FileState → FileState → Type 0
FailsAtMostOnce (Some read) before after = after ≡ before
FailsAtMostOnce None before after = IsUnfailed before after ⊎ FailsOnce before after

-- what calls make of a file that is read up to the first read that fails: what they make of any file, and at most one read fails
pub record IsReadToFailure (before after : FileState) : Type 0 where
  pub later : IsLaterFile before after
  pub once : FailsAtMostOnce before.failed before after
