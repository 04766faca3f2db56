-- What is left of a file that wasn't read before, where it was read up to the first read that failed.
use Rattle.std.specs.Prelude.{◌≡◌, ◌≤◌, [], Some, None}
use Rattle.vx_io.specs.Counts.{one_more}
use Rattle.vx_scan.specs.Stores.{Read}
use Rattle.vx_file.specs.FileStates.{FileState, IsSameFile}
use Rattle.vx_file_scan.specs.FileScans.{DamagedOnce}
use Rattle.vx_file_scan.specs.FirstFailures.{IsUnread, IsReadToFailure}

-- the file is the same; no read was damaged but the one that failed; where none failed the source counted no fault, and where one failed that isn't damaged
-- it counted one
pub record IsLeftAtFailure (before after : FileState) : Type 0 where
  pub same : IsSameFile before after
  pub damaged : DamagedOnce after.failed after.damaged
  pub quiet : after.failed ≡ None → after.count ≡ before.count
  pub risen : (read : Read) → after.failed ≡ Some read → after.damaged ≡ [] → one_more before.count ≤ after.count

abbrev pub FilesAreLeftAtFailures : Type 0
FilesAreLeftAtFailures = (before after : FileState) → IsUnread before → IsReadToFailure before after → IsLeftAtFailure before after
