-- What paths lead to and what stands in folders, as runs tell it.
use Rattle.vx_dtype.specs.Types.{Bytes}
use Rattle.vx_files.specs.Kept as files
use Rattle.vx_files.specs.Listed as folders
use Rattle.vx_laws_shell.specs.Paths.{Listed, unlisted, no_folder, lists}
use Rattle.vx_laws_shell.specs.Paths.{Kept, unknown, absent, holds}
use Rattle.vx_laws_shell.specs.Paths.{Paths}

-- what a path leads to
abbrev pub kept_view : files.Kept → Kept
kept_view files.unknown = unknown
kept_view files.absent = absent
kept_view (files.holds bytes) = holds bytes

-- what stands in a folder
abbrev pub listed_view : folders.Listed → Listed
listed_view folders.unlisted = unlisted
listed_view folders.no_folder = no_folder
listed_view (folders.names standing) = lists standing

-- what each path leads to
abbrev pub kept_by : (Bytes → files.Kept) → Bytes → Kept
kept_by kept path = kept_view (kept path)

-- and what stands in each folder
abbrev pub paths_by : (Bytes → files.Kept) → (Bytes → folders.Listed) → Paths
paths_by kept listed = record { kept = kept_by kept; listed = λ path. listed_view (listed path) }
