-- Laws of the names of numbered files.
use Rattle.std.specs.Prelude.{◌≤◌, ◌^◌, List, map, length}
use Rattle.std.specs.Cmp.Lexicographic.{slice_cmp}
use Rattle.std.specs.List.Sorted.{IsStrictlySortedBy}
use Rattle.std.specs.Ordering.{nat_cmp}
use Rattle.vx_dtype.specs.Types.{Bytes}
use Rattle.vx_files.specs.FolderKeeping.{NamedFile}
use Rattle.vx_laws_writing.specs.Writing.{numbered_from}

-- the names of at most a million numbered files ascend by their bytes, so the files are read in the order in which they were written
abbrev pub NumberedNamesAscend : Type 0
NumberedNamesAscend =
    (files : List Bytes) → length files ≤ 10 ^ 6 → IsStrictlySortedBy (slice_cmp nat_cmp) (map (λ (file : NamedFile). file.name) (numbered_from 0 files))
