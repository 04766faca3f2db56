-- The files so far stand before those of the files that are left.
use Rattle.std.proofs.Common.{◌≡◌, ◌++◌, drop, map}
use Rattle.vx_files.specs.FolderKeeping.{named_view}
use Rattle.vx_files.specs.MemoryViews.{file_in, file_view}
use Rattle.vx_files.proofs.memory_folders.files_in.Given as goal

abbrev pub invariant-loop-file : goal.invariant-loop-file
invariant-loop-file l =
    map (file_in l.fn.folder) (map named_view l.fn.files)
    ≡ map file_view l.made.items ++ map (file_in l.fn.folder) (map named_view (drop l.file-index l.fn.files))
