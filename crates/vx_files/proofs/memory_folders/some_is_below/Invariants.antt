-- No file so far is below the folder.
use Rattle.std.proofs.Common.{◌≡◌, drop, map}
use Rattle.std.specs.List.{list_any}
use Rattle.vx_files.specs.FolderKeeping.{is_below}
use Rattle.vx_files.specs.MemoryViews.{file_view}
use Rattle.vx_files.proofs.memory_folders.some_is_below.Given as goal

abbrev pub invariant-loop-file : goal.invariant-loop-file
invariant-loop-file l =
    list_any (λ file. is_below l.fn.folder file.path) (map file_view l.fn.files)
    ≡ list_any (λ file. is_below l.fn.folder file.path) (map file_view (drop l.file-index l.fn.files))
