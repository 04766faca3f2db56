-- The names so far stand before those of the files that are left.
use Rattle.std.proofs.Common.{◌≡◌, ◌++◌, drop, map}
use Rattle.std.specs.String.{string_bytes}
use Rattle.vx_files.specs.MemoryViews.{names_among, file_view}
use Rattle.vx_files.proofs.memory_files.names_among.Given as goal

abbrev pub invariant-loop-file : goal.invariant-loop-file
invariant-loop-file l =
    names_among (map file_view l.fn.files) l.fn.folder
    ≡ map string_bytes l.names.items ++ names_among (map file_view (drop l.file-index l.fn.files)) l.fn.folder
