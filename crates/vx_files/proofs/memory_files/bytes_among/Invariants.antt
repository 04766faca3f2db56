-- No file so far has the path.
use Rattle.std.proofs.Common.{◌≡◌, drop, map}
use Rattle.vx_files.specs.MemoryViews.{bytes_among, file_view}
use Rattle.vx_files.proofs.memory_files.bytes_among.Given as goal

abbrev pub invariant-loop-file : goal.invariant-loop-file
invariant-loop-file l = bytes_among (map file_view l.fn.files) l.fn.path ≡ bytes_among (map file_view (drop l.file-index l.fn.files)) l.fn.path
