-- the files so far have the bytes so far
use Rattle.std.proofs.Common.{◌≡◌, map, length}
use Rattle.vx_files.specs.FolderKeeping.{named_view}
use Rattle.vx_laws_writing.specs.Writing.{numbered_from}
use Rattle.vx_writing.specs.Making.{bytes_at}
use Rattle.vx_writing.proofs.making.numbered.Given as goal

abbrev pub invariant-loop-bytes : goal.invariant-loop-bytes
invariant-loop-bytes l = (map named_view l.named.items ≡ numbered_from 0 (map bytes_at l.yielded)) × (length l.named.items ≡ length l.yielded)
