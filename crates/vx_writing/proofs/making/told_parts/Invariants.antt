-- the tables so far are those of the parts so far
use Rattle.std.proofs.Common.{◌≡◌, map}
use Rattle.vx_request.specs.RequestViews.{told_view}
use Rattle.vx_cutting.specs.Parting.{parted_view}
use Rattle.vx_laws_writing.specs.Writing.{told_part}
use Rattle.vx_writing.proofs.making.told_parts.Given as goal

abbrev pub invariant-loop-part : goal.invariant-loop-part
invariant-loop-part l = map told_view l.tables.items ≡ map told_part (map parted_view l.yielded)
