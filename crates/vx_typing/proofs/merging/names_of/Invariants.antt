use Rattle.std.proofs.Common.{◌≡◌, map, take}
use Rattle.vx_typing.specs.MergedFields.{name_of}
use Rattle.vx_typing.proofs.merging.names_of.Given as goal

-- the names of the fields so far
abbrev pub invariant-loop-field : goal.invariant-loop-field
invariant-loop-field l = l.names.items ≡ map name_of (take l.field-index l.fields)
