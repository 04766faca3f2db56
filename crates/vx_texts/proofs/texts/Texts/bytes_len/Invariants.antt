use Rattle.std.proofs.Common.{◌≡◌, take}
use Rattle.vx_texts.specs.Texts.{byte_total}
use Rattle.vx_texts.proofs.texts.Texts.bytes_len.Given as goal

-- the bytes of the texts before the place
abbrev pub invariant-places : goal.invariant-places
invariant-places l = l.total ≡ byte_total (take l.i l.self)
