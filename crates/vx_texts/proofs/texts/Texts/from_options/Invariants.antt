use Rattle.std.proofs.Common.{◌≡◌, map, take, option_copied}
use Rattle.vx_texts.specs.Texts.{FitOneBuffer}
use Rattle.vx_texts.proofs.texts.Texts.from_options.Given as goal

-- the texts before the place, which fit one buffer
abbrev pub invariant-loop-i : goal.invariant-loop-i
invariant-loop-i l = (l.builder ≡ map option_copied (take l.i l.options)) × FitOneBuffer l.builder
