use Rattle.std.proofs.Common.{◌≡◌, take}
use Rattle.vx_words.specs.Truths.{AreTidy, truths_of_words}
use Rattle.vx_words.proofs.truths.Truths.from_options.Given as goal

abbrev pub invariant-loop-i : goal.invariant-loop-i
invariant-loop-i l = AreTidy l.i l.valid.items l.values.items × (truths_of_words l.valid.items l.values.items l.i ≡ take l.i l.options)
