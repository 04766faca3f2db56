use Rattle.std.proofs.Common.{◌∙◌, sym, map}
use Rattle.std.specs.Str.{chars}
use Rattle.vx_dtype.specs.Like.{matches}
use Rattle.vx_kernels.specs.Patterns.{part_view}
use Rattle.vx_kernels.proofs.PatternLemmas.{some_suffix_none}
use Rattle.vx_kernels.proofs.patterns.parts_match.Goals as goal

pub returns-in-Matched : goal.returns-in-Matched
returns-in-Matched c fit = sym c.in-Matched.ensures

pub returns-in-Run : goal.returns-in-Run
returns-in-Run c fit = c.some_suffix_matches.ensures (c.in-Run.ensures.needles fit) ∙ sym c.in-Run.ensures.run.first

pub returns-in-TextEnds : goal.returns-in-TextEnds
returns-in-TextEnds c fit = sym (some_suffix_none (matches (map part_view c.args.parts.now)) (chars c.args.text.now) c.in-TextEnds.ensures)

pub returns-in-Differs : goal.returns-in-Differs
returns-in-Differs c fit = sym c.in-Differs.ensures
