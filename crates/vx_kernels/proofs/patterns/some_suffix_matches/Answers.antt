use Rattle.std.proofs.Common.{◌∙◌, sym, map}
use Rattle.std.specs.Str.{chars}
use Rattle.vx_dtype.specs.Like.{matches}
use Rattle.vx_kernels.specs.Patterns.{part_view}
use Rattle.vx_kernels.proofs.PatternLemmas.{some_suffix_first}
use Rattle.vx_kernels.proofs.patterns.some_suffix_matches.Goals as goal

pub returns-in-Matched : goal.returns-in-Matched
returns-in-Matched c needles =
    let parts = map part_view c.suffixes.parts.now in
    let same = c.in-Some.ensures.same parts (c.suffixes.invariant.1 needles).first in
    sym (c.suffixes.invariant.2 needles ∙ same ∙ some_suffix_first (matches parts) (chars c.in-Some.from.now) c.in-Matched.ensures)
