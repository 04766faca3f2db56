use Rattle.vx_kernels.proofs.NeedleLemmas.{last_found}
use Rattle.vx_kernels.proofs.patterns.ends_with_needle.Goals as goal

pub returns : goal.returns
returns c ws h =
    last_found c.args.needle.now ws c.args.text.now c.as_str.result.now c.ends_with.result c.as_str.ensures.value c.requires c.utf8.text c.ends_with.ensures.cases h
