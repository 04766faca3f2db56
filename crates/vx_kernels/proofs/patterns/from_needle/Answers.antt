use Rattle.vx_kernels.proofs.NeedleLemmas.{from_found, from_forward, nowhere_found}
use Rattle.vx_kernels.proofs.patterns.from_needle.Goals as goal

pub returns-in-Some-clause-same : goal.returns-in-Some-clause-same
returns-in-Some-clause-same c ws h =
    from_found c.args.needle.now ws c.args.text.now c.range_from.result.now c.as_str.result.now c.in-Some.at c.as_str.ensures.value c.range_from.ensures.value c.utf8.text c.in-Some.ensures.cases h

pub returns-in-Some-clause-forward : goal.returns-in-Some-clause-forward
returns-in-Some-clause-forward c =
    from_forward c.args.text.now c.range_from.result.now c.as_str.result.now c.in-Some.at c.range_from.ensures.value c.utf8.text c.in-Some.ensures.cases

pub returns-in-None-clause-same : goal.returns-in-None-clause-same
returns-in-None-clause-same c ws h =
    nowhere_found c.args.needle.now ws c.args.text.now c.as_str.result.now c.as_str.ensures.value c.utf8.text c.in-None.ensures.cases h
