use Rattle.std.proofs.Common.{Some, None, ◌∙◌}
use Rattle.vx_partition.proofs.KeyLemmas.{held_is, known_is}
use Rattle.vx_partition.proofs.annotations.Annotations.get.Goals as goal

pub returns-in-Some-clause-held : goal.returns-in-Some-clause-held
returns-in-Some-clause-held g c =
    c.as_slice.ensures.value
    ∙ held_is (λ v. v.items) c.args.expr.now c.args.self.now.entries.entries (Some c.in-Some.annotations.now) c.in-Some.ensures.value

pub returns-in-Some-clause-known : goal.returns-in-Some-clause-known
returns-in-Some-clause-known g c =
    known_is (λ v. v.items) c.args.expr.now c.args.self.now.entries.entries (Some c.in-Some.annotations.now) c.in-Some.ensures.value

pub returns-in-None-clause-held : goal.returns-in-None-clause-held
returns-in-None-clause-held g c =
    held_is (λ v. v.items) c.args.expr.now c.args.self.now.entries.entries None c.in-None.ensures.value

pub returns-in-None-clause-known : goal.returns-in-None-clause-known
returns-in-None-clause-known g c =
    known_is (λ v. v.items) c.args.expr.now c.args.self.now.entries.entries None c.in-None.ensures.value
