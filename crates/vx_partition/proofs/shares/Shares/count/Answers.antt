use Rattle.std.proofs.Common.{length, ap, ◌∙◌, Some, None}
use Rattle.vx_partition.proofs.ShareLemmas.{is_count}
use Rattle.vx_partition.proofs.shares.Shares.count.Goals as goal

pub returns-in-Some : goal.returns-in-Some
returns-in-Some g c =
    ap length c.as_slice.ensures.value
    ∙ is_count (λ v. v.items) g.A.PartialEq.eq c.args.annotation.now c.args.self.now.parts.entries (Some c.in-Some.parts.now) c.in-Some.ensures.value

pub returns-in-None : goal.returns-in-None
returns-in-None g c =
    is_count (λ v. v.items) g.A.PartialEq.eq c.args.annotation.now c.args.self.now.parts.entries None c.in-None.ensures.value
