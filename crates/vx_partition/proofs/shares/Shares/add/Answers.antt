use Rattle.std.proofs.Common.{◌++◌, [], ◌∷◌, ap, ◌∙◌}
use Rattle.vx_partition.proofs.ShareLemmas.{put_back}
use Rattle.vx_partition.proofs.shares.Shares.add.Goals as goal

pub returns : goal.returns
returns g c =
    let same = g.A.PartialEq.eq in
    let a = c.args.annotation.now in
    let old = c.args.self.now.parts.entries in
    let clones = g.met.A.Annotation.clone_equals in
    put_back (λ v. v.items) same a (g.met.A.Eq.laws.refl a) c.args.part old c.in_ok-so_far.so_far c.new-2.result c.new.result c.push.new.self
    c.in_ok-clone.field-0 c.in_ok-clone-2.field-0 (clones a c.in_ok-clone.field-0 c.in_ok-clone.ensures.cases)
    (clones a c.in_ok-clone-2.field-0 c.in_ok-clone-2.ensures.cases) c.new-2.ensures.items c.in_ok-so_far.ensures.old
    (c.in_ok-push.ensures.items ∙ ap (λ v. v.items ++ c.args.part ∷ []) c.unwrap_or-parts.ensures)
    c.insert.new.self.entries c.insert-2.new.self.entries c.in_ok-so_far.ensures.entries c.in_ok-insert.ensures.entries
