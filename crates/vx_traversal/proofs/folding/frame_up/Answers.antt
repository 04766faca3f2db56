use Rattle.std.proofs.Common.{rules, arith, ◌≡◌, ◌+◌, ◌-◌, sym, subst, length}
use Rattle.vx_traversal.proofs.FoldFrameLemmas.{context-index}
use Rattle.vx_traversal.proofs.folding.frame_up.Goals as goal

pub returns : goal.returns
returns g c =
    let last : (length c.args.outer.now - 1) + 1 ≡ length c.args.outer.now = search (rules, arith) in
    subst (λ d. g.F.Folding.goes_up c.args.folder.now c.args.frame.node d c.args.frame.results.items c.go_up-2.result c.go_up-2.new.self) (sym (context-index c.args.ctx.now c.args.outer.now (length c.args.outer.now - 1) c.index-outer-outer.result last)) c.go_up-2.ensures
