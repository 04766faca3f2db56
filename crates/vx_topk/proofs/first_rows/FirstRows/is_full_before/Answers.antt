use Rattle.std.proofs.Common.{◌∙◌, sym, arith}
use Rattle.vx_topk.proofs.HoldLemmas.{greater, behind-last}
use Rattle.vx_topk.proofs.first_rows.FirstRows.is_full_before.Goals as goal

pub returns-in-Some : goal.returns-in-Some
returns-in-Some c h = (
  omega (arith, c.if-len-self.false, c.len.ensures.len),
  behind-last c.args.row.now c.in-Some.last.now c.args.self.now.rows.entries (sym c.cmp.ensures ∙ greater c.cmp.result (sym c.eq.ensures ∙ h)) c.in-Some.ensures.all_up_to,
)
