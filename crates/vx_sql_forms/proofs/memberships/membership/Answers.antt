use Rattle.std.proofs.Common.{Result, sym, subst}
use Rattle.vx_laws_sql.specs.Operands.{TypedTree, Mismatch}
use Rattle.vx_sql_forms.specs.FormAnswers.{AnswersForm}
use Rattle.vx_sql_forms.specs.Views.{operand_view}
use Rattle.vx_sql_forms.proofs.MemberLemmas.{membership_among}
use Rattle.vx_sql_forms.proofs.memberships.membership.Goals as goal

-- src/memberships.rt:215:1
pub returns-in-len1-up : goal.returns-in-len1-up
returns-in-len1-up c =
    let all = membership_among (operand_view c.args.operand.now) c.args.constants.now c.in-len1-up.len_at_least in
    subst (λ (told : Result TypedTree Mismatch). AnswersForm told c.member_among.result) (sym all) c.member_among.ensures
