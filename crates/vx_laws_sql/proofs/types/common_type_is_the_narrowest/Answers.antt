use Rattle.vx_laws_sql.proofs.Common.{held_numbers_fit, common_holds_both, common_is_narrowest, types_apart_have_none}
use Rattle.vx_laws_sql.proofs.types.common_type_is_the_narrowest.Goals as goal

pub returns-clause-numbers : goal.returns-clause-numbers
returns-clause-numbers c = held_numbers_fit

pub returns-clause-both : goal.returns-clause-both
returns-clause-both c = common_holds_both

pub returns-clause-narrowest : goal.returns-clause-narrowest
returns-clause-narrowest c = common_is_narrowest

pub returns-clause-apart : goal.returns-clause-apart
returns-clause-apart c = types_apart_have_none
