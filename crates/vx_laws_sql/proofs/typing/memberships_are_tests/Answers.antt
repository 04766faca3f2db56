use Rattle.vx_laws_sql.proofs.TypedMembers.{memberships_are_tests}
use Rattle.vx_laws_sql.proofs.typing.memberships_are_tests.Goals as goal

pub returns : goal.returns
returns c = memberships_are_tests
