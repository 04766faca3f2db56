use Rattle.vx_query.proofs.QueryLemmas.{unnamed_row, long_row, deep_row}
use Rattle.vx_query.proofs.query_causes.texts_say_why.Goals as goal

pub returns-clause-refused : goal.returns-clause-refused
returns-clause-refused c = unnamed_row

pub returns-clause-too_long : goal.returns-clause-too_long
returns-clause-too_long c = long_row

pub returns-clause-not_serializable : goal.returns-clause-not_serializable
returns-clause-not_serializable c = deep_row
