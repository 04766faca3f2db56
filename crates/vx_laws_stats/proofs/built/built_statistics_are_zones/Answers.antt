use Rattle.vx_laws_stats.proofs.BuiltZones.{break_no_rule, values_are_of_type}
use Rattle.vx_laws_stats.proofs.built.built_statistics_are_zones.Goals as goal

pub returns-clause-rules : goal.returns-clause-rules
returns-clause-rules c = break_no_rule

pub returns-clause-fit : goal.returns-clause-fit
returns-clause-fit c = values_are_of_type
