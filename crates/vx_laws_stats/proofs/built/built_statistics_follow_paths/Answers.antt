use Rattle.vx_laws_stats.proofs.PathFacts.{follow_paths, paths_are_plain}
use Rattle.vx_laws_stats.proofs.built.built_statistics_follow_paths.Goals as goal

pub returns-clause-paths : goal.returns-clause-paths
returns-clause-paths c = paths_are_plain

pub returns-clause-order : goal.returns-clause-order
returns-clause-order c = follow_paths
