-- What the parts of an explanation are made of.
use Rattle.std.specs.Prelude.{◌≡◌, map, List, Option, option_map}
use Rattle.vx_passes.specs.PruningTables.{Pruning}
use Rattle.vx_semantics.specs.Tables.{ZoneStat}
use Rattle.vx_laws_explaining.specs.Explained.{deciders_of}
use Rattle.vx_explaining.specs.ExplainedViews.{decider_view}
use Rattle.vx_explaining.specs.declared.deciders.Pruned.{Pruned}

-- the pruning expression is this one, and the statistics are those of these that it needs
pub record HoldsPruning (stats : List ZoneStat) (told : Option Pruning) (pruned : Pruned) : Type 0 where
  pub tree : pruned.tree ≡ option_map (λ p. p.tree) told
  pub deciders : map decider_view pruned.deciders.items ≡ deciders_of stats told
