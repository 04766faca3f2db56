use Rattle.vx_expr.specs.Trees.{children_of}
use Rattle.vx_partition.proofs.TableLemmas.{children_numbered}
use Rattle.vx_partition.proofs.numbers.NumbersFoldSteps.down.Goals as goal

pub returns : goal.returns
returns c = children_numbered c.args.self.now (children_of c.args._node.now) c.requires
