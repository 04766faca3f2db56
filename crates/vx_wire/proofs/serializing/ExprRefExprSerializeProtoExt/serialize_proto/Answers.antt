use Rattle.vx_wire_bytes.specs.WireViews.{tree_view}
use Rattle.vx_wire.proofs.SerialLemmas.{spelled_again, all_built_again}
use Rattle.vx_wire.proofs.serializing.ExprRefExprSerializeProtoExt.serialize_proto.Goals as goal

pub returns-clause-spelled : goal.returns-clause-spelled
returns-clause-spelled c = spelled_again c.args.self.now c.tree_of.result c.tree_of.ensures.written

pub returns-clause-builds : goal.returns-clause-builds
returns-clause-builds c = all_built_again tree_view c.args.self.now c.tree_of.result c.tree_of.ensures.form c.tree_of.ensures.written
