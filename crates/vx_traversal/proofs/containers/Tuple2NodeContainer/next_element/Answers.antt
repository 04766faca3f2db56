use Rattle.vx_traversal.proofs.ContainerLemmas.{next-along, pair-second}
use Rattle.vx_traversal.proofs.containers.Tuple2NodeContainer.next_element.Goals as goal

pub returns : goal.returns
returns g c =
    next-along _ _ (g.C.NodeContainer.left c.args.self.now.1 c.next_element-3.new.cursor) c.next_element-3.result
    (pair-second g.C.NodeContainer.left g.C.Holds.elements c.args.cursor.now.in_second c.args.cursor.now.inner c.cursor.result c.args.self.now.0 c.args.self.now.1 c.if-cursor.false c.in_default.ensures (c.cursor.ensures c.args.self.now.1))
    c.next_element-3.ensures
