use Rattle.std.proofs.Common.{subst, option_map}
use Rattle.vx_scan.specs.Stores.{WhereTold, AgreesWith}
use Rattle.vx_block_parts.specs.Parts.{Part, zones_between, table_between}
use Rattle.vx_block_parts.proofs.SeenLemmas.{agrees_between}
use Rattle.vx_block_parts.proofs.block_parts.BlockPartColumnStore.zones.Goals as goal

pub returns-clause-agrees : goal.returns-clause-agrees
returns-clause-agrees g c =
    let seen = g.S.ColumnStore.seen in
    let whole = seen c.self.inside.store in
    subst (λ (p : Part _). WhereTold (option_map (table_between p.from p.up_to) (seen p.store).held) (AgreesWith (zones_between p.from p.up_to (seen p.store).zones)))
    c.self.view_is (agrees_between c.self.inside.from c.self.inside.up_to whole.held whole.zones c.self.invariant.agrees)
