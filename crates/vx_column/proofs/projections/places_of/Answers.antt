use Rattle.vx_column.proofs.ProjectionLemmas.{named_there}
use Rattle.vx_column.proofs.projections.places_of.Goals as goal

pub unwrap-requires : goal.unwrap-requires
unwrap-requires c =
    let there = named_there c.args.names.now c.args.fields.now c.loop-name.name-index c.name-item.result c.loop-name-test.true c.name-item.is c.requires in
    rw (c.position.ensures, c.names.ensures) there
