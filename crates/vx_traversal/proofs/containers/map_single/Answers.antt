use Rattle.std.proofs.Common.{[], ◌∷◌}
use Rattle.vx_traversal.specs.Containers.{MapsElements}
use Rattle.vx_traversal.proofs.RewriteLemmas.{unless}
use Rattle.vx_traversal.proofs.ContainerLemmas.{MapsSingle-kept, MapsSingle-mapped}
use Rattle.vx_traversal.proofs.containers.map_single.Goals as goal

pub returns-in-Stop-clause-mapped : goal.returns-in-Stop-clause-mapped
returns-in-Stop-clause-mapped g c = MapsSingle-kept g.F.ElementMapper.maps c.args.f.now c.args.element c.args.last c.in-Stop.is

pub returns-in_default-clause-mapped : goal.returns-in_default-clause-mapped
returns-in_default-clause-mapped g c =
    unless c.map_one.result (MapsElements (λ it. it ∷ []) g.F.ElementMapper.maps c.args.last c.args.f.now c.args.element c.map_one.result c.map_one.new.self)
    (MapsSingle-mapped g.F.ElementMapper.maps c.args.f.now c.args.element c.args.last c.in_default.not-Stop c.map_one.result c.map_one.new.self c.map_one.ensures.step)
