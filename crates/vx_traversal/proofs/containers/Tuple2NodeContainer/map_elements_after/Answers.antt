use Rattle.std.proofs.Common.{◌≡◌, ◌++◌, rules, Ok, Err, sym, subst}
use Rattle.vx_traversal.specs.declared.transform.Transformed.{Transformed}
use Rattle.vx_traversal.specs.Containers.{MapsElements}
use Rattle.vx_traversal.proofs.RewriteLemmas.{unless-err}
use Rattle.vx_traversal.proofs.ContainerLemmas.{error-as, MapsPair-mapped, MapsPair-first_error, MapsPair-second_error}
use Rattle.vx_traversal.proofs.containers.Tuple2NodeContainer.map_elements_after.Goals as goal

pub returns-in_err-first-clause-mapped : goal.returns-in_err-first-clause-mapped
returns-in_err-first-clause-mapped g c =
    let is : c.from_residual.result ≡ Err c.in_err-first.field-0.0 = search rules in
    unless-err (Transformed g.row.C.Denot) c.in_err-first.field-0.0 c.from_residual.result
    (MapsElements g.C.Holds.elements g.F.ElementMapper.maps c.args.last c.args.f.now c.args.self.0 (Err c.in_err-first.field-0.0) c.map_elements_after.new.f)
    (MapsElements (λ it. g.C.Holds.elements it.0 ++ g.C.Holds.elements it.1) g.F.ElementMapper.maps c.args.last c.args.f.now c.args.self c.from_residual.result c.map_elements_after.new.f) is
    (λ first. error-as g.F.ElementMapper.maps _ c.args.last c.args.f.now c.args.self c.in_err-first.field-0.0 c.from_residual.result c.map_elements_after.new.f is (MapsPair-first_error g.F.ElementMapper.maps g.C.Holds.elements c.args.last c.args.f.now c.args.self c.in_err-first.field-0.0 c.map_elements_after.new.f first))
    c.in_err-first.ensures.mapped

pub returns-in_err-second-clause-mapped : goal.returns-in_err-second-clause-mapped
returns-in_err-second-clause-mapped g c =
    let is : c.from_residual-in_err-second.result ≡ Err c.in_err-second.field-0.0 = search rules in
    unless-err (Transformed g.row.C.Denot) c.in_err-second.field-0.0 c.from_residual-in_err-second.result
    (MapsElements g.C.Holds.elements g.F.ElementMapper.maps c.in_ok-first.first.order c.map_elements_after.new.f c.args.self.1 (Err c.in_err-second.field-0.0) c.map_elements_after-2.new.f)
    (MapsElements (λ it. g.C.Holds.elements it.0 ++ g.C.Holds.elements it.1) g.F.ElementMapper.maps c.args.last c.args.f.now c.args.self c.from_residual-in_err-second.result c.map_elements_after-2.new.f) is
    (λ second. error-as g.F.ElementMapper.maps _ c.args.last c.args.f.now c.args.self c.in_err-second.field-0.0 c.from_residual-in_err-second.result c.map_elements_after-2.new.f is (MapsPair-second_error g.F.ElementMapper.maps g.C.Holds.elements c.args.last c.args.f.now c.args.self c.in_ok-first.first c.map_elements_after.new.f c.in_err-second.field-0.0 c.map_elements_after-2.new.f c.in_ok-first.ensures.mapped second))
    c.in_err-second.ensures.mapped

pub returns-clause-mapped : goal.returns-clause-mapped
returns-clause-mapped g c =
    let P : Transformed (g.row.C.Denot × g.row.C.Denot) → Type 0 = λ made. MapsElements (λ it. g.C.Holds.elements it.0 ++ g.C.Holds.elements it.1) g.F.ElementMapper.maps c.args.last c.args.f.now c.args.self (Ok made) c.map_elements_after-2.new.f in
    subst P (sym c.paired.ensures) (MapsPair-mapped g.F.ElementMapper.maps g.C.Holds.elements c.args.last c.args.f.now c.args.self c.in_ok-first.first c.map_elements_after.new.f c.in_ok-second.second c.map_elements_after-2.new.f c.in_ok-first.ensures.mapped c.in_ok-second.ensures.mapped)
