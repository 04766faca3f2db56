use Rattle.std.proofs.Common.{◌≡◌, ap, subst, List, map, Option}
use Rattle.std.specs.Prelude.{IfOk}
use Rattle.vx_dtype.specs.TypeViews.{type_view}
use Rattle.vx_dtype.specs.Types.{Bytes, Ty}
use Rattle.vx_zones.specs.LeafTypes.{plain_from}
use Rattle.vx_zones.specs.Zoning.{leaf_type}
use Rattle.vx_calls.specs.BlockZones.{cell_type_by}
use Rattle.vx_calls.specs.Steps.{needed_view}
use Rattle.vx_calls.proofs.zones.cell_types.Goals as goal

pub returns : goal.returns
returns c =
    let found : plain_from (type_view c.dtype.result.now) ≡ leaf_type c.args.zones.now.columns = ap plain_from c.dtype.ensures.dtype in
    subst (λ (types : List Bytes → Option Ty). IfOk c.cell_types_by.result
    (λ made. map type_view made.items ≡ map (cell_type_by types) (map needed_view c.args.needed.now))) found c.cell_types_by.ensures
