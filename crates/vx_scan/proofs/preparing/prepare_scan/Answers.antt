use Rattle.std.proofs.Common.{subst}
use Rattle.vx_dtype.specs.TypeRules.{fields_of}
use Rattle.vx_dtype.specs.Types.{Ty}
use Rattle.vx_scan.specs.Opening.{ArePrepared}
use Rattle.vx_scan.proofs.PrepareLemmas.{names_once}
use Rattle.vx_scan.proofs.preparing.prepare_scan.Goals as goal

pub returns : goal.returns
returns c =
    let both = c.in_ok-both.both in
    let prepared : ArePrepared c.args.zones.now.columns c.args.slots.now c.args.filter.now c.args.projection.now both =
    subst (λ (t : Ty). ArePrepared (fields_of t) c.args.slots.now c.args.filter.now c.args.projection.now both) c.dtype.ensures.dtype c.in_ok-both.ensures in
    record {
      distinct = names_once c.args.zones.now c.dtype.ensures.rules;
      filter = prepared.filter;
      boolean = prepared.boolean;
      projection = prepared.projection;
    }
