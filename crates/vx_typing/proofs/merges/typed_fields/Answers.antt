use Rattle.std.proofs.Common.{◌∙◌, List, ap, map, length}
use Rattle.vx_dtype.specs.Types.{Bytes}
use Rattle.vx_dtype.specs.TypeViews.{type_view}
use Rattle.vx_dtype.specs.Zipped.{zipped}
use Rattle.vx_typing.proofs.MergedTypes.{as_many, types_beside}
use Rattle.vx_typing.proofs.merges.typed_fields.Goals as goal

pub new-requires : goal.new-requires
new-requires c = ap length c.requires.names ∙ as_many type_view (map type_view c.args.types.now) c.args.fields.now c.in_ok-merged.merged.items c.in_ok-merged.ensures

pub returns : goal.returns
returns c =
    let us = map type_view c.in_ok-merged.merged.items in
    c.in_ok-new.ensures ∙ ap (λ (ns : List Bytes). zipped ns us) c.requires.names ∙ types_beside (map type_view c.args.types.now) c.args.fields.now us c.in_ok-merged.ensures
