use Rattle.std.proofs.Common.{◌∙◌}
use Rattle.std.proofs.lemmas.List.{length-map}
use Rattle.vx_tables.specs.Blocks.{block_view}
use Rattle.vx_request.specs.RequestViews.{told_view}
use Rattle.vx_writing.proofs.PartFiles.{numbers_agree}
use Rattle.vx_writing.proofs.making.parts_of.Goals as goal

pub in_parts-requires : goal.in_parts-requires
in_parts-requires c =
    let table = told_view c.args.table in
    numbers_agree table.zones table.blocks c.requires ∙ length-map c.args.table.blocks.items block_view
