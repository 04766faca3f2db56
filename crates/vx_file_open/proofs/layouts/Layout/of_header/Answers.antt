use Rattle.std.proofs.Common.{sum, map, ap, arith}
use Rattle.vx_file_bytes.specs.HeaderViews.{header_view}
use Rattle.vx_file_open.specs.Layouts.{lists_of}
use Rattle.vx_file_open.proofs.Lengths.{layout_small}
use Rattle.vx_file_open.proofs.layouts.Layout.of_header.Goals as goal

pub block_places-requires : goal.block_places-requires
block_places-requires c =
    let small = layout_small (header_view c.args.header) c.requires.header c.requires.short in
    let same = ap (λ vs. sum (map sum (lists_of vs))) c.as_slice.ensures.value in
    omega (arith, small, same, c.requires.ends)
