use Rattle.std.proofs.Common.{◌∙◌, sym, ap, ◌<◌, map, length, option_copied, arith}
use Rattle.vx_dtype.specs.Types.{Fields}
use Rattle.vx_dtype.specs.TypeRules.{field_names}
use Rattle.vx_tables.specs.Blocks.{column_named}
use Rattle.vx_tables.specs.Blocks.{block_view}
use Rattle.vx_tables.proofs.MemberLemmas.{length_mapped}
use Rattle.vx_tables.proofs.NamedLemmas.{named_there, copied_some}
use Rattle.vx_tables.proofs.BlockLemmas.{blocks_count, width_at, stored_at, held}
use Rattle.vx_tables.proofs.tables.held_column.Goals as goal

pub bounds-blocks-block : goal.bounds-blocks-block
bounds-blocks-block c =
    let even = blocks_count (length (field_names c.args.zones.now.columns)) c.args.zones.now.lengths (map block_view c.args.blocks.now) c.requires.lengths in
    let long = length_mapped block_view c.args.blocks.now in
    omega (arith, even, long, c.requires.block)

pub column_named-requires : goal.column_named-requires
column_named-requires c =
    let even = blocks_count (length (field_names c.args.zones.now.columns)) c.args.zones.now.lengths (map block_view c.args.blocks.now) c.requires.lengths in
    let long = length_mapped block_view c.args.blocks.now in
    let within : c.args.block < length c.args.blocks.now = omega (arith, even, long, c.requires.block) in
    let at = stored_at c.args.blocks.now c.args.block c.index-blocks-block.result c.as_slice-columns.result.now within c.index-blocks-block.is c.as_slice-columns.ensures.value in
    let wide = width_at c.args.zones.now (map block_view c.args.blocks.now) c.args.block c.as_slice-columns.result.now c.requires.lengths c.requires.block at in
    wide ∙ ap (λ (fs : Fields). length (field_names fs)) (sym c.columns_of.ensures.columns)

pub unwrap-requires : goal.unwrap-requires
unwrap-requires c =
    let even = blocks_count (length (field_names c.args.zones.now.columns)) c.args.zones.now.lengths (map block_view c.args.blocks.now) c.requires.lengths in
    let long = length_mapped block_view c.args.blocks.now in
    let within : c.args.block < length c.args.blocks.now = omega (arith, even, long, c.requires.block) in
    let at = stored_at c.args.blocks.now c.args.block c.index-blocks-block.result c.as_slice-columns.result.now within c.index-blocks-block.is c.as_slice-columns.ensures.value in
    let wide = width_at c.args.zones.now (map block_view c.args.blocks.now) c.args.block c.as_slice-columns.result.now c.requires.lengths c.requires.block at in
    let there = named_there c.args.name.now c.args.zones.now.columns c.as_slice-columns.result.now wide c.requires.column in
    let named = c.column_named.ensures ∙ ap (λ (fs : Fields). column_named c.args.name.now fs c.as_slice-columns.result.now) c.columns_of.ensures.columns in
    copied_some c.column_named.result _ named there

pub returns : goal.returns
returns c =
    let even = blocks_count (length (field_names c.args.zones.now.columns)) c.args.zones.now.lengths (map block_view c.args.blocks.now) c.requires.lengths in
    let long = length_mapped block_view c.args.blocks.now in
    let within : c.args.block < length c.args.blocks.now = omega (arith, even, long, c.requires.block) in
    let at = stored_at c.args.blocks.now c.args.block c.index-blocks-block.result c.as_slice-columns.result.now within c.index-blocks-block.is c.as_slice-columns.ensures.value in
    let named = ap (λ (fs : Fields). column_named c.args.name.now fs c.as_slice-columns.result.now) (sym c.columns_of.ensures.columns) ∙ sym c.column_named.ensures ∙ ap option_copied c.unwrap.ensures in
    let known = held c.args.zones.now (map block_view c.args.blocks.now) c.args.block c.args.name.now c.as_slice-columns.result.now c.unwrap.result.now c.requires.lengths c.requires.types c.requires.block at named in
    record { dtype = known.typed; len = known.counted; rows = known.rows }
