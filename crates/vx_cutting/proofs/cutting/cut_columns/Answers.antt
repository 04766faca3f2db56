use Rattle.std.proofs.Common.{◌≡◌, ◌≤◌, ◌+◌, ◌∙◌, sym, ap, subst, true, List, length, map, arith}
use Rattle.std.proofs.lemmas.List.FromFn.{length-map-range_with_len}
use Rattle.vx_dtype.specs.TypeRules.{field_names}
use Rattle.vx_dtype.specs.StructTypes.{field_types}
use Rattle.vx_dtype.proofs.FieldsFrom.{length-field_types}
use Rattle.vx_column.specs.Columns.{Column}
use Rattle.vx_tables.specs.Blocks.{block_view}
use Rattle.vx_cutting.specs.Cutting.{all_have_rows, blocks_cut, length_cut, joined_columns}
use Rattle.vx_cutting.proofs.CutLaws.{joined_have}
use Rattle.vx_cutting.proofs.cutting.cut_columns.Goals as goal

pub bare_zones-requires : goal.bare_zones-requires
bare_zones-requires c =
    let count = ap length c.in_ok-lengths.ensures ∙ length-map-range_with_len (length_cut c.args.most c.args.rows) 0 (blocks_cut c.args.most c.args.rows) ∙ sym c.requires.number in
    omega (arith, count, c.ranges.number.fits)

pub blocks_of-requires-clause-rows : goal.blocks_of-requires-clause-rows
blocks_of-requires-clause-rows c =
    let z = c.args.zones.now in
    let bs = map block_view c.args.blocks.now in
    let w = length (field_names z.columns) in
    let fits : 0 + length (field_types z.columns) ≤ w = omega (arith, length-field_types z.columns) in
    let have = joined_have w 0 (field_types z.columns) z.lengths bs fits c.requires.lengths in
    subst (λ (cs : List Column). all_have_rows c.args.rows cs ≡ true) (sym (c.as_slice.ensures.value ∙ c.in_ok-columns.ensures)) (subst (λ n. all_have_rows n (joined_columns z bs) ≡ true) (sym c.requires.rows) have)
