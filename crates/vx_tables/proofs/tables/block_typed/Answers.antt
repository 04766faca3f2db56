use Rattle.std.proofs.Common.{◌≡◌, ◌∙◌, sym, ap, true, false, get_or}
use Rattle.std.specs.List.{slice_get}
use Rattle.vx_column.specs.Columns.{Column}
use Rattle.vx_dtype.specs.StructTypes.{field_types}
use Rattle.vx_tables.specs.Blocks.{is_type}
use Rattle.vx_tables.proofs.BlockLemmas.{typed_more}
use Rattle.vx_tables.proofs.FitLemmas.{fits_more}
use Rattle.vx_tables.proofs.tables.block_typed.Goals as goal

pub returns-then-not-has_type_at-clause-types : goal.returns-then-not-has_type_at-clause-types
returns-then-not-has_type_at-clause-types c =
    let more = typed_more (field_types c.args.fields.now) c.args.columns.now c.loop-i.i c.index-columns-i.result c.loop-i-test.true in
    let own : is_type (slice_get (field_types c.args.fields.now) c.loop-i.i) (get_or c.args.columns.now c.loop-i.i c.index-columns-i.result).ty ≡ false = ap (λ (d : Column). is_type (slice_get (field_types c.args.fields.now) c.loop-i.i) d.ty) (sym c.index-columns-i.is) ∙ sym c.has_type_at.ensures.types ∙ c.if-not-has_type_at.true in
    sym (c.loop-i.invariant.0 ∙ rw own at more)

pub loop-i-preserved : goal.loop-i-preserved
loop-i-preserved c =
    let more = typed_more (field_types c.args.fields.now) c.args.columns.now c.loop-i.i c.index-columns-i.result c.loop-i-test.true in
    let own : is_type (slice_get (field_types c.args.fields.now) c.loop-i.i) (get_or c.args.columns.now c.loop-i.i c.index-columns-i.result).ty ≡ true = ap (λ (d : Column). is_type (slice_get (field_types c.args.fields.now) c.loop-i.i) d.ty) (sym c.index-columns-i.is) ∙ sym c.has_type_at.ensures.types ∙ c.if-not-has_type_at.false in
    let fits = fits_more c.args.columns.now c.loop-i.i c.index-columns-i.result c.loop-i-test.true c.index-columns-i.is c.has_type_at.ensures.fit in
    (c.loop-i.invariant.0 ∙ rw own at more, c.loop-i.invariant.1 ∙ fits)
