use Rattle.std.proofs.Common.{◌<◌, ◌≤◌, sym, ◌∙◌, subst, arith}
use Rattle.vx_dtype.specs.TypeViews.{type_view}
use Rattle.vx_dtype.proofs.FieldsFrom.{has_name_at, has_type_at}
use Rattle.vx_wire_bytes.proofs.TypeWriting.{length-field_names, fields_start, field_names_here, fields_step, fields_end}
use Rattle.vx_file_bytes.proofs.WritingLemmas.{shallow_at}
use Rattle.vx_file_bytes.proofs.header_writing.write_columns.Goals as goal

pub overflow_cast-nfields : goal.overflow_cast-nfields
overflow_cast-nfields c = omega (arith, c.requires.number, c.nfields.ensures, length-field_names c.args.fields.now)

pub loop-i-init : goal.loop-i-init
loop-i-init c =
    fields_start c.args.out.now.items c.write_number.new.out.items c.args.fields.now c.nfields.result c.requires.names (c.nfields.ensures ∙ length-field_names c.args.fields.now) c.in_ok-write_number.ensures.ok

pub unreachable-requires : goal.unreachable-requires
unreachable-requires c =
    has_name_at c.args.fields.now c.loop-i.i (subst (λ n. c.loop-i.i < n) c.nfields-i-end.ensures c.loop-i-test.true) c.in_default.ensures

pub unreachable-requires-in_default-field_by_index : goal.unreachable-requires-in_default-field_by_index
unreachable-requires-in_default-field_by_index c =
    has_type_at c.args.fields.now c.loop-i.i (subst (λ n. c.loop-i.i < n) c.nfields-i-end.ensures c.loop-i-test.true) c.in_default-field_by_index.ensures

pub write_name-requires : goal.write_name-requires
write_name-requires c =
    let h = field_names_here c.args.out.now.items c.loop-i.out.items c.args.fields.now c.loop-i.i c.in-Some.name.now (type_view c.in-Some-field_by_index.dtype.now) (sym c.in-Some.ensures) (sym c.in-Some-field_by_index.ensures) c.loop-i.invariant in
    h.0.short

pub write_type-requires : goal.write_type-requires
write_type-requires c =
    let h = field_names_here c.args.out.now.items c.loop-i.out.items c.args.fields.now c.loop-i.i c.in-Some.name.now (type_view c.in-Some-field_by_index.dtype.now) (sym c.in-Some.ensures) (sym c.in-Some-field_by_index.ensures) c.loop-i.invariant in
    record { names = h.1; depth = shallow_at c.args.fields.now c.loop-i.i (type_view c.in-Some-field_by_index.dtype.now) (sym c.in-Some-field_by_index.ensures) c.requires.shallow }

pub loop-i-preserved : goal.loop-i-preserved
loop-i-preserved c =
    fields_step c.args.out.now.items c.loop-i.out.items c.write_name.new.out.items c.write_type.new.out.items c.args.fields.now c.loop-i.i c.in-Some.name.now (type_view c.in-Some-field_by_index.dtype.now)
    (sym c.in-Some.ensures) (sym c.in-Some-field_by_index.ensures) c.in_ok-write_name.ensures c.in_ok-write_type.ensures.ok c.loop-i.invariant

pub returns : goal.returns
returns c = fields_end c.args.out.now.items c.loop-i.out.items c.args.fields.now c.loop-i.i (subst (λ n. n ≤ c.loop-i.i) c.nfields-i-end.ensures c.loop-i-test.false) c.loop-i.invariant
