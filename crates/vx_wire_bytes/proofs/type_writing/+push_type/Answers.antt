use Rattle.std.proofs.Common.{◌<◌, ◌≤◌, ◌++◌, length, sym, ap, ◌∙◌, subst, arith}
use Rattle.std.proofs.lemmas.Result.{err_from_is_err_and}
use Rattle.vx_dtype.specs.TypeRules.{depth_of}
use Rattle.vx_dtype.specs.TypeViews.{type_view}
use Rattle.vx_wire_bytes.specs.Numbers.{piece_bytes}
use Rattle.vx_wire_bytes.specs.TypeForms.{HasNames}
use Rattle.vx_dtype.proofs.FieldsFrom.{depth-at, has_name_at, has_type_at}
use Rattle.vx_wire_bytes.proofs.TypeWriting.{extends_then, extends_by, length-field_names, fields_start, field_names_here, fields_step, fields_end}
use Rattle.vx_wire_bytes.proofs.type_writing.+push_type.Goals as goal

pub push_fields-overflow_cast-nfields : goal.push_fields-overflow_cast-nfields
push_fields-overflow_cast-nfields t c = omega (arith, c.requires.number, c.nfields.ensures, length-field_names c.args.fields.now)

pub push_fields-loop-i-init : goal.push_fields-loop-i-init
push_fields-loop-i-init t c =
    fields_start c.args.out.now.items c.write_number.new.out.items c.args.fields.now c.nfields.result c.requires.names (c.nfields.ensures ∙ length-field_names c.args.fields.now) c.in_ok-write_number.ensures.ok

pub push_fields-unreachable-requires : goal.push_fields-unreachable-requires
push_fields-unreachable-requires t c =
    has_name_at c.args.fields.now c.loop-i.i (subst (λ n. c.loop-i.i < n) c.nfields-i-end.ensures c.loop-i-test.true) c.in_default.ensures

pub push_fields-unreachable-requires-in_default-field_by_index : goal.push_fields-unreachable-requires-in_default-field_by_index
push_fields-unreachable-requires-in_default-field_by_index t c =
    has_type_at c.args.fields.now c.loop-i.i (subst (λ n. c.loop-i.i < n) c.nfields-i-end.ensures c.loop-i-test.true) c.in_default-field_by_index.ensures

pub push_fields-write_piece-requires : goal.push_fields-write_piece-requires
push_fields-write_piece-requires t c =
    let h = field_names_here c.args.out.now.items c.loop-i.out.items c.args.fields.now c.loop-i.i c.in-Some.name.now (type_view c.in-Some-field_by_index.dtype.now) (sym c.in-Some.ensures) (sym c.in-Some-field_by_index.ensures) c.loop-i.invariant in
    omega (arith, h.0.short, ap length (c.as_bytes.ensures.value ∙ c.as_str.ensures))

pub push_fields-push_type-requires : goal.push_fields-push_type-requires
push_fields-push_type-requires t c =
    let h = field_names_here c.args.out.now.items c.loop-i.out.items c.args.fields.now c.loop-i.i c.in-Some.name.now (type_view c.in-Some-field_by_index.dtype.now) (sym c.in-Some.ensures) (sym c.in-Some-field_by_index.ensures) c.loop-i.invariant in
    (omega (arith, c.decreases, depth-at c.loop-i.i c.args.fields.now (type_view c.in-Some-field_by_index.dtype.now) (sym c.in-Some-field_by_index.ensures)), h.1)

pub push_fields-returns-in_err-push_type-clause-err : goal.push_fields-returns-in_err-push_type-clause-err
push_fields-returns-in_err-push_type-clause-err t c =
    let p = err_from_is_err_and c.from_residual-in_err-push_type.result c.from_residual-in_err-push_type.ensures.1 in
    rw p.1 (extends_then c.args.out.now.items c.loop-i.out.items c.push_type.new.out.items c.loop-i.invariant.so_far
    (extends_then c.loop-i.out.items c.write_piece.new.out.items c.push_type.new.out.items (extends_by c.loop-i.out.items c.write_piece.new.out.items (piece_bytes c.as_bytes.result.now) c.in_ok-write_piece.ensures.ok) c.in_err-push_type.ensures.err))

pub push_fields-loop-i-preserved : goal.push_fields-loop-i-preserved
push_fields-loop-i-preserved t c =
    fields_step c.args.out.now.items c.loop-i.out.items c.write_piece.new.out.items c.push_type.new.out.items c.args.fields.now c.loop-i.i c.in-Some.name.now (type_view c.in-Some-field_by_index.dtype.now)
    (sym c.in-Some.ensures) (sym c.in-Some-field_by_index.ensures)
    (c.in_ok-write_piece.ensures.ok ∙ ap (λ f. c.loop-i.out.items ++ piece_bytes f) (c.as_bytes.ensures.value ∙ c.as_str.ensures)) c.in_ok-push_type.ensures.ok c.loop-i.invariant

pub push_fields-returns-clause-ok : goal.push_fields-returns-clause-ok
push_fields-returns-clause-ok t c = fields_end c.args.out.now.items c.loop-i.out.items c.args.fields.now c.loop-i.i (subst (λ n. n ≤ c.loop-i.i) c.nfields-i-end.ensures c.loop-i-test.false) c.loop-i.invariant

pub push_type-push_type-requires : goal.push_type-push_type-requires
unfolding depth_of
push_type-push_type-requires t c =
    let deep = ap (λ d. depth_of (type_view d)) c.in-List.is in
    (omega (arith, c.decreases, deep, ap depth_of c.dtype.ensures), subst HasNames (sym c.dtype.ensures) (subst (λ d. HasNames (type_view d)) c.in-List.is c.requires))

pub push_type-push_fields-requires : goal.push_type-push_fields-requires
unfolding depth_of
push_type-push_fields-requires t c =
    let deep = ap (λ d. depth_of (type_view d)) c.in-Struct.is in
    let names = subst (λ d. HasNames (type_view d)) c.in-Struct.is c.requires in
    (omega (arith, c.decreases, deep), (names.0, names.1))
