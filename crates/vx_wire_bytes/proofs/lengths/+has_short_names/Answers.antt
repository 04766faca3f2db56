use Rattle.std.proofs.Common.{◌<◌, ◌≤◌, refl, sym, ap, subst, arith}
use Rattle.vx_dtype.specs.TypeRules.{depth_of}
use Rattle.vx_dtype.specs.TypeViews.{type_view}
use Rattle.vx_wire_bytes.specs.Fields.{IsShort, IsText}
use Rattle.vx_dtype.proofs.FieldsFrom.{depth-at, has_name_at, has_type_at}
use Rattle.vx_wire_bytes.proofs.TypeWriting.{length-field_names}
use Rattle.vx_wire_bytes.proofs.LengthLemmas.{fields_go_on, long_name, fields_pass, decides_no, decides_yes}
use Rattle.vx_wire_bytes.proofs.lengths.+has_short_names.Goals as goal

pub has_short_fields-returns-then-nfields-ge-LONG-clause-decides : goal.has_short_fields-returns-then-nfields-ge-LONG-clause-decides
has_short_fields-returns-then-nfields-ge-LONG-clause-decides t c = decides_no (λ h. omega (arith, h.0, c.if-nfields-ge-LONG.true, c.nfields.ensures, length-field_names c.args.fields.now))

pub has_short_fields-unreachable-requires : goal.has_short_fields-unreachable-requires
has_short_fields-unreachable-requires t c = has_name_at c.args.fields.now c.loop-i.i (subst (λ n. c.loop-i.i < n) c.nfields-i-end.ensures c.loop-i-test.true) c.in_default.ensures

pub has_short_fields-unreachable-requires-in_default-field_by_index : goal.has_short_fields-unreachable-requires-in_default-field_by_index
has_short_fields-unreachable-requires-in_default-field_by_index t c =
    has_type_at c.args.fields.now c.loop-i.i (subst (λ n. c.loop-i.i < n) c.nfields-i-end.ensures c.loop-i-test.true) c.in_default-field_by_index.ensures

pub has_short_fields-returns-then-not-is_short-clause-decides : goal.has_short_fields-returns-then-not-is_short-clause-decides
has_short_fields-returns-then-not-is_short-clause-decides t c =
    decides_no (λ h.
    let at = long_name c.args.fields.now c.loop-i.i c.in-Some.name.now (type_view c.in-Some-field_by_index.dtype.now) (sym c.in-Some.ensures) (sym c.in-Some-field_by_index.ensures) c.loop-i.invariant h.1 in
    let never = c.if-not-is_short.ensures.decides.1 (subst IsShort (sym c.as_str.ensures) at.0) in
    cc)

pub has_short_fields-has_short_names-requires : goal.has_short_fields-has_short_names-requires
has_short_fields-has_short_names-requires t c =
    (omega (arith, c.decreases, depth-at c.loop-i.i c.args.fields.now (type_view c.in-Some-field_by_index.dtype.now) (sym c.in-Some-field_by_index.ensures)), tt)

pub has_short_fields-returns-then-not-has_short_names-clause-decides : goal.has_short_fields-returns-then-not-has_short_names-clause-decides
has_short_fields-returns-then-not-has_short_names-clause-decides t c =
    decides_no (λ h.
    let at = long_name c.args.fields.now c.loop-i.i c.in-Some.name.now (type_view c.in-Some-field_by_index.dtype.now) (sym c.in-Some.ensures) (sym c.in-Some-field_by_index.ensures) c.loop-i.invariant h.1 in
    let never = c.if-not-has_short_names.ensures.decides.1 at.1 in
    cc)

pub has_short_fields-loop-i-preserved : goal.has_short_fields-loop-i-preserved
has_short_fields-loop-i-preserved t c =
    let name = subst IsText c.as_str.ensures (c.if-not-is_short.ensures.text refl) in
    fields_go_on c.args.fields.now c.loop-i.i c.in-Some.name.now (type_view c.in-Some-field_by_index.dtype.now) (sym c.in-Some.ensures) (sym c.in-Some-field_by_index.ensures) name
    (c.if-not-has_short_names.ensures.decides.0 refl) (c.if-not-has_short_names.ensures.names refl) c.loop-i.invariant

pub has_short_fields-returns-clause-decides : goal.has_short_fields-returns-clause-decides
has_short_fields-returns-clause-decides t c =
    let all = fields_pass c.args.fields.now c.loop-i.i (subst (λ n. n ≤ c.loop-i.i) c.nfields-i-end.ensures c.loop-i-test.false) c.loop-i.invariant in
    decides_yes (omega (arith, c.if-nfields-ge-LONG.false, c.nfields.ensures, length-field_names c.args.fields.now), all.1)

pub has_short_fields-returns-clause-names : goal.has_short_fields-returns-clause-names
has_short_fields-returns-clause-names t c e =
    let all = fields_pass c.args.fields.now c.loop-i.i (subst (λ n. n ≤ c.loop-i.i) c.nfields-i-end.ensures c.loop-i-test.false) c.loop-i.invariant in
    (omega (arith, c.if-nfields-ge-LONG.false, c.nfields.ensures, length-field_names c.args.fields.now), all.0)

pub has_short_names-has_short_names-requires : goal.has_short_names-has_short_names-requires
unfolding depth_of
has_short_names-has_short_names-requires t c = (omega (arith, c.decreases, ap (λ d. depth_of (type_view d)) c.in-List.is, ap depth_of c.dtype.ensures), tt)

pub has_short_names-has_short_fields-requires : goal.has_short_names-has_short_fields-requires
unfolding depth_of
has_short_names-has_short_fields-requires t c = (omega (arith, c.decreases, ap (λ d. depth_of (type_view d)) c.in-Struct.is), tt)
