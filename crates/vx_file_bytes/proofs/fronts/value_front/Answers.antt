use Rattle.std.proofs.Common.{Some, ap, ◌∙◌, subst, arith}
use Rattle.std.specs.Prelude.{option_map}
use Rattle.vx_dtype.specs.RawViews.{raw_view}
use Rattle.vx_dtype.specs.TypeViews.{type_view}
use Rattle.vx_wire_bytes.specs.Fields.{IsFieldAt}
use Rattle.vx_wire_bytes.specs.ValueForms.{value_bytes, IsValue}
use Rattle.vx_wire_bytes.specs.ValueReading.{value_at}
use Rattle.vx_laws_file.proofs.Readers.{value_reader}
use Rattle.vx_file_bytes.proofs.FrontLemmas.{front_read, no_front_read}
use Rattle.vx_file_bytes.proofs.fronts.value_front.Goals as goal

pub returns-in_default-clause-read : goal.returns-in_default-clause-read
returns-in_default-clause-read c =
    let t = type_view c.args.dtype.now in
    no_front_read (value_bytes t) (IsValue t) (value_at t) (value_reader t) c.args.bytes.now (λ i. omega (arith, c.type_inv.bytes i))
    (subst (λ o. IsFieldAt (value_bytes t) (IsValue t) c.args.bytes.now 0 (option_map (λ x. (raw_view x.0, x.1)) o)) c.in_default.is c.in_ok-value.ensures)

pub returns-clause-read : goal.returns-clause-read
returns-clause-read c =
    let t = type_view c.args.dtype.now in
    ap (λ r. Some (raw_view c.in-Some.value, r)) c.split_at.ensures.back
    ∙ front_read (value_bytes t) (IsValue t) (value_at t) (value_reader t) c.args.bytes.now (raw_view c.in-Some.value) c.in-Some.after
    (subst (λ o. IsFieldAt (value_bytes t) (IsValue t) c.args.bytes.now 0 (option_map (λ x. (raw_view x.0, x.1)) o)) c.in-Some.is c.in_ok-value.ensures)
