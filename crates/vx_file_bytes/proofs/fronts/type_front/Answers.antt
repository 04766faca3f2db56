use Rattle.std.proofs.Common.{Some, ap, ◌∙◌, subst, arith}
use Rattle.std.specs.Prelude.{option_map}
use Rattle.vx_dtype.specs.TypeRules.{most_deep}
use Rattle.vx_dtype.specs.TypeViews.{type_view}
use Rattle.vx_wire_bytes.specs.Fields.{IsFieldAt}
use Rattle.vx_wire_bytes.specs.TypeForms.{type_bytes, IsType}
use Rattle.vx_wire_bytes.specs.TypeReading.{type_at}
use Rattle.vx_laws_file.proofs.Readers.{type_reader}
use Rattle.vx_file_bytes.proofs.FrontLemmas.{front_read, no_front_read}
use Rattle.vx_file_bytes.proofs.fronts.type_front.Goals as goal

pub returns-in_default : goal.returns-in_default
returns-in_default c =
    no_front_read type_bytes IsType (type_at most_deep) type_reader c.args.bytes.now (λ i. omega (arith, c.type_inv.bytes i))
    (subst (λ o. IsFieldAt type_bytes IsType c.args.bytes.now 0 (option_map (λ x. (type_view x.0, x.1)) o)) c.in_default.is c.in_ok-dtype.ensures)

pub returns : goal.returns
returns c =
    ap (λ r. Some (type_view c.in-Some.dtype, r)) c.split_at.ensures.back
    ∙ front_read type_bytes IsType (type_at most_deep) type_reader c.args.bytes.now (type_view c.in-Some.dtype) c.in-Some.after
    (subst (λ o. IsFieldAt type_bytes IsType c.args.bytes.now 0 (option_map (λ x. (type_view x.0, x.1)) o)) c.in-Some.is c.in_ok-dtype.ensures)
