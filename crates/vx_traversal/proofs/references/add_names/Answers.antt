use Rattle.std.proofs.Common.{rules, ◌≡◌, ◌<◌, slice_get, length, refl, subst}
use Rattle.std.specs.Prelude.{Some}
use Rattle.std.proofs.lemmas.Option.{slice_get_read}
use Rattle.vx_traversal.proofs.ReferenceLemmas.{adds-drop}
use Rattle.vx_traversal.proofs.references.add_names.Goals as goal

pub loop-i-preserved : goal.loop-i-preserved
loop-i-preserved c =
    let within : c.loop-i.i < length c.as_slice-names.result.now = search rules in
    let at : slice_get c.args.names.now c.loop-i.i ≡ Some c.index-names-i.result =
    subst (λ names. slice_get names c.loop-i.i ≡ Some c.index-names-i.result) c.as_slice-names.ensures (slice_get_read c.as_slice-names.result.now (length c.as_slice-names.result.now) c.loop-i.i c.index-names-i.result refl within c.index-names-i.is) in
    λ after rest. c.loop-i.invariant after (adds-drop c.args.names.now c.loop-i.i c.index-names-i.result c.loop-i.fields.keys c.add_name.new.fields.keys after at c.in_ok-add_name.ensures rest)
