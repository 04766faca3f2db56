use Rattle.std.proofs.Common.{◌++◌, ◌∷◌, [], ap, ◌∙◌, arith}
use Rattle.vx_wire.proofs.FieldLemmas.{no_name, names_go_on, names_behind}
use Rattle.vx_wire.proofs.metadata.names_in.Goals as goal

pub returns-in_default-2 : goal.returns-in_default-2
returns-in_default-2 c = no_name c.args.bytes.now c.in-Some.number c.names.names.items c.names.at c.names.counter c.names.invariant c.names-test.true (rw c.in_default-2.is at c.in_ok-text.ensures)

pub names-preserved : goal.names-preserved
names-preserved c =
    names_go_on c.args.bytes.now c.in-Some.number c.names.names.items c.push.new.self.items c.names.at c.names.counter c.in-Some-2.text c.in-Some-2.after c.names.invariant
    (rw c.in-Some-2.is at c.in_ok-text.ensures)
    (c.in_ok-push.ensures.items ∙ ap (λ t. c.names.names.items ++ t ∷ []) (c.in_ok-new.ensures ∙ c.as_str.ensures))

pub returns-then-at-bytes : goal.returns-then-at-bytes
returns-then-at-bytes c = names_behind c.args.bytes.now c.in-Some.number c.names.names.items c.names.at c.names.counter c.names.invariant (omega arith) c.if-at-bytes.true
