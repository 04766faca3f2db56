use Rattle.std.proofs.Common.{◌≡◌, ◌%◌, ◌/◌, ◌-◌, ◌++◌, sym, subst}
use Rattle.std.specs.Prelude.{OnOk}
use Rattle.vx_wire_bytes.specs.ValueForms.{little_endian}
use Rattle.vx_wire_bytes.proofs.ValueWriting.{little_endian_step, then_more, ok_then}
use Rattle.vx_wire_bytes.proofs.value_writing.+push_little_endian.Goals as goal

pub returns-clause-ok : goal.returns-clause-ok
returns-clause-ok t c =
    subst (λ b. OnOk c.push_little_endian.result (c.push_little_endian.new.out.items ≡ c.args.out.now.items ++ b)) (sym (little_endian_step c.args.width c.args.n c.if-width-eq0.false))
    (ok_then c.push_little_endian.result (then_more c.args.out.now.items c.push.new.self.items c.push_little_endian.new.out.items (little_endian (c.args.width - 1) (c.args.n / 256)) (c.args.n % 256) c.in_ok-push.ensures.items) c.push_little_endian.ensures.ok)
