use Rattle.std.proofs.Common.{arith}
use Rattle.vx_wire_bytes.proofs.laws.one_limit.Goals as goal

pub returns : goal.returns
returns c = λ bytes deep many.
    let first = deep.first many.prefix many.rest many.depth many.bytes_are many.many in
    let last = many.first deep.prefix deep.rest deep.count deep.bytes_are deep.deep in
    omega (arith, first, last)
