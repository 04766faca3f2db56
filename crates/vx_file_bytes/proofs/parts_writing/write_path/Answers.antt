use Rattle.std.proofs.Common.{◌++◌, length, refl, sym, subst, arith}
use Rattle.vx_dtype.specs.PathViews.{part_name}
use Rattle.vx_wire_bytes.specs.Numbers.{number_bytes, piece_bytes}
use Rattle.vx_wire_bytes.specs.Fields.{IsShort, IsText}
use Rattle.vx_file_bytes.proofs.WritingLoops.{item_here, seen_length, seen_breaks, counted_ends}
use Rattle.vx_file_bytes.proofs.parts_writing.write_path.Goals as goal

pub returns-then-not-is_short_name-clause-err : goal.returns-then-not-is_short_name-clause-err
returns-then-not-is_short_name-clause-err c p =
    let here = item_here c.parts-parts.result.now c.loop-i.i c.index-parts-i.result c.loop-i-test.true c.index-parts-i.is in
    let short = seen_breaks part_name piece_bytes IsText IsShort (c.args.out.now.items ++ number_bytes (length c.args.path.now)) c.loop-i.out.items c.parts-parts.result.now
    c.args.path.now c.loop-i.i c.index-parts-i.result c.parts-parts.ensures here c.loop-i.invariant p.1 in
    let never = c.if-not-is_short_name.ensures.decides.1 (subst IsShort (sym c.name_of-name.ensures) short) in
    cc

pub returns-clause-ok : goal.returns-clause-ok
returns-clause-ok c =
    let count = seen_length part_name c.parts-parts.result.now c.args.path.now c.parts-parts.ensures in
    counted_ends part_name piece_bytes IsText IsShort c.args.out.now.items c.loop-i.out.items c.parts-parts.result.now c.args.path.now (length c.args.path.now) c.loop-i.i
    c.parts-parts.ensures refl c.loop-i-test.false (omega (arith, c.if-parts-ge-LONG.false, count)) c.loop-i.invariant
