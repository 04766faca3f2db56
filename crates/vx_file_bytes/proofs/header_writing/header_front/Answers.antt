use Rattle.std.proofs.Common.{◌≡◌, true, sym, subst}
use Rattle.vx_dtype.specs.Types.{Fields}
use Rattle.vx_zones.specs.Zoning.{are_shallow}
use Rattle.vx_file_bytes.proofs.WritingLemmas.{shallow_zones}
use Rattle.vx_file_bytes.proofs.header_writing.header_front.Goals as goal

pub write_row_type-requires-clause-shallow : goal.write_row_type-requires-clause-shallow
write_row_type-requires-clause-shallow c =
    subst (λ (fs : Fields). are_shallow fs ≡ true) (sym c.columns_of.ensures.columns) (shallow_zones c.args.zones.now c.columns_of.ensures.rules)
