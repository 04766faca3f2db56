use Rattle.vx_laws_explaining.proofs.SkippedBlocks.{each_block_is_told, number_is_skipped, skipped_are_scans}
use Rattle.vx_laws_explaining.proofs.laws.skipped_as_scans.Goals as goal

pub returns : goal.returns
returns c = record { skipped = skipped_are_scans; number = number_is_skipped; each = each_block_is_told }
