use Rattle.vx_csv.proofs.Texts.{text-known}
use Rattle.vx_csv.proofs.forms.name_of.Goals as goal

pub unreachable-requires : goal.unreachable-requires
unreachable-requires c = c.in-Err.ensures.cases.0 (text-known c.args.cell.now c.requires)
