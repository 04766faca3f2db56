use Rattle.std.proofs.Common.{sym}
use Rattle.csv.specs.Records.{fields_of}
use Rattle.vx_csv.proofs.Texts.{cells-texts}
use Rattle.vx_csv.proofs.forms.names_in.Goals as goal

pub names_of-requires : goal.names_of-requires
names_of-requires c = cells-texts 0 1 (fields_of c.args.header.now) (sym c.in_default.ensures)
