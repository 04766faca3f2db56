use Rattle.std.proofs.Common.{map}
use Rattle.csv.specs.Records.{fields_of}
use Rattle.vx_csv.proofs.FormLemmas.{named}
use Rattle.vx_csv.proofs.tables.found_under.Goals as goal

pub found_behind-requires-clause-names : goal.found_behind-requires-clause-names
found_behind-requires-clause-names c = (named (fields_of c.args.header.now) (map fields_of c.args.rows.now) c.in_ok-names.names.items c.in_ok-names.ensures).distinct

pub found_behind-requires-clause-texts : goal.found_behind-requires-clause-texts
found_behind-requires-clause-texts c = (named (fields_of c.args.header.now) (map fields_of c.args.rows.now) c.in_ok-names.names.items c.in_ok-names.ensures).texts
