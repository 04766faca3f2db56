use Rattle.std.proofs.Common.{map}
use Rattle.csv.specs.Records.{fields_of}
use Rattle.vx_csv.proofs.FormLemmas.{named}
use Rattle.vx_csv.proofs.tables.typed_under.Goals as goal

pub typed_behind-requires-clause-names : goal.typed_behind-requires-clause-names
typed_behind-requires-clause-names c = (named (fields_of c.args.header.now) (map fields_of c.args.rows.now) c.in_ok-names.names.items c.in_ok-names.ensures).distinct

pub typed_behind-requires-clause-texts : goal.typed_behind-requires-clause-texts
typed_behind-requires-clause-texts c = (named (fields_of c.args.header.now) (map fields_of c.args.rows.now) c.in_ok-names.names.items c.in_ok-names.ensures).texts
