use Rattle.vx_laws_writing.proofs.WrittenTables.{what_is_written_is_the_table}
use Rattle.vx_laws_writing.proofs.laws.what_is_written_is_the_table.Goals as goal

pub returns : goal.returns
returns c = what_is_written_is_the_table
