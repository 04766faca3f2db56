use Rattle.vx_laws_writing.proofs.TextTables.{tables_are_of_their_texts}
use Rattle.vx_laws_writing.proofs.WrittenTables.{what_is_written_is_the_text}
use Rattle.vx_laws_writing.proofs.laws.what_is_written_is_the_text.Goals as goal

pub returns : goal.returns
returns c = record { tables = tables_are_of_their_texts; files = what_is_written_is_the_text }
