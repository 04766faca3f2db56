use Rattle.vx_laws_bytes.proofs.Named.{short_queries}
use Rattle.vx_laws_bytes.proofs.short.queries_are_short.Goals as goal

pub returns : goal.returns
returns c = short_queries c.reading_is_the_grammar.ensures.read
