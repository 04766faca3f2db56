use Rattle.vx_laws_text.proofs.LongestTokens.{token_stands, no_longer_stands}
use Rattle.vx_laws_text.proofs.tokens.tokens_are_longest.Goals as goal

pub returns : goal.returns
returns c = record { stands = token_stands; longest = no_longer_stands }
