use Rattle.vx_laws_csv.proofs.Numbers.{numbers_are_their_texts, other_spellings}
use Rattle.vx_laws_csv.proofs.laws.numbers_are_their_texts.Goals as goal

pub returns : goal.returns
returns c = record { texts = numbers_are_their_texts; others = other_spellings }
