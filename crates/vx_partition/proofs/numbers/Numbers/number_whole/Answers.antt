use Rattle.vx_partition.proofs.numbers.Numbers.number_whole.Goals as goal

pub returns : goal.returns
returns c = record { number = c.in_ok-number.ensures.numbers.0; grown = c.in_ok-number.ensures.grown }
