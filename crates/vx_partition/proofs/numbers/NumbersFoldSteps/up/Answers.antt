use Rattle.vx_partition.proofs.TableLemmas.{grows_on}
use Rattle.vx_partition.proofs.numbers.NumbersFoldSteps.up.Goals as goal

pub number-requires-clause-numbering : goal.number-requires-clause-numbering
number-requires-clause-numbering c = c.requires.1.grown.numbering

pub number-requires-clause-below : goal.number-requires-clause-below
number-requires-clause-below c = c.requires.1.numbers

pub returns : goal.returns
returns c = λ start below.
    record {
      numbers = (c.in_ok-number.ensures.number, tt);
      grown = grows_on start c.args.self.now c.number.new.self below.grown c.in_ok-number.ensures.grown;
    }
