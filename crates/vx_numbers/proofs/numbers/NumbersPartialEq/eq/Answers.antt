use Rattle.std.proofs.lemmas.Bool.Decides.{same_from_decides}
use Rattle.vx_numbers.specs.NumbersEqual.{numbers_eq, numbers_decides}
use Rattle.vx_numbers.proofs.numbers.NumbersPartialEq.eq.Goals as goal

pub returns-clause-gives : goal.returns-clause-gives
returns-clause-gives c =
    let l = c.args.self.now in
    let r = c.args.other.now in
    same_from_decides c.same_list.result (numbers_eq l r) c.same_list.ensures (numbers_decides l r)
