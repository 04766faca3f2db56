use Rattle.std.proofs.lemmas.Bool.Decides.{same_from_decides}
use Rattle.vx_texts.specs.TextsEqual.{texts_eq, texts_decides}
use Rattle.vx_texts.proofs.texts.TextsPartialEq.eq.Goals as goal

pub returns-clause-gives : goal.returns-clause-gives
returns-clause-gives c =
    let l = c.args.self.now in
    let r = c.args.other.now in
    same_from_decides c.same_texts.result (texts_eq l r) c.same_texts.ensures (texts_decides l r)
