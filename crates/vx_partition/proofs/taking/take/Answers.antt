use Rattle.std.proofs.Common.{[], ◌∷◌, ◌++◌, ap, reverse, subst, sym, take, ◌∙◌}
use Rattle.vx_passes.specs.Splitting.{taken_from}
use Rattle.vx_partition.specs.Entries.{numbered_entries}
use Rattle.vx_partition.specs.Numbering.{known, AreNumbersOf}
use Rattle.vx_partition.proofs.taking.take.Goals as goal

pub fold_by-requires : goal.fold_by-requires
fold_by-requires g c =
    let known_now = known c.args.found.now.numbers in
    let next = c.in_ok-push.ensures.items ∙ ap (λ ns. ns ++ c.args.number ∷ []) c.new-next.ensures.items in
    record {
      sound = c.requires.sound;
      number = subst (λ ns. AreNumbersOf known_now (take 1 (reverse ns)) (c.args.expr.now ∷ [])) (sym next) (c.requires.number, tt);
    }

pub returns : goal.returns
returns g c =
    ap (taken_from g.A.PartialEq.eq g.A.Annotation.text (numbered_entries c.args.found.now) c.args.expr.now) (sym c.new.ensures) ∙ c.in_ok-made.ensures.taken
