use Rattle.std.proofs.Common.{◌∙◌, sym, ap, [], ◌∷◌, ◌++◌}
use Rattle.std.specs.HashSet.{contains}
use Rattle.std.specs.Str.{bytes_eq}
use Rattle.vx_query.proofs.AnswerLemmas.{filter_found, filter_left}
use Rattle.vx_query.proofs.answers.names_among.Goals as goal

pub loop-name-preserved : goal.loop-name-preserved
loop-name-preserved c =
    filter_found (contains bytes_eq c.args.set.now) c.args.names.now c.loop-name.found.items c.push.new.self.items c.loop-name.name-index c.name-item.result c.loop-name-test.true c.name-item.is (sym c.contains.ensures ∙ c.if-not-contains.false) c.loop-name.invariant (c.in_ok-push.ensures.items ∙ ap (λ x. c.loop-name.found.items ++ (x ∷ [])) c.in_ok-clone.ensures.cases)

pub loop-name-preserved-then-not-contains : goal.loop-name-preserved-then-not-contains
loop-name-preserved-then-not-contains c =
    filter_left (contains bytes_eq c.args.set.now) c.args.names.now c.loop-name.found.items c.loop-name.name-index c.name-item.result c.loop-name-test.true c.name-item.is (sym c.contains.ensures ∙ c.if-not-contains.true) c.loop-name.invariant
