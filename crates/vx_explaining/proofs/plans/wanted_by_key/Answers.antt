use Rattle.std.proofs.Common.{rules, ◌≡◌, Ok, Err}
use Rattle.vx_laws_shell.specs.Wants.{ask_by, first_by, too_many, wanted_by}
use Rattle.vx_explaining.proofs.PlanLemmas.{too_many_told}
use Rattle.vx_explaining.proofs.plans.wanted_by_key.Goals as goal

pub returns-then-count-gt-MOST_BY_KEY : goal.returns-then-count-gt-MOST_BY_KEY
returns-then-count-gt-MOST_BY_KEY c = λ columns plan key.
    let refused : wanted_by columns plan key c.args.limit ≡ Err (too_many c.in-Some.count) = search rules in
    too_many_told c.in-Some.count (wanted_by columns plan key c.args.limit) c.too_many.result refused c.too_many.ensures

pub returns-else-count-gt-MOST_BY_KEY : goal.returns-else-count-gt-MOST_BY_KEY
returns-else-count-gt-MOST_BY_KEY c = λ columns plan key.
    let wanted : wanted_by columns plan key c.args.limit ≡ Ok (first_by (ask_by columns plan key c.in-Some.count)) = search rules in
    (first_by (ask_by columns plan key c.in-Some.count), wanted)
