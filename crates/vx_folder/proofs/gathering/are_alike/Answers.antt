use Rattle.std.proofs.Common.{◌≡◌, ◌∙◌, sym, ap, map, arith}
use Rattle.std.proofs.lemmas.List.{map-id}
use Rattle.vx_semantics.specs.Tables.{ZoneStat}
use Rattle.vx_folder.specs.FolderAnswers.{growing_view}
use Rattle.vx_folder.proofs.AlikeLemmas.{is_not, one_unlike}
use Rattle.vx_folder.proofs.FetchLemmas.{got}
use Rattle.vx_folder.proofs.JoinLemmas.{kinds_of}
use Rattle.vx_folder.proofs.gathering.are_alike.Goals as goal

pub returns-then-not-is_alike : goal.returns-then-not-is_alike
returns-then-not-is_alike c =
    let stats = c.args.stats.now in
    let growing = c.args.growing.now in
    let i = c.loop-i.i in
    is_not (kinds_of stats ≡ kinds_of (map growing_view growing))
    (λ all. one_unlike (λ (z : ZoneStat). z) growing_view stats growing i c.index-stats-i.result c.index-growing-i.result
    (got stats i c.index-stats-i.result c.index-stats-i.result c.loop-i-test.true c.index-stats-i.is)
    (got growing i c.index-growing-i.result c.index-growing-i.result (omega (arith, c.loop-i-test.true, c.loop-i.invariant.0)) c.index-growing-i.is)
    (λ same. let twice = sym c.if-not-is_alike.true ∙ c.is_alike.ensures.1 same in let none : ⊥ = cc in none)
    (ap kinds_of (map-id stats) ∙ all))
