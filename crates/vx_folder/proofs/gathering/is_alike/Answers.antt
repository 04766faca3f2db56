use Rattle.std.proofs.Common.{◌≡◌, ◌∙◌, sym, ap, not, List, rules}
use Rattle.vx_dtype.specs.Types.{Bytes}
use Rattle.vx_dtype.specs.Equal.{names_eq}
use denote.Enum.Bare.{same_true, true_same}
use Rattle.vx_dtype.specs.contracts.statistics.Stat.{the_type}
use Rattle.vx_laws_stats.specs.BuiltLaws.{path_and_stat}
use Rattle.vx_folder.specs.FolderAnswers.{growing_view}
use Rattle.vx_folder.proofs.AlikeLemmas.{is_not, paths_differ, paths_agree, alike_by_kinds, unlike_by_paths}
use Rattle.vx_folder.proofs.gathering.is_alike.Goals as goal

pub returns-then-ne : goal.returns-then-ne
returns-then-ne c =
    let z = c.args.stat.now in
    let own = growing_view c.args.growing.now in
    is_not (path_and_stat z ≡ path_and_stat own)
    (unlike_by_paths z own (paths_differ c.args.stat.now.path c.args.growing.now.path c.ne.result (c.ne.ensures ∙ ap (λ (p : List Bytes). not (names_eq p c.args.growing.now.path)) c.path.ensures) c.if-ne.true))

pub returns : goal.returns
returns c =
    let t = c.args.growing.now.stat in
    alike_by_kinds c.args.stat.now (growing_view c.args.growing.now) c.eq.result
    (paths_agree c.args.stat.now.path c.args.growing.now.path c.ne.result (c.ne.ensures ∙ ap (λ (p : List Bytes). not (names_eq p c.args.growing.now.path)) c.path.ensures) c.if-ne.false)
    (λ e. sym c.stat.ensures ∙ same_true the_type (search rules) c.stat.result t (sym c.eq.ensures ∙ e), λ e. c.eq.ensures ∙ true_same the_type c.stat.result t (c.stat.ensures ∙ e))
