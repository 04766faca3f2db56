use Rattle.std.proofs.Common.{◌≡◌, ◌∙◌, sym, ap, ◌<◌, ◌++◌, map, length, arith}
use Rattle.std.proofs.lemmas.List.{length-map, length-set}
use Rattle.vx_zones.specs.ZoneViews.{stat_view}
use Rattle.vx_zones.specs.declared.zones.ZoneStat.{ZoneStat}
use Rattle.vx_laws_shell.specs.Folders.{stat_before}
use Rattle.vx_folder.specs.FolderAnswers.{growing_view}
use Rattle.vx_folder.proofs.FetchLemmas.{got}
use Rattle.vx_folder.proofs.StatLemmas.{first_before, all_before, grown_further}
use Rattle.vx_folder.proofs.gathering.add_stats.Goals as goal

pub loop-i-preserved : goal.loop-i-preserved
loop-i-preserved c =
    let l = c.loop-i in
    let old = c.args.growing.now.items in
    let stats = c.args.stats.now in
    let g = c.index_mut.result.now in
    let next = c.add_values.new.growing in
    let s = c.index-stats-i.result in
    let more = c.in_ok-add_values.ensures in
    let same : length (map growing_view old) ≡ length (map stat_view stats) = length-map old growing_view ∙ c.requires ∙ sym (length-map stats stat_view) in
    let within : l.i < length l.growing.items = omega (arith, c.loop-i-test.true, l.invariant.0) in
    let own = c.as_slice.ensures ∙ ap (λ (z : ZoneStat). z.values) (sym c.index-stats-i.is) in
    let values = more.values ∙ ap (λ vs. g.values.items ++ vs) own in
    let grown : growing_view next ≡ stat_before (growing_view g) (stat_view s) = λ i. record { path = more.path i; stat = more.stat i; values = values i } in (
      length-set l.growing.items l.i next ∙ l.invariant.0,
      grown_further growing_view stat_view (map growing_view old) l.growing.items stats l.i g next s same (got l.growing.items l.i g g within c.index_mut.ensures.value)
          (got stats l.i s s c.loop-i-test.true c.index-stats-i.is) grown l.invariant.1,
    )

pub returns : goal.returns
returns c =
    let l = c.loop-i in
    let zs = map growing_view c.args.growing.now.items in
    let os = map stat_view c.args.stats.now in
    let same : length zs ≡ length os = length-map c.args.growing.now.items growing_view ∙ c.requires ∙ sym (length-map c.args.stats.now stat_view) in
    let all : l.i ≡ length os = omega (arith, c.loop-i-test.false, l.auto.i-end, length-map c.args.stats.now stat_view) in
    l.invariant.1 ∙ ap (λ n. first_before n zs os) all ∙ all_before zs os same
