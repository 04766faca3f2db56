use Rattle.std.proofs.Common.{◌∙◌, subst, option_map}
use Rattle.vx_file_bytes.specs.HeaderViews.{header_view}
use Rattle.vx_laws_file.specs.Opening.{HasMark}
use Rattle.vx_file_open.specs.Layouts.{WhereBytes}
use Rattle.vx_file_open.specs.OpenAnswers.{IsFrontFound, FrontStands}
use Rattle.vx_file_open.proofs.OpenLemmas.{layout_opens}
use Rattle.vx_file_open.proofs.opening.read_layout.Goals as goal

pub returns-clause-opens : goal.returns-clause-opens
returns-clause-opens g c =
    let told = g.R.Ranged.bytes c.args.source.now in
    let now = g.R.Ranged.bytes c.has_mark.new.source in
    let after = g.R.Ranged.bytes c.header_front.new.source in
    let stands = subst (λ o. WhereBytes now (λ bytes. HasMark bytes → FrontStands (option_map (λ x. (header_view x.0, x.1)) o) bytes)) c.in-Some.is c.in_ok-header.ensures.stands in
    let front = subst (λ o. IsFrontFound (option_map (λ x. (header_view x.0, x.1)) o)) c.in-Some.is c.in_ok-header.ensures.found in
    layout_opens told now after c.in_ok-has_mark.field-0 (header_view c.in-Some.header) c.in_ok-layout.layout c.in-Some.front c.in_ok-ends.ends c.where_it_ends.result
    c.in_ok-has_mark.ensures.same (c.in_ok-header.ensures.same ∙ c.in_ok-has_mark.ensures.same) c.in_ok-has_mark.ensures.there c.if-not-branch.false stands front
    c.in_ok-layout.ensures.0 c.in_ok-layout.ensures.1 c.in_ok-ends.ensures.told c.in_ok-ends.ensures.ends c.where_it_ends.ensures
