use Rattle.std.proofs.Common.{rules, ◌≡◌, ◌∙◌, sym, Decides}
use Rattle.vx_folder.specs.FolderAnswers.{AreOfForm, gathered_zones}
use Rattle.vx_folder.proofs.AlikeLemmas.{is_not, of_form, other_columns, columns_differ, columns_agree}
use Rattle.vx_folder.proofs.JoinLemmas.{kinds_of}
use Rattle.vx_folder.proofs.gathering.Gathered.is_alike.Goals as goal

pub returns-then-ne : goal.returns-then-ne
returns-then-ne c =
    let form = gathered_zones c.args.self.now in
    let zones = c.args.zones.now in
    let fails = columns_differ c.columns_of.result.now c.args.self.now.columns c.ne.result c.ne.ensures c.if-ne.true in
    is_not (AreOfForm form zones) (other_columns form zones (λ same. fails (c.columns_of.ensures.columns ∙ same)))

pub returns : goal.returns
returns c =
    let form = gathered_zones c.args.self.now in
    let zones = c.args.zones.now in
    let same = columns_agree c.columns_of.result.now c.args.self.now.columns c.ne.result c.ne.ensures c.if-ne.false in
    let stats : Decides c.are_alike.result (kinds_of zones.stats ≡ kinds_of form.stats) = search (rules, c.are_alike.ensures, c.statistics.ensures.stats, c.as_slice.ensures.value) in
    of_form form zones c.are_alike.result (sym c.columns_of.ensures.columns ∙ same) stats
