use Rattle.std.proofs.Common.{◌≡◌, ◌∙◌, ap, subst, [], List}
use Rattle.std.specs.Prelude.{IfOk}
use Rattle.std.specs.String.{string_bytes}
use Rattle.vx_dtype.specs.Types.{Bytes}
use Rattle.vx_semantics.specs.Tables.{ZoneStat}
use Rattle.vx_display.specs.Spaced.{spaced}
use Rattle.vx_passes.specs.PruningTables.{pruning_over}
use Rattle.vx_prune.specs.Required.{PrunesBy}
use Rattle.vx_partition.specs.Splits.{split_view}
use Rattle.vx_partition.specs.SplitTexts.{split_text}
use Rattle.vx_explain.specs.Explanations.{pruning_of, pruning_text, required_names, parts_of, parts_text, explanation_lines}
use Rattle.vx_explain.proofs.ExplainLemmas.{parts_told}
use Rattle.vx_explain.proofs.explaining.explanation.Goals as goal

pub returns : goal.returns
returns c =
    let zones = c.args.zones.now in
    let f = c.args.filter.now in
    let p = c.args.projection.now in
    let answer = c.in_ok-pruning.pruning in
    let prunes : PrunesBy (pruning_of zones f) answer =
    subst (λ (paths : List (List Bytes)). PrunesBy (pruning_over paths f) answer) c.in_ok-available.ensures c.in_ok-pruning.ensures in
    let pruned : string_bytes c.in_ok-pruned.pruned ≡ pruning_text (pruning_of zones f) = c.in_ok-pruned.ensures (pruning_of zones f) prunes in
    let required : string_bytes c.in_ok-required.required ≡ spaced (required_names zones.stats (pruning_of zones f)) =
    c.in_ok-required.ensures (pruning_of zones f) prunes ∙ ap (λ (zs : List ZoneStat). spaced (required_names zs (pruning_of zones f))) c.statistics.ensures.stats in
    let filter_parts : string_bytes c.in_ok-filter_parts.filter_parts ≡ parts_text (parts_of zones.columns f) =
    c.in_ok-filter_parts.ensures ∙ ap (λ s. split_text (split_view s)) c.split-filter_split.ensures ∙ parts_told zones.columns [] f c.args.both.now.0 c.requires.filter in
    let projection_parts : string_bytes c.in_ok-projection_parts.projection_parts ≡ parts_text (parts_of zones.columns p) =
    c.in_ok-projection_parts.ensures ∙ ap (λ s. split_text (split_view s)) c.split-projection_split.ensures ∙ parts_told zones.columns [] p c.args.both.now.1 c.requires.projection in
    subst (λ (bytes : Bytes). IfOk c.lines.result (λ text. string_bytes text ≡ bytes))
    (λ i. explanation_lines (c.in_ok-filter_text.ensures i) (pruned i) (required i) (filter_parts i) (c.in_ok-projection_text.ensures i) (projection_parts i)) c.lines.ensures
