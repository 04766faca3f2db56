use Rattle.std.proofs.Common.{rules, ◌≡◌, ◌∙◌, ◌++◌, codes, length, map}
use Rattle.std.specs.String.{string_bytes}
use Rattle.vx_laws_explaining.specs.Explained.{number_skipped, read_names}
use Rattle.vx_laws_explaining.specs.ExplainedTexts.{number_line}
use Rattle.vx_explaining.specs.ExplainedViews.{column_view}
use Rattle.vx_explaining.proofs.texts.number_lines.Goals as goal

pub returns : goal.returns
returns c =
    let columns = map column_view c.args.columns.now in
    let blocks = length c.args.lengths.now in
    let text : string_bytes c.in_ok-format.field-0 ≡ string_bytes c.in_ok-read.read ++ string_bytes c.in_ok-out.out = search rules in
    let read : string_bytes c.in_ok-read.read ≡ number_line (codes "columns read ") (length (read_names columns)) (length columns) =
    c.in_ok-read.ensures ∙ (λ i. number_line (codes "columns read ") (c.number_read.ensures i) (c.number_of.ensures i)) in
    let out : string_bytes c.in_ok-out.out ≡ number_line (codes "blocks skipped ") (number_skipped c.args.skipped.now) blocks =
    c.in_ok-out.ensures ∙ (λ i. number_line (codes "blocks skipped ") (c.number_skipped.ensures i) blocks) in
    text ∙ (λ i. read i ++ out i)
