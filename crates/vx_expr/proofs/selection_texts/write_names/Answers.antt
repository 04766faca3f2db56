use Rattle.std.proofs.Common.{rules, ◌≡◌, refl, ap, sym, ◌∙◌, ◌+◌, ◌<◌, [], ◌++◌, length, append_assoc, drop}
use Rattle.std.proofs.Math.ListN.{get_or}
use Rattle.std.proofs.Output.{has_written_append}
use Rattle.vx_dtype.specs.Texts.{separator_at}
use Rattle.vx_expr.specs.SelectionTexts.{joined_names}
use Rattle.vx_expr.proofs.TextLemmas.{joined_names_step}
use Rattle.vx_expr.proofs.selection_texts.write_names.Goals as goal

pub loop-i-init : goal.loop-i-init
loop-i-init g c = λ p. ([], (record { wrote = record { parts = []; calls = refl; whole = refl }; plain = p }, refl))

pub loop-i-preserved : goal.loop-i-preserved
loop-i-preserved g c = λ p.
    let w = c.loop-i.invariant p in
    let names = c.args.names.now in
    let name = c.index-names-i.result in
    let within : c.loop-i.i < length names = search rules in
    let named : name ≡ get_or names c.loop-i.i name = search rules in
    let piece = separator_at c.loop-i.i ++ name in
    let rest = joined_names (separator_at (c.loop-i.i + 1)) (drop (c.loop-i.i + 1) names) in
    let same : separator_at c.loop-i.i ++ get_or names c.loop-i.i name ++ rest ≡ piece ++ rest =
    λ i. separator_at c.loop-i.i ++ sym named i ++ rest in
    let step = joined_names_step names c.loop-i.i name within in
    (w.0 ++ piece, (has_written_append _ _ w.0 _ piece _ w.1.0 (search rules), w.1.1 ∙ ap (λ bs. w.0 ++ bs) (step ∙ same) ∙ sym (append_assoc w.0 piece rest)))
