-- The line of the scan in plain numbers.
use Rattle.std.proofs.Common.{◌≡◌, ◌∙◌, ap, refl, ℕ, ◌+◌, ◌/◌, ℤ, pos, ◌+ℤ◌, List, [], ◌∷◌, map, length, filter, fold, sum}
use Rattle.std.proofs.lemmas.List.{length-map}
use Rattle.std.proofs.lemmas.List.FromFn.{length-range_with_len}
use Rattle.vx_dtype.specs.Values.{Val}
use Rattle.vx_laws_generated.specs.GeneratedTable.{block_length, block_numbers}
use Rattle.vx_laws_generated.specs.GeneratedLine.{answered_rows, skipped_in, number_of, sum_of, summary_line}
use Rattle.vx_laws_generated.specs.GeneratedLaws.{answered_ids, is_skipped, GeneratedLineIsOfNumbers}
use Rattle.vx_laws_generated.proofs.Answered.{id_val, generated_scans_answer_ids}
use Rattle.vx_laws_generated.proofs.Skipped.{generated_scans_skip}

-- a sum of row numbers as values is their sum, from any number on
sum-from : (a : ℕ) (ns : List ℕ) → fold (λ (s : ℤ) (x : Val). s +ℤ number_of x) (pos a) (map id_val ns) ≡ pos (fold (λ (b x : ℕ). b + x) a ns)
sum-from a [] = refl
sum-from a (n ∷ ns) = sum-from (a + n) ns

sum-of-ids : (ns : List ℕ) → sum_of (map id_val ns) ≡ pos (sum ns)
sum-of-ids ns = sum-from 0 ns

pub generated_line_is_of_numbers : GeneratedLineIsOfNumbers
generated_line_is_of_numbers rows =
    let ids = answered_ids rows in
    let kept = (generated_scans_answer_ids rows).kept in
    ap (λ (n : ℕ). summary_line n (length (skipped_in rows)) (length (answered_rows rows)) (sum_of (answered_rows rows)))
    (length-map (block_numbers rows) (block_length rows) ∙ length-range_with_len 0 ((rows + 63) / 64))
    ∙ ap (λ (ks : List ℕ). summary_line ((rows + 63) / 64) (length ks) (length (answered_rows rows)) (sum_of (answered_rows rows))) (generated_scans_skip rows)
    ∙ ap (λ (xs : List Val). summary_line ((rows + 63) / 64) (length (filter (is_skipped rows) (block_numbers rows))) (length xs) (sum_of xs)) kept
    ∙ ap (λ (n : ℕ). summary_line ((rows + 63) / 64) (length (filter (is_skipped rows) (block_numbers rows))) n (sum_of (map id_val ids))) (length-map ids id_val)
    ∙ ap (λ (z : ℤ). summary_line ((rows + 63) / 64) (length (filter (is_skipped rows) (block_numbers rows))) (length ids) z) (sum-of-ids ids)
