-- What is known of a store from what is seen of a part of it.
use Rattle.std.proofs.Common.{◌≡◌, refl, ap, sym, ◌∙◌, inl, inr, ℕ, zero, suc, ◌+◌, ◌-◌, Bool, true, cond, nat_le, nat_lt, Option, Some, None, option_map, List, [], ◌∷◌, ◌++◌, map, take, drop, arith}
use Rattle.std.specs.List.{filter, list_all}
use Rattle.std.proofs.lemmas.Bool.{and_parts, and_from, leb-true}
use Rattle.std.proofs.lemmas.List.{append_cancel_left}
use Rattle.vx_dtype.specs.declared.Stat.{Stat}
use Rattle.vx_dtype.specs.Types.{Bytes}
use Rattle.vx_dtype.specs.Values.{Val, Typed, value_of}
use Rattle.vx_semantics.specs.Tables.{ZoneStat}
use Rattle.vx_semantics.specs.Honest.{honest_value, honest_values}
use Rattle.vx_scan.specs.Stores.{Read}
use Rattle.vx_block_parts.specs.Parts.{is_between, read_from, read_behind, reads_between, read_between}
use Rattle.vx_block_parts.specs.PartMoves.{FailsBetween}
use Rattle.vx_block_parts.specs.PartLaws.{PartsReadTheirBlocks, PartsFailAtTheirBlocks, HonestPartsAreHonest}
use Rattle.vx_block_parts.proofs.SliceLemmas.{all_so, all_mapped}
use Rattle.vx_block_parts.proofs.RuleLemmas.{cut_stat}
use Rattle.vx_block_parts.proofs.SeenLemmas.{log_grows}

-- ---- reads

both_ways : (from up_to : ℕ) (read : Read) → is_between from up_to read ≡ true → read_behind from (read_from from read) ≡ read
both_ways from up_to read h =
    let low = leb-true from read.0 (and_parts (nat_le from read.0) (nat_lt read.0 up_to) h).0 in
    let same : from + (read.0 - from) ≡ read.0 = omega (arith, low) in
    λ i. (same i, read.1)

back_again : (from up_to : ℕ) (made : List Read) → list_all (is_between from up_to) made ≡ true → map (read_behind from) (reads_between from up_to made) ≡ made
back_again from up_to [] h = refl
back_again from up_to (read ∷ made) h =
    let parts = and_parts (is_between from up_to read) (list_all (is_between from up_to) made) h in
    let rest = filter (is_between from up_to) made in
    (λ i. map (read_behind from) (map (read_from from) (cond (parts.0 i) (read ∷ rest) rest)))
    ∙ (λ i. both_ways from up_to read parts.0 i ∷ back_again from up_to made parts.1 i)

pub reads_so : PartsReadTheirBlocks
reads_so from up_to before after made h e =
    let own = reads_between from up_to before.log in
    let more = reads_between from up_to h.made in
    let whole : own ++ more ≡ own ++ made = sym (ap (reads_between from up_to) h.grown ∙ log_grows from up_to before.log h.made) ∙ e in
    let same : more ≡ made = append_cancel_left own more made whole in
    h.grown ∙ ap (λ (rs : List Read). before.log ++ rs) (sym (back_again from up_to h.made h.between) ∙ ap (map (read_behind from)) same)

failed_again : (from up_to : ℕ) (read : Read) → is_between from up_to read ≡ true
    → option_map (read_behind from) (read_between from up_to (Some read)) ≡ Some read
failed_again from up_to read h =
    (λ i. option_map (read_behind from) (cond (h i) (Some (read_from from read)) None)) ∙ (λ i. Some (both_ways from up_to read h i))

pub fails_so : PartsFailAtTheirBlocks
fails_so from up_to before after h none = by h.failed
  where
    by : FailsBetween from up_to before.failed after.failed → after.failed ≡ option_map (read_behind from) (read_between from up_to after.failed)
    by (inl same) = let gone = same ∙ none in gone ∙ sym (ap (λ (o : Option Read). option_map (read_behind from) (read_between from up_to o)) gone)
    by (inr k) = k.1 ∙ sym (ap (λ (o : Option Read). option_map (read_behind from) (read_between from up_to o)) k.1 ∙ failed_again from up_to k.0 k.2)

-- ---- honest statistics

honest_first : (n : ℕ) (stat : Stat) (path : List Bytes) (values : List Typed) (blocks : List (List Val)) → honest_values stat path values blocks ≡ true
    → honest_values stat path (take n values) (take n blocks) ≡ true
honest_first zero stat path values blocks h = refl
honest_first (suc n) stat path [] blocks h = refl
honest_first (suc n) stat path (s ∷ values) [] h = refl
honest_first (suc n) stat path (s ∷ values) (rows ∷ blocks) h =
    let parts = and_parts (honest_value stat path (value_of s) rows) (honest_values stat path values blocks) h in
    and_from (honest_value stat path (value_of s) rows) (honest_values stat path (take n values) (take n blocks)) parts.0
    (honest_first n stat path values blocks parts.1)

honest_without : (stat : Stat) (path : List Bytes) (values : List Typed) → honest_values stat path values [] ≡ true
honest_without stat path [] = refl
honest_without stat path (s ∷ values) = refl

honest_later : (n : ℕ) (stat : Stat) (path : List Bytes) (values : List Typed) (blocks : List (List Val)) → honest_values stat path values blocks ≡ true
    → honest_values stat path (drop n values) (drop n blocks) ≡ true
honest_later zero stat path values blocks h = h
honest_later (suc n) stat path [] blocks h = refl
honest_later (suc n) stat path (s ∷ values) [] h = honest_without stat path (drop n values)
honest_later (suc n) stat path (s ∷ values) (rows ∷ blocks) h =
    honest_later n stat path values blocks (and_parts (honest_value stat path (value_of s) rows) (honest_values stat path values blocks) h).1

pub honest_so : HonestPartsAreHonest
honest_so from up_to zones table h =
    let blocks = drop from (take up_to table.blocks) in
    let honest : List (List Val) → ZoneStat → Bool = λ bs z. honest_values z.stat z.path z.values bs in
    all_mapped (honest blocks) (cut_stat (drop from)) (map (cut_stat (take up_to)) zones.stats)
    ∙ all_mapped (λ z. honest blocks (cut_stat (drop from) z)) (cut_stat (take up_to)) zones.stats
    ∙ all_so (honest table.blocks) (λ z. honest blocks (cut_stat (drop from) (cut_stat (take up_to) z)))
    (λ z k. honest_later from z.stat z.path (take up_to z.values) (take up_to table.blocks) (honest_first up_to z.stat z.path z.values table.blocks k)) zones.stats h
