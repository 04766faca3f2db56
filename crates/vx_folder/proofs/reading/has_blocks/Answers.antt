use Rattle.std.proofs.Common.{◌≡◌, ◌∙◌, sym, ap, ℕ, List, true, length, nat_eq, slice_range}
use Rattle.std.specs.List.{starts_with}
use Rattle.vx_folder.proofs.AlikeLemmas.{columns_agree}
use Rattle.vx_folder.proofs.FetchLemmas.{agrees_by}
use Rattle.vx_folder.proofs.reading.has_blocks.Goals as goal

pub returns-in-Some : goal.returns-in-Some
returns-in-Some c = λ e.
    let zones = c.args.zones.now in
    let file = c.args.file.now in
    let same = columns_agree c.columns_of.result.now c.columns_of-2.result.now c.ne.result c.ne.ensures c.if-ne.false in
    let columns = sym c.columns_of.ensures.columns ∙ same ∙ c.columns_of-2.ensures.columns in
    let starts : starts_with nat_eq c.in-Some.behind.now file.lengths ≡ true =
    ap (starts_with nat_eq c.in-Some.behind.now) (sym c.lengths-in-Some.ensures.lengths) ∙ sym c.starts_with.ensures.value ∙ e in
    let behind : c.in-Some.behind.now ≡ slice_range zones.lengths c.args.begin (length zones.lengths) =
    c.in-Some.ensures.lookup.0.2 ∙ ap (λ (ns : List ℕ). slice_range ns c.args.begin (length ns)) c.lengths.ensures.lengths in
    agrees_by zones file c.args.begin c.in-Some.behind.now columns behind starts
