use Rattle.std.proofs.Common.{◌≡◌, ◌∙◌, ap, sym, subst, cond, not, Some, List, ℕ}
use Rattle.std.proofs.Math.ListN.{get_or}
use Rattle.std.proofs.lemmas.List.{take_all}
use Rattle.std.proofs.lemmas.Map.Text.{is_eq-slice_cmp}
use Rattle.std.specs.BTreeMap.{get, is_at}
use Rattle.std.specs.Cmp.Lexicographic.{slice_cmp}
use Rattle.std.specs.Map.{lookup}
use Rattle.std.specs.Ordering.{nat_cmp}
use Rattle.std.specs.Prelude.{is_some}
use Rattle.vx_prune.specs.Standing.{NotesStanding}
use Rattle.vx_prune.proofs.StandingLemmas.{one_more_noted}
use Rattle.vx_prune.proofs.name_counts.standing.Goals as goal

pub loop-name-init : goal.loop-name-init
loop-name-init c = λ n. ap (lookup (is_at (slice_cmp nat_cmp n))) c.new-noted.ensures.empty

pub loop-name-preserved : goal.loop-name-preserved
loop-name-preserved c = λ n.
    let l = c.loop-name in
    let noted = get (slice_cmp nat_cmp) l.noted in
    let x = c.in_ok-clone.field-0 in
    let own : x ≡ c.name-item.result = c.in_ok-clone.ensures.cases in
    let is : x ≡ get_or c.args.names.now l.name-index x = subst (λ (g : List ℕ). g ≡ get_or c.args.names.now l.name-index g) (sym own) c.name-item.is in
    let fresh = ap not (c.contains_key-is_new.ensures ∙ ap (λ (g : List ℕ). is_some (noted g)) (sym own)) in
    one_more_noted c.args.names.now l.name-index x noted n (get (slice_cmp nat_cmp) c.insert.new.self n) c.loop-name-test.true is l.invariant
    (c.in_ok-insert.ensures.updates.0 n ∙ (λ i. cond (is_eq-slice_cmp x n i) (Some (fresh i)) (noted n)))

pub returns : goal.returns
returns c =
    subst (λ (names : List (List ℕ)). NotesStanding names c.loop-name.noted) (take_all c.loop-name.name-index c.args.names.now c.loop-name-test.false) c.loop-name.invariant
