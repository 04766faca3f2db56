use Rattle.std.proofs.Common.{◌≡◌, ◌++◌, List, ℕ, [], ◌∷◌, ap, subst, sym, true, false, ◌∙◌}
use Rattle.std.proofs.Math.ListN.{get_or}
use Rattle.std.specs.List.{filter, list_any}
use Rattle.std.specs.Ordering.{nat_cmp}
use Rattle.std.specs.Cmp.Lexicographic.{slice_cmp}
use Rattle.std.specs.BTreeMap.{is_at}
use Rattle.std.specs.BTreeSet as set
use Rattle.vx_dtype.specs.TypeRules.{has_name}
use Rattle.vx_dtype.specs.Structs.{first_names}
use Rattle.vx_dtype.proofs.DistinctLemmas.{found, not_found}
use Rattle.vx_typing.proofs.FirstNames.{is_new, all_new, seen_again, seen_first, set_has_first, set_has_again}
use Rattle.vx_typing.proofs.field_places.first_names.Goals as goal

pub loop-name-init : goal.loop-name-init
loop-name-init c =
    let none = c.new-first.ensures.items in (
      sym (ap (λ (ks : List (List ℕ)). ks ++ filter (is_new ks) (first_names c.args.names.now)) none ∙ all_new (first_names c.args.names.now)),
      λ q. ap (λ (ks : List (List ℕ)). list_any (is_at (slice_cmp nat_cmp q)) ks) c.new-seen.ensures.empty ∙ ap (has_name q) (sym none),
    )

pub loop-name-preserved-then-not-branch : goal.loop-name-preserved-then-not-branch
loop-name-preserved-then-not-branch c =
    let l = c.loop-name in
    let f = c.in_ok-clone.field-0 in
    let is : f ≡ get_or c.args.names.now l.name-index f = subst (λ (g : List ℕ). g ≡ get_or c.args.names.now l.name-index g) (sym c.in_ok-clone.ensures.cases) c.name-item.is in
    let there : has_name f l.first.items ≡ true = sym (l.invariant.1 f) ∙ found (set.contains (slice_cmp nat_cmp) l.seen f) (sym c.in_ok-insert.ensures.added ∙ c.if-not-branch.true) in (
      seen_again c.args.names.now l.name-index f l.first.items c.loop-name-test.true is l.invariant.0 there,
      λ q. set_has_again q f l.first.items (set.contains (slice_cmp nat_cmp) l.seen q) (set.contains (slice_cmp nat_cmp) c.insert.new.self q) there (l.invariant.1 q) (c.in_ok-insert.ensures.updates.0 q),
    )

pub loop-name-preserved : goal.loop-name-preserved
loop-name-preserved c =
    let l = c.loop-name in
    let f = c.in_ok-clone.field-0 in
    let is : f ≡ get_or c.args.names.now l.name-index f = subst (λ (g : List ℕ). g ≡ get_or c.args.names.now l.name-index g) (sym c.in_ok-clone.ensures.cases) c.name-item.is in
    let new : has_name f l.first.items ≡ false = sym (l.invariant.1 f) ∙ not_found (set.contains (slice_cmp nat_cmp) l.seen f) (sym c.in_ok-insert.ensures.added ∙ c.if-not-branch.false) in
    let same : c.in_ok-clone-2.field-0 ≡ f = c.in_ok-clone-2.ensures.cases ∙ sym c.in_ok-clone.ensures.cases in
    let pushed : c.push.new.self.items ≡ l.first.items ++ f ∷ [] = c.in_ok-push.ensures.items ∙ ap (λ (g : List ℕ). l.first.items ++ g ∷ []) same in (
      seen_first c.args.names.now l.name-index f l.first.items c.loop-name-test.true is l.invariant.0 c.push.new.self.items pushed new,
      λ q. set_has_first q f l.first.items c.push.new.self.items (set.contains (slice_cmp nat_cmp) l.seen q) (set.contains (slice_cmp nat_cmp) c.insert.new.self q) pushed (l.invariant.1 q) (c.in_ok-insert.ensures.updates.0 q),
    )
