use Rattle.std.proofs.Common.{rules, ◌≡◌, ◌<◌, ◌≤◌, ◌∙◌, List, ℕ, length, map, ap, subst, sym}
use Rattle.std.proofs.Math.ListN.{get_or}
use Rattle.std.proofs.lemmas.List.{take_all}
use Rattle.vx_dtype.specs.Types.{Bytes}
use Rattle.vx_typing.specs.MergedFields.{first_place}
use Rattle.vx_typing.proofs.AlikeStructs.{one_own_more}
use Rattle.vx_typing.proofs.alike_structs.own_fields.Goals as goal

pub loop-index-preserved : goal.loop-index-preserved
loop-index-preserved c =
    let l = c.loop-index in
    let names = c.args.names.now in
    let f = c.in_ok-clone.field-0 in
    let within : l.index < length names = search rules in
    let is : f ≡ get_or names l.index f = subst (λ (g : List ℕ). g ≡ get_or names l.index g) (sym c.in_ok-clone.ensures.cases) c.index-names-index.is in
    one_own_more c.args.giver names l.index f l.fields.items c.push.new.self.items c.requires within is c.in_ok-push.ensures.items l.invariant

pub returns-clause-names : goal.returns-clause-names
returns-clause-names c =
    let l = c.loop-index in
    let past : length c.args.names.now ≤ l.index = search rules in
    l.invariant.0 ∙ take_all l.index c.args.names.now past

pub returns-clause-places : goal.returns-clause-places
returns-clause-places c =
    let l = c.loop-index in
    let past : length c.args.names.now ≤ l.index = search rules in
    l.invariant.1 ∙ ap (map (λ (f : Bytes). first_place c.args.giver f c.args.names.now)) (take_all l.index c.args.names.now past)
