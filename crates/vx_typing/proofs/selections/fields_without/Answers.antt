use Rattle.std.proofs.Common.{◌≡◌, ◌+◌, ◌<◌, ◌++◌, List, ℕ, [], ◌∷◌, Some, sym, ap, ◌∙◌, length, length-append, map, rules, arith}
use Rattle.vx_dtype.specs.TypeRules.{field_names}
use Rattle.vx_dtype.specs.TypeViews.{type_view}
use Rattle.vx_dtype.specs.Zipped.{zipped}
use Rattle.vx_dtype.proofs.FieldsFrom.{has_type_at}
use Rattle.vx_typing.proofs.JoinedFields.{joined, joined_none, taken_in, left_out, none_left}
use Rattle.vx_typing.proofs.selections.fields_without.Goals as goal

pub unreachable-requires-in_default-field_by_index : goal.unreachable-requires-in_default-field_by_index
unreachable-requires-in_default-field_by_index c =
    let within : c.loop-i.i < length (field_names c.args.fields.now) = search rules in
    has_type_at c.args.fields.now c.loop-i.i within c.in_default-field_by_index.ensures

pub loop-i-preserved-then-contains : goal.loop-i-preserved-then-contains
loop-i-preserved-then-contains c =
    let l = c.loop-i in (
      l.invariant.0,
      l.invariant.1 ∙ ap (joined (zipped l.kept.items (map type_view l.types.items)))
          (left_out c.args.names.now c.args.fields.now l.i c.in-Some.name.now (type_view c.in-Some-field_by_index.dtype.now) (sym c.in-Some.ensures) (sym c.in-Some-field_by_index.ensures) (sym c.contains.ensures ∙ c.if-contains.true)),
    )

pub loop-i-preserved : goal.loop-i-preserved
loop-i-preserved c =
    let l = c.loop-i in
    let f = c.in-Some.name.now in
    let dtype = c.in_ok-clone-2.field-0 in
    let kept = c.push.new.self.items in
    let types = c.push-in-loop-i.new.self.items in
    let pushed : kept ≡ l.kept.items ++ f ∷ [] = c.in_ok-push.ensures.items ∙ ap (λ (g : List ℕ). l.kept.items ++ g ∷ []) c.in_ok-clone.ensures.cases in
    let added = c.in_ok-push-2.ensures.items in
    let lengths : length kept ≡ length types =
    ap length pushed ∙ length-append l.kept.items (f ∷ []) ∙ ap (λ n. n + 1) l.invariant.0 ∙ sym (length-append l.types.items (dtype ∷ [])) ∙ ap length (sym added) in (
      lengths,
      taken_in type_view c.args.names.now c.args.fields.now l.i f l.kept.items l.types.items l.invariant.1 dtype kept types l.invariant.0 pushed added
          (sym c.in-Some.ensures) (sym c.in-Some-field_by_index.ensures ∙ ap Some (sym c.in_ok-clone-2.ensures.cases)) (sym c.contains.ensures ∙ c.if-contains.false),
    )

pub returns : goal.returns
returns c =
    let l = c.loop-i in
    let none = none_left c.args.names.now c.args.fields.now l.i (omega (arith, c.loop-i-test.false, c.nfields-i-end.ensures)) in
    let made = zipped l.kept.items (map type_view l.types.items) in
    let all = l.invariant.1 ∙ ap (joined made) none ∙ joined_none made in
    c.in_ok-left.ensures ∙ ap (λ (ns : List (List ℕ)). zipped ns (map type_view l.types.items)) c.in_ok-kept_names.ensures ∙ sym all
