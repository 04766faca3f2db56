use Rattle.std.proofs.Common.{◌≡◌, map, take}
use Rattle.vx_typing.specs.declared.field_places.MergedField.{MergedField}
use Rattle.vx_passes.specs.Merging.{given_field}
use Rattle.vx_transform.specs.CodeViews.{giving_view}
use Rattle.vx_transform.proofs.merges.given_fields.Given as goal

-- the expressions of the fields so far
abbrev pub invariant-loop-field : goal.invariant-loop-field
invariant-loop-field l = l.made.items ≡ map (λ (m : MergedField). given_field (map giving_view l.given) m.name) (take l.field-index l.fields)
