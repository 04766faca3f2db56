-- What containers hold, what is left of them in the middle of a walk, and how they are mapped.
use Rattle.std.specs.Prelude.{◌≡◌, Bool, true, false, List, [], ◌∷◌, ◌++◌, Ok, Err}
use Rattle.std.specs.List.{flat_map}
use Rattle.vx_traversal.specs.declared.order.TraversalOrder.{TraversalOrder}
use Rattle.vx_traversal.specs.declared.transform.Transformed.{Transformed}
use Rattle.vx_traversal.specs.Rewrites.{Walk, RewriteStep, MapsInTurn}

-- what is left of the first container in the middle of it, and then the elements of the others
abbrev pub left_of_each : {C K T : Type 0} → (C → K → List T) → (C → List T) → K → List C → List T
left_of_each left elements cursor [] = []
left_of_each left elements cursor (c ∷ cs) = left c cursor ++ flat_map elements cs

-- what is left of a pair in the middle of its first or its second
abbrev pub left_of_pair : {C K T : Type 0} → (C → K → List T) → (C → List T) → Bool → K → C → C → List T
left_of_pair left elements false cursor first second = left first cursor ++ elements second
left_of_pair left elements true cursor first second = left second cursor

-- no values yet, after a value with this order
abbrev pub none_after : {T : Type 0} → TraversalOrder → Transformed (List T)
none_after last = record { value = []; order = last; changed = false }

-- the container with the mapped elements in place of its own, and their order
abbrev pub Refills : {C T E : Type 0} → (C → List T) → Walk (Transformed (List T)) E → Walk (Transformed C) E → Type 0
Refills elements (Err e) r = r ≡ Err e
Refills {C} elements (Ok m) r = (refilled : C) × (elements refilled ≡ m.value) × (r ≡ Ok (record { value = refilled; order = m.order; changed = m.changed }))

-- the elements take their step in turn after a value with this order, and the container is refilled
abbrev pub MapsElements : {S C T E : Type 0} → (C → List T) → RewriteStep S T E → TraversalOrder → RewriteStep S C E
MapsElements {S} {C} {T} {E} elements Each last s c r t = (q : Walk (Transformed (List T)) E) × MapsInTurn Each (none_after last) s (elements c) q t
    × Refills elements q r

-- what is left of a container that is its one element
abbrev pub left_of_one : {T : Type 0} → Bool → T → List T
left_of_one false x = x ∷ []
left_of_one true x = []
