-- For the checker: no public clause cites this. Elements and shapes of containers, kept part by part.
use Rattle.std.specs.Prelude.{◌≡◌, List, [], ◌∷◌, ◌++◌, map}
use Rattle.std.specs.List.{flat_map, AllZip}
use Rattle.std.proofs.Common.{◌⊎◌, inl, inr, refl, ap}
use Rattle.vx_traversal.specs.ContainerShapes.{Shape, made_of}

module _ {C T : Type 0} (elements : C → List T) (shape : C → Shape) (Copies : C → C → Type 0)
    (kept : (it copy : C) → Copies it copy → (elements copy ≡ elements it) × (shape copy ≡ shape it)) where
  -- a value that is the original or its clone
  pub owned-kept : (it owned : C) → (owned ≡ it) ⊎ Copies it owned → (elements owned ≡ elements it) × (shape owned ≡ shape it)
  owned-kept it owned (inl is) = (ap elements is, ap shape is)
  owned-kept it owned (inr is) = kept it owned is

  -- a pair whose parts are kept
  pub pair-kept : (it copy : C × C) → Copies it.0 copy.0 → Copies it.1 copy.1 →
      (elements copy.0 ++ elements copy.1 ≡ elements it.0 ++ elements it.1)
      × (made_of (shape copy.0 ∷ shape copy.1 ∷ []) ≡ made_of (shape it.0 ∷ shape it.1 ∷ []))
  pair-kept it copy first second = (
    λ i. (kept it.0 copy.0 first).0 i ++ (kept it.1 copy.1 second).0 i,
    λ i. made_of ((kept it.0 copy.0 first).1 i ∷ (kept it.1 copy.1 second).1 i ∷ []),
  )

  shapes-kept : (cs ds : List C) → AllZip Copies cs ds → map shape ds ≡ map shape cs
  shapes-kept [] [] all = refl
  shapes-kept [] (d ∷ ds) all = absurd all
  shapes-kept (c ∷ cs) [] all = absurd all
  shapes-kept (c ∷ cs) (d ∷ ds) (one, all) = λ i. (kept c d one).1 i ∷ shapes-kept cs ds all i

  elements-kept : (cs ds : List C) → AllZip Copies cs ds → flat_map elements ds ≡ flat_map elements cs
  elements-kept [] [] all = refl
  elements-kept [] (d ∷ ds) all = absurd all
  elements-kept (c ∷ cs) [] all = absurd all
  elements-kept (c ∷ cs) (d ∷ ds) (one, all) = λ i. (kept c d one).0 i ++ elements-kept cs ds all i

  -- containers in order, each of which is kept
  pub each-kept : (cs ds : List C) → AllZip Copies cs ds → (flat_map elements ds ≡ flat_map elements cs) × (made_of (map shape ds) ≡ made_of (map shape cs))
  each-kept cs ds all = (elements-kept cs ds all, ap made_of (shapes-kept cs ds all))
