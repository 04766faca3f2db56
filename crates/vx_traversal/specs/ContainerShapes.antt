-- The shape of a container: which containers it is made of, whatever elements they hold.
use Rattle.std.specs.Prelude.{List, [], ◌∷◌}

mutual
  -- one element, or parts in order
  pub data Shape : Type 0 where
    one_element : Shape
    parts : Shapes → Shape

  -- shapes in order
  pub data Shapes : Type 0 where
    no_parts : Shapes
    part_before : Shape → Shapes → Shapes

abbrev pub in_order : List Shape → Shapes
in_order [] = no_parts
in_order (s ∷ ss) = part_before s (in_order ss)

-- the shape with these parts in order
abbrev pub made_of : List Shape → Shape
made_of ss = parts (in_order ss)
