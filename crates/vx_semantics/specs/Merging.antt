-- The rule of merges that typing, meaning and asking share: the names of several structs together, and of one name the last struct that gives it.
-- Each has its own of every struct (its type, its value, what it is asked) and says by `names` which names that struct gives.
use Rattle.std.specs.Prelude.{cond, List, [], ◌∷◌, Option, Some, None}
use Rattle.std.specs.Option.{option_or}
use Rattle.std.specs.List.{flat_map}
use Rattle.vx_dtype.specs.Types.{Bytes}
use Rattle.vx_dtype.specs.TypeRules.{has_name}
use Rattle.vx_dtype.specs.Structs.{first_names}

-- the names that the structs give together, in order of first appearance
abbrev pub merged_names : {X : Type 0} → (X → List Bytes) → List X → List Bytes
merged_names names xs = first_names (flat_map names xs)

-- the last of the structs that gives this name
abbrev pub last_giver : {X : Type 0} → (X → List Bytes) → Bytes → List X → Option X
last_giver names f [] = None
last_giver names f (x ∷ xs) = option_or (last_giver names f xs) (cond (has_name f (names x)) (Some x) None)
