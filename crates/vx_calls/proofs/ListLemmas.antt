-- Texts that are seen are joined as what is seen.
use Rattle.std.proofs.Common.{◌≡◌, refl, ap, List, [], ◌∷◌, ◌++◌, map}
use Rattle.std.specs.List.{flat_map, join_by}
use Rattle.vx_dtype.specs.Types.{Bytes}

flat_seen : {X : Type 0} (see : X → Bytes) (separator : Bytes) (xs : List X)
    → flat_map (λ x. separator ++ see x) xs ≡ flat_map (λ t. separator ++ t) (map see xs)
flat_seen see separator [] = refl
flat_seen see separator (x ∷ xs) = ap (λ rest. (separator ++ see x) ++ rest) (flat_seen see separator xs)

pub joined : {X : Type 0} (see : X → Bytes) (separator : Bytes) (xs : List X) → join_by see separator xs ≡ join_by (λ t. t) separator (map see xs)
joined see separator [] = refl
joined see separator (x ∷ xs) = ap (λ rest. see x ++ rest) (flat_seen see separator xs)
