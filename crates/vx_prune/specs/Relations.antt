-- Relations as maps from keys to sets of values.
use Rattle.std.specs.Prelude.{◌≡◌, Bool, false, [], Option, Some, None}
use Rattle.std.specs.HashMap.{HashMap, get}
use Rattle.std.specs.HashSet.{HashSet, contains}
use Rattle.std.specs.declared.hash.FoldHasher.{FoldHasher}
use Rattle.std.specs.declared.hash.BuildHasherDefault.{BuildHasherDefault}
use Rattle.vx_prune.specs.declared.relations.Relation.{Relation}

-- whether a value is in the set, if there is one
abbrev pub is_in : {V S : Type 0} → (V → V → Bool) → Option (HashSet V S) → V → Bool
is_in same None v = false
is_in same (Some set) v = contains same set v

-- whether a value stands beside a key
abbrev pub has_pair : {K V S T : Type 0} → (K → K → Bool) → (V → V → Bool) → HashMap K (HashSet V S) T → K → V → Bool
has_pair same_key same_value map k v = is_in same_value (get same_key map k) v

-- the map of a relation
abbrev pub relation_map : {K V : Type 0} → Relation K V → HashMap K (HashSet V (BuildHasherDefault FoldHasher)) (BuildHasherDefault FoldHasher)
relation_map r = r.map

-- a key that has no value in the new map had none in the old one
abbrev pub AddsNoBareKey : {K V S T : Type 0} → (K → K → Bool) → HashMap K (HashSet V S) T → HashMap K (HashSet V S) T → Type 0
AddsNoBareKey {K} {V} {S} same_key old new =
    (q : K) (set : HashSet V S) → get same_key new q ≡ Some set → set.keys ≡ [] → get same_key old q ≡ Some set

-- each key has a value
abbrev pub HasNoBareKey : {K V S T : Type 0} → (K → K → Bool) → HashMap K (HashSet V S) T → Type 0
HasNoBareKey {K} {V} {S} same_key map = (q : K) (set : HashSet V S) → get same_key map q ≡ Some set → set.keys ≡ [] → ⊥
