-- Joined names, one name after the other.
use Rattle.std.proofs.Common.{◌≡◌, ℕ, ◌+◌, ◌<◌, List, [], ◌∷◌, ◌++◌, length, map, take, codes, refl, sym, ap, ◌∙◌, append_assoc, arith}
use Rattle.std.proofs.Math.ListN.{get_or}
use Rattle.std.proofs.lemmas.List.{map_more, length-map, length-take-le}
use Rattle.vx_dtype.specs.Types.{Bytes}
use Rattle.vx_semantics.specs.Tables.{joined_path}
use Rattle.vx_zones.specs.Separators.{separator_at}

-- one more name at the end
pub joined_path-append : (fs : List Bytes) (f : Bytes) → joined_path (fs ++ f ∷ []) ≡ joined_path fs ++ (separator_at (length fs) ++ f)
joined_path-append [] f = refl
joined_path-append (g ∷ []) f = refl
joined_path-append (g ∷ h ∷ fs) f =
    ap (λ bs. g ++ (codes "_" ++ bs)) (joined_path-append (h ∷ fs) f)
    ∙ ap (λ bs. g ++ bs) (sym (append_assoc (codes "_") (joined_path (h ∷ fs)) (codes "_" ++ f)))
    ∙ sym (append_assoc g (codes "_" ++ joined_path (h ∷ fs)) (codes "_" ++ f))

-- the name at a place is joined to those before it
pub joined_path-more : {X : Type 0} (see : X → Bytes) (xs : List X) (i : ℕ) (x : X) → i < length xs → x ≡ get_or xs i x
    → joined_path (map see (take (i + 1) xs)) ≡ joined_path (map see (take i xs)) ++ (separator_at i ++ see x)
joined_path-more see xs i x within is =
    let many : length (map see (take i xs)) ≡ i = length-map (take i xs) see ∙ length-take-le i xs (omega arith) in
    ap joined_path (map_more see xs i x within) ∙ joined_path-append (map see (take i xs)) (see (get_or xs i x))
    ∙ ap (λ n. joined_path (map see (take i xs)) ++ (separator_at n ++ see (get_or xs i x))) many
    ∙ ap (λ y. joined_path (map see (take i xs)) ++ (separator_at i ++ see y)) (sym is)
