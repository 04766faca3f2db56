-- Items that are some of others, each once, in their order.
use Rattle.std.proofs.Common.{◌≡◌, refl, sym, ◌∙◌, List, [], ◌∷◌, ◌++◌, subst, inl, inr}
use Rattle.std.proofs.lemmas.List.{append_assoc}
use Rattle.vx_scan.specs.Scanning.{AreAmong}

pub among_nothing : {X : Type 0} (all : List X) → AreAmong [] all
among_nothing all = tt

pub among_all : {X : Type 0} (all : List X) → AreAmong all all
among_all [] = tt
among_all (r ∷ all) = inl (refl, among_all all)

-- others may stand before, and behind
pub among_behind : {X : Type 0} (made front all : List X) → AreAmong made all → AreAmong made (front ++ all)
among_behind [] front all h = tt
among_behind (r ∷ made) [] all h = h
among_behind (r ∷ made) (s ∷ front) all h = inr (among_behind (r ∷ made) front all h)

pub among_more : {X : Type 0} (made all more : List X) → AreAmong made all → AreAmong made (all ++ more)
among_more [] all more h = tt
among_more (r ∷ made) [] more h = absurd h
among_more (r ∷ made) (s ∷ all) more (inl h) = inl (h.0, among_more made all more h.1)
among_more (r ∷ made) (s ∷ all) more (inr h) = inr (among_more (r ∷ made) all more h)

-- some of these, and then some of those
pub among_append : {X : Type 0} (made next all more : List X) → AreAmong made all → AreAmong next more → AreAmong (made ++ next) (all ++ more)
among_append [] next all more h k = among_behind next all more k
among_append (r ∷ made) next [] more h k = absurd h
among_append (r ∷ made) next (s ∷ all) more (inl h) k = inl (h.0, among_append made next all more h.1 k)
among_append (r ∷ made) next (s ∷ all) more (inr h) k = inr (among_append (r ∷ made) next all more h k)

-- the first ones of these are among them, and so are they with the next one
pub among_first : {X : Type 0} (made left all : List X) → all ≡ made ++ left → AreAmong made all
among_first {X} made left all h = subst (λ (rs : List X). AreAmong made rs) (sym h) (among_more made made left (among_all made))

pub among_next : {X : Type 0} (made left all : List X) (item : X) → all ≡ made ++ (item ∷ left) → AreAmong (made ++ (item ∷ [])) all
among_next {X} made left all item h =
    subst (λ (rs : List X). AreAmong (made ++ (item ∷ [])) rs) (append_assoc made (item ∷ []) left ∙ sym h)
    (among_more (made ++ (item ∷ [])) (made ++ (item ∷ [])) left (among_all (made ++ (item ∷ []))))
