-- Which names stand once among some, noted one name after another.
use Rattle.std.proofs.Common.{◌≡◌, ℕ, zero, suc, ◌+◌, ◌<◌, refl, ap, sym, ◌∙◌, Bool, true, false, cond, not, ◌&&◌, Option, Some, List, [], ◌∷◌, ◌++◌, length, map, take, append-nil, length-append, arith}
use Rattle.std.proofs.Math.ListN.{get_or}
use Rattle.std.proofs.lemmas.List.Elements.{filter_more}
use Rattle.std.proofs.lemmas.Slice.Eq.{bytes_eq-Decides}
use Rattle.std.specs.Cmp.{unsigned_Decides}
use Rattle.std.specs.List.{filter}
use Rattle.std.specs.Prelude.{is_some, nat_eq}
use Rattle.std.specs.Str.{bytes_eq}
use Rattle.vx_dtype.specs.EqualLaws.{bytes_eq_equiv}
use Rattle.vx_dtype.specs.Paths.{has_path}
use Rattle.vx_dtype.specs.Types.{Bytes}
use Rattle.vx_passes.specs.Catalogs.{is_alone_among}
use Rattle.vx_semantics.specs.Tables.{joined_path}
use Rattle.vx_prune.specs.Standing.{noted_of, standing, is_once}
use Rattle.vx_prune.proofs.RequiredLemmas.{has_path-flipped}

noted-next : (n : ℕ) → Some (not (is_some (noted_of n))) ≡ noted_of (suc n)
noted-next zero = refl
noted-next (suc zero) = refl
noted-next (suc (suc n)) = refl

-- a name stands once where it is noted so
pub once-noted : (n : ℕ) → is_once (noted_of n) ≡ nat_eq n 1
once-noted zero = refl
once-noted (suc zero) = refl
once-noted (suc (suc n)) = by-test (nat_eq (suc (suc n)) 1) refl
  where
    by-test : (b : Bool) → nat_eq (suc (suc n)) 1 ≡ b → false ≡ b
    by-test true e = let same = (unsigned_Decides (suc (suc n)) 1).0 e in absurd (omega (arith, same))
    by-test false e = refl

one-longer : (xs : List Bytes) (x : Bytes) (b : Bool) → length (xs ++ cond b (x ∷ []) []) ≡ cond b (suc (length xs)) (length xs)
one-longer xs x true = let long = length-append xs (x ∷ []) in omega (arith, long)
one-longer xs x false = ap length (append-nil xs)

-- one name more
pub one_more_noted : (names : List Bytes) (i : ℕ) (x : Bytes) (noted : Bytes → Option Bool) (n : Bytes) (now : Option Bool) → i < length names → x ≡ get_or names i x
    → ((m : Bytes) → noted m ≡ standing (take i names) m)
    → now ≡ cond (bytes_eq x n) (Some (not (is_some (noted x)))) (noted n)
    → now ≡ standing (take (i + 1) names) n
one_more_noted names i x noted n now within is so_far e =
    let before = filter (bytes_eq n) (take i names) in
    let more = filter_more (bytes_eq n) names i x within ∙ ap (λ (y : Bytes). before ++ cond (bytes_eq n y) (y ∷ []) []) (sym is) in
    let count = ap length more ∙ one-longer before x (bytes_eq n x) in
    e ∙ by-test (bytes_eq x n) refl ∙ ap (λ (b : Bool). noted_of (cond b (suc (length before)) (length before))) (bytes_eq_equiv.symm x n) ∙ sym (ap noted_of count)
  where
    by-test : (b : Bool) → bytes_eq x n ≡ b
        → cond b (Some (not (is_some (noted x)))) (noted n) ≡ noted_of (cond b (suc (length (filter (bytes_eq n) (take i names)))) (length (filter (bytes_eq n) (take i names))))
    by-test true t =
        let same : x ≡ n = (bytes_eq-Decides x n).0 t in
        ap (λ (m : Bytes). Some (not (is_some (noted m)))) same ∙ (ap (λ (o : Option Bool). Some (not (is_some o))) (so_far n) ∙ noted-next (length (filter (bytes_eq n) (take i names))))
    by-test false t = so_far n

-- as many names pass a test as items whose names pass it
pub by-filter : {X : Type 0} (p : Bytes → Bool) (see : X → Bytes) (xs : List X) → length (filter p (map see xs)) ≡ length (filter (λ x. p (see x)) xs)
by-filter p see [] = refl
by-filter p see (x ∷ xs) = by-test (p (see x)) (by-filter p see xs)
  where
    by-test : (b : Bool) → length (filter p (map see xs)) ≡ length (filter (λ y. p (see y)) xs)
        → length (cond b (see x ∷ filter p (map see xs)) (filter p (map see xs))) ≡ length (cond b (x ∷ filter (λ y. p (see y)) xs) (filter (λ y. p (see y)) xs))
    by-test true h = ap suc h
    by-test false h = h

-- a path that is none of some is not alone among them
pub none-alone : (members : List (List Bytes)) (path : List Bytes) → has_path path members ≡ false → false ≡ is_alone_among members path
none-alone members path none =
    let namesakes = length (filter (λ p. bytes_eq (joined_path path) (joined_path p)) members) in
    ap (λ (b : Bool). b && nat_eq namesakes 1) (sym none ∙ has_path-flipped path members)

-- one of them is alone where it is noted that its joined name stands once
pub noted-alone : (members : List (List Bytes)) (path : List Bytes) (name : Bytes) (noted : Option Bool) (alone : Bool) → has_path path members ≡ true → name ≡ joined_path path
    → noted ≡ standing (map joined_path members) name → alone ≡ is_once noted → alone ≡ is_alone_among members path
noted-alone members path name noted alone there named h e =
    let joined = joined_path path in
    let namesakes = length (filter (λ p. bytes_eq joined (joined_path p)) members) in
    let counted = ap noted_of (by-filter (bytes_eq joined) joined_path members) in
    e ∙ ap is_once (h ∙ ap (standing (map joined_path members)) named ∙ counted) ∙ once-noted namesakes
    ∙ ap (λ (b : Bool). b && nat_eq namesakes 1) (sym there ∙ has_path-flipped path members)
