-- Where the ranges of blocks stand.
use Rattle.std.proofs.Common.{◌≡◌, inl, inr, refl, sym, ap, ◌∙◌, ℕ, zero, suc, ◌+◌, ◌<◌, ◌≤◌, List, [], ◌∷◌, ◌++◌, map, length, take, get_or, sum, Some, arith, length-append, add-one}
use Rattle.std.proofs.lemmas.Bool.{cases_lt}
use Rattle.std.specs.List.{slice_get}
use Rattle.std.proofs.lemmas.List.Sums.{sum_by-cons, sum_by-take-le}
use Rattle.std.proofs.lemmas.Option.{same_Some, slice_get_read, slice_get-map}
use Rattle.std.proofs.Common.{option_map}
use Rattle.std.specs.declared.vec.Vec.{Vec}
use Rattle.std.specs.declared.alloc.Global.{Global}
use Rattle.vx_file_open.specs.Layouts.{list_of, lists_of, block_place, HavePlaces}

sum_cons : (n : ℕ) (ns : List ℕ) → sum (n ∷ ns) ≡ n + sum ns
sum_cons n ns = sum_by-cons (λ x. x) n ns

-- the sum of the first numbers with the next one
pub sum_next : (ns : List ℕ) (i n : ℕ) → slice_get ns i ≡ Some n → sum (take (suc i) ns) ≡ sum (take i ns) + n
sum_next [] i n e = absurd cc
sum_next (m ∷ ns) zero n e = let same : m ≡ n = same_Some m n e in omega (arith, sum_cons m [], same)
sum_next (m ∷ ns) (suc i) n e = let rest = sum_next ns i n e in omega (arith, rest, sum_cons m (take (suc i) ns), sum_cons m (take i ns))

-- the sum of the first lists with the next one
pub sums_next : (nss : List (List ℕ)) (i : ℕ) (ns : List ℕ) → slice_get nss i ≡ Some ns → sum (map sum (take (suc i) nss)) ≡ sum (map sum (take i nss)) + sum ns
sums_next [] i ns e = absurd cc
sums_next (ms ∷ nss) zero ns e = let same : sum ms ≡ sum ns = ap sum (same_Some ms ns e) in omega (arith, sum_cons (sum ms) [], same)
sums_next (ms ∷ nss) (suc i) ns e =
    let rest = sums_next nss i ns e in
    omega (arith, rest, sum_cons (sum ms) (map sum (take (suc i) nss)), sum_cons (sum ms) (map sum (take i nss)))

-- and is within the whole
pub first_within : (ns : List ℕ) (i : ℕ) → sum (take i ns) ≤ sum ns
first_within ns i = sum_by-take-le (λ x. x) ns i

pub firsts_within : (nss : List (List ℕ)) (i : ℕ) → sum (map sum (take i nss)) ≤ sum (map sum nss)
firsts_within [] zero = omega arith
firsts_within [] (suc i) = omega arith
firsts_within (ns ∷ nss) zero = omega arith
firsts_within (ns ∷ nss) (suc i) =
    let rest = firsts_within nss i in
    omega (arith, rest, sum_cons (sum ns) (map sum (take i nss)), sum_cons (sum ns) (map sum nss))

get_before : (xs : List ℕ) (x y : ℕ) (i : ℕ) → slice_get xs i ≡ Some y → slice_get (xs ++ x ∷ []) i ≡ Some y
get_before [] x y i e = absurd cc
get_before (z ∷ xs) x y zero e = e
get_before (z ∷ xs) x y (suc i) e = get_before xs x y i e

get_behind : (xs : List ℕ) (x : ℕ) → slice_get (xs ++ x ∷ []) (length xs) ≡ Some x
get_behind [] x = refl
get_behind (z ∷ xs) x = get_behind xs x

-- before the first block only its own place is known
pub places_start : (front : ℕ) (nss : List (List ℕ)) (new places : List ℕ) → places ≡ [] → new ≡ places ++ front ∷ [] → HavePlaces front nss 0 new
places_start front nss new places none is =
    let one : new ≡ front ∷ [] = is ∙ ap (λ (ps : List ℕ). ps ++ front ∷ []) none in
    record {
      number = ap length one;
      each = λ block le. let first : block ≡ 0 = omega (arith, le) in by block first ∙ ap (λ k. Some (block_place front nss k)) (sym first);
    }
  where
    by : (block : ℕ) → block ≡ 0 → slice_get new block ≡ Some (block_place front nss 0)
    by block e =
        let same : front ≡ front + 0 = omega arith in
        ap (slice_get new) e ∙ ap (λ (ps : List ℕ). slice_get ps 0) (is ∙ ap (λ (ps : List ℕ). ps ++ front ∷ []) none) ∙ ap Some same

-- the place behind a block
pub places_more : (front : ℕ) (nss : List (List ℕ)) (blocks place : ℕ) (ns new places : List ℕ) → slice_get nss blocks ≡ Some ns → place ≡ block_place front nss blocks + sum ns
    → new ≡ places ++ place ∷ [] → HavePlaces front nss blocks places → HavePlaces front nss (suc blocks) new
places_more front nss blocks place ns new places there at is h = record {
  number = ap length is ∙ omega (arith, length-append places (place ∷ []), h.number);
  each = λ block le. elim (cases_lt block (suc blocks)) [
    | inl lt ↦ ap (λ (ps : List ℕ). slice_get ps block) is ∙ get_before places place (block_place front nss block) block (h.each block (omega (arith, lt)))
    | inr ge ↦
        let last : block ≡ length places = omega (arith, le, ge, h.number) in
        let end : block ≡ suc blocks = omega (arith, le, ge) in
        let own : place ≡ block_place front nss (suc blocks) = omega (arith, at, sums_next nss blocks ns there) in
        ap (λ (ps : List ℕ). slice_get ps block) is ∙ ap (slice_get (places ++ place ∷ [])) last ∙ get_behind places place ∙ ap Some own ∙ ap (λ k. Some (block_place front nss k)) (sym end)
  ];
}

-- the lengths of the ranges of a block
pub list_at : (nss : List (Vec ℕ Global)) (i : ℕ) (v : Vec ℕ Global) (ns : List ℕ) → i < length nss → v ≡ get_or nss i v → ns ≡ v.items → slice_get (lists_of nss) i ≡ Some ns
list_at nss i v ns lt read same =
    slice_get-map list_of nss i ∙ ap (option_map list_of) (slice_get_read nss (length nss) i v refl lt read) ∙ ap Some (sym same)

-- what is read up to the end of a block is within the whole
pub place_within : (front : ℕ) (nss : List (List ℕ)) (i : ℕ) (ns : List ℕ) → slice_get nss i ≡ Some ns → block_place front nss i + sum ns ≤ front + sum (map sum nss)
place_within front nss i ns there = omega (arith, sums_next nss i ns there, firsts_within nss (suc i))

-- the place behind a block, with its own
pub places_more_with : (front : ℕ) (nss : List (List ℕ)) (blocks place : ℕ) (ns new places : List ℕ) → slice_get nss blocks ≡ Some ns → place ≡ block_place front nss blocks + sum ns
    → new ≡ places ++ place ∷ [] → HavePlaces front nss blocks places → HavePlaces front nss (blocks + 1) new × (place ≡ block_place front nss (blocks + 1))
places_more_with front nss blocks place ns new places there at is h =
    let next : blocks + 1 ≡ suc blocks = add-one blocks in
    let own : place ≡ block_place front nss (suc blocks) = omega (arith, at, sums_next nss blocks ns there) in
    (rw next (places_more front nss blocks place ns new places there at is h), rw next own)
