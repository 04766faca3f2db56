-- What is taken at a place in one more read.
use Rattle.std.proofs.Common.{◌≡◌, ℕ, ◌+◌, ◌<◌, ◌≤◌, List, [], ◌++◌, length, take, drop, refl, sym, ap, subst, ◌∙◌, arith, length-append, length-drop}
use Rattle.std.proofs.lemmas.List.{take_all, drop-drop, length-take-le}
use Rattle.std.proofs.Math.Seq.{take-add}
use Rattle.std.specs.Prelude.{Option, Some, None, Ok, Err}
use Rattle.vx_file_ranges.specs.Places.{ReadsAt, IsPieceAt}

-- the bytes that were taken so far are the first ones from a place on
abbrev pub TookFrom : Option (List ℕ) → ℕ → List ℕ → Type 0
TookFrom None place bytes = Unit {0}
TookFrom (Some all) place bytes = (length bytes ≤ length (drop place all)) × (bytes ≡ take (length bytes) (drop place all))

-- before the first read nothing is taken
pub took_nothing : (all : Option (List ℕ)) (place : ℕ) → TookFrom all place []
took_nothing None place = tt
took_nothing (Some all) place = (omega arith, refl)

-- at the end nothing more is to come
pub took_to_the_end : (E : Type 0) (all : Option (List ℕ)) (place count : ℕ) (bytes into : List ℕ)
    → TookFrom all place bytes → ReadsAt {E = E} all (place + length bytes) into (Ok 0) → 0 < length into → length bytes ≤ count → IsPieceAt all place count bytes
took_to_the_end E None place count bytes into first read room within = tt
took_to_the_end E (Some all) place count bytes into first read room within =
    let ends : length all ≤ place + length bytes = read.2 room refl in
    let short : length (drop place all) ≤ length bytes = omega (arith, length-drop place all) in
    first.1 ∙ take_all (length bytes) (drop place all) short ∙ sym (take_all count (drop place all) (omega (arith, short, within)))

-- what a read took comes behind what was taken before
pub took_more : (E : Type 0) (n : ℕ) (all : Option (List ℕ)) (place : ℕ) (bytes into : List ℕ)
    → TookFrom all place bytes → ReadsAt {E = E} all (place + length bytes) into (Ok n) → TookFrom all place (bytes ++ take n into)
took_more E n None place bytes into first read = tt
took_more E n (Some all) place bytes into first read =
    let rest : drop (place + length bytes) all ≡ drop (length bytes) (drop place all) = sym (drop-drop (length bytes) place all) in
    let fits : n ≤ length (drop (length bytes) (drop place all)) = subst (λ xs. n ≤ length xs) rest read.0 in
    let piece : take n into ≡ take n (drop (length bytes) (drop place all)) = read.1 ∙ ap (take n) rest in
    let count : length (take n into) ≡ n = ap length piece ∙ length-take-le n (drop (length bytes) (drop place all)) fits in
    let total : length (bytes ++ take n into) ≡ length bytes + n = length-append bytes (take n into) ∙ ap (λ k. length bytes + k) count in (
      omega (arith, length-drop (length bytes) (drop place all), fits, total, first.0),
      (ap (λ xs. xs ++ take n into) first.1 ∙ ap (λ xs. take (length bytes) (drop place all) ++ xs) piece ∙ sym (take-add (length bytes) n (drop place all)))
          ∙ ap (λ k. take k (drop place all)) (sym total),
    )

-- what was taken is whole
pub took_all : (all : Option (List ℕ)) (place count : ℕ) (bytes : List ℕ) → TookFrom all place bytes → length bytes ≡ count → IsPieceAt all place count bytes
took_all None place count bytes first whole = tt
took_all (Some all) place count bytes first whole = first.1 ∙ ap (λ k. take k (drop place all)) whole

-- the same, of a source that tells the same bytes as it did before the first read
pub took_next : (E : Type 0) (n k : ℕ) (all now : Option (List ℕ)) (place : ℕ) (bytes into : List ℕ)
    → TookFrom all place bytes → now ≡ all → k ≡ length bytes → ReadsAt {E = E} now (place + k) into (Ok n) → TookFrom all place (bytes ++ take n into)
took_next E n k all now place bytes into first same at read =
    let here : ReadsAt {E = E} now (place + length bytes) into (Ok n) = subst (λ j. ReadsAt {E = E} now (place + j) into (Ok n)) at read in
    took_more E n all place bytes into first (subst (λ o. ReadsAt {E = E} o (place + length bytes) into (Ok n)) same here)
