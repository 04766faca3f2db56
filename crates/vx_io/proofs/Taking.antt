-- What is taken in one more read.
use Rattle.std.proofs.Common.{◌≡◌, ℕ, ◌+◌, ◌<◌, ◌≤◌, List, [], ◌++◌, length, take, drop, refl, sym, ap, subst, ◌∙◌, arith, length-append, length-drop}
use Rattle.std.proofs.lemmas.List.{take_all, drop_all, drop-drop, length-take-le}
use Rattle.std.proofs.Math.Seq.{take-add}
use Rattle.std.specs.Prelude.{Option, Some, None, Ok, Err}
use Rattle.vx_io.specs.Ends.{ReadsFrom, TookFirst, TookPart, TookUpTo}

-- at the end nothing more is to come
pub took_to_the_end : (E : Type 0) (most : ℕ) (all mid after : Option (List ℕ)) (bytes into : List ℕ)
    → TookFirst all mid bytes → ReadsFrom {E = E} mid after into (Ok 0) → 0 < length into → length bytes ≤ most → TookUpTo most all after bytes
took_to_the_end E most None None after bytes into first read room within = read
took_to_the_end E most None (Some rest) after bytes into first read room within = cc
took_to_the_end E most (Some all) None after bytes into first read room within = absurd (let e = first.2 in cc)
took_to_the_end E most (Some all) (Some rest) after bytes into first read room within =
    let rest_is : rest ≡ drop (length bytes) all = cc (first.2) in
    let empty : rest ≡ [] = read.3 room refl in
    let none : drop (length bytes) all ≡ [] = cc in
    let short : length all ≤ length bytes = omega (arith, length-drop (length bytes) all, ap length none) in
    let long : length all ≤ most = omega arith in
    let whole : bytes ≡ all = first.1 ∙ take_all (length bytes) all short in
    (whole ∙ sym (take_all most all long), read.2 ∙ ap Some (empty ∙ sym (drop_all most all long)))

-- what a read took comes behind what was taken before
pub took_more : (E : Type 0) (n : ℕ) (all mid after : Option (List ℕ)) (bytes into : List ℕ)
    → TookFirst all mid bytes → ReadsFrom {E = E} mid after into (Ok n) → TookFirst all after (bytes ++ take n into)
took_more E n None None after bytes into first read = read
took_more E n None (Some rest) after bytes into first read = absurd (let e = first in cc)
took_more E n (Some all) None after bytes into first read = absurd (let e = first.2 in cc)
took_more E n (Some all) (Some rest) after bytes into first read =
    let rest_is : rest ≡ drop (length bytes) all = cc (first.2) in
    let fits : n ≤ length (drop (length bytes) all) = subst (λ xs. n ≤ length xs) rest_is read.0 in
    let piece : take n into ≡ take n (drop (length bytes) all) = read.1 ∙ ap (take n) rest_is in
    let count : length (take n into) ≡ n = ap length piece ∙ length-take-le n (drop (length bytes) all) fits in
    let total : length (bytes ++ take n into) ≡ length bytes + n = length-append bytes (take n into) ∙ ap (λ k. length bytes + k) count in (
      omega (arith, length-drop (length bytes) all),
      (ap (λ xs. xs ++ take n into) first.1 ∙ ap (λ xs. take (length bytes) all ++ xs) piece ∙ sym (take-add (length bytes) n all)) ∙ ap (λ k. take k all) (sym total),
      read.2 ∙ ap Some (ap (drop n) rest_is ∙ drop-drop n (length bytes) all ∙ ap (λ k. drop k all) (sym total)),
    )

-- what was taken first is a first part
pub took_part : (most : ℕ) (all after : Option (List ℕ)) (bytes : List ℕ) → TookFirst all after bytes → length bytes ≤ most → TookPart most all after
took_part most None after bytes first within = first
took_part most (Some all) after bytes first within = (length bytes, within, first.0, first.2)

-- a failed read takes nothing
pub took_no_more : (E : Type 0) (e : E) (all mid after : Option (List ℕ)) (bytes into : List ℕ) → TookFirst all mid bytes → ReadsFrom {E = E} mid after into (Err e) → TookFirst all after bytes
took_no_more E e None None after bytes into first read = read
took_no_more E e None (Some rest) after bytes into first read = absurd (let k = first in cc)
took_no_more E e (Some all) None after bytes into first read = absurd (let k = first.2 in cc)
took_no_more E e (Some all) (Some rest) after bytes into first read = (first.0, first.1, read ∙ first.2)

-- before the first read nothing is taken
pub took_nothing : (all : Option (List ℕ)) → TookFirst all all []
took_nothing None = refl
took_nothing (Some all) = (omega arith, refl, refl)
