-- Texts that are refused.
use Rattle.std.proofs.Common.{◌≡◌, ℕ, ◌^◌, ◌<◌, ◌≤◌, List, [], ◌∷◌, ◌++◌, get_or, length, map, take, Option, None, Err, ◌∙◌, sym, ap, arith}
use Rattle.std.proofs.lemmas.List.{get_or-map, length-map, take-map}
use Rattle.std.proofs.lemmas.List.Sums.{sum_by_push, sum_by_more_le}
use Rattle.vx_dtype.specs.Types.{Bytes}
use Rattle.vx_texts.specs.Refusals.{TakesFitting}
use Rattle.vx_texts.specs.Texts.{byte_count, byte_total}
use Rattle.vx_texts.specs.declared.errors.TextsError.{TextsError}
use Rattle.vx_texts.specs.declared.errors.TextsError.TheVariants.{NoMemory, TooLong}

-- texts of which the first ones don't fit one buffer don't fit one
refused_by_first : (ts us : List (Option Bytes)) (t : Option Bytes) (i : ℕ) → us ≡ take i ts → i < length ts → t ≡ get_or ts i None
    → 2 ^ 32 ≤ byte_total (us ++ t ∷ []) → 2 ^ 32 ≤ byte_total ts
refused_by_first ts us t i e h here long =
    let most = sum_by_more_le byte_count ts i None h in
    let first = ap byte_total e in
    let last = ap byte_count here in
    let all = sum_by_push byte_count us t in
    omega (arith, long, most, first, last, all)

pub refused_whole : (A B : Type 0) {X : Type 0} (f : X → Option Bytes) (xs : List X) (d : X) (i : ℕ) (us : List (Option Bytes)) (e : TextsError)
    → us ≡ map f (take i xs) → i < length xs → TakesFitting {X = A} (us ++ f (get_or xs i d) ∷ []) (Err e) → TakesFitting {X = B} (map f xs) (Err e)
refused_whole A B f xs d i us NoMemory e h t = tt
refused_whole A B f xs d i us TooLong e h t =
    let long = length-map xs f in
    refused_by_first (map f xs) us (f (get_or xs i d)) i (e ∙ sym (take-map f i xs)) (omega (arith, h, long)) (sym (get_or-map f xs i d None h)) t
