-- How many bytes the texts have that are kept of a list.
use Rattle.std.proofs.Common.{◌≡◌, ◌+◌, ◌^◌, ◌<◌, ◌≤◌, List, [], ◌∷◌, ◌++◌, Bool, true, false, cond, Option, ap, arith}
use Rattle.std.proofs.lemmas.List.Sums.{sum_by-cons, sum_by-append, sum_by_push}
use Rattle.vx_dtype.specs.Types.{Bytes}
use Rattle.vx_words.specs.Truths.{is_true, kept_items}
use Rattle.vx_texts.specs.Texts.{byte_count, byte_total}

chosen : (b : Bool) (t : Option Bytes) (ts us : List (Option Bytes)) → byte_total us ≤ byte_total ts → byte_total (cond b (t ∷ us) us) ≤ byte_total (t ∷ ts)
chosen true t ts us h =
    let l = sum_by-cons byte_count t us in
    let r = sum_by-cons byte_count t ts in
    omega (arith, l, r, h)
chosen false t ts us h = let r = sum_by-cons byte_count t ts in omega (arith, r, h)

kept_total : (ts : List (Option Bytes)) (ks : List (Option Bool)) → byte_total (kept_items ts ks) ≤ byte_total ts
kept_total [] ks = omega arith
kept_total (t ∷ ts) [] = omega arith
kept_total (t ∷ ts) (k ∷ ks) = chosen (is_true k) t ts (kept_items ts ks) (kept_total ts ks)

-- there is room for each text that is kept
pub room_for : (made rest ts : List (Option Bytes)) (t : Option Bytes) (ks : List (Option Bool)) → (made ++ t ∷ []) ++ rest ≡ kept_items ts ks
    → byte_total ts < 2 ^ 32 → byte_total made + byte_count t < 2 ^ 32
room_for made rest ts t ks e few =
    let most = kept_total ts ks in
    let all = ap byte_total e in
    let split = sum_by-append byte_count (made ++ t ∷ []) rest in
    let front = sum_by_push byte_count made t in
    omega (arith, most, all, split, front, few)
