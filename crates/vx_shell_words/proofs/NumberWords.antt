-- One more digit of a number.
use Rattle.std.proofs.Common.{◌≡◌, ap, ◌∙◌, ℕ, ◌+◌, ◌-◌, ◌*◌, ◌^◌, ◌<◌, ◌≤◌, Bool, None, length, drop}
use Rattle.std.specs.Prelude.{if◌then◌else◌}
use Rattle.std.proofs.Math.ListN.{get_or}
use Rattle.std.proofs.lemmas.Bool.{lt-ltb, le-ltb}
use Rattle.std.proofs.lemmas.List.{drop_more}
use Rattle.vx_dtype.specs.Types.{Bytes}
use Rattle.vx_tokens.specs.Numbers.{digits_behind}

-- a digit that leaves the number below 2 ^ 64
pub digit_more : (n : ℕ) (digits : Bytes) (i : ℕ) → i < length digits → 10 * n + (get_or digits i 0 - 48) < 2 ^ 64
    → digits_behind n (drop i digits) ≡ digits_behind (10 * n + (get_or digits i 0 - 48)) (drop (i + 1) digits)
unfolding digits_behind
digit_more n digits i within small =
    let next = 10 * n + (get_or digits i 0 - 48) in
    ap (digits_behind n) (drop_more digits i 0 within)
    ∙ ap (λ (b : Bool). if b then digits_behind next (drop (i + 1) digits) else None) (lt-ltb next (2 ^ 64) small)

-- and one that doesn't
pub digit_past : (n : ℕ) (digits : Bytes) (i : ℕ) → i < length digits → 2 ^ 64 ≤ 10 * n + (get_or digits i 0 - 48) → digits_behind n (drop i digits) ≡ None
unfolding digits_behind
digit_past n digits i within great =
    let next = 10 * n + (get_or digits i 0 - 48) in
    ap (digits_behind n) (drop_more digits i 0 within)
    ∙ ap (λ (b : Bool). if b then digits_behind next (drop (i + 1) digits) else None) (le-ltb next (2 ^ 64) great)
