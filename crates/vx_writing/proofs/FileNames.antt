-- The digits of the names of files.
use Rattle.std.proofs.Common.{◌≡◌, ap, ℕ, ◌-◌, ◌^◌, List, ◌++◌, length, replicate, arith}
use Rattle.std.proofs.lemmas.List.{append-nil}
use Rattle.std.specs.Fmt.{char_count, decimal, format_spec, padded_integral, styled_decimal}

-- what `{:06}` writes of a number
pub six_digits : (n : ℕ) → styled_decimal (format_spec 32 0 4 6 (2 ^ 64 - 1)) n ≡ replicate (6 - length (decimal n)) 48 ++ decimal n
unfolding padded_integral char_count
six_digits n =
    let none : 6 - length (decimal n) - 0 - 0 ≡ 6 - length (decimal n) = omega arith in
    rw (none, append-nil (decimal n))

-- the name of a file
pub name_is : (n : ℕ) (end : List ℕ) → styled_decimal (format_spec 32 0 4 6 (2 ^ 64 - 1)) n ++ end ≡ replicate (6 - length (decimal n)) 48 ++ decimal n ++ end
name_is n end = ap (λ (front : List ℕ). front ++ end) (six_digits n)
