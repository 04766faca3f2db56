use Rattle.std.proofs.Common.{◌≡◌, drop}
use Rattle.std.specs.List.{list_all}
use Rattle.vx_tokens.specs.Tokens.{is_digit}
use Rattle.vx_csv.proofs.numbers.are_digits.Given as goal

-- what is left to test
abbrev pub invariant-loop-digit : goal.invariant-loop-digit
invariant-loop-digit l = list_all is_digit l.fn.digits ≡ list_all is_digit (drop l.digit-index l.fn.digits)
