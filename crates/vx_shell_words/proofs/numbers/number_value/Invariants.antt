-- The digits so far tell a number, behind which the others stand.
use Rattle.std.proofs.Common.{◌≡◌, drop}
use Rattle.vx_tokens.specs.Numbers.{digits_behind}
use Rattle.vx_shell_words.proofs.numbers.number_value.Given as goal

abbrev pub invariant-loop-digit : goal.invariant-loop-digit
invariant-loop-digit l = digits_behind 0 l.fn.digits ≡ digits_behind l.number (drop l.digit-index l.fn.digits)
