use Rattle.std.proofs.Common.{◌≡◌, ◌≤◌, drop}
use Rattle.vx_query.specs.NumberWords.{number_behind}
use Rattle.vx_query.proofs.number_words.number_told.Given as goal

-- the digits so far tell a number, behind which the others stand
abbrev pub invariant-loop-digit : goal.invariant-loop-digit
invariant-loop-digit l = record {
  told : number_behind l.fn.most 0 l.fn.digits ≡ number_behind l.fn.most l.number (drop l.digit-index l.fn.digits);
  few : l.number ≤ l.fn.most;
}
