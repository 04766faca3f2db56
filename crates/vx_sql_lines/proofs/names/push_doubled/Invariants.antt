use Rattle.std.proofs.Common.{◌≡◌, ◌++◌, length}
use Rattle.std.specs.List.{flat_map}
use Rattle.std.specs.Str.{IsUtf8}
use Rattle.std.specs.String.{string_bytes}
use Rattle.vx_sql_lines.specs.Lines.{doubled_quote}
use Rattle.vx_sql_lines.proofs.names.push_doubled.Given as goal

abbrev pub decreases-loop-before : goal.decreases-loop-before
decreases-loop-before l = length l.left

-- what is written so far, and what is left
abbrev pub invariant-loop-before : goal.invariant-loop-before
invariant-loop-before l = record {
  text : IsUtf8 l.left;
  written : string_bytes l.initial.out ++ flat_map doubled_quote l.initial.left ≡ string_bytes l.out ++ flat_map doubled_quote l.left;
}
