use Rattle.std.proofs.Common.{◌≡◌, ℕ, ◌++◌, [], List, drop}
use Rattle.std.specs.Fmt.{HasWritten, IsPlainFormatter}
use Rattle.vx_dtype.specs.Texts.{separator_at}
use Rattle.vx_expr.specs.SelectionTexts.{joined_names}
use Rattle.vx_expr.proofs.selection_texts.write_names.Given as goal

-- what was written, and what is left to write
abbrev pub invariant-loop-i : goal.invariant-loop-i
invariant-loop-i g l =
    IsPlainFormatter l.fn.f →
    (bs : List ℕ) × (HasWritten g.W.Write.write_str_gives l.fn.f bs l.f × (joined_names [] l.names ≡ bs ++ joined_names (separator_at l.i) (drop l.i l.names)))
