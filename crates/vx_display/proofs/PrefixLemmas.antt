-- The columns below a child are those below its node and one more.
use Rattle.std.proofs.Common.{rules, ◌≡◌, ◌++◌, Bool, Bor}
use Rattle.vx_display.specs.TreeLines.{prefix_text, column}
use Rattle.vx_display.specs.declared.trees.Prefix.{Prefix, Below, the_lemmas}

pub prefix_text_below : (above : Bor Prefix) (last : Bool) → prefix_text (Below above last) ≡ prefix_text above.now ++ column last
prefix_text_below above last = search (rules, the_lemmas)
