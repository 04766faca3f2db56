use Rattle.std.proofs.Common.{lit<}
use Rattle.std.proofs.lemmas.Str.Pattern.{strip_prefix_char}
use Rattle.vx_shell_words.proofs.RangeWords.{behind_is}
use Rattle.vx_shell_words.proofs.asked.behind_dot.Goals as goal

pub returns : goal.returns
returns c =
    behind_is c.args.text.now c.strip_prefix.result (strip_prefix_char 46 c.args.text.now c.strip_prefix.result c.strip_prefix.ensures.cases (lit< tt))
