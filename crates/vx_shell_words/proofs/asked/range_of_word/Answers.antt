use Rattle.std.proofs.Common.{◌≡◌, ◌∙◌, ◌==◌, sym, lit<, None}
use Rattle.std.specs.List.{before_first, after_first}
use Rattle.std.proofs.lemmas.Str.Pattern.{split_once_first}
use Rattle.vx_shell_words.proofs.RangeWords.{range_none, range_cut}
use Rattle.vx_shell_words.proofs.asked.range_of_word.Goals as goal

pub returns-in-Some : goal.returns-in-Some
returns-in-Some c =
    let word = c.args.word.now in
    let cut = rw c.in-Some.is at (split_once_first 46 word c.split_once.result c.split_once.ensures.cases (lit< tt)) in
    let before : c.in-Some.before.now ≡ before_first (λ b. b == 46) word = cc (cut.1, c.in-Some.before-is) in
    let behind : c.in-Some.behind.now ≡ after_first (λ b. b == 46) word = cc (cut.2, c.in-Some.behind-is) in
    c.range_around.ensures ∙ range_cut word c.in-Some.before.now c.in-Some.behind.now before behind

pub returns-in-None : goal.returns-in-None
returns-in-None c = sym (range_none c.args.word.now (split_once_first 46 c.args.word.now None c.in-None.ensures.cases (lit< tt)))
