use Rattle.std.proofs.Common.{◌≡◌, ◌∙◌, ap, map, Some, true, false, rules}
use Rattle.std.specs.String.{string_bytes}
use Rattle.vx_laws_writing.specs.WriteWords.{and_option, is_force_word, options_behind}
use Rattle.vx_shell_words.specs.WordViews.{options_view}
use Rattle.vx_shell_words.proofs.OptionWords.{force_goes, left_behind, option_goes}
use Rattle.vx_shell_words.proofs.writes.+options_behind.Goals as goal

pub returns-in-Some : goal.returns-in-Some
returns-in-Some t c =
    let option = c.option-item-2.result in
    let force : is_force_word (string_bytes option) ≡ true = search rules in
    let more = options_view c.in-Some.more in
    c.options_behind.ensures
    ∙ ap (λ words. options_behind more (map string_bytes words)) (left_behind 1 c.args.words.now)
    ∙ force_goes string_bytes (options_view c.args.options) more option c.args.words.now c.in-len1-up.len_at_least c.option-item-2.is force c.in-Some.ensures

pub returns-in-Some-and_option : goal.returns-in-Some-and_option
returns-in-Some-and_option t c =
    let option = c.option-item-3.result in
    let word = c.word-item.result in
    let o = options_view c.args.options in
    let more = options_view c.in-Some-and_option.more in
    let other : is_force_word (string_bytes option) ≡ false = search rules in
    let found : Some more ≡ and_option o (string_bytes option) (string_bytes word) = search rules in
    c.options_behind-in-Some-and_option.ensures
    ∙ ap (λ words. options_behind more (map string_bytes words)) (left_behind 2 c.args.words.now)
    ∙ option_goes string_bytes o more option word c.args.words.now c.in-len1-up.len_at_least c.option-item-3.is c.word-item.is other found
