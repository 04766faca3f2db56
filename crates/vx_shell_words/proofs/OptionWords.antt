-- One more option at the front of words.
use Rattle.std.proofs.Common.{◌≡◌, ◌∙◌, sym, ap, ℕ, ◌-◌, ◌≤◌, Bool, true, false, cond, List, [], ◌∷◌, length, drop, take, map, slice_index_or, Option, Some, None, arith}
use Rattle.std.specs.Option.{option_and_then}
use Rattle.std.proofs.lemmas.List.{length-drop, take_all}
use Rattle.vx_dtype.specs.Types.{Bytes}
use Rattle.vx_laws_writing.specs.WriteWords.{Options, and_force, and_option, is_force_word, options_behind}

-- all that is left behind the first items
pub left_behind : {A : Type 0} (n : ℕ) (xs : List A) → take (length xs - n) (drop n xs) ≡ drop n xs
left_behind n xs = let long = length-drop n xs in take_all (length xs - n) (drop n xs) (omega (arith, long))

-- one alone, before others
pub force_goes : {A : Type 0} (text : A → Bytes) (o more : Options) (option : A) (words : List A) → 2 ≤ length words → option ≡ slice_index_or words 0 option
    → is_force_word (text option) ≡ true → Some more ≡ and_force o → options_behind more (map text (drop 1 words)) ≡ options_behind o (map text words)
unfolding options_behind
force_goes text o more option [] h is force found = absurd (omega (arith, h))
force_goes text o more option (x ∷ []) h is force found = absurd (omega (arith, h))
force_goes {A = A} text o more option (x ∷ y ∷ words) h is force found =
    let goes = option_and_then (λ (m : Options). options_behind m (text y ∷ map text words)) in
    let otherwise = option_and_then (λ (m : Options). options_behind m (map text words)) (and_option o (text x) (text y)) in
    let there : is_force_word (text x) ≡ true = ap (λ (a : A). is_force_word (text a)) (sym is) ∙ force in
    ap goes found ∙ sym (ap (λ b. cond b (goes (and_force o)) otherwise) there)

-- one with its word
pub option_goes : {A : Type 0} (text : A → Bytes) (o more : Options) (option word : A) (words : List A) → 2 ≤ length words → option ≡ slice_index_or words 0 option
    → word ≡ slice_index_or words 1 word → is_force_word (text option) ≡ false → Some more ≡ and_option o (text option) (text word)
    → options_behind more (map text (drop 2 words)) ≡ options_behind o (map text words)
unfolding options_behind
option_goes text o more option word [] h is next force found = absurd (omega (arith, h))
option_goes text o more option word (x ∷ []) h is next force found = absurd (omega (arith, h))
option_goes {A = A} text o more option word (x ∷ y ∷ words) h is next force found =
    let goes = option_and_then (λ (m : Options). options_behind m (map text words)) in
    let forced = option_and_then (λ (m : Options). options_behind m (text y ∷ map text words)) (and_force o) in
    let there : is_force_word (text x) ≡ false = ap (λ (a : A). is_force_word (text a)) (sym is) ∙ force in
    let same : and_option o (text option) (text word) ≡ and_option o (text x) (text y) = ap (λ (a : A). and_option o (text a) (text word)) is ∙ ap (λ (a : A). and_option o (text x) (text a)) next in
    ap goes (found ∙ same) ∙ sym (ap (λ b. cond b forced (goes (and_option o (text x) (text y)))) there)
