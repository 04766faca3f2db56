-- A word tells a range exactly where it is the decimal digits of two numbers with `..` between them, of which the first isn't greater.
use Rattle.std.proofs.Common.{◌≡◌, refl, ap, ◌∙◌, ℕ, suc, ◌+◌, ◌^◌, ◌<◌, ◌≤◌, Bool, true, false, cond, not, ◌==◌, nat_le, Option, Some, None, [], ◌∷◌, ◌++◌, length, get_or, take, drop, arith, codes, decimal}
use Rattle.std.specs.Char.{is_ascii_digit}
use Rattle.std.specs.List.{list_all, before_first, after_first, position_or_len}
use Rattle.std.specs.Option.{option_and_then}
use Rattle.std.proofs.lemmas.Bool.{and_parts, eqb-true, ne_eqb, le-leb, leb-true}
use Rattle.std.proofs.lemmas.List.{length-drop, take_at}
use Rattle.std.proofs.lemmas.List.Sums.{split_at_first, passes_at_first}
use Rattle.std.proofs.lemmas.Option.{cond_some, none-some}
use Rattle.vx_dtype.specs.Types.{Bytes}
use Rattle.vx_laws_file.proofs.HeldLemmas.{and_then_parts}
use Rattle.vx_laws_shell.specs.Words.{BlockRange, number_of_word, range_between, range_of_words, behind_dot, range_around, range_of_word, WordsTellRanges}
use Rattle.vx_laws_shell.proofs.NumberWords.{are_digits, number_again, digit_range, number_said}

-- ---- the digits of two numbers tell a range

-- the first dot behind digits stands behind them all
dot_at : (ds rest : Bytes) → list_all is_ascii_digit ds ≡ true → position_or_len (λ (b : ℕ). b == 46) (ds ++ 46 ∷ rest) ≡ length ds
dot_at [] rest e = refl
dot_at (d ∷ ds) rest e =
    let k = and_parts (is_ascii_digit d) (list_all is_ascii_digit ds) e in
    let range = digit_range d k.0 in
    let more = dot_at ds rest k.1 in
    let next : 1 + position_or_len (λ (b : ℕ). b == 46) (ds ++ 46 ∷ rest) ≡ suc (length ds) = omega (arith, more) in
    let other : (d == 46) ≡ false = ne_eqb d 46 (λ same. omega (arith, same, range.0)) in
    ap (λ (b : Bool). cond (not b) (1 + position_or_len (λ (b : ℕ). b == 46) (ds ++ 46 ∷ rest)) 0) other ∙ next

before_dot : (ds rest : Bytes) → list_all is_ascii_digit ds ≡ true → before_first (λ (b : ℕ). b == 46) (ds ++ 46 ∷ rest) ≡ ds
before_dot ds rest e = ap (λ (k : ℕ). take k (ds ++ 46 ∷ rest)) (dot_at ds rest e) ∙ take_at ds (46 ∷ rest) (length ds) refl

drop_past : (ds rest : Bytes) (b : ℕ) → drop (length ds + 1) (ds ++ b ∷ rest) ≡ rest
drop_past [] rest b = refl
drop_past (d ∷ ds) rest b =
    let on : suc (length ds) + 1 ≡ suc (length ds + 1) = omega arith in
    ap (λ (k : ℕ). drop k (d ∷ (ds ++ b ∷ rest))) on ∙ drop_past ds rest b

after_dot : (ds rest : Bytes) → list_all is_ascii_digit ds ≡ true → after_first (λ (b : ℕ). b == 46) (ds ++ 46 ∷ rest) ≡ rest
after_dot ds rest e = ap (λ (k : ℕ). drop (k + 1) (ds ++ 46 ∷ rest)) (dot_at ds rest e) ∙ drop_past ds rest 46

telling : (word : Bytes) (range : BlockRange) → word ≡ decimal range.from ++ (codes ".." ++ decimal range.up_to) → range.from ≤ range.up_to → range.up_to < 2 ^ 64
    → range_of_word word ≡ Some range
unfolding range_of_word
telling word range e order small =
    let first = decimal range.from in
    let second = decimal range.up_to in
    let least : range.from < 2 ^ 64 = omega (arith, order, small) in
    let digits = (are_digits range.from least).digits in
    let rest : Bytes = 46 ∷ second in
    let found : BlockRange = record { from = range.from; up_to = range.up_to } in
    ap (λ (w : Bytes). range_of_word w) e
    ∙ ap (λ (before : Bytes). range_around before (after_first (λ (b : ℕ). b == 46) (first ++ 46 ∷ rest))) (before_dot first rest digits)
    ∙ ap (λ (behind : Bytes). range_around first behind) (after_dot first rest digits)
    ∙ ap (λ (o : Option ℕ). option_and_then (λ (m : ℕ). option_and_then (range_between m) (number_of_word second)) o) (number_again range.from least)
    ∙ ap (λ (o : Option ℕ). option_and_then (range_between range.from) o) (number_again range.up_to small)
    ∙ ap (λ (b : Bool). cond b (Some found) None) (le-leb range.from range.up_to order)

-- ---- a word that tells a range is the digits of its numbers

dot_behind : (behind rest : Bytes) → behind_dot behind ≡ Some rest → behind ≡ 46 ∷ rest
dot_behind [] rest e = absurd (none-some rest e)
dot_behind (b ∷ bytes) rest e =
    let k = cond_some (b == 46) bytes rest e in
    let dot = eqb-true b 46 k.0 in
    λ i. dot i ∷ k.1 i

inside : (place : ℕ) (word rest : Bytes) → drop (place + 1) word ≡ 46 ∷ rest → place < length word
inside place word rest e = omega (arith, length-drop (place + 1) word, ap (λ (bytes : Bytes). length bytes) e)

whole : (word rest : Bytes) → after_first (λ (b : ℕ). b == 46) word ≡ 46 ∷ rest → word ≡ before_first (λ (b : ℕ). b == 46) word ++ (46 ∷ 46 ∷ rest)
whole word rest e =
    let within = inside (position_or_len (λ (b : ℕ). b == 46) word) word rest e in
    let dot = eqb-true (get_or word (position_or_len (λ (b : ℕ). b == 46) word) 0) 46 (passes_at_first (λ (b : ℕ). b == 46) word 0 within) in
    split_at_first (λ (b : ℕ). b == 46) word 0 within ∙ (λ i. before_first (λ (b : ℕ). b == 46) word ++ (dot i ∷ e i))

told : (word : Bytes) (range : BlockRange) → range_of_word word ≡ Some range
    → (word ≡ decimal range.from ++ (codes ".." ++ decimal range.up_to)) × (range.from ≤ range.up_to) × (range.up_to < 2 ^ 64)
unfolding range_of_word
told word range e =
    let before = before_first (λ (b : ℕ). b == 46) word in
    let behind = after_first (λ (b : ℕ). b == 46) word in
    let dots = and_then_parts (range_of_words before) (behind_dot behind) range e in
    let rest = dots.0 in
    let one = and_then_parts (λ (m : ℕ). option_and_then (range_between m) (number_of_word rest)) (number_of_word before) range dots.2 in
    let two = and_then_parts (range_between one.0) (number_of_word rest) range one.2 in
    let found : BlockRange = record { from = one.0; up_to = two.0 } in
    let order = cond_some (nat_le one.0 two.0) found range two.2 in
    let from_is : one.0 ≡ range.from = ap (λ (r : BlockRange). r.from) order.1 in
    let up_to_is : two.0 ≡ range.up_to = ap (λ (r : BlockRange). r.up_to) order.1 in
    let first = number_said before one.0 one.1 in
    let second = number_said rest two.0 two.1 in
    let front : before ≡ decimal range.from = first.0 ∙ ap decimal from_is in
    let back : rest ≡ decimal range.up_to = second.0 ∙ ap decimal up_to_is in
    let le = leb-true one.0 two.0 order.0 in (
      whole word rest (dot_behind behind rest dots.1) ∙ (λ i. front i ++ (46 ∷ 46 ∷ back i)),
      omega (arith, le, from_is, up_to_is),
      omega (arith, second.1, up_to_is),
    )

pub words_tell_ranges : WordsTellRanges
words_tell_ranges word range = (told word range, λ h. telling word range h.0 h.1 h.2)
