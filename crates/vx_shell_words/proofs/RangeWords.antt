-- Where the words of a range are cut.
use Rattle.std.proofs.Common.{◌≡◌, ◌≢◌, refl, ap, sym, ℕ, ◌+◌, ◌==◌, Bool, cond, Option, Some, None, MatchOption, option_map, List, [], ◌∷◌, length, ⊎_elim, arith}
use Rattle.std.specs.List.{before_first, after_first, position_or_len}
use Rattle.std.proofs.lemmas.Bool.{cases_eq, ne_eqb}
use Rattle.std.proofs.lemmas.List.{drop_all}
use denote.Ref.{Bor}
use Rattle.vx_dtype.specs.Types.{Bytes}
use Rattle.vx_laws_shell.specs.Words.{behind_dot, range_around, range_of_word}

-- a text without `.`
pub range_none : (word : Bytes) → position_or_len (λ b. b == 46) word ≡ length word → range_of_word word ≡ None
unfolding range_of_word
range_none word h =
    let none : after_first (λ b. b == 46) word ≡ [] = drop_all (position_or_len (λ b. b == 46) word + 1) word (omega (arith, h)) in
    ap (range_around (before_first (λ b. b == 46) word)) none

pub range_cut : (word before behind : Bytes) → before ≡ before_first (λ b. b == 46) word → behind ≡ after_first (λ b. b == 46) word
    → range_around before behind ≡ range_of_word word
unfolding range_of_word
range_cut word before behind h k = λ i. range_around (h i) (k i)

dot_none : (text : Bytes) → ((rest : Bytes) → text ≢ 46 ∷ rest) → behind_dot text ≡ None
dot_none [] h = refl
dot_none (b ∷ bytes) h =
    ⊎_elim
    (λ (e : b ≡ 46). let no : ⊥ = h bytes (ap (λ (c : ℕ). c ∷ bytes) e) in absurd no)
    (λ (e : b ≡ 46 → ⊥). ap (λ (t : Bool). cond t (Some bytes) None) (ne_eqb b 46 e))
    (cases_eq b 46)

dot_some : (text rest : Bytes) → text ≡ 46 ∷ rest → Some rest ≡ behind_dot text
dot_some text rest h = ap behind_dot (sym h)

-- what stands behind the `.` that a text begins with
pub behind_is : (text : Bytes) (r : Option (Bor (List ℕ))) → MatchOption r ((rest : List ℕ) → text ≢ 46 ∷ rest) (λ x. text ≡ 46 ∷ x.now)
    → option_map (λ x. x.now) r ≡ behind_dot text
behind_is text None h = sym (dot_none text h)
behind_is text (Some x) h = dot_some text x.now h
