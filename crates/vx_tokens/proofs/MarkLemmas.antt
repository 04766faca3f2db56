-- Texts between marks: a mark is one byte, and stands in no other character.
use Rattle.std.proofs.Common.{◌≡◌, ◌≢◌, ◌≤◌, ◌<◌, ℕ, ◌+◌, ◌==◌, Bool, true, false, nat_lt, refl, sym, List, [], ◌∷◌, ◌++◌, ◌/◌, ◌%◌, length, drop, append_assoc, append-nil, lit≤, ap, cond, ◌∙◌, arith}
use Rattle.std.proofs.Math.ListN.{get_or}
use lib.Chars.{codes}
use lib.Utf8.{encode, next}
use Rattle.std.specs.Str.{encode_utf8_all}
use Rattle.std.proofs.lemmas.Grind.{flat_map-append}
use Rattle.std.proofs.lemmas.List.{drop_more, drop_all}
use Rattle.std.specs.List.{flat_map}
use Rattle.std.specs.Char.{encode_utf8}
use Rattle.vx_dtype.specs.Types.{Bytes}
use Rattle.vx_tokens.specs.Names.{doubled, name_text, names_text}

-- a mark is written as one byte
pub mark_alone : (mark : ℕ) → mark < 128 → encode_utf8 mark ≡ mark ∷ []
unfolding encode
mark_alone mark h = let one : nat_lt mark 128 ≡ true = grind (arith, h) in rw one refl

same : (mark : ℕ) → doubled mark mark ≡ mark ∷ mark ∷ []
same mark = let is : (mark == mark) ≡ true = grind arith in rw is refl

-- a mark is written twice
pub mark_character : (mark c : ℕ) → mark < 128 → c ≡ mark → flat_map (doubled mark) (encode_utf8 c) ≡ encode_utf8 c ++ encode_utf8 c
mark_character mark c h e =
    let alone : encode_utf8 c ≡ mark ∷ [] = ap encode_utf8 e ∙ mark_alone mark h in
    rw alone (ap (λ (s : Bytes). s ++ []) (same mark))

-- a byte that isn't the mark stands as it is
other : (mark b : ℕ) → b ≢ mark → doubled mark b ≡ b ∷ []
other mark b h = let isnt : (b == mark) ≡ false = grind (arith, h) in rw isnt refl

-- a text without the mark
abbrev IsOther : ℕ → Bytes → Type 0
IsOther mark s = flat_map (doubled mark) s ≡ s

other_either : (mark : ℕ) (t : Bool) (s u : Bytes) → IsOther mark s → IsOther mark u → IsOther mark (cond t s u)
other_either mark true s u p q = p
other_either mark false s u p q = q

other_cons : (mark b : ℕ) (s : Bytes) → doubled mark b ≡ b ∷ [] → IsOther mark s → IsOther mark (b ∷ s)
other_cons mark b s e p = λ i. e i ++ p i

high : (mark n m : ℕ) → mark < 128 → 128 ≤ n → doubled mark (n + m) ≡ (n + m) ∷ []
high mark n m h k = other mark (n + m) (λ e. omega (arith, h, k, e))

other_next : (mark n : ℕ) (s : Bytes) → mark < 128 → IsOther mark s → IsOther mark (next n ∷ s)
other_next mark n s h p = other_cons mark (next n) s (high mark 128 (n % 64) h (lit≤ tt)) p

-- a character that isn't the mark stands as it is
pub other_character : (mark c : ℕ) → mark < 128 → c ≢ mark → flat_map (doubled mark) (encode_utf8 c) ≡ encode_utf8 c
unfolding encode
other_character mark c h d =
    let one = c ∷ [] in
    let last = next c ∷ [] in
    let two = (192 + c / 64) ∷ last in
    let three = (224 + c / 4096) ∷ next (c / 64) ∷ last in
    let four = (240 + c / 262144) ∷ next (c / 4096) ∷ next (c / 64) ∷ last in
    let other_last : IsOther mark last = other_next mark c [] h refl in
    let other_two : IsOther mark two = other_cons mark (192 + c / 64) last (high mark 192 (c / 64) h (lit≤ tt)) other_last in
    let other_three : IsOther mark three =
    other_cons mark (224 + c / 4096) (next (c / 64) ∷ last) (high mark 224 (c / 4096) h (lit≤ tt)) (other_next mark (c / 64) last h other_last) in
    let other_four : IsOther mark four =
    other_cons mark (240 + c / 262144) (next (c / 4096) ∷ next (c / 64) ∷ last) (high mark 240 (c / 262144) h (lit≤ tt))
    (other_next mark (c / 4096) (next (c / 64) ∷ last) h (other_next mark (c / 64) last h other_last)) in
    let longer = cond (nat_lt c 65536) three four in
    other_either mark (nat_lt c 128) one (cond (nat_lt c 2048) two longer) (other_cons mark c [] (other mark c d) refl)
    (other_either mark (nat_lt c 2048) two longer other_two (other_either mark (nat_lt c 65536) three four other_three other_four))

encode_push : (cs : List ℕ) (c : ℕ) → encode_utf8_all (cs ++ c ∷ []) ≡ encode_utf8_all cs ++ encode_utf8 c
encode_push [] c = append-nil (encode_utf8 c)
encode_push (x ∷ cs) c = ap (λ s. encode_utf8 x ++ s) (encode_push cs c) ∙ sym (append_assoc (encode_utf8 x) (encode_utf8_all cs) (encode_utf8 c))

-- what is written of some characters, and of one more
pub doubled_push : (mark : ℕ) (cs : List ℕ) (c : ℕ) → flat_map (doubled mark) (encode_utf8_all cs) ++ flat_map (doubled mark) (encode_utf8 c) ≡ flat_map (doubled mark) (encode_utf8_all (cs ++ c ∷ []))
doubled_push mark cs c = sym (ap (flat_map (doubled mark)) (encode_push cs c) ∙ flat_map-append (doubled mark) (encode_utf8_all cs) (encode_utf8 c))

-- the names from a place on are the one there and those behind it
pub names_text_step : (before : Bytes) (names : List Bytes) (i : ℕ) (name : Bytes) → i < length names → get_or names i name ≡ name
    → names_text before (drop i names) ≡ before ++ (name_text name ++ names_text (codes ", ") (drop (i + 1) names))
unfolding names_text
names_text_step before names i name h named = ap (names_text before) (drop_more names i name h ∙ ap (λ f. f ∷ drop (i + 1) names) named)

-- behind the last there is none
pub names_text_end : (before : Bytes) (names : List Bytes) (i : ℕ) → length names ≤ i → names_text before (drop i names) ≡ []
unfolding names_text
names_text_end before names i h = ap (names_text before) (drop_all i names h)
