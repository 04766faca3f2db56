-- Parts of printed texts.
use Rattle.std.proofs.Common.{◌≡◌, ◌≢◌, ◌≤◌, drop, ℕ, ◌+◌, ◌<◌, ◌==◌, Bool, true, false, nat_lt, refl, sym, [], ◌∷◌, ◌++◌, ◌/◌, ◌%◌, append_assoc, append-nil, lit≤, ap, cond, List, length, ◌∙◌, arith}
use Rattle.std.proofs.Math.ListN.{get_or}
use lib.Chars.{codes}
use lib.Utf8.{encode, next}
use Rattle.std.specs.Str.{encode_utf8_all}
use Rattle.std.proofs.lemmas.Grind.{flat_map-append}
use Rattle.std.proofs.lemmas.List.{drop_more}
use Rattle.std.specs.List.{flat_map}
use Rattle.std.specs.Char.{encode_utf8}
use Rattle.vx_dtype.specs.Types.{Bytes, Ty}
use Rattle.vx_dtype.specs.Texts.{separator_at, fields_text, field_text, escaped_byte, quoted_text, quoted_names}
use Rattle.vx_dtype.proofs.ZippedLemmas.{fields_from, fields_from-step}

pub separator_after : (i : ℕ) → codes ", " ≡ separator_at (i + 1)
separator_after i = let later : false ≡ ((i + 1) == 0) = grind arith in ap (λ b. cond b [] (codes ", ")) later

-- the text of the fields from a place on is that of the field there, and that of those behind it
pub fields_text_step : {A : Type 0} (see : A → Ty) (fs : List Bytes) (xs : List A) (i : ℕ) (f : Bytes) (x : A) → length fs ≡ length xs → i < length xs → fields_text (separator_at i) (fields_from see i fs xs) ≡ field_text (separator_at i) (get_or fs i f) (see (get_or xs i x)) ++ fields_text (separator_at (i + 1)) (fields_from see (i + 1) fs xs)
unfolding fields_text
fields_text_step see fs xs i f x e h =
    ap (fields_text (separator_at i)) (fields_from-step see fs xs i f x e h)
    ∙ ap (λ s. field_text (separator_at i) (get_or fs i f) (see (get_or xs i x)) ++ fields_text s (fields_from see (i + 1) fs xs)) (separator_after i)

-- a byte that isn't escaped stands as it is
plain_byte : (b : ℕ) → 32 ≤ b → b ≢ 34 → b ≢ 92 → escaped_byte b ≡ b ∷ []
plain_byte b a h k =
    let quote : (b == 34) ≡ false = grind (arith, h) in
    let backslash : (b == 92) ≡ false = grind (arith, k) in
    let backspace : (b == 8) ≡ false = grind (arith, a) in
    let tab : (b == 9) ≡ false = grind (arith, a) in
    let newline : (b == 10) ≡ false = grind (arith, a) in
    let feed : (b == 12) ≡ false = grind (arith, a) in
    let return : (b == 13) ≡ false = grind (arith, a) in
    let control : nat_lt b 32 ≡ false = grind (arith, a) in
    rw (quote, backslash, backspace, tab, newline, feed, return, control) refl

-- a text that stands as it is within quotes
abbrev IsPlain : Bytes → Type 0
IsPlain s = flat_map escaped_byte s ≡ s

plain_either : (t : Bool) (s u : Bytes) → IsPlain s → IsPlain u → IsPlain (cond t s u)
plain_either true s u p q = p
plain_either false s u p q = q

plain_cons : (b : ℕ) (s : Bytes) → escaped_byte b ≡ b ∷ [] → IsPlain s → IsPlain (b ∷ s)
plain_cons b s e p = λ i. e i ++ p i

high : (n m : ℕ) → 128 ≤ n → escaped_byte (n + m) ≡ (n + m) ∷ []
high n m h = plain_byte (n + m) (omega (arith, h)) (λ e. omega (arith, h, e)) (λ e. omega (arith, h, e))

plain_next : (n : ℕ) (s : Bytes) → IsPlain s → IsPlain (next n ∷ s)
plain_next n s p = plain_cons (next n) s (high 128 (n % 64) (lit≤ tt)) p

-- a character that isn't escaped stands as it is
pub plain_character : (c : ℕ) → 32 ≤ c → c ≢ 34 → c ≢ 92 → flat_map escaped_byte (encode_utf8 c) ≡ encode_utf8 c
unfolding encode
plain_character c a b d =
    let one = c ∷ [] in
    let last = next c ∷ [] in
    let two = (192 + c / 64) ∷ last in
    let three = (224 + c / 4096) ∷ next (c / 64) ∷ last in
    let four = (240 + c / 262144) ∷ next (c / 4096) ∷ next (c / 64) ∷ last in
    let plain_last : IsPlain last = plain_next c [] refl in
    let plain_two : IsPlain two = plain_cons (192 + c / 64) last (high 192 (c / 64) (lit≤ tt)) plain_last in
    let plain_three : IsPlain three = plain_cons (224 + c / 4096) (next (c / 64) ∷ last) (high 224 (c / 4096) (lit≤ tt)) (plain_next (c / 64) last plain_last) in
    let plain_four : IsPlain four =
    plain_cons (240 + c / 262144) (next (c / 4096) ∷ next (c / 64) ∷ last) (high 240 (c / 262144) (lit≤ tt)) (plain_next (c / 4096) (next (c / 64) ∷ last) (plain_next (c / 64) last plain_last)) in
    let longer = cond (nat_lt c 65536) three four in
    plain_either (nat_lt c 128) one (cond (nat_lt c 2048) two longer) (plain_cons c [] (plain_byte c a b d) refl)
    (plain_either (nat_lt c 2048) two longer plain_two (plain_either (nat_lt c 65536) three four plain_three plain_four))

encode_push : (cs : List ℕ) (c : ℕ) → encode_utf8_all (cs ++ c ∷ []) ≡ encode_utf8_all cs ++ encode_utf8 c
encode_push [] c = append-nil (encode_utf8 c)
encode_push (x ∷ cs) c = ap (λ s. encode_utf8 x ++ s) (encode_push cs c) ∙ sym (append_assoc (encode_utf8 x) (encode_utf8_all cs) (encode_utf8 c))

-- what is written of some characters, and of one more
pub escaped_push : (cs : List ℕ) (c : ℕ) → flat_map escaped_byte (encode_utf8_all cs) ++ flat_map escaped_byte (encode_utf8 c) ≡ flat_map escaped_byte (encode_utf8_all (cs ++ c ∷ []))
escaped_push cs c = sym (ap (flat_map escaped_byte) (encode_push cs c) ∙ flat_map-append escaped_byte (encode_utf8_all cs) (encode_utf8 c))

-- the quoted names from a place on are the one there and those behind it
pub quoted_names_step : (fs : List Bytes) (i : ℕ) (f : Bytes) → i < length fs → quoted_names (separator_at i) (drop i fs) ≡ separator_at i ++ quoted_text (get_or fs i f) ++ quoted_names (separator_at (i + 1)) (drop (i + 1) fs)
quoted_names_step fs i f h =
    ap (quoted_names (separator_at i)) (drop_more fs i f h)
    ∙ ap (λ s. separator_at i ++ quoted_text (get_or fs i f) ++ quoted_names s (drop (i + 1) fs)) (separator_after i)
