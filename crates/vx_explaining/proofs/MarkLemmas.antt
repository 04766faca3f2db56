-- Characters in a document of marks.
use Rattle.std.proofs.Common.{◌≡◌, ◌≢◌, ◌≤◌, ℕ, ◌+◌, ◌==◌, Bool, true, false, nat_lt, refl, sym, [], ◌∷◌, ◌++◌, ◌/◌, ◌%◌, append_assoc, append-nil, lit≤, ap, cond, List, ◌∙◌, arith}
use lib.Utf8.{encode, next}
use Rattle.std.specs.Str.{encode_utf8_all}
use Rattle.std.proofs.lemmas.Grind.{flat_map-append}
use Rattle.std.specs.List.{flat_map}
use Rattle.std.specs.Char.{encode_utf8}
use Rattle.vx_dtype.specs.Types.{Bytes}
use Rattle.vx_laws_explaining.specs.ExplainedPictures.{marked_byte}

-- a byte that isn't escaped stands as it is
plain_byte : (b : ℕ) → 32 ≤ b → b ≢ 38 → b ≢ 60 → b ≢ 62 → b ≢ 34 → marked_byte b ≡ b ∷ []
plain_byte b a h k l m =
    let and : (b == 38) ≡ false = grind (arith, h) in
    let less : (b == 60) ≡ false = grind (arith, k) in
    let greater : (b == 62) ≡ false = grind (arith, l) in
    let quote : (b == 34) ≡ false = grind (arith, m) in
    let control : nat_lt b 32 ≡ false = grind (arith, a) in
    rw (and, less, greater, quote, control) refl

-- a text that stands as it is in a document
abbrev IsPlain : Bytes → Type 0
IsPlain s = flat_map marked_byte s ≡ s

plain_either : (t : Bool) (s u : Bytes) → IsPlain s → IsPlain u → IsPlain (cond t s u)
plain_either true s u p q = p
plain_either false s u p q = q

plain_cons : (b : ℕ) (s : Bytes) → marked_byte b ≡ b ∷ [] → IsPlain s → IsPlain (b ∷ s)
plain_cons b s e p = λ i. e i ++ p i

high : (n m : ℕ) → 128 ≤ n → marked_byte (n + m) ≡ (n + m) ∷ []
high n m h =
    plain_byte (n + m) (omega (arith, h)) (λ e. omega (arith, h, e)) (λ e. omega (arith, h, e)) (λ e. omega (arith, h, e)) (λ e. omega (arith, h, e))

plain_next : (n : ℕ) (s : Bytes) → IsPlain s → IsPlain (next n ∷ s)
plain_next n s p = plain_cons (next n) s (high 128 (n % 64) (lit≤ tt)) p

-- a character that isn't escaped stands as it is
pub plain_character : (c : ℕ) → 32 ≤ c → c ≢ 38 → c ≢ 60 → c ≢ 62 → c ≢ 34 → flat_map marked_byte (encode_utf8 c) ≡ encode_utf8 c
unfolding encode
plain_character c a h k l m =
    let one = c ∷ [] in
    let last = next c ∷ [] in
    let two = (192 + c / 64) ∷ last in
    let three = (224 + c / 4096) ∷ next (c / 64) ∷ last in
    let four = (240 + c / 262144) ∷ next (c / 4096) ∷ next (c / 64) ∷ last in
    let plain_last : IsPlain last = plain_next c [] refl in
    let plain_two : IsPlain two = plain_cons (192 + c / 64) last (high 192 (c / 64) (lit≤ tt)) plain_last in
    let plain_three : IsPlain three = plain_cons (224 + c / 4096) (next (c / 64) ∷ last) (high 224 (c / 4096) (lit≤ tt)) (plain_next (c / 64) last plain_last) in
    let plain_four : IsPlain four =
    plain_cons (240 + c / 262144) (next (c / 4096) ∷ next (c / 64) ∷ last) (high 240 (c / 262144) (lit≤ tt)) (plain_next (c / 4096) (next (c / 64) ∷ last) (plain_next (c / 64) last plain_last)) in
    let longer = cond (nat_lt c 65536) three four in
    plain_either (nat_lt c 128) one (cond (nat_lt c 2048) two longer) (plain_cons c [] (plain_byte c a h k l m) refl)
    (plain_either (nat_lt c 2048) two longer plain_two (plain_either (nat_lt c 65536) three four plain_three plain_four))

encode_push : (cs : List ℕ) (c : ℕ) → encode_utf8_all (cs ++ c ∷ []) ≡ encode_utf8_all cs ++ encode_utf8 c
encode_push [] c = append-nil (encode_utf8 c)
encode_push (x ∷ cs) c = ap (λ s. encode_utf8 x ++ s) (encode_push cs c) ∙ sym (append_assoc (encode_utf8 x) (encode_utf8_all cs) (encode_utf8 c))

-- what is written of some characters, and of one more
pub marked_push : (cs : List ℕ) (c : ℕ) → flat_map marked_byte (encode_utf8_all cs) ++ flat_map marked_byte (encode_utf8 c) ≡ flat_map marked_byte (encode_utf8_all (cs ++ c ∷ []))
marked_push cs c = sym (ap (flat_map marked_byte) (encode_push cs c) ∙ flat_map-append marked_byte (encode_utf8_all cs) (encode_utf8 c))
