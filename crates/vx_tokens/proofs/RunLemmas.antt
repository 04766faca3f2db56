-- Runs of characters, and what stands between two marks, from left to right.
use Rattle.std.proofs.Common.{◌≡◌, ℕ, suc, zero, ◌+◌, ◌-◌, ◌<◌, ◌≤◌, Bool, true, false, List, [], ◌∷◌, ◌++◌, length, get_or, take, drop, refl, sym, ap, ◌∙◌, append_assoc, append-nil, Option, Some, None, arith, ◌==◌}
use Rattle.std.specs.Prelude.{option_map, if◌then◌else◌}
use Rattle.vx_dtype.specs.Types.{Bytes}
use Rattle.std.specs.Str.{IsAscii, IsUtf8, is_utf8}
use Rattle.std.proofs.lemmas.Str.{IsUtf8-from_ascii, is_utf8-from_IsUtf8, IsUtf8-from_is_utf8}
use Rattle.std.proofs.lemmas.Str.Ascii.{IsAscii-nil, IsAscii-cons}
use Rattle.vx_tokens.specs.declared.tokens.Token.{Token}
use Rattle.vx_tokens.specs.declared.lexing.Class.{Class}
use Rattle.vx_tokens.specs.declared.lexing.Class.TheVariants.{Digits, Inner}
use Rattle.std.proofs.lemmas.Bool.Decides.{nat_tests}
use Rattle.vx_tokens.specs.Tokens.{tokens_of, tokens_within, next_token, token_at, behind_blank, quoted_behind, is_of, front, behind_mark, before, run_of, quoted_run, ◌>>=◌}

-- the run so far, and what is left of it
abbrev pub IsRun : (ℕ → Bool) → Bytes → ℕ → Type 0
IsRun class bytes i = run_of class bytes ≡ before (take i bytes) (run_of class (drop i bytes))

pub run_starts : (class : ℕ → Bool) (bytes : Bytes) → IsRun class bytes 0
run_starts class bytes = refl

run_step : (class : ℕ → Bool) (bytes : Bytes) (i : ℕ) → i < length bytes → class (get_or bytes i 0) ≡ true → before (take i bytes) (run_of class (drop i bytes)) ≡ before (take (suc i) bytes) (run_of class (drop (suc i) bytes))
unfolding run_of
run_step class [] i lt e = absurd (omega arith)
run_step class (b ∷ bytes) zero lt e = rw e refl
run_step class (b ∷ bytes) (suc i) lt e = ap (before (b ∷ [])) (run_step class bytes i (omega arith) e)

pub run_more : (class : ℕ → Bool) (bytes : Bytes) (i : ℕ) → i < length bytes → class (get_or bytes i 0) ≡ true → IsRun class bytes i → IsRun class bytes (i + 1)
run_more class bytes i lt e so_far =
    let k : suc i ≡ i + 1 = omega arith in
    so_far ∙ run_step class bytes i lt e ∙ ap (λ j. before (take j bytes) (run_of class (drop j bytes))) k

stop_step : (class : ℕ → Bool) (bytes : Bytes) (i : ℕ) → i < length bytes → class (get_or bytes i 0) ≡ false → before (take i bytes) (run_of class (drop i bytes)) ≡ (take i bytes, drop i bytes)
unfolding run_of
stop_step class [] i lt e = absurd (omega arith)
stop_step class (b ∷ bytes) zero lt e = rw e refl
stop_step class (b ∷ bytes) (suc i) lt e = ap (before (b ∷ [])) (stop_step class bytes i (omega arith) e)

pub run_stops : (class : ℕ → Bool) (bytes : Bytes) (i : ℕ) → i < length bytes → class (get_or bytes i 0) ≡ false → IsRun class bytes i → (take i bytes, drop i bytes) ≡ run_of class bytes
run_stops class bytes i lt e so_far = sym (so_far ∙ stop_step class bytes i lt e)

end_step : (class : ℕ → Bool) (bytes : Bytes) (i : ℕ) → length bytes ≤ i → before (take i bytes) (run_of class (drop i bytes)) ≡ (take i bytes, drop i bytes)
unfolding run_of
end_step class [] zero le = refl
end_step class [] (suc i) le = refl
end_step class (b ∷ bytes) zero le = absurd (omega arith)
end_step class (b ∷ bytes) (suc i) le = ap (before (b ∷ [])) (end_step class bytes i (omega arith))

pub run_ends : (class : ℕ → Bool) (bytes : Bytes) (i : ℕ) → length bytes ≤ i → IsRun class bytes i → (take i bytes, drop i bytes) ≡ run_of class bytes
run_ends class bytes i le so_far = sym (so_far ∙ end_step class bytes i le)

-- what was found between marks so far, and what is left
abbrev pub IsQuoting : ℕ → Bytes → Bytes → Bytes → Type 0
IsQuoting mark bytes inner rest = quoted_run mark bytes ≡ option_map (before inner) (quoted_run mark rest)

nothing-before : (r : Option (Bytes × Bytes)) → option_map (before []) r ≡ r
nothing-before (Some x) = refl
nothing-before None = refl

before-before : (a b : Bytes) (r : Option (Bytes × Bytes)) → option_map (before a) (option_map (before b) r) ≡ option_map (before (a ++ b)) r
before-before a b (Some x) = λ i. Some (sym (append_assoc a b x.0) i, x.1)
before-before a b None = refl

pub quoting_starts : (mark : ℕ) (bytes inner : Bytes) → inner ≡ [] → IsQuoting mark bytes inner bytes
quoting_starts mark bytes inner e = sym (ap (λ i. option_map (before i) (quoted_run mark bytes)) e ∙ nothing-before (quoted_run mark bytes))

quoted-plain : (mark b : ℕ) (bytes : Bytes) → (b == mark) ≡ false → quoted_run mark (b ∷ bytes) ≡ option_map (before (b ∷ [])) (quoted_run mark bytes)
unfolding quoted_run
quoted-plain mark b [] e = rw e refl
quoted-plain mark b (c ∷ bytes) e = rw e refl

double : (mark b c : ℕ) (bytes after : Bytes) (t : Bool) → Some after ≡ (if t then Some bytes else None) → (if t then option_map (before (b ∷ [])) (quoted_run mark bytes) else Some ([], c ∷ bytes)) ≡ option_map (before (b ∷ [])) (quoted_run mark after)
double mark b c bytes after true f = let same : after ≡ bytes = cc in ap (λ x. option_map (before (b ∷ [])) (quoted_run mark x)) (sym same)
double mark b c bytes after false f = absurd cc

single : (mark b c : ℕ) (bytes : Bytes) (t : Bool) → None ≡ (if t then Some bytes else None) → (if t then option_map (before (b ∷ [])) (quoted_run mark bytes) else Some ([], c ∷ bytes)) ≡ Some ([], c ∷ bytes)
single mark b c bytes true f = absurd cc
single mark b c bytes false f = refl

quoted-double : (mark b : ℕ) (bytes after : Bytes) → (b == mark) ≡ true → Some after ≡ behind_mark mark bytes → quoted_run mark (b ∷ bytes) ≡ option_map (before (b ∷ [])) (quoted_run mark after)
unfolding quoted_run
quoted-double mark b [] after e f = absurd cc
quoted-double mark b (c ∷ bytes) after e f = rw e (double mark b c bytes after (c == mark) f)

quoted-end : (mark b : ℕ) (bytes : Bytes) → (b == mark) ≡ true → None ≡ behind_mark mark bytes → quoted_run mark (b ∷ bytes) ≡ Some ([], bytes)
unfolding quoted_run
quoted-end mark b [] e f = rw e refl
quoted-end mark b (c ∷ bytes) e f = rw e (single mark b c bytes (c == mark) f)

quoted-none : (mark : ℕ) → quoted_run mark [] ≡ None
unfolding quoted_run
quoted-none mark = refl

abbrev both_of : ℕ × Bytes → Option (ℕ × Bytes) → Bytes
both_of other (Some x) = x.0 ∷ x.1
both_of other None = other.0 ∷ other.1

front-is : (bytes : Bytes) (b : ℕ) (behind : Bytes) → Some (b, behind) ≡ front bytes → bytes ≡ b ∷ behind
front-is [] b behind e = absurd cc
front-is (c ∷ bytes) b behind e = sym (ap (both_of (b, behind)) e)

pub front-shorter : (bytes : Bytes) (b : ℕ) (behind : Bytes) → Some (b, behind) ≡ front bytes → length bytes ≡ 1 + length behind
front-shorter bytes b behind e = ap length (front-is bytes b behind e) ∙ omega arith

mark_shorter : (t : Bool) (bytes after : Bytes) (b : ℕ) → Some after ≡ (if t then Some bytes else None) → length after < length (b ∷ bytes)
mark_shorter true bytes after b e = let same : after ≡ bytes = cc in omega (arith, ap length same)
mark_shorter false bytes after b e = absurd cc

pub mark-shorter : (mark : ℕ) (bytes after : Bytes) → Some after ≡ behind_mark mark bytes → length after < length bytes
mark-shorter mark [] after e = absurd cc
mark-shorter mark (b ∷ bytes) after e = mark_shorter (b == mark) bytes after b e

pub quoting_plain : (mark b : ℕ) (bytes inner new rest behind : Bytes) → (b == mark) ≡ false → Some (b, behind) ≡ front rest → new ≡ inner ++ b ∷ [] → IsQuoting mark bytes inner rest → IsQuoting mark bytes new behind
quoting_plain mark b bytes inner new rest behind e r n so_far =
    so_far ∙ ap (λ x. option_map (before inner) (quoted_run mark x)) (front-is rest b behind r) ∙ ap (option_map (before inner)) (quoted-plain mark b behind e)
    ∙ before-before inner (b ∷ []) (quoted_run mark behind) ∙ ap (λ x. option_map (before x) (quoted_run mark behind)) (sym n)

pub quoting_double : (mark b : ℕ) (bytes inner new rest behind after : Bytes) → (b == mark) ≡ true → Some (b, behind) ≡ front rest → Some after ≡ behind_mark mark behind → new ≡ inner ++ b ∷ [] → IsQuoting mark bytes inner rest → IsQuoting mark bytes new after
quoting_double mark b bytes inner new rest behind after e r f n so_far =
    so_far ∙ ap (λ x. option_map (before inner) (quoted_run mark x)) (front-is rest b behind r) ∙ ap (option_map (before inner)) (quoted-double mark b behind after e f)
    ∙ before-before inner (b ∷ []) (quoted_run mark after) ∙ ap (λ x. option_map (before x) (quoted_run mark after)) (sym n)

pub quoting_ends : (mark b : ℕ) (bytes inner rest behind : Bytes) → (b == mark) ≡ true → Some (b, behind) ≡ front rest → None ≡ behind_mark mark behind → IsQuoting mark bytes inner rest → Some (inner, behind) ≡ quoted_run mark bytes
quoting_ends mark b bytes inner rest behind e r f so_far =
    sym (so_far ∙ ap (λ x. option_map (before inner) (quoted_run mark x)) (front-is rest b behind r) ∙ ap (option_map (before inner)) (quoted-end mark b behind e f)
    ∙ ap (λ x. Some (x, behind)) (append-nil inner))

front-none : (bytes : Bytes) → None ≡ front bytes → bytes ≡ []
front-none [] e = refl
front-none (b ∷ bytes) e = absurd cc

pub quoting_fails : (mark : ℕ) (bytes inner rest : Bytes) → None ≡ front rest → IsQuoting mark bytes inner rest → None ≡ quoted_run mark bytes
quoting_fails mark bytes inner rest e so_far = sym (so_far ∙ ap (λ x. option_map (before inner) (quoted_run mark x)) (front-none rest e) ∙ ap (option_map (before inner)) (quoted-none mark))

-- a run of characters of words or numbers is text
of_ascii : (class : Class) (b : ℕ) → is_of class b ≡ true → b < 128
of_ascii Digits b e = grind (arith, nat_tests)
of_ascii Inner b e = grind (arith, nat_tests)

ascii_step : (class : Class) (b : ℕ) (bytes : Bytes) (t : Bool) → is_of class b ≡ t → IsAscii (run_of (is_of class) bytes).0 → IsAscii (if t then before (b ∷ []) (run_of (is_of class) bytes) else ([], b ∷ bytes)).0
ascii_step class b bytes true e more = IsAscii-cons b _ (of_ascii class b e) more
ascii_step class b bytes false e more = IsAscii-nil

run_ascii : (class : Class) (bytes : Bytes) → IsAscii (run_of (is_of class) bytes).0
unfolding run_of
run_ascii class [] = IsAscii-nil
run_ascii class (b ∷ bytes) = ascii_step class b bytes (is_of class b) refl (run_ascii class bytes)

pub run_text : (class : Class) (bytes : Bytes) → IsUtf8 (run_of (is_of class) bytes).0
run_text class bytes = IsUtf8-from_ascii _ (run_ascii class bytes)

pub same_test : (a b : ℕ) → a ≡ b → (a == b) ≡ true
same_test a b e = grind (arith, nat_tests)

pub other_test : (a b : ℕ) → (a ≡ b → ⊥) → (a == b) ≡ false
other_test a b e = grind (arith, nat_tests)

-- what was found between two marks, where it is text, and where it isn't
pub quoted_is : (mark : ℕ) (bytes inner rest : Bytes) → IsUtf8 inner → Some (inner, rest) ≡ quoted_run mark bytes → Some (inner, rest) ≡ quoted_behind (quoted_run mark bytes)
quoted_is mark bytes inner rest text e = rw (← e) (rw (is_utf8-from_IsUtf8 inner text) refl)

no_text : (t : Bool) (x : Bytes × Bytes) → (t ≡ true → ⊥) → None ≡ (if t then Some x else None)
no_text true x none = absurd (none refl)
no_text false x none = refl

pub quoted_not : (mark : ℕ) (bytes inner rest : Bytes) → (IsUtf8 inner → ⊥) → Some (inner, rest) ≡ quoted_run mark bytes → None ≡ quoted_behind (quoted_run mark bytes)
quoted_not mark bytes inner rest none e = rw (← e) (no_text (is_utf8 inner) (inner, rest) (λ is. none (IsUtf8-from_is_utf8 inner is)))

-- the tokens so far, and what is left
abbrev pub IsCutting : Bytes → ℕ → ℕ → List Token → Bytes → Type 0
IsCutting bytes n i so_far rest = tokens_of bytes ≡ tokens_within (n - i) so_far rest

pub cutting_starts : (bytes : Bytes) (so_far : List Token) → so_far ≡ [] → IsCutting bytes (length bytes) 0 so_far bytes
cutting_starts bytes so_far e =
    let k : length bytes - 0 ≡ length bytes = omega arith in
    ap (λ s. tokens_within (length bytes) s bytes) (sym e) ∙ ap (λ n. tokens_within n so_far bytes) (sym k)

within-none : (n : ℕ) (so_far : List Token) → tokens_within n so_far [] ≡ Some so_far
unfolding tokens_within
within-none zero so_far = refl
within-none (suc n) so_far = refl

pub cutting_ends : (bytes : Bytes) (n i : ℕ) (so_far : List Token) (rest : Bytes) → rest ≡ [] → IsCutting bytes n i so_far rest → Some so_far ≡ tokens_of bytes
cutting_ends bytes n i so_far rest e cut = sym (cut ∙ ap (tokens_within (n - i) so_far) e ∙ within-none (n - i) so_far)

within-one : (n : ℕ) (so_far : List Token) (rest : Bytes) → (rest ≡ [] → ⊥) → tokens_within (suc n) so_far rest ≡ next_token (tokens_within n) so_far rest (behind_blank rest)
unfolding tokens_within
within-one n so_far [] none = absurd (none refl)
within-one n so_far (b ∷ bytes) none = refl

pub cutting_blank : (bytes : Bytes) (n i : ℕ) (so_far : List Token) (rest behind : Bytes) → i < n → Some behind ≡ behind_blank rest → (rest ≡ [] → ⊥) → IsCutting bytes n i so_far rest → IsCutting bytes n (i + 1) so_far behind
cutting_blank bytes n i so_far rest behind lt e none cut =
    let k : n - i ≡ suc (n - (i + 1)) = omega arith in
    cut ∙ ap (λ m. tokens_within m so_far rest) k ∙ within-one (n - (i + 1)) so_far rest none ∙ ap (next_token (tokens_within (n - (i + 1))) so_far rest) (sym e)

pub cutting_token : (bytes : Bytes) (n i : ℕ) (so_far new : List Token) (rest behind : Bytes) (t : Token) → i < n → None ≡ behind_blank rest → (rest ≡ [] → ⊥) → Some (t, behind) ≡ token_at rest → new ≡ so_far ++ t ∷ []
    → IsCutting bytes n i so_far rest → IsCutting bytes n (i + 1) new behind
cutting_token bytes n i so_far new rest behind t lt e none f is cut =
    let k : n - i ≡ suc (n - (i + 1)) = omega arith in
    cut ∙ ap (λ m. tokens_within m so_far rest) k ∙ within-one (n - (i + 1)) so_far rest none ∙ ap (next_token (tokens_within (n - (i + 1))) so_far rest) (sym e)
    ∙ ap (λ found. found >>= λ x. tokens_within (n - (i + 1)) (so_far ++ x.0 ∷ []) x.1) (sym f) ∙ ap (λ s. tokens_within (n - (i + 1)) s behind) (sym is)

pub cutting_fails : (bytes : Bytes) (n i : ℕ) (so_far : List Token) (rest : Bytes) → i < n → None ≡ behind_blank rest → (rest ≡ [] → ⊥) → None ≡ token_at rest → IsCutting bytes n i so_far rest → None ≡ tokens_of bytes
cutting_fails bytes n i so_far rest lt e none f cut =
    let k : n - i ≡ suc (n - (i + 1)) = omega arith in
    sym (cut ∙ ap (λ m. tokens_within m so_far rest) k ∙ within-one (n - (i + 1)) so_far rest none ∙ ap (next_token (tokens_within (n - (i + 1))) so_far rest) (sym e)
    ∙ ap (λ found. found >>= λ x. tokens_within (n - (i + 1)) (so_far ++ x.0 ∷ []) x.1) (sym f))

within-over : (so_far : List Token) (rest : Bytes) → (rest ≡ [] → ⊥) → tokens_within 0 so_far rest ≡ None
unfolding tokens_within
within-over so_far [] none = absurd (none refl)
within-over so_far (b ∷ bytes) none = refl

pub cutting_over : (bytes : Bytes) (n i : ℕ) (so_far : List Token) (rest : Bytes) → n ≤ i → (rest ≡ [] → ⊥) → IsCutting bytes n i so_far rest → None ≡ tokens_of bytes
cutting_over bytes n i so_far rest le none cut =
    let k : n - i ≡ 0 = omega arith in
    sym (cut ∙ ap (λ m. tokens_within m so_far rest) k ∙ within-over so_far rest none)

pub empty_is : (bytes : Bytes) (t : Bool) → t ≡ (length bytes == 0) → t ≡ true → bytes ≡ []
empty_is [] t e f = refl
empty_is (b ∷ bytes) t e f = absurd (grind (arith, nat_tests))

pub filled_is : (bytes : Bytes) (t : Bool) → t ≡ (length bytes == 0) → t ≡ false → bytes ≡ [] → ⊥
filled_is [] t e f g = absurd (grind (arith, nat_tests))
filled_is (b ∷ bytes) t e f g = absurd cc
