-- In a text that is UTF-8, what stands between two marks and behind a token is UTF-8.
use Rattle.std.proofs.Common.{◌≡◌, ℕ, zero, suc, ◌+◌, ◌<◌, ◌≤◌, Bool, true, false, List, [], ◌∷◌, ◌++◌, length, get_or, take, drop, refl, sym, ap, subst, ◌∙◌, append_assoc, append-nil, Option, Some, None, arith, IsUtf8, length-append, ◌⊎◌, inl, inr}
use Rattle.std.specs.Prelude.{option_map, if◌then◌else◌, ◌==◌}
use Rattle.std.specs.Option.{option_or}
use Rattle.std.specs.Str.{is_utf8}
use Rattle.std.proofs.lemmas.Str.{IsUtf8-nil, IsUtf8-append, IsUtf8-take, IsUtf8-drop, IsUtf8-from_ascii, IsCharBoundary-before_ascii, IsCharBoundary-after_ascii, IsUtf8-from_is_utf8, is_utf8-from_IsUtf8}
use Rattle.std.proofs.lemmas.Str.Ascii.{IsAscii-nil, IsAscii-cons}
use Rattle.std.proofs.lemmas.Bool.{cases_lt}
use Rattle.std.proofs.lemmas.Bool.Decides.{nat_tests}
use Rattle.vx_dtype.specs.Types.{Bytes}
use Rattle.vx_tokens.specs.declared.tokens.Sign.{Sign}
use Rattle.vx_tokens.specs.declared.tokens.Token.{Token}
use Rattle.vx_tokens.specs.declared.tokens.Token.TheVariants.{Quoted, Quote, Mark}
use Rattle.vx_tokens.specs.Tokens.{◌>>=◌, is_blank, is_first, is_digit, is_inner, before, run_of, word_token, number_of, number_behind, quoted_run, two_signs, bracket_of, stop_of, operation_of, one_sign, longer_sign, sign_at, word_behind, quoted_behind, name_behind, text_behind, marked_at, token_at, next_token, tokens_within}
use Rattle.vx_laws_text.specs.Unchecked.{unchecked_name, unchecked_text, unchecked_mark_at, unchecked_at, unchecked_next, unchecked_within, QuotedIsUtf8, RestIsUtf8, TestChangesNothing}
use Rattle.vx_laws_text.proofs.Pieces.{if-true}

-- ---- a text is cut before and behind a byte below 128

at_seam : (xs ys : Bytes) (b : ℕ) → get_or (xs ++ b ∷ ys) (length xs) 0 ≡ b
at_seam [] ys b = refl
at_seam (x ∷ xs) ys b = at_seam xs ys b

take_seam : (xs ys : Bytes) → take (length xs) (xs ++ ys) ≡ xs
take_seam [] ys = refl
take_seam (x ∷ xs) ys = ap (λ (zs : Bytes). x ∷ zs) (take_seam xs ys)

drop_seam : (xs ys : Bytes) (b : ℕ) → drop (suc (length xs)) (xs ++ b ∷ ys) ≡ ys
drop_seam [] ys b = refl
drop_seam (x ∷ xs) ys b = drop_seam xs ys b

front_utf8 : (xs ys : Bytes) (b : ℕ) → b < 128 → IsUtf8 (xs ++ b ∷ ys) → IsUtf8 xs
front_utf8 xs ys b low text =
    let bytes = xs ++ b ∷ ys in
    let within : length xs < length bytes = omega (arith, length-append xs (b ∷ ys)) in
    let ascii : get_or bytes (length xs) 0 < 128 = rw (at_seam xs ys b) low in
    subst IsUtf8 (take_seam xs (b ∷ ys)) (IsUtf8-take bytes (length xs) text (IsCharBoundary-before_ascii bytes (length xs) within ascii))

rest_utf8 : (xs ys : Bytes) (b : ℕ) → b < 128 → IsUtf8 (xs ++ b ∷ ys) → IsUtf8 ys
rest_utf8 xs ys b low text =
    let bytes = xs ++ b ∷ ys in
    let within : length xs < length bytes = omega (arith, length-append xs (b ∷ ys)) in
    let ascii : get_or bytes (length xs) 0 < 128 = rw (at_seam xs ys b) low in
    let k : length xs + 1 ≡ suc (length xs) = omega arith in
    subst IsUtf8 (ap (λ n. drop n bytes) k ∙ drop_seam xs ys b) (IsUtf8-drop bytes (length xs + 1) text (IsCharBoundary-after_ascii bytes (length xs) text within ascii))

tail_utf8 : (b : ℕ) (bytes : Bytes) → b < 128 → IsUtf8 (b ∷ bytes) → IsUtf8 bytes
tail_utf8 b bytes low text = rest_utf8 [] bytes b low text

one_utf8 : (b : ℕ) → b < 128 → IsUtf8 (b ∷ [])
one_utf8 b low = IsUtf8-from_ascii (b ∷ []) (IsAscii-cons b [] low IsAscii-nil)

-- ---- between two marks

is_mark : (b mark : ℕ) → (b == mark) ≡ true → b ≡ mark
is_mark b mark e = grind (arith, nat_tests)

record Parted (front inner rest : Bytes) : Type 0 where
  inner_text : IsUtf8 (front ++ inner)
  rest_text : IsUtf8 rest

-- a mark that ends what stands before it
ended : (mark b : ℕ) (front bytes : Bytes) → mark < 128 → b ≡ mark → IsUtf8 (front ++ b ∷ bytes) → Parted front [] bytes
ended mark b front bytes low is text =
    let small : b < 128 = omega arith in
    record { inner_text = rw (append-nil front) (front_utf8 front bytes b small text); rest_text = rest_utf8 front bytes b small text }

abbrev nothing_before : Bytes → Option (Bytes × Bytes)
nothing_before rest = Some ([], rest)

pair_same : (a b c d : Bytes) → ◌≡◌ {A = Option (Bytes × Bytes)} (Some (a, b)) (Some (c, d)) → (a ≡ c) × (b ≡ d)
pair_same a b c d e =
    let is : ◌≡◌ {A = Bytes × Bytes} (a, b) (c, d) = cc in
    (ap (λ (x : Bytes × Bytes). x.0) is, ap (λ (x : Bytes × Bytes). x.1) is)

-- one more byte before what was found
onto : (front : Bytes) (b : ℕ) (o : Option (Bytes × Bytes)) (inner rest : Bytes) → ((s : Bytes) → o ≡ Some (s, rest) → Parted (front ++ b ∷ []) s rest)
    → option_map (before (b ∷ [])) o ≡ Some (inner, rest) → Parted front inner rest
onto front b None inner rest h e = absurd cc
onto front b (Some (s, after)) inner rest h e =
    let same = pair_same (b ∷ s) after inner rest e in
    let k = h s (ap (λ (x : Bytes). Some (s, x)) same.1) in
    record { inner_text = subst (λ (x : Bytes). IsUtf8 (front ++ x)) same.0 (subst IsUtf8 (append_assoc front (b ∷ []) s) k.inner_text); rest_text = k.rest_text }

parted : (mark : ℕ) → mark < 128 → (bytes front inner rest : Bytes) → quoted_run mark bytes ≡ Some (inner, rest) → IsUtf8 (front ++ bytes) → Parted front inner rest
unfolding quoted_run
parted mark low [] front inner rest e text = absurd cc
parted mark low (b ∷ []) front inner rest e text = go (b == mark) refl e
  where
    go : (t : Bool) → (b == mark) ≡ t → (if t then nothing_before [] else None) ≡ Some (inner, rest) → Parted front inner rest
    go true is e =
        let same = pair_same [] [] inner rest e in
        subst (λ (x : Bytes). Parted front x rest) same.0 (subst (λ (x : Bytes). Parted front [] x) same.1 (ended mark b front [] low (is_mark b mark is) text))
    go false is e = absurd cc
parted mark low (b ∷ c ∷ bytes) front inner rest e text =
    go (b == mark) (c == mark) refl refl (λ f s h t. parted mark low bytes f s rest h t) (λ s h. parted mark low (c ∷ bytes) (front ++ b ∷ []) s rest h (rw append_assoc text)) e
  where
    go : (t u : Bool) → (b == mark) ≡ t → (c == mark) ≡ u
        → ((f s : Bytes) → quoted_run mark bytes ≡ Some (s, rest) → IsUtf8 (f ++ bytes) → Parted f s rest)
        → ((s : Bytes) → quoted_run mark (c ∷ bytes) ≡ Some (s, rest) → Parted (front ++ b ∷ []) s rest)
        → (if t then (if u then option_map (before (b ∷ [])) (quoted_run mark bytes) else nothing_before (c ∷ bytes)) else option_map (before (b ∷ [])) (quoted_run mark (c ∷ bytes))) ≡ Some (inner, rest)
        → Parted front inner rest
    go true true is two past next e =
        let low_b : b < 128 = let same = is_mark b mark is in omega arith in
        let low_c : c < 128 = let same = is_mark c mark two in omega arith in
        let more = tail_utf8 c bytes low_c (rest_utf8 front (c ∷ bytes) b low_b text) in
        let begun = IsUtf8-append front (b ∷ []) (front_utf8 front (c ∷ bytes) b low_b text) (one_utf8 b low_b) in
        onto front b (quoted_run mark bytes) inner rest (λ s h. past (front ++ b ∷ []) s h (IsUtf8-append (front ++ b ∷ []) bytes begun more)) e
    go true false is two past next e =
        let same = pair_same [] (c ∷ bytes) inner rest e in
        subst (λ (x : Bytes). Parted front x rest) same.0 (subst (λ (x : Bytes). Parted front [] x) same.1 (ended mark b front (c ∷ bytes) low (is_mark b mark is) text))
    go false u is two past next e = onto front b (quoted_run mark (c ∷ bytes)) inner rest next e

pub quoted_is_utf8 : QuotedIsUtf8
quoted_is_utf8 mark bytes inner rest low text e =
    let k = parted mark low bytes [] inner rest e (IsUtf8-from_is_utf8 bytes text) in
    (is_utf8-from_IsUtf8 inner k.inner_text, is_utf8-from_IsUtf8 rest k.rest_text)

-- ---- behind a token

run_utf8 : (class : ℕ → Bool) → ((b : ℕ) → class b ≡ true → b < 128) → (bytes : Bytes) → IsUtf8 bytes → IsUtf8 (run_of class bytes).1
unfolding run_of
run_utf8 class low [] text = text
run_utf8 class low (b ∷ bytes) text = go (class b) refl (λ small. run_utf8 class low bytes (tail_utf8 b bytes small text))
  where
    go : (t : Bool) → class b ≡ t → (b < 128 → IsUtf8 (run_of class bytes).1) → IsUtf8 (if t then before (b ∷ []) (run_of class bytes) else ([], b ∷ bytes)).1
    go true is h = h (low b is)
    go false is h = text

inner_low : (b : ℕ) → is_inner b ≡ true → b < 128
inner_low b e = grind (arith, nat_tests)

digit_low : (b : ℕ) → is_digit b ≡ true → b < 128
digit_low b e = grind (arith, nat_tests)

blank_low : (b : ℕ) → is_blank b ≡ true → b < 128
blank_low b e = grind (arith, nat_tests)

-- what stands behind an answer, where there is one
abbrev Behind : {A : Type 0} → Option (A × Bytes) → Type 0
Behind {A} o = (x : A × Bytes) → o ≡ Some x → IsUtf8 x.1

behind-none : {A : Type 0} → Behind {A = A} None
behind-none x e = absurd cc

behind-some : {A : Type 0} (x : A) (rest : Bytes) → IsUtf8 rest → Behind (Some (x, rest))
behind-some {A} x rest text y e = let is : (x, rest) ≡ y = cc in subst (λ (z : A × Bytes). IsUtf8 z.1) is text

behind-then : {A B : Type 0} (o : Option A) (f : A → Option (B × Bytes)) → ((x : A) → Behind (f x)) → Behind (o >>= f)
behind-then None f h = behind-none
behind-then (Some x) f h = h x

number_behind-utf8 : (digits : Bytes × Bytes) → IsUtf8 digits.1 → Behind (number_behind digits)
number_behind-utf8 digits text =
    let word = run_of is_inner digits.1 in
    behind-then (number_of digits.0 word.0) (λ t. Some (t, word.1)) (λ t. behind-some t word.1 (run_utf8 is_inner inner_low digits.1 text))

quoted_none : (o : Option (Bytes × Bytes)) (bytes : Bytes) (mark : ℕ) → quoted_run mark bytes ≡ o → mark < 128 → IsUtf8 bytes → quoted_behind o ≡ o
quoted_none None bytes mark e low text = refl
quoted_none (Some x) bytes mark e low text =
    let k = parted mark low bytes [] x.0 x.1 e text in
    if-true (is_utf8 x.0) _ _ (is_utf8-from_IsUtf8 x.0 k.inner_text)

-- the test refuses nothing between two marks
quoted_kept : (mark : ℕ) (bytes : Bytes) → mark < 128 → IsUtf8 bytes → quoted_behind (quoted_run mark bytes) ≡ quoted_run mark bytes
quoted_kept mark bytes low text = quoted_none (quoted_run mark bytes) bytes mark refl low text

quoted_rest : {A : Type 0} (mark : ℕ) (bytes : Bytes) (f : Bytes → A) → mark < 128 → IsUtf8 bytes → Behind (quoted_run mark bytes >>= λ x. Some (f x.0, x.1))
quoted_rest mark bytes f low text = go (quoted_run mark bytes) refl
  where
    go : (o : Option (Bytes × Bytes)) → quoted_run mark bytes ≡ o → Behind (o >>= λ x. Some (f x.0, x.1))
    go None e = behind-none
    go (Some x) e = behind-some (f x.0) x.1 (parted mark low bytes [] x.0 x.1 e text).rest_text

no_bracket : (b : ℕ) → 128 ≤ b → bracket_of b ≡ None
no_bracket b high = grind (arith, nat_tests)

no_stop : (b : ℕ) → 128 ≤ b → stop_of b ≡ None
no_stop b high = grind (arith, nat_tests)

no_operation : (b : ℕ) → 128 ≤ b → operation_of b ≡ None
no_operation b high = grind (arith, nat_tests)

no_sign : (b : ℕ) → 128 ≤ b → one_sign b ≡ None
unfolding one_sign
no_sign b high = ap (λ (o : Option Sign). option_or o (option_or (stop_of b) (operation_of b))) (no_bracket b high) ∙ (ap (λ (o : Option Sign). option_or o (operation_of b)) (no_stop b high) ∙ no_operation b high)

no_pair : (b c : ℕ) → 128 ≤ b → two_signs b c ≡ None
no_pair b c high = grind (arith, nat_tests)

pair_low : (b c : ℕ) (s : Sign) → two_signs b c ≡ Some s → c < 128
pair_low b c s e = go (c == 61) refl e
  where
    go : (t : Bool) → (c == 61) ≡ t → (if t then two_signs b 61 else None) ≡ Some s → c < 128
    go true is e = let same = is_mark c 61 is in omega arith
    go false is e = absurd cc

longer_rest : (b c : ℕ) (bytes : Bytes) (o : Option Sign) → two_signs b c ≡ o → IsUtf8 (c ∷ bytes) → Behind (longer_sign o b c bytes)
longer_rest b c bytes (Some s) e text = behind-some (Mark s) bytes (tail_utf8 c bytes (pair_low b c s e) text)
longer_rest b c bytes None e text = behind-then (one_sign b) (λ s. Some (Mark s, c ∷ bytes)) (λ s. behind-some (Mark s) (c ∷ bytes) text)

sign_rest : (b : ℕ) (bytes : Bytes) → IsUtf8 bytes → Behind (sign_at b bytes)
sign_rest b [] text = behind-then (one_sign b) (λ s. Some (Mark s, [])) (λ s. behind-some (Mark s) [] IsUtf8-nil)
sign_rest b (c ∷ bytes) text = longer_rest b c bytes (two_signs b c) refl text

-- a byte from 128 on begins no token
no_token : (b : ℕ) (bytes : Bytes) → 128 ≤ b → sign_at b bytes ≡ None
no_token b [] high = ap (λ (o : Option Sign). o >>= λ s. Some (Mark s, [])) (no_sign b high)
no_token b (c ∷ bytes) high = ap (λ (o : Option Sign). longer_sign o b c bytes) (no_pair b c high) ∙ ap (λ (o : Option Sign). o >>= λ s. Some (Mark s, c ∷ bytes)) (no_sign b high)

-- what stands behind the token at the front
marked_rest : (b : ℕ) (bytes : Bytes) → IsUtf8 (b ∷ bytes) → Behind (unchecked_mark_at b bytes)
marked_rest b bytes text = double (b == 34) refl
  where
    plain : Behind (sign_at b bytes)
    plain = go (cases_lt b 128)
      where
        go : (b < 128) ⊎ (128 ≤ b) → Behind (sign_at b bytes)
        go (inl low) = sign_rest b bytes (tail_utf8 b bytes low text)
        go (inr high) = subst Behind (sym (no_token b bytes high)) behind-none

    single : (t : Bool) → (b == 39) ≡ t → Behind (if t then unchecked_text (quoted_run 39 bytes) else sign_at b bytes)
    single true is = quoted_rest 39 bytes Quote (omega arith) (tail_utf8 b bytes (let same = is_mark b 39 is in omega arith) text)
    single false is = plain

    double : (t : Bool) → (b == 34) ≡ t → Behind (if t then unchecked_name (quoted_run 34 bytes) else (if b == 39 then unchecked_text (quoted_run 39 bytes) else sign_at b bytes))
    double true is = quoted_rest 34 bytes Quoted (omega arith) (tail_utf8 b bytes (let same = is_mark b 34 is in omega arith) text)
    double false is = single (b == 39) refl

token_rest : (bytes : Bytes) → IsUtf8 bytes → Behind (unchecked_at bytes)
unfolding unchecked_at
token_rest [] text = behind-none
token_rest (b ∷ bytes) text = first (is_first b)
  where
    digit : (t : Bool) → Behind (if t then number_behind (run_of is_digit (b ∷ bytes)) else unchecked_mark_at b bytes)
    digit true = number_behind-utf8 (run_of is_digit (b ∷ bytes)) (run_utf8 is_digit digit_low (b ∷ bytes) text)
    digit false = marked_rest b bytes text

    first : (t : Bool) → Behind (if t then word_behind (run_of is_inner (b ∷ bytes)) else (if is_digit b then number_behind (run_of is_digit (b ∷ bytes)) else unchecked_mark_at b bytes))
    first true = behind-some (word_token (run_of is_inner (b ∷ bytes)).0) (run_of is_inner (b ∷ bytes)).1 (run_utf8 is_inner inner_low (b ∷ bytes) text)
    first false = digit (is_digit b)

-- the test changes nothing
mark_kept : (b : ℕ) (bytes : Bytes) → IsUtf8 (b ∷ bytes) → marked_at b bytes ≡ unchecked_mark_at b bytes
mark_kept b bytes text = double (b == 34) refl
  where
    single : (t : Bool) → (b == 39) ≡ t → (if t then text_behind (quoted_run 39 bytes) else sign_at b bytes) ≡ (if t then unchecked_text (quoted_run 39 bytes) else sign_at b bytes)
    single true is = ap unchecked_text (quoted_kept 39 bytes (omega arith) (tail_utf8 b bytes (let same = is_mark b 39 is in omega arith) text))
    single false is = refl

    double : (t : Bool) → (b == 34) ≡ t → (if t then name_behind (quoted_run 34 bytes) else (if b == 39 then text_behind (quoted_run 39 bytes) else sign_at b bytes))
        ≡ (if t then unchecked_name (quoted_run 34 bytes) else (if b == 39 then unchecked_text (quoted_run 39 bytes) else sign_at b bytes))
    double true is = ap unchecked_name (quoted_kept 34 bytes (omega arith) (tail_utf8 b bytes (let same = is_mark b 34 is in omega arith) text))
    double false is = single (b == 39) refl

token_kept : (bytes : Bytes) → IsUtf8 bytes → token_at bytes ≡ unchecked_at bytes
unfolding token_at unchecked_at
token_kept [] text = refl
token_kept (b ∷ bytes) text =
    ap (λ (o : Option (Token × Bytes)). if is_first b then word_behind (run_of is_inner (b ∷ bytes)) else (if is_digit b then number_behind (run_of is_digit (b ∷ bytes)) else o)) (mark_kept b bytes text)

pub rest_is_utf8 : RestIsUtf8
rest_is_utf8 bytes rest t text e =
    let is = IsUtf8-from_is_utf8 bytes text in
    is_utf8-from_IsUtf8 rest (token_rest bytes is (t, rest) (sym (token_kept bytes is) ∙ e))

within_kept : (n : ℕ) (so_far : List Token) (bytes : Bytes) → IsUtf8 bytes → tokens_within n so_far bytes ≡ unchecked_within n so_far bytes
unfolding tokens_within unchecked_within
within_kept zero so_far [] text = refl
within_kept zero so_far (b ∷ bytes) text = refl
within_kept (suc n) so_far [] text = refl
within_kept (suc n) so_far (b ∷ bytes) text = go (is_blank b) refl (λ s others more. within_kept n s others more)
  where
    found : ((s : List Token) (others : Bytes) → IsUtf8 others → tokens_within n s others ≡ unchecked_within n s others) → (o : Option (Token × Bytes)) → Behind o
        → (o >>= λ t. tokens_within n (so_far ++ t.0 ∷ []) t.1) ≡ (o >>= λ t. unchecked_within n (so_far ++ t.0 ∷ []) t.1)
    found more None h = refl
    found more (Some t) h = more (so_far ++ t.0 ∷ []) t.1 (h t refl)

    go : (t : Bool) → is_blank b ≡ t → ((s : List Token) (others : Bytes) → IsUtf8 others → tokens_within n s others ≡ unchecked_within n s others)
        → next_token (tokens_within n) so_far (b ∷ bytes) (if t then Some bytes else None) ≡ unchecked_next (unchecked_within n) so_far (b ∷ bytes) (if t then Some bytes else None)
    go true is more = more so_far bytes (tail_utf8 b bytes (blank_low b is) text)
    go false is more =
        ap (λ (o : Option (Token × Bytes)). o >>= λ t. tokens_within n (so_far ++ t.0 ∷ []) t.1) (token_kept (b ∷ bytes) text) ∙ found more (unchecked_at (b ∷ bytes)) (token_rest (b ∷ bytes) text)

pub test_changes_nothing : TestChangesNothing
test_changes_nothing bytes text = within_kept (length bytes) [] bytes (IsUtf8-from_is_utf8 bytes text)
