-- The tokens of a text are those that it is cut into, and no others.
use Rattle.std.proofs.Common.{◌≡◌, ℕ, zero, suc, ◌<◌, ◌≤◌, Bool, true, false, List, [], ◌∷◌, ◌++◌, length, refl, sym, ap, subst, ◌∙◌, append_assoc, append-nil, Option, Some, None, arith, length-append, ◌⊎◌, inl, inr}
use Rattle.std.specs.Prelude.{if◌then◌else◌, ◌==◌, ◌||◌}
use Rattle.std.specs.List.{list_all, flat_map}
use Rattle.std.specs.Str.{is_utf8}
use Rattle.std.proofs.lemmas.Str.{IsUtf8-append, IsUtf8-from_is_utf8, is_utf8-from_IsUtf8, IsUtf8-from_ascii}
use Rattle.std.proofs.lemmas.Str.Ascii.{IsAscii-nil, IsAscii-cons}
use Rattle.std.proofs.lemmas.Bool.{and_parts}
use Rattle.std.proofs.lemmas.Bool.Decides.{nat_tests}
use Rattle.std.proofs.lemmas.Grind.{flat_map-append}
use Rattle.vx_dtype.specs.declared.PType.{PType}
use Rattle.vx_dtype.specs.Types.{Bytes}
use Rattle.vx_tokens.specs.declared.tokens.Sign.{Sign}
use Rattle.vx_tokens.specs.declared.tokens.Sign.TheVariants as signs
use Rattle.vx_tokens.specs.declared.tokens.Token.{Token}
use Rattle.vx_tokens.specs.declared.tokens.Token.TheVariants.{Reserved, Word, Quoted, Quote, Number, Mark}
use Rattle.vx_tokens.specs.Tokens.{◌>>=◌, is_blank, is_first, is_digit, is_inner, run_of, word_or, word_token, is_number, behind_mark, quoted_run, two_signs, one_sign, longer_sign, sign_at, word_behind, quoted_behind, token_at, behind_blank, next_token, tokens_within}
use Rattle.vx_tokens.specs.Names.{doubled, within_marks, is_word}
use Rattle.vx_laws_text.specs.Longest.{sign_text, suffix_text, SpellsNumber, SpellsToken, Stands}
use Rattle.vx_laws_text.specs.Cuts.{StandsLongest, Cuts, no_bytes, blank_first, token_first, FoundAreCut, CutAreFound}
use Rattle.vx_laws_text.proofs.Cutting.{Cut, Front, cut-end, cut-blank, cut-token, tokens_of-cut}
use Rattle.vx_laws_text.proofs.Pieces.{if-true, number_found, run_quoted}
use Rattle.vx_laws_text.proofs.LongestTokens.{run_is, run_longest, word_run, word_stands, begins-goes_on, text_suffix, two_is, token_stands, no_longer_stands}

-- ---- found tokens are cut

record CutBehind (so_far : List Token) (bytes : Bytes) (tokens : List Token) : Type 0 where
  more : List Token
  split : so_far ++ more ≡ tokens
  cuts : Cuts bytes more

ended : (so_far tokens : List Token) → Some so_far ≡ Some tokens → CutBehind so_far [] tokens
ended so_far tokens e =
    let same : so_far ≡ tokens = cc in
    record { more = []; split = append-nil so_far ∙ same; cuts = no_bytes }

cut_behind : (n : ℕ) (so_far : List Token) (bytes : Bytes) (tokens : List Token) → tokens_within n so_far bytes ≡ Some tokens → CutBehind so_far bytes tokens
unfolding tokens_within
cut_behind zero so_far [] tokens e = ended so_far tokens e
cut_behind zero so_far (b ∷ bytes) tokens e = absurd cc
cut_behind (suc n) so_far [] tokens e = ended so_far tokens e
cut_behind (suc n) so_far (b ∷ bytes) tokens e = go (is_blank b) refl (λ s others h. cut_behind n s others tokens h) e
  where
    found : ((s : List Token) (others : Bytes) → tokens_within n s others ≡ Some tokens → CutBehind s others tokens)
        → (o : Option (Token × Bytes)) → token_at (b ∷ bytes) ≡ o → (o >>= λ t. tokens_within n (so_far ++ t.0 ∷ []) t.1) ≡ Some tokens → CutBehind so_far (b ∷ bytes) tokens
    found below None is e = absurd cc
    found below (Some t) is e =
        let k = below (so_far ++ t.0 ∷ []) t.1 e in
        record {
          more = t.0 ∷ k.more;
          split = sym (append_assoc so_far (t.0 ∷ []) k.more) ∙ k.split;
          cuts = token_first (b ∷ bytes) t.1 t.0 k.more
              (record { stands = token_stands (b ∷ bytes) t.1 t.0 is; longest = λ u others s. no_longer_stands (b ∷ bytes) t.1 others t.0 u is s }) k.cuts;
        }

    go : (c : Bool) → is_blank b ≡ c → ((s : List Token) (others : Bytes) → tokens_within n s others ≡ Some tokens → CutBehind s others tokens)
        → next_token (tokens_within n) so_far (b ∷ bytes) (if c then Some bytes else None) ≡ Some tokens → CutBehind so_far (b ∷ bytes) tokens
    go true is below e = let k = below so_far bytes e in record { more = k.more; split = k.split; cuts = blank_first b bytes k.more is k.cuts }
    go false is below e = found below (token_at (b ∷ bytes)) refl e

pub found_are_cut : FoundAreCut
found_are_cut bytes tokens e =
    let k = cut_behind (length bytes) [] bytes tokens e in
    subst (Cuts bytes) k.split k.cuts

-- ---- a token that stands longest is found

same_front : (a b c d : Bytes) → a ++ b ≡ c ++ d → length b ≡ length d → (a ≡ c) × (b ≡ d)
same_front [] b [] d e l = (refl, e)
same_front [] b (y ∷ c) d e l = absurd (omega (arith, ap length e, length-append (y ∷ c) d))
same_front (x ∷ a) b [] d e l = absurd (omega (arith, ap length e, length-append (x ∷ a) b))
same_front (x ∷ a) b (y ∷ c) d e l =
    let first : x ≡ y = cc in
    let others : a ++ b ≡ c ++ d = cc in
    let k = same_front a b c d others l in
    (λ i. first i ∷ k.0 i, k.1)

word_at : (s rest : Bytes) (t : Token) → is_word s ≡ true → word_token s ≡ t → ((u : Token) (others : Bytes) → Stands (s ++ rest) u others → length rest ≤ length others) → token_at (s ++ rest) ≡ Some (t, rest)
unfolding token_at
word_at [] rest t word is longest = absurd cc
word_at (b ∷ s) rest t word is longest =
    let h = and_parts (is_first b) (list_all is_inner s) word in
    let bytes = s ++ rest in
    let r = run_of is_inner bytes in
    let k = run_is is_inner bytes in
    let more = longest (word_token (b ∷ r.0)) r.1 (word_stands b bytes h.0) in
    let less = run_longest is_inner s rest h.1 in
    let same = same_front s rest r.0 r.1 k.parts (omega arith) in
    if-true (is_first b) _ _ h.0 ∙ (ap word_behind (word_run b bytes h.0)
    ∙ (λ i. Some (word_token (b ∷ sym same.0 i), sym same.1 i)) ∙ ap (λ (z : Token). Some (z, rest)) is)

number_at : (digits rest : Bytes) (p : Option PType) → list_all is_digit digits ≡ true → is_number digits ≡ true → SpellsNumber digits p (digits ++ suffix_text p) rest
    → token_at ((digits ++ suffix_text p) ++ rest) ≡ Some (Number digits p, rest)
number_at [] rest p all number k = absurd cc
number_at (b ∷ digits) rest p all number k =
    ap token_at (append_assoc (b ∷ digits) (suffix_text p) rest) ∙ number_found b digits (suffix_text p) rest p all number (text_suffix p) (begins-goes_on rest k.whole)

-- a sign of one character
one_at : (b : ℕ) (s : Sign) (rest : Bytes) → one_sign b ≡ Some s → ((u : Token) (others : Bytes) → Stands (b ∷ rest) u others → length rest ≤ length others) → sign_at b rest ≡ Some (Mark s, rest)
one_at b s [] is longest = ap (λ (o : Option Sign). o >>= λ x. Some (Mark x, [])) is
one_at b s (c ∷ rest) is longest = go (two_signs b c) refl
  where
    go : (o : Option Sign) → two_signs b c ≡ o → longer_sign o b c rest ≡ Some (Mark s, c ∷ rest)
    go None two = ap (λ (o : Option Sign). o >>= λ x. Some (Mark x, c ∷ rest)) is
    go (Some u) two =
        let le = longest (Mark u) rest (record { spelling = b ∷ c ∷ []; front = refl; spells = sym (two_is b c u two) }) in
        absurd (omega (arith, le))

sign_at_front : (s : Sign) (rest : Bytes) → ((u : Token) (others : Bytes) → Stands (sign_text s ++ rest) u others → length rest ≤ length others) → token_at (sign_text s ++ rest) ≡ Some (Mark s, rest)
unfolding token_at one_sign
sign_at_front signs.RoundOpen rest longest = one_at 40 signs.RoundOpen rest refl longest
sign_at_front signs.RoundClose rest longest = one_at 41 signs.RoundClose rest refl longest
sign_at_front signs.SquareOpen rest longest = one_at 91 signs.SquareOpen rest refl longest
sign_at_front signs.SquareClose rest longest = one_at 93 signs.SquareClose rest refl longest
sign_at_front signs.CurlyOpen rest longest = one_at 123 signs.CurlyOpen rest refl longest
sign_at_front signs.CurlyClose rest longest = one_at 125 signs.CurlyClose rest refl longest
sign_at_front signs.Comma rest longest = one_at 44 signs.Comma rest refl longest
sign_at_front signs.Colon rest longest = one_at 58 signs.Colon rest refl longest
sign_at_front signs.Dot rest longest = one_at 46 signs.Dot rest refl longest
sign_at_front signs.Dollar rest longest = one_at 36 signs.Dollar rest refl longest
sign_at_front signs.Question rest longest = one_at 63 signs.Question rest refl longest
sign_at_front signs.Tilde rest longest = one_at 126 signs.Tilde rest refl longest
sign_at_front signs.Plus rest longest = one_at 43 signs.Plus rest refl longest
sign_at_front signs.Minus rest longest = one_at 45 signs.Minus rest refl longest
sign_at_front signs.Eq rest longest = one_at 61 signs.Eq rest refl longest
sign_at_front signs.Gt rest longest = one_at 62 signs.Gt rest refl longest
sign_at_front signs.Lt rest longest = one_at 60 signs.Lt rest refl longest
sign_at_front signs.NotEq rest longest = refl
sign_at_front signs.Gte rest longest = refl
sign_at_front signs.Lte rest longest = refl

-- ---- between marks

-- what begins with a mark is spelled between two of it
record Marked (mark : ℕ) (bytes rest : Bytes) : Type 0 where
  inner : Bytes
  is : bytes ≡ within_marks mark inner ++ rest
  text : is_utf8 inner ≡ true

no_word : (mark : ℕ) (o s rest : Bytes) → is_first mark ≡ false → is_word s ≡ true → mark ∷ o ≡ s ++ rest → ⊥
no_word mark o [] rest not word e = cc
no_word mark o (b ∷ s) rest not word e =
    let same : mark ≡ b = cc in
    let no : true ≡ false = sym (and_parts (is_first b) (list_all is_inner s) word).0 ∙ (ap is_first (sym same) ∙ not) in
    cc

no_number : (mark : ℕ) (o digits more : Bytes) → is_digit mark ≡ false → list_all is_digit digits ≡ true → is_number digits ≡ true → mark ∷ o ≡ digits ++ more → ⊥
no_number mark o [] more not all number e = cc
no_number mark o (b ∷ digits) more not all number e =
    let same : mark ≡ b = cc in
    let no : true ≡ false = sym (and_parts (is_digit b) (list_all is_digit digits) all).0 ∙ (ap is_digit (sym same) ∙ not) in
    cc

-- the first character of a sign
abbrev first_of : Sign → ℕ
first_of s = elim (sign_text s) [ [] ↦ 0 | b ∷ bytes ↦ b ]

sign_apart : (s : Sign) → ((34 == first_of s) ≡ false) × ((39 == first_of s) ≡ false)
sign_apart signs.RoundOpen = (refl, refl)
sign_apart signs.RoundClose = (refl, refl)
sign_apart signs.SquareOpen = (refl, refl)
sign_apart signs.SquareClose = (refl, refl)
sign_apart signs.CurlyOpen = (refl, refl)
sign_apart signs.CurlyClose = (refl, refl)
sign_apart signs.Comma = (refl, refl)
sign_apart signs.Colon = (refl, refl)
sign_apart signs.Dot = (refl, refl)
sign_apart signs.Dollar = (refl, refl)
sign_apart signs.Question = (refl, refl)
sign_apart signs.Tilde = (refl, refl)
sign_apart signs.Plus = (refl, refl)
sign_apart signs.Minus = (refl, refl)
sign_apart signs.Eq = (refl, refl)
sign_apart signs.NotEq = (refl, refl)
sign_apart signs.Gt = (refl, refl)
sign_apart signs.Gte = (refl, refl)
sign_apart signs.Lt = (refl, refl)
sign_apart signs.Lte = (refl, refl)

abbrev head_of : Bytes → ℕ
head_of [] = 0
head_of (b ∷ bytes) = b

sign_head : (s : Sign) (rest : Bytes) → head_of (sign_text s ++ rest) ≡ first_of s
sign_head signs.RoundOpen rest = refl
sign_head signs.RoundClose rest = refl
sign_head signs.SquareOpen rest = refl
sign_head signs.SquareClose rest = refl
sign_head signs.CurlyOpen rest = refl
sign_head signs.CurlyClose rest = refl
sign_head signs.Comma rest = refl
sign_head signs.Colon rest = refl
sign_head signs.Dot rest = refl
sign_head signs.Dollar rest = refl
sign_head signs.Question rest = refl
sign_head signs.Tilde rest = refl
sign_head signs.Plus rest = refl
sign_head signs.Minus rest = refl
sign_head signs.Eq rest = refl
sign_head signs.NotEq rest = refl
sign_head signs.Gt rest = refl
sign_head signs.Gte rest = refl
sign_head signs.Lt rest = refl
sign_head signs.Lte rest = refl

differ : (a b : ℕ) → (a == b) ≡ false → a ≡ b → ⊥
differ a b e same = absurd (grind (arith, nat_tests))

name_mark : (o s rest : Bytes) (t : Token) → SpellsToken t s rest → 34 ∷ o ≡ s ++ rest → Marked 34 (34 ∷ o) rest
name_mark o s rest (Reserved k) is e = absurd (no_word 34 o s rest refl is.0 e)
name_mark o s rest (Word f) is e = absurd (no_word 34 o s rest refl is.1 e)
name_mark o s rest (Quoted f) is e = record { inner = f; is = e ∙ ap (λ (z : Bytes). z ++ rest) is.0; text = is.1 }
name_mark o s rest (Quote f) is e = absurd (differ 34 39 refl (ap head_of (e ∙ ap (λ (z : Bytes). z ++ rest) is.0)))
name_mark o s rest (Number digits p) k e =
    absurd (no_number 34 o digits (suffix_text p ++ rest) refl k.digit k.number (e ∙ (ap (λ (z : Bytes). z ++ rest) k.is ∙ append_assoc digits (suffix_text p) rest)))
name_mark o s rest (Mark sign) is e = absurd (differ 34 (first_of sign) (sign_apart sign).0 (ap head_of (e ∙ ap (λ (z : Bytes). z ++ rest) is) ∙ sign_head sign rest))

text_mark : (o s rest : Bytes) (t : Token) → SpellsToken t s rest → 39 ∷ o ≡ s ++ rest → Marked 39 (39 ∷ o) rest
text_mark o s rest (Reserved k) is e = absurd (no_word 39 o s rest refl is.0 e)
text_mark o s rest (Word f) is e = absurd (no_word 39 o s rest refl is.1 e)
text_mark o s rest (Quote f) is e = record { inner = f; is = e ∙ ap (λ (z : Bytes). z ++ rest) is.0; text = is.1 }
text_mark o s rest (Quoted f) is e = absurd (differ 39 34 refl (ap head_of (e ∙ ap (λ (z : Bytes). z ++ rest) is.0)))
text_mark o s rest (Number digits p) k e =
    absurd (no_number 39 o digits (suffix_text p ++ rest) refl k.digit k.number (e ∙ (ap (λ (z : Bytes). z ++ rest) k.is ∙ append_assoc digits (suffix_text p) rest)))
text_mark o s rest (Mark sign) is e = absurd (differ 39 (first_of sign) (sign_apart sign).1 (ap head_of (e ∙ ap (λ (z : Bytes). z ++ rest) is) ∙ sign_head sign rest))

-- a text that is cut, and begins with a mark, has a token between two of it at its front
record BeginsMarked (mark : ℕ) (bytes : Bytes) : Type 0 where
  rest : Bytes
  marked : Marked mark bytes rest

cut_mark : (mark : ℕ) → is_blank mark ≡ false → ((o s rest : Bytes) (t : Token) → SpellsToken t s rest → mark ∷ o ≡ s ++ rest → Marked mark (mark ∷ o) rest)
    → {bytes : Bytes} {tokens : List Token} → Cuts bytes tokens → (o : Bytes) → bytes ≡ mark ∷ o → BeginsMarked mark bytes
cut_mark mark filled h no_bytes o e = absurd cc
cut_mark mark filled h (blank_first b bytes tokens blank c) o e =
    let same : b ≡ mark = cc in
    let wrong : true ≡ false = sym blank ∙ (ap is_blank same ∙ filled) in
    absurd cc
cut_mark mark filled h (token_first bytes rest t tokens k c) o e =
    let m = h o k.stands.spelling rest t k.stands.spells (sym e ∙ k.stands.front) in
    record { rest = rest; marked = record { inner = m.inner; is = e ∙ m.is; text = m.text } }

same_mark : (mark : ℕ) → (mark == mark) ≡ true
same_mark mark = grind (arith, nat_tests)

-- two texts between marks, one behind the other, are one text with the mark in it
joined : (mark : ℕ) (f g rest : Bytes) → within_marks mark f ++ (within_marks mark g ++ rest) ≡ within_marks mark (f ++ mark ∷ g) ++ rest
joined mark f g rest =
    let front = flat_map (doubled mark) f in
    let back = flat_map (doubled mark) g in
    let twice : doubled mark mark ≡ mark ∷ mark ∷ [] = if-true (mark == mark) _ _ (same_mark mark) in
    let whole : flat_map (doubled mark) (f ++ mark ∷ g) ≡ front ++ (mark ∷ mark ∷ back) = flat_map-append (doubled mark) f (mark ∷ g) ∙ ap (λ (z : Bytes). front ++ (z ++ back)) twice in
    ap (λ (z : Bytes). mark ∷ z) (append_assoc front (mark ∷ []) (mark ∷ ((back ++ mark ∷ []) ++ rest))
    ∙ (sym (append_assoc front (mark ∷ mark ∷ (back ++ mark ∷ [])) rest)
    ∙ ap (λ (z : Bytes). z ++ rest) (sym (append_assoc front (mark ∷ mark ∷ back) (mark ∷ [])) ∙ ap (λ (z : Bytes). z ++ mark ∷ []) (sym whole))))

joined_utf8 : (mark : ℕ) (f g : Bytes) → mark < 128 → is_utf8 f ≡ true → is_utf8 g ≡ true → is_utf8 (f ++ mark ∷ g) ≡ true
joined_utf8 mark f g low tf tg =
    is_utf8-from_IsUtf8 (f ++ mark ∷ g) (IsUtf8-append f (mark ∷ g) (IsUtf8-from_is_utf8 f tf)
    (IsUtf8-append (mark ∷ []) g (IsUtf8-from_ascii (mark ∷ []) (IsAscii-cons mark [] low IsAscii-nil)) (IsUtf8-from_is_utf8 g tg)))

within_longer : (mark : ℕ) (g rest : Bytes) → length rest < length (within_marks mark g ++ rest)
within_longer mark g rest = omega (arith, length-append (flat_map (doubled mark) g ++ mark ∷ []) rest)

-- no mark stands behind a token between two of it that is the longest
no_mark : (mark : ℕ) (made : Bytes → Token) (f rest : Bytes) (tokens : List Token) → mark < 128 → is_blank mark ≡ false → is_utf8 f ≡ true
    → ((inner others : Bytes) → is_utf8 inner ≡ true → SpellsToken (made inner) (within_marks mark inner) others)
    → ((o s others : Bytes) (t : Token) → SpellsToken t s others → mark ∷ o ≡ s ++ others → Marked mark (mark ∷ o) others)
    → ((u : Token) (others : Bytes) → Stands (within_marks mark f ++ rest) u others → length rest ≤ length others) → Cuts rest tokens → behind_mark mark rest ≡ None
no_mark mark made f [] tokens low filled text spells marks longest c = refl
no_mark mark made f (b ∷ o) tokens low filled text spells marks longest c = go (b == mark) refl
  where
    go : (t : Bool) → (b == mark) ≡ t → (if t then Some o else None) ≡ None
    go false is = refl
    go true is =
        let same : b ≡ mark = grind (arith, nat_tests) in
        let k = cut_mark mark filled marks c o (ap (λ (n : ℕ). n ∷ o) same) in
        let m = k.marked in
        let le = longest (made (f ++ mark ∷ m.inner)) k.rest (record {
          spelling = within_marks mark (f ++ mark ∷ m.inner);
          front = ap (λ (z : Bytes). within_marks mark f ++ z) m.is ∙ joined mark f m.inner k.rest;
          spells = spells (f ++ mark ∷ m.inner) k.rest (joined_utf8 mark f m.inner low text m.text);
        }) in
        absurd (omega (arith, le, ap length m.is, within_longer mark m.inner k.rest))

quoted_found : (mark : ℕ) (f rest : Bytes) → is_utf8 f ≡ true → behind_mark mark rest ≡ None → quoted_behind (quoted_run mark ((flat_map (doubled mark) f ++ mark ∷ []) ++ rest)) ≡ Some (f, rest)
quoted_found mark f rest text none =
    ap quoted_behind (ap (quoted_run mark) (append_assoc (flat_map (doubled mark) f) (mark ∷ []) rest) ∙ run_quoted mark f rest none) ∙ if-true (is_utf8 f) _ _ text

abbrev as_name : Option (Bytes × Bytes) → Option (Token × Bytes)
as_name r = r >>= λ x. Some (Quoted x.0, x.1)

abbrev as_text : Option (Bytes × Bytes) → Option (Token × Bytes)
as_text r = r >>= λ x. Some (Quote x.0, x.1)

name_at : (f rest : Bytes) → is_utf8 f ≡ true → behind_mark 34 rest ≡ None → token_at (within_marks 34 f ++ rest) ≡ Some (Quoted f, rest)
unfolding token_at
name_at f rest text none = ap as_name (quoted_found 34 f rest text none)

text_at : (f rest : Bytes) → is_utf8 f ≡ true → behind_mark 39 rest ≡ None → token_at (within_marks 39 f ++ rest) ≡ Some (Quote f, rest)
unfolding token_at
text_at f rest text none = ap as_text (quoted_found 39 f rest text none)

-- ---- cut tokens are found

abbrev Longest : Bytes → Bytes → Type 0
Longest bytes rest = (u : Token) (others : Bytes) → Stands bytes u others → length rest ≤ length others

along : (a b rest : Bytes) (t : Token) → a ≡ b → (Longest b rest → token_at b ≡ Some (t, rest)) → Longest a rest → token_at a ≡ Some (t, rest)
along a b rest t e h longest = ap token_at e ∙ h (subst (λ (z : Bytes). Longest z rest) e longest)

spelled_at : (t : Token) (s rest : Bytes) (tokens : List Token) → SpellsToken t s rest → Longest (s ++ rest) rest → Cuts rest tokens → token_at (s ++ rest) ≡ Some (t, rest)
spelled_at (Reserved k) s rest tokens is longest c = word_at s rest (Reserved k) is.0 (ap (word_or s) is.1) longest
spelled_at (Word f) s rest tokens is longest c = word_at s rest (Word f) is.1 (ap (word_or s) is.2 ∙ ap Word is.0) longest
spelled_at (Quoted f) s rest tokens is longest c =
    along (s ++ rest) (within_marks 34 f ++ rest) rest (Quoted f) (ap (λ (z : Bytes). z ++ rest) is.0)
    (λ l. name_at f rest is.1 (no_mark 34 Quoted f rest tokens (omega arith) refl is.1 (λ inner others text. (refl, text)) name_mark l c)) longest
spelled_at (Quote f) s rest tokens is longest c =
    along (s ++ rest) (within_marks 39 f ++ rest) rest (Quote f) (ap (λ (z : Bytes). z ++ rest) is.0)
    (λ l. text_at f rest is.1 (no_mark 39 Quote f rest tokens (omega arith) refl is.1 (λ inner others text. (refl, text)) text_mark l c)) longest
spelled_at (Number digits p) s rest tokens k longest c =
    ap (λ (z : Bytes). token_at (z ++ rest)) k.is
    ∙ number_at digits rest p k.digit k.number (record { is = refl; digit = k.digit; number = k.number; whole = k.whole })
spelled_at (Mark sign) s rest tokens is longest c =
    along (s ++ rest) (sign_text sign ++ rest) rest (Mark sign) (ap (λ (z : Bytes). z ++ rest) is) (λ l. sign_at_front sign rest l) longest

token_found : (bytes rest : Bytes) (t : Token) (tokens : List Token) → StandsLongest bytes t rest → Cuts rest tokens → token_at bytes ≡ Some (t, rest)
token_found bytes rest t tokens k c =
    along bytes (k.stands.spelling ++ rest) rest t k.stands.front (λ l. spelled_at t k.stands.spelling rest tokens k.stands.spells l c) k.longest

either : (x y : Bool) → (x || y) ≡ true → (x ≡ true) ⊎ (y ≡ true)
either true y e = inl refl
either false y e = inr e

equal : (a b : ℕ) → (a == b) ≡ true → a ≡ b
equal a b e = grind (arith, nat_tests)

no_pair : (a c : ℕ) (t : Bool) → two_signs a 61 ≡ None → (if t then two_signs a 61 else None) ≡ None
no_pair a c true e = e
no_pair a c false e = refl

blank_no_sign : (b : ℕ) (bytes : Bytes) → one_sign b ≡ None → two_signs b 61 ≡ None → sign_at b bytes ≡ None
blank_no_sign b [] one two = ap (λ (o : Option Sign). o >>= λ s. Some (Mark s, [])) one
blank_no_sign b (c ∷ bytes) one two =
    ap (λ (o : Option Sign). longer_sign o b c bytes) (no_pair b c (c == 61) two) ∙ ap (λ (o : Option Sign). o >>= λ s. Some (Mark s, c ∷ bytes)) one

-- no token begins with a character that means nothing
blank_no_token : (b : ℕ) (bytes : Bytes) → is_blank b ≡ true → token_at (b ∷ bytes) ≡ None
unfolding token_at one_sign
blank_no_token b bytes e = go (either (b == 32) _ e)
  where
    at : (k : ℕ) → (b == k) ≡ true → token_at (k ∷ bytes) ≡ None → token_at (b ∷ bytes) ≡ None
    at k is none = ap (λ (n : ℕ). token_at (n ∷ bytes)) (equal b k is) ∙ none

    last : ((b == 10) ≡ true) ⊎ ((b == 13) ≡ true) → token_at (b ∷ bytes) ≡ None
    last (inl is) = at 10 is (blank_no_sign 10 bytes refl refl)
    last (inr is) = at 13 is (blank_no_sign 13 bytes refl refl)

    next : ((b == 9) ≡ true) ⊎ (((b == 10) || (b == 13)) ≡ true) → token_at (b ∷ bytes) ≡ None
    next (inl is) = at 9 is (blank_no_sign 9 bytes refl refl)
    next (inr is) = last (either (b == 10) (b == 13) is)

    go : ((b == 32) ≡ true) ⊎ (((b == 9) || ((b == 10) || (b == 13))) ≡ true) → token_at (b ∷ bytes) ≡ None
    go (inl is) = at 32 is (blank_no_sign 32 bytes refl refl)
    go (inr is) = next (either (b == 9) _ is)

no_blank : (bytes rest : Bytes) (t : Token) → token_at bytes ≡ Some (t, rest) → behind_blank bytes ≡ None
no_blank [] rest t e = refl
no_blank (b ∷ bytes) rest t e = go (is_blank b) refl
  where
    go : (c : Bool) → is_blank b ≡ c → (if c then Some bytes else None) ≡ None
    go true is = let none : ◌≡◌ {A = Option (Token × Bytes)} None (Some (t, rest)) = sym (blank_no_token b bytes is) ∙ e in absurd cc
    go false is = refl

spelled_some : (t : Token) (s rest : Bytes) → SpellsToken t s rest → 1 ≤ length s
spelled_some (Reserved k) [] rest is = absurd (no_word_empty is.0)
  where
    no_word_empty : is_word [] ≡ true → ⊥
    no_word_empty e = cc
spelled_some (Reserved k) (b ∷ s) rest is = omega arith
spelled_some (Word f) [] rest is = let h = is.1 in absurd cc
spelled_some (Word f) (b ∷ s) rest is = omega arith
spelled_some (Quoted f) s rest is = omega (arith, ap length is.0)
spelled_some (Quote f) s rest is = omega (arith, ap length is.0)
spelled_some (Number digits p) s rest k = omega (arith, ap length k.is, length-append digits (suffix_text p), some digits k.number)
  where
    some : (ds : Bytes) → is_number ds ≡ true → 1 ≤ length ds
    some [] e = absurd cc
    some (d ∷ ds) e = omega arith
spelled_some (Mark sign) s rest is = omega (arith, ap length is, some sign)
  where
    some : (x : Sign) → 1 ≤ length (sign_text x)
    some signs.NotEq = omega arith
    some signs.Gte = omega arith
    some signs.Lte = omega arith
    some signs.RoundOpen = omega arith
    some signs.RoundClose = omega arith
    some signs.SquareOpen = omega arith
    some signs.SquareClose = omega arith
    some signs.CurlyOpen = omega arith
    some signs.CurlyClose = omega arith
    some signs.Comma = omega arith
    some signs.Colon = omega arith
    some signs.Dot = omega arith
    some signs.Dollar = omega arith
    some signs.Question = omega arith
    some signs.Tilde = omega arith
    some signs.Plus = omega arith
    some signs.Minus = omega arith
    some signs.Eq = omega arith
    some signs.Gt = omega arith
    some signs.Lt = omega arith

front_found : (bytes rest : Bytes) (t : Token) (tokens : List Token) → StandsLongest bytes t rest → Cuts rest tokens → Front bytes t rest
front_found bytes rest t tokens k c =
    let found = token_found bytes rest t tokens k c in
    record {
      filled = no_blank bytes rest t found;
      found = found;
      shorter = omega (arith, ap length k.stands.front, length-append k.stands.spelling rest, spelled_some t k.stands.spelling rest k.stands.spells);
    }

cut_found : {bytes : Bytes} {tokens : List Token} → Cuts bytes tokens → Cut bytes tokens
cut_found no_bytes = cut-end
cut_found (blank_first b bytes tokens blank c) = cut-blank b bytes tokens blank (cut_found c)
cut_found (token_first bytes rest t tokens k c) = cut-token bytes t rest tokens (front_found bytes rest t tokens k c) (cut_found c)

pub cut_are_found : CutAreFound
cut_are_found bytes tokens c = tokens_of-cut bytes tokens (cut_found c)
