-- The parts that written texts are made of, each a token at the front of a text: words, names and texts between marks, numbers, signs.
use Rattle.std.proofs.Common.{◌≡◌, ℕ, ◌<◌, Bool, true, false, List, [], ◌∷◌, ◌++◌, length, refl, sym, ap, subst, ◌∙◌, append_assoc, Option, Some, None, arith, ◌==◌, ◌&&◌, ◌||◌, length-append}
use Rattle.std.specs.Prelude.{option_map, if◌then◌else◌, not}
use Rattle.std.specs.List.{list_all, flat_map}
use Rattle.std.specs.Str.{is_utf8}
use Rattle.std.proofs.lemmas.Bool.{and_parts}
use Rattle.std.proofs.lemmas.Bool.Decides.{nat_tests}
use Rattle.vx_dtype.specs.declared.PType.{PType}
use Rattle.vx_dtype.specs.Types.{Bytes}
use Rattle.vx_tokens.specs.declared.tokens.Keyword.{Keyword}
use Rattle.vx_tokens.specs.declared.tokens.Sign.{Sign}
use Rattle.vx_tokens.specs.declared.tokens.Sign.TheVariants as signs
use Rattle.vx_tokens.specs.declared.tokens.Token.{Token}
use Rattle.vx_tokens.specs.declared.tokens.Token.TheVariants.{Reserved, Word, Quoted, Quote, Number, Mark}
use Rattle.vx_tokens.specs.Tokens.{◌>>=◌, is_blank, is_first, is_digit, is_inner, before, keyword_of, word_or, word_token, suffix_of, is_number, number_within, number_behind, behind_mark, quoted_run, two_signs, one_sign, longer_sign, word_behind, quoted_behind, name_behind, text_behind, token_at}
use Rattle.vx_tokens.specs.Names.{doubled, within_marks, is_word, is_free, is_plain_word, name_text}
use Rattle.vx_laws_text.specs.WrittenTokens.{name_token}
use Rattle.vx_laws_text.proofs.Cutting.{Cut, Front, cut-token, begins, run_of-append}

-- ---- tests

pub if-true : {A : Type 0} (t : Bool) (x y : A) → t ≡ true → (if t then x else y) ≡ x
if-true t x y e = rw e refl

pub if-false : {A : Type 0} (t : Bool) (x y : A) → t ≡ false → (if t then x else y) ≡ y
if-false t x y e = rw e refl

not_true : (x : Bool) → not x ≡ true → x ≡ false
not_true true e = cc
not_true false e = refl

or_false : (x y : Bool) → (x || y) ≡ false → (x ≡ false) × (y ≡ false)
or_false false y e = (refl, e)
or_false true y e = absurd cc

or_true : (x y : Bool) → x ≡ true → (x || y) ≡ true
or_true x y e = rw e refl

-- ---- what may stand behind a name, a number or an expression

-- no character of a word or a number, and no mark of quotes
abbrev pub stops : Bytes → Bool
stops [] = true
stops (b ∷ bytes) = not (is_inner b) && (not (b == 34) && not (b == 39))

record Stops (b : ℕ) : Type 0 where
  pub inner : is_inner b ≡ false
  pub digit : is_digit b ≡ false
  pub double : (b == 34) ≡ false
  pub single : (b == 39) ≡ false

stops_by : (b : ℕ) (inner double single : Bool) → is_inner b ≡ inner → (b == 34) ≡ double → (b == 39) ≡ single → (not inner && (not double && not single)) ≡ true → Stops b
stops_by b false false false i d s h = record { inner = i; digit = (or_false (is_first b) (is_digit b) i).1; double = d; single = s }
stops_by b false false true i d s h = absurd cc
stops_by b false true single i d s h = absurd cc
stops_by b true double single i d s h = absurd cc

stops-at : (b : ℕ) (bytes : Bytes) → stops (b ∷ bytes) ≡ true → Stops b
stops-at b bytes h = stops_by b (is_inner b) (b == 34) (b == 39) refl refl refl h

inner_stops : (rest : Bytes) → stops rest ≡ true → begins is_inner rest ≡ false
inner_stops [] h = refl
inner_stops (b ∷ bytes) h = (stops-at b bytes h).inner

double_stops : (rest : Bytes) → stops rest ≡ true → behind_mark 34 rest ≡ None
double_stops [] h = refl
double_stops (b ∷ bytes) h = if-false (b == 34) (Some bytes) None (stops-at b bytes h).double

single_stops : (rest : Bytes) → stops rest ≡ true → behind_mark 39 rest ≡ None
single_stops [] h = refl
single_stops (b ∷ bytes) h = if-false (b == 39) (Some bytes) None (stops-at b bytes h).single

-- ---- words

first_no_blank : (b : ℕ) → is_first b ≡ true → is_blank b ≡ false
first_no_blank b e = grind (arith, nat_tests)

word_found : (b : ℕ) (s rest : Bytes) → is_first b ≡ true → list_all is_inner s ≡ true → stops rest ≡ true → token_at (b ∷ (s ++ rest)) ≡ Some (word_token (b ∷ s), rest)
unfolding token_at
word_found b s rest first inner stop =
    let all : list_all is_inner (b ∷ s) ≡ true = rw (or_true (is_first b) (is_digit b) first) inner in
    if-true (is_first b) _ _ first ∙ ap word_behind (run_of-append is_inner (b ∷ s) rest all (inner_stops rest stop))

word_front : (b : ℕ) (s rest : Bytes) → is_first b ≡ true → list_all is_inner s ≡ true → stops rest ≡ true → Front (b ∷ (s ++ rest)) (word_token (b ∷ s)) rest
word_front b s rest first inner stop = record {
  filled = if-false (is_blank b) _ _ (first_no_blank b first);
  found = word_found b s rest first inner stop;
  shorter = omega (arith, length-append s rest);
}

-- a word, and the tokens of what stands behind it
pub cut-word : (s rest : Bytes) (tokens : List Token) → is_word s ≡ true → stops rest ≡ true → Cut rest tokens → Cut (s ++ rest) (word_token s ∷ tokens)
cut-word [] rest tokens word stop c = absurd cc
cut-word (b ∷ s) rest tokens word stop c =
    let h = and_parts (is_first b) (list_all is_inner s) word in
    cut-token (b ∷ (s ++ rest)) (word_token (b ∷ s)) rest tokens (word_front b s rest h.0 h.1 stop) c

-- a reserved word, and one that is a name
pub cut-reserved : (s rest : Bytes) (k : Keyword) (tokens : List Token) → keyword_of s ≡ Some k → is_word s ≡ true → stops rest ≡ true → Cut rest tokens → Cut (s ++ rest) (Reserved k ∷ tokens)
cut-reserved s rest k tokens is word stop c = subst (λ (t : Token). Cut (s ++ rest) (t ∷ tokens)) (ap (word_or s) is) (cut-word s rest tokens word stop c)

pub cut-free : (s rest : Bytes) (tokens : List Token) → keyword_of s ≡ None → is_word s ≡ true → stops rest ≡ true → Cut rest tokens → Cut (s ++ rest) (Word s ∷ tokens)
cut-free s rest tokens is word stop c = subst (λ (t : Token). Cut (s ++ rest) (t ∷ tokens)) (ap (word_or s) is) (cut-word s rest tokens word stop c)

-- ---- between marks

same_mark : (mark : ℕ) → (mark == mark) ≡ true
same_mark mark = grind (arith, nat_tests)

is_mark : (b mark : ℕ) → (b == mark) ≡ true → b ≡ mark
is_mark b mark e = grind (arith, nat_tests)

run_end : (mark : ℕ) (rest : Bytes) → behind_mark mark rest ≡ None → quoted_run mark (mark ∷ rest) ≡ Some ([], rest)
unfolding quoted_run
run_end mark [] none = rw (same_mark mark) refl
run_end mark (c ∷ rest) none = if-true (mark == mark) _ _ (same_mark mark) ∙ other (c == mark) none
  where
    other : (t : Bool) → ◌≡◌ {A = Option Bytes} (if t then Some rest else None) None → (if t then option_map (before (mark ∷ [])) (quoted_run mark rest) else Some ([], c ∷ rest)) ≡ Some ([], c ∷ rest)
    other true e = absurd cc
    other false e = refl

pub run_plain : (mark b : ℕ) (bytes : Bytes) → (b == mark) ≡ false → quoted_run mark (b ∷ bytes) ≡ option_map (before (b ∷ [])) (quoted_run mark bytes)
unfolding quoted_run
run_plain mark b [] e = if-false (b == mark) _ _ e
run_plain mark b (c ∷ bytes) e = if-false (b == mark) _ _ e

pub run_double : (mark : ℕ) (bytes : Bytes) → quoted_run mark (mark ∷ mark ∷ bytes) ≡ option_map (before (mark ∷ [])) (quoted_run mark bytes)
unfolding quoted_run
run_double mark bytes = if-true (mark == mark) _ _ (same_mark mark) ∙ if-true (mark == mark) _ _ (same_mark mark)

run_one : (mark b : ℕ) (bytes s rest : Bytes) (t : Bool) → (b == mark) ≡ t → quoted_run mark bytes ≡ Some (s, rest) → quoted_run mark ((if t then mark ∷ mark ∷ [] else b ∷ []) ++ bytes) ≡ Some (b ∷ s, rest)
run_one mark b bytes s rest true e h =
    run_double mark bytes ∙ ap (option_map (before (mark ∷ []))) h ∙ ap (λ (c : ℕ). Some (c ∷ s, rest)) (sym (is_mark b mark e))
run_one mark b bytes s rest false e h = run_plain mark b bytes e ∙ ap (option_map (before (b ∷ []))) h

-- a text with its marks doubled, up to the mark behind it
pub run_quoted : (mark : ℕ) (s rest : Bytes) → behind_mark mark rest ≡ None → quoted_run mark (flat_map (doubled mark) s ++ (mark ∷ rest)) ≡ Some (s, rest)
run_quoted mark [] rest none = run_end mark rest none
run_quoted mark (b ∷ s) rest none =
    ap (quoted_run mark) (append_assoc (doubled mark b) (flat_map (doubled mark) s) (mark ∷ rest))
    ∙ run_one mark b (flat_map (doubled mark) s ++ (mark ∷ rest)) s rest (b == mark) refl (run_quoted mark s rest none)

quoted_found : (s rest : Bytes) → is_utf8 s ≡ true → quoted_behind (Some (s, rest)) ≡ Some (s, rest)
quoted_found s rest utf8 = if-true (is_utf8 s) _ _ utf8

quoted_parts : (mark : ℕ) (s rest : Bytes) → within_marks mark s ++ rest ≡ mark ∷ (flat_map (doubled mark) s ++ (mark ∷ rest))
quoted_parts mark s rest = ap (λ (bytes : Bytes). mark ∷ bytes) (append_assoc (flat_map (doubled mark) s) (mark ∷ []) rest)

shorter_quoted : (mark : ℕ) (s rest : Bytes) → length rest < length (mark ∷ (flat_map (doubled mark) s ++ (mark ∷ rest)))
shorter_quoted mark s rest = omega (arith, length-append (flat_map (doubled mark) s) (mark ∷ rest))

name_found : (s rest : Bytes) → is_utf8 s ≡ true → stops rest ≡ true → token_at (34 ∷ (flat_map (doubled 34) s ++ (34 ∷ rest))) ≡ Some (Quoted s, rest)
unfolding token_at
name_found s rest utf8 stop =
    ap name_behind (run_quoted 34 s rest (double_stops rest stop))
    ∙ ap (λ (r : Option (Bytes × Bytes)). r >>= λ x. Some (Quoted x.0, x.1)) (quoted_found s rest utf8)

text_found : (s rest : Bytes) → is_utf8 s ≡ true → stops rest ≡ true → token_at (39 ∷ (flat_map (doubled 39) s ++ (39 ∷ rest))) ≡ Some (Quote s, rest)
unfolding token_at
text_found s rest utf8 stop =
    ap text_behind (run_quoted 39 s rest (single_stops rest stop))
    ∙ ap (λ (r : Option (Bytes × Bytes)). r >>= λ x. Some (Quote x.0, x.1)) (quoted_found s rest utf8)

cut-quoted : (s rest : Bytes) (tokens : List Token) → is_utf8 s ≡ true → stops rest ≡ true → Cut rest tokens → Cut (within_marks 34 s ++ rest) (Quoted s ∷ tokens)
cut-quoted s rest tokens utf8 stop c = rw (quoted_parts 34 s rest) (cut-token _ (Quoted s) rest tokens
    (record { filled = refl; found = name_found s rest utf8 stop; shorter = shorter_quoted 34 s rest }) c)

pub cut-quote : (s rest : Bytes) (tokens : List Token) → is_utf8 s ≡ true → stops rest ≡ true → Cut rest tokens → Cut (within_marks 39 s ++ rest) (Quote s ∷ tokens)
cut-quote s rest tokens utf8 stop c = rw (quoted_parts 39 s rest) (cut-token _ (Quote s) rest tokens
    (record { filled = refl; found = text_found s rest utf8 stop; shorter = shorter_quoted 39 s rest }) c)

-- ---- names

free : (o : Option Keyword) → is_free o ≡ true → o ≡ None
free None e = refl
free (Some k) e = absurd cc

cut_named : (f rest : Bytes) (tokens : List Token) (t : Bool) → is_plain_word f ≡ t → is_utf8 f ≡ true → stops rest ≡ true → Cut rest tokens
    → Cut ((if t then f else within_marks 34 f) ++ rest) ((if t then Word f else Quoted f) ∷ tokens)
cut_named f rest tokens true plain utf8 stop c =
    let h = and_parts (is_word f) (is_free (keyword_of f)) plain in
    cut-free f rest tokens (free (keyword_of f) h.1) h.0 stop c
cut_named f rest tokens false plain utf8 stop c = cut-quoted f rest tokens utf8 stop c

pub cut-name : (f rest : Bytes) (tokens : List Token) → is_utf8 f ≡ true → stops rest ≡ true → Cut rest tokens → Cut (name_text f ++ rest) (name_token f ∷ tokens)
unfolding name_text name_token
cut-name f rest tokens utf8 stop c = cut_named f rest tokens (is_plain_word f) refl utf8 stop c

-- ---- signs

-- the only character of a sign that no other character makes longer
pub record IsSign (b : ℕ) (s : Sign) : Type 0 where
  pub blank : is_blank b ≡ false
  pub first : is_first b ≡ false
  pub digit : is_digit b ≡ false
  pub double : (b == 34) ≡ false
  pub single : (b == 39) ≡ false
  pub alone : two_signs b 61 ≡ None
  pub one : one_sign b ≡ Some s

two_none : (b c : ℕ) (t : Bool) → two_signs b 61 ≡ None → (if t then two_signs b 61 else None) ≡ None
two_none b c true h = h
two_none b c false h = refl

sign_found : (b : ℕ) (s : Sign) (rest : Bytes) → IsSign b s → token_at (b ∷ rest) ≡ Some (Mark s, rest)
unfolding token_at
sign_found b s [] k =
    if-false (is_first b) _ _ k.first ∙ (if-false (is_digit b) _ _ k.digit ∙ (if-false (b == 34) _ _ k.double ∙ (if-false (b == 39) _ _ k.single
    ∙ ap (λ (o : Option Sign). o >>= λ x. Some (Mark x, [])) k.one)))
sign_found b s (c ∷ rest) k =
    if-false (is_first b) _ _ k.first ∙ (if-false (is_digit b) _ _ k.digit ∙ (if-false (b == 34) _ _ k.double ∙ (if-false (b == 39) _ _ k.single
    ∙ (ap (λ (o : Option Sign). longer_sign o b c rest) (two_none b c (c == 61) k.alone)
    ∙ ap (λ (o : Option Sign). o >>= λ x. Some (Mark x, c ∷ rest)) k.one))))

pub cut-sign : (b : ℕ) (s : Sign) (rest : Bytes) (tokens : List Token) → IsSign b s → Cut rest tokens → Cut (b ∷ rest) (Mark s ∷ tokens)
cut-sign b s rest tokens k c = cut-token (b ∷ rest) (Mark s) rest tokens
    (record { filled = if-false (is_blank b) _ _ k.blank; found = sign_found b s rest k; shorter = omega arith }) c

pub round_open : IsSign 40 signs.RoundOpen
unfolding one_sign
round_open = record { blank = refl; first = refl; digit = refl; double = refl; single = refl; alone = refl; one = refl }

pub round_close : IsSign 41 signs.RoundClose
unfolding one_sign
round_close = record { blank = refl; first = refl; digit = refl; double = refl; single = refl; alone = refl; one = refl }

pub square_open : IsSign 91 signs.SquareOpen
unfolding one_sign
square_open = record { blank = refl; first = refl; digit = refl; double = refl; single = refl; alone = refl; one = refl }

pub square_close : IsSign 93 signs.SquareClose
unfolding one_sign
square_close = record { blank = refl; first = refl; digit = refl; double = refl; single = refl; alone = refl; one = refl }

pub curly_open : IsSign 123 signs.CurlyOpen
unfolding one_sign
curly_open = record { blank = refl; first = refl; digit = refl; double = refl; single = refl; alone = refl; one = refl }

pub curly_close : IsSign 125 signs.CurlyClose
unfolding one_sign
curly_close = record { blank = refl; first = refl; digit = refl; double = refl; single = refl; alone = refl; one = refl }

pub comma : IsSign 44 signs.Comma
unfolding one_sign
comma = record { blank = refl; first = refl; digit = refl; double = refl; single = refl; alone = refl; one = refl }

pub colon : IsSign 58 signs.Colon
unfolding one_sign
colon = record { blank = refl; first = refl; digit = refl; double = refl; single = refl; alone = refl; one = refl }

pub dot : IsSign 46 signs.Dot
unfolding one_sign
dot = record { blank = refl; first = refl; digit = refl; double = refl; single = refl; alone = refl; one = refl }

pub dollar : IsSign 36 signs.Dollar
unfolding one_sign
dollar = record { blank = refl; first = refl; digit = refl; double = refl; single = refl; alone = refl; one = refl }

pub question : IsSign 63 signs.Question
unfolding one_sign
question = record { blank = refl; first = refl; digit = refl; double = refl; single = refl; alone = refl; one = refl }

pub tilde : IsSign 126 signs.Tilde
unfolding one_sign
tilde = record { blank = refl; first = refl; digit = refl; double = refl; single = refl; alone = refl; one = refl }

pub minus : IsSign 45 signs.Minus
unfolding one_sign
minus = record { blank = refl; first = refl; digit = refl; double = refl; single = refl; alone = refl; one = refl }

-- ---- numbers

digit_no_blank : (b : ℕ) → is_digit b ≡ true → is_blank b ≡ false
digit_no_blank b e = grind (arith, nat_tests)

digit_no_first : (b : ℕ) → is_digit b ≡ true → is_first b ≡ false
digit_no_first b e = grind (arith, nat_tests)

-- what may stand behind the digits of a number, and the integer type that it names
pub record IsSuffix (suffix : Bytes) (p : Option PType) : Type 0 where
  pub inner : list_all is_inner suffix ≡ true
  pub names : suffix_of suffix ≡ Some p
  pub apart : (rest : Bytes) → begins is_digit rest ≡ false → begins is_digit (suffix ++ rest) ≡ false

inner_digit : (rest : Bytes) → begins is_inner rest ≡ false → begins is_digit rest ≡ false
inner_digit [] e = refl
inner_digit (b ∷ bytes) e = (or_false (is_first b) (is_digit b) e).1

pub number_found : (b : ℕ) (s suffix rest : Bytes) (p : Option PType) → list_all is_digit (b ∷ s) ≡ true → is_number (b ∷ s) ≡ true → IsSuffix suffix p → begins is_inner rest ≡ false
    → token_at (b ∷ (s ++ (suffix ++ rest))) ≡ Some (Number (b ∷ s) p, rest)
unfolding token_at
number_found b s suffix rest p digits number is ends =
    let h = and_parts (is_digit b) (list_all is_digit s) digits in
    if-false (is_first b) _ _ (digit_no_first b h.0) ∙ (if-true (is_digit b) _ _ h.0
    ∙ (ap number_behind (run_of-append is_digit (b ∷ s) (suffix ++ rest) digits (is.apart rest (inner_digit rest ends)))
    ∙ (ap (number_within (b ∷ s)) (run_of-append is_inner suffix rest is.inner ends)
    ∙ (ap (λ (o : Option Token). o >>= λ t. Some (t, rest)) (if-true (is_number (b ∷ s)) _ _ number)
    ∙ ap (λ (o : Option (Option PType)). (o >>= λ q. Some (Number (b ∷ s) q)) >>= λ t. Some (t, rest)) is.names))))

pub cut-number : (digits suffix rest : Bytes) (p : Option PType) (tokens : List Token) → list_all is_digit digits ≡ true → is_number digits ≡ true → IsSuffix suffix p → stops rest ≡ true → Cut rest tokens
    → Cut (digits ++ (suffix ++ rest)) (Number digits p ∷ tokens)
cut-number [] suffix rest p tokens digits number is stop c = absurd cc
cut-number (b ∷ s) suffix rest p tokens digits number is stop c =
    let h = and_parts (is_digit b) (list_all is_digit s) digits in
    cut-token (b ∷ (s ++ (suffix ++ rest))) (Number (b ∷ s) p) rest tokens
    (record {
      filled = if-false (is_blank b) _ _ (digit_no_blank b h.0);
      found = number_found b s suffix rest p digits number is (inner_stops rest stop);
      shorter = omega (arith, length-append s (suffix ++ rest), length-append suffix rest);
    }) c

pub no_suffix : IsSuffix [] None
no_suffix = record { inner = refl; names = refl; apart = λ rest h. h }
