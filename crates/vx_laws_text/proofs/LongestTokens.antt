-- The token at the front of a text is the longest that stands there.
use Rattle.std.proofs.Common.{◌≡◌, ℕ, ◌≤◌, Bool, true, false, [], ◌∷◌, ◌++◌, length, refl, sym, ap, subst, ◌∙◌, append_assoc, Option, Some, None, arith, length-append, codes}
use Rattle.std.specs.Prelude.{option_map, if◌then◌else◌, ◌==◌, ◌||◌}
use Rattle.std.specs.Option.{option_or}
use Rattle.std.specs.List.{list_all, flat_map}
use Rattle.std.specs.Str.{is_utf8, bytes_eq}
use Rattle.std.proofs.lemmas.Bool.{and_parts}
use Rattle.std.proofs.lemmas.Bool.Decides.{nat_tests}
use Rattle.std.proofs.lemmas.Slice.Eq.{bytes_eq-Decides}
use Rattle.vx_dtype.specs.declared.PType.{PType}
use Rattle.vx_dtype.specs.declared.PType.TheVariants.{U8, U16, U32, U64, I8, I16, I32, I64}
use Rattle.vx_dtype.specs.Types.{Bytes}
use Rattle.vx_dtype.specs.Texts.{ptype_text, integer_named}
use Rattle.vx_tokens.specs.declared.tokens.Keyword.{Keyword}
use Rattle.vx_tokens.specs.declared.tokens.Sign.{Sign}
use Rattle.vx_tokens.specs.declared.tokens.Sign.TheVariants as signs
use Rattle.vx_tokens.specs.declared.tokens.Token.{Token}
use Rattle.vx_tokens.specs.declared.tokens.Token.TheVariants.{Reserved, Word, Quoted, Quote, Number, Mark}
use Rattle.vx_tokens.specs.Tokens.{◌>>=◌, is_first, is_digit, is_inner, before, run_of, keyword_of, word_or, word_token, suffix_of, is_number, number_behind, quoted_run, two_signs, bracket_of, stop_of, operation_of, one_sign, longer_sign, sign_at, word_behind, quoted_behind, name_behind, text_behind, marked_at, token_at}
use Rattle.vx_tokens.specs.Names.{doubled, within_marks, is_word}
use Rattle.vx_laws_text.specs.Longest.{sign_text, suffix_text, goes_on, SpellsToken, Stands, TokenStands, NoLongerStands}
use Rattle.vx_laws_text.proofs.Cutting.{begins}
use Rattle.vx_laws_text.proofs.Pieces.{if-true, run_plain, run_double, IsSuffix, no_suffix, number_found}
use Rattle.vx_laws_text.proofs.CutTexts.{type_suffix}

-- ---- runs

-- a run is the front of a text, of characters of its class, and none follows
pub record IsRun (class : ℕ → Bool) (bytes : Bytes) (r : Bytes × Bytes) : Type 0 where
  pub parts : bytes ≡ r.0 ++ r.1
  pub all : list_all class r.0 ≡ true
  pub stops : begins class r.1 ≡ false

pub run_is : (class : ℕ → Bool) (bytes : Bytes) → IsRun class bytes (run_of class bytes)
unfolding run_of
run_is class [] = record { parts = refl; all = refl; stops = refl }
run_is class (b ∷ bytes) = go (class b) refl (run_is class bytes)
  where
    go : (t : Bool) → class b ≡ t → IsRun class bytes (run_of class bytes) → IsRun class (b ∷ bytes) (if t then before (b ∷ []) (run_of class bytes) else ([], b ∷ bytes))
    go true is h = record { parts = ap (λ (s : Bytes). b ∷ s) h.parts; all = rw is h.all; stops = h.stops }
    go false is h = record { parts = refl; all = refl; stops = is }

-- a run is as long as each front of the class
pub run_longest : (class : ℕ → Bool) (s rest : Bytes) → list_all class s ≡ true → length (run_of class (s ++ rest)).1 ≤ length rest
unfolding run_of
run_longest class [] rest all = let h = run_is class rest in omega (arith, ap length h.parts, length-append (run_of class rest).0 (run_of class rest).1)
run_longest class (b ∷ s) rest all =
    let h = and_parts (class b) (list_all class s) all in
    rw h.0 (run_longest class s rest h.1)

-- ---- between marks

is_mark : (b mark : ℕ) → (b == mark) ≡ true → b ≡ mark
is_mark b mark e = grind (arith, nat_tests)

record Mapped (b : ℕ) (o : Option (Bytes × Bytes)) (x : Bytes × Bytes) : Type 0 where
  found : Bytes × Bytes
  is : o ≡ Some found
  inner : b ∷ found.0 ≡ x.0
  rest : found.1 ≡ x.1

mapped : (b : ℕ) (o : Option (Bytes × Bytes)) (x : Bytes × Bytes) → option_map (before (b ∷ [])) o ≡ Some x → Mapped b o x
mapped b None x e = absurd cc
mapped b (Some y) x e =
    let same : ◌≡◌ {A = Bytes × Bytes} (before (b ∷ []) y) x = cc in
    record { found = y; is = refl; inner = ap (λ (z : Bytes × Bytes). z.0) same; rest = ap (λ (z : Bytes × Bytes). z.1) same }

abbrev ending : Bytes → Option (Bytes × Bytes)
ending rest = Some ([], rest)

ended : (rest : Bytes) (x : Bytes × Bytes) → ending rest ≡ Some x → ◌≡◌ {A = Bytes × Bytes} ([], rest) x
ended rest x e = cc

one_more : (mark b : ℕ) (s others bytes : Bytes) (t : Bool) → (b == mark) ≡ t → bytes ≡ flat_map (doubled mark) s ++ others
    → (if t then b ∷ mark ∷ bytes else b ∷ bytes) ≡ flat_map (doubled mark) (b ∷ s) ++ others
one_more mark b s others bytes true e h = rw e (λ i. is_mark b mark e i ∷ mark ∷ h i)
one_more mark b s others bytes false e h = rw e (ap (λ (z : Bytes). b ∷ z) h)

quoted_parts : (mark : ℕ) (bytes : Bytes) (x : Bytes × Bytes) → quoted_run mark bytes ≡ Some x → bytes ≡ flat_map (doubled mark) x.0 ++ (mark ∷ x.1)
unfolding quoted_run
quoted_parts mark [] x e = absurd cc
quoted_parts mark (b ∷ []) x e = go (b == mark) refl e
  where
    go : (t : Bool) → (b == mark) ≡ t → (if t then ending [] else None) ≡ Some x → b ∷ [] ≡ flat_map (doubled mark) x.0 ++ (mark ∷ x.1)
    go true is e = subst (λ (z : Bytes × Bytes). b ∷ [] ≡ flat_map (doubled mark) z.0 ++ (mark ∷ z.1)) (ended [] x e) (ap (λ (n : ℕ). n ∷ []) (is_mark b mark is))
    go false is e = absurd cc
quoted_parts mark (b ∷ c ∷ bytes) x e = go (b == mark) (c == mark) refl refl (quoted_parts mark bytes) (quoted_parts mark (c ∷ bytes)) e
  where
    go : (t u : Bool) → (b == mark) ≡ t → (c == mark) ≡ u
        → ((y : Bytes × Bytes) → quoted_run mark bytes ≡ Some y → bytes ≡ flat_map (doubled mark) y.0 ++ (mark ∷ y.1))
        → ((y : Bytes × Bytes) → quoted_run mark (c ∷ bytes) ≡ Some y → c ∷ bytes ≡ flat_map (doubled mark) y.0 ++ (mark ∷ y.1))
        → (if t then (if u then option_map (before (b ∷ [])) (quoted_run mark bytes) else ending (c ∷ bytes)) else option_map (before (b ∷ [])) (quoted_run mark (c ∷ bytes))) ≡ Some x
        → b ∷ c ∷ bytes ≡ flat_map (doubled mark) x.0 ++ (mark ∷ x.1)
    go true true is two past next e =
        let m = mapped b (quoted_run mark bytes) x e in
        ap (λ (n : ℕ). b ∷ n ∷ bytes) (is_mark c mark two) ∙ one_more mark b m.found.0 (mark ∷ m.found.1) bytes true is (past m.found m.is)
        ∙ (λ i. flat_map (doubled mark) (m.inner i) ++ (mark ∷ m.rest i))
    go true false is two past next e =
        subst (λ (z : Bytes × Bytes). b ∷ c ∷ bytes ≡ flat_map (doubled mark) z.0 ++ (mark ∷ z.1)) (ended (c ∷ bytes) x e) (ap (λ (n : ℕ). n ∷ c ∷ bytes) (is_mark b mark is))
    go false u is two past next e =
        let m = mapped b (quoted_run mark (c ∷ bytes)) x e in
        one_more mark b m.found.0 (mark ∷ m.found.1) (c ∷ bytes) false is (next m.found m.is) ∙ (λ i. flat_map (doubled mark) (m.inner i) ++ (mark ∷ m.rest i))

quoted_shorter : (mark : ℕ) (bytes : Bytes) (x : Bytes × Bytes) → quoted_run mark bytes ≡ Some x → length x.1 ≤ length bytes
quoted_shorter mark bytes x e = omega (arith, ap length (quoted_parts mark bytes x e), length-append (flat_map (doubled mark) x.0) (mark ∷ x.1))

-- no run between marks ends before a single mark that it comes to
end_longest : (mark : ℕ) (others : Bytes) (x : Bytes × Bytes) → quoted_run mark (mark ∷ others) ≡ Some x → length x.1 ≤ length others
unfolding quoted_run
end_longest mark [] x e = go (mark == mark) e
  where
    go : (t : Bool) → (if t then ending [] else None) ≡ Some x → length x.1 ≤ 0
    go true e = omega (arith, ap (λ (z : Bytes × Bytes). length z.1) (ended [] x e))
    go false e = absurd cc
end_longest mark (c ∷ others) x e = go (c == mark) (sym (if-true (mark == mark) _ _ same) ∙ e)
  where
    same : (mark == mark) ≡ true
    same = grind (arith, nat_tests)

    go : (u : Bool) → (if u then option_map (before (mark ∷ [])) (quoted_run mark others) else ending (c ∷ others)) ≡ Some x → length x.1 ≤ length (c ∷ others)
    go true e =
        let m = mapped mark (quoted_run mark others) x e in
        omega (arith, ap length m.rest, quoted_shorter mark others m.found m.is)
    go false e = omega (arith, ap (λ (z : Bytes × Bytes). length z.1) (ended (c ∷ others) x e))

run_first : (mark b : ℕ) (bytes : Bytes) (t : Bool) → (b == mark) ≡ t → quoted_run mark ((if t then mark ∷ mark ∷ [] else b ∷ []) ++ bytes) ≡ option_map (before (b ∷ [])) (quoted_run mark bytes)
run_first mark b bytes true e = run_double mark bytes ∙ ap (λ (n : ℕ). option_map (before (n ∷ [])) (quoted_run mark bytes)) (sym (is_mark b mark e))
run_first mark b bytes false e = run_plain mark b bytes e

quoted_longest : (mark : ℕ) (s others : Bytes) (x : Bytes × Bytes) → quoted_run mark (flat_map (doubled mark) s ++ (mark ∷ others)) ≡ Some x → length x.1 ≤ length others
quoted_longest mark [] others x e = end_longest mark others x e
quoted_longest mark (b ∷ s) others x e =
    let behind = flat_map (doubled mark) s ++ (mark ∷ others) in
    let first = ap (quoted_run mark) (append_assoc (doubled mark b) (flat_map (doubled mark) s) (mark ∷ others)) ∙ run_first mark b behind (b == mark) refl in
    let m = mapped b (quoted_run mark behind) x (sym first ∙ e) in
    omega (arith, ap length m.rest, quoted_longest mark s others m.found m.is)

-- ---- names of integer types behind numbers

pick_type : (s name : Bytes) (made p : PType) (other : Option PType) → ptype_text made ≡ name → (other ≡ Some p → s ≡ ptype_text p) → (if bytes_eq s name then Some made else other) ≡ Some p → s ≡ ptype_text p
pick_type s name made p other text more e = go (bytes_eq s name) refl e
  where
    go : (t : Bool) → bytes_eq s name ≡ t → (if t then Some made else other) ≡ Some p → s ≡ ptype_text p
    go true is e =
        let same : made ≡ p = cc in
        (bytes_eq-Decides s name).0 is ∙ (sym text ∙ ap ptype_text same)
    go false is e = more e

named_is : (s : Bytes) (p : PType) → integer_named s ≡ Some p → s ≡ ptype_text p
unfolding integer_named
named_is s p e =
    pick_type s (codes "u8") U8 p _ refl (pick_type s (codes "u16") U16 p _ refl (pick_type s (codes "u32") U32 p _ refl (pick_type s (codes "u64") U64 p _ refl
    (pick_type s (codes "i8") I8 p _ refl (pick_type s (codes "i16") I16 p _ refl (pick_type s (codes "i32") I32 p _ refl (pick_type s (codes "i64") I64 p None refl (λ h. absurd cc)))))))) e

suffix_is : (s : Bytes) (q : Option PType) → suffix_of s ≡ Some q → s ≡ suffix_text q
suffix_is [] q e = let same : None ≡ q = cc in ap suffix_text same
suffix_is (b ∷ s) q e = go (integer_named (b ∷ s)) refl e
  where
    go : (o : Option PType) → integer_named (b ∷ s) ≡ o → (o >>= λ p. Some (Some p)) ≡ Some q → b ∷ s ≡ suffix_text q
    go None is e = absurd cc
    go (Some p) is e = let same : Some p ≡ q = cc in named_is (b ∷ s) p is ∙ ap suffix_text same

pub text_suffix : (q : Option PType) → IsSuffix (suffix_text q) q
text_suffix None = no_suffix
text_suffix (Some p) = type_suffix p

-- ---- signs

pick_sign : (b k : ℕ) (made s : Sign) (other : Option Sign) → sign_text made ≡ k ∷ [] → (other ≡ Some s → sign_text s ≡ b ∷ []) → (if b == k then Some made else other) ≡ Some s → sign_text s ≡ b ∷ []
pick_sign b k made s other text more e = go (b == k) refl e
  where
    go : (t : Bool) → (b == k) ≡ t → (if t then Some made else other) ≡ Some s → sign_text s ≡ b ∷ []
    go true is e =
        let same : made ≡ s = cc in
        sym (ap sign_text same) ∙ (text ∙ ap (λ (n : ℕ). n ∷ []) (sym (is_mark b k is)))
    go false is e = more e

bracket_is : (b : ℕ) (s : Sign) → bracket_of b ≡ Some s → sign_text s ≡ b ∷ []
bracket_is b s e =
    pick_sign b 40 signs.RoundOpen s _ refl (pick_sign b 41 signs.RoundClose s _ refl (pick_sign b 91 signs.SquareOpen s _ refl (pick_sign b 93 signs.SquareClose s _ refl
    (pick_sign b 123 signs.CurlyOpen s _ refl (pick_sign b 125 signs.CurlyClose s None refl (λ h. absurd cc)))))) e

stop_is : (b : ℕ) (s : Sign) → stop_of b ≡ Some s → sign_text s ≡ b ∷ []
stop_is b s e =
    pick_sign b 44 signs.Comma s _ refl (pick_sign b 58 signs.Colon s _ refl (pick_sign b 46 signs.Dot s _ refl (pick_sign b 36 signs.Dollar s _ refl
    (pick_sign b 63 signs.Question s _ refl (pick_sign b 126 signs.Tilde s None refl (λ h. absurd cc)))))) e

operation_is : (b : ℕ) (s : Sign) → operation_of b ≡ Some s → sign_text s ≡ b ∷ []
operation_is b s e =
    pick_sign b 43 signs.Plus s _ refl (pick_sign b 45 signs.Minus s _ refl (pick_sign b 61 signs.Eq s _ refl (pick_sign b 62 signs.Gt s _ refl
    (pick_sign b 60 signs.Lt s None refl (λ h. absurd cc))))) e

either_is : (b : ℕ) (s : Sign) (o other : Option Sign) → (o ≡ Some s → sign_text s ≡ b ∷ []) → (other ≡ Some s → sign_text s ≡ b ∷ []) → option_or o other ≡ Some s → sign_text s ≡ b ∷ []
either_is b s None other h k e = k e
either_is b s (Some x) other h k e = h e

one_is : (b : ℕ) (s : Sign) → one_sign b ≡ Some s → sign_text s ≡ b ∷ []
unfolding one_sign
one_is b s e =
    either_is b s (bracket_of b) (option_or (stop_of b) (operation_of b)) (bracket_is b s) (either_is b s (stop_of b) (operation_of b) (stop_is b s) (operation_is b s)) e

pick_pair : (a k : ℕ) (made s : Sign) (other : Option Sign) → sign_text made ≡ k ∷ 61 ∷ [] → (other ≡ Some s → sign_text s ≡ a ∷ 61 ∷ []) → (if a == k then Some made else other) ≡ Some s → sign_text s ≡ a ∷ 61 ∷ []
pick_pair a k made s other text more e = go (a == k) refl e
  where
    go : (t : Bool) → (a == k) ≡ t → (if t then Some made else other) ≡ Some s → sign_text s ≡ a ∷ 61 ∷ []
    go true is e =
        let same : made ≡ s = cc in
        sym (ap sign_text same) ∙ (text ∙ ap (λ (n : ℕ). n ∷ 61 ∷ []) (sym (is_mark a k is)))
    go false is e = more e

pub two_is : (a b : ℕ) (s : Sign) → two_signs a b ≡ Some s → sign_text s ≡ a ∷ b ∷ []
two_is a b s e = go (b == 61) refl e
  where
    pairs : two_signs a 61 ≡ Some s → sign_text s ≡ a ∷ 61 ∷ []
    pairs h = pick_pair a 33 signs.NotEq s _ refl (pick_pair a 62 signs.Gte s _ refl (pick_pair a 60 signs.Lte s None refl (λ h. absurd cc))) h

    go : (t : Bool) → (b == 61) ≡ t → (if t then two_signs a 61 else None) ≡ Some s → sign_text s ≡ a ∷ b ∷ []
    go true is h = pairs h ∙ ap (λ (n : ℕ). a ∷ n ∷ []) (sym (is_mark b 61 is))
    go false is h = absurd cc

-- ---- the token that is found stands at the front

abbrev found : Token → Bytes → Option (Token × Bytes)
found t rest = Some (t, rest)

-- what stands at the front, told of a pair
abbrev pub StandsAs : Bytes → Token × Bytes → Type 0
StandsAs bytes x = Stands bytes x.0 x.1

same_pair : (t u : Token) (rest others : Bytes) → found t rest ≡ found u others → ◌≡◌ {A = Token × Bytes} (t, rest) (u, others)
same_pair t u rest others e = cc

stands_as : (bytes : Bytes) (t u : Token) (rest others : Bytes) → found t rest ≡ found u others → Stands bytes t rest → Stands bytes u others
stands_as bytes t u rest others e k = subst (StandsAs bytes) (same_pair t u rest others e) k

word_spells : (s rest : Bytes) (o : Option Keyword) → keyword_of s ≡ o → is_word s ≡ true → SpellsToken (word_or s o) s rest
word_spells s rest (Some k) is word = (word, is)
word_spells s rest None is word = (refl, word, is)

pub word_stands : (b : ℕ) (bytes : Bytes) → is_first b ≡ true → StandsAs (b ∷ bytes) (word_token (b ∷ (run_of is_inner bytes).0), (run_of is_inner bytes).1)
word_stands b bytes first =
    let r = run_of is_inner bytes in
    let k = run_is is_inner bytes in
    let word : is_word (b ∷ r.0) ≡ true = rw first k.all in
    record { spelling = b ∷ r.0; front = ap (λ (z : Bytes). b ∷ z) k.parts; spells = word_spells (b ∷ r.0) r.1 (keyword_of (b ∷ r.0)) refl word }

or_true : (x y : Bool) → x ≡ true → (x || y) ≡ true
or_true x y e = rw e refl

pub word_run : (b : ℕ) (bytes : Bytes) → is_first b ≡ true → run_of is_inner (b ∷ bytes) ≡ before (b ∷ []) (run_of is_inner bytes)
unfolding run_of
word_run b bytes first = if-true (is_inner b) _ _ (or_true (is_first b) (is_digit b) first)

goes_on-begins : (rest : Bytes) → begins is_inner rest ≡ false → goes_on rest ≡ false
goes_on-begins [] e = refl
goes_on-begins (b ∷ rest) e = e

pub begins-goes_on : (rest : Bytes) → goes_on rest ≡ false → begins is_inner rest ≡ false
begins-goes_on [] e = refl
begins-goes_on (b ∷ rest) e = e

number_stands : (bytes rest : Bytes) (t : Token) → number_behind (run_of is_digit bytes) ≡ found t rest → Stands bytes t rest
number_stands bytes rest t e = go (is_number d.0) refl (suffix_of w.0) refl e
  where
    d : Bytes × Bytes
    d = run_of is_digit bytes

    w : Bytes × Bytes
    w = run_of is_inner d.1

    go : (n : Bool) → is_number d.0 ≡ n → (o : Option (Option PType)) → suffix_of w.0 ≡ o
        → ((if n then (o >>= λ p. Some (Number d.0 p)) else None) >>= λ u. found u w.1) ≡ found t rest → Stands bytes t rest
    go true number (Some q) is e =
        let kd = run_is is_digit bytes in
        let kw = run_is is_inner d.1 in
        let k : Stands bytes (Number d.0 q) w.1 = record {
          spelling = d.0 ++ w.0;
          front = kd.parts ∙ (ap (λ (z : Bytes). d.0 ++ z) kw.parts ∙ sym (append_assoc d.0 w.0 w.1));
          spells = record { is = ap (λ (z : Bytes). d.0 ++ z) (suffix_is w.0 q is); digit = kd.all; number = number; whole = goes_on-begins w.1 kw.stops };
        } in
        stands_as bytes (Number d.0 q) t w.1 rest e k
    go true number None is e = absurd cc
    go false number o is e = absurd cc

utf8_of : (b : Bool) (x y : Bytes × Bytes) → (if b then Some x else None) ≡ Some y → (b ≡ true) × (x ≡ y)
utf8_of true x y e = (refl, cc)
utf8_of false x y e = absurd cc

quoted_stands : (mark : ℕ) (made : Bytes → Token) (bytes rest : Bytes) (t : Token)
    → ((inner others : Bytes) → is_utf8 inner ≡ true → SpellsToken (made inner) (within_marks mark inner) others)
    → (quoted_behind (quoted_run mark bytes) >>= λ x. found (made x.0) x.1) ≡ found t rest → Stands (mark ∷ bytes) t rest
quoted_stands mark made bytes rest t spells e = go (quoted_run mark bytes) refl e
  where
    part : (x : Bytes × Bytes) → quoted_run mark bytes ≡ Some x → is_utf8 x.0 ≡ true → Stands (mark ∷ bytes) (made x.0) x.1
    part x is text = record {
      spelling = within_marks mark x.0;
      front = ap (λ (z : Bytes). mark ∷ z) (quoted_parts mark bytes x is ∙ sym (append_assoc (flat_map (doubled mark) x.0) (mark ∷ []) x.1));
      spells = spells x.0 x.1 text;
    }

    checked : (x : Bytes × Bytes) → quoted_run mark bytes ≡ Some x → (b : Bool) → is_utf8 x.0 ≡ b → ((if b then Some x else None) >>= λ y. found (made y.0) y.1) ≡ found t rest → Stands (mark ∷ bytes) t rest
    checked x is true text e = stands_as (mark ∷ bytes) (made x.0) t x.1 rest e (part x is text)
    checked x is false text e = absurd cc

    go : (o : Option (Bytes × Bytes)) → quoted_run mark bytes ≡ o → (quoted_behind o >>= λ x. found (made x.0) x.1) ≡ found t rest → Stands (mark ∷ bytes) t rest
    go None is e = absurd cc
    go (Some x) is e = checked x is (is_utf8 x.0) refl e

one_stands : (b : ℕ) (behind rest : Bytes) (t : Token) (o : Option Sign) → one_sign b ≡ o → (o >>= λ s. found (Mark s) behind) ≡ found t rest → Stands (b ∷ behind) t rest
one_stands b behind rest t None is e = absurd cc
one_stands b behind rest t (Some s) is e =
    stands_as (b ∷ behind) (Mark s) t behind rest e (record { spelling = b ∷ []; front = refl; spells = sym (one_is b s is) })

pair_stands : (b c : ℕ) (bytes rest : Bytes) (t : Token) (o : Option Sign) → two_signs b c ≡ o → longer_sign o b c bytes ≡ found t rest → Stands (b ∷ c ∷ bytes) t rest
pair_stands b c bytes rest t (Some s) is e =
    stands_as (b ∷ c ∷ bytes) (Mark s) t bytes rest e (record { spelling = b ∷ c ∷ []; front = refl; spells = sym (two_is b c s is) })
pair_stands b c bytes rest t None is e = one_stands b (c ∷ bytes) rest t (one_sign b) refl e

sign_stands : (b : ℕ) (bytes rest : Bytes) (t : Token) → sign_at b bytes ≡ found t rest → Stands (b ∷ bytes) t rest
sign_stands b [] rest t e = one_stands b [] rest t (one_sign b) refl e
sign_stands b (c ∷ bytes) rest t e = pair_stands b c bytes rest t (two_signs b c) refl e

marked_stands : (b : ℕ) (bytes rest : Bytes) (t : Token) → marked_at b bytes ≡ found t rest → Stands (b ∷ bytes) t rest
marked_stands b bytes rest t e = double (b == 34) refl e
  where
    at_mark : (mark : ℕ) → (b == mark) ≡ true → Stands (mark ∷ bytes) t rest → Stands (b ∷ bytes) t rest
    at_mark mark is k = subst (λ (n : ℕ). Stands (n ∷ bytes) t rest) (sym (is_mark b mark is)) k

    single : (c : Bool) → (b == 39) ≡ c → (if c then text_behind (quoted_run 39 bytes) else sign_at b bytes) ≡ found t rest → Stands (b ∷ bytes) t rest
    single true is e = at_mark 39 is (quoted_stands 39 Quote bytes rest t (λ inner others text. (refl, text)) e)
    single false is e = sign_stands b bytes rest t e

    double : (c : Bool) → (b == 34) ≡ c → (if c then name_behind (quoted_run 34 bytes) else (if b == 39 then text_behind (quoted_run 39 bytes) else sign_at b bytes)) ≡ found t rest → Stands (b ∷ bytes) t rest
    double true is e = at_mark 34 is (quoted_stands 34 Quoted bytes rest t (λ inner others text. (refl, text)) e)
    double false is e = single (b == 39) refl e

pub token_stands : TokenStands
unfolding token_at
token_stands [] rest t e = absurd cc
token_stands (b ∷ bytes) rest t e = first (is_first b) refl e
  where
    digit : (c : Bool) → (if c then number_behind (run_of is_digit (b ∷ bytes)) else marked_at b bytes) ≡ found t rest → Stands (b ∷ bytes) t rest
    digit true e = number_stands (b ∷ bytes) rest t e
    digit false e = marked_stands b bytes rest t e

    first : (c : Bool) → is_first b ≡ c → (if c then word_behind (run_of is_inner (b ∷ bytes)) else (if is_digit b then number_behind (run_of is_digit (b ∷ bytes)) else marked_at b bytes)) ≡ found t rest
        → Stands (b ∷ bytes) t rest
    first true is e = stands_as (b ∷ bytes) _ t _ rest (sym (ap word_behind (word_run b bytes is)) ∙ e) (word_stands b bytes is)
    first false is e = digit (is_digit b) e

-- ---- no longer one stands there

rest_same : (t u : Token) (rest others : Bytes) → found t rest ≡ found u others → rest ≡ others
rest_same t u rest others e = ap (λ (z : Token × Bytes). z.1) (same_pair t u rest others e)

word_longest : (s others rest : Bytes) (t : Token) → is_word s ≡ true → token_at (s ++ others) ≡ found t rest → length rest ≤ length others
unfolding token_at
word_longest [] others rest t word e = absurd cc
word_longest (b ∷ s) others rest t word e =
    let h = and_parts (is_first b) (list_all is_inner s) word in
    let all : list_all is_inner (b ∷ s) ≡ true = rw (or_true (is_first b) (is_digit b) h.0) h.1 in
    let same = rest_same _ t _ rest (sym (if-true (is_first b) (word_behind (run_of is_inner (b ∷ (s ++ others)))) _ h.0) ∙ e) in
    omega (arith, ap length same, run_longest is_inner (b ∷ s) others all)

number_longest : (digits others rest : Bytes) (p : Option PType) (t : Token) → list_all is_digit digits ≡ true → is_number digits ≡ true → goes_on others ≡ false
    → token_at (digits ++ (suffix_text p ++ others)) ≡ found t rest → length rest ≤ length others
number_longest [] others rest p t all number whole e = absurd cc
number_longest (b ∷ digits) others rest p t all number whole e =
    let same = rest_same _ t others rest (sym (number_found b digits (suffix_text p) others p all number (text_suffix p) (begins-goes_on others whole)) ∙ e) in
    omega (arith, ap length same)

checked_rest : (made : Bytes → Token) (o : Option (Bytes × Bytes)) (rest : Bytes) (t : Token) (n : ℕ) → ((x : Bytes × Bytes) → o ≡ Some x → length x.1 ≤ n)
    → (quoted_behind o >>= λ x. found (made x.0) x.1) ≡ found t rest → length rest ≤ n
checked_rest made None rest t n h e = absurd cc
checked_rest made (Some x) rest t n h e = go (is_utf8 x.0) e
  where
    go : (b : Bool) → ((if b then Some x else None) >>= λ y. found (made y.0) y.1) ≡ found t rest → length rest ≤ n
    go true e = omega (arith, ap length (rest_same _ t x.1 rest e), h x refl)
    go false e = absurd cc

marks_longest : (mark : ℕ) (s others : Bytes) (x : Bytes × Bytes) → quoted_run mark ((flat_map (doubled mark) s ++ mark ∷ []) ++ others) ≡ Some x → length x.1 ≤ length others
marks_longest mark s others x e = quoted_longest mark s others x (sym (ap (quoted_run mark) (append_assoc (flat_map (doubled mark) s) (mark ∷ []) others)) ∙ e)

name_longest : (s others rest : Bytes) (t : Token) → token_at (within_marks 34 s ++ others) ≡ found t rest → length rest ≤ length others
unfolding token_at
name_longest s others rest t e = checked_rest Quoted (quoted_run 34 ((flat_map (doubled 34) s ++ 34 ∷ []) ++ others)) rest t (length others) (marks_longest 34 s others) e

text_longest : (s others rest : Bytes) (t : Token) → token_at (within_marks 39 s ++ others) ≡ found t rest → length rest ≤ length others
unfolding token_at
text_longest s others rest t e = checked_rest Quote (quoted_run 39 ((flat_map (doubled 39) s ++ 39 ∷ []) ++ others)) rest t (length others) (marks_longest 39 s others) e

one_shorter : (o : Option Sign) (behind rest : Bytes) (t : Token) → (o >>= λ s. found (Mark s) behind) ≡ found t rest → length rest ≤ length behind
one_shorter None behind rest t e = absurd cc
one_shorter (Some s) behind rest t e = omega (arith, ap length (rest_same _ t behind rest e))

sign_shorter : (b : ℕ) (bytes rest : Bytes) (t : Token) → sign_at b bytes ≡ found t rest → length rest ≤ length bytes
sign_shorter b [] rest t e = one_shorter (one_sign b) [] rest t e
sign_shorter b (c ∷ bytes) rest t e = go (two_signs b c) e
  where
    go : (o : Option Sign) → longer_sign o b c bytes ≡ found t rest → length rest ≤ length (c ∷ bytes)
    go (Some s) e = omega (arith, ap length (rest_same _ t bytes rest e))
    go None e = one_shorter (one_sign b) (c ∷ bytes) rest t e

sign_longest : (s : Sign) (others rest : Bytes) (t : Token) → token_at (sign_text s ++ others) ≡ found t rest → length rest ≤ length others
unfolding token_at
sign_longest signs.RoundOpen others rest t e = sign_shorter 40 others rest t e
sign_longest signs.RoundClose others rest t e = sign_shorter 41 others rest t e
sign_longest signs.SquareOpen others rest t e = sign_shorter 91 others rest t e
sign_longest signs.SquareClose others rest t e = sign_shorter 93 others rest t e
sign_longest signs.CurlyOpen others rest t e = sign_shorter 123 others rest t e
sign_longest signs.CurlyClose others rest t e = sign_shorter 125 others rest t e
sign_longest signs.Comma others rest t e = sign_shorter 44 others rest t e
sign_longest signs.Colon others rest t e = sign_shorter 58 others rest t e
sign_longest signs.Dot others rest t e = sign_shorter 46 others rest t e
sign_longest signs.Dollar others rest t e = sign_shorter 36 others rest t e
sign_longest signs.Question others rest t e = sign_shorter 63 others rest t e
sign_longest signs.Tilde others rest t e = sign_shorter 126 others rest t e
sign_longest signs.Plus others rest t e = sign_shorter 43 others rest t e
sign_longest signs.Minus others rest t e = sign_shorter 45 others rest t e
sign_longest signs.Eq others rest t e = sign_shorter 61 others rest t e
sign_longest signs.Gt others rest t e = sign_shorter 62 others rest t e
sign_longest signs.Lt others rest t e = sign_shorter 60 others rest t e
sign_longest signs.NotEq others rest t e = omega (arith, ap length (rest_same _ t others rest e))
sign_longest signs.Gte others rest t e = omega (arith, ap length (rest_same _ t others rest e))
sign_longest signs.Lte others rest t e = omega (arith, ap length (rest_same _ t others rest e))

spelled_longest : (u : Token) (s others rest : Bytes) (t : Token) → SpellsToken u s others → token_at (s ++ others) ≡ found t rest → length rest ≤ length others
spelled_longest (Reserved k) s others rest t is e = word_longest s others rest t is.0 e
spelled_longest (Word f) s others rest t is e = word_longest s others rest t is.1 e
spelled_longest (Quoted f) s others rest t is e = name_longest f others rest t (sym (ap (λ (z : Bytes). token_at (z ++ others)) is.0) ∙ e)
spelled_longest (Quote f) s others rest t is e = text_longest f others rest t (sym (ap (λ (z : Bytes). token_at (z ++ others)) is.0) ∙ e)
spelled_longest (Number digits p) s others rest t k e =
    number_longest digits others rest p t k.digit k.number k.whole
    (sym (ap (λ (z : Bytes). token_at (z ++ others)) k.is ∙ ap token_at (append_assoc digits (suffix_text p) others)) ∙ e)
spelled_longest (Mark sign) s others rest t is e = sign_longest sign others rest t (sym (ap (λ (z : Bytes). token_at (z ++ others)) is) ∙ e)

pub no_longer_stands : NoLongerStands
no_longer_stands bytes rest others t u e k = spelled_longest u k.spelling others rest t k.spells (sym (ap token_at k.front) ∙ e)
