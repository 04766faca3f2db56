-- Patterns of LIKE: reading them, and going back to the last run alone.
use Rattle.std.proofs.Common.{◌≡◌, refl, ap, ◌∙◌, sym, subst, ℕ, ◌+◌, ◌-◌, ◌<◌, ◌≤◌, ◌==◌, nat_le, Bool, true, false, cond, ◌&&◌, ◌||◌, List, [], ◌∷◌, ◌++◌, map, length, drop, take, get_or, arith}
use Rattle.std.proofs.lemmas.List.{append-nil, take_all}
use Rattle.std.proofs.lemmas.Bool.Decides.{Decides-eqb}
use Rattle.std.proofs.lemmas.Str.{chars_past_char, encodes-chars}
use Rattle.std.specs.Str.{chars, IsUtf8}
use Rattle.std.specs.Char.{encode_utf8}
use lib.Utf8.{encodes}
use Rattle.vx_dtype.specs.Types.{Bytes}
use Rattle.vx_dtype.specs.Like.{Wildcard, any_run, any_one, just, plain_wildcard, wildcards, matches, some_suffix, is_empty, folded, folded_wildcard, text_matches}
use Rattle.vx_kernels.specs.Patterns.{part_view, letter, letters, folded_if, is_run, takes, IsRunBehind, IsPattern}
use Rattle.vx_kernels.specs.declared.patterns.Part.{Part}
use Rattle.vx_kernels.specs.declared.patterns.Pattern.{Pattern}

-- none of the three characters that mean something in a pattern is a letter
folded_step : (c m : ℕ) (d e : Bool) → nat_le 65 c ≡ d → nat_le c 90 ≡ e → ((nat_le 65 c ≡ true) → (nat_le c 90 ≡ true) → (((c + 32) == m) ≡ false) × ((c == m) ≡ false)) → (cond (d && e) (c + 32) c == m) ≡ (c == m)
folded_step c m true true r s h = let k = h r s in k.0 ∙ sym k.1
folded_step c m true false r s h = refl
folded_step c m false e r s h = refl

pub folded_percent : (c : ℕ) → (folded c == 37) ≡ (c == 37)
folded_percent c = folded_step c 37 (nat_le 65 c) (nat_le c 90) refl refl (λ r s. (grind (arith, r, s), grind (arith, r, s)))

pub folded_underscore : (c : ℕ) → (folded c == 95) ≡ (c == 95)
folded_underscore c = folded_step c 95 (nat_le 65 c) (nat_le c 90) refl refl (λ r s. (grind (arith, r, s), grind (arith, r, s)))

pub folded_backslash : (c : ℕ) → (folded c == 92) ≡ (c == 92)
folded_backslash c = folded_step c 92 (nat_le 65 c) (nat_le c 90) refl refl (λ r s. (grind (arith, r, s), grind (arith, r, s)))

-- so the parts of a folded pattern are the folded parts
plain_step : (c : ℕ) (a b : Bool) → cond a any_run (cond b any_one (just (folded c))) ≡ folded_wildcard (cond a any_run (cond b any_one (just c)))
plain_step c true b = refl
plain_step c false true = refl
plain_step c false false = refl

pub plain_folded : (c : ℕ) → plain_wildcard (folded c) ≡ folded_wildcard (plain_wildcard c)
plain_folded c = (λ i. cond (folded_percent c i) any_run (cond (folded_underscore c i) any_one (just (folded c)))) ∙ plain_step c (c == 37) (c == 95)

parts_step : (b : Bool) (v w : Wildcard) (vs ws us : List Wildcard) (xs ys : List Wildcard) → vs ≡ map folded_wildcard xs → ws ≡ map folded_wildcard ys → cond b (folded_wildcard v ∷ vs) (folded_wildcard w ∷ ws) ≡ map folded_wildcard (cond b (v ∷ xs) (w ∷ ys))
parts_step true v w vs ws us xs ys p q = ap (λ zs. folded_wildcard v ∷ zs) p
parts_step false v w vs ws us xs ys p q = ap (λ zs. folded_wildcard w ∷ zs) q

pub wildcards_folded : (cs : List ℕ) → wildcards (map folded cs) ≡ map folded_wildcard (wildcards cs)
wildcards_folded [] = refl
wildcards_folded (c ∷ []) = ap (λ w. w ∷ []) (plain_folded c)
wildcards_folded (c ∷ d ∷ cs) =
    let short = wildcards_folded cs in
    let long = wildcards_folded (d ∷ cs) in
    (λ i. cond (folded_backslash c i) (just (folded d) ∷ wildcards (map folded cs)) (plain_folded c i ∷ wildcards (map folded (d ∷ cs)))) ∙ parts_step (c == 92) (just d) (plain_wildcard c) _ _ [] _ _ short long

pub folded_matches : (b : Bool) (s p : Bytes) → matches (wildcards (folded_if b (chars p))) (folded_if b (chars s)) ≡ text_matches b s p
folded_matches false s p = refl
folded_matches true s p = ap (λ ws. matches ws (map folded (chars s))) (wildcards_folded (chars p))

-- the first character of a text, and what stands behind it
pub letters_front : (fold : Bool) (text rest : Bytes) (c : ℕ) → IsUtf8 text → text ≡ encode_utf8 c ++ rest → letters fold text ≡ letter fold c ∷ letters fold rest
letters_front true text rest c u e = ap (map folded) (chars_past_char text rest c u e)
letters_front false text rest c u e = chars_past_char text rest c u e

-- the parts that begin with a character that isn't `\`, and with one behind it
pub plain_first : (c : ℕ) (cs : List ℕ) → (c == 92) ≡ false → wildcards (c ∷ cs) ≡ plain_wildcard c ∷ wildcards cs
plain_first c [] e = refl
plain_first c (d ∷ cs) e = ap (λ b. cond b (just d ∷ wildcards cs) (plain_wildcard c ∷ wildcards (d ∷ cs))) e

pub escaped_first : (c d : ℕ) (cs ds : List ℕ) → (c == 92) ≡ true → cs ≡ d ∷ ds → wildcards (c ∷ cs) ≡ just d ∷ wildcards ds
escaped_first c d cs ds e h = ap (λ xs. wildcards (c ∷ xs)) h ∙ ap (λ b. cond b (just d ∷ wildcards ds) (plain_wildcard c ∷ wildcards (d ∷ ds))) e

pub last_first : (c : ℕ) (cs : List ℕ) → cs ≡ [] → wildcards (c ∷ cs) ≡ plain_wildcard c ∷ wildcards cs
last_first c cs e = ap (λ xs. wildcards (c ∷ xs)) e ∙ ap (λ xs. plain_wildcard c ∷ wildcards xs) (sym e)

-- a part that isn't a run, and the characters that it may take
pub taken : (w : Wildcard) (ws : List Wildcard) (c : ℕ) (cs : List ℕ) → takes w c ≡ true → matches (w ∷ ws) (c ∷ cs) ≡ matches ws cs
unfolding matches
taken any_run ws c cs e = absurd cc
taken any_one ws c cs e = refl
taken (just d) ws c cs e = ap (λ b. b && matches ws cs) e

pub not_taken : (w : Wildcard) (ws : List Wildcard) (c : ℕ) (cs : List ℕ) → is_run w ≡ false → takes w c ≡ false → matches (w ∷ ws) (c ∷ cs) ≡ false
unfolding matches
not_taken any_run ws c cs e h = absurd cc
not_taken any_one ws c cs e h = absurd cc
not_taken (just d) ws c cs e h = ap (λ b. b && matches ws cs) h

pub none_left : (w : Wildcard) (ws : List Wildcard) → is_run w ≡ false → matches (w ∷ ws) [] ≡ false
unfolding matches
none_left any_run ws e = absurd cc
none_left any_one ws e = refl
none_left (just d) ws e = refl

second_of : (a b : Bool) → (a && b) ≡ true → b ≡ true
second_of true b e = e
second_of false b e = absurd cc

rest_matches : (w : Wildcard) (ws : List Wildcard) (c : ℕ) (cs : List ℕ) → is_run w ≡ false → matches (w ∷ ws) (c ∷ cs) ≡ true → matches ws cs ≡ true
unfolding matches
rest_matches any_run ws c cs e h = absurd cc
rest_matches any_one ws c cs e h = h
rest_matches (just d) ws c cs e h = second_of (c == d) (matches ws cs) h

-- the suffixes of which a test holds
either_first : (a b : Bool) → a ≡ true → (a || b) ≡ true
either_first true b e = refl
either_first false b e = absurd cc

either_second : (a b : Bool) → b ≡ true → (a || b) ≡ true
either_second true b e = refl
either_second false b e = e

either_again : (a b : Bool) → ((a || b) || b) ≡ (a || b)
either_again true b = refl
either_again false true = refl
either_again false false = refl

pub some_suffix_first : (test : List ℕ → Bool) (cs : List ℕ) → test cs ≡ true → some_suffix test cs ≡ true
some_suffix_first test [] e = e
some_suffix_first test (c ∷ cs) e = either_first (test (c ∷ cs)) (some_suffix test cs) e

neither : (a b : Bool) → (a || b) ≡ false → a ≡ false
neither true b h = absurd cc
neither false b h = refl

pub some_suffix_none : (test : List ℕ → Bool) (cs : List ℕ) → some_suffix test cs ≡ false → test cs ≡ false
some_suffix_none test [] e = e
some_suffix_none test (c ∷ cs) e = neither (test (c ∷ cs)) (some_suffix test cs) e

-- a suffix of a suffix is a suffix
some_suffix_again : (test : List ℕ → Bool) (cs : List ℕ) → some_suffix (some_suffix test) cs ≡ some_suffix test cs
some_suffix_again test [] = refl
some_suffix_again test (c ∷ cs) = ap (λ b. (test (c ∷ cs) || some_suffix test cs) || b) (some_suffix_again test cs) ∙ either_again (test (c ∷ cs)) (some_suffix test cs)

-- the empty suffix is always there
some_suffix_empty : (cs : List ℕ) → some_suffix (matches []) cs ≡ true
unfolding matches
some_suffix_empty [] = refl
some_suffix_empty (c ∷ cs) = some_suffix_empty cs

false_is_true : false ≡ true → ⊥
false_is_true e = absurd cc

cases_either : (a b : Bool) (P : Type 0) → (a || b) ≡ true → (a ≡ true → P) → (b ≡ true → P) → P
cases_either true b P e f g = f refl
cases_either false b P e f g = g e

-- where a suffix matches parts of which the first takes one character, a suffix of what stands behind the first character matches the others
some_suffix_behind : (w : Wildcard) (ws : List Wildcard) (c : ℕ) (cs : List ℕ) → is_run w ≡ false → some_suffix (matches (w ∷ ws)) (c ∷ cs) ≡ true → some_suffix (matches ws) cs ≡ true
some_suffix_behind w ws c [] e h =
    let none : matches (w ∷ ws) [] ≡ false = none_left w ws e in
    cases_either (matches (w ∷ ws) (c ∷ [])) (matches (w ∷ ws) []) (some_suffix (matches ws) [] ≡ true) h (λ p. rest_matches w ws c [] e p) (λ q. absurd (false_is_true (sym none ∙ q)))
some_suffix_behind w ws c (d ∷ cs) e h =
    cases_either (matches (w ∷ ws) (c ∷ d ∷ cs)) (some_suffix (matches (w ∷ ws)) (d ∷ cs)) (some_suffix (matches ws) (d ∷ cs) ≡ true) h
    (λ p. some_suffix_first (matches ws) (d ∷ cs) (rest_matches w ws c (d ∷ cs) e p))
    (λ q. either_second (matches ws (d ∷ cs)) (some_suffix (matches ws) cs) (some_suffix_behind w ws d cs e q))

-- two truths are equal where each follows from the other
pub same_truth : (a b : Bool) → (a ≡ true → b ≡ true) → (b ≡ true → a ≡ true) → a ≡ b
same_truth true b f g = sym (f refl)
same_truth false true f g = g refl
same_truth false false f g = refl

never : (a b : Bool) → (a ≡ true → b ≡ true) → b ≡ false → a ≡ false
never true b f e = sym (f refl) ∙ e
never false b f e = refl

-- the parts so far take the characters so far: whether the parts match is whether those left match the characters left, and where they match
-- a later suffix, those left match a suffix of the characters left
pub record IsUnderway (ws vs : List Wildcard) (cs ds : List ℕ) : Type 0 where
  pub same : matches ws cs ≡ matches vs ds
  pub later : some_suffix (matches ws) cs ≡ true → some_suffix (matches vs) ds ≡ true
  pub fewer : length vs ≤ length ws
  pub behind : length ds ≤ length cs

pub underway_first : (ws : List Wildcard) (cs : List ℕ) → IsUnderway ws ws cs cs
underway_first ws cs = record {
  same = refl;
  later = λ h. h;
  fewer = omega arith;
  behind = omega arith;
}

-- one part more, which takes a character
pub underway_more : (ws : List Wildcard) (w : Wildcard) (vs : List Wildcard) (cs : List ℕ) (c : ℕ) (ds : List ℕ) → is_run w ≡ false → takes w c ≡ true → IsUnderway ws (w ∷ vs) cs (c ∷ ds) → IsUnderway ws vs cs ds
underway_more ws w vs cs c ds e t before = record {
  same = before.same ∙ taken w vs c ds t;
  later = λ h. some_suffix_behind w vs c ds e (before.later h);
  fewer = omega (arith, before.fewer);
  behind = omega (arith, before.behind);
}

-- a last run takes all that is left
run_step : (w : Wildcard) (vs : List Wildcard) (cs : List ℕ) → is_run w ≡ true → matches (w ∷ vs) cs ≡ some_suffix (matches vs) cs
unfolding matches
run_step any_run vs cs e = refl
run_step any_one vs cs e = absurd cc
run_step (just d) vs cs e = absurd cc

pub underway_last_run : (ws : List Wildcard) (w : Wildcard) (vs : List Wildcard) (cs ds : List ℕ) → is_run w ≡ true → vs ≡ [] → IsUnderway ws (w ∷ vs) cs ds → matches ws cs ≡ true
underway_last_run ws w vs cs ds e h before =
    before.same ∙ run_step w vs ds e ∙ ap (λ us. some_suffix (matches us) ds) h ∙ some_suffix_empty ds

-- another run takes what a later start would leave out, so the starts before it need no second try
run_again : (w : Wildcard) (vs : List Wildcard) (cs : List ℕ) → is_run w ≡ true → some_suffix (matches (w ∷ vs)) cs ≡ some_suffix (matches vs) cs
unfolding matches
run_again any_run vs cs e = some_suffix_again (matches vs) cs
run_again any_one vs cs e = absurd cc
run_again (just d) vs cs e = absurd cc

pub underway_run : (ws : List Wildcard) (w : Wildcard) (vs : List Wildcard) (cs ds : List ℕ) → is_run w ≡ true → IsUnderway ws (w ∷ vs) cs ds → IsRunBehind ws vs cs ds
underway_run ws w vs cs ds e before =
    let first : matches ws cs ≡ some_suffix (matches vs) ds = before.same ∙ run_step w vs ds e in
    record {
      first = first;
      later = same_truth (some_suffix (matches ws) cs) (some_suffix (matches vs) ds) (λ h. sym (run_again w vs ds e) ∙ before.later h) (λ h. some_suffix_first (matches ws) cs (first ∙ h));
      fewer = omega (arith, before.fewer);
      behind = before.behind;
    }

-- where no character is left for a part, no later start leaves one
pub underway_text_ends : (ws : List Wildcard) (w : Wildcard) (vs : List Wildcard) (cs ds : List ℕ) → is_run w ≡ false → ds ≡ [] → IsUnderway ws (w ∷ vs) cs ds → some_suffix (matches ws) cs ≡ false
underway_text_ends ws w vs cs ds e h before =
    never (some_suffix (matches ws) cs) (some_suffix (matches (w ∷ vs)) ds) before.later (ap (λ xs. some_suffix (matches (w ∷ vs)) xs) h ∙ none_left w vs e)

pub underway_differs : (ws : List Wildcard) (w : Wildcard) (vs : List Wildcard) (cs : List ℕ) (c : ℕ) (ds : List ℕ) → is_run w ≡ false → takes w c ≡ false → IsUnderway ws (w ∷ vs) cs (c ∷ ds) → matches ws cs ≡ false
underway_differs ws w vs cs c ds e t before = before.same ∙ not_taken w vs c ds e t

-- where no part is left, the parts match where no character is
pub underway_done : (ws vs : List Wildcard) (cs ds : List ℕ) → vs ≡ [] → IsUnderway ws vs cs ds → matches ws cs ≡ is_empty ds
unfolding matches
underway_done ws vs cs ds e before = before.same ∙ ap (λ us. matches us ds) e

-- where the parts don't match, a suffix that they match begins behind the first character
pub some_suffix_later : (ws : List Wildcard) (cs : List ℕ) (c : ℕ) (ds : List ℕ) → cs ≡ c ∷ ds → matches ws cs ≡ false → some_suffix (matches ws) cs ≡ some_suffix (matches ws) ds
some_suffix_later ws cs c ds e h =
    let here : matches ws (c ∷ ds) ≡ false = ap (matches ws) (sym e) ∙ h in
    ap (some_suffix (matches ws)) e ∙ ap (λ b. b || some_suffix (matches ws) ds) here

pub some_suffix_ends : (ws : List Wildcard) (cs : List ℕ) → cs ≡ [] → matches ws cs ≡ false → some_suffix (matches ws) cs ≡ false
some_suffix_ends ws cs e h = ap (some_suffix (matches ws)) e ∙ ap (matches ws) (sym e) ∙ h

-- a text has a character exactly where it has a byte
some_char : (cs text : List ℕ) → encodes cs ≡ text → false ≡ (length text == 0) → is_empty cs ≡ false
some_char [] text e h = absurd (false_is_true (h ∙ ap (λ t. length t == 0) (sym e)))
some_char (c ∷ cs) text e h = refl

is_empty-map : (cs : List ℕ) → is_empty (map folded cs) ≡ is_empty cs
is_empty-map [] = refl
is_empty-map (c ∷ cs) = refl

pub letters_some : (fold : Bool) (text : Bytes) → IsUtf8 text → false ≡ (length text == 0) → is_empty (letters fold text) ≡ false
letters_some true text u h = is_empty-map (chars text) ∙ some_char (chars text) text (encodes-chars text u) h
letters_some false text u h = some_char (chars text) text (encodes-chars text u) h

pub zero_length : (text : Bytes) → true ≡ (length text == 0) → length text ≡ 0
zero_length text e = (Decides-eqb (length text) 0).0 (sym e)

pub letters_none : (fold : Bool) (text : Bytes) → length text ≡ 0 → letters fold text ≡ []
unfolding chars
letters_none true [] e = refl
letters_none false [] e = refl
letters_none fold (b ∷ bs) e = absurd (omega (arith, e))

-- the parts behind the first
abbrev pub parts_behind : List Part → List Part
parts_behind ps = take (length ps - 1) (drop 1 ps)

first_part : (ps : List Part) (d : Part) → 1 ≤ length ps → map part_view ps ≡ part_view (get_or ps 0 d) ∷ map part_view (parts_behind ps)
first_part [] d h = absurd (omega arith)
first_part (p ∷ ps) d h = ap (λ qs. part_view p ∷ map part_view qs) (sym (take_all (length (p ∷ ps) - 1) ps (omega arith)))

none_of : (ps : List Part) → true ≡ (length ps == 0) → ps ≡ []
none_of [] e = refl
none_of (p ∷ ps) e = absurd (omega (arith, (Decides-eqb (length (p ∷ ps)) 0).0 (sym e)))

-- the parts of the code, the first of which is looked at
pub reach_last_run : (ws : List Wildcard) (ps : List Part) (d : Part) (cs ds : List ℕ) → 1 ≤ length ps → true ≡ is_run (part_view (get_or ps 0 d)) → true ≡ (length (parts_behind ps) == 0) → IsUnderway ws (map part_view ps) cs ds → matches ws cs ≡ true
reach_last_run ws ps d cs ds h r e before =
    underway_last_run ws (part_view (get_or ps 0 d)) (map part_view (parts_behind ps)) cs ds (sym r) (ap (map part_view) (none_of (parts_behind ps) e)) (subst (λ vs. IsUnderway ws vs cs ds) (first_part ps d h) before)

pub reach_run : (ws : List Wildcard) (ps : List Part) (d : Part) (cs ds : List ℕ) → 1 ≤ length ps → true ≡ is_run (part_view (get_or ps 0 d)) → IsUnderway ws (map part_view ps) cs ds → IsRunBehind ws (map part_view (parts_behind ps)) cs ds
reach_run ws ps d cs ds h r before =
    underway_run ws (part_view (get_or ps 0 d)) (map part_view (parts_behind ps)) cs ds (sym r) (subst (λ vs. IsUnderway ws vs cs ds) (first_part ps d h) before)

pub reach_text_ends : (ws : List Wildcard) (ps : List Part) (d : Part) (cs ds : List ℕ) → 1 ≤ length ps → false ≡ is_run (part_view (get_or ps 0 d)) → ds ≡ [] → IsUnderway ws (map part_view ps) cs ds → some_suffix (matches ws) cs ≡ false
reach_text_ends ws ps d cs ds h r e before =
    underway_text_ends ws (part_view (get_or ps 0 d)) (map part_view (parts_behind ps)) cs ds (sym r) e (subst (λ vs. IsUnderway ws vs cs ds) (first_part ps d h) before)

underway_at : (ws : List Wildcard) (ps : List Part) (d : Part) (cs ds es : List ℕ) (c : ℕ) → 1 ≤ length ps → ds ≡ c ∷ es → IsUnderway ws (map part_view ps) cs ds → IsUnderway ws (part_view (get_or ps 0 d) ∷ map part_view (parts_behind ps)) cs (c ∷ es)
underway_at ws ps d cs ds es c h e before = subst (λ xs. IsUnderway ws (part_view (get_or ps 0 d) ∷ map part_view (parts_behind ps)) cs xs) e (subst (λ vs. IsUnderway ws vs cs ds) (first_part ps d h) before)

pub reach_differs : (ws : List Wildcard) (ps : List Part) (d : Part) (cs ds es : List ℕ) (c : ℕ) → 1 ≤ length ps → false ≡ is_run (part_view (get_or ps 0 d)) → ds ≡ c ∷ es → false ≡ takes (part_view (get_or ps 0 d)) c → IsUnderway ws (map part_view ps) cs ds → matches ws cs ≡ false
reach_differs ws ps d cs ds es c h r e t before =
    underway_differs ws (part_view (get_or ps 0 d)) (map part_view (parts_behind ps)) cs c es (sym r) (sym t) (underway_at ws ps d cs ds es c h e before)

pub reach_more : (ws : List Wildcard) (ps : List Part) (d : Part) (cs ds es : List ℕ) (c : ℕ) → 1 ≤ length ps → false ≡ is_run (part_view (get_or ps 0 d)) → ds ≡ c ∷ es → true ≡ takes (part_view (get_or ps 0 d)) c → IsUnderway ws (map part_view ps) cs ds → IsUnderway ws (map part_view (parts_behind ps)) cs es
reach_more ws ps d cs ds es c h r e t before =
    underway_more ws (part_view (get_or ps 0 d)) (map part_view (parts_behind ps)) cs c es (sym r) (sym t) (underway_at ws ps d cs ds es c h e before)

no_parts : (ps : List Part) → length ps < 1 → map part_view ps ≡ []
no_parts [] h = refl
no_parts (p ∷ ps) h = absurd (omega arith)

pub reach_done : (ws : List Wildcard) (ps : List Part) (cs ds : List ℕ) → length ps < 1 → IsUnderway ws (map part_view ps) cs ds → matches ws cs ≡ is_empty ds
reach_done ws ps cs ds h before = underway_done ws (map part_view ps) cs ds (no_parts ps h) before

-- one part more of those that a text spells
pub parts_before : (ps : List Part) (p : Part) (vs : List Wildcard) → map part_view ps ++ part_view p ∷ vs ≡ map part_view (ps ++ p ∷ []) ++ vs
parts_before [] p vs = refl
parts_before (q ∷ ps) p vs = ap (λ ws. part_view q ∷ ws) (parts_before ps p vs)

pub parts_more : (ps qs : List Part) (p : Part) (all ws vs : List Wildcard) → all ≡ map part_view ps ++ ws → ws ≡ part_view p ∷ vs → qs ≡ ps ++ p ∷ [] → all ≡ map part_view qs ++ vs
parts_more ps qs p all ws vs e h q = e ∙ ap (λ us. map part_view ps ++ us) h ∙ parts_before ps p vs ∙ ap (λ rs. map part_view rs ++ vs) (sym q)

pub parts_all : (ps : List Part) (all : List Wildcard) (cs : List ℕ) → cs ≡ [] → all ≡ map part_view ps ++ wildcards cs → map part_view ps ≡ all
parts_all ps all cs e h = sym (h ∙ ap (λ xs. map part_view ps ++ wildcards xs) e ∙ append-nil (map part_view ps))

-- the pattern that a text spells matches what the text does
pub pattern_means : (pattern : Pattern) (ps : List Part) (fold : Bool) (text spelled : Bytes) (cs : List ℕ) → ps ≡ pattern.parts.items → cs ≡ letters pattern.fold_case text → IsPattern fold spelled pattern → matches (map part_view ps) cs ≡ text_matches fold text spelled
pattern_means pattern ps fold text spelled cs e f h =
    let parts : map part_view ps ≡ wildcards (letters fold spelled) = ap (map part_view) e ∙ h.parts in
    let same : cs ≡ letters fold text = f ∙ ap (λ b. letters b text) h.fold_case in
    (λ i. matches (parts i) (same i)) ∙ folded_matches fold text spelled
