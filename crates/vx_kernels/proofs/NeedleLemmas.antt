-- Patterns of LIKE: what stands behind a run is searched for as a whole.
use Rattle.std.proofs.Common.{◌≡◌, refl, ap, ◌∙◌, sym, subst, ℕ, ◌+◌, ◌-◌, ◌<◌, ◌≤◌, ◌==◌, Bool, true, false, ◌&&◌, ◌||◌, List, [], ◌∷◌, ◌++◌, map, length, drop, take, get_or, None, MatchBool, arith}
use Rattle.std.proofs.lemmas.List.{append-nil, take-append-drop, length-append, length-take, take_all}
use Rattle.std.proofs.lemmas.Bool.{and_parts}
use Rattle.std.proofs.lemmas.Bool.Decides.{Decides-eqb}
use Rattle.std.proofs.Math.Seq.{drop-append-add, drop-append_seam, take-append_seam}
use Rattle.std.proofs.lemmas.Str.{chars-append, chars-nil, chars_past_char, IsCharBoundary-from_take, encodes-append, encodes-chars, length-le-encodes, IsUtf8-take, IsUtf8-drop, IsUtf8-string_bytes, IsCharBoundary-at_seam}
use Rattle.std.proofs.lemmas.Str.Pattern.{ends_text}
use Rattle.std.proofs.lemmas.Slice.Eq.{ends_is}
use Rattle.std.specs.Str.{chars, IsUtf8, IsCharBoundary}
use Rattle.std.specs.Str.Pattern.{FindsText, LacksTextAt, MatchBeginsAt, FindsTextSuffix, HasSuffixMatch}
use Rattle.std.specs.String.{string_bytes}
use Rattle.std.specs.Char.{encode_utf8}
use lib.Utf8.{encodes}
use Rattle.vx_dtype.specs.Types.{Bytes}
use Rattle.vx_dtype.specs.Like.{Wildcard, just, matches, some_suffix}
use Rattle.vx_kernels.specs.Patterns.{part_view, IsNeedle, IsNeedleOf, NeedlesFit, IsRunBehind, IsRunFound}
use Rattle.vx_kernels.specs.declared.patterns.Needle.{Needle}
use Rattle.vx_kernels.specs.declared.patterns.Part.{Part}
use Rattle.vx_kernels.proofs.PatternLemmas.{parts_behind, parts_before, same_truth, some_suffix_first}

-- what matches parts that begin with characters begins with them
begins_with : (ls : List ℕ) (vs : List Wildcard) (cs : List ℕ) → matches (map just ls ++ vs) cs ≡ true → (rest : List ℕ) × (cs ≡ ls ++ rest) × (matches vs rest ≡ true)
unfolding matches
begins_with [] vs cs h = (cs, refl, h)
begins_with (l ∷ ls) vs [] h = absurd cc
begins_with (l ∷ ls) vs (c ∷ cs) h =
    let both = and_parts (c == l) (matches (map just ls ++ vs) cs) h in
    let found = begins_with ls vs cs both.1 in
    let same : c ≡ l = (Decides-eqb c l).0 both.0 in
    (found.0, (λ i. same i ∷ found.1 i), found.2)

same_char : (c : ℕ) → (c == c) ≡ true
same_char c = (Decides-eqb c c).1 refl

-- and characters match themselves
just_match : (ls : List ℕ) → matches (map just ls) ls ≡ true
unfolding matches
just_match [] = refl
just_match (l ∷ ls) = ap (λ b. b && matches (map just ls) ls) (same_char l) ∙ just_match ls

not_true : (b : Bool) → ¬ (b ≡ true) → b ≡ false
not_true true f = absurd (f refl)
not_true false f = refl

-- a suffix that passes a test, and what stands before it
suffix_at : (test : List ℕ → Bool) (cs : List ℕ) → some_suffix test cs ≡ true → (ds : List ℕ) × (es : List ℕ) × (cs ≡ ds ++ es) × (test es ≡ true)
suffix_at test [] h = ([], [], refl, h)
suffix_at test (c ∷ cs) h = go (test (c ∷ cs)) refl h (suffix_at test cs) where
  go : (b : Bool) → test (c ∷ cs) ≡ b → (b || some_suffix test cs) ≡ true → (some_suffix test cs ≡ true → (ds : List ℕ) × (es : List ℕ) × (cs ≡ ds ++ es) × (test es ≡ true)) → (ds : List ℕ) × (es : List ℕ) × (c ∷ cs ≡ ds ++ es) × (test es ≡ true)
  go true e k later = ([], c ∷ cs, refl, e)
  go false e k later =
      let found = later k in
      (c ∷ found.0, found.1, ap (λ xs. c ∷ xs) found.2, found.3)

suffix_behind : (test : List ℕ → Bool) (ds es : List ℕ) → test es ≡ true → some_suffix test (ds ++ es) ≡ true
suffix_behind test [] es h = some_suffix_first test es h
suffix_behind test (d ∷ ds) es h = go (test (d ∷ (ds ++ es))) (suffix_behind test ds es h) where
  go : (b : Bool) → some_suffix test (ds ++ es) ≡ true → (b || some_suffix test (ds ++ es)) ≡ true
  go true k = refl
  go false k = k

-- parts that what begins with a needle alone can match
abbrev NeedsText : List Wildcard → Bytes → Type 0
NeedsText ws needle = (cs : List ℕ) → matches ws cs ≡ true → (rest : List ℕ) × (encodes cs ≡ needle ++ rest)

needs_needle : (needle : Needle) (ws : List Wildcard) → IsNeedle needle ws → NeedsText ws (string_bytes needle.text)
needs_needle needle ws h cs m =
    let bytes = string_bytes needle.text in
    let found = begins_with (chars bytes) h.others cs (subst (λ us. matches us cs ≡ true) h.begins m) in
    (encodes found.0, ap encodes found.1 ∙ encodes-append (chars bytes) found.0 ∙ ap (λ xs. xs ++ encodes found.0) (encodes-chars bytes (IsUtf8-string_bytes needle.text)))

-- where the needle stands nowhere in the first characters, none of them need be tried
passed_over : (ws : List Wildcard) (needle : Bytes) (ds es : List ℕ) → NeedsText ws needle → ((i : ℕ) → i < length (encodes ds) → LacksTextAt needle (encodes (ds ++ es)) i) → some_suffix (matches ws) (ds ++ es) ≡ some_suffix (matches ws) es
passed_over ws needle [] es needs lacks = refl
passed_over ws needle (d ∷ ds) es needs lacks =
    let first : 0 < length (encodes (d ∷ ds)) = omega (arith, length-le-encodes (d ∷ ds)) in
    let here : matches ws (d ∷ (ds ++ es)) ≡ false = not_true (matches ws (d ∷ (ds ++ es))) (λ m. let found = needs (d ∷ (ds ++ es)) m in lacks 0 first found.0 found.1) in
    let later : (i : ℕ) → i < length (encodes ds) → LacksTextAt needle (encodes (ds ++ es)) i = λ i less rest e.
    lacks (length (encode_utf8 d) + i) (omega (arith, less, length-append (encode_utf8 d) (encodes ds))) rest (drop-append-add (encode_utf8 d) (encodes (ds ++ es)) i ∙ e) in
    ap (λ b. b || some_suffix (matches ws) (ds ++ es)) here ∙ passed_over ws needle ds es needs later

-- what stands before a place where a text may be cut, and behind it
cut_chars : (text : Bytes) (at : ℕ) → IsUtf8 text → IsCharBoundary text at → chars text ≡ chars (take at text) ++ chars (drop at text)
cut_chars text at u cut = ap chars (sym (take-append-drop at text)) ∙ chars-append (take at text) (drop at text) (IsUtf8-take text at u cut)

-- what a search for the needle answers
found_chars : (needle : Needle) (ws : List Wildcard) (text : Bytes) (at : ℕ) → IsNeedle needle ws → IsUtf8 text → IsCharBoundary text at
    → ((i : ℕ) → i < at → LacksTextAt (string_bytes needle.text) text i) → some_suffix (matches ws) (chars text) ≡ some_suffix (matches ws) (chars (drop at text))
found_chars needle ws text at h u cut lacks =
    let before = IsUtf8-take text at u cut in
    let whole = cut_chars text at u cut in
    let bytes : encodes (chars (take at text) ++ chars (drop at text)) ≡ text = ap encodes (sym whole) ∙ encodes-chars text u in
    let within : at ≤ length text = cut.0 in
    let long : length (encodes (chars (take at text))) ≤ at = omega (arith, ap length (encodes-chars (take at text) before), length-take at text) in
    ap (some_suffix (matches ws)) whole ∙ passed_over ws (string_bytes needle.text) (chars (take at text)) (chars (drop at text)) (needs_needle needle ws h)
    (λ i less rest e. lacks i (omega (arith, less, long)) rest (ap (drop i) (sym bytes) ∙ e))

pub from_found : (needle : Needle) (ws : List Wildcard) (text from n : Bytes) (at : ℕ) → n ≡ string_bytes needle.text → from ≡ drop at text → IsUtf8 text
    → MatchBeginsAt (FindsText n) text at → IsNeedle needle ws → some_suffix (matches ws) (chars text) ≡ some_suffix (matches ws) (chars from)
from_found needle ws text from n at same is u found h =
    let lacks = λ (i : ℕ) (less : i < at). subst (λ m. LacksTextAt m text i) same (found.1.0 i less) in
    found_chars needle ws text at h u found.3 lacks ∙ ap (λ t. some_suffix (matches ws) (chars t)) (sym is)

pub from_forward : (text from n : Bytes) (at : ℕ) → from ≡ drop at text → IsUtf8 text → MatchBeginsAt (FindsText n) text at → length (chars from) ≤ length (chars text)
from_forward text from n at is u found = omega (arith, ap (λ t. length (chars t)) is, ap length (cut_chars text at u found.3), length-append (chars (take at text)) (chars (drop at text)))

pub nowhere_found : (needle : Needle) (ws : List Wildcard) (text n : Bytes) → n ≡ string_bytes needle.text → IsUtf8 text
    → FindsText n text None → IsNeedle needle ws → some_suffix (matches ws) (chars text) ≡ false
nowhere_found needle ws text n same u none h =
    not_true (some_suffix (matches ws) (chars text)) (λ m.
    let found = suffix_at (matches ws) (chars text) m in
    let stands = needs_needle needle ws h found.1 found.3 in
    let whole : text ≡ encodes found.0 ++ encodes found.1 = sym (encodes-chars text u) ∙ ap encodes found.2 ∙ encodes-append found.0 found.1 in
    let place : drop (length (encodes found.0)) text ≡ string_bytes needle.text ++ stands.0 = ap (drop (length (encodes found.0))) whole ∙ drop-append_seam (encodes found.0) (encodes found.1) ∙ stands.1 in
    let within : length (encodes found.0) ≤ length text = omega (arith, ap length whole, length-append (encodes found.0) (encodes found.1)) in
    subst (λ k. LacksTextAt k text (length (encodes found.0))) same (none (length (encodes found.0)) within) stands.0 place)

-- a text ends with the last characters of a pattern exactly where a suffix of it matches them
is_nothing : (cs : List ℕ) → matches [] cs ≡ true → cs ≡ []
unfolding matches
is_nothing [] h = refl
is_nothing (c ∷ cs) h = absurd cc

last_matches : (needle : Needle) (ws : List Wildcard) (text : Bytes) → IsNeedle needle ws → needle.last ≡ true → IsUtf8 text → some_suffix (matches ws) (chars text) ≡ true → (front : Bytes) × (text ≡ front ++ string_bytes needle.text)
last_matches needle ws text h last u m =
    let bytes = string_bytes needle.text in
    let found = suffix_at (matches ws) (chars text) m in
    let begun = begins_with (chars bytes) h.others found.1 (subst (λ us. matches us found.1 ≡ true) h.begins found.3) in
    let none : begun.0 ≡ [] = is_nothing begun.0 (subst (λ us. matches us begun.0 ≡ true) (h.last last) begun.2) in
    let only : found.1 ≡ chars bytes = begun.1 ∙ ap (λ xs. chars bytes ++ xs) none ∙ append-nil (chars bytes) in
    (encodes found.0, sym (encodes-chars text u) ∙ ap encodes found.2 ∙ encodes-append found.0 found.1 ∙ ap (λ xs. encodes found.0 ++ encodes xs) only ∙ ap (λ xs. encodes found.0 ++ xs) (encodes-chars bytes (IsUtf8-string_bytes needle.text)))

ended_matches : (needle : Needle) (ws : List Wildcard) (text front : Bytes) → IsNeedle needle ws → needle.last ≡ true → IsUtf8 text → text ≡ front ++ string_bytes needle.text → some_suffix (matches ws) (chars text) ≡ true
ended_matches needle ws text front h last u e =
    let bytes = string_bytes needle.text in
    let utf8 = IsUtf8-string_bytes needle.text in
    let cut = IsCharBoundary-at_seam text front bytes e utf8 in
    let first : take (length front) text ≡ front = ap (take (length front)) e ∙ take-append_seam front bytes in
    let plain : IsUtf8 front = subst IsUtf8 first (IsUtf8-take text (length front) u cut) in
    let parts : ws ≡ map just (chars bytes) = h.begins ∙ ap (λ us. map just (chars bytes) ++ us) (h.last last) ∙ append-nil (map just (chars bytes)) in
    let here : matches ws (chars bytes) ≡ true = ap (λ us. matches us (chars bytes)) parts ∙ just_match (chars bytes) in
    ap (λ t. some_suffix (matches ws) (chars t)) e ∙ ap (some_suffix (matches ws)) (chars-append front bytes plain) ∙ suffix_behind (matches ws) (chars front) (chars bytes) here

pub last_found : (needle : Needle) (ws : List Wildcard) (text n : Bytes) (r : Bool) → n ≡ string_bytes needle.text → needle.last ≡ true → IsUtf8 text
    → MatchBool r (HasSuffixMatch (FindsTextSuffix n) text) (FindsTextSuffix n text None) → IsNeedle needle ws
    → r ≡ some_suffix (matches ws) (chars text)
last_found needle ws text n r same last u found h =
    let ends = ends_is Decides-eqb text n r (ends_text r n text found) in
    same_truth r (some_suffix (matches ws) (chars text))
    (λ yes. ended_matches needle ws text (take (length text - length n) text) h last u (ends.0 yes ∙ ap (λ m. take (length text - length n) text ++ m) same))
    (λ m. let front = last_matches needle ws text h last u m in ends.1 front.0 (front.1 ∙ ap (λ m. front.0 ++ m) (sym same)))

-- the first of the parts, and those behind it
pub needles_first : (ps : List Part) (d : Part) → 1 ≤ length ps → NeedlesFit ps [] → IsNeedleOf (get_or ps 0 d) (map part_view (parts_behind ps)) × NeedlesFit (parts_behind ps) []
needles_first [] d h f = absurd (omega arith)
needles_first (p ∷ ps) d h f =
    let same : ps ≡ parts_behind (p ∷ ps) = sym (take_all (length (p ∷ ps) - 1) ps (omega arith)) in
    subst (λ qs. IsNeedleOf p (map part_view qs) × NeedlesFit qs []) same (subst (IsNeedleOf p) (append-nil (map part_view ps)) f.0, f.1)

-- one part more
needles_more : (ps : List Part) (p : Part) (ws : List Wildcard) → NeedlesFit ps (part_view p ∷ ws) → IsNeedleOf p ws → NeedlesFit (ps ++ p ∷ []) ws
needles_more [] p ws f h = (h, tt)
needles_more (q ∷ ps) p ws f h = (subst (IsNeedleOf q) (parts_before ps p ws) f.0, needles_more ps p ws f.1 h)

pub needles_step : (ps qs : List Part) (p : Part) (us ws : List Wildcard) → NeedlesFit ps us → us ≡ part_view p ∷ ws → qs ≡ ps ++ p ∷ [] → IsNeedleOf p ws → NeedlesFit qs ws
needles_step ps qs p us ws f e q h = subst (λ rs. NeedlesFit rs ws) (sym q) (needles_more ps p ws (subst (NeedlesFit ps) e f) h)

just_more : (cs : List ℕ) (d : ℕ) (vs : List Wildcard) → map just cs ++ just d ∷ vs ≡ map just (cs ++ d ∷ []) ++ vs
just_more [] d vs = refl
just_more (c ∷ cs) d vs = ap (λ ws. just c ∷ ws) (just_more cs d vs)

-- one character more of a text
one_more : (found more : Bytes) (d : ℕ) → IsUtf8 found → IsUtf8 more → more ≡ found ++ encode_utf8 d → chars more ≡ chars found ++ d ∷ []
one_more found more d u v e =
    let cut : IsCharBoundary more (length found) = IsCharBoundary-from_take more (length found) v (omega (arith, ap length e, length-append found (encode_utf8 d))) (subst IsUtf8 (sym (ap (take (length found)) e ∙ take-append_seam found (encode_utf8 d))) u) in
    let one : IsUtf8 (encode_utf8 d) = subst IsUtf8 (ap (drop (length found)) e ∙ drop-append_seam found (encode_utf8 d)) (IsUtf8-drop more (length found) v cut) in
    let char : chars (encode_utf8 d) ≡ d ∷ [] = chars_past_char (encode_utf8 d) [] d one (sym (append-nil (encode_utf8 d))) ∙ ap (λ xs. d ∷ xs) chars-nil in
    ap chars e ∙ chars-append found (encode_utf8 d) u ∙ ap (λ xs. chars found ++ xs) char

char_more : (cs : List ℕ) (d : ℕ) (ds : List ℕ) → cs ++ d ∷ ds ≡ (cs ++ d ∷ []) ++ ds
char_more [] d ds = refl
char_more (c ∷ cs) d ds = ap (λ xs. c ∷ xs) (char_more cs d ds)

pub letters_more : (all : List ℕ) (found more : Bytes) (d : ℕ) (us vs : List ℕ) → IsUtf8 found → IsUtf8 more → more ≡ found ++ encode_utf8 d → all ≡ chars found ++ us → us ≡ d ∷ vs → all ≡ chars more ++ vs
letters_more all found more d us vs u v e h k =
    h ∙ ap (λ xs. chars found ++ xs) k ∙ char_more (chars found) d vs ∙ ap (λ xs. xs ++ vs) (sym (one_more found more d u v e))

-- one character more of a needle
pub spelled_more : (all : List Wildcard) (found more : Bytes) (d : ℕ) (us vs : List Wildcard) → IsUtf8 found → IsUtf8 more → more ≡ found ++ encode_utf8 d → all ≡ map just (chars found) ++ us → us ≡ just d ∷ vs → all ≡ map just (chars more) ++ vs
spelled_more all found more d us vs u v e h k =
    h ∙ ap (λ ws. map just (chars found) ++ ws) k ∙ just_more (chars found) d vs ∙ ap (λ xs. map just xs ++ vs) (sym (one_more found more d u v e))

-- the parts as far as a run, and the needle behind it
pub run_found : (parts ps : List Part) (d : Part) (needle : Needle) (text rest : Bytes) → 1 ≤ length ps → IsRunBehind (map part_view parts) (map part_view (parts_behind ps)) (chars text) (chars rest)
    → (NeedlesFit parts [] → NeedlesFit ps []) → ((ws : List Wildcard) → IsNeedleOf (get_or ps 0 d) ws → IsNeedle needle ws) → IsRunFound parts (parts_behind ps) needle text rest
run_found parts ps d needle text rest h run fit is = record {
  run = run;
  needles = λ f. let both = needles_first ps d h (fit f) in record {
    first = is (map part_view (parts_behind ps)) both.0;
    others = both.1;
  };
}
