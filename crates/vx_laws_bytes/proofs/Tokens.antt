-- How much tokens hold, which is no more than the text that is cut into them.
use Rattle.std.proofs.Common.{◌≡◌, ◌∙◌, sym, ap, refl, ℕ, ◌+◌, ◌*◌, ◌≤◌, ◌==◌, Bool, true, false, List, [], ◌∷◌, ◌++◌, length, length-append, arith}
use Rattle.std.specs.Prelude.{if◌then◌else◌}
use Rattle.std.specs.List.{flat_map}
use Rattle.vx_dtype.specs.Types.{Bytes}
use Rattle.vx_tokens.specs.declared.tokens.Token.{Token}
use Rattle.vx_tokens.specs.declared.tokens.Token.TheVariants.{Reserved, Word, Quoted, Quote, Number, Mark}
use Rattle.vx_tokens.specs.Names.{doubled, within_marks}
use Rattle.vx_laws_text.specs.Longest.{SpellsToken}
use Rattle.vx_laws_text.specs.Cuts.{Cuts, no_bytes, blank_first, token_first}

abbrev pub token_cost : Token → ℕ
token_cost (Reserved k) = 8
token_cost (Word f) = 8 + length f
token_cost (Quoted f) = 8 + length f
token_cost (Quote s) = 8 + length s
token_cost (Number digits p) = 8
token_cost (Mark s) = 8

abbrev pub cost : List Token → ℕ
cost [] = 0
cost (t ∷ ts) = token_cost t + cost ts

pub cost_append : (ts us : List Token) → cost (ts ++ us) ≡ cost ts + cost us
cost_append [] us = omega arith
cost_append (t ∷ ts) us = let rest = cost_append ts us in omega (arith, rest)

doubled_some : (mark b : ℕ) → 1 ≤ length (doubled mark b)
doubled_some mark b = by (b == mark)
  where
    by : (x : Bool) → 1 ≤ length (if x then mark ∷ mark ∷ [] else b ∷ [])
    by true = omega arith
    by false = omega arith

doubled_length : (mark : ℕ) (s : Bytes) → length s ≤ length (flat_map (doubled mark) s)
doubled_length mark [] = omega arith
doubled_length mark (b ∷ s) =
    let own = doubled_some mark b in
    let rest = doubled_length mark s in
    let both = length-append (doubled mark b) (flat_map (doubled mark) s) in
    omega (arith, own, rest, both)

marked_length : (mark : ℕ) (s : Bytes) → length s ≤ length (within_marks mark s)
marked_length mark s =
    let own = doubled_length mark s in
    let both = length-append (flat_map (doubled mark) s) (mark ∷ []) in
    omega (arith, own, both)

same_length : (s f : Bytes) → s ≡ f → length s ≡ length f
same_length s f same = ap (λ (x : Bytes). length x) same

token_within : (t : Token) (s rest : Bytes) → SpellsToken t s rest → token_cost t ≤ 8 + length s
token_within (Reserved k) s rest h = omega arith
token_within (Word f) s rest h = let same = same_length s f h.0 in omega (arith, same)
token_within (Quoted f) s rest h = let same = same_length s (within_marks 34 f) h.0 in let own = marked_length 34 f in omega (arith, same, own)
token_within (Quote f) s rest h = let same = same_length s (within_marks 39 f) h.0 in let own = marked_length 39 f in omega (arith, same, own)
token_within (Number digits p) s rest h = omega arith
token_within (Mark sign) s rest h = omega arith

pub cut_cost : {bytes : Bytes} {ts : List Token} → Cuts bytes ts → cost ts ≤ 8 * length ts + length bytes
cut_cost no_bytes = omega arith
cut_cost (blank_first b bytes ts blank cuts) = let rest = cut_cost cuts in omega (arith, rest)
cut_cost (token_first bytes others t ts longest cuts) =
    let rest = cut_cost cuts in
    let own = token_within t longest.stands.spelling others longest.stands.spells in
    let whole = same_length bytes (longest.stands.spelling ++ others) longest.stands.front in
    let both = length-append longest.stands.spelling others in
    omega (arith, rest, own, whole, both)
