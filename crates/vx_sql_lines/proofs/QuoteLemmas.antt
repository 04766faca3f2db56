-- Texts in which each `'` is doubled.
use Rattle.std.proofs.Common.{◌≡◌, ◌≢◌, refl, ap, sym, subst, ◌∙◌, ℕ, suc, ◌+◌, ◌<◌, ◌==◌, false, cond, [], ◌∷◌, ◌++◌, length, drop, get_or, append_assoc, arith}
use Rattle.std.proofs.Math.Seq.{get_or-append_seam, drop-append-add}
use Rattle.std.proofs.lemmas.List.{length-append}
use Rattle.std.proofs.lemmas.List.Concat.{flat_map-append}
use Rattle.std.proofs.lemmas.Str.{IsUtf8-drop, IsCharBoundary-after_ascii}
use Rattle.std.specs.List.{flat_map}
use Rattle.std.specs.Prelude.{codes}
use Rattle.std.specs.Str.{IsUtf8, IsCharBoundary}
use Rattle.vx_dtype.specs.Types.{Bytes}
use Rattle.vx_sql_lines.specs.Lines.{doubled_quote}

-- a text without a `'` stands as it is
pub doubled-without_quote : (s : Bytes) → ((i : ℕ) → i < length s → get_or s i 0 ≢ 39) → flat_map doubled_quote s ≡ s
doubled-without_quote [] h = refl
doubled-without_quote (b ∷ s) h =
    let other : (b == 39) ≡ false = grind (arith, h 0) in
    let rest : flat_map doubled_quote s ≡ s = doubled-without_quote s (λ i below. h (suc i) (omega arith)) in
    ap (λ t. cond t (codes "''") (b ∷ []) ++ flat_map doubled_quote s) other ∙ ap (λ u. b ∷ u) rest

-- a text up to its first `'`, and behind it
pub doubled-at_quote : (s before behind : Bytes) → s ≡ before ++ 39 ∷ behind → ((i : ℕ) → i < length before → get_or before i 0 ≢ 39)
    → flat_map doubled_quote s ≡ before ++ (codes "''" ++ flat_map doubled_quote behind)
doubled-at_quote s before behind parts first =
    ap (flat_map doubled_quote) parts ∙ flat_map-append doubled_quote before (39 ∷ behind)
    ∙ ap (λ u. u ++ (codes "''" ++ flat_map doubled_quote behind)) (doubled-without_quote before first)

-- what stands behind a `'` of a text is a text
pub utf8-behind_quote : (s before behind : Bytes) → s ≡ before ++ 39 ∷ behind → IsUtf8 s → IsUtf8 behind
utf8-behind_quote s before behind parts text =
    let whole : IsUtf8 (before ++ 39 ∷ behind) = subst IsUtf8 parts text in
    let quote : get_or (before ++ 39 ∷ behind) (length before) 0 ≡ 39 = get_or-append_seam before 39 behind 0 in
    let within : length before < length (before ++ 39 ∷ behind) = simp length-append (omega arith) in
    let cut : IsCharBoundary (before ++ 39 ∷ behind) (length before + 1) =
    IsCharBoundary-after_ascii (before ++ 39 ∷ behind) (length before) whole within (omega (arith, quote)) in
    let rest : drop (length before + 1) (before ++ 39 ∷ behind) ≡ behind = drop-append-add before (39 ∷ behind) 1 in
    subst IsUtf8 rest (IsUtf8-drop (before ++ 39 ∷ behind) (length before + 1) whole cut)

-- what is written of a text up to its first `'`, with that one doubled, and what is left of it
pub written_to_quote : (whole out once twice s before behind : Bytes) → whole ≡ out ++ flat_map doubled_quote s → s ≡ before ++ 39 ∷ behind
    → ((i : ℕ) → i < length before → get_or before i 0 ≢ 39) → once ≡ out ++ before → twice ≡ once ++ codes "''"
    → whole ≡ twice ++ flat_map doubled_quote behind
written_to_quote whole out once twice s before behind told parts first one two =
    let rest = flat_map doubled_quote behind in
    let regroup : ((out ++ before) ++ codes "''") ++ rest ≡ out ++ (before ++ (codes "''" ++ rest)) = simp append_assoc in
    let both : twice ≡ (out ++ before) ++ codes "''" = two ∙ ap (λ u. u ++ codes "''") one in
    told ∙ ap (λ u. out ++ u) (doubled-at_quote s before behind parts first) ∙ sym (ap (λ u. u ++ rest) both ∙ regroup)
