-- Pieces that are left to write: what a step of the loop makes of them.
use Rattle.std.proofs.Common.{◌≡◌, refl, IfOk, IsOk, Result, Ok, Err, ℕ, ◌+◌, ◌<◌, ◌≤◌, max, arith, List, [], ◌∷◌, ◌++◌, ap, ◌∙◌, sym, append_assoc, append-nil}
use Rattle.std.specs.Fmt.{HasWritten, IsPlainFormatter}
use Rattle.std.specs.declared.fmt.Formatter.{Formatter}
use Rattle.vx_dtype.specs.Types.{Bytes}
use Rattle.vx_expr.specs.Pieces.{Part, whole, behind, closing, Began, part_text, parts_text, part_steps, parts_steps, part_height, parts_height}

text_append : (ps qs : List Part) → parts_text (ps ++ qs) ≡ parts_text qs ++ parts_text ps
text_append [] qs = sym (append-nil (parts_text qs))
text_append (p ∷ ps) qs = ap (λ t. t ++ part_text p) (text_append ps qs) ∙ append_assoc (parts_text qs) (parts_text ps) (part_text p)

steps_append : (ps qs : List Part) → parts_steps (ps ++ qs) ≡ parts_steps ps + parts_steps qs
steps_append [] qs = omega arith
steps_append (p ∷ ps) qs = omega (arith, steps_append ps qs)

height_append : (ps qs : List Part) → parts_height (ps ++ qs) ≡ max (parts_height ps) (parts_height qs)
height_append [] qs = omega arith
height_append (p ∷ ps) qs = omega (arith, height_append ps qs)

-- the text of the pieces is what was written of the last one, and the text of those that are left
pub text_begun : (all ps after rest : List Part) (p : Part) (written : Bytes) → all ≡ ps ++ p ∷ [] → after ≡ ps ++ rest → part_text p ≡ written ++ parts_text rest
    → parts_text all ≡ written ++ parts_text after
text_begun all ps after rest p written popped left text =
    ap parts_text popped ∙ text_append ps (p ∷ []) ∙ ap (λ t. t ++ parts_text ps) text ∙ append_assoc written (parts_text rest) (parts_text ps)
    ∙ ap (λ t. written ++ t) (sym (text_append ps rest)) ∙ ap (λ qs. written ++ parts_text qs) (sym left)

pub steps_fewer : (all ps after rest : List Part) (p : Part) → all ≡ ps ++ p ∷ [] → after ≡ ps ++ rest → parts_steps rest < part_steps p → parts_steps after < parts_steps all
steps_fewer all ps after rest p popped left fewer =
    omega (arith, ap parts_steps popped, ap parts_steps left, steps_append ps (p ∷ []), steps_append ps rest, fewer)

pub last_height : (all ps : List Part) (p : Part) → all ≡ ps ++ p ∷ [] → part_height p ≤ parts_height all
last_height all ps p popped = omega (arith, ap parts_height popped, height_append ps (p ∷ []))

pub height_kept : (all ps after rest : List Part) (p : Part) → all ≡ ps ++ p ∷ [] → after ≡ ps ++ rest → parts_height rest ≤ part_height p → parts_height after ≤ parts_height all
height_kept all ps after rest p popped left lower =
    omega (arith, ap parts_height popped, ap parts_height left, height_append ps (p ∷ []), height_append ps rest, lower)

some_steps : (p : Part) → 0 < part_steps p
some_steps (whole e) = omega arith
some_steps (behind op r) = omega arith
some_steps closing = omega arith

-- a piece that is written as a whole leaves nothing
pub began_wholly : {W E : Type 0} (took : W → List ℕ → W → Type 0) (f g : Formatter W) (result : Result (Unit {0}) E) (before : List Part) (p : Part) (highest : ℕ)
    → (IsPlainFormatter f → IsOk result → HasWritten took f (part_text p) g) → IfOk result (λ _. Began took f g before before p highest)
began_wholly took f g (Ok x) before p highest wrote =
    record {
      written = part_text p;
      rest = [];
      wrote = λ plain. wrote plain refl;
      left = sym (append-nil before);
      text = sym (append-nil (part_text p));
      steps = some_steps p;
      lower = omega arith;
    }
began_wholly took f g (Err e) before p highest wrote = tt
