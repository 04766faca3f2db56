-- Expressions over statistics that tell whether a block is ruled out, under `and` and `or`.
use Rattle.std.proofs.Common.{◌≡◌, ℕ, refl, ap, sym, ◌∙◌, Bool, true, false, ◌&&◌, ◌||◌, Option, Some, None, subst, List}
use Rattle.std.specs.Prelude.{option_map}
use Rattle.vx_dtype.specs.Values.{Val}
use Rattle.vx_dtype.specs.Logic.{Tri, holds, fails, unknown, broken, tri, and_tri, or_tri, and3, or3, is_true_val}
use Rattle.vx_expr.specs.Trees.{Tree}
use Rattle.vx_semantics.specs.Meaning.{Slots, mean}
use Rattle.vx_semantics.specs.Tables.{Zones, row_type}
use Rattle.vx_passes.specs.Falsifying.{Question, Found, found_in, found_by, and_of, or_of, joined_known}
use Rattle.vx_passes.specs.PruningTables.{pruning_fields, pruning_row}
use Rattle.vx_laws.proofs.Kleene.{tri-truth}
use Rattle.vx_laws.proofs.Sound.{is_broken, and_tri-sound, or_tri-sound}
use Rattle.vx_laws_scan.proofs.Ruling.{is_holds, true-tri, true-truth}

-- what an expression means at the row of a block's statistics
abbrev pub meant : Zones → Slots → ℕ → Tree → Val
meant zones slots block e = mean (row_type (pruning_fields zones)) slots (pruning_row zones block) e

-- a truth value, or null, that is true exactly where the test holds
pub record Tells (v : Val) (b : Bool) : Type 0 where
  pub is : is_true_val v ≡ b
  pub sound : is_broken (tri v) ≡ false

-- an expression that tells so; where there is none, the test does not hold
abbrev pub Agrees : Zones → Slots → ℕ → Option Tree → Bool → Type 0
Agrees zones slots block None b = b ≡ false
Agrees zones slots block (Some e) b = Tells (meant zones slots block e) b

or-holds : (x y : Tri) → is_broken x ≡ false → is_broken y ≡ false → is_holds (or_tri x y) ≡ (is_holds x || is_holds y)
or-holds broken y h k = let no : ⊥ = cc in absurd no
or-holds holds broken h k = let no : ⊥ = cc in absurd no
or-holds holds _ h k = refl
or-holds fails broken h k = let no : ⊥ = cc in absurd no
or-holds fails holds h k = refl
or-holds fails fails h k = refl
or-holds fails unknown h k = refl
or-holds unknown broken h k = let no : ⊥ = cc in absurd no
or-holds unknown holds h k = refl
or-holds unknown fails h k = refl
or-holds unknown unknown h k = refl

and-holds : (x y : Tri) → is_holds (and_tri x y) ≡ (is_holds x && is_holds y)
and-holds holds holds = refl
and-holds holds fails = refl
and-holds holds unknown = refl
and-holds holds broken = refl
and-holds fails holds = refl
and-holds fails _ = refl
and-holds unknown holds = refl
and-holds unknown _ = refl
and-holds broken y = refl

pub or-tells : (v w : Val) (a b : Bool) → Tells v a → Tells w b → Tells (or3 v w) (a || b)
or-tells v w a b h k = record {
  is =
      true-truth (or_tri (tri v) (tri w))
      ∙ (or-holds (tri v) (tri w) h.sound k.sound ∙ (λ i. sym (true-tri v) i || sym (true-tri w) i) ∙ (λ i. h.is i || k.is i));
  sound = ap is_broken (tri-truth (or_tri (tri v) (tri w))) ∙ or_tri-sound (tri v) (tri w) h.sound k.sound;
}

pub and-tells : (v w : Val) (a b : Bool) → Tells v a → Tells w b → Tells (and3 v w) (a && b)
and-tells v w a b h k = record {
  is =
      true-truth (and_tri (tri v) (tri w))
      ∙ (and-holds (tri v) (tri w) ∙ (λ i. sym (true-tri v) i && sym (true-tri w) i) ∙ (λ i. h.is i && k.is i));
  sound = ap is_broken (tri-truth (and_tri (tri v) (tri w))) ∙ and_tri-sound (tri v) (tri w) h.sound k.sound;
}

or-right_false : (a b : Bool) → b ≡ false → (a || b) ≡ a
or-right_false true b h = refl
or-right_false false b h = h

pub and-right_false : (a b : Bool) → b ≡ false → (a && b) ≡ false
and-right_false true b h = h
and-right_false false b h = refl

pub tells-same : (v : Val) (a b : Bool) → a ≡ b → Tells v a → Tells v b
tells-same v a b e h = record { is = h.is ∙ e; sound = h.sound }

-- joined by `or` where both are there
pub either-agrees : (zones : Zones) (slots : Slots) (block : ℕ) (o p : Option Tree) (a b : Bool) → Agrees zones slots block o a → Agrees zones slots block p b
    → Agrees zones slots block (joined_known or_of o p) (a || b)
unfolding mean
either-agrees zones slots block (Some x) (Some y) a b h k = or-tells (meant zones slots block x) (meant zones slots block y) a b h k
either-agrees zones slots block (Some x) None a b h k = tells-same (meant zones slots block x) a (a || b) (sym (or-right_false a b k)) h
either-agrees zones slots block None p a b h k = subst (λ (c : Bool). Agrees zones slots block p (c || b)) (sym h) k

-- joined by `and`, where both are there
pub both-agrees : (zones : Zones) (slots : Slots) (block : ℕ) (o : Option Tree) (asked : List Question) (y : Found) (a b : Bool) → Agrees zones slots block o a → Agrees zones slots block y.tree b
    → Agrees zones slots block (found_by (λ x. found_in (and_of x) y) o asked).tree (a && b)
unfolding mean
both-agrees zones slots block None asked y a b h k = ap (λ (c : Bool). c && b) h
both-agrees zones slots block (Some x) asked y a b h k = by-second y.tree k
  where
    by-second : (p : Option Tree) → Agrees zones slots block p b → Agrees zones slots block (option_map (and_of x) p) (a && b)
    by-second None i = and-right_false a b i
    by-second (Some z) i = and-tells (meant zones slots block x) (meant zones slots block z) a b h i
