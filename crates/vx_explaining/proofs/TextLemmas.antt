-- Names as a set, and texts that are put together piece by piece.
use Rattle.std.proofs.Common.{◌≡◌, ◌∙◌, sym, ap, refl, ℕ, suc, ◌+◌, ◌<◌, ◌≤◌, Bool, true, false, ◌||◌, cond, List, [], ◌∷◌, ◌++◌, length, take, drop, map, append_assoc, append-nil, arith}
use Rattle.std.proofs.Math.ListN.{get_or}
use Rattle.std.proofs.lemmas.List.{take_more, drop_more, drop_all}
use Rattle.std.proofs.lemmas.List.Folds.{list_any-append}
use Rattle.std.specs.HashSet.{HashSet, contains}
use Rattle.std.specs.List.{flat_map, join_by}
use Rattle.std.specs.Str.{bytes_eq}
use Rattle.vx_dtype.specs.EqualLaws.{bytes_eq_equiv}
use Rattle.vx_dtype.specs.Types.{Bytes}
use Rattle.vx_dtype.specs.TypeRules.{has_name}
use Rattle.vx_laws_explaining.specs.Explained.{UsedColumn}
use Rattle.vx_laws_explaining.specs.ExplainedPictures.{cell, cells, heading, headings}

behind : (a b : Bool) → cond a true b ≡ (b || (a || false))
behind true true = refl
behind true false = refl
behind false true = refl
behind false false = refl

-- with one more name a set has the names so far and this one
pub one_more_name : {S : Type 0} (names : List Bytes) (i : ℕ) (e : Bytes) (was now : HashSet Bytes S) → i < length names → e ≡ get_or names i e
    → ((c : Bytes) → contains bytes_eq was c ≡ has_name c (take i names))
    → ((c : Bytes) → contains bytes_eq now c ≡ cond (bytes_eq e c) true (contains bytes_eq was c))
    → (c : Bytes) → contains bytes_eq now c ≡ has_name c (take (i + 1) names)
one_more_name names i e was now within is so_far put c =
    put c ∙ ap (λ b. cond b true (contains bytes_eq was c)) (bytes_eq_equiv.symm e c) ∙ ap (cond (bytes_eq c e) true) (so_far c)
    ∙ behind (bytes_eq c e) (has_name c (take i names))
    ∙ sym (list_any-append (bytes_eq c) (take i names) (e ∷ []))
    ∙ ap (has_name c) (sym (take_more names i e within ∙ ap (λ x. take i names ++ x ∷ []) (sym is)))

-- texts that are seen are joined as what is seen
flat_seen : {X : Type 0} (see : X → Bytes) (separator : Bytes) (xs : List X)
    → flat_map (λ x. separator ++ see x) xs ≡ flat_map (λ t. separator ++ t) (map see xs)
flat_seen see separator [] = refl
flat_seen see separator (x ∷ xs) = ap (λ rest. (separator ++ see x) ++ rest) (flat_seen see separator xs)

pub joined : {X : Type 0} (see : X → Bytes) (separator : Bytes) (xs : List X) → join_by see separator xs ≡ join_by (λ t. t) separator (map see xs)
joined see separator [] = refl
joined see separator (x ∷ xs) = ap (λ rest. see x ++ rest) (flat_seen see separator xs)

module _ {V : Type 0} (see : V → UsedColumn) where
  -- from a place within on headings are that of the column there and those behind it
  pub headings_step : (vs : List V) (i : ℕ) (v : V) → i < length vs
      → headings i (map see (drop i vs)) ≡ heading i (see (get_or vs i v)).name ++ headings (i + 1) (map see (drop (i + 1) vs))
  headings_step vs i v h =
      let next : suc i ≡ i + 1 = omega arith in
      ap (λ ws. headings i (map see ws)) (drop_more vs i v h)
      ∙ (λ k. heading i (see (get_or vs i v)).name ++ headings (next k) (map see (drop (i + 1) vs)))

  pub headings_end : (vs : List V) (i : ℕ) → length vs ≤ i → headings i (map see (drop i vs)) ≡ []
  headings_end vs i le = ap (λ ws. headings i (map see ws)) (drop_all i vs le)

  -- and cells likewise
  pub cells_step : (block : ℕ) (skipped : Bool) (vs : List V) (i : ℕ) (v : V) → i < length vs
      → cells block skipped i (map see (drop i vs)) ≡ cell block skipped i (see (get_or vs i v)).usage ++ cells block skipped (i + 1) (map see (drop (i + 1) vs))
  cells_step block skipped vs i v h =
      let next : suc i ≡ i + 1 = omega arith in
      ap (λ ws. cells block skipped i (map see ws)) (drop_more vs i v h)
      ∙ (λ k. cell block skipped i (see (get_or vs i v)).usage ++ cells block skipped (next k) (map see (drop (i + 1) vs)))

  pub cells_end : (block : ℕ) (skipped : Bool) (vs : List V) (i : ℕ) → length vs ≤ i → cells block skipped i (map see (drop i vs)) ≡ []
  cells_end block skipped vs i le = ap (λ ws. cells block skipped i (map see ws)) (drop_all i vs le)

-- what was written before, and one more part behind it, with what is left behind that
pub written_one : (b c x left rest whole : Bytes) → c ≡ b ++ x → left ≡ x ++ rest → b ++ left ≡ whole → c ++ rest ≡ whole
written_one b c x left rest whole p cut e = ap (λ (z : Bytes). z ++ rest) p ∙ append_assoc b x rest ∙ ap (λ (z : Bytes). b ++ z) (sym cut) ∙ e

-- at the end nothing is left
pub written_all : (now left whole : Bytes) → left ≡ [] → now ++ left ≡ whole → now ≡ whole
written_all now left whole none e = sym (append-nil now) ∙ ap (λ (z : Bytes). now ++ z) (sym none) ∙ e
