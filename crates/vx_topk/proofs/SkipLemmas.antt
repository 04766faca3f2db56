-- The blocks that first rows skip, whether the table is told or not: one block more, and all of them.
use Rattle.std.proofs.Common.{◌≡◌, refl, ap, sym, ◌∙◌, subst, ℕ, ◌+◌, ◌<◌, ◌≤◌, Bool, true, false, cond, List, [], ◌∷◌, ◌++◌, map, length, take, arith, inl, ⊎_elim}
use Rattle.std.specs.Prelude.{nat_eq}
use Rattle.std.specs.List.{filter}
use Rattle.std.proofs.Math.ListN.{get_or}
use Rattle.std.proofs.lemmas.Bool.{cases_Bool}
use Rattle.std.proofs.lemmas.List.{map-append, take_all}
use Rattle.std.proofs.lemmas.Option.{slice_get-get_or}
use Rattle.vx_semantics.specs.Pruning.{rules_out}
use Rattle.vx_semantics.specs.Tables.{Zones, numbered_from}
use Rattle.vx_laws_topk.specs.TopRows.{TopAsk}
use Rattle.vx_scan.specs.Scanning.{AreAmong}
use Rattle.vx_scan.specs.Runs.{skipped_numbers_before}
use Rattle.vx_scan.proofs.AmongLemmas.{among_all, among_behind, among_more, among_append}
use Rattle.vx_scan.proofs.StepLemmas.{skipped_numbers_in, skipped_numbers_out, skipped_numbers_end}
use Rattle.vx_topk.specs.TopEnds.{numbers_of, SkipsBlocks}
use Rattle.vx_topk.specs.TopRuns.{SkipsBefore}
use Rattle.vx_topk.proofs.TopStepLemmas.{numbered-in}

-- one number more
pub numbers-more : {X : Type 0} (i : ℕ) (xs : List X) → i < length xs → numbers_of (take (i + 1) xs) ≡ numbers_of (take i xs) ++ i ∷ []
numbers-more {X} i [] l = absurd (omega (arith, l))
numbers-more {X} i (y ∷ ys) l =
    let x = get_or (y ∷ ys) i y in
    ap (λ (bs : List (ℕ × X)). map (λ (b : ℕ × X). b.0) bs) (numbered-in i (y ∷ ys) x (slice_get-get_or (y ∷ ys) i y l))
    ∙ map-append (λ (b : ℕ × X). b.0) (numbered_from 0 (take i (y ∷ ys))) ((i, x) ∷ [])

-- behind a block that is skipped
pub skips-out : (ask : TopAsk) (zones : Zones) (i : ℕ) (skips : List ℕ) → i < length zones.lengths → SkipsBefore ask zones i skips → SkipsBefore ask zones (i + 1) (skips ++ i ∷ [])
skips-out ask zones i skips l h =
    let f = ask.filter_expr in
    let alone = skipped_numbers_before zones [] f i in
    record {
      blocks = subst (λ (ns : List ℕ). AreAmong (skips ++ i ∷ []) ns) (sym (numbers-more i zones.lengths l))
          (among_append skips (i ∷ []) (numbers_of (take i zones.lengths)) (i ∷ []) h.blocks (among_all (i ∷ [])));
      ruled_out =
          ⊎_elim (λ (a : rules_out zones [] i f ≡ true).
          subst (λ (ns : List ℕ). AreAmong ns (skips ++ i ∷ [])) (sym (skipped_numbers_in zones [] f i l a))
          (among_append alone (i ∷ []) skips (i ∷ []) h.ruled_out (among_all (i ∷ []))))
          (λ (a : rules_out zones [] i f ≡ false).
          subst (λ (ns : List ℕ). AreAmong ns (skips ++ i ∷ [])) (sym (skipped_numbers_out zones [] f i l a)) (among_more alone skips (i ∷ []) h.ruled_out))
          (cases_Bool (rules_out zones [] i f));
    }

-- behind one that is kept, which the filter alone doesn't rule out
pub skips-in : (ask : TopAsk) (zones : Zones) (i : ℕ) (skips : List ℕ) → i < length zones.lengths → rules_out zones [] i ask.filter_expr ≡ false → SkipsBefore ask zones i skips
    → SkipsBefore ask zones (i + 1) skips
skips-in ask zones i skips l kept h =
    record {
      blocks = subst (λ (ns : List ℕ). AreAmong skips ns) (sym (numbers-more i zones.lengths l)) (among_more skips (numbers_of (take i zones.lengths)) (i ∷ []) h.blocks);
      ruled_out = subst (λ (ns : List ℕ). AreAmong ns skips) (sym (skipped_numbers_out zones [] ask.filter_expr i l kept)) h.ruled_out;
    }

-- behind the last block
pub skips-end : (ask : TopAsk) (zones : Zones) (i : ℕ) (skips : List ℕ) → length zones.lengths ≤ i → nat_eq ask.count 0 ≡ false → SkipsBefore ask zones i skips → SkipsBlocks ask zones skips
skips-end ask zones i skips l some h =
    record {
      blocks = subst (λ (ls : List ℕ). AreAmong skips (numbers_of ls)) (take_all i zones.lengths l) h.blocks;
      ruled_out = subst (λ (ns : List ℕ). AreAmong ns skips) (skipped_numbers_end zones [] ask.filter_expr i l) h.ruled_out;
      none_asked = λ none.
          let never : nat_eq ask.count 0 ≡ true = ap (λ (n : ℕ). nat_eq n 0) none in
          let no : ⊥ = cc in absurd no;
    }

-- numbers that pass a test are some of all
pub passing-among : (test : ℕ → Bool) (bs : List (ℕ × ℕ)) → AreAmong (map (λ (b : ℕ × ℕ). b.0) (filter (λ (b : ℕ × ℕ). test b.0) bs)) (map (λ (b : ℕ × ℕ). b.0) bs)
passing-among test [] = tt
passing-among test (b ∷ bs) = by-test (test b.0) (passing-among test bs)
  where
    by-test : (passes : Bool) → AreAmong (map (λ (c : ℕ × ℕ). c.0) (filter (λ (c : ℕ × ℕ). test c.0) bs)) (map (λ (c : ℕ × ℕ). c.0) bs)
        → AreAmong (map (λ (c : ℕ × ℕ). c.0) (cond passes (b ∷ filter (λ (c : ℕ × ℕ). test c.0) bs) (filter (λ (c : ℕ × ℕ). test c.0) bs)))
        (b.0 ∷ map (λ (c : ℕ × ℕ). c.0) bs)
    by-test true h = inl (refl, h)
    by-test false h = among_behind (map (λ (c : ℕ × ℕ). c.0) (filter (λ (c : ℕ × ℕ). test c.0) bs)) (b.0 ∷ []) (map (λ (c : ℕ × ℕ). c.0) bs) h

-- where all blocks are skipped
pub skips-all : (ask : TopAsk) (zones : Zones) → SkipsBlocks ask zones (numbers_of zones.lengths)
skips-all ask zones =
    record {
      blocks = among_all (numbers_of zones.lengths);
      ruled_out = passing-among (λ n. rules_out zones [] n ask.filter_expr) (numbered_from 0 zones.lengths);
      none_asked = λ none. refl;
    }
