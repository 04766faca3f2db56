-- Where the slots of an expression fit, those of its parts fit, and those of what is left.
use Rattle.std.proofs.Common.{◌≡◌, refl, Bool, true, false, cond, ◌&&◌, List, [], ◌∷◌, ◌++◌}
use Rattle.std.proofs.lemmas.Bool.{and_parts, and_from}
use Rattle.vx_dtype.specs.Types.{Bytes}
use Rattle.vx_expr.specs.Slots.{slot_held}
use Rattle.vx_expr.specs.Trees.{Tree, root, literal, get_item, binary, not_of, is_null_of, like, between, cast, list_contains, pack, merge, select, dynamic, Trees, no_trees, tree, trees_of}
use Rattle.vx_semantics.specs.Meaning.{Slots}
use Rattle.vx_semantics.specs.Slots.{held_fits, slots_fit, all_slots_fit}
use Rattle.vx_passes.specs.Annotating.{Entry, entry_of}
use Rattle.vx_passes.specs.Splitting.{Share, Taken, AllTaken, with_part, part_or_below, over_one, over_two, over_three, over_list, taken_from, all_taken_from}

module _ (slots : Slots) where
  last-fits : (es : List Tree) (e : Tree) → all_slots_fit slots (trees_of es) ≡ true → slots_fit slots e ≡ true → all_slots_fit slots (trees_of (es ++ e ∷ [])) ≡ true
  unfolding slots_fit
  last-fits [] e h k = and_from (slots_fit slots e) true k refl
  last-fits (d ∷ ds) e h k =
      let p = and_parts (slots_fit slots d) (all_slots_fit slots (trees_of ds)) h in
      and_from (slots_fit slots d) (all_slots_fit slots (trees_of (ds ++ e ∷ []))) p.0 (last-fits ds e p.1 k)

  module _ {A : Type 0} (same : A → A → Bool) (text : A → Bytes) (m : List (Entry A)) where
    abbrev pub SharesFit : List (Share A) → Type 0
    SharesFit [] = Unit {0}
    SharesFit (x ∷ xs) = (all_slots_fit slots (trees_of x.parts) ≡ true) × SharesFit xs

    part-fits : (a : A) (e : Tree) (ss : List (Share A)) → slots_fit slots e ≡ true → SharesFit ss → SharesFit (with_part same a e ss)
    unfolding slots_fit
    part-fits a e [] h k = (and_from (slots_fit slots e) true h refl, tt)
    part-fits a e (x ∷ xs) h k = by-test (same a x.annotation) (part-fits a e xs h k.1)
      where
        by-test : (b : Bool) → SharesFit (with_part same a e xs) → SharesFit (cond b (record { annotation = x.annotation; parts = x.parts ++ e ∷ [] } ∷ xs) (x ∷ with_part same a e xs))
        by-test true r = (last-fits x.parts e k.0 h, k.1)
        by-test false r = (k.0, r)

    pub record FitTaken (x : Taken A) : Type 0 where
      pub expression : slots_fit slots x.expression ≡ true
      pub shares : SharesFit x.shares

    pub record FitAll (x : AllTaken A) : Type 0 where
      pub expressions : all_slots_fit slots x.expressions ≡ true
      pub shares : SharesFit x.shares

    entry-fits : (e : Tree) (xs : List A) (below : List (Share A) → Taken A) (ss : List (Share A)) → slots_fit slots e ≡ true → SharesFit ss → FitTaken (below ss)
        → FitTaken (part_or_below same text e xs below ss)
    unfolding slots_fit
    entry-fits e [] below ss h k r = r
    entry-fits e (a ∷ []) below ss h k r = record { expression = refl; shares = part-fits a e ss h k }
    entry-fits e (a ∷ b ∷ xs) below ss h k r = r

    mutual
      unfolding taken_from slots_fit

      pub taken-fits : (e : Tree) (ss : List (Share A)) → slots_fit slots e ≡ true → SharesFit ss → FitTaken (taken_from same text m e ss)
      taken-fits root ss h k = entry-fits root (entry_of root m) (λ ks. record { expression = root; shares = ks }) ss h k (record { expression = refl; shares = k })
      taken-fits (literal s) ss h k =
          entry-fits (literal s) (entry_of (literal s) m) (λ ks. record { expression = literal s; shares = ks }) ss h k (record { expression = refl; shares = k })
      taken-fits (get_item f d) ss h k =
          let x = taken-fits d ss h k in
          entry-fits (get_item f d) (entry_of (get_item f d) m) (λ ks. over_one (get_item f) (taken_from same text m d ks)) ss h k (record { expression = x.expression; shares = x.shares })
      taken-fits (binary l op r) ss h k =
          let p = and_parts (slots_fit slots l) (slots_fit slots r) h in
          let b = taken_from same text m l ss in
          let x = taken-fits l ss p.0 k in
          let y = taken-fits r b.shares p.1 x.shares in
          entry-fits (binary l op r) (entry_of (binary l op r) m) (λ ks. over_two (λ a. λ c. binary a op c) (taken_from same text m r) (taken_from same text m l ks)) ss h k
          (record { expression = and_from (slots_fit slots b.expression) (slots_fit slots (taken_from same text m r b.shares).expression) x.expression y.expression; shares = y.shares })
      taken-fits (not_of d) ss h k =
          let x = taken-fits d ss h k in
          entry-fits (not_of d) (entry_of (not_of d) m) (λ ks. over_one not_of (taken_from same text m d ks)) ss h k (record { expression = x.expression; shares = x.shares })
      taken-fits (is_null_of d) ss h k =
          let x = taken-fits d ss h k in
          entry-fits (is_null_of d) (entry_of (is_null_of d) m) (λ ks. over_one is_null_of (taken_from same text m d ks)) ss h k (record { expression = x.expression; shares = x.shares })
      taken-fits (like l r negated fold_case) ss h k =
          let p = and_parts (slots_fit slots l) (slots_fit slots r) h in
          let b = taken_from same text m l ss in
          let x = taken-fits l ss p.0 k in
          let y = taken-fits r b.shares p.1 x.shares in
          entry-fits (like l r negated fold_case) (entry_of (like l r negated fold_case) m)
          (λ ks. over_two (λ a. λ c. like a c negated fold_case) (taken_from same text m r) (taken_from same text m l ks)) ss h k
          (record { expression = and_from (slots_fit slots b.expression) (slots_fit slots (taken_from same text m r b.shares).expression) x.expression y.expression; shares = y.shares })
      taken-fits (between d l r options) ss h k =
          let p = and_parts (slots_fit slots d) (slots_fit slots l && slots_fit slots r) h in
          let q = and_parts (slots_fit slots l) (slots_fit slots r) p.1 in
          let b = taken_from same text m d ss in
          let c = taken_from same text m l b.shares in
          let e = taken_from same text m r c.shares in
          let x = taken-fits d ss p.0 k in
          let y = taken-fits l b.shares q.0 x.shares in
          let z = taken-fits r c.shares q.1 y.shares in
          entry-fits (between d l r options) (entry_of (between d l r options) m)
          (λ ks. over_three (λ a. λ f. λ g. between a f g options) (taken_from same text m l) (taken_from same text m r) (taken_from same text m d ks)) ss h k
          (record {
            expression =
                and_from (slots_fit slots b.expression) (slots_fit slots c.expression && slots_fit slots e.expression) x.expression
                (and_from (slots_fit slots c.expression) (slots_fit slots e.expression) y.expression z.expression);
            shares = z.shares;
          })
      taken-fits (cast d target) ss h k =
          let x = taken-fits d ss h k in
          entry-fits (cast d target) (entry_of (cast d target) m) (λ ks. over_one (λ a. cast a target) (taken_from same text m d ks)) ss h k
          (record { expression = x.expression; shares = x.shares })
      taken-fits (list_contains l r) ss h k =
          let p = and_parts (slots_fit slots l) (slots_fit slots r) h in
          let b = taken_from same text m l ss in
          let x = taken-fits l ss p.0 k in
          let y = taken-fits r b.shares p.1 x.shares in
          entry-fits (list_contains l r) (entry_of (list_contains l r) m) (λ ks. over_two list_contains (taken_from same text m r) (taken_from same text m l ks)) ss h k
          (record { expression = and_from (slots_fit slots b.expression) (slots_fit slots (taken_from same text m r b.shares).expression) x.expression y.expression; shares = y.shares })
      taken-fits (pack names es n) ss h k =
          let x = all_taken-fit es ss h k in
          entry-fits (pack names es n) (entry_of (pack names es n) m) (λ ks. over_list (λ ds. pack names ds n) (all_taken_from same text m es ks)) ss h k
          (record { expression = x.expressions; shares = x.shares })
      taken-fits (merge es n) ss h k =
          let x = all_taken-fit es ss h k in
          entry-fits (merge es n) (entry_of (merge es n) m) (λ ks. over_list (λ ds. merge ds n) (all_taken_from same text m es ks)) ss h k
          (record { expression = x.expressions; shares = x.shares })
      taken-fits (select c d) ss h k =
          let x = taken-fits d ss h k in
          entry-fits (select c d) (entry_of (select c d) m) (λ ks. over_one (select c) (taken_from same text m d ks)) ss h k (record { expression = x.expression; shares = x.shares })
      taken-fits (dynamic d op j slot default) ss h k =
          let p = and_parts (held_fits (slot_held slots j) slot) (slots_fit slots d) h in
          let b = taken_from same text m d ss in
          let x = taken-fits d ss p.1 k in
          entry-fits (dynamic d op j slot default) (entry_of (dynamic d op j slot default) m) (λ ks. over_one (λ a. dynamic a op j slot default) (taken_from same text m d ks)) ss h k
          (record { expression = and_from (held_fits (slot_held slots j) slot) (slots_fit slots b.expression) p.0 x.expression; shares = x.shares })

      all_taken-fit : (es : Trees) (ss : List (Share A)) → all_slots_fit slots es ≡ true → SharesFit ss → FitAll (all_taken_from same text m es ss)
      all_taken-fit no_trees ss h k = record { expressions = refl; shares = k }
      all_taken-fit (tree d ds) ss h k =
          let p = and_parts (slots_fit slots d) (all_slots_fit slots ds) h in
          let b = taken_from same text m d ss in
          let x = taken-fits d ss p.0 k in
          let y = all_taken-fit ds b.shares p.1 x.shares in
          record { expressions = and_from (slots_fit slots b.expression) (all_slots_fit slots (all_taken_from same text m ds b.shares).expressions) x.expression y.expressions; shares = y.shares }
