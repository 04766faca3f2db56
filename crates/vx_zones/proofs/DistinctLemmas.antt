-- Statistics that stand twice, by an ordered set of the names of kinds and paths.
use Rattle.std.proofs.Common.{◌≡◌, Bool, true, false, ◌&&◌, ◌||◌, not, cond, ℕ, zero, suc, ◌+◌, ◌<◌, List, [], ◌∷◌, length, map, drop, refl, ap, sym, ◌∙◌}
use Rattle.std.proofs.Math.ListN.{get_or}
use Rattle.std.proofs.lemmas.List.{drop_more}
use Rattle.std.specs.declared.cmp.Ordering.{Ordering}
use Rattle.std.specs.Cmp.Lexicographic.{slice_cmp, lists_ties, texts_ties}
use Rattle.std.specs.List.{list_any}
use Rattle.std.specs.Ordering.{is_eq, nat_cmp}
use Rattle.std.specs.Str.{bytes_eq}
use Rattle.vx_dtype.specs.declared.Stat.{Stat}
use Rattle.vx_dtype.specs.declared.Stat.TheVariants.{Min, Max, NaNCount, NullCount}
use Rattle.vx_dtype.specs.Equal.{names_eq}
use Rattle.vx_dtype.specs.EqualLaws.{names_eq_equiv}
use Rattle.vx_dtype.specs.StatNames.{stat_name}
use Rattle.vx_dtype.specs.Types.{Bytes}
use Rattle.vx_semantics.specs.Tables.{ZoneStat, same_stat}
use Rattle.vx_semantics.specs.Pruning.{is_statistic}
use Rattle.vx_zones.specs.OwnNames.{own_names}
use Rattle.vx_zones.specs.Zoning.{distinct_statistics}

-- the order of the set
abbrev pub names_cmp : List Bytes → List Bytes → Ordering
names_cmp = slice_cmp (slice_cmp nat_cmp)

-- names are equal where neither stands before the other
names-tied : (xs ys : List Bytes) → is_eq (names_cmp xs ys) ≡ names_eq xs ys
names-tied xs ys = sym (lists_ties (slice_cmp nat_cmp) texts_ties xs ys)

kinds : (s t : Stat) → bytes_eq (stat_name s) (stat_name t) ≡ same_stat s t
kinds Min Min = refl
kinds Max Max = refl
kinds NaNCount NaNCount = refl
kinds NullCount NullCount = refl
kinds _ _ = refl

both-ways : (a b : Bool) → (a && b) ≡ (b && a)
both-ways true true = refl
both-ways true false = refl
both-ways false true = refl
both-ways false false = refl

-- whether one of these statistics has these names
abbrev pub has_names : List Bytes → List ZoneStat → Bool
has_names names zs = list_any (λ z. names_eq names (own_names z)) zs

-- two statistics have the same names where they are of one path and kind
own-names-same : (z y : ZoneStat) → names_eq (own_names z) (own_names y) ≡ is_statistic z.path z.stat y
own-names-same z y =
    ap (λ (b : Bool). b && names_eq z.path y.path) (kinds z.stat y.stat) ∙ both-ways (same_stat z.stat y.stat) (names_eq z.path y.path)

has-own-names : (z : ZoneStat) (zs : List ZoneStat) → has_names (own_names z) zs ≡ list_any (is_statistic z.path z.stat) zs
has-own-names z zs = λ i. list_any (λ y. own-names-same z y i) zs

and_false : (a : Bool) → (a && false) ≡ false
and_false true = refl
and_false false = refl

second_false : (a b : Bool) → a ≡ true → (not a && b) ≡ false
second_false true b h = refl
second_false false b h = absurd cc

both : (a b : Bool) → a ≡ false → b ≡ true → (not a && b) ≡ true
both a b p q = cc

either : (a b : Bool) → cond a true b ≡ (a || b)
either true b = refl
either false b = refl

module _ {X : Type 0} (see : X → ZoneStat) where
  -- statistics of which one stands twice among those from a place on have one that stands twice
  twice-from : (xs : List X) (i : ℕ) → distinct_statistics (map see (drop i xs)) ≡ false → distinct_statistics (map see xs) ≡ false
  twice-from xs zero h = h
  twice-from [] (suc i) h = h
  twice-from (x ∷ xs) (suc i) h =
      let stands = list_any (is_statistic (see x).path (see x).stat) (map see xs) in
      ap (λ b. not stands && b) (twice-from xs i h) ∙ and_false (not stands)

  module _ (xs : List X) (i left : ℕ) (x : X) (names : List Bytes) (next : i + 1 ≡ left) (within : i < length xs) (is : x ≡ get_or xs i x) (own : names ≡ own_names (see x)) where
    from_here : map see (drop i xs) ≡ see x ∷ map see (drop left xs)
    from_here = ap (map see) (drop_more xs i x within ∙ ap (λ y. y ∷ drop (i + 1) xs) (sym is) ∙ ap (λ k. x ∷ drop k xs) next)

    again : has_names names (map see (drop left xs)) ≡ list_any (is_statistic (see x).path (see x).stat) (map see (drop left xs))
    again = ap (λ ns. has_names ns (map see (drop left xs))) own ∙ has-own-names (see x) (map see (drop left xs))

    -- a statistic that stands again behind its place stands twice
    pub stands_twice : has_names names (map see (drop left xs)) ≡ true → false ≡ distinct_statistics (map see xs)
    stands_twice h =
        let behind = map see (drop left xs) in
        sym (twice-from xs i (ap distinct_statistics from_here ∙ second_false (list_any (is_statistic (see x).path (see x).stat) behind) (distinct_statistics behind) (sym again ∙ h)))

    -- one that does not is distinct from those behind it
    pub stands_once : has_names names (map see (drop left xs)) ≡ false → distinct_statistics (map see (drop left xs)) ≡ true → distinct_statistics (map see (drop i xs)) ≡ true
    stands_once h d =
        let behind = map see (drop left xs) in
        ap distinct_statistics from_here ∙ both (list_any (is_statistic (see x).path (see x).stat) behind) (distinct_statistics behind) (sym again ∙ h) d

    -- a set of the names of those behind it, with its own, has the names of those from its place on
    pub one_more : (k : List Bytes) (was now : Bool) → was ≡ has_names k (map see (drop left xs)) → now ≡ cond (is_eq (names_cmp names k)) true was → now ≡ has_names k (map see (drop i xs))
    one_more k was now h e =
        let same = names-tied names k ∙ names_eq_equiv.symm names k ∙ ap (names_eq k) own in
        e ∙ ap (λ b. cond b true was) same ∙ either (names_eq k (own_names (see x))) was ∙ ap (λ b. names_eq k (own_names (see x)) || b) h ∙ sym (ap (has_names k) from_here)
