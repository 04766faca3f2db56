-- What is noted of joined names tells which statistics are available.
use Rattle.std.proofs.Common.{◌≡◌, ℕ, suc, ◌+◌, ◌<◌, refl, ap, sym, ◌∙◌, Bool, true, false, cond, Option, List, [], ◌∷◌, ◌++◌, append_assoc, map, drop, get_or, drop-cons, add-one, arith}
use Rattle.std.specs.Prelude.{length}
use Rattle.std.specs.List.{filter}
use Rattle.std.specs.Str.{bytes_eq}
use Rattle.std.proofs.lemmas.List.{length-map}
use Rattle.vx_dtype.specs.Types.{Bytes}
use Rattle.vx_semantics.specs.Tables.{Zones, ZoneStat}
use Rattle.vx_passes.specs.PruningTables.{available_statistics}
use Rattle.vx_prune.specs.Standing.{noted_of, standing, is_once}
use Rattle.vx_prune.proofs.StandingLemmas.{once-noted, by-filter}
use Rattle.vx_laws_pruning.proofs.AvailableStatistics.{is_alone_in, available-alone}
use Rattle.vx_block_pruning.specs.Available.{flagged, name_of, TellsAvailable}

flagged-mapped : {X : Type 0} (keeps : X → Bool) (xs : List X) → flagged (map keeps xs) xs ≡ filter keeps xs
flagged-mapped keeps [] = refl
flagged-mapped keeps (x ∷ xs) = ap (λ ys. cond (keeps x) (x ∷ ys) ys) (flagged-mapped keeps xs)

-- the item at a place, where it is flagged, and those behind it
flagged-next : {X : Type 0} (bs : List Bool) (xs : List X) (i : ℕ) (x : X) (d : Bool) → length bs ≡ length xs → i < length xs → x ≡ get_or xs i x
    → flagged (drop i bs) (drop i xs) ≡ cond (get_or bs i d) (x ∷ flagged (drop (i + 1) bs) (drop (i + 1) xs)) (flagged (drop (i + 1) bs) (drop (i + 1) xs))
flagged-next bs xs i x d many within is =
    let flags : drop i bs ≡ get_or bs i d ∷ drop (i + 1) bs = rw (add-one) (drop-cons bs i d (omega arith)) in
    let items : drop i xs ≡ x ∷ drop (i + 1) xs = rw (add-one) (drop-cons xs i x within ∙ ap (λ y. y ∷ drop (suc i) xs) (sym is)) in
    λ j. flagged (flags j) (items j)

-- what is made of the flagged items, one further on
pub flagged-kept : {X Y : Type 0} (make : X → Y) (bs : List Bool) (xs : List X) (i : ℕ) (x : X) (d : Bool) (before : List Y) → length bs ≡ length xs → i < length xs → x ≡ get_or xs i x
    → get_or bs i d ≡ true → (before ++ make x ∷ []) ++ map make (flagged (drop (i + 1) bs) (drop (i + 1) xs)) ≡ before ++ map make (flagged (drop i bs) (drop i xs))
flagged-kept make bs xs i x d before many within is flag =
    let rest = flagged (drop (i + 1) bs) (drop (i + 1) xs) in
    let next = flagged-next bs xs i x d many within is ∙ ap (λ (b : Bool). cond b (x ∷ rest) rest) flag in
    append_assoc before (make x ∷ []) (map make rest) ∙ ap (λ ys. before ++ map make ys) (sym next)

pub flagged-left : {X Y : Type 0} (make : X → Y) (bs : List Bool) (xs : List X) (i : ℕ) (x : X) (d : Bool) (before : List Y) → length bs ≡ length xs → i < length xs → x ≡ get_or xs i x
    → get_or bs i d ≡ false → before ++ map make (flagged (drop (i + 1) bs) (drop (i + 1) xs)) ≡ before ++ map make (flagged (drop i bs) (drop i xs))
flagged-left make bs xs i x d before many within is flag =
    let rest = flagged (drop (i + 1) bs) (drop (i + 1) xs) in
    let next = flagged-next bs xs i x d many within is ∙ ap (λ (b : Bool). cond b (x ∷ rest) rest) flag in
    ap (λ ys. before ++ map make ys) (sym next)

map-twice : {X Y Z : Type 0} (g : Y → Z) (f : X → Y) (xs : List X) → map g (map f xs) ≡ map (λ x. g (f x)) xs
map-twice g f [] = refl
map-twice g f (x ∷ xs) = ap (λ zs. g (f x) ∷ zs) (map-twice g f xs)

filter-mapped : {X Y : Type 0} (p : Y → Bool) (f : X → Y) (xs : List X) → filter p (map f xs) ≡ map f (filter (λ x. p (f x)) xs)
filter-mapped p f [] = refl
filter-mapped p f (x ∷ xs) = by-test (p (f x)) (filter-mapped p f xs)
  where
    by-test : (b : Bool) → filter p (map f xs) ≡ map f (filter (λ y. p (f y)) xs)
        → cond b (f x ∷ filter p (map f xs)) (filter p (map f xs)) ≡ map f (cond b (x ∷ filter (λ y. p (f y)) xs) (filter (λ y. p (f y)) xs))
    by-test true h = ap (λ ys. f x ∷ ys) h
    by-test false h = h

module _ (zones : Zones) (zs : List ZoneStat) (joined : List Bytes) (noted : Bytes → Option Bool) (stats : zs ≡ zones.stats) (named : joined ≡ map name_of zs)
    (h : (n : Bytes) → noted n ≡ standing joined n) where
  -- the test by what is noted
  abbrev is_alone : Bytes → Bool
  is_alone n = is_once (noted n)

  alone-in : (z : ZoneStat) → is_alone (name_of z) ≡ is_alone_in zs z
  alone-in z =
      let n = name_of z in
      ap is_once (h n ∙ ap (λ ns. standing ns n) named) ∙ (ap (λ k. is_once (noted_of k)) (by-filter (bytes_eq n) name_of zs) ∙ once-noted (length (filter (λ y. bytes_eq n (name_of y)) zs)))

  -- the statistics whose joined names stand once are the available ones
  alone-available : filter (λ z. is_alone (name_of z)) zs ≡ available_statistics zones
  alone-available = (λ i. filter (λ z. alone-in z i) zs) ∙ ((λ i. filter (is_alone_in (stats i)) (stats i)) ∙ sym (available-alone zones))

  -- what is noted of joined names tells which statistics are available
  pub available-told : (flags : List Bool) (names : List Bytes) → flags ≡ map is_alone joined → names ≡ filter is_alone joined → TellsAvailable zones flags names
  available-told flags names p q =
      let keeps : ZoneStat → Bool = λ z. is_alone (name_of z) in
      let flagging : flags ≡ map keeps zs = p ∙ (ap (map is_alone) named ∙ map-twice is_alone name_of zs) in
      record {
        many = ap length flagging ∙ (length-map zs keeps ∙ ap length stats);
        kept = (λ i. flagged (flagging i) (sym stats i)) ∙ (flagged-mapped keeps zs ∙ alone-available);
        named = q ∙ (ap (filter is_alone) named ∙ (filter-mapped is_alone name_of zs ∙ ap (map name_of) alone-available));
      }
