-- Statistics whose values grow one after another.
use Rattle.std.proofs.Common.{◌≡◌, refl, sym, ap, ◌∙◌, ℕ, zero, suc, ◌+◌, ◌<◌, Some, option_map, List, [], ◌∷◌, map, length, get_or, set, arith, slice_get}
use Rattle.std.proofs.lemmas.List.{map-set}
use Rattle.std.proofs.lemmas.Option.{slice_get-map, slice_get_within, get_or_from_slice_get}
use Rattle.vx_semantics.specs.Tables.{ZoneStat}
use Rattle.vx_laws_shell.specs.Folders.{stat_before, stats_before}

-- the first so many have the values of others behind their own
abbrev pub first_before : ℕ → List ZoneStat → List ZoneStat → List ZoneStat
first_before zero zs os = zs
first_before (suc n) (z ∷ zs) (o ∷ os) = stat_before z o ∷ first_before n zs os
first_before (suc n) zs _ = zs

pub all_before : (zs os : List ZoneStat) → length zs ≡ length os → first_before (length os) zs os ≡ stats_before zs os
all_before [] [] e = refl
all_before [] (o ∷ os) e = refl
all_before (z ∷ zs) [] e = let no : ⊥ = omega (arith, e) in absurd no
all_before (z ∷ zs) (o ∷ os) e = ap (λ (rest : List ZoneStat). stat_before z o ∷ rest) (all_before zs os (omega (arith, e)))

-- the next one is as it was
pub still_there : (n : ℕ) (zs os : List ZoneStat) (d : ZoneStat) → length zs ≡ length os → n < length os → get_or (first_before n zs os) n d ≡ get_or zs n d
still_there zero zs os d e h = refl
still_there (suc n) [] os d e h = refl
still_there (suc n) (z ∷ zs) [] d e h = refl
still_there (suc n) (z ∷ zs) (o ∷ os) d e h = still_there n zs os d (omega (arith, e)) (omega (arith, h))

one_further : (n : ℕ) (zs os : List ZoneStat) (d : ZoneStat) → length zs ≡ length os → n < length os
    → first_before (suc n) zs os ≡ set (first_before n zs os) n (stat_before (get_or zs n d) (get_or os n d))
one_further zero [] os d e h = let no : ⊥ = omega (arith, e, h) in absurd no
one_further zero (z ∷ zs) [] d e h = let no : ⊥ = omega (arith, h) in absurd no
one_further zero (z ∷ zs) (o ∷ os) d e h = refl
one_further (suc n) [] os d e h = let no : ⊥ = omega (arith, e, h) in absurd no
one_further (suc n) (z ∷ zs) [] d e h = let no : ⊥ = omega (arith, h) in absurd no
one_further (suc n) (z ∷ zs) (o ∷ os) d e h =
    ap (λ (rest : List ZoneStat). stat_before z o ∷ rest) (one_further n zs os d (omega (arith, e)) (omega (arith, h)))

pub one_more_before : (n : ℕ) (zs os : List ZoneStat) (d : ZoneStat) → length zs ≡ length os → n < length os
    → first_before (n + 1) zs os ≡ set (first_before n zs os) n (stat_before (get_or zs n d) (get_or os n d))
one_more_before n zs os d e h =
    let more : n + 1 ≡ suc n = omega arith in ap (λ (m : ℕ). first_before m zs os) more ∙ one_further n zs os d e h

-- one statistic more has grown
pub grown_further : {X Y : Type 0} (v : X → ZoneStat) (w : Y → ZoneStat) (zs : List ZoneStat) (growing : List X) (stats : List Y) (n : ℕ) (g next : X) (s : Y)
    → length zs ≡ length (map w stats) → slice_get growing n ≡ Some g → slice_get stats n ≡ Some s → v next ≡ stat_before (v g) (w s)
    → map v growing ≡ first_before n zs (map w stats) → map v (set growing n next) ≡ first_before (n + 1) zs (map w stats)
grown_further v w zs growing stats n g next s same a b e h =
    let os = map w stats in
    let own : slice_get (map v growing) n ≡ Some (v g) = slice_get-map v growing n ∙ ap (option_map v) a in
    let other : slice_get os n ≡ Some (w s) = slice_get-map w stats n ∙ ap (option_map w) b in
    let within : n < length os = slice_get_within os n (w s) other in
    let there : get_or zs n (v g) ≡ v g =
    sym (still_there n zs os (v g) same within) ∙ ap (λ (ws : List ZoneStat). get_or ws n (v g)) (sym h) ∙ get_or_from_slice_get (map v growing) n (v g) (v g) own in
    let behind : get_or os n (v g) ≡ w s = get_or_from_slice_get os n (w s) (v g) other in
    let both : stat_before (get_or zs n (v g)) (get_or os n (v g)) ≡ stat_before (v g) (w s) = λ i. stat_before (there i) (behind i) in
    map-set v growing n next ∙ (λ i. set (h i) n (e i)) ∙ ap (set (first_before n zs os) n) (sym both) ∙ sym (one_more_before n zs os (v g) same within)
