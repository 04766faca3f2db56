-- Reads of a block that are made one after the other.
use Rattle.std.proofs.Common.{◌≡◌, refl, ap, ◌∙◌, sym, ℕ, ◌+◌, ◌<◌, ◌≤◌, Bool, true, false, cond, not, Some, List, [], ◌∷◌, ◌++◌, length, take, drop, get_or, Result, Ok, Err, arith, subst, IsErr, IsErrAnd}
use Rattle.std.specs.List.{filter, list_all}
use Rattle.std.specs.Str.{bytes_eq}
use Rattle.std.proofs.lemmas.Bool.{or_left, or_right, and_parts, and_from}
use Rattle.std.proofs.lemmas.List.{append_assoc, append-nil, map-append, take_more, take-append-drop}
use Rattle.std.proofs.lemmas.Slice.Eq.{bytes_eq-Decides}
use Rattle.vx_dtype.specs.Types.{Bytes}
use Rattle.vx_dtype.specs.TypeRules.{has_name}
use Rattle.vx_semantics.specs.Scans.{reads_in}
use Rattle.vx_io.specs.Counts.{one_more}
use Rattle.vx_scan.specs.Stores.{Read, StoreSeen, IsSameStore}
use Rattle.vx_scan.specs.Steps.{MakesReads, further_names}
use Rattle.vx_scan.specs.declared.errors.ScanError.{ScanError}
use Rattle.vx_scan.specs.declared.errors.ScanError.TheVariants as errors
use Rattle.vx_scan.proofs.RunLemmas.{logged}

-- reads end in one of three ways
pub by_reads : (reads : List Read) (before after : StoreSeen) (Gives : Result (Unit {0}) ScanError → Type 0)
    → ((u : Unit {0}) → MakesReads reads before after (Ok u) → Gives (Ok u))
    → (MakesReads reads before after (Err errors.StoreFault) → Gives (Err errors.StoreFault))
    → (MakesReads reads before after (Err errors.NoMemory) → Gives (Err errors.NoMemory))
    → (result : Result (Unit {0}) ScanError) → MakesReads reads before after result → Gives result
by_reads reads before after Gives ok fault memory (Ok u) h = ok u h
by_reads reads before after Gives ok fault memory (Err errors.StoreFault) h = fault h
by_reads reads before after Gives ok fault memory (Err errors.NoMemory) h = memory h
by_reads reads before after Gives ok fault memory (Err _) h = absurd h

pub one_more_later : (a b c : ℕ) → a ≤ b → one_more b ≤ c → one_more a ≤ c
one_more_later a b c h k = grind (arith, h, k)

-- no reads were made yet
pub reads_nothing : (seen : StoreSeen) → MakesReads [] seen seen (Ok tt)
reads_nothing seen = (sym (append-nil seen.log), refl)

-- all of some reads, and then others
pub reads_on : (xs ys : List Read) (a b c : StoreSeen) (result : Result (Unit {0}) ScanError) → IsSameStore a b
    → MakesReads xs a b (Ok tt) → MakesReads ys b c result → MakesReads (xs ++ ys) a c result
reads_on xs ys a b c result same h =
    by_reads ys b c (MakesReads (xs ++ ys) a c)
    (λ u k. (logged a.log b.log c.log xs ys h.0 k.0, k.1 ∙ h.1))
    (λ k. (
      k.0,
      xs ++ k.1,
      k.2,
      k.3,
      one_more_later a.faults b.faults c.faults same.later k.4,
      logged a.log b.log c.log xs k.1 h.0 k.5,
      ap (λ (rs : List Read). xs ++ rs) k.6 ∙ sym (append_assoc xs k.1 (k.0 ∷ k.2)),
    ))
    (λ k. (
      xs ++ k.0,
      k.1,
      k.2 ∙ h.1,
      logged a.log b.log c.log xs k.0 h.0 k.3,
      ap (λ (rs : List Read). xs ++ rs) k.4 ∙ sym (append_assoc xs k.0 k.1),
    ))
    result

-- reads that ended before their end, with more behind
abbrev StaysUnmade : List Read → StoreSeen → StoreSeen → Result (Unit {0}) ScanError → Type 0
StaysUnmade reads before after (Ok u) = Unit {0}
StaysUnmade reads before after (Err e) = MakesReads reads before after (Err e)

pub reads_more : (xs ys : List Read) (a b : StoreSeen) (e : ScanError) → MakesReads xs a b (Err e) → MakesReads (xs ++ ys) a b (Err e)
reads_more xs ys a b e =
    by_reads xs a b (StaysUnmade (xs ++ ys) a b)
    (λ u k. tt)
    (λ k. (k.0, k.1, k.2 ++ ys, k.3, k.4, k.5, ap (λ (rs : List Read). rs ++ ys) k.6 ∙ append_assoc k.1 (k.0 ∷ k.2) ys))
    (λ k. (k.0, k.1 ++ ys, k.2, k.3, ap (λ (rs : List Read). rs ++ ys) k.4 ∙ append_assoc k.0 k.1 ys))
    (Err e)

-- no memory after some reads, of more
pub reads_cut : (xs ys : List Read) (a b : StoreSeen) → MakesReads xs a b (Ok tt) → MakesReads (xs ++ ys) a b (Err errors.NoMemory)
reads_cut xs ys a b h = (xs, ys, h.1, h.0, refl)

pub reads_cut_all : (xs : List Read) (a b : StoreSeen) → MakesReads xs a b (Ok tt) → MakesReads xs a b (Err errors.NoMemory)
reads_cut_all xs a b h = (xs, [], h.1, h.0, sym (append-nil xs))

-- no memory before the first one
pub reads_uncut : (xs : List Read) (a : StoreSeen) → MakesReads xs a a (Err errors.NoMemory)
reads_uncut xs a = ([], xs, refl, sym (append-nil a.log), refl)

-- the further ones of some names, and of others
filter_onto : {X : Type 0} (p : X → Bool) (xs ys : List X) → filter p (xs ++ ys) ≡ filter p xs ++ filter p ys
filter_onto p [] ys = refl
filter_onto {X} p (x ∷ xs) ys = by-test (p x) (filter_onto p xs ys)
  where
    by-test : (b : Bool) → filter p (xs ++ ys) ≡ filter p xs ++ filter p ys → cond b (x ∷ filter p (xs ++ ys)) (filter p (xs ++ ys)) ≡ cond b (x ∷ filter p xs) (filter p xs) ++ filter p ys
    by-test true e = ap (λ (zs : List X). x ∷ zs) e
    by-test false e = e

further_append : (block : ℕ) (known xs ys : List Bytes)
    → reads_in block (further_names known (xs ++ ys)) ≡ reads_in block (further_names known xs) ++ reads_in block (further_names known ys)
further_append block known xs ys =
    ap (reads_in block) (filter_onto (λ c. not (has_name c known)) xs ys) ∙ map-append (λ c. (block, c)) (further_names known xs) (further_names known ys)

-- the reads of names up to a place and there
pub further_step : (block : ℕ) (known names : List Bytes) (i : ℕ) (name : Bytes) → i < length names → name ≡ get_or names i name
    → reads_in block (further_names known (take (i + 1) names)) ≡ reads_in block (further_names known (take i names)) ++ reads_in block (further_names known (name ∷ []))
further_step block known names i name l e =
    ap (λ (ns : List Bytes). reads_in block (further_names known ns)) (take_more names i name l ∙ ap (λ (n : Bytes). take i names ++ n ∷ []) (sym e))
    ∙ further_append block known (take i names) (name ∷ [])

-- the reads of all names are those up to a place and those behind
pub further_split : (block : ℕ) (known names : List Bytes) (i : ℕ)
    → reads_in block (further_names known names) ≡ reads_in block (further_names known (take i names)) ++ reads_in block (further_names known (drop i names))
further_split block known names i =
    ap (λ (ns : List Bytes). reads_in block (further_names known ns)) (sym (take-append-drop i names)) ∙ further_append block known (take i names) (drop i names)

-- where none is known each is a further one
pub none_known : (names : List Bytes) → further_names [] names ≡ names
none_known [] = refl
none_known (n ∷ names) = ap (λ (ns : List Bytes). n ∷ ns) (none_known names)

-- names that are picked out of others are among them
wider : (n : Bytes) (all names : List Bytes) → list_all (λ c. has_name c all) names ≡ true → list_all (λ c. has_name c (n ∷ all)) names ≡ true
wider n all [] h = refl
wider n all (m ∷ names) h =
    let parts = and_parts (has_name m all) (list_all (λ c. has_name c all) names) h in
    and_from (has_name m (n ∷ all)) (list_all (λ c. has_name c (n ∷ all)) names) (or_right (bytes_eq m n) (has_name m all) parts.0) (wider n all names parts.1)

pub picked_are_there : (p : Bytes → Bool) (names : List Bytes) → list_all (λ c. has_name c names) (filter p names) ≡ true
picked_are_there p [] = refl
picked_are_there p (n ∷ names) = by-test (p n) (wider n names (filter p names) (picked_are_there p names))
  where
    by-test : (b : Bool) → list_all (λ c. has_name c (n ∷ names)) (filter p names) ≡ true → list_all (λ c. has_name c (n ∷ names)) (cond b (n ∷ filter p names) (filter p names)) ≡ true
    by-test true h =
        and_from (has_name n (n ∷ names)) (list_all (λ c. has_name c (n ∷ names)) (filter p names))
        (or_left (bytes_eq n n) (has_name n names) ((bytes_eq-Decides n n).1 refl)) h
    by-test false h = h

-- the loop over names: it goes on, it stops at a read, or there is no memory for a column
pub loop_goes : (block : ℕ) (known names : List Bytes) (i : ℕ) (name : Bytes) (a m b : StoreSeen) → i < length names → name ≡ get_or names i name → IsSameStore a m
    → MakesReads (reads_in block (further_names known (take i names))) a m (Ok tt) → MakesReads (reads_in block (further_names known (name ∷ []))) m b (Ok tt)
    → MakesReads (reads_in block (further_names known (take (i + 1) names))) a b (Ok tt)
loop_goes block known names i name a m b l e s h k =
    subst (λ (rs : List Read). MakesReads rs a b (Ok tt)) (sym (further_step block known names i name l e))
    (reads_on (reads_in block (further_names known (take i names))) (reads_in block (further_names known (name ∷ []))) a m b (Ok tt) s h k)

pub loop_stops : (block : ℕ) (known names : List Bytes) (i : ℕ) (name : Bytes) (a m b : StoreSeen) (err : ScanError) → i < length names → name ≡ get_or names i name → IsSameStore a m
    → MakesReads (reads_in block (further_names known (take i names))) a m (Ok tt) → MakesReads (reads_in block (further_names known (name ∷ []))) m b (Err err)
    → MakesReads (reads_in block (further_names known names)) a b (Err err)
loop_stops block known names i name a m b err l e s h k =
    let xs = reads_in block (further_names known (take i names)) in
    let ys = reads_in block (further_names known (name ∷ [])) in
    subst (λ (rs : List Read). MakesReads rs a b (Err err)) (sym (further_split block known names (i + 1)))
    (subst (λ (rs : List Read). MakesReads (rs ++ reads_in block (further_names known (drop (i + 1) names))) a b (Err err)) (sym (further_step block known names i name l e))
    (reads_more (xs ++ ys) (reads_in block (further_names known (drop (i + 1) names))) a b err (reads_on xs ys a m b (Err err) s h k)))

pub loop_cut : (block : ℕ) (known names : List Bytes) (i : ℕ) (name : Bytes) (a m b : StoreSeen) → i < length names → name ≡ get_or names i name → IsSameStore a m
    → MakesReads (reads_in block (further_names known (take i names))) a m (Ok tt) → MakesReads (reads_in block (further_names known (name ∷ []))) m b (Ok tt)
    → MakesReads (reads_in block (further_names known names)) a b (Err errors.NoMemory)
loop_cut block known names i name a m b l e s h k =
    subst (λ (rs : List Read). MakesReads rs a b (Err errors.NoMemory)) (sym (further_split block known names (i + 1)))
    (reads_cut (reads_in block (further_names known (take (i + 1) names))) (reads_in block (further_names known (drop (i + 1) names))) a b
    (loop_goes block known names i name a m b l e s h k))

-- a read of the store that failed
pub read_fails : (a b : StoreSeen) (block : ℕ) (name : Bytes) → (one_more a.faults ≤ b.faults) × (b.log ≡ a.log) × (b.failed ≡ Some (block, name)) → MakesReads ((block, name) ∷ []) a b (Err errors.StoreFault)
read_fails a b block name h = ((block, name), [], [], h.2, h.0, h.1 ∙ sym (append-nil a.log), refl)

-- the error that comes out is the one that went in
pub the_error : {X E : Type 0} (r : Result X E) (e : E) → IsErr r → IsErrAnd r (λ x. x ≡ e) → r ≡ Err e
the_error (Ok x) e h k = let no : ⊥ = cc in absurd no
the_error (Err x) e h k = λ i. Err (k i)
