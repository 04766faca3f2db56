-- What is read of a range is what it spells, and what it spells is read.
use Rattle.std.proofs.Common.{◌≡◌, refl, sym, ap, ◌∙◌, subst, append_assoc, append-nil, ℕ, zero, suc, Option, Some, None, List, [], ◌∷◌, ◌++◌, length, replicate, unwrap_or, arith}
use Rattle.std.specs.List.{AllByRecursion}
use Rattle.std.proofs.lemmas.Option.{none-some, same_Some}
use Rattle.vx_dtype.specs.Types.{Bytes, Ty}
use Rattle.vx_dtype.specs.Values.{Val, valued}
use Rattle.vx_wire_bytes.specs.Reading.{◌>>=◌}
use Rattle.vx_wire_bytes.specs.ValueForms.{value_bytes}
use Rattle.vx_wire_bytes.specs.ValueReading.{value_at}
use Rattle.vx_wire_bytes.proofs.NumberLemmas.{IsBytes, bind_some, some_is, Takes, Takes-then}
use Rattle.vx_wire_bytes.proofs.ValueLemmas.{value_again, value_takes}
use Rattle.vx_laws_file.specs.Cells.{raw_value, IsCell, cell_bytes, range_bytes}
use Rattle.vx_laws_file.specs.Ranges.{SpellsRange}
use Rattle.vx_laws_file.specs.HeldTables.{filler, values_at, with_none_behind, range_values}
use Rattle.vx_laws_file.specs.FileLaws.{OneRange, RangeValuesAreSpelled, SpelledValuesAreRead, HeldValuesAreRead, DamagedValuesAreFillers}
use Rattle.vx_laws_file.proofs.Lists.{each_free}
use Rattle.vx_laws_file.proofs.CellLemmas.{fits_raw, valued_raw, raw_valued, value_cell, cell_free}

pub one_range : OneRange
one_range t n range vs ws p q =
    (each_free (cell_bytes t) (IsCell t) (cell_free t) vs ws [] [] p.cells q.cells (p.number ∙ sym q.number) (ap (λ (b : Bytes). b ++ []) (sym p.spelled ∙ q.spelled))).0

-- ---- what is spelled is read

values_again : (t : Ty) (vs : List Val) (rest : Bytes) → AllByRecursion (IsCell t) vs → values_at t (length vs) (range_bytes t vs ++ rest) ≡ Some (vs, rest)
values_again t [] rest p = refl
values_again t (v ∷ vs) rest p =
    let n = length vs in
    let others = range_bytes t vs in
    ap (values_at t (suc n)) (append_assoc (cell_bytes t v) others rest)
    ∙ ap (λ o. o >>= λ x. values_at t n x.1 >>= λ ws. Some (valued x.0 t ∷ ws.0, ws.1)) (value_again (raw_value v) t (others ++ rest) (fits_raw v t p.0.fit) p.0.texts)
    ∙ ap (λ o. o >>= λ ws. Some (valued (raw_value v) t ∷ ws.0, ws.1)) (values_again t vs rest p.1)
    ∙ ap (λ w. Some (w ∷ vs, rest)) (valued_raw v t p.0.fit)

pub values_read : SpelledValuesAreRead
unfolding range_values
values_read t n range vs p =
    let same : range ≡ range_bytes t vs ++ [] = p.spelled ∙ sym (append-nil (range_bytes t vs)) in
    ap (λ k. range_values t k range) (sym p.number)
    ∙ ap (range_values t (length vs)) same
    ∙ ap (λ o. o >>= λ ws. with_none_behind ws.0 ws.1) (values_again t vs [] p.cells)

-- ---- what is read is spelled

-- values that were taken from the front
pub record TakesValues (t : Ty) (n : ℕ) (bytes : Bytes) (vs : List Val) (rest : Bytes) : Type 0 where
  pub taken : Takes bytes (range_bytes t vs) rest
  pub cells : AllByRecursion (IsCell t) vs
  pub number : length vs ≡ n

values_take : (t : Ty) (n : ℕ) (bytes : Bytes) (x : List Val × Bytes) → IsBytes bytes → values_at t n bytes ≡ Some x → TakesValues t n bytes x.0 x.1
values_take t zero bytes x here e =
    subst (λ (y : List Val × Bytes). TakesValues t 0 bytes y.0 y.1) (some_is ([], bytes) x e) (record { taken = record { parts = refl; fits = here }; cells = tt; number = refl })
values_take t (suc n) bytes x here e =
    let a = bind_some (value_at t bytes) (λ y. values_at t n y.1 >>= λ vs. Some (valued y.0 t ∷ vs.0, vs.1)) x e in
    let b = bind_some (values_at t n a.0.1) (λ vs. Some (valued a.0.0 t ∷ vs.0, vs.1)) x a.2 in
    let first = value_takes t bytes a.0 here a.1 in
    let others = values_take t n a.0.1 b.0 first.taken.fits b.1 in
    let made : List Val × Bytes = (valued a.0.0 t ∷ b.0.0, b.0.1) in
    let own : Takes bytes (cell_bytes t (valued a.0.0 t)) a.0.1 =
    subst (λ r. Takes bytes (value_bytes t r) a.0.1) (sym (raw_valued a.0.0 t first.fit)) first.taken in
    subst (λ (y : List Val × Bytes). TakesValues t (suc n) bytes y.0 y.1) (some_is made x b.2) (record {
      taken = Takes-then bytes (cell_bytes t (valued a.0.0 t)) a.0.1 (range_bytes t b.0.0) b.0.1 own others.taken;
      cells = (value_cell t a.0.0 first.fit first.texts, others.cells);
      number = omega (arith, others.number);
    })

none_behind : (vs : List Val) (rest : Bytes) (ws : List Val) → with_none_behind vs rest ≡ Some ws → (rest ≡ []) × (vs ≡ ws)
none_behind vs [] ws e = (refl, same_Some vs ws e)
none_behind vs (b ∷ rest) ws e = absurd (none-some ws e)

pub values_spelled : RangeValuesAreSpelled
unfolding range_values
values_spelled t n range ws here e =
    let a = bind_some (values_at t n range) (λ vs. with_none_behind vs.0 vs.1) ws e in
    let b = none_behind a.0.0 a.0.1 ws a.2 in
    let taken = values_take t n range a.0 here a.1 in
    let same : range ≡ range_bytes t a.0.0 = taken.taken.parts ∙ ap (λ (r : Bytes). range_bytes t a.0.0 ++ r) b.0 ∙ append-nil (range_bytes t a.0.0) in
    subst (SpellsRange t n range) b.1 (record { number = taken.number; cells = taken.cells; spelled = same })

-- ---- what is held

pub held_values_read : HeldValuesAreRead
held_values_read t n range vs p = ap (λ (o : Option (List Val)). unwrap_or o (replicate n (filler t))) (values_read t n range vs p)

pub damaged_are_fillers : DamagedValuesAreFillers
damaged_are_fillers t n range here none = by (range_values t n range) refl
  where
    by : (o : Option (List Val)) → range_values t n range ≡ o → unwrap_or o (replicate n (filler t)) ≡ replicate n (filler t)
    by None e = refl
    by (Some vs) e = absurd (none vs (values_spelled t n range vs here e))

-- so many values are read, of whatever bytes
values_count : (t : Ty) (n : ℕ) (bytes : Bytes) (x : List Val × Bytes) → values_at t n bytes ≡ Some x → length x.0 ≡ n
values_count t zero bytes x e = ap (λ (y : List Val × Bytes). length y.0) (sym (some_is ([], bytes) x e))
values_count t (suc n) bytes x e =
    let a = bind_some (value_at t bytes) (λ y. values_at t n y.1 >>= λ vs. Some (valued y.0 t ∷ vs.0, vs.1)) x e in
    let b = bind_some (values_at t n a.0.1) (λ vs. Some (valued a.0.0 t ∷ vs.0, vs.1)) x a.2 in
    let rest = values_count t n a.0.1 b.0 b.1 in
    let made : List Val × Bytes = (valued a.0.0 t ∷ b.0.0, b.0.1) in
    ap (λ (y : List Val × Bytes). length y.0) (sym (some_is made x b.2)) ∙ ap suc rest

pub range_count : (t : Ty) (n : ℕ) (range : Bytes) (vs : List Val) → range_values t n range ≡ Some vs → length vs ≡ n
unfolding range_values
range_count t n range vs e =
    let a = bind_some (values_at t n range) (λ ws. with_none_behind ws.0 ws.1) vs e in
    let b = none_behind a.0.0 a.0.1 vs a.2 in
    ap length (sym b.1) ∙ values_count t n range a.0 a.1
