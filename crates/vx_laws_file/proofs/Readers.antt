-- Readers of spellings: what was written is read again, and what is read is spelled so.
use Rattle.std.proofs.Common.{drop, ◌≡◌, refl, sym, ap, ◌∙◌, subst, append_assoc, ℕ, zero, suc, ◌≤◌, Bool, true, false, cond, nat_eq, nat_le, Option, Some, None, List, [], ◌∷◌, ◌++◌, length, sum, arith}
use Rattle.std.specs.List.{AllByRecursion, flat_map}
use Rattle.std.specs.Option.{option_and_then}
use Rattle.std.proofs.lemmas.Bool.{and_from, eqb-true, leb-true, le-leb, eq-eqb}
use Rattle.std.proofs.lemmas.Option.{cond_some}
use Rattle.vx_dtype.specs.declared.Nullability.TheVariants.{Nullable}
use Rattle.vx_dtype.specs.declared.Stat.{Stat}
use Rattle.vx_dtype.specs.declared.Stat.TheVariants.{Min, Max, NaNCount, NullCount}
use Rattle.vx_dtype.specs.Types.{Bytes, Ty, Fields, no_fields, field}
use Rattle.vx_dtype.specs.TypeRules.{depth_of, depth_below, most_deep, with_nullability}
use Rattle.vx_dtype.specs.Equal.{ty_eq}
use Rattle.vx_dtype.specs.EqualLaws.{ty_decides}
use Rattle.vx_dtype.specs.Values.{Typed}
use Rattle.vx_dtype.specs.ScalarAnswers.{typed}
use Rattle.vx_semantics.specs.Tables.{ZoneStat, row_type}
use Rattle.vx_zones.specs.Zoning.{are_shallow, leaf_type, statistic_type, type_of_statistic, values_have}
use Rattle.vx_wire_bytes.specs.Numbers.{number_bytes, piece_bytes}
use Rattle.vx_wire_bytes.specs.Fields.{IsFieldAt, IsNumber, IsText}
use Rattle.vx_wire_bytes.specs.Reading.{◌>>=◌, number_at, text_at}
use Rattle.vx_wire_bytes.specs.TypeForms.{fields_number, type_bytes, fields_bytes, HasNames, IsType}
use Rattle.vx_wire_bytes.specs.TypeReading.{fields_with, type_at}
use Rattle.vx_wire_bytes.specs.ValueForms.{value_bytes, IsValue}
use Rattle.vx_wire_bytes.specs.ValueReading.{value_at}
use Rattle.vx_wire_bytes.proofs.NumberLemmas.{IsBytes, IsBytes-rest, bind_some, some_is, Takes, Takes-then, number_takes, number_again}
use Rattle.vx_wire_bytes.proofs.HeadLemmas.{text_takes, text_again}
use Rattle.vx_wire_bytes.proofs.TypeLemmas.{type_takes, type_again, fields_again, fields_take}
use Rattle.vx_wire_bytes.proofs.PlaceFields.{bytes_from}
use Rattle.vx_wire_bytes.proofs.ValueLemmas.{value_takes, value_again}
use Rattle.vx_laws_file.specs.FileForms.{most_rows, counted_bytes, AreCounted, stat_byte, scalar_bytes, statistic_bytes, IsStatistic, lengths_bytes, AreRangeLengths}
use Rattle.vx_laws_file.specs.HeaderReading.{items_with, counted_with, columns_at, stat_numbered, stat_at, scalar_at, statistic_of, scalars_with, statistic_by, statistic_at, lengths_at, range_lengths_at}
use Rattle.vx_laws_file.proofs.Lists.{each_so, each_both}
use Rattle.vx_laws_file.proofs.Headers.{IsScalarOf, shallow_below, has_type}

-- what was spelled is read, with what stands behind it; and what is read was taken from the front, and has that spelling
pub record IsReader {A : Type 0} (spelling : A → Bytes) (P : A → Type 0) (read : Bytes → Option (A × Bytes)) : Type 0 where
  pub again : (x : A) (rest : Bytes) → P x → read (spelling x ++ rest) ≡ Some (x, rest)
  pub takes : (bytes : Bytes) (x : A × Bytes) → IsBytes bytes → read bytes ≡ Some x → Takes bytes (spelling x.0) x.1 × P x.0

pub number_reader : IsReader number_bytes IsNumber number_at
number_reader = record { again = number_again; takes = number_takes }

pub text_reader : IsReader piece_bytes IsText text_at
text_reader = record {
  again = λ x rest p. text_again x rest p.short p.utf8;
  takes = λ bytes x here e. let t = text_takes bytes x here e in (t.0, record { utf8 = t.2; short = t.1 });
}

pub type_reader : IsReader type_bytes IsType (type_at most_deep)
type_reader = record {
  again = λ t rest p. type_again t most_deep rest p.names p.depth;
  takes = λ bytes x here e. let t = type_takes most_deep bytes x here e in (t.taken, record { names = t.names; depth = t.depth });
}

pub value_reader : (t : Ty) → IsReader (value_bytes t) (IsValue t) (value_at t)
value_reader t = record {
  again = λ x rest p. value_again x t rest p.fit p.texts;
  takes = λ bytes x here e. let v = value_takes t bytes x here e in (v.taken, record { fit = v.fit; texts = v.texts });
}

-- ---- fields at places

-- what stands at a place is read there, and the place after it is where reading goes on
pub field_read : {A : Type 0} (spelling : A → Bytes) (P : A → Type 0) (read : Bytes → Option (A × Bytes)) → IsReader spelling P read
    → (bytes : Bytes) (at : ℕ) (x : A) (after : ℕ) → IsFieldAt spelling P bytes at (Some (x, after)) → read (drop at bytes) ≡ Some (x, drop after bytes)
field_read spelling P read reader bytes at x after h = ap read h.1.stands ∙ reader.again x (drop after bytes) h.0

-- where nothing stands at a place nothing is read there
pub no_field_read : {A : Type 0} (spelling : A → Bytes) (P : A → Type 0) (read : Bytes → Option (A × Bytes)) → IsReader spelling P read
    → (bytes : Bytes) (at : ℕ) → IsBytes bytes → IsFieldAt spelling P bytes at None → read (drop at bytes) ≡ None
no_field_read {A} spelling P read reader bytes at here h = by (read (drop at bytes)) refl
  where
    by : (o : Option (A × Bytes)) → read (drop at bytes) ≡ o → o ≡ None
    by None e = refl
    by (Some x) e = let t = reader.takes (drop at bytes) x (bytes_from bytes at here) e in absurd (h x.0 x.1 t.1 t.0.parts)

-- ---- lists

module _ {A : Type 0} (spelling : A → Bytes) (P : A → Type 0) (read : Bytes → Option (A × Bytes)) (reader : IsReader spelling P read) where
  items_again : (xs : List A) (rest : Bytes) → AllByRecursion P xs → items_with read (length xs) (flat_map spelling xs ++ rest) ≡ Some (xs, rest)
  unfolding items_with
  items_again [] rest p = refl
  items_again (x ∷ xs) rest p =
      ap (items_with read (suc (length xs))) (append_assoc (spelling x) (flat_map spelling xs) rest)
      ∙ ap (λ o. o >>= λ y. items_with read (length xs) y.1 >>= λ ys. Some (y.0 ∷ ys.0, ys.1)) (reader.again x (flat_map spelling xs ++ rest) p.0)
      ∙ ap (λ o. o >>= λ ys. Some (x ∷ ys.0, ys.1)) (items_again xs rest p.1)

  items_take : (k : ℕ) (bytes : Bytes) (x : List A × Bytes) → IsBytes bytes → items_with read k bytes ≡ Some x
      → Takes bytes (flat_map spelling x.0) x.1 × AllByRecursion P x.0 × (length x.0 ≡ k)
  unfolding items_with
  items_take zero bytes x here e =
      subst (λ (y : List A × Bytes). Takes bytes (flat_map spelling y.0) y.1 × AllByRecursion P y.0 × (length y.0 ≡ 0)) (some_is ([], bytes) x e)
      (record { parts = refl; fits = here }, tt, refl)
  items_take (suc k) bytes x here e =
      let a = bind_some (read bytes) (λ y. items_with read k y.1 >>= λ ys. Some (y.0 ∷ ys.0, ys.1)) x e in
      let b = bind_some (items_with read k a.0.1) (λ ys. Some (a.0.0 ∷ ys.0, ys.1)) x a.2 in
      let first = reader.takes bytes a.0 here a.1 in
      let others = items_take k a.0.1 b.0 first.0.fits b.1 in
      let made : List A × Bytes = (a.0.0 ∷ b.0.0, b.0.1) in
      subst (λ (y : List A × Bytes). Takes bytes (flat_map spelling y.0) y.1 × AllByRecursion P y.0 × (length y.0 ≡ suc k)) (some_is made x b.2)
      (Takes-then bytes (spelling a.0.0) a.0.1 (flat_map spelling b.0.0) b.0.1 first.0 others.0, (first.1, others.1), ap suc others.2)

  pub items_reader : (k : ℕ) → IsReader (flat_map spelling) (λ xs. (length xs ≡ k) × AllByRecursion P xs) (items_with read k)
  items_reader k = record {
    again = λ xs rest p. ap (λ n. items_with read n (flat_map spelling xs ++ rest)) (sym p.0) ∙ items_again xs rest p.1;
    takes = λ bytes x here e. let t = items_take k bytes x here e in (t.0, (t.2, t.1));
  }

  counted_again : (xs : List A) (rest : Bytes) → AreCounted P xs → counted_with read (counted_bytes spelling xs ++ rest) ≡ Some (xs, rest)
  unfolding counted_with
  counted_again xs rest p =
      ap (λ b. number_at b >>= λ k. items_with read k.0 k.1) (append_assoc (number_bytes (length xs)) (flat_map spelling xs) rest)
      ∙ ap (λ o. o >>= λ k. items_with read k.0 k.1) (number_again (length xs) (flat_map spelling xs ++ rest) p.0)
      ∙ items_again xs rest p.1

  counted_take : (bytes : Bytes) (x : List A × Bytes) → IsBytes bytes → counted_with read bytes ≡ Some x → Takes bytes (counted_bytes spelling x.0) x.1 × AreCounted P x.0
  unfolding counted_with
  counted_take bytes x here e =
      let a = bind_some (number_at bytes) (λ k. items_with read k.0 k.1) x e in
      let number = number_takes bytes a.0 here a.1 in
      let items = items_take a.0.0 a.0.1 x number.0.fits a.2 in
      let both = Takes-then bytes (number_bytes a.0.0) a.0.1 (flat_map spelling x.0) x.1 number.0 items.0 in
      (subst (λ k. Takes bytes (number_bytes k ++ flat_map spelling x.0) x.1) (sym items.2) both, (subst IsNumber (sym items.2) number.1, items.1))

  pub counted_reader : IsReader (counted_bytes spelling) (AreCounted P) (counted_with read)
  counted_reader = record { again = counted_again; takes = counted_take }

-- ---- columns

below_shallow : (fs : Fields) → depth_below fs ≤ most_deep → are_shallow fs ≡ true
unfolding depth_of
below_shallow no_fields h = refl
below_shallow (field f t fs) h =
    and_from (nat_le (depth_of t) most_deep) (are_shallow fs) (le-leb (depth_of t) most_deep (omega (arith, h))) (below_shallow fs (omega (arith, h)))

-- columns that have a spelling
abbrev pub AreColumns : Fields → Type 0
AreColumns fs = HasNames (row_type fs) × (are_shallow fs ≡ true)

abbrev pub columns_bytes : Fields → Bytes
columns_bytes fs = type_bytes (row_type fs)

columns_again : (fs : Fields) (rest : Bytes) → AreColumns fs → columns_at (columns_bytes fs ++ rest) ≡ Some (fs, rest)
unfolding columns_at
columns_again fs rest p =
    ap (λ b. number_at b >>= λ k. fields_with (type_at most_deep) k.0 k.1) (append_assoc (number_bytes (fields_number fs)) (fields_bytes fs) rest)
    ∙ ap (λ o. o >>= λ k. fields_with (type_at most_deep) k.0 k.1) (number_again (fields_number fs) (fields_bytes fs ++ rest) p.0.0)
    ∙ fields_again fs most_deep rest p.0.1 (shallow_below fs p.1)

columns_behind : (bytes : Bytes) (x : Fields × Bytes) → IsBytes bytes → (number_at bytes >>= λ k. fields_with (type_at most_deep) k.0 k.1) ≡ Some x
    → Takes (4 ∷ 0 ∷ bytes) (columns_bytes x.0) x.1 × AreColumns x.0
columns_behind bytes x here e =
    let a = bind_some (number_at bytes) (λ k. fields_with (type_at most_deep) k.0 k.1) x e in
    let number = number_takes bytes a.0 here a.1 in
    let fs = fields_take most_deep (type_at most_deep) (type_takes most_deep) a.0.0 a.0.1 x number.0.fits a.2 in
    let both = Takes-then bytes (number_bytes a.0.0) a.0.1 (fields_bytes x.0) x.1 number.0 fs.taken in
    let text : Takes bytes (number_bytes (fields_number x.0) ++ fields_bytes x.0) x.1 = subst (λ k. Takes bytes (number_bytes k ++ fields_bytes x.0) x.1) (sym fs.number) both in
    (record { parts = ap (λ (b : Bytes). 4 ∷ 0 ∷ b) text.parts; fits = text.fits }, ((subst IsNumber (sym fs.number) number.1, fs.names), below_shallow x.0 fs.depth))

columns_take : (bytes : Bytes) (x : Fields × Bytes) → IsBytes bytes → columns_at bytes ≡ Some x → Takes bytes (columns_bytes x.0) x.1 × AreColumns x.0
unfolding columns_at
columns_take [] x here e = absurd cc
columns_take (a ∷ []) x here e = absurd cc
columns_take (a ∷ b ∷ rest) x here e =
    let first = guarded (nat_eq a 4) (cond (nat_eq b 0) (number_at rest >>= λ k. fields_with (type_at most_deep) k.0 k.1) None) x e in
    let second = guarded (nat_eq b 0) (number_at rest >>= λ k. fields_with (type_at most_deep) k.0 k.1) x first.1 in
    let found = columns_behind rest x (IsBytes-rest b rest (IsBytes-rest a (b ∷ rest) here)) second.1 in
    let tag : 4 ≡ a = sym (eqb-true a 4 first.0) in
    let null : 0 ≡ b = sym (eqb-true b 0 second.0) in
    (subst (λ n. Takes (a ∷ n ∷ rest) (columns_bytes x.0) x.1) null (subst (λ n. Takes (n ∷ 0 ∷ rest) (columns_bytes x.0) x.1) tag found.0), found.1)
  where
    guarded : {A : Type 0} (t : Bool) (o : Option A) (y : A) → cond t o None ≡ Some y → (t ≡ true) × (o ≡ Some y)
    guarded true o y e = (refl, e)
    guarded false o y e = absurd cc

pub columns_reader : IsReader columns_bytes AreColumns columns_at
columns_reader = record { again = columns_again; takes = columns_take }

-- ---- statistics

numbered_again : (s : Stat) → stat_numbered (stat_byte s) ≡ Some s
numbered_again Min = refl
numbered_again Max = refl
numbered_again NullCount = refl
numbered_again NaNCount = refl

numbered_takes : (b : ℕ) (s : Stat) → stat_numbered b ≡ Some s → stat_byte s ≡ b
numbered_takes zero s e = ap stat_byte (sym (some_is Min s e))
numbered_takes (suc zero) s e = ap stat_byte (sym (some_is Max s e))
numbered_takes (suc (suc zero)) s e = ap stat_byte (sym (some_is NullCount s e))
numbered_takes (suc (suc (suc zero))) s e = ap stat_byte (sym (some_is NaNCount s e))
numbered_takes (suc (suc (suc (suc b)))) s e = absurd cc

stat_again : (s : Stat) (rest : Bytes) → stat_at (stat_byte s ∷ rest) ≡ Some (s, rest)
unfolding stat_at
stat_again s rest = ap (λ o. o >>= λ t. Some (t, rest)) (numbered_again s)

stat_takes : (bytes : Bytes) (x : Stat × Bytes) → IsBytes bytes → stat_at bytes ≡ Some x → Takes bytes (stat_byte x.0 ∷ []) x.1
unfolding stat_at
stat_takes [] x here e = absurd cc
stat_takes (b ∷ rest) x here e =
    let a = bind_some (stat_numbered b) (λ s. Some (s, rest)) x e in
    subst (λ (y : Stat × Bytes). Takes (b ∷ rest) (stat_byte y.0 ∷ []) y.1) (some_is (a.0, rest) x a.2)
    (record { parts = ap (λ n. n ∷ rest) (sym (numbered_takes b a.0 a.1)); fits = IsBytes-rest b rest here })

scalar_again : (u : Ty) (s : Typed) (rest : Bytes) → IsScalarOf u s → scalar_at u (scalar_bytes s ++ rest) ≡ Some (s, rest)
unfolding scalar_at
scalar_again u s rest p =
    let value = subst (λ t. IsValue t s.value) p.0 p.1 in
    ap (λ t. value_at u (value_bytes t s.value ++ rest) >>= λ x. Some (typed u x.0, x.1)) p.0
    ∙ ap (λ o. o >>= λ x. Some (typed u x.0, x.1)) (value_again s.value u rest value.fit value.texts)
    ∙ ap (λ t. Some (typed t s.value, rest)) (sym p.0)

scalar_takes : (u : Ty) (bytes : Bytes) (x : Typed × Bytes) → IsBytes bytes → scalar_at u bytes ≡ Some x → Takes bytes (scalar_bytes x.0) x.1 × IsScalarOf u x.0
unfolding scalar_at
scalar_takes u bytes x here e =
    let a = bind_some (value_at u bytes) (λ y. Some (typed u y.0, y.1)) x e in
    let value = value_takes u bytes a.0 here a.1 in
    let made : Typed × Bytes = (typed u a.0.0, a.0.1) in
    subst (λ (y : Typed × Bytes). Takes bytes (scalar_bytes y.0) y.1 × IsScalarOf u y.0) (some_is made x a.2)
    (value.taken, (refl, record { fit = value.fit; texts = value.texts }))

scalar_reader : (u : Ty) → IsReader scalar_bytes (IsScalarOf u) (scalar_at u)
scalar_reader u = record { again = scalar_again u; takes = scalar_takes u }

statistic_again : (columns : Fields) (lengths : List ℕ) (z : ZoneStat) (rest : Bytes) → IsStatistic columns lengths z → statistic_at columns lengths (statistic_bytes z ++ rest) ≡ Some (z, rest)
unfolding statistic_by scalars_with
statistic_again columns lengths z rest p =
    let values = flat_map scalar_bytes z.values in
    let t = has_type z.values (type_of_statistic columns z) p.typed in
    let u = with_nullability t.ty Nullable in
    let scalars : AllByRecursion (IsScalarOf u) z.values = each_both (λ s. s.ty ≡ u) (λ s. IsValue s.ty s.value) z.values t.each p.values in
    let count : length z.values ≡ length lengths = eqb-true (length z.values) (length lengths) p.counted in
    ap (statistic_at columns lengths) (append_assoc (counted_bytes piece_bytes z.path) (stat_byte z.stat ∷ values) rest)
    ∙ ap (λ o. o >>= λ path. stat_at path.1 >>= λ stat. scalars_with path.0 stat.0 (option_and_then (statistic_type stat.0) (leaf_type columns path.0)) (length lengths) stat.1)
    ((counted_reader piece_bytes IsText text_at text_reader).again z.path (stat_byte z.stat ∷ (values ++ rest)) p.path)
    ∙ ap (λ o. o >>= λ stat. scalars_with z.path stat.0 (option_and_then (statistic_type stat.0) (leaf_type columns z.path)) (length lengths) stat.1) (stat_again z.stat (values ++ rest))
    ∙ ap (λ o. scalars_with z.path z.stat o (length lengths) (values ++ rest)) t.is
    ∙ ap (λ o. o >>= λ vs. Some (statistic_of z.path z.stat vs.0, vs.1))
    ((items_reader scalar_bytes (IsScalarOf u) (scalar_at u) (scalar_reader u) (length lengths)).again z.values rest (count, scalars))

-- values of one type have the type of a statistic
have_type : (t : Ty) (vs : List Typed) → AllByRecursion (IsScalarOf (with_nullability t Nullable)) vs → values_have vs (Some t) ≡ true
have_type t [] h = refl
have_type t (s ∷ vs) h =
    let u = with_nullability t Nullable in
    and_from (ty_eq s.ty u) (values_have vs (Some t)) ((ty_decides s.ty u).1 h.0.0) (have_type t vs h.1)

scalars_take : (columns : Fields) (lengths : List ℕ) (path : List Bytes) (stat : Stat) (o : Option Ty) (bytes : Bytes) (x : ZoneStat × Bytes)
    → option_and_then (statistic_type stat) (leaf_type columns path) ≡ o → AreCounted IsText path → IsBytes bytes → scalars_with path stat o (length lengths) bytes ≡ Some x
    → (x.0.path ≡ path) × (x.0.stat ≡ stat) × Takes bytes (flat_map scalar_bytes x.0.values) x.1 × IsStatistic columns lengths x.0
unfolding scalars_with
scalars_take columns lengths path stat None bytes x is p here e = absurd cc
scalars_take columns lengths path stat (Some t) bytes x is p here e =
    let u = with_nullability t Nullable in
    let a = bind_some (items_with (scalar_at u) (length lengths) bytes) (λ vs. Some (statistic_of path stat vs.0, vs.1)) x e in
    let items = (items_reader scalar_bytes (IsScalarOf u) (scalar_at u) (scalar_reader u) (length lengths)).takes bytes a.0 here a.1 in
    let made : ZoneStat × Bytes = (statistic_of path stat a.0.0, a.0.1) in
    subst (λ (y : ZoneStat × Bytes). (y.0.path ≡ path) × (y.0.stat ≡ stat) × Takes bytes (flat_map scalar_bytes y.0.values) y.1 × IsStatistic columns lengths y.0) (some_is made x a.2) (
      refl,
      refl,
      items.0,
      record {
        path = p;
        counted = eq-eqb (length a.0.0) (length lengths) items.1.0;
        typed = ap (values_have a.0.0) is ∙ have_type t a.0.0 items.1.1;
        values = each_so (IsScalarOf u) (λ (s : Typed). IsValue s.ty s.value) a.0.0 (λ s h. h.1) items.1.1;
      },
    )

statistic_takes : (columns : Fields) (lengths : List ℕ) (bytes : Bytes) (x : ZoneStat × Bytes) → IsBytes bytes → statistic_at columns lengths bytes ≡ Some x
    → Takes bytes (statistic_bytes x.0) x.1 × IsStatistic columns lengths x.0
unfolding statistic_by
statistic_takes columns lengths bytes x here e =
    let a = bind_some (counted_with text_at bytes)
    (λ path. stat_at path.1 >>= λ stat. scalars_with path.0 stat.0 (option_and_then (statistic_type stat.0) (leaf_type columns path.0)) (length lengths) stat.1) x e in
    let path = (counted_reader piece_bytes IsText text_at text_reader).takes bytes a.0 here a.1 in
    let b = bind_some (stat_at a.0.1) (λ stat. scalars_with a.0.0 stat.0 (option_and_then (statistic_type stat.0) (leaf_type columns a.0.0)) (length lengths) stat.1) x a.2 in
    let stat = stat_takes a.0.1 b.0 path.0.fits b.1 in
    let c = scalars_take columns lengths a.0.0 b.0.0 (option_and_then (statistic_type b.0.0) (leaf_type columns a.0.0)) b.0.1 x refl path.1 stat.fits b.2 in
    let behind = Takes-then a.0.1 (stat_byte b.0.0 ∷ []) b.0.1 (flat_map scalar_bytes x.0.values) x.1 stat c.2 in
    let whole = Takes-then bytes (counted_bytes piece_bytes a.0.0) a.0.1 (stat_byte b.0.0 ∷ flat_map scalar_bytes x.0.values) x.1 path.0 behind in
    let of_path = subst (λ q. Takes bytes (counted_bytes piece_bytes q ++ (stat_byte b.0.0 ∷ flat_map scalar_bytes x.0.values)) x.1) (sym c.0) whole in
    (subst (λ s. Takes bytes (counted_bytes piece_bytes x.0.path ++ (stat_byte s ∷ flat_map scalar_bytes x.0.values)) x.1) (sym c.1) of_path, c.3)

pub statistic_reader : (columns : Fields) (lengths : List ℕ) → IsReader statistic_bytes (IsStatistic columns lengths) (statistic_at columns lengths)
statistic_reader columns lengths = record { again = statistic_again columns lengths; takes = statistic_takes columns lengths }

-- ---- lengths

-- lengths of blocks that have a spelling
pub record AreLengths (ns : List ℕ) : Type 0 where
  pub counted : AreCounted IsNumber ns
  pub rows : sum ns ≤ most_rows

lengths_again : (ns : List ℕ) (rest : Bytes) → AreLengths ns → lengths_at (counted_bytes number_bytes ns ++ rest) ≡ Some (ns, rest)
unfolding lengths_at
lengths_again ns rest p =
    let found : Option (List ℕ × Bytes) = Some (ns, rest) in
    ap (λ o. o >>= λ ms. cond (nat_le (sum ms.0) most_rows) (Some ms) None) ((counted_reader number_bytes IsNumber number_at number_reader).again ns rest p.counted)
    ∙ ap (λ b. cond b found None) (le-leb (sum ns) most_rows p.rows)

lengths_take : (bytes : Bytes) (x : List ℕ × Bytes) → IsBytes bytes → lengths_at bytes ≡ Some x → Takes bytes (counted_bytes number_bytes x.0) x.1 × AreLengths x.0
unfolding lengths_at
lengths_take bytes x here e =
    let a = bind_some (counted_with number_at bytes) (λ ms. cond (nat_le (sum ms.0) most_rows) (Some ms) None) x e in
    let t = (counted_reader number_bytes IsNumber number_at number_reader).takes bytes a.0 here a.1 in
    let b = cond_some (nat_le (sum a.0.0) most_rows) a.0 x a.2 in
    subst (λ (y : List ℕ × Bytes). Takes bytes (counted_bytes number_bytes y.0) y.1 × AreLengths y.0) b.1 (t.0, record { counted = t.1; rows = leb-true (sum a.0.0) most_rows b.0 })

pub lengths_reader : IsReader (counted_bytes number_bytes) AreLengths lengths_at
lengths_reader = record { again = lengths_again; takes = lengths_take }

pub range_lengths_reader : (blocks width : ℕ)
    → IsReader (flat_map lengths_bytes) (λ nss. (length nss ≡ blocks) × AllByRecursion (AreRangeLengths width) nss) (range_lengths_at blocks width)
unfolding range_lengths_at
range_lengths_reader blocks width =
    items_reader lengths_bytes (AreRangeLengths width) (items_with number_at width) (items_reader number_bytes IsNumber number_at number_reader width) blocks
