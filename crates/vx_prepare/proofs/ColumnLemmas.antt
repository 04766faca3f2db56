-- The columns that a split expression asks, in the table's order.
use Rattle.std.proofs.Common.{◌≡◌, refl, ap, sym, ◌∙◌, ℕ, Bool, true, false, cond, ◌&&◌, ◌||◌, List, [], ◌∷◌, map, get_or, All, filter}
use Rattle.std.specs.List.{flat_map}
use Rattle.std.specs.Str.{bytes_eq}
use Rattle.std.proofs.lemmas.Bool.{or_left, or_right}
use Rattle.std.proofs.lemmas.List.Folds.{list_any_at}
use Rattle.std.proofs.lemmas.Slice.Eq.{bytes_eq-Decides}
use Rattle.vx_dtype.specs.declared.Nullability.TheVariants.{NonNullable}
use Rattle.vx_dtype.specs.Types.{Bytes, Ty, Fields}
use Rattle.vx_dtype.specs.TypeRules.{field_names, has_name, distinct_names, no_name_twice}
use Rattle.vx_expr.specs.Trees.{Tree}
use Rattle.vx_column.specs.Columns.{Column}
use Rattle.vx_semantics.specs.Tables.{row_type}
use Rattle.vx_semantics.specs.Asked.{asked, column_in, asked_columns}
use Rattle.vx_passes.specs.Splitting.{Partition, Split}
use Rattle.vx_laws.proofs.Distinct.{struct-distinct, distinct-filter}
use Rattle.vx_laws_columns.specs.Columns.{SplitByColumns, PartitionsOfAskedColumns}
use Rattle.vx_prepare.specs.Preparing.{AreOf}
use Rattle.vx_prepare.specs.Parts.{IsHeld}
use Rattle.vx_prepare.proofs.Lookups.{is_held}

-- whether a name passes a filter
kept_by : (a n : Bytes) (names : List Bytes) (test : Bytes → Bool) (b q : Bool) → bytes_eq a n ≡ b → test n ≡ q → has_name a (filter test names) ≡ (test a && has_name a names)
    → has_name a (cond q (n ∷ filter test names) (filter test names)) ≡ (test a && (b || has_name a names))
kept_by a n names test false true e k behind = ap (λ x. x || has_name a (filter test names)) e ∙ behind
kept_by a n names test false false e k behind = behind
kept_by a n names test true true e k behind =
    let passes : test a ≡ true = ap test ((bytes_eq-Decides a n).0 e) ∙ k in
    ap (λ x. x || has_name a (filter test names)) e ∙ sym (ap (λ x. x && true) passes)
kept_by a n names test true false e k behind =
    let fails : test a ≡ false = ap test ((bytes_eq-Decides a n).0 e) ∙ k in
    behind ∙ ap (λ x. x && has_name a names) fails ∙ sym (ap (λ x. x && true) fails)

kept : (a : Bytes) (test : Bytes → Bool) (names : List Bytes) → has_name a (filter test names) ≡ (test a && has_name a names)
kept a test [] = sym (never (test a))
  where
    never : (b : Bool) → (b && false) ≡ false
    never true = refl
    never false = refl
kept a test (n ∷ names) = kept_by a n names test (bytes_eq a n) (test n) refl refl (kept a test names)

-- two tests that agree on the names
same_kept_by : (n : Bytes) (p q : Bool) (xs ys : List Bytes) → p ≡ q → xs ≡ ys → cond p (n ∷ xs) xs ≡ cond q (n ∷ ys) ys
same_kept_by n p q xs ys e k = λ i. cond (e i) (n ∷ k i) (k i)

same_kept : (p q : Bytes → Bool) (names : List Bytes) → ((n : Bytes) → has_name n names ≡ true → p n ≡ q n) → filter p names ≡ filter q names
same_kept p q [] same = refl
same_kept p q (n ∷ names) same =
    let own = same n (or_left (bytes_eq n n) (has_name n names) ((bytes_eq-Decides n n).1 refl)) in
    same_kept_by n (p n) (q n) (filter p names) (filter q names) own (same_kept p q names (λ m some. same m (or_right (bytes_eq m n) (has_name m names) some)))

and_true : (b : Bool) → (b && true) ≡ b
and_true true = refl
and_true false = refl

module _ (law : PartitionsOfAskedColumns) (fs : Fields) (e : Tree) (u : Ty) (d : Tree) (s : Split Bytes) (splits : SplitByColumns fs e u d s) where
  -- the names that have a partition are those of the asked columns
  pub columns_asked : filter (λ name. has_name name (map (λ (p : Partition Bytes). p.annotation) s.partitions)) (field_names fs) ≡ asked_columns (row_type fs) e
  columns_asked =
      let annotations = map (λ (p : Partition Bytes). p.annotation) s.partitions in
      let test : Bytes → Bool = λ c. has_name c (flat_map column_in (asked (row_type fs) e [])) in
      same_kept (λ name. has_name name annotations) test (field_names fs)
      (λ name some. law fs e u d s name splits ∙ kept name test (field_names fs) ∙ ap (λ b. test name && b) some ∙ and_true (test name))

  -- each partition's column is given
  pub parts_held : (len : ℕ) (columns : List Column) → AreOf fs len (asked_columns (row_type fs) e) columns
      → All (IsHeld len (asked_columns (row_type fs) e) columns) (map (λ (p : Partition Bytes). p.annotation) s.partitions)
  parts_held len columns are k other below =
      let annotations = map (λ (p : Partition Bytes). p.annotation) s.partitions in
      let a = get_or annotations k other in
      let among : has_name a annotations ≡ true = list_any_at (bytes_eq a) annotations k other below ((bytes_eq-Decides a a).1 refl) in
      is_held fs len (asked_columns (row_type fs) e) columns a are (sym (law fs e u d s a splits) ∙ among)

-- no asked column is asked twice
pub asked_once : (fs : Fields) (e : Tree) → no_name_twice (row_type fs) ≡ true → distinct_names (asked_columns (row_type fs) e) ≡ true
asked_once fs e distinct = distinct-filter (λ c. has_name c (flat_map column_in (asked (row_type fs) e []))) (field_names fs) (struct-distinct fs NonNullable distinct).names
