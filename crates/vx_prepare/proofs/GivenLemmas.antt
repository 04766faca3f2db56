-- What the first parts give, and one more.
use Rattle.std.proofs.Common.{◌≡◌, refl, ap, sym, ◌∙◌, ℕ, zero, suc, ◌+◌, List, [], ◌∷◌, ◌++◌, length, take, Some, None, Ok, true, subst, add-one}
use Rattle.std.specs.List.{slice_get, range_with_len}
use Rattle.std.specs.Str.{bytes_eq}
use Rattle.std.specs.Cmp.{unsigned_Decides}
use Rattle.std.specs.Cmp.Derive.{both_true}
use Rattle.std.proofs.lemmas.Option.{same_Some, none-some}
use Rattle.vx_dtype.specs.Types.{Bytes}
use Rattle.vx_expr.specs.Trees.{Tree}
use Rattle.vx_column.specs.Columns.{Column}
use Rattle.vx_semantics.specs.Meaning.{Slots}
use Rattle.vx_semantics.specs.Meaning.{mean}
use Rattle.vx_column.specs.StructColumns.{made_struct, struct_row, all_have_rows}
use Rattle.vx_eval.specs.declared.errors.EvalError.{EvalError}
use Rattle.vx_eval.specs.declared.errors.EvalError.TheVariants.{NoMemory, Typing, Overflow, BadCast}
use Rattle.vx_partition.specs.Splits.{first_of}
use Rattle.vx_prepare.specs.Parts.{PartGives, AreGiven, SomeRefuses, RefusesAtPart, IsHeld}
use Rattle.vx_prepare.proofs.ListLemmas.{length_mapped, range_length}

module _ (len : ℕ) (slots : Slots) (names : List Bytes) (columns : List Column) where
  more : (keys : List Bytes) (es : List Tree) (i : ℕ) (cs : List Column) (a : Bytes) (e : Tree) (c : Column) → slice_get keys i ≡ Some a → slice_get es i ≡ Some e
      → AreGiven len slots names columns (take i keys) (take i es) cs → PartGives len slots names columns a e (Ok c)
      → AreGiven len slots names columns (take (suc i) keys) (take (suc i) es) (cs ++ c ∷ [])
  more [] es i cs a e c at here h g = absurd (none-some a at)
  more (b ∷ keys) [] i cs a e c at here h g = absurd (none-some e here)
  more (b ∷ keys) (d ∷ es) zero [] a e c at here h g =
      (subst (λ x. PartGives len slots names columns b x (Ok c)) (sym (same_Some d e here)) (subst (λ x. PartGives len slots names columns x e (Ok c)) (sym (same_Some b a at)) g), tt)
  more (b ∷ keys) (d ∷ es) zero (x ∷ cs) a e c at here h g = absurd h
  more (b ∷ keys) (d ∷ es) (suc i) [] a e c at here h g = absurd h
  more (b ∷ keys) (d ∷ es) (suc i) (x ∷ cs) a e c at here h g = (h.0, more keys es i cs a e c at here h.1 g)

  pub given_more : (keys : List Bytes) (es : List Tree) (i : ℕ) (cs ds : List Column) (a : Bytes) (e : Tree) (c : Column) → slice_get keys i ≡ Some a → slice_get es i ≡ Some e
      → ds ≡ cs ++ c ∷ [] → AreGiven len slots names columns (take i keys) (take i es) cs → PartGives len slots names columns a e (Ok c)
      → AreGiven len slots names columns (take (i + 1) keys) (take (i + 1) es) ds
  given_more keys es i cs ds a e c at here is h g = rw (is, add-one) (more keys es i cs a e c at here h g)

  -- each part gives as many rows as its column has, and there is one for each part
  pub given_long : (keys : List Bytes) (es : List Tree) (cs : List Column) → AreGiven len slots names columns keys es cs → length cs ≡ length es
  given_long [] [] [] h = refl
  given_long [] [] (c ∷ cs) h = absurd h
  given_long [] (e ∷ es) cs h = absurd h
  given_long (a ∷ keys) [] cs h = absurd h
  given_long (a ∷ keys) (e ∷ es) [] h = absurd h
  given_long (a ∷ keys) (e ∷ es) (c ∷ cs) h = ap suc (given_long keys es cs h.1)

  rows_long : (a : Bytes) (e : Tree) (c : Column) → PartGives len slots names columns a e (Ok c) → length c.rows ≡ len
  rows_long a e c g =
      let own = made_struct (a ∷ []) (g.0 ∷ []) len None in
      ap (λ (x : Column). length x.rows) g.2.1 ∙ length_mapped (λ row. mean own.ty slots row e) own.rows
      ∙ length_mapped (struct_row (a ∷ []) (g.0 ∷ []) None) (range_with_len 0 len) ∙ range_length 0 len

  pub given_have : (keys : List Bytes) (es : List Tree) (cs : List Column) → AreGiven len slots names columns keys es cs → all_have_rows len cs ≡ true
  given_have [] [] [] h = refl
  given_have [] [] (c ∷ cs) h = absurd h
  given_have [] (e ∷ es) cs h = absurd h
  given_have (a ∷ keys) [] cs h = absurd h
  given_have (a ∷ keys) (e ∷ es) [] h = absurd h
  given_have (a ∷ keys) (e ∷ es) (c ∷ cs) h =
      both_true ((unsigned_Decides (length c.rows) len).1 (rows_long a e c h.0)) (given_have keys es cs h.1)

  -- a part that refuses
  pub refuses_at : (keys : List Bytes) (es : List Tree) (r : EvalError) → SomeRefuses len slots names columns keys es r → RefusesAtPart len slots names columns keys es r
  refuses_at keys es NoMemory h = tt
  refuses_at keys es Overflow h = h
  refuses_at keys es BadCast h = h
  refuses_at keys es (Typing r) h = h

-- the column that is held under a name
pub held_long : (len : ℕ) (names : List Bytes) (columns : List Column) (a : Bytes) (c : Column) → IsHeld len names columns a → first_of (bytes_eq a) names columns ≡ Some c → length c.rows ≡ len
held_long len names columns a c h at = ap (λ (x : Column). length x.rows) (same_Some c h.0 (sym at ∙ h.1)) ∙ h.2
