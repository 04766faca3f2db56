-- What is read of the members of fields, one after another.
use Rattle.std.proofs.Common.{◌≡◌, ℕ, suc, ◌+◌, ◌≤◌, List, [], ◌∷◌, ◌++◌, length, Option, Some, None, sym, ap, ◌∙◌, arith}
use Rattle.std.specs.List.{slice_get}
use Rattle.serde_json.specs.Data.{Data}
use Rattle.serde_json.specs.Find.{get}
use Rattle.vx_dtype.specs.Types.{Bytes, Ty, Fields}
use Rattle.vx_dtype.specs.TypeRules.{field_names}
use Rattle.vx_dtype.specs.StructTypes.{field_types}
use Rattle.vx_dtype.specs.Values.{Raw}
use Rattle.vx_dtype.proofs.FieldsFrom.{fields_from, fields_from-here, fields_from-past}
use Rattle.vx_request.specs.Objects.{◌>>=◌}
use Rattle.vx_request.specs.Cells.{raw_in, members_in}
use Rattle.vx_request.proofs.ItemLemmas.{found_before, found_one_more, found_at_end}

-- the first of the members is read before the others
members_step : (i : ℕ) (fs : Fields) (f : Bytes) (t : Ty) (d : Data) → Some f ≡ slice_get (field_names fs) i → Some t ≡ slice_get (field_types fs) i
    → members_in (fields_from i fs) d ≡ ((get f d >>= raw_in t) >>= λ x. members_in (fields_from (i + 1) fs) d >>= λ xs. Some (x ∷ xs))
unfolding members_in
members_step i fs f t d a b =
    let next : suc i ≡ i + 1 = omega arith in
    ap (λ gs. members_in gs d) (fields_from-here i fs f t (sym a) (sym b))
    ∙ ap (λ n. (get f d >>= raw_in t) >>= λ x. members_in (fields_from n fs) d >>= λ xs. Some (x ∷ xs)) next

-- where a member isn't read, nothing is
pub member_missing : (i : ℕ) (fs : Fields) (f : Bytes) (t : Ty) (d : Data) (found : List Raw) (all : Option (List Raw))
    → Some f ≡ slice_get (field_names fs) i → Some t ≡ slice_get (field_types fs) i
    → all ≡ found_before found (members_in (fields_from i fs) d) → (get f d >>= raw_in t) ≡ None → None ≡ all
member_missing i fs f t d found all a b before none =
    let rest = members_in (fields_from (i + 1) fs) d in
    sym (before ∙ ap (found_before found) (members_step i fs f t d a b ∙ ap (λ o. o >>= λ x. rest >>= λ xs. Some (x ∷ xs)) none))

-- one member more
pub member_more : (i : ℕ) (fs : Fields) (f : Bytes) (t : Ty) (d : Data) (x : Raw) (found found' : List Raw) (all : Option (List Raw))
    → Some f ≡ slice_get (field_names fs) i → Some t ≡ slice_get (field_types fs) i
    → all ≡ found_before found (members_in (fields_from i fs) d) → (get f d >>= raw_in t) ≡ Some x → found' ≡ found ++ x ∷ []
    → all ≡ found_before found' (members_in (fields_from (i + 1) fs) d)
member_more i fs f t d x found found' all a b before one new =
    let rest = members_in (fields_from (i + 1) fs) d in
    before ∙ ap (found_before found) (members_step i fs f t d a b ∙ ap (λ o. o >>= λ y. rest >>= λ xs. Some (y ∷ xs)) one)
    ∙ found_one_more Raw found x rest ∙ ap (λ ys. found_before ys rest) (sym new)

-- past the last field all members are read
pub members_end : (i : ℕ) (fs : Fields) (d : Data) (found : List Raw) (all : Option (List Raw))
    → all ≡ found_before found (members_in (fields_from i fs) d) → length (field_names fs) ≤ i → Some found ≡ all
unfolding members_in
members_end i fs d found all before past =
    sym (before ∙ ap (λ gs. found_before found (members_in gs d)) (fields_from-past i fs past) ∙ found_at_end Raw found)
