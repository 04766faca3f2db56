-- The constants of a membership, gone over from the first to the last.
use Rattle.std.proofs.Common.{◌≡◌, refl, ℕ, ◌+◌, ◌<◌, ◌≤◌, true, false, Bool, List, [], ◌∷◌, ◌++◌, Result, Ok, Err, length, map, drop, ap, sym, ◌∙◌, arith}
use Rattle.std.proofs.Math.ListN.{get_or}
use Rattle.std.proofs.lemmas.List.{drop_more, drop_all}
use Rattle.vx_dtype.specs.Fits.{fits, all_fit}
use Rattle.vx_dtype.specs.RawViews.{raw_view, raws_of}
use Rattle.vx_dtype.specs.Types.{Ty}
use Rattle.vx_dtype.specs.Values.{Raw, raw_null, raw_bool, raw_int, raw_text, raw_list, raw_struct, Raws, no_raws, raw}
use Rattle.vx_dtype.specs.declared.ScalarValue.{ScalarValue}
use Rattle.vx_laws_sql.specs.Membership.{wrong_constant, with_constant, elements, membership}
use Rattle.vx_laws_sql.specs.Operands.{TypedTree, Operand, Mismatch, where_it, ◌>>=◌}
use Rattle.vx_laws_sql.proofs.TypedMembers.{elements-fit}
use Rattle.vx_sql_forms.specs.MemberParts.{one_more, among}
use Rattle.vx_sql_forms.specs.FormAnswers.{Refuses}
use Rattle.vx_sql_forms.specs.Views.{mismatch_view}
use Rattle.vx_sql_forms.specs.declared.errors.FormError.{FormError}
use Rattle.vx_sql_forms.specs.declared.errors.FormError.TheVariants.{NoMemory, Mismatch as Mismatched}

-- the elements are values of the type
pub elements_fit : (e : TypedTree) (t : Ty) (cs : List Raw) (rs : Raws) → elements e t cs ≡ Ok rs → all_fit rs t ≡ true
elements_fit e t cs rs h = elements-fit e t cs rs h

-- values before others
abbrev pub before : List Raw → Raws → Raws
before [] rs = rs
before (c ∷ cs) rs = raw c (before cs rs)

abbrev pub put_before : List Raw → Result Raws Mismatch → Result Raws Mismatch
put_before cs (Ok rs) = Ok (before cs rs)
put_before cs (Err r) = Err r

before-none : (cs : List Raw) → before cs no_raws ≡ raws_of cs
before-none [] = refl
before-none (c ∷ cs) = ap (raw c) (before-none cs)

before-one : (cs : List Raw) (c : Raw) (rs : Raws) → before (cs ++ c ∷ []) rs ≡ before cs (raw c rs)
before-one [] c rs = refl
before-one (d ∷ cs) c rs = ap (raw d) (before-one cs c rs)

put-one : (cs : List Raw) (c : Raw) (behind : Result Raws Mismatch) → put_before (cs ++ c ∷ []) behind ≡ put_before cs (behind >>= λ rs. Ok (raw c rs))
put-one cs c (Ok rs) = ap Ok (before-one cs c rs)
put-one cs c (Err r) = refl

-- what an answer gives
abbrev given : Result (List Raw) Mismatch → List Raw
given (Ok cs) = cs
given (Err r) = []

-- a constant that is taken stands behind the values so far, before those of what is left
taken : (t : Ty) (e : TypedTree) (c : Raw) (b : Bool) (was now : List Raw) (behind : Result Raws Mismatch)
    → where_it b (wrong_constant e t c) (Ok (was ++ c ∷ [])) ≡ Ok now
    → put_before was (where_it b (wrong_constant e t c) (behind >>= λ rs. Ok (raw c rs))) ≡ put_before now behind
taken t e c true was now behind h = sym (put-one was c behind) ∙ ap (λ z. put_before (given z) behind) h
taken t e c false was now behind h = absurd cc

pub one_taken : (e : TypedTree) (t : Ty) (c : Raw) (was now : List Raw) (behind : Result Raws Mismatch) → one_more e t c was ≡ Ok now
    → put_before was (with_constant e t c behind) ≡ put_before now behind
one_taken e t raw_null was now behind h = cc
one_taken e t (raw_bool b) was now behind h = taken t e (raw_bool b) (fits (raw_bool b) t) was now behind h
one_taken e t (raw_int i) was now behind h = taken t e (raw_int i) (fits (raw_int i) t) was now behind h
one_taken e t (raw_text s) was now behind h = taken t e (raw_text s) (fits (raw_text s) t) was now behind h
one_taken e t (raw_list xs) was now behind h = taken t e (raw_list xs) (fits (raw_list xs) t) was now behind h
one_taken e t (raw_struct xs) was now behind h = taken t e (raw_struct xs) (fits (raw_struct xs) t) was now behind h

refused : (t : Ty) (e : TypedTree) (c : Raw) (b : Bool) (was : List Raw) (behind : Result Raws Mismatch) (r : Mismatch)
    → where_it b (wrong_constant e t c) (Ok (was ++ c ∷ [])) ≡ Err r
    → put_before was (where_it b (wrong_constant e t c) (behind >>= λ rs. Ok (raw c rs))) ≡ Err r
refused t e c true was behind r h = absurd cc
refused t e c false was behind r h = cc

pub one_refused : (e : TypedTree) (t : Ty) (c : Raw) (was : List Raw) (behind : Result Raws Mismatch) (r : Mismatch) → one_more e t c was ≡ Err r
    → put_before was (with_constant e t c behind) ≡ Err r
one_refused e t raw_null was behind r h = absurd cc
one_refused e t (raw_bool b) was behind r h = refused t e (raw_bool b) (fits (raw_bool b) t) was behind r h
one_refused e t (raw_int i) was behind r h = refused t e (raw_int i) (fits (raw_int i) t) was behind r h
one_refused e t (raw_text s) was behind r h = refused t e (raw_text s) (fits (raw_text s) t) was behind r h
one_refused e t (raw_list xs) was behind r h = refused t e (raw_list xs) (fits (raw_list xs) t) was behind r h
one_refused e t (raw_struct xs) was behind r h = refused t e (raw_struct xs) (fits (raw_struct xs) t) was behind r h

-- before the first constant
pub none_yet : (told : Result Raws Mismatch) → told ≡ put_before [] told
none_yet (Ok rs) = refl
none_yet (Err r) = refl

-- where none is left all were gone over
pub none_left : (e : TypedTree) (t : Ty) (xs : List ScalarValue) (i : ℕ) (cs : List Raw) → length xs ≤ i
    → put_before cs (elements e t (map raw_view (drop i xs))) ≡ Ok (raws_of cs)
none_left e t xs i cs h = ap (λ z. put_before cs (elements e t (map raw_view z))) (drop_all i xs h) ∙ ap Ok (before-none cs)

-- at a place within, what is left from there on
pub from_here : (xs : List ScalarValue) (i : ℕ) (x : ScalarValue) → i < length xs → x ≡ get_or xs i x → drop i xs ≡ x ∷ drop (i + 1) xs
from_here xs i x within is = drop_more xs i x within ∙ ap (λ y. y ∷ drop (i + 1) xs) (sym is)

-- where a constant is refused all are
pub all_refused : (told : Result Raws Mismatch) (e : TypedTree) (t : Ty) (c : Raw) (was : List Raw) (behind : Result Raws Mismatch) (error : FormError)
    → told ≡ put_before was (with_constant e t c behind) → Refuses (one_more e t c was) error → Refuses told error
all_refused told e t c was behind NoMemory here h = tt
all_refused told e t c was behind (Mismatched m) here h = here ∙ one_refused e t c was behind (mismatch_view m) h

-- membership in constants, of which there is one
pub membership_among : (o : Operand) (cs : List ScalarValue) → 1 ≤ length cs → membership o (map raw_view cs) ≡ among o (map raw_view cs)
membership_among o [] h = absurd (omega (arith, h))
membership_among o (c ∷ cs) h = refl
