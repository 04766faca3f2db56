-- How the rows that are held stand: the steps of the comparison, and that a row behind all places stands before another exactly where its key does.
use Rattle.std.proofs.Common.{◌≡◌, refl, ap, sym, ◌∙◌, ℕ, suc, Bool, true, false, cond, arith}
use Rattle.std.specs.declared.cmp.Ordering.{Ordering}
use Rattle.std.specs.declared.cmp.Ordering.TheVariants.{Less, Equal, Greater}
use Rattle.std.specs.Ordering.{nat_cmp, int_cmp, bool_cmp, ordering_then, ordering_reverse, is_lt, is_gt}
use Rattle.std.specs.Cmp.{ranked, nat_cmp_is, int_cmp_total, bool_cmp_total}
use Rattle.std.specs.Cmp.Lexicographic.{slice_cmp, nat_list_cmp_total}
use Rattle.vx_dtype.specs.Types.{Ty, bool_ty, int_ty, text_ty}
use Rattle.vx_dtype.specs.TypeRules.{is_plain}
use Rattle.vx_dtype.specs.Values.{bool_val, valued}
use Rattle.vx_dtype.specs.Logic.{is_true_val}
use Rattle.vx_dtype.specs.Fits.{fits}
use Rattle.vx_laws_topk.specs.TopRows.{stands_before}
use Rattle.vx_topk.specs.RowKeys.{key_raw, key_kind, kin_cmp, directed_cmp, place_cmp, row_cmp}
use Rattle.vx_topk.specs.RowOrders.{place_cmp_total}
use Rattle.vx_topk.specs.declared.row_keys.SortKey.{SortKey}
use Rattle.vx_topk.specs.declared.row_keys.SortKey.TheVariants as keys
use Rattle.vx_topk.specs.declared.row_keys.RowPlace.{RowPlace}
use Rattle.vx_topk.specs.declared.row_keys.RowKey.{RowKey}

nat-same : (a b : ℕ) → nat_cmp a b ≡ Equal → a ≡ b
nat-same a b h = ranked a b Equal (sym h)

steps : (d e : Bool) (o : Ordering) (x y : SortKey) (kin p : Ordering) → (o ≡ Equal → kin ≡ directed_cmp d x y)
    → ordering_then (ordering_then (ordering_then (bool_cmp d e) o) kin) p
    ≡ ordering_then (bool_cmp d e)
    (ordering_then o (ordering_then (kin_cmp (cond d keys.Null x) (cond e keys.Null y)) (ordering_then (kin_cmp (cond e y keys.Null) (cond d x keys.Null)) p)))
steps false true o x y kin p h = refl
steps true false o x y kin p h = refl
steps true true Less x y kin p h = refl
steps true true Greater x y kin p h = refl
steps true true Equal x y kin p h = ap (λ (o : Ordering). ordering_then o p) (h refl)
steps false false Less x y kin p h = refl
steps false false Greater x y kin p h = refl
steps false false Equal x y kin p h = ap (λ (o : Ordering). ordering_then o p) (h refl)

-- two rows by the steps in which they are compared
pub row_cmp_steps : (a b : RowKey) (kin : Ordering) → (key_kind a.key ≡ key_kind b.key → kin ≡ directed_cmp a.descending a.key b.key)
    → ordering_then (ordering_then (ordering_then (bool_cmp a.descending b.descending) (nat_cmp (key_kind a.key) (key_kind b.key))) kin) (place_cmp a.place b.place) ≡ row_cmp a b
row_cmp_steps a b kin h =
    steps a.descending b.descending (nat_cmp (key_kind a.key) (key_kind b.key)) a.key b.key kin (place_cmp a.place b.place)
    (λ e. h (nat-same (key_kind a.key) (key_kind b.key) e))

-- ---- a row behind all places

up : (o : Ordering) → ordering_then o Greater ≡ cond (is_true_val (bool_val (is_lt o))) Less Greater
up Less = refl
up Equal = refl
up Greater = refl

up-again : (o : Ordering) → ordering_then (ordering_then o Equal) Greater ≡ cond (is_true_val (bool_val (is_lt o))) Less Greater
up-again Less = refl
up-again Equal = refl
up-again Greater = refl

down : (o r : Ordering) → r ≡ ordering_reverse o → ordering_then r Greater ≡ cond (is_true_val (bool_val (is_gt o))) Less Greater
down Less r h = ap (λ (x : Ordering). ordering_then x Greater) h
down Equal r h = ap (λ (x : Ordering). ordering_then x Greater) h
down Greater r h = ap (λ (x : Ordering). ordering_then x Greater) h

down-again : (o r : Ordering) → r ≡ ordering_reverse o → ordering_then (ordering_then r Equal) Greater ≡ cond (is_true_val (bool_val (is_gt o))) Less Greater
down-again Less r h = ap (λ (x : Ordering). ordering_then (ordering_then x Equal) Greater) h
down-again Equal r h = ap (λ (x : Ordering). ordering_then (ordering_then x Equal) Greater) h
down-again Greater r h = ap (λ (x : Ordering). ordering_then (ordering_then x Equal) Greater) h

-- the keys of two rows of one direction, of which the first is behind the second
abbrev keys-stand : Bool → SortKey → SortKey → Ordering
keys-stand d x y =
    ordering_then (nat_cmp (key_kind x) (key_kind y))
    (ordering_then (kin_cmp (cond d keys.Null x) (cond d keys.Null y)) (ordering_then (kin_cmp (cond d y keys.Null) (cond d x keys.Null)) Greater))

keys-before : (t : Ty) (d : Bool) (x y : SortKey) → is_plain t ≡ true → fits (key_raw x) t ≡ true → fits (key_raw y) t ≡ true
    → keys-stand d x y ≡ cond (stands_before d (valued (key_raw x) t) (valued (key_raw y) t)) Less Greater
unfolding fits valued
keys-before t true keys.Null keys.Null p h k = refl
keys-before t false keys.Null keys.Null p h k = refl
keys-before (bool_ty n) true (keys.Truth a) keys.Null p h k = refl
keys-before (bool_ty n) false (keys.Truth a) keys.Null p h k = refl
keys-before (bool_ty n) true keys.Null (keys.Truth b) p h k = refl
keys-before (bool_ty n) false keys.Null (keys.Truth b) p h k = refl
keys-before (bool_ty n) true (keys.Truth a) (keys.Truth b) p h k = down-again (bool_cmp a b) (bool_cmp b a) (bool_cmp_total.antisymm b a)
keys-before (bool_ty n) false (keys.Truth a) (keys.Truth b) p h k = up-again (bool_cmp a b)
keys-before (int_ty q n) true (keys.Number a) keys.Null p h k = refl
keys-before (int_ty q n) false (keys.Number a) keys.Null p h k = refl
keys-before (int_ty q n) true keys.Null (keys.Number b) p h k = refl
keys-before (int_ty q n) false keys.Null (keys.Number b) p h k = refl
keys-before (int_ty q n) true (keys.Number a) (keys.Number b) p h k = down-again (int_cmp a b) (int_cmp b a) (int_cmp_total.antisymm b a)
keys-before (int_ty q n) false (keys.Number a) (keys.Number b) p h k = up-again (int_cmp a b)
keys-before (text_ty n) true (keys.Text a) keys.Null p h k = refl
keys-before (text_ty n) false (keys.Text a) keys.Null p h k = refl
keys-before (text_ty n) true keys.Null (keys.Text b) p h k = refl
keys-before (text_ty n) false keys.Null (keys.Text b) p h k = refl
keys-before (text_ty n) true (keys.Text a) (keys.Text b) p h k = down (slice_cmp nat_cmp a b) (slice_cmp nat_cmp b a) (nat_list_cmp_total.antisymm b a)
keys-before (text_ty n) false (keys.Text a) (keys.Text b) p h k = up (slice_cmp nat_cmp a b)
keys-before _ _ _ _ p h k = let no : ⊥ = cc in absurd no

bool-itself : (d : Bool) → bool_cmp d d ≡ Equal
bool-itself true = refl
bool-itself false = refl

-- a row stands before one with an earlier place exactly where its key stands before the other's, else behind it
pub row-before : (t : Ty) (a b : RowKey) → is_plain t ≡ true → fits (key_raw a.key) t ≡ true → fits (key_raw b.key) t ≡ true → b.descending ≡ a.descending
    → place_cmp b.place a.place ≡ Less → row_cmp a b ≡ cond (stands_before a.descending (valued (key_raw a.key) t) (valued (key_raw b.key) t)) Less Greater
row-before t a b p h k e earlier =
    let behind : place_cmp a.place b.place ≡ Greater = place_cmp_total.antisymm a.place b.place ∙ ap ordering_reverse earlier in
    rw (e, bool-itself a.descending, behind) (keys-before t a.descending a.key b.key p h k)

-- ---- places

pub next-place : (p : RowPlace) → place_cmp p (record { block = p.block; row = suc p.row }) ≡ Less
next-place p =
    let same : Equal ≡ nat_cmp p.block p.block = nat_cmp_is p.block p.block Equal refl in
    let less : Less ≡ nat_cmp p.row (suc p.row) = nat_cmp_is p.row (suc p.row) Less (omega arith) in
    ap (λ (o : Ordering). ordering_then o (nat_cmp p.row (suc p.row))) (sym same) ∙ sym less

pub next-block : (p : RowPlace) → place_cmp p (record { block = suc p.block; row = 0 }) ≡ Less
next-block p =
    let less : Less ≡ nat_cmp p.block (suc p.block) = nat_cmp_is p.block (suc p.block) Less (omega arith) in
    ap (λ (o : Ordering). ordering_then o (nat_cmp p.row 0)) (sym less)
