-- What a plan wants can be found: its condition and its rows are typed and compare with no slot, and its key is a column of a plain type.
use Rattle.std.proofs.Common.{◌≡◌, refl, ap, sym, ◌∙◌, subst, ℕ, nat_le, Bool, true, false, cond, Option, Some, None, MatchOption, [], Result, Ok, Err}
use Rattle.vx_dtype.specs.declared.Nullability.TheVariants.{NonNullable}
use Rattle.vx_dtype.specs.Fits.{fits}
use Rattle.vx_dtype.specs.TypeRules.{field_type, is_bool_ty, is_plain, no_name_twice}
use Rattle.vx_dtype.specs.Types.{Bytes, Ty, Fields, bool_ty}
use Rattle.vx_eval.specs.Evaluating.{checked_type}
use Rattle.vx_expr.specs.Trees.{Tree}
use Rattle.vx_laws_shell.specs.Answers.{answer_wanted, refused_with}
use Rattle.vx_laws_shell.specs.PlanLaws.{IsPlainKey}
use Rattle.vx_laws_shell.specs.Running.{End}
use Rattle.vx_laws_shell.specs.Wants.{OrderRefusal, Wanted, in_order, first_by, unlimited, too_many, most_by_key, ask_by, condition_tree, key_type, wanted_by, wanted_in, wanted_of}
use Rattle.vx_laws_shell.proofs.PlainKeys.{plan_keys_are_plain}
use Rattle.vx_laws_shell.proofs.SlotlessPlans.{plans_have_no_slot}
use Rattle.vx_laws_sql.specs.Operands.{TypedTree, boolean}
use Rattle.vx_laws_statements.specs.Clauses.{Key}
use Rattle.vx_laws_statements.specs.Statements.{Plan, plan_of}
use Rattle.vx_laws_statements.specs.Typing.{FilterIsTest}
use Rattle.vx_laws_statements.proofs.TypedStatements.{plans-typed}
use Rattle.vx_laws_topk.specs.TopLaws.{has_no_slot}
use Rattle.vx_laws_topk.specs.TopRows.{TopAsk}
use Rattle.vx_laws_topk.proofs.SlotlessRules.{slotless_fits}
use Rattle.vx_scan.specs.Scanning.{scan_type}
use Rattle.vx_scan.specs.Stores.{Read, StoreSeen, WhereTold}
use Rattle.vx_scan.proofs.PrepareLemmas.{names_once}
use Rattle.vx_scan.proofs.ScanLemmas.{told_all}
use Rattle.vx_semantics.specs.Meaning.{Slots}
use Rattle.vx_semantics.specs.Slots.{slots_fit}
use Rattle.vx_semantics.specs.Tables.{Zones, row_type}
use Rattle.vx_semantics.specs.Typing.{Refusal, and_then, type_mismatch, typed_of, unless}
use Rattle.vx_topk.specs.TopEnds.{IsTypedTop}
use Rattle.vx_zones.specs.Zoning.{broken_rule}
use Rattle.vx_shell.specs.declared.answers.Found.{Found}
use Rattle.vx_shell.specs.declared.errors.Refusal as code
use Rattle.vx_shell.specs.declared.errors.Refusal.TheVariants as refusals
use Rattle.vx_shell.specs.Founds.{FindsAnswer, FindsInOrder, FindsByKey, FindsPlanned, asked_by}
use Rattle.vx_shell.specs.WantViews.{WantsOf}
use Rattle.vx_shell.proofs.SettledAnswers.{finds_settled}

-- ---- the typing of a plan

boolean_typed : (t : Ty) → typed_of t (boolean true).tree ≡ Ok (bool_ty NonNullable)
unfolding typed_of no_name_twice fits
boolean_typed t = refl

condition_typed : (t : Ty) (filter : Option TypedTree) → FilterIsTest t filter → (u : Ty) × (typed_of t (condition_tree filter) ≡ Ok u) × (is_bool_ty u ≡ true)
condition_typed t None h = (bool_ty NonNullable, boolean_typed t, refl)
condition_typed t (Some x) h = (x.ty, h.0, h.1)

checked : (t : Ty) (slots : Slots) (e : Tree) (u : Ty) → typed_of t e ≡ Ok u → slots_fit slots e ≡ true → checked_type t slots e ≡ Ok u
checked t slots e u h k =
    ap (λ (r : Result Ty Refusal). and_then r (λ v. unless (slots_fit slots e) type_mismatch (Ok v))) h
    ∙ ap (λ (b : Bool). unless b type_mismatch (Ok u)) k

scan_typed : (t : Ty) (f p : Tree) (u w : Ty) → checked_type t [] f ≡ Ok u → is_bool_ty u ≡ true → checked_type t [] p ≡ Ok w → scan_type t [] f p ≡ Ok w
scan_typed t f p u w h b k = rw (h, k, b) refl

pub plan_typed : (zones : Zones) (text : Bytes) (plan : Plan) → broken_rule zones ≡ None → plan_of (row_type zones.columns) text ≡ Ok plan
    → scan_type (row_type zones.columns) [] (condition_tree plan.filter) plan.rows.tree ≡ Ok plan.rows.ty
plan_typed zones text plan rules h =
    let t = row_type zones.columns in
    let typed = plans-typed t text plan (names_once zones rules) h in
    let condition = condition_typed t plan.filter typed.0 in
    let slots = plans_have_no_slot t text plan h in
    scan_typed t (condition_tree plan.filter) plan.rows.tree condition.0 plan.rows.ty
    (checked t [] (condition_tree plan.filter) condition.0 condition.1 (slotless_fits [] (condition_tree plan.filter) slots.0)) condition.2
    (checked t [] plan.rows.tree plan.rows.ty typed.1 (slotless_fits [] plan.rows.tree slots.1))

pub plan_slots : (zones : Zones) (text : Bytes) (plan : Plan) → plan_of (row_type zones.columns) text ≡ Ok plan
    → (has_no_slot (condition_tree plan.filter) ≡ true) × (has_no_slot plan.rows.tree ≡ true)
plan_slots zones text plan h = plans_have_no_slot (row_type zones.columns) text plan h

-- ---- its key

abbrev asks : TopAsk → Result Wanted OrderRefusal
asks ask = Ok (first_by ask)

same_key : (columns : Fields) (plan : Plan) (key other : Key) (count n : ℕ) → asks (ask_by columns plan key n) ≡ asks (ask_by columns plan other count)
    → key.column ≡ other.column
same_key columns plan key other count n h =
    let same : ask_by columns plan key n ≡ ask_by columns plan other count = cc in
    ap (λ (ask : TopAsk). ask.key) same

key_of_ask : (columns : Fields) (plan : Plan) (key other : Key) (count : ℕ) (limit : Option ℕ) → wanted_by columns plan key limit ≡ Ok (first_by (ask_by columns plan other count))
    → key.column ≡ other.column
key_of_ask columns plan key other count None h = let no : ⊥ = cc in absurd no
key_of_ask columns plan key other count (Some n) h = by (nat_le n most_by_key) h
  where
    by : (b : Bool) → cond b (asks (ask_by columns plan key n)) (Err (too_many n)) ≡ asks (ask_by columns plan other count) → key.column ≡ other.column
    by true e = same_key columns plan key other count n e
    by false e = let no : ⊥ = cc in absurd no

plain_in : (columns : Fields) (plan : Plan) (key : Key) (count : ℕ) (order : Option Key) → wanted_in columns plan order ≡ Ok (first_by (ask_by columns plan key count))
    → MatchOption order (Unit {0}) (IsPlainKey columns) → IsPlainKey columns key
plain_in columns plan key count None h k = let no : ⊥ = cc in absurd no
plain_in columns plan key count (Some own) h k =
    let same : own.column ≡ key.column = key_of_ask columns plan own key count plan.limit h in
    record {
      column = subst (λ (c : Bytes). field_type c columns ≡ Some (key_type columns c)) same k.column;
      plain = subst (λ (c : Bytes). is_plain (key_type columns c) ≡ true) same k.plain;
    }

plain_wanted : (columns : Fields) (plan : Plan) (key : Key) (count : ℕ) → wanted_of columns plan ≡ Ok (first_by (ask_by columns plan key count))
    → MatchOption plan.order (Unit {0}) (IsPlainKey columns) → IsPlainKey columns key
unfolding wanted_of
plain_wanted columns plan key count h k = plain_in columns plan key count plan.order h k

pub plan_keyed : (zones : Zones) (text : Bytes) (plan : Plan) (key : Key) (count : ℕ) → broken_rule zones ≡ None → plan_of (row_type zones.columns) text ≡ Ok plan
    → wanted_of zones.columns plan ≡ Ok (first_by (ask_by zones.columns plan key count))
    → IsTypedTop zones (asked_by zones (condition_tree plan.filter) plan.rows.tree key count) plan.rows.ty
plan_keyed zones text plan key count rules h wanted =
    let plain = plain_wanted zones.columns plan key count wanted (plan_keys_are_plain zones.columns text plan h) in
    record { column = plain.column; plain = plain.plain; typed = plan_typed zones text plan rules h }

-- ---- what is found of it

pub ordered_wanted : (plan : Plan) (limit : Option ℕ) (f : Tree) (a b : StoreSeen) (x y : End) (result : Result Found code.Refusal)
    → wanted_of a.zones.columns plan ≡ Ok (in_order limit) → f ≡ condition_tree plan.filter → FindsInOrder f plan.rows.tree limit a b x y result
    → FindsPlanned plan a b x y result
ordered_wanted plan limit f a b x y result wanted same h =
    subst (λ (given : Result Wanted OrderRefusal). FindsAnswer (λ is_damaged table. answer_wanted is_damaged table a.zones plan given) a b x y result) (sym wanted)
    (subst (λ (tree : Tree). FindsInOrder tree plan.rows.tree limit a b x y result) same h)

pub keyed_wanted : (plan : Plan) (key : Key) (count : ℕ) (f : Tree) (a b : StoreSeen) (x y : End) (result : Result Found code.Refusal)
    → wanted_of a.zones.columns plan ≡ Ok (first_by (ask_by a.zones.columns plan key count)) → f ≡ condition_tree plan.filter
    → FindsByKey f plan.rows.tree key count a b x y result → FindsPlanned plan a b x y result
keyed_wanted plan key count f a b x y result wanted same h =
    subst (λ (given : Result Wanted OrderRefusal). FindsAnswer (λ is_damaged table. answer_wanted is_damaged table a.zones plan given) a b x y result) (sym wanted)
    (subst (λ (tree : Tree). FindsByKey tree plan.rows.tree key count a b x y result) same h)

unwanted_as : (plan : Plan) (why : OrderRefusal) (a : StoreSeen) (x : End) (refusal : code.Refusal) → wanted_of a.zones.columns plan ≡ Err why
    → FindsAnswer (λ is_damaged table. refused_with 4) a a x x (Err refusal) → FindsPlanned plan a a x x (Err refusal)
unwanted_as plan why a x refusal wanted h =
    subst (λ (given : Result Wanted OrderRefusal). FindsAnswer (λ is_damaged table. answer_wanted is_damaged table a.zones plan given) a a x x (Err refusal)) (sym wanted) h

refused_over : (a : StoreSeen) → WhereTold a.held (λ table. (is_damaged : Read → Bool) → refused_with 4 ≡ refused_with 4)
refused_over a = told_all a.held (λ table. (is_damaged : Read → Bool) → refused_with 4 ≡ refused_with 4) (λ table is_damaged. refl)

pub unwanted : (plan : Plan) (a : StoreSeen) (x : End) (refusal : code.Refusal)
    → WantsOf a.zones.columns plan (wanted_of a.zones.columns plan) (Err refusal) → FindsPlanned plan a a x x (Err refusal)
unwanted plan a x refusals.Unlimited h =
    unwanted_as plan unlimited a x refusals.Unlimited h (finds_settled (λ is_damaged table. refused_with 4) a x 4 refusals.Unlimited refl (refused_over a))
unwanted plan a x (refusals.TooMany count) h =
    unwanted_as plan (too_many count) a x (refusals.TooMany count) h
    (finds_settled (λ is_damaged table. refused_with 4) a x 4 (refusals.TooMany count) refl (refused_over a))
unwanted plan a x _ h = absurd h

-- what a plan with a key wants
pub wanted_keyed : (columns : Fields) (plan : Plan) (key : Key) → plan.order ≡ Some key → wanted_of columns plan ≡ wanted_by columns plan key plan.limit
unfolding wanted_of
wanted_keyed columns plan key h = ap (λ (order : Option Key). wanted_in columns plan order) h
