-- Two rows that agree on what an expression asks along a path.
use Rattle.std.proofs.Common.{◌≡◌, ℕ, refl, ap, sym, ◌∙◌, Bool, true, false, cond, not, ◌&&◌, ◌||◌, Option, Some, None, subst, List, [], ◌∷◌, ◌++◌, Result, Ok}
use Rattle.std.specs.Prelude.{unwrap_or, option_map, map}
use Rattle.std.specs.Str.{bytes_eq}
use Rattle.std.specs.List.{flat_map, AllByRecursion}
use Rattle.vx_dtype.specs.declared.Nullability.{Nullability}
use Rattle.vx_dtype.specs.declared.Nullability.TheVariants.{NonNullable}
use Rattle.vx_dtype.specs.declared.CompareOperator.{CompareOperator}
use Rattle.vx_dtype.specs.declared.BetweenOptions.{BetweenOptions}
use Rattle.vx_dtype.specs.Types.{Bytes, Ty, bool_ty, Fields, no_fields, field}
use Rattle.vx_dtype.specs.TypeRules.{nullability_of, widened, fields_of, field_names, field_type, has_name, distinct_names, no_name_twice}
use Rattle.vx_dtype.specs.Values.{Val, struct_val, fault, member}
use Rattle.vx_dtype.specs.Fits.{fits_but_for_faults}
use Rattle.vx_dtype.specs.Logic.{not3, is_null3}
use Rattle.vx_dtype.specs.Order.{between3}
use Rattle.vx_dtype.specs.Like.{like3}
use Rattle.vx_dtype.specs.Casts.{cast3}
use Rattle.vx_dtype.specs.Lists.{contains3}
use Rattle.vx_dtype.specs.Structs.{member_named, field_of, members_at, first_names}
use Rattle.vx_expr.specs.declared.Operator.{Operator}
use Rattle.vx_expr.specs.declared.FieldSelection.{FieldSelection}
use Rattle.vx_expr.specs.Trees.{Tree, root, literal, get_item, binary, not_of, is_null_of, like, between, cast, list_contains, pack, merge, select, dynamic, Trees, no_trees, tree}
use Rattle.vx_dtype.specs.Zipped.{zipped}
use Rattle.vx_semantics.specs.Typing.{and_then, item_type, selected_fields, select_type, pack_type, names_in, type_in, merged_type_at, merged_fields_at, merge_type, binary_type, not_type, like_type, between_type, contains_type, cast_type, dynamic_type, typed_of, all_typed, type_or_empty, Refusal, given_names}
use Rattle.vx_semantics.specs.Meaning.{Slots, binary3, dynamic3, mean, meanings, sources, source_names, merged_value, merged_members, merged, zip_members, slot_value, select3}
use Rattle.vx_semantics.specs.Breaks.{by_sum, by_cast, is_fault, cause_where, break_of}
use Rattle.vx_semantics.specs.Merging.{merged_names}
use Rattle.vx_semantics.specs.Asked.{Asking, asks_node, asks_column, giver_names, givers, each_asked, asked, asked_in_pack, asked_of_giver}
use Rattle.vx_semantics.specs.Tables.{row_type}
use Rattle.vx_semantics.specs.Paths.{path_value}
use Rattle.vx_laws.proofs.Inverting.{and_then-ok, Ok-same}
use Rattle.vx_laws.specs.Values.{plain_nullable}
use Rattle.vx_laws.proofs.GivenNames.{gives-typed, names-typed}
use Rattle.vx_laws.proofs.Structs.{item_type-ok, select_type-ok, has_field, all-own_names}
use Rattle.vx_laws.proofs.Preserving.{distinct_type-ok}
use Rattle.vx_laws.proofs.AnySlots.{FitsButNulls, StructButNulls, struct-but_nulls, own-fields, select-but_nulls, mean-but_nulls}
use Rattle.vx_laws.proofs.Distinct.{struct-distinct, typed-distinct, field_names-merged}
use Rattle.vx_laws.proofs.Lookups.{merged_fields-type, merged_members-value, select-chosen}
use Rattle.vx_laws.proofs.Paths.{in_option, path_in, first_of_path, path_in-first, path_in-widened}
use Rattle.vx_laws.proofs.Merging.{some_gives, merged_type_at-step, merged_value-step, asked_of_giver-step, givers-same, giver_names-same}
use Rattle.vx_laws.proofs.Faultless.{merge_type-ok, pack_type-ok, names_in-select, type_in-named}

module _ (columns : Fields) (slots : Slots) (a b : Val) where
  -- the rows agree on the columns that are asked
  abbrev pub AskedAgree : List Asking → Type 0
  AskedAgree [] = Unit {0}
  AskedAgree (asks_node e ∷ asks) = AskedAgree asks
  AskedAgree (asks_column c ∷ asks) = (has_name c (field_names columns) ≡ true → field_of c a ≡ field_of c b) × AskedAgree asks

  -- the asked nodes break alike
  abbrev pub NodesSame : List Asking → Type 0
  NodesSame [] = Unit {0}
  NodesSame (asks_node e ∷ asks) = (break_of (row_type columns) slots a e ≡ break_of (row_type columns) slots b e) × NodesSame asks
  NodesSame (asks_column c ∷ asks) = NodesSame asks

  pub agree-parts : (xs ys : List Asking) → AskedAgree (xs ++ ys) → AskedAgree xs × AskedAgree ys
  agree-parts [] ys h = (tt, h)
  agree-parts (asks_node e ∷ xs) ys h = agree-parts xs ys h
  agree-parts (asks_column c ∷ xs) ys h = let parts = agree-parts xs ys h.1 in ((h.0, parts.0), parts.1)

  pub nodes-both : (xs ys : List Asking) → NodesSame xs → NodesSame ys → NodesSame (xs ++ ys)
  nodes-both [] ys h k = k
  nodes-both (asks_node e ∷ xs) ys h k = (h.0, nodes-both xs ys h.1 k)
  nodes-both (asks_column c ∷ xs) ys h k = nodes-both xs ys h k

  -- along a path two values have the same, and the asked nodes break alike
  pub record Outcome (asks : List Asking) (path : List Bytes) (v w : Val) : Type 0 where
    pub value : path_value path v ≡ path_value path w
    pub nodes : NodesSame asks

  -- an expression of a type has that outcome along each path whose asked columns agree
  abbrev pub Agreeing : Tree → Ty → Type 0
  Agreeing e u =
      (path : List Bytes) → path_in path u ≡ true → AskedAgree (asked (row_type columns) e path)
      → Outcome (asked (row_type columns) e path) path (mean (row_type columns) slots a e) (mean (row_type columns) slots b e)

  -- what is asked for each of several names
  pub record EachOutcome (ask : List Bytes → List Asking) (names : List Bytes) (v w : Val) : Type 0 where
    pub values : AllByRecursion (λ f. field_of f v ≡ field_of f w) names
    pub nodes : NodesSame (each_asked ask names)

  pub each-outcome : (ask : List Bytes → List Asking) (fs : Fields) (names : List Bytes) (v w : Val)
      → ((f : Bytes) → in_option (path_in []) (field_type f fs) ≡ true → AskedAgree (ask (f ∷ [])) → Outcome (ask (f ∷ [])) (f ∷ []) v w)
      → AllByRecursion (λ f. has_name f (field_names fs) ≡ true) names → AskedAgree (each_asked ask names) → EachOutcome ask names v w
  each-outcome ask fs [] v w r h k = record { values = tt; nodes = tt }
  each-outcome ask fs (f ∷ names) v w r h k =
      let found = has_field f fs h.0 in
      let parts = agree-parts (ask (f ∷ [])) (each_asked ask names) k in
      let one = r f (path_in-first f [] fs found.own found.found refl) parts.0 in
      let more = each-outcome ask fs names v w r h.1 parts.1 in
      record { values = (one.value, more.values); nodes = nodes-both (ask (f ∷ [])) (each_asked ask names) one.nodes more.nodes }

members_at-same : (names : List Bytes) (v w : Val) → AllByRecursion (λ f. field_of f v ≡ field_of f w) names → members_at names v ≡ members_at names w
members_at-same [] v w h = refl
members_at-same (f ∷ names) v w h = ap (λ (x : Val). member f x (members_at names v)) h.0 ∙ ap (member f (field_of f w)) (members_at-same names v w h.1)

-- two structs of the same distinct names with the same fields are the same
pub same-struct : (v w : Val) (fs : Fields) → StructButNulls v fs → StructButNulls w fs → distinct_names (field_names fs) ≡ true → AllByRecursion (λ f. field_of f v ≡ field_of f w) (field_names fs)
    → v ≡ w
same-struct v w fs s r d h = sym (own-fields v fs s d) ∙ (ap struct_val (members_at-same (field_names fs) v w h) ∙ own-fields w fs r d)

-- the row itself
root-names : (columns : Fields) (slots : Slots) (a b : Val) (names : List Bytes) → AllByRecursion (λ f. has_name f (field_names columns) ≡ true) names → AskedAgree columns slots a b (map asks_column names)
    → AllByRecursion (λ f. field_of f a ≡ field_of f b) names
root-names columns slots a b [] h k = tt
root-names columns slots a b (c ∷ names) h k = (k.0 h.0, root-names columns slots a b names h.1 k.1)

columns-nodes : (columns : Fields) (slots : Slots) (a b : Val) (names : List Bytes) → NodesSame columns slots a b (map asks_column names)
columns-nodes columns slots a b [] = tt
columns-nodes columns slots a b (c ∷ names) = columns-nodes columns slots a b names

field_type-has : (f : Bytes) (fs : Fields) (w : Ty) → field_type f fs ≡ Some w → has_name f (field_names fs) ≡ true
field_type-has f no_fields w h = let no : ⊥ = cc in absurd no
field_type-has f (field g t fs) w h = by-test (bytes_eq f g) h (field_type-has f fs w)
  where
    by-test : (x : Bool) → cond x (Some t) (field_type f fs) ≡ Some w → (field_type f fs ≡ Some w → has_name f (field_names fs) ≡ true) → (x || has_name f (field_names fs)) ≡ true
    by-test true k r = refl
    by-test false k r = r k

root-agreeing : (columns : Fields) (slots : Slots) (a b : Val) (u : Ty) → FitsButNulls a (row_type columns) → FitsButNulls b (row_type columns) → typed_of (row_type columns) root ≡ Ok u → Agreeing columns slots a b root u
unfolding asked mean typed_of
root-agreeing columns slots a b u h k e [] p q =
    let distinct = struct-distinct columns NonNullable (subst (λ (z : Ty). no_name_twice z ≡ true) (sym (distinct_type-ok (row_type columns) u e)) (typed-distinct (row_type columns) root u e)) in
    record {
      value = same-struct a b columns (struct-but_nulls a columns h) (struct-but_nulls b columns k) distinct.names (root-names columns slots a b (field_names columns) (all-own_names (field_names columns)) q);
      nodes = columns-nodes columns slots a b (field_names columns);
    }
root-agreeing columns slots a b u h k e (c ∷ path) p q =
    let first = first_of_path c path columns (subst (λ (z : Ty). path_in (c ∷ path) z ≡ true) (sym (distinct_type-ok (row_type columns) u e)) p) in
    record { value = ap (path_value path) (q.0 (field_type-has c columns first.own first.found)); nodes = tt }

-- a field of a struct
get_item-agreeing : (columns : Fields) (slots : Slots) (a b : Val) (f : Bytes) (d : Tree) (s u : Ty) → item_type f s ≡ Ok u → Agreeing columns slots a b d s → Agreeing columns slots a b (get_item f d) u
unfolding asked mean
get_item-agreeing columns slots a b f d s u e r path p q =
    let k = item_type-ok f s u e in
    let inner : path_in path k.own ≡ true = sym (path_in-widened path k.own k.nullability) ∙ subst (λ (z : Ty). path_in path z ≡ true) k.gives p in
    let o = r (f ∷ path) (subst (λ (z : Ty). path_in (f ∷ path) z ≡ true) (sym k.is) (path_in-first f path k.fields k.own k.found inner)) q in
    record { value = o.value; nodes = (refl, o.nodes) }

-- an operator, which breaks by its operands' values
binary-break : (columns : Fields) (slots : Slots) (a b : Val) (l : Tree) (op : Operator) (r : Tree)
    → mean (row_type columns) slots a l ≡ mean (row_type columns) slots b l → mean (row_type columns) slots a r ≡ mean (row_type columns) slots b r
    → break_of (row_type columns) slots a (binary l op r) ≡ break_of (row_type columns) slots b (binary l op r)
unfolding mean
binary-break columns slots a b l Operator.Add r h k =
    ap (λ (v : Val). cause_where (not (is_fault v) && not (is_fault (mean (row_type columns) slots a r))) (binary3 Operator.Add v (mean (row_type columns) slots a r)) by_sum) h
    ∙ ap (λ (w : Val). cause_where (not (is_fault (mean (row_type columns) slots b l)) && not (is_fault w)) (binary3 Operator.Add (mean (row_type columns) slots b l) w) by_sum) k
binary-break columns slots a b l Operator.Sub r h k =
    ap (λ (v : Val). cause_where (not (is_fault v) && not (is_fault (mean (row_type columns) slots a r))) (binary3 Operator.Sub v (mean (row_type columns) slots a r)) by_sum) h
    ∙ ap (λ (w : Val). cause_where (not (is_fault (mean (row_type columns) slots b l)) && not (is_fault w)) (binary3 Operator.Sub (mean (row_type columns) slots b l) w) by_sum) k
binary-break columns slots a b l _ r h k = refl

-- a node of which each operand is asked whole
binary-agreeing : (columns : Fields) (slots : Slots) (a b : Val) (l : Tree) (op : Operator) (r : Tree) (s t u : Ty) → Agreeing columns slots a b l s → Agreeing columns slots a b r t
    → Agreeing columns slots a b (binary l op r) u
unfolding asked mean
binary-agreeing columns slots a b l op r s t u x y path p q =
    let parts = agree-parts columns slots a b (asked (row_type columns) l []) (asked (row_type columns) r []) q in
    let o = x [] refl parts.0 in
    let m = y [] refl parts.1 in
    record {
      value = ap (λ (v : Val). path_value path (binary3 op v (mean (row_type columns) slots a r))) o.value ∙ ap (λ (w : Val). path_value path (binary3 op (mean (row_type columns) slots b l) w)) m.value;
      nodes = (binary-break columns slots a b l op r o.value m.value, nodes-both columns slots a b (asked (row_type columns) l []) (asked (row_type columns) r []) o.nodes m.nodes);
    }

like-agreeing : (columns : Fields) (slots : Slots) (a b : Val) (l r : Tree) (negated fold_case : Bool) (s t u : Ty) → Agreeing columns slots a b l s → Agreeing columns slots a b r t
    → Agreeing columns slots a b (like l r negated fold_case) u
unfolding asked mean
like-agreeing columns slots a b l r negated fold_case s t u x y path p q =
    let parts = agree-parts columns slots a b (asked (row_type columns) l []) (asked (row_type columns) r []) q in
    let o = x [] refl parts.0 in
    let m = y [] refl parts.1 in
    record {
      value = ap (λ (v : Val). path_value path (like3 negated fold_case v (mean (row_type columns) slots a r))) o.value
          ∙ ap (λ (w : Val). path_value path (like3 negated fold_case (mean (row_type columns) slots b l) w)) m.value;
      nodes = (refl, nodes-both columns slots a b (asked (row_type columns) l []) (asked (row_type columns) r []) o.nodes m.nodes);
    }

contains-agreeing : (columns : Fields) (slots : Slots) (a b : Val) (l r : Tree) (s t u : Ty) → Agreeing columns slots a b l s → Agreeing columns slots a b r t → Agreeing columns slots a b (list_contains l r) u
unfolding asked mean
contains-agreeing columns slots a b l r s t u x y path p q =
    let parts = agree-parts columns slots a b (asked (row_type columns) l []) (asked (row_type columns) r []) q in
    let o = x [] refl parts.0 in
    let m = y [] refl parts.1 in
    record {
      value = ap (λ (v : Val). path_value path (contains3 v (mean (row_type columns) slots a r))) o.value ∙ ap (λ (w : Val). path_value path (contains3 (mean (row_type columns) slots b l) w)) m.value;
      nodes = (refl, nodes-both columns slots a b (asked (row_type columns) l []) (asked (row_type columns) r []) o.nodes m.nodes);
    }

between-agreeing : (columns : Fields) (slots : Slots) (a b : Val) (e l r : Tree) (options : BetweenOptions) (w s t u : Ty) → Agreeing columns slots a b e w → Agreeing columns slots a b l s
    → Agreeing columns slots a b r t → Agreeing columns slots a b (between e l r options) u
unfolding asked mean
between-agreeing columns slots a b e l r options w s t u x y z path p q =
    let parts = agree-parts columns slots a b (asked (row_type columns) e []) (asked (row_type columns) l [] ++ asked (row_type columns) r []) q in
    let more = agree-parts columns slots a b (asked (row_type columns) l []) (asked (row_type columns) r []) parts.1 in
    let o = x [] refl parts.0 in
    let m = y [] refl more.0 in
    let n = z [] refl more.1 in
    record {
      value = ap (λ (v : Val). path_value path (between3 options v (mean (row_type columns) slots a l) (mean (row_type columns) slots a r))) o.value
          ∙ (ap (λ (v : Val). path_value path (between3 options (mean (row_type columns) slots b e) v (mean (row_type columns) slots a r))) m.value
          ∙ ap (λ (v : Val). path_value path (between3 options (mean (row_type columns) slots b e) (mean (row_type columns) slots b l) v)) n.value);
      nodes = (
        refl,
        nodes-both columns slots a b (asked (row_type columns) e []) (asked (row_type columns) l [] ++ asked (row_type columns) r []) o.nodes
            (nodes-both columns slots a b (asked (row_type columns) l []) (asked (row_type columns) r []) m.nodes n.nodes),
      );
    }

not-agreeing : (columns : Fields) (slots : Slots) (a b : Val) (d : Tree) (s u : Ty) → Agreeing columns slots a b d s → Agreeing columns slots a b (not_of d) u
unfolding asked mean
not-agreeing columns slots a b d s u x path p q = let o = x [] refl q in record { value = ap (λ (v : Val). path_value path (not3 v)) o.value; nodes = (refl, o.nodes) }

is_null-agreeing : (columns : Fields) (slots : Slots) (a b : Val) (d : Tree) (s u : Ty) → Agreeing columns slots a b d s → Agreeing columns slots a b (is_null_of d) u
unfolding asked mean
is_null-agreeing columns slots a b d s u x path p q = let o = x [] refl q in record { value = ap (λ (v : Val). path_value path (is_null3 v)) o.value; nodes = (refl, o.nodes) }

cast-agreeing : (columns : Fields) (slots : Slots) (a b : Val) (d : Tree) (target s u : Ty) → Agreeing columns slots a b d s → Agreeing columns slots a b (cast d target) u
unfolding asked mean
cast-agreeing columns slots a b d target s u x path p q =
    let o = x [] refl q in
    record {
      value = ap (λ (v : Val). path_value path (cast3 target v)) o.value;
      nodes = (ap (λ (v : Val). cause_where (not (is_fault v)) (cast3 target v) by_cast) o.value, o.nodes);
    }

dynamic-agreeing : (columns : Fields) (slots : Slots) (a b : Val) (d : Tree) (op : CompareOperator) (k : ℕ) (slot : Ty) (default : Bool) (s u : Ty) → Agreeing columns slots a b d s
    → Agreeing columns slots a b (dynamic d op k slot default) u
unfolding asked mean
dynamic-agreeing columns slots a b d op k slot default s u x path p q =
    let o = x [] refl q in
    record { value = ap (λ (v : Val). path_value path (dynamic3 op default v (slot_value slots k))) o.value; nodes = (refl, o.nodes) }

-- a selected field
select-one : (columns : Fields) (slots : Slots) (a b : Val) (c : FieldSelection) (d : Tree) (s u : Ty) → select_type c s ≡ Ok u → FitsButNulls (mean (row_type columns) slots a d) s
    → FitsButNulls (mean (row_type columns) slots b d) s → Agreeing columns slots a b d s
    → (f : Bytes) (path : List Bytes) → path_in (f ∷ path) u ≡ true → AskedAgree columns slots a b (asked (row_type columns) d (f ∷ path))
    → Outcome columns slots a b (asked (row_type columns) d (f ∷ path)) (f ∷ path) (select3 c (mean (row_type columns) slots a d)) (select3 c (mean (row_type columns) slots b d))
select-one columns slots a b c d s u e h g r f path p q =
    let k = select_type-ok c s u e in
    let v = struct-but_nulls (mean (row_type columns) slots a d) k.fields (subst (FitsButNulls (mean (row_type columns) slots a d)) k.is h) in
    let w = struct-but_nulls (mean (row_type columns) slots b d) k.fields (subst (FitsButNulls (mean (row_type columns) slots b d)) k.is g) in
    let first = first_of_path f path (selected_fields c k.fields) (subst (λ (z : Ty). path_in (f ∷ path) z ≡ true) k.gives p) in
    let in_first = select-chosen c f k.fields v.members first.own first.found in
    let in_second = select-chosen c f k.fields w.members first.own first.found in
    let o = r (f ∷ path) (subst (λ (z : Ty). path_in (f ∷ path) z ≡ true) (sym k.is) (path_in-first f path k.fields first.own in_first.type first.rest)) q in
    let own : field_of f (select3 c (mean (row_type columns) slots a d)) ≡ field_of f (mean (row_type columns) slots a d) =
    ap (λ (z : Val). field_of f (select3 c z)) v.is ∙ (in_first.value ∙ ap (field_of f) (sym v.is)) in
    let other : field_of f (select3 c (mean (row_type columns) slots b d)) ≡ field_of f (mean (row_type columns) slots b d) =
    ap (λ (z : Val). field_of f (select3 c z)) w.is ∙ (in_second.value ∙ ap (field_of f) (sym w.is)) in
    record { value = ap (path_value path) own ∙ (o.value ∙ sym (ap (path_value path) other)); nodes = o.nodes }

select-agreeing : (columns : Fields) (slots : Slots) (a b : Val) (c : FieldSelection) (d : Tree) (s u : Ty) → typed_of (row_type columns) (select c d) ≡ Ok u → select_type c s ≡ Ok u
    → FitsButNulls (mean (row_type columns) slots a d) s → FitsButNulls (mean (row_type columns) slots b d) s → Agreeing columns slots a b d s → Agreeing columns slots a b (select c d) u
unfolding asked mean
select-agreeing columns slots a b c d s u e g h k r (f ∷ path) p q =
    let o = select-one columns slots a b c d s u g h k r f path p q in record { value = o.value; nodes = (refl, o.nodes) }
select-agreeing columns slots a b c d s u e g h k r [] p q =
    let i = select_type-ok c s u g in
    let fs = selected_fields c i.fields in
    let v = select3 c (mean (row_type columns) slots a d) in
    let w = select3 c (mean (row_type columns) slots b d) in
    let is = struct-but_nulls v fs (subst (FitsButNulls v) i.gives (select-but_nulls c (mean (row_type columns) slots a d) s u h g)) in
    let other = struct-but_nulls w fs (subst (FitsButNulls w) i.gives (select-but_nulls c (mean (row_type columns) slots b d) s u k g)) in
    let distinct = struct-distinct fs NonNullable (subst (λ (z : Ty). no_name_twice z ≡ true) i.gives (typed-distinct (row_type columns) (select c d) u e)) in
    let same = names_in-select (row_type columns) (select c d) u fs NonNullable e i.gives in
    let each = each-outcome columns slots a b (asked (row_type columns) d) fs (given_names (row_type columns) (select c d)) v w
    (λ f found one. select-one columns slots a b c d s u g h k r f [] (subst (λ (z : Ty). path_in (f ∷ []) z ≡ true) (sym i.gives) found) one)
    (subst (AllByRecursion (λ f. has_name f (field_names fs) ≡ true)) (sym same) (all-own_names (field_names fs))) q in
    record { value = same-struct v w fs is other distinct.names (subst (AllByRecursion (λ f. field_of f v ≡ field_of f w)) same each.values); nodes = (refl, each.nodes) }

-- a merge takes fields from its last givers, which agree
abbrev pub GiversAgreeing : Fields → Slots → Val → Val → Trees → List Ty → Type 0
GiversAgreeing columns slots a b es us =
    (f : Bytes) (path : List Bytes) (w : Ty) → merged_type_at f us ≡ Some w → path_in path w ≡ true → AskedAgree columns slots a b (asked_of_giver (givers (row_type columns) es) (f ∷ path))
    → (path_value path (merged_value f (sources (row_type columns) slots a es)) ≡ path_value path (merged_value f (sources (row_type columns) slots b es)))
    × NodesSame columns slots a b (asked_of_giver (givers (row_type columns) es) (f ∷ path))

giver-own : (columns : Fields) (slots : Slots) (a b : Val) (d : Tree) (s : Ty) (f : Bytes) (path : List Bytes) (w : Ty) → type_in f s ≡ Some w → path_in path w ≡ true
    → Agreeing columns slots a b d s → AskedAgree columns slots a b (asked (row_type columns) d (f ∷ path))
    → Outcome columns slots a b (asked (row_type columns) d (f ∷ path)) (f ∷ path) (mean (row_type columns) slots a d) (mean (row_type columns) slots b d)
giver-own columns slots a b d s f path w e p r q = by-type (field_type f (fields_of s)) refl e
  where
    by-type : (o : Option Ty) → field_type f (fields_of s) ≡ o → option_map (λ (v : Ty). widened v (nullability_of s)) o ≡ Some w
        → Outcome columns slots a b (asked (row_type columns) d (f ∷ path)) (f ∷ path) (mean (row_type columns) slots a d) (mean (row_type columns) slots b d)
    by-type None j k = let no : ⊥ = cc in absurd no
    by-type (Some v) j k =
        let same : widened v (nullability_of s) ≡ w = cc in
        let inner : path_in path v ≡ true = sym (path_in-widened path v (nullability_of s)) ∙ subst (λ (z : Ty). path_in path z ≡ true) (sym same) p in
        r (f ∷ path) (path_in-first f path (fields_of s) v j inner) q

givers-agreeing : (columns : Fields) (slots : Slots) (a b : Val) (d : Tree) (ds : Trees) (s : Ty) (us : List Ty) → given_names (row_type columns) d ≡ names_in s
    → all_typed (row_type columns) ds ≡ Ok us → Agreeing columns slots a b d s → GiversAgreeing columns slots a b ds us → GiversAgreeing columns slots a b (tree d ds) (s ∷ us)
unfolding mean asked
givers-agreeing columns slots a b d ds s us named were own rest f path w e p q =
    let t = row_type columns in
    let xs = sources t slots a ds in
    let ys = sources t slots b ds in
    let here = has_name f (given_names t d) in
    let gives = gives-typed t slots a f ds us were in
    let gives_other = gives-typed t slots b f ds us were in
    let value = merged_value-step f (record { names = given_names t d; whole = mean t slots a d }) xs
    ∙ ap (λ (x : Bool). cond x (merged_value f xs) (cond here (field_of f (mean t slots a d)) fault)) gives in
    let value_other = merged_value-step f (record { names = given_names t d; whole = mean t slots b d }) ys
    ∙ ap (λ (x : Bool). cond x (merged_value f ys) (cond here (field_of f (mean t slots b d)) fault)) gives_other in
    let ask = asked_of_giver-step f path (record { names = given_names t d; asks = asked t d }) (givers t ds)
    ∙ ap (λ (x : Bool). cond x (asked_of_giver (givers t ds) (f ∷ path)) (cond here (asked t d (f ∷ path)) [])) (givers-same t slots a f ds ∙ gives) in
    let done = by-test (some_gives names_in f us) (sym (merged_type_at-step f s us) ∙ e) (subst (AskedAgree columns slots a b) ask q) in (
      ap (path_value path) value ∙ (done.0 ∙ sym (ap (path_value path) value_other)),
      subst (NodesSame columns slots a b) (sym ask) done.1,
    )
  where
    by-test : (x : Bool) → cond x (merged_type_at f us) (type_in f s) ≡ Some w
        → AskedAgree columns slots a b (cond x (asked_of_giver (givers (row_type columns) ds) (f ∷ path)) (cond (has_name f (given_names (row_type columns) d)) (asked (row_type columns) d (f ∷ path)) []))
        → (path_value path (cond x (merged_value f (sources (row_type columns) slots a ds)) (cond (has_name f (given_names (row_type columns) d)) (field_of f (mean (row_type columns) slots a d)) fault))
        ≡ path_value path (cond x (merged_value f (sources (row_type columns) slots b ds)) (cond (has_name f (given_names (row_type columns) d)) (field_of f (mean (row_type columns) slots b d)) fault)))
        × NodesSame columns slots a b (cond x (asked_of_giver (givers (row_type columns) ds) (f ∷ path)) (cond (has_name f (given_names (row_type columns) d)) (asked (row_type columns) d (f ∷ path)) []))
    by-test true k j = rest f path w k p j
    by-test false k j =
        let t = row_type columns in
        let here : has_name f (given_names t d) ≡ true = ap (has_name f) named ∙ type_in-named f s w k in
        let o = giver-own columns slots a b d s f path w k p own (subst (λ (x : Bool). AskedAgree columns slots a b (cond x (asked t d (f ∷ path)) [])) here j) in (
          ap (λ (x : Bool). path_value path (cond x (field_of f (mean t slots a d)) fault)) here
              ∙ (o.value ∙ sym (ap (λ (x : Bool). path_value path (cond x (field_of f (mean t slots b d)) fault)) here)),
          subst (λ (x : Bool). NodesSame columns slots a b (cond x (asked t d (f ∷ path)) [])) (sym here) o.nodes,
        )

merge-one : (columns : Fields) (slots : Slots) (a b : Val) (es : Trees) (n : Nullability) (us : List Ty) (u : Ty) → merge_type n us ≡ Ok u → all_typed (row_type columns) es ≡ Ok us
    → GiversAgreeing columns slots a b es us
    → (f : Bytes) (path : List Bytes) → path_in (f ∷ path) u ≡ true → AskedAgree columns slots a b (asked_of_giver (givers (row_type columns) es) (f ∷ path))
    → Outcome columns slots a b (asked_of_giver (givers (row_type columns) es) (f ∷ path)) (f ∷ path) (merged (sources (row_type columns) slots a es)) (merged (sources (row_type columns) slots b es))
merge-one columns slots a b es n us u e were r f path p q =
    let k = merge_type-ok us n u e in
    let xs = sources (row_type columns) slots a es in
    let ys = sources (row_type columns) slots b es in
    let first = first_of_path f path (merged_fields_at (merged_names names_in us) us) (subst (λ (z : Ty). path_in (f ∷ path) z ≡ true) k.gives p) in
    let found = merged_fields-type (merged_names names_in us) us f first.own first.found in
    let own = first_names (flat_map source_names xs) in
    let other = first_names (flat_map source_names ys) in
    let in_own : has_name f own ≡ true = ap (λ (z : List Bytes). has_name f (first_names z)) (names-typed (row_type columns) slots a es us were) ∙ found.name in
    let in_other : has_name f other ≡ true = ap (λ (z : List Bytes). has_name f (first_names z)) (names-typed (row_type columns) slots b es us were) ∙ found.name in
    let done = r f path first.own found.type first.rest q in
    record {
      value = ap (path_value path) (merged_members-value own xs f in_own) ∙ (done.0 ∙ sym (ap (path_value path) (merged_members-value other ys f in_other)));
      nodes = done.1;
    }

merge-struct : (t : Ty) (slots : Slots) (row : Val) (es : Trees) (n : Nullability) (us : List Ty) (u : Ty) → FitsButNulls row t → typed_of t (merge es n) ≡ Ok u → merge_type n us ≡ Ok u
    → StructButNulls (merged (sources t slots row es)) (merged_fields_at (merged_names names_in us) us)
unfolding fits_but_for_faults plain_nullable mean
merge-struct t slots row es n us u h e g =
    let ss = sources t slots row es in
    let fit = subst (FitsButNulls (merged ss)) (merge_type-ok us n u g).gives (mean-but_nulls t slots row (merge es n) u h e) in
    record { members = merged_members (first_names (flat_map source_names ss)) ss; is = refl; fit = fit }

merge-agreeing : (columns : Fields) (slots : Slots) (a b : Val) (es : Trees) (n : Nullability) (us : List Ty) (u : Ty) → typed_of (row_type columns) (merge es n) ≡ Ok u → merge_type n us ≡ Ok u
    → all_typed (row_type columns) es ≡ Ok us → FitsButNulls a (row_type columns) → FitsButNulls b (row_type columns) → GiversAgreeing columns slots a b es us → Agreeing columns slots a b (merge es n) u
unfolding asked mean
merge-agreeing columns slots a b es n us u e g were h k r (f ∷ path) p q =
    let o = merge-one columns slots a b es n us u g were r f path p q in record { value = o.value; nodes = (refl, o.nodes) }
merge-agreeing columns slots a b es n us u e g were h k r [] p q =
    let t = row_type columns in
    let i = merge_type-ok us n u g in
    let fs = merged_fields_at (merged_names names_in us) us in
    let xs = sources t slots a es in
    let ys = sources t slots b es in
    let distinct = struct-distinct fs n (subst (λ (z : Ty). no_name_twice z ≡ true) i.gives (typed-distinct t (merge es n) u e)) in
    let same : merged_names giver_names (givers t es) ≡ field_names fs = ap first_names (giver_names-same t slots a es ∙ names-typed t slots a es us were) ∙ sym (field_names-merged us) in
    let each = each-outcome columns slots a b (asked_of_giver (givers t es)) fs (merged_names giver_names (givers t es)) (merged xs) (merged ys)
    (λ f found one. merge-one columns slots a b es n us u g were r f [] (subst (λ (z : Ty). path_in (f ∷ []) z ≡ true) (sym i.gives) found) one)
    (subst (AllByRecursion (λ f. has_name f (field_names fs) ≡ true)) (sym same) (all-own_names (field_names fs))) q in
    record {
      value = same-struct (merged xs) (merged ys) fs (merge-struct t slots a es n us u h e g) (merge-struct t slots b es n us u k e g) distinct.names
          (subst (AllByRecursion (λ f. field_of f (merged xs) ≡ field_of f (merged ys))) same each.values);
      nodes = (refl, each.nodes);
    }

-- a pack's values, whole and by name
pub record PackWhole (columns : Fields) (slots : Slots) (a b : Val) (names : List Bytes) (es : Trees) : Type 0 where
  pub values : zip_members names (meanings (row_type columns) slots a es) ≡ zip_members names (meanings (row_type columns) slots b es)
  pub nodes : NodesSame columns slots a b (asked_in_pack (row_type columns) names es [])

pub record PackOne (columns : Fields) (slots : Slots) (a b : Val) (names : List Bytes) (es : Trees) (f : Bytes) (path : List Bytes) : Type 0 where
  pub value : path_value path (unwrap_or (member_named f (zip_members names (meanings (row_type columns) slots a es))) fault)
      ≡ path_value path (unwrap_or (member_named f (zip_members names (meanings (row_type columns) slots b es))) fault)
  pub nodes : NodesSame columns slots a b (asked_in_pack (row_type columns) names es (f ∷ path))

pub record PackAgreeing (columns : Fields) (slots : Slots) (a b : Val) (names : List Bytes) (es : Trees) (us : List Ty) : Type 0 where
  pub whole : AskedAgree columns slots a b (asked_in_pack (row_type columns) names es []) → PackWhole columns slots a b names es
  pub one : (f : Bytes) (path : List Bytes) → in_option (path_in path) (field_type f (zipped names us)) ≡ true → AskedAgree columns slots a b (asked_in_pack (row_type columns) names es (f ∷ path))
      → PackOne columns slots a b names es f path

pack-none : (columns : Fields) (slots : Slots) (a b : Val) (names : List Bytes) → PackAgreeing columns slots a b names no_trees []
unfolding mean asked
pack-none columns slots a b [] = record { whole = λ q. record { values = refl; nodes = tt }; one = λ f path p q. record { value = refl; nodes = tt } }
pack-none columns slots a b (g ∷ names) = record { whole = λ q. record { values = refl; nodes = tt }; one = λ f path p q. record { value = refl; nodes = tt } }

pack-unnamed : (columns : Fields) (slots : Slots) (a b : Val) (d : Tree) (ds : Trees) (us : List Ty) → PackAgreeing columns slots a b [] (tree d ds) us
unfolding mean asked
pack-unnamed columns slots a b d ds us = record { whole = λ q. record { values = refl; nodes = tt }; one = λ f path p q. record { value = refl; nodes = tt } }

pack-more : (columns : Fields) (slots : Slots) (a b : Val) (g : Bytes) (names : List Bytes) (d : Tree) (ds : Trees) (s : Ty) (us : List Ty) → Agreeing columns slots a b d s
    → PackAgreeing columns slots a b names ds us → PackAgreeing columns slots a b (g ∷ names) (tree d ds) (s ∷ us)
unfolding mean asked
pack-more columns slots a b g names d ds s us own rest =
    let t = row_type columns in
    record {
      whole = λ q.
          let parts = agree-parts columns slots a b (asked t d []) (asked_in_pack t names ds []) q in
          let o = own [] refl parts.0 in
          let more = rest.whole parts.1 in
          record {
            values = ap (λ (v : Val). member g v (zip_members names (meanings t slots a ds))) o.value ∙ ap (member g (mean t slots b d)) more.values;
            nodes = nodes-both columns slots a b (asked t d []) (asked_in_pack t names ds []) o.nodes more.nodes;
          };
      one = λ f path p q. let done = by-test (bytes_eq f g) f path p q in record { value = done.0; nodes = done.1 };
    }
  where
    by-test : (x : Bool) (f : Bytes) (path : List Bytes) → in_option (path_in path) (cond x (Some s) (field_type f (zipped names us))) ≡ true
        → AskedAgree columns slots a b (cond x (asked (row_type columns) d path) (asked_in_pack (row_type columns) names ds (f ∷ path)))
        → (path_value path (unwrap_or (cond x (Some (mean (row_type columns) slots a d)) (member_named f (zip_members names (meanings (row_type columns) slots a ds)))) fault)
        ≡ path_value path (unwrap_or (cond x (Some (mean (row_type columns) slots b d)) (member_named f (zip_members names (meanings (row_type columns) slots b ds)))) fault))
        × NodesSame columns slots a b (cond x (asked (row_type columns) d path) (asked_in_pack (row_type columns) names ds (f ∷ path)))
    by-test true f path p q = let o = own path p q in (o.value, o.nodes)
    by-test false f path p q = let o = rest.one f path p q in (o.value, o.nodes)

pack-agreeing : (columns : Fields) (slots : Slots) (a b : Val) (names : List Bytes) (es : Trees) (n : Nullability) (us : List Ty) (u : Ty) → pack_type names n us ≡ Ok u
    → PackAgreeing columns slots a b names es us → Agreeing columns slots a b (pack names es n) u
unfolding asked mean
pack-agreeing columns slots a b names es n us u e r [] p q = let o = r.whole q in record { value = ap struct_val o.values; nodes = (refl, o.nodes) }
pack-agreeing columns slots a b names es n us u e r (f ∷ path) p q =
    let o = r.one f path (subst (λ (z : Ty). path_in (f ∷ path) z ≡ true) (pack_type-ok names n us u e) p) q in record { value = o.value; nodes = (refl, o.nodes) }

literal-agreeing : (columns : Fields) (slots : Slots) (a b : Val) (c : _) (u : Ty) → Agreeing columns slots a b (literal c) u
unfolding asked mean
literal-agreeing columns slots a b c u path p q = record { value = refl; nodes = (refl, tt) }

mutual
  unfolding typed_of

  pub mean-agreeing : (columns : Fields) (slots : Slots) (a b : Val) (e : Tree) (u : Ty) → FitsButNulls a (row_type columns) → FitsButNulls b (row_type columns) → typed_of (row_type columns) e ≡ Ok u
      → Agreeing columns slots a b e u
  mean-agreeing columns slots a b root u h k e = root-agreeing columns slots a b u h k e
  mean-agreeing columns slots a b (literal c) u h k e = literal-agreeing columns slots a b c u
  mean-agreeing columns slots a b (get_item f d) u h k e =
      let t = row_type columns in
      let x = and_then-ok (typed_of t d) (item_type f) u e in
      get_item-agreeing columns slots a b f d x.given u x.gave (mean-agreeing columns slots a b d x.given h k x.was)
  mean-agreeing columns slots a b (binary l op r) u h k e =
      let t = row_type columns in
      let x = and_then-ok (typed_of t l) (λ z. and_then (typed_of t r) (binary_type op z)) u e in
      let y = and_then-ok (typed_of t r) (binary_type op x.given) u x.gave in
      binary-agreeing columns slots a b l op r x.given y.given u (mean-agreeing columns slots a b l x.given h k x.was) (mean-agreeing columns slots a b r y.given h k y.was)
  mean-agreeing columns slots a b (not_of d) u h k e =
      let t = row_type columns in
      let x = and_then-ok (typed_of t d) not_type u e in
      not-agreeing columns slots a b d x.given u (mean-agreeing columns slots a b d x.given h k x.was)
  mean-agreeing columns slots a b (is_null_of d) u h k e =
      let t = row_type columns in
      let x = and_then-ok (typed_of t d) (λ z. Ok (bool_ty NonNullable)) u e in
      is_null-agreeing columns slots a b d x.given u (mean-agreeing columns slots a b d x.given h k x.was)
  mean-agreeing columns slots a b (like l r negated fold_case) u h k e =
      let t = row_type columns in
      let x = and_then-ok (typed_of t l) (λ z. and_then (typed_of t r) (like_type z)) u e in
      let y = and_then-ok (typed_of t r) (like_type x.given) u x.gave in
      like-agreeing columns slots a b l r negated fold_case x.given y.given u (mean-agreeing columns slots a b l x.given h k x.was) (mean-agreeing columns slots a b r y.given h k y.was)
  mean-agreeing columns slots a b (between d lower upper options) u h k e =
      let t = row_type columns in
      let x = and_then-ok (typed_of t d) (λ z. and_then (typed_of t lower) (λ w. and_then (typed_of t upper) (between_type z w))) u e in
      let y = and_then-ok (typed_of t lower) (λ w. and_then (typed_of t upper) (between_type x.given w)) u x.gave in
      let z = and_then-ok (typed_of t upper) (between_type x.given y.given) u y.gave in
      between-agreeing columns slots a b d lower upper options x.given y.given z.given u (mean-agreeing columns slots a b d x.given h k x.was)
      (mean-agreeing columns slots a b lower y.given h k y.was) (mean-agreeing columns slots a b upper z.given h k z.was)
  mean-agreeing columns slots a b (cast d target) u h k e =
      let t = row_type columns in
      let x = and_then-ok (typed_of t d) (cast_type target) u e in
      cast-agreeing columns slots a b d target x.given u (mean-agreeing columns slots a b d x.given h k x.was)
  mean-agreeing columns slots a b (list_contains l r) u h k e =
      let t = row_type columns in
      let x = and_then-ok (typed_of t l) (λ z. and_then (typed_of t r) (contains_type z)) u e in
      let y = and_then-ok (typed_of t r) (contains_type x.given) u x.gave in
      contains-agreeing columns slots a b l r x.given y.given u (mean-agreeing columns slots a b l x.given h k x.was) (mean-agreeing columns slots a b r y.given h k y.was)
  mean-agreeing columns slots a b (pack names es n) u h k e =
      let x = and_then-ok (all_typed (row_type columns) es) (pack_type names n) u e in
      pack-agreeing columns slots a b names es n x.given u x.gave (packed-agreeing columns slots a b names es x.given h k x.was)
  mean-agreeing columns slots a b (merge es n) u h k e =
      let t = row_type columns in
      let x = and_then-ok (all_typed t es) (merge_type n) u e in
      merge-agreeing columns slots a b es n x.given u e x.gave x.was h k (merged-agreeing columns slots a b es x.given h k x.was)
  mean-agreeing columns slots a b (select c d) u h k e =
      let t = row_type columns in
      let x = and_then-ok (typed_of t d) (select_type c) u e in
      select-agreeing columns slots a b c d x.given u e x.gave (mean-but_nulls t slots a d x.given h x.was) (mean-but_nulls t slots b d x.given k x.was) (mean-agreeing columns slots a b d x.given h k x.was)
  mean-agreeing columns slots a b (dynamic d op j slot default) u h k e =
      let t = row_type columns in
      let x = and_then-ok (typed_of t d) (dynamic_type slot) u e in
      dynamic-agreeing columns slots a b d op j slot default x.given u (mean-agreeing columns slots a b d x.given h k x.was)

  packed-agreeing : (columns : Fields) (slots : Slots) (a b : Val) (names : List Bytes) (es : Trees) (us : List Ty) → FitsButNulls a (row_type columns) → FitsButNulls b (row_type columns)
      → all_typed (row_type columns) es ≡ Ok us → PackAgreeing columns slots a b names es us
  packed-agreeing columns slots a b names no_trees us h k e =
      subst (λ (z : List Ty). PackAgreeing columns slots a b names no_trees z) (Ok-same (Ok us) [] us (sym e) refl) (pack-none columns slots a b names)
  packed-agreeing columns slots a b [] (tree d ds) us h k e = pack-unnamed columns slots a b d ds us
  packed-agreeing columns slots a b (g ∷ names) (tree d ds) us h k e =
      let t = row_type columns in
      let x = and_then-ok (typed_of t d) (λ z. and_then (all_typed t ds) (λ zs. Ok (z ∷ zs))) us e in
      let y = and_then-ok (all_typed t ds) (λ zs. Ok (x.given ∷ zs)) us x.gave in
      subst (λ (z : List Ty). PackAgreeing columns slots a b (g ∷ names) (tree d ds) z) (Ok-same (Ok us) (x.given ∷ y.given) us (sym y.gave) refl)
      (pack-more columns slots a b g names d ds x.given y.given (mean-agreeing columns slots a b d x.given h k x.was) (packed-agreeing columns slots a b names ds y.given h k y.was))

  merged-agreeing : (columns : Fields) (slots : Slots) (a b : Val) (es : Trees) (us : List Ty) → FitsButNulls a (row_type columns) → FitsButNulls b (row_type columns)
      → all_typed (row_type columns) es ≡ Ok us → GiversAgreeing columns slots a b es us
  merged-agreeing columns slots a b no_trees us h k e =
      subst (λ (z : List Ty). GiversAgreeing columns slots a b no_trees z) (Ok-same (Ok us) [] us (sym e) refl) (λ f path w p i q. let no : ⊥ = cc in absurd no)
  merged-agreeing columns slots a b (tree d ds) us h k e =
      let t = row_type columns in
      let x = and_then-ok (typed_of t d) (λ z. and_then (all_typed t ds) (λ zs. Ok (z ∷ zs))) us e in
      let y = and_then-ok (all_typed t ds) (λ zs. Ok (x.given ∷ zs)) us x.gave in
      subst (λ (z : List Ty). GiversAgreeing columns slots a b (tree d ds) z) (Ok-same (Ok us) (x.given ∷ y.given) us (sym y.gave) refl)
      (givers-agreeing columns slots a b d ds x.given y.given (ap (λ (r : Result Ty Refusal). names_in (type_or_empty r)) x.was) y.was
      (mean-agreeing columns slots a b d x.given h k x.was) (merged-agreeing columns slots a b ds y.given h k y.was))
