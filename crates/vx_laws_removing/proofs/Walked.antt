-- The walk of a strictly typed expression makes what the three passes make.
use Rattle.std.proofs.Common.{◌≡◌, refl, ap, sym, ◌∙◌, Bool, true, false, cond, Option, Some, None, subst, List, [], ◌∷◌, ◌++◌, Result, Ok}
use Rattle.std.specs.Prelude.{nat_eq, length, map, option_map, unwrap_or}
use Rattle.std.specs.Option.{option_or}
use Rattle.std.specs.List.{list_all, flat_map}
use Rattle.std.proofs.lemmas.Bool.{and_parts}
use Rattle.vx_dtype.specs.declared.BetweenOptions.{BetweenOptions}
use Rattle.vx_dtype.specs.declared.Nullability.{Nullability}
use Rattle.vx_dtype.specs.declared.Nullability.TheVariants.{NonNullable}
use Rattle.vx_dtype.specs.Types.{Bytes, Ty, bool_ty, int_ty, text_ty, list_ty, struct_ty, Fields}
use Rattle.vx_dtype.specs.TypeRules.{field_names, distinct_names, has_name}
use Rattle.vx_dtype.specs.StructTypes.{is_struct_ty}
use Rattle.vx_dtype.specs.Structs.{first_names}
use Rattle.vx_dtype.specs.Zipped.{zipped}
use Rattle.vx_expr.specs.declared.FieldSelection.{FieldSelection}
use Rattle.vx_expr.specs.Children.{where_so}
use Rattle.vx_expr.specs.Selections.{taken_names, names_where_known}
use Rattle.vx_expr.specs.Trees.{Tree, root, literal, get_item, binary, not_of, is_null_of, like, between, cast, list_contains, pack, merge, select, dynamic, Trees, no_trees, tree, trees_of}
use Rattle.vx_semantics.specs.Typing.{Refusal, not_struct, duplicate_field, type_mismatch, and_then, unless, item_type, select_type, pack_type, merge_type, binary_type, not_type, like_type, between_type, contains_type, cast_type, dynamic_type, typed_of, all_typed, names_in, merged_fields_at}
use Rattle.vx_semantics.specs.LooseTyping.{loosely_typed}
use Rattle.vx_semantics.specs.Breaks.{by_sum}
use Rattle.vx_semantics.specs.Merging.{merged_names, last_giver}
use Rattle.vx_passes.specs.Rebuilding.{rebuilt, all_rebuilt}
use Rattle.vx_passes.specs.Simplifying.{field_of_pack, without_packed_fields}
use Rattle.vx_passes.specs.Selecting.{fields_pack, select_as_pack, select_removed, without_select}
use Rattle.vx_passes.specs.Merging.{Giving, giving_names, giving_of, givings, given_field, givings_pack, merge_removed, without_merge}
use Rattle.vx_laws.proofs.Inverting.{and_then-ok, unless-ok, Ok-same}
use Rattle.vx_laws.proofs.Structs.{select_type-ok}
use Rattle.vx_laws.proofs.Distinct.{field_names-zip}
use Rattle.vx_laws_simplifying.proofs.Observing.{breaking, breaking-observes}
use Rattle.vx_laws_simplifying.specs.Narrowing.{no_more_nullable}
use Rattle.vx_laws_simplifying.specs.Keeping.{Pass}
use Rattle.vx_laws_simplifying.proofs.Under.{structs, names-under}
use Rattle.vx_laws_simplifying.proofs.Narrows.{narrowing, Narrow, narrow-then, not_nullable}
use Rattle.vx_laws_simplifying.proofs.Passes.{MakesKept, some_row, some_row-fits}
use Rattle.vx_laws_simplifying.proofs.PackedFields.{without_packed_fields-kept}
use Rattle.vx_laws_removing.proofs.Loosened.{loosened}
use Rattle.vx_laws_removing.proofs.Removed.{without_select-kept, without_merge-kept}
use Rattle.vx_laws_removing.specs.Walking.{WalkMakesThePasses, WalkedStructsKeepNames, StructHead, head_in, head_of, fields_taken, pack_taken, select_by_head, givings_by_head, walked_node, walked}

-- ---- types after each pass

-- an expression that a pass made, with its type, in the place of one of a type
pub record Narrowed (t : Ty) (r : Result Tree Refusal) (u : Ty) : Type 0 where
  pub made : Tree
  pub is : r ≡ Ok made
  pub ty : Ty
  pub typed : typed_of t made ≡ Ok ty
  pub narrow : Narrow ty u

pub narrowed : (pass : Pass) → MakesKept pass → (t : Ty) (e : Tree) (u : Ty) → typed_of t e ≡ Ok u → Narrowed t (pass t e) u
narrowed pass p t e u h =
    let row = some_row t in
    let m = p t [] row (breaking by_sum t [] row) (breaking-observes by_sum t [] row) e u (some_row-fits t) h in
    record { made = m.made; is = m.is; ty = m.kept.ty; typed = m.kept.typed; narrow = m.kept.narrow }

-- what is known of an expression of a type that narrows another
pub record Typed (t : Ty) (d : Tree) (u : Ty) : Type 0 where
  pub ty : Ty
  pub is : typed_of t d ≡ Ok ty
  pub narrow : Narrow ty u

pub typed-made : (t : Ty) (r : Result Tree Refusal) (u : Ty) (d : Tree) → Narrowed t r u → r ≡ Ok d → Typed t d u
typed-made t r u d k h = record { ty = k.ty; is = subst (λ (z : Tree). typed_of t z ≡ Ok k.ty) (Ok-same r k.made d k.is h) k.typed; narrow = k.narrow }

-- one pass after what another made
pub typed-after : (pass : Pass) → MakesKept pass → (t : Ty) (e d : Tree) (u : Ty) → Typed t e u → pass t e ≡ Ok d → Typed t d u
typed-after pass p t e d u k h =
    let m = typed-made t (pass t e) k.ty d (narrowed pass p t e k.ty k.is) h in
    record { ty = m.ty; is = m.is; narrow = narrow-then m.ty k.ty u m.narrow k.narrow }

-- what becomes of an expression by the passes, each after the one before, and by the walk
record Walks (t : Ty) (e : Tree) : Type 0 where
  pub s : Tree
  pub m : Tree
  pub n : Tree
  pub selects : rebuilt (select_removed t) e ≡ Ok s
  pub merges : rebuilt (merge_removed t) s ≡ Ok m
  pub packs : rebuilt field_of_pack m ≡ Ok n
  pub walks : rebuilt (walked_node t) e ≡ Ok n

-- their types
record Types (t : Ty) (s m n : Tree) (u : Ty) : Type 0 where
  pub selected : Typed t s u
  pub merged : Typed t m u
  pub packed : Typed t n u

types-of : (t : Ty) (e : Tree) (u : Ty) → typed_of t e ≡ Ok u → (w : Walks t e) → Types t w.s w.m w.n u
types-of t e u h w =
    let a = typed-made t (without_select t e) u w.s (narrowed without_select without_select-kept t e u h) w.selects in
    let b = typed-after without_merge without_merge-kept t w.s w.m u a w.merges in
    let c = typed-after (λ t e. without_packed_fields e) without_packed_fields-kept t w.m w.n u b w.packs in
    record { selected = a; merged = b; packed = c }

-- the last pass answers what the first two made
record Packed (m : Tree) : Type 0 where
  pub n : Tree
  pub is : rebuilt field_of_pack m ≡ Ok n

packed-after : (t : Ty) (e s m : Tree) (u : Ty) → typed_of t e ≡ Ok u → rebuilt (select_removed t) e ≡ Ok s → rebuilt (merge_removed t) s ≡ Ok m → Packed m
packed-after t e s m u h selects merges =
    let a = typed-made t (without_select t e) u s (narrowed without_select without_select-kept t e u h) selects in
    let b = typed-after without_merge without_merge-kept t s m u a merges in
    let c = narrowed (λ t e. without_packed_fields e) without_packed_fields-kept t m b.ty b.is in
    record { n = c.made; is = c.is }

-- ---- heads of structs

-- a type that narrows a struct's is a struct's with the same names
record StructLike (a : Ty) (names : List Bytes) (n : Nullability) : Type 0 where
  pub fields : Fields
  pub nullability : Nullability
  pub is : a ≡ struct_ty fields nullability
  pub names_same : field_names fields ≡ names
  pub less : no_more_nullable nullability n ≡ true

struct-like : (a : Ty) (fs : Fields) (n : Nullability) → Narrow a (struct_ty fs n) → StructLike a (field_names fs) n
struct-like _ _ _ (structs gs fs m n x h) = record { fields = gs; nullability = m; is = refl; names_same = names-under no_more_nullable narrowing gs fs x; less = h }

head-loose : (t : Ty) (d : Tree) (gs : Fields) (m : Nullability) → typed_of t d ≡ Ok (struct_ty gs m)
    → and_then (loosely_typed t d) head_in ≡ Ok (record { names = field_names gs; nullability = m })
head-loose t d gs m h = ap (λ (r : Result Ty Refusal). and_then r head_in) (loosened t d (struct_ty gs m) h)

head-pack : (names : List Bytes) (n : Nullability) (us : List Ty) (gs : Fields) (m : Nullability) → pack_type names n us ≡ Ok (struct_ty gs m)
    → ◌≡◌ {A = Result StructHead Refusal} (Ok (record { names = names; nullability = n })) (Ok (record { names = field_names gs; nullability = m }))
head-pack names n us gs m h =
    let made : Result Ty Refusal = Ok (struct_ty (zipped names us) n) in
    let a = unless-ok (distinct_names names) duplicate_field (unless (nat_eq (length names) (length us)) type_mismatch made) (struct_ty gs m) h in
    let b = unless-ok (nat_eq (length names) (length us)) type_mismatch made (struct_ty gs m) a.gave in
    let same : struct_ty (zipped names us) n ≡ struct_ty gs m = Ok-same made (struct_ty (zipped names us) n) (struct_ty gs m) refl b.gave in
    ap (λ (ns : List Bytes). Ok (record { names = ns; nullability = n })) (sym (field_names-zip names us b.holds)) ∙ ap head_in same

-- the head of a strictly typed struct is that of its type
head-typed : (t : Ty) (d : Tree) (gs : Fields) (m : Nullability) → typed_of t d ≡ Ok (struct_ty gs m) → head_of t d ≡ Ok (record { names = field_names gs; nullability = m })
unfolding typed_of
head-typed t (pack names es n) gs m h = let a = and_then-ok (all_typed t es) (pack_type names n) (struct_ty gs m) h in head-pack names n a.given gs m a.gave
head-typed t root gs m h = head-loose t root gs m h
head-typed t (literal s) gs m h = head-loose t (literal s) gs m h
head-typed t (get_item f e) gs m h = head-loose t (get_item f e) gs m h
head-typed t (binary l op r) gs m h = head-loose t (binary l op r) gs m h
head-typed t (not_of e) gs m h = head-loose t (not_of e) gs m h
head-typed t (is_null_of e) gs m h = head-loose t (is_null_of e) gs m h
head-typed t (like e p negated fold_case) gs m h = head-loose t (like e p negated fold_case) gs m h
head-typed t (between e lower upper options) gs m h = head-loose t (between e lower upper options) gs m h
head-typed t (cast e target) gs m h = head-loose t (cast e target) gs m h
head-typed t (list_contains l v) gs m h = head-loose t (list_contains l v) gs m h
head-typed t (merge es n) gs m h = head-loose t (merge es n) gs m h
head-typed t (select s e) gs m h = head-loose t (select s e) gs m h
head-typed t (dynamic e op k slot default) gs m h = head-loose t (dynamic e op k slot default) gs m h

-- a struct's type
record AStruct (u : Ty) : Type 0 where
  pub fields : Fields
  pub nullability : Nullability
  pub is : u ≡ struct_ty fields nullability

a-struct : (u : Ty) → is_struct_ty u ≡ true → AStruct u
a-struct (struct_ty fs n) h = record { fields = fs; nullability = n; is = refl }
a-struct (bool_ty n) h = let no : ⊥ = cc in absurd no
a-struct (int_ty p n) h = let no : ⊥ = cc in absurd no
a-struct (text_ty n) h = let no : ⊥ = cc in absurd no
a-struct (list_ty e n) h = let no : ⊥ = cc in absurd no

merge-structs : (us : List Ty) (n : Nullability) (u : Ty) → merge_type n us ≡ Ok u → list_all is_struct_ty us ≡ true
merge-structs us n u h = (unless-ok (list_all is_struct_ty us) not_struct (Ok (struct_ty (merged_fields_at (merged_names names_in us) us) n)) u h).holds

-- ---- nodes that no step changes

module _ (step : Tree → Result Tree Refusal) where
  one : (node : Tree → Tree) (e d : Tree) → ((x : Tree) → step (node x) ≡ Ok (node x)) → rebuilt step e ≡ Ok d
      → and_then (rebuilt step e) (λ x. step (node x)) ≡ Ok (node d)
  one node e d stays h = ap (λ (r : Result Tree Refusal). and_then r (λ x. step (node x))) h ∙ stays d

  two : (node : Tree → Tree → Tree) (e d f g : Tree) → ((x y : Tree) → step (node x y) ≡ Ok (node x y)) → rebuilt step e ≡ Ok d → rebuilt step f ≡ Ok g
      → and_then (rebuilt step e) (λ x. and_then (rebuilt step f) (λ y. step (node x y))) ≡ Ok (node d g)
  two node e d f g stays h k =
      ap (λ (r : Result Tree Refusal). and_then r (λ x. and_then (rebuilt step f) (λ y. step (node x y)))) h
      ∙ (ap (λ (r : Result Tree Refusal). and_then r (λ y. step (node d y))) k ∙ stays d g)

  three : (node : Tree → Tree → Tree → Tree) (e d f g i j : Tree) → ((x y z : Tree) → step (node x y z) ≡ Ok (node x y z))
      → rebuilt step e ≡ Ok d → rebuilt step f ≡ Ok g → rebuilt step i ≡ Ok j
      → and_then (rebuilt step e) (λ x. and_then (rebuilt step f) (λ y. and_then (rebuilt step i) (λ z. step (node x y z)))) ≡ Ok (node d g j)
  three node e d f g i j stays h k l =
      ap (λ (r : Result Tree Refusal). and_then r (λ x. and_then (rebuilt step f) (λ y. and_then (rebuilt step i) (λ z. step (node x y z))))) h
      ∙ (ap (λ (r : Result Tree Refusal). and_then r (λ y. and_then (rebuilt step i) (λ z. step (node d y z)))) k
      ∙ (ap (λ (r : Result Tree Refusal). and_then r (λ z. step (node d g z))) l ∙ stays d g j))

  many : (node : Trees → Tree) (es ds : Trees) → ((xs : Trees) → step (node xs) ≡ Ok (node xs)) → all_rebuilt step es ≡ Ok ds
      → and_then (all_rebuilt step es) (λ xs. step (node xs)) ≡ Ok (node ds)
  many node es ds stays h = ap (λ (r : Result Trees Refusal). and_then r (λ xs. step (node xs))) h ∙ stays ds

  more : (e d : Tree) (es ds : Trees) → rebuilt step e ≡ Ok d → all_rebuilt step es ≡ Ok ds
      → and_then (rebuilt step e) (λ x. and_then (all_rebuilt step es) (λ xs. Ok (tree x xs))) ≡ Ok (tree d ds)
  more e d es ds h k =
      ap (λ (r : Result Tree Refusal). and_then r (λ x. and_then (all_rebuilt step es) (λ xs. Ok (tree x xs)))) h
      ∙ ap (λ (r : Result Trees Refusal). and_then r (λ xs. Ok (tree d xs))) k

module _ (t : Ty) where
  -- whether a kind of node is left by each step as it is
  record Stays {X : Type 0} (node : X → Tree) : Type 0 where
    pub selects : (x : X) → select_removed t (node x) ≡ Ok (node x)
    pub merges : (x : X) → merge_removed t (node x) ≡ Ok (node x)
    pub packs : (x : X) → field_of_pack (node x) ≡ Ok (node x)
    pub walks : (x : X) → walked_node t (node x) ≡ Ok (node x)

  -- a node with one child
  walks-one : (node : Tree → Tree) (e : Tree) → Stays node → ((step : Tree → Result Tree Refusal) (x : Tree) → rebuilt step (node x) ≡ and_then (rebuilt step x) (λ y. step (node y)))
      → Walks t e → Walks t (node e)
  walks-one node e k below w = record {
    s = node w.s;
    m = node w.m;
    n = node w.n;
    selects = below (select_removed t) e ∙ one (select_removed t) node e w.s k.selects w.selects;
    merges = below (merge_removed t) w.s ∙ one (merge_removed t) node w.s w.m k.merges w.merges;
    packs = below field_of_pack w.m ∙ one field_of_pack node w.m w.n k.packs w.packs;
    walks = below (walked_node t) e ∙ one (walked_node t) node e w.n k.walks w.walks;
  }

  -- a node with two
  walks-two : (node : Tree → Tree → Tree) (e f : Tree) → ((x : Tree) → Stays (node x))
      → ((step : Tree → Result Tree Refusal) (x y : Tree) → rebuilt step (node x y) ≡ and_then (rebuilt step x) (λ a. and_then (rebuilt step y) (λ b. step (node a b))))
      → Walks t e → Walks t f → Walks t (node e f)
  walks-two node e f k below w v = record {
    s = node w.s v.s;
    m = node w.m v.m;
    n = node w.n v.n;
    selects = below (select_removed t) e f ∙ two (select_removed t) node e w.s f v.s (λ x. (k x).selects) w.selects v.selects;
    merges = below (merge_removed t) w.s v.s ∙ two (merge_removed t) node w.s w.m v.s v.m (λ x. (k x).merges) w.merges v.merges;
    packs = below field_of_pack w.m v.m ∙ two field_of_pack node w.m w.n v.m v.n (λ x. (k x).packs) w.packs v.packs;
    walks = below (walked_node t) e f ∙ two (walked_node t) node e w.n f v.n (λ x. (k x).walks) w.walks v.walks;
  }

  -- a field on an expression: where it is a pack the value that the last pass takes
  walks-item : (f : Bytes) (e : Tree) (u : Ty) → typed_of t (get_item f e) ≡ Ok u → Walks t e → Walks t (get_item f e)
  unfolding rebuilt
  walks-item f e u h w =
      let selects = one (select_removed t) (get_item f) e w.s (λ x. refl) w.selects in
      let merges = one (merge_removed t) (get_item f) w.s w.m (λ x. refl) w.merges in
      let k = packed-after t (get_item f e) (get_item f w.s) (get_item f w.m) u h selects merges in
      let taken : field_of_pack (get_item f w.n) ≡ Ok k.n = sym (ap (λ (r : Result Tree Refusal). and_then r (λ x. field_of_pack (get_item f x))) w.packs) ∙ k.is in
      record {
        s = get_item f w.s;
        m = get_item f w.m;
        n = k.n;
        selects = selects;
        merges = merges;
        packs = k.is;
        walks = ap (λ (r : Result Tree Refusal). and_then r (λ x. walked_node t (get_item f x))) w.walks ∙ taken;
      }

  -- fields on an expression, by their names
  abbrev items : Tree → List Bytes → Trees
  items e names = trees_of (map (λ f. get_item f e) names)

  items-stay : (step : Tree → Result Tree Refusal) (e d : Tree) → ((f : Bytes) (x : Tree) → step (get_item f x) ≡ Ok (get_item f x)) → rebuilt step e ≡ Ok d
      → (names : List Bytes) → all_rebuilt step (items e names) ≡ Ok (items d names)
  unfolding rebuilt
  items-stay step e d stays h [] = refl
  items-stay step e d stays h (f ∷ names) =
      more step (get_item f e) (get_item f d) (items e names) (items d names) (one step (get_item f) e d (stays f) h) (items-stay step e d stays h names)

  -- fields straight on packs, once the packs are made
  fields-taken : (before after : Bytes → Tree) → ((f : Bytes) → rebuilt field_of_pack (before f) ≡ field_of_pack (after f))
      → (names : List Bytes) → all_rebuilt field_of_pack (trees_of (map before names)) ≡ fields_taken (trees_of (map after names))
  unfolding rebuilt
  fields-taken before after k [] = refl
  fields-taken before after k (f ∷ names) =
      ap (λ (r : Result Tree Refusal). and_then r (λ x. and_then (all_rebuilt field_of_pack (trees_of (map before names))) (λ xs. Ok (tree x xs)))) (k f)
      ∙ ap (λ (rs : Result Trees Refusal). and_then (field_of_pack (after f)) (λ x. and_then rs (λ xs. Ok (tree x xs)))) (fields-taken before after k names)

  item-taken : (f : Bytes) (m n : Tree) → rebuilt field_of_pack m ≡ Ok n → rebuilt field_of_pack (get_item f m) ≡ field_of_pack (get_item f n)
  unfolding rebuilt
  item-taken f m n h = ap (λ (r : Result Tree Refusal). and_then r (λ x. field_of_pack (get_item f x))) h

  pack-taken : (names : List Bytes) (before after : Trees) (k : Nullability) → all_rebuilt field_of_pack before ≡ fields_taken after
      → rebuilt field_of_pack (pack names before k) ≡ pack_taken (pack names after k)
  unfolding rebuilt
  pack-taken names before after k h = ap (λ (r : Result Trees Refusal). and_then r (λ xs. field_of_pack (pack names xs k))) h

  -- what a select asks of the head of its struct
  known-names : (s : FieldSelection) (fs : Fields) (names : List Bytes) → names_where_known s (field_names fs) ≡ Some (taken_names s (field_names fs)) → names ≡ field_names fs
      → names_where_known s names ≡ Some (taken_names s (field_names fs))
  known-names s fs names h k = ap (names_where_known s) k ∙ h

  select-made : (s : FieldSelection) (d : Tree) (names : List Bytes) (gs : Fields) (m : Nullability) → typed_of t d ≡ Ok (struct_ty gs m) → m ≡ NonNullable
      → names_where_known s (field_names gs) ≡ Some names → select_removed t (select s d) ≡ Ok (pack names (items d names) NonNullable)
  select-made s d names gs m h k l =
      ap (λ (r : Result Ty Refusal). and_then r (select_as_pack s d)) (loosened t d (struct_ty gs m) h)
      ∙ (ap (λ (z : Nullability). select_as_pack s d (struct_ty gs z)) k ∙ ap (fields_pack d) l)

  select-walked : (s : FieldSelection) (d : Tree) (names : List Bytes) (gs : Fields) (m : Nullability) → typed_of t d ≡ Ok (struct_ty gs m) → m ≡ NonNullable
      → names_where_known s (field_names gs) ≡ Some names → walked_node t (select s d) ≡ pack_taken (pack names (items d names) NonNullable)
  select-walked s d names gs m h k l =
      ap (λ (r : Result StructHead Refusal). and_then (and_then r (select_by_head s d)) pack_taken) (head-typed t d gs m h)
      ∙ (ap (λ (z : Nullability). and_then (select_by_head s d (record { names = field_names gs; nullability = z })) pack_taken) k
      ∙ ap (λ (o : Option (List Bytes)). and_then (fields_pack d o) pack_taken) l)

  walks-select : (s : FieldSelection) (e : Tree) (u : Ty) → typed_of t (select s e) ≡ Ok u → (fs : Fields) → typed_of t e ≡ Ok (struct_ty fs NonNullable)
      → names_where_known s (field_names fs) ≡ Some (taken_names s (field_names fs)) → Walks t e → Walks t (select s e)
  unfolding rebuilt
  walks-select s e u h fs i known w =
      let k = types-of t e (struct_ty fs NonNullable) i w in
      let a = struct-like k.selected.ty fs NonNullable k.selected.narrow in
      let b = struct-like k.packed.ty fs NonNullable k.packed.narrow in
      let names = taken_names s (field_names fs) in
      let selects = ap (λ (r : Result Tree Refusal). and_then r (λ x. select_removed t (select s x))) w.selects
      ∙ select-made s w.s names a.fields a.nullability (k.selected.is ∙ ap (λ (z : Ty). Ok z) a.is) (not_nullable a.nullability a.less) (known-names s fs (field_names a.fields) known a.names_same) in
      let merges = many (merge_removed t) (λ xs. pack names xs NonNullable) (items w.s names) (items w.m names) (λ xs. refl)
      (items-stay (merge_removed t) w.s w.m (λ f x. refl) w.merges names) in
      let c = packed-after t (select s e) (pack names (items w.s names) NonNullable) (pack names (items w.m names) NonNullable) u h selects merges in
      let taken = pack-taken names (items w.m names) (items w.n names) NonNullable
      (fields-taken (λ f. get_item f w.m) (λ f. get_item f w.n) (λ f. item-taken f w.m w.n w.packs) names) in
      record {
        s = pack names (items w.s names) NonNullable;
        m = pack names (items w.m names) NonNullable;
        n = c.n;
        selects = selects;
        merges = merges;
        packs = c.is;
        walks = ap (λ (r : Result Tree Refusal). and_then r (λ x. walked_node t (select s x))) w.walks
            ∙ (select-walked s w.n names b.fields b.nullability (k.packed.is ∙ ap (λ (z : Ty). Ok z) b.is) (not_nullable b.nullability b.less) (known-names s fs (field_names b.fields) known b.names_same)
            ∙ (sym taken ∙ c.is));
      }

  -- ---- merges

  -- structs that go into a merge, before the last pass and after it
  data Alike : List Giving → List Giving → Type 0 where
    no_givings : Alike [] []
    one_giving : (names : List Bytes) (m n : Tree) (xs ys : List Giving) → rebuilt field_of_pack m ≡ Ok n → Alike xs ys
        → Alike (record { names = names; expression = m } ∷ xs) (record { names = names; expression = n } ∷ ys)

  names-alike : (xs ys : List Giving) → Alike xs ys → flat_map giving_names xs ≡ flat_map giving_names ys
  names-alike _ _ no_givings = refl
  names-alike _ _ (one_giving names m n xs ys h k) = ap (λ (ns : List Bytes). names ++ ns) (names-alike xs ys k)

  -- the last that gives a name
  data GiverAlike : Option Giving → Option Giving → Type 0 where
    no_giver : GiverAlike None None
    a_giver : (names : List Bytes) (m n : Tree) → rebuilt field_of_pack m ≡ Ok n
        → GiverAlike (Some (record { names = names; expression = m })) (Some (record { names = names; expression = n }))

  giver-or : (a b c d : Option Giving) → GiverAlike a b → GiverAlike c d → GiverAlike (option_or a c) (option_or b d)
  giver-or _ _ c d no_giver k = k
  giver-or _ _ c d (a_giver names m n h) k = a_giver names m n h

  giver-where : (b : Bool) (names : List Bytes) (m n : Tree) → rebuilt field_of_pack m ≡ Ok n
      → GiverAlike (cond b (Some (record { names = names; expression = m })) None) (cond b (Some (record { names = names; expression = n })) None)
  giver-where true names m n h = a_giver names m n h
  giver-where false names m n h = no_giver

  giver-alike : (f : Bytes) (xs ys : List Giving) → Alike xs ys → GiverAlike (last_giver giving_names f xs) (last_giver giving_names f ys)
  giver-alike f _ _ no_givings = no_giver
  giver-alike f _ _ (one_giving names m n xs ys h k) =
      giver-or (last_giver giving_names f xs) (last_giver giving_names f ys)
      (cond (has_name f names) (Some (record { names = names; expression = m })) None) (cond (has_name f names) (Some (record { names = names; expression = n })) None)
      (giver-alike f xs ys k) (giver-where (has_name f names) names m n h)

  giver-taken : (f : Bytes) (a b : Option Giving) → GiverAlike a b
      → rebuilt field_of_pack (get_item f (unwrap_or (option_map (λ (g : Giving). g.expression) a) root))
      ≡ field_of_pack (get_item f (unwrap_or (option_map (λ (g : Giving). g.expression) b) root))
  unfolding rebuilt
  giver-taken f _ _ no_giver = refl
  giver-taken f _ _ (a_giver names m n h) = item-taken f m n h

  given-taken : (xs ys : List Giving) → Alike xs ys → (n : Nullability) → rebuilt field_of_pack (givings_pack n xs) ≡ pack_taken (givings_pack n ys)
  given-taken xs ys k n =
      let names = merged_names giving_names xs in
      pack-taken names (trees_of (map (given_field xs) names)) (trees_of (map (given_field ys) names)) n
      (fields-taken (given_field xs) (given_field ys) (λ f. giver-taken f (last_giver giving_names f xs) (last_giver giving_names f ys) (giver-alike f xs ys k)) names)
      ∙ ap (λ (ns : List Bytes). pack_taken (pack (first_names ns) (trees_of (map (given_field ys) (first_names ns))) n)) (names-alike xs ys k)

  -- a merge's children by the passes and by the walk, and what they give
  record Gathered (es : Trees) : Type 0 where
    pub ss : Trees
    pub ms : Trees
    pub ns : Trees
    pub selects : all_rebuilt (select_removed t) es ≡ Ok ss
    pub merges : all_rebuilt (merge_removed t) ss ≡ Ok ms
    pub walks : all_rebuilt (walked_node t) es ≡ Ok ns
    pub before : List Giving
    pub after : List Giving
    pub gives : givings t ms ≡ Ok before
    pub walked_gives : givings_by_head t ns ≡ Ok after
    pub alike : Alike before after

  none-gathered : Gathered no_trees
  unfolding rebuilt
  none-gathered = record { ss = no_trees; ms = no_trees; ns = no_trees; selects = refl; merges = refl; walks = refl; before = []; after = []; gives = refl; walked_gives = refl; alike = no_givings }

  more-gathered : (d : Tree) (fs : Fields) (k : Nullability) (ds : Trees) → typed_of t d ≡ Ok (struct_ty fs k) → Walks t d → Gathered ds → Gathered (tree d ds)
  unfolding rebuilt
  more-gathered d fs k ds h w g =
      let types = types-of t d (struct_ty fs k) h w in
      let a = struct-like types.merged.ty fs k types.merged.narrow in
      let b = struct-like types.packed.ty fs k types.packed.narrow in
      let names = field_names fs in
      let here : and_then (loosely_typed t w.m) (giving_of w.m) ≡ Ok (record { names = names; expression = w.m })
      = ap (λ (r : Result Ty Refusal). and_then r (giving_of w.m)) (loosened t w.m (struct_ty a.fields a.nullability) (types.merged.is ∙ ap (λ (z : Ty). Ok z) a.is))
      ∙ ap (λ (ns : List Bytes). Ok (record { names = ns; expression = w.m })) a.names_same in
      let head : head_of t w.n ≡ Ok (record { names = names; nullability = b.nullability })
      = head-typed t w.n b.fields b.nullability (types.packed.is ∙ ap (λ (z : Ty). Ok z) b.is)
      ∙ ap (λ (ns : List Bytes). Ok (record { names = ns; nullability = b.nullability })) b.names_same in
      record {
        ss = tree w.s g.ss;
        ms = tree w.m g.ms;
        ns = tree w.n g.ns;
        selects = more (select_removed t) d w.s ds g.ss w.selects g.selects;
        merges = more (merge_removed t) w.s w.m g.ss g.ms w.merges g.merges;
        walks = more (walked_node t) d w.n ds g.ns w.walks g.walks;
        before = record { names = names; expression = w.m } ∷ g.before;
        after = record { names = names; expression = w.n } ∷ g.after;
        gives = ap (λ (r : Result Giving Refusal). and_then r (λ x. and_then (givings t g.ms) (λ xs. Ok (x ∷ xs)))) here
            ∙ ap (λ (r : Result (List Giving) Refusal). and_then r (λ xs. Ok (record { names = names; expression = w.m } ∷ xs))) g.gives;
        walked_gives = ap (λ (r : Result StructHead Refusal). and_then (and_then r (λ x. Ok (record { names = x.names; expression = w.n }))) (λ x. and_then (givings_by_head t g.ns) (λ xs. Ok (x ∷ xs)))) head
            ∙ ap (λ (r : Result (List Giving) Refusal). and_then r (λ xs. Ok (record { names = names; expression = w.n } ∷ xs))) g.walked_gives;
        alike = one_giving names w.m w.n g.before g.after w.packs g.alike;
      }

  walks-merge : (es : Trees) (n : Nullability) (u : Ty) → typed_of t (merge es n) ≡ Ok u → Gathered es → Walks t (merge es n)
  unfolding rebuilt
  walks-merge es n u h g =
      let selects = many (select_removed t) (λ xs. merge xs n) es g.ss (λ xs. refl) g.selects in
      let merges = ap (λ (r : Result Trees Refusal). and_then r (λ xs. merge_removed t (merge xs n))) g.merges
      ∙ ap (λ (r : Result (List Giving) Refusal). and_then r (λ gs. Ok (givings_pack n gs))) g.gives in
      let c = packed-after t (merge es n) (merge g.ss n) (givings_pack n g.before) u h selects merges in
      record {
        s = merge g.ss n;
        m = givings_pack n g.before;
        n = c.n;
        selects = selects;
        merges = merges;
        packs = c.is;
        walks = ap (λ (r : Result Trees Refusal). and_then r (λ xs. walked_node t (merge xs n))) g.walks
            ∙ (ap (λ (r : Result (List Giving) Refusal). and_then r (λ gs. pack_taken (givings_pack n gs))) g.walked_gives
            ∙ (sym (given-taken g.before g.after g.alike n) ∙ c.is));
      }

  -- a list's expressions by the passes and by the walk
  record AllWalk (es : Trees) : Type 0 where
    pub ss : Trees
    pub ms : Trees
    pub ns : Trees
    pub selects : all_rebuilt (select_removed t) es ≡ Ok ss
    pub merges : all_rebuilt (merge_removed t) ss ≡ Ok ms
    pub packs : all_rebuilt field_of_pack ms ≡ Ok ns
    pub walks : all_rebuilt (walked_node t) es ≡ Ok ns

  walks-pack : (names : List Bytes) (es : Trees) (n : Nullability) → AllWalk es → Walks t (pack names es n)
  unfolding rebuilt
  walks-pack names es n g = record {
    s = pack names g.ss n;
    m = pack names g.ms n;
    n = pack names g.ns n;
    selects = many (select_removed t) (λ xs. pack names xs n) es g.ss (λ xs. refl) g.selects;
    merges = many (merge_removed t) (λ xs. pack names xs n) g.ss g.ms (λ xs. refl) g.merges;
    packs = many field_of_pack (λ xs. pack names xs n) g.ms g.ns (λ xs. refl) g.packs;
    walks = many (walked_node t) (λ xs. pack names xs n) es g.ns (λ xs. refl) g.walks;
  }

  walks-between : (options : BetweenOptions) (d lower upper : Tree) → Walks t d → Walks t lower → Walks t upper → Walks t (between d lower upper options)
  unfolding rebuilt
  walks-between options d lower upper x y z =
      let node : Tree → Tree → Tree → Tree = λ a b c. between a b c options in
      record {
        s = node x.s y.s z.s;
        m = node x.m y.m z.m;
        n = node x.n y.n z.n;
        selects = three (select_removed t) node d x.s lower y.s upper z.s (λ a b c. refl) x.selects y.selects z.selects;
        merges = three (merge_removed t) node x.s x.m y.s y.m z.s z.m (λ a b c. refl) x.merges y.merges z.merges;
        packs = three field_of_pack node x.m x.n y.m y.n z.m z.n (λ a b c. refl) x.packs y.packs z.packs;
        walks = three (walked_node t) node d x.n lower y.n upper z.n (λ a b c. refl) x.walks y.walks z.walks;
      }

  mutual
    unfolding rebuilt typed_of

    walks-typed : (e : Tree) (u : Ty) → typed_of t e ≡ Ok u → Walks t e
    walks-typed root u h = record { s = root; m = root; n = root; selects = refl; merges = refl; packs = refl; walks = refl }
    walks-typed (literal s) u h = record { s = literal s; m = literal s; n = literal s; selects = refl; merges = refl; packs = refl; walks = refl }
    walks-typed (get_item f d) u h = let a = and_then-ok (typed_of t d) (item_type f) u h in walks-item f d u h (walks-typed d a.given a.was)
    walks-typed (binary l op r) u h =
        let a = and_then-ok (typed_of t l) (λ x. and_then (typed_of t r) (binary_type op x)) u h in
        let b = and_then-ok (typed_of t r) (binary_type op a.given) u a.gave in
        walks-two (λ x y. binary x op y) l r (λ x. record { selects = λ y. refl; merges = λ y. refl; packs = λ y. refl; walks = λ y. refl }) (λ step x y. refl)
        (walks-typed l a.given a.was) (walks-typed r b.given b.was)
    walks-typed (not_of d) u h =
        let a = and_then-ok (typed_of t d) not_type u h in
        walks-one not_of d (record { selects = λ y. refl; merges = λ y. refl; packs = λ y. refl; walks = λ y. refl }) (λ step x. refl) (walks-typed d a.given a.was)
    walks-typed (is_null_of d) u h =
        let a = and_then-ok (typed_of t d) (λ x. Ok (bool_ty NonNullable)) u h in
        walks-one is_null_of d (record { selects = λ y. refl; merges = λ y. refl; packs = λ y. refl; walks = λ y. refl }) (λ step x. refl) (walks-typed d a.given a.was)
    walks-typed (like d p negated fold_case) u h =
        let a = and_then-ok (typed_of t d) (λ x. and_then (typed_of t p) (like_type x)) u h in
        let b = and_then-ok (typed_of t p) (like_type a.given) u a.gave in
        walks-two (λ x y. like x y negated fold_case) d p (λ x. record { selects = λ y. refl; merges = λ y. refl; packs = λ y. refl; walks = λ y. refl }) (λ step x y. refl)
        (walks-typed d a.given a.was) (walks-typed p b.given b.was)
    walks-typed (between d lower upper options) u h =
        let a = and_then-ok (typed_of t d) (λ x. and_then (typed_of t lower) (λ y. and_then (typed_of t upper) (between_type x y))) u h in
        let b = and_then-ok (typed_of t lower) (λ y. and_then (typed_of t upper) (between_type a.given y)) u a.gave in
        let c = and_then-ok (typed_of t upper) (between_type a.given b.given) u b.gave in
        walks-between options d lower upper (walks-typed d a.given a.was) (walks-typed lower b.given b.was) (walks-typed upper c.given c.was)
    walks-typed (cast d target) u h =
        let a = and_then-ok (typed_of t d) (cast_type target) u h in
        walks-one (λ x. cast x target) d (record { selects = λ y. refl; merges = λ y. refl; packs = λ y. refl; walks = λ y. refl }) (λ step x. refl) (walks-typed d a.given a.was)
    walks-typed (list_contains l v) u h =
        let a = and_then-ok (typed_of t l) (λ x. and_then (typed_of t v) (contains_type x)) u h in
        let b = and_then-ok (typed_of t v) (contains_type a.given) u a.gave in
        walks-two list_contains l v (λ x. record { selects = λ y. refl; merges = λ y. refl; packs = λ y. refl; walks = λ y. refl }) (λ step x y. refl)
        (walks-typed l a.given a.was) (walks-typed v b.given b.was)
    walks-typed (pack names es n) u h = let a = and_then-ok (all_typed t es) (pack_type names n) u h in walks-pack names es n (all-walk es a.given a.was)
    walks-typed (merge es n) u h =
        let a = and_then-ok (all_typed t es) (merge_type n) u h in
        walks-merge es n u h (gathered es a.given a.was (merge-structs a.given n u a.gave))
    walks-typed (select s d) u h =
        let a = and_then-ok (typed_of t d) (select_type s) u h in
        let k = select_type-ok s a.given u a.gave in
        walks-select s d u h k.fields (a.was ∙ ap (λ (z : Ty). Ok z) k.is) (ap (λ (b : Bool). where_so b (taken_names s (field_names k.fields))) k.known) (walks-typed d a.given a.was)
    walks-typed (dynamic d op k slot default) u h =
        let a = and_then-ok (typed_of t d) (dynamic_type slot) u h in
        walks-one (λ x. dynamic x op k slot default) d (record { selects = λ y. refl; merges = λ y. refl; packs = λ y. refl; walks = λ y. refl }) (λ step x. refl) (walks-typed d a.given a.was)

    all-walk : (es : Trees) (us : List Ty) → all_typed t es ≡ Ok us → AllWalk es
    all-walk no_trees us h = record { ss = no_trees; ms = no_trees; ns = no_trees; selects = refl; merges = refl; packs = refl; walks = refl }
    all-walk (tree d ds) us h =
        let a = and_then-ok (typed_of t d) (λ x. and_then (all_typed t ds) (λ xs. Ok (x ∷ xs))) us h in
        let b = and_then-ok (all_typed t ds) (λ xs. Ok (a.given ∷ xs)) us a.gave in
        let w = walks-typed d a.given a.was in
        let g = all-walk ds b.given b.was in
        record {
          ss = tree w.s g.ss;
          ms = tree w.m g.ms;
          ns = tree w.n g.ns;
          selects = more (select_removed t) d w.s ds g.ss w.selects g.selects;
          merges = more (merge_removed t) w.s w.m g.ss g.ms w.merges g.merges;
          packs = more field_of_pack w.m w.n g.ms g.ns w.packs g.packs;
          walks = more (walked_node t) d w.n ds g.ns w.walks g.walks;
        }

    gathered : (es : Trees) (us : List Ty) → all_typed t es ≡ Ok us → list_all is_struct_ty us ≡ true → Gathered es
    gathered no_trees us h k = none-gathered
    gathered (tree d ds) us h k =
        let a = and_then-ok (typed_of t d) (λ x. and_then (all_typed t ds) (λ xs. Ok (x ∷ xs))) us h in
        let b = and_then-ok (all_typed t ds) (λ xs. Ok (a.given ∷ xs)) us a.gave in
        let same : a.given ∷ b.given ≡ us = Ok-same (Ok us) (a.given ∷ b.given) us (sym b.gave) refl in
        let both = and_parts (is_struct_ty a.given) (list_all is_struct_ty b.given) (subst (λ (z : List Ty). list_all is_struct_ty z ≡ true) (sym same) k) in
        let s = a-struct a.given both.0 in
        more-gathered d s.fields s.nullability ds (a.was ∙ ap (λ (z : Ty). Ok z) s.is) (walks-typed d a.given a.was) (gathered ds b.given b.was both.1)

pub walk_makes_the_passes : WalkMakesThePasses
walk_makes_the_passes t e u h =
    let w = walks-typed t e u h in
    w.walks ∙ sym (ap (λ (r : Result Tree Refusal). and_then r (λ d. and_then (without_merge t d) without_packed_fields)) w.selects
    ∙ (ap (λ (r : Result Tree Refusal). and_then r without_packed_fields) w.merges ∙ w.packs))

pub walked_structs_keep_names : WalkedStructsKeepNames
walked_structs_keep_names t e d fs n h r =
    let w = walks-typed t e (struct_ty fs n) h in
    let same : w.n ≡ d = Ok-same (walked t e) w.n d w.walks r in
    let k = (types-of t e (struct_ty fs n) h w).packed in
    let b = struct-like k.ty fs n k.narrow in
    let head : head_of t w.n ≡ Ok (record { names = field_names b.fields; nullability = b.nullability })
    = head-typed t w.n b.fields b.nullability (k.is ∙ ap (λ (z : Ty). Ok z) b.is) in (
      loosened t e (struct_ty fs n) h,
      record { names = field_names b.fields; nullability = b.nullability },
      subst (λ (z : Tree). head_of t z ≡ Ok (record { names = field_names b.fields; nullability = b.nullability })) same head,
      b.names_same,
    )
