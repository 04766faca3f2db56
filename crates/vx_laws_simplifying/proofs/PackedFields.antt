-- A field taken straight from a pack is the pack's value.
use Rattle.std.proofs.Common.{◌≡◌, refl, ap, sym, ◌∙◌, Bool, true, false, cond, Some, subst, List, [], ◌∷◌, Ok}
use Rattle.std.specs.Prelude.{unwrap_or}
use Rattle.std.specs.Str.{bytes_eq}
use Rattle.std.specs.List.{list_any}
use Rattle.std.proofs.lemmas.Bool.{and_parts}
use Rattle.vx_dtype.specs.declared.Nullability.{Nullability}
use Rattle.vx_dtype.specs.declared.Nullability.TheVariants.{NonNullable, Nullable}
use Rattle.vx_dtype.specs.Types.{Bytes, Ty, bool_ty, int_ty, text_ty, list_ty, struct_ty}
use Rattle.vx_dtype.specs.TypeRules.{union, widened, field_type}
use Rattle.vx_dtype.specs.Zipped.{zipped}
use Rattle.vx_dtype.specs.Values.{Val, fault}
use Rattle.vx_dtype.specs.Structs.{member_named}
use Rattle.vx_expr.specs.Trees.{Tree, get_item, pack, Trees, no_trees, tree}
use Rattle.vx_semantics.specs.Typing.{and_then, item_type, pack_type, typed_of, all_typed}
use Rattle.vx_semantics.specs.Meaning.{Slots, zip_members, mean, meanings}
use Rattle.vx_semantics.specs.Slots.{slots_fit, all_slots_fit}
use Rattle.vx_semantics.specs.Asked.{Asking, asks_node, asked, asked_in_pack}
use Rattle.vx_passes.specs.Ranges.{ranged}
use Rattle.vx_expr.specs.Children.{packed_value}
use Rattle.vx_passes.specs.Simplifying.{known_field, field_of_pack, without_packed_fields, simplified}
use Rattle.vx_laws.proofs.Inverting.{and_then-ok, Ok-same}
use Rattle.vx_laws.proofs.Structs.{item_type-ok}
use Rattle.vx_laws.proofs.Faultless.{pack_type-ok}
use Rattle.vx_laws_simplifying.proofs.Observing.{Observes, seen, seen-below}
use Rattle.vx_laws_simplifying.proofs.RangedLaws.{ranges_typed, ranges_mean, ranges-seen, ranges-fitting}
use Rattle.vx_laws_simplifying.specs.Narrowing.{no_more_nullable}
use Rattle.vx_laws_simplifying.proofs.Under.{bools, ints, texts, lists, structs, under-own, fields-own}
use Rattle.vx_laws_simplifying.proofs.Narrows.{narrowing, Narrow}
use Rattle.vx_laws_simplifying.proofs.Kept.{kept-own, Made, KeepsNodes, rebuilt-kept}
use Rattle.vx_laws_simplifying.proofs.Passes.{MakesKept, passes-then}

no_more-union : (n m : Nullability) → no_more_nullable n (union n m) ≡ true
no_more-union NonNullable m = refl
no_more-union Nullable m = refl

-- a type narrows itself where it is widened
pub narrow-widened : (t : Ty) (n : Nullability) → Narrow t (widened t n)
narrow-widened (bool_ty m) n = bools m (union m n) (no_more-union m n)
narrow-widened (int_ty p m) n = ints p m (union m n) (no_more-union m n)
narrow-widened (text_ty m) n = texts m (union m n) (no_more-union m n)
narrow-widened (list_ty e m) n = lists e e m (union m n) (under-own no_more_nullable narrowing e) (no_more-union m n)
narrow-widened (struct_ty fs m) n = structs fs fs m (union m n) (fields-own no_more_nullable narrowing fs) (no_more-union m n)

module _ (t : Ty) (slots : Slots) (row : Val) (test : Asking → Bool) (o : Observes t slots row test) where
  -- the value of a name in a pack
  record Valued (f : Bytes) (names : List Bytes) (es : Trees) (w : Ty) : Type 0 where
    pub value : Tree
    pub found : packed_value f names es ≡ Some value
    pub typed : typed_of t value ≡ Ok w
    pub fitting : all_slots_fit slots es ≡ true → slots_fit slots value ≡ true
    pub means : mean t slots row value ≡ unwrap_or (member_named f (zip_members names (meanings t slots row es))) fault
    pub sees : (path : List Bytes) → seen test t value path ≡ list_any test (asked_in_pack t names es (f ∷ path))

  valued-first : (f : Bytes) (names : List Bytes) (es : Trees) (us : List Ty) (w : Ty) → all_typed t es ≡ Ok us → field_type f (zipped names us) ≡ Some w → Valued f names es w
  unfolding typed_of mean asked slots_fit
  valued-first f [] es us w h e = let no : ⊥ = cc in absurd no
  valued-first f (g ∷ names) es [] w h e = let no : ⊥ = cc in absurd no
  valued-first f (g ∷ names) no_trees (u ∷ us) w h e = let no : ⊥ = cc in absurd no
  valued-first f (g ∷ names) (tree d ds) (v ∷ vs) w h e =
      let a = and_then-ok (typed_of t d) (λ x. and_then (all_typed t ds) (λ xs. Ok (x ∷ xs))) (v ∷ vs) h in
      let b = and_then-ok (all_typed t ds) (λ xs. Ok (a.given ∷ xs)) (v ∷ vs) a.gave in
      let same : a.given ∷ b.given ≡ v ∷ vs = Ok-same (Ok (v ∷ vs)) (a.given ∷ b.given) (v ∷ vs) (sym b.gave) refl in
      let head : a.given ≡ v = cc in
      let tail : b.given ≡ vs = cc in
      by-test (bytes_eq f g) refl (a.was ∙ ap (λ (z : Ty). Ok z) head) e (valued-first f names ds vs w (b.was ∙ ap (λ (z : List Ty). Ok z) tail))
    where
      by-test : (x : Bool) → bytes_eq f g ≡ x → typed_of t d ≡ Ok v → cond x (Some v) (field_type f (zipped names vs)) ≡ Some w
          → (field_type f (zipped names vs) ≡ Some w → Valued f names ds w) → Valued f (g ∷ names) (tree d ds) w
      by-test true j k q r =
          let own : v ≡ w = cc in
          record {
            value = d;
            found = rw j refl;
            typed = k ∙ ap (λ (z : Ty). Ok z) own;
            fitting = λ s. (and_parts (slots_fit slots d) (all_slots_fit slots ds) s).0;
            means = rw j refl;
            sees = λ path. rw j refl;
          }
      by-test false j k q r =
          let x = r q in
          record {
            value = x.value;
            found = rw j x.found;
            typed = x.typed;
            fitting = λ s. x.fitting (and_parts (slots_fit slots d) (all_slots_fit slots ds) s).1;
            means = rw j x.means;
            sees = λ path. rw j (x.sees path);
          }

  pack-field : (f : Bytes) (names : List Bytes) (es : Trees) (n : Nullability) (u : Ty) → typed_of t (get_item f (pack names es n)) ≡ Ok u
      → Made t slots row test o (known_field (packed_value f names es)) (get_item f (pack names es n)) u
  unfolding typed_of mean asked slots_fit
  pack-field f names es n u h =
      let a = and_then-ok (typed_of t (pack names es n)) (item_type f) u h in
      let b = and_then-ok (all_typed t es) (pack_type names n) a.given a.was in
      let struct = pack_type-ok names n b.given a.given b.gave in
      let i = item_type-ok f a.given u a.gave in
      let both : struct_ty (zipped names b.given) n ≡ struct_ty i.fields i.nullability = sym struct ∙ i.is in
      let fields : zipped names b.given ≡ i.fields = cc in
      let x = valued-first f names es b.given i.own b.was (ap (field_type f) fields ∙ i.found) in
      record {
        made = x.value;
        is = ap known_field x.found;
        kept = record {
          was = h;
          ty = i.own;
          typed = x.typed;
          narrow = subst (Narrow i.own) (sym i.gives) (narrow-widened i.own i.nullability);
          fitting = x.fitting;
          means = x.means;
          sees = λ path p. x.sees path
              ∙ sym (seen-below t slots row test o (get_item f (pack names es n)) (asks_node (pack names es n) ∷ asked_in_pack t names es (f ∷ path)) refl
              ∙ seen-below t slots row test o (pack names es n) (asked_in_pack t names es (f ∷ path)) refl);
        };
      }

  field_of_pack-keeps : KeepsNodes t slots row test o field_of_pack
  field_of_pack-keeps (get_item f (pack names es n)) u h = pack-field f names es n u h
  field_of_pack-keeps n u h = record { made = n; is = refl; kept = kept-own t slots row test o n u h }

pub without_packed_fields-kept : MakesKept (λ t e. without_packed_fields e)
without_packed_fields-kept t slots row test o e u g h = rebuilt-kept t slots row test o field_of_pack (field_of_pack-keeps t slots row test o) e u h

pub ranged-kept : MakesKept (λ t e. Ok (ranged e))
ranged-kept t slots row test o e u g h = record {
  made = ranged e;
  is = refl;
  kept = record {
    was = h;
    ty = u;
    typed = ranges_typed t e u h;
    narrow = under-own no_more_nullable narrowing u;
    fitting = λ s. ranges-fitting slots e ∙ s;
    means = ranges_mean t slots row e;
    sees = λ path p. ranges-seen t slots row test o e path;
  };
}

pub simplified-kept : MakesKept (λ t e. simplified e)
simplified-kept = passes-then (λ t e. without_packed_fields e) (λ t e. Ok (ranged e)) without_packed_fields-kept ranged-kept
