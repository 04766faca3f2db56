-- A pack of one item per field of a struct's type stands for the struct.
use Rattle.std.proofs.Common.{◌≡◌, refl, ap, sym, ◌∙◌, Bool, true, false, cond, Some, subst, List, [], ◌∷◌, Result, Ok}
use Rattle.std.specs.Prelude.{length, map}
use Rattle.std.specs.Str.{bytes_eq}
use Rattle.std.specs.List.{list_any}
use Rattle.std.proofs.lemmas.Bool.{eq-eqb, and_from}
use Rattle.vx_dtype.specs.declared.Nullability.{Nullability}
use Rattle.vx_dtype.specs.Types.{Bytes, Ty, struct_ty, Fields, no_fields, field}
use Rattle.vx_dtype.specs.TypeRules.{field_names, field_type, distinct_names}
use Rattle.vx_dtype.specs.StructTypes.{field_types}
use Rattle.vx_dtype.specs.Values.{Val, struct_val, member}
use Rattle.vx_dtype.specs.Structs.{field_of, members_at}
use Rattle.vx_expr.specs.Trees.{Tree, pack, trees_of}
use Rattle.vx_semantics.specs.Typing.{Refusal, and_then, pack_type, typed_of, all_typed}
use Rattle.vx_semantics.specs.Meaning.{Slots, zip_members, mean, meanings}
use Rattle.vx_semantics.specs.Slots.{slots_fit, all_slots_fit}
use Rattle.vx_semantics.specs.Asked.{Asking, each_asked, path_or_each, asked, asked_in_pack}
use Rattle.vx_laws.proofs.Inverting.{bytes_same}
use Rattle.vx_laws.proofs.Distinct.{struct-distinct, typed-distinct}
use Rattle.vx_laws.proofs.Paths.{path_in, first_of_path}
use Rattle.vx_laws_simplifying.proofs.Observing.{Observes, seen, seen-below}
use Rattle.vx_laws_simplifying.proofs.PackedRows.{TypedIn, typed_in-own, zipped-own, as_many}
use Rattle.vx_laws_simplifying.specs.Narrowing.{no_more_nullable}
use Rattle.vx_laws_simplifying.proofs.Under.{under-own}
use Rattle.vx_laws_simplifying.proofs.Narrows.{narrowing}
use Rattle.vx_laws_simplifying.proofs.Kept.{Kept, two-same}
use Rattle.vx_laws.proofs.AnySlots.{StructButNulls, own-fields}

pub pack_type-own : (fs : Fields) (n : Nullability) → distinct_names (field_names fs) ≡ true → pack_type (field_names fs) n (field_types fs) ≡ Ok (struct_ty fs n)
pack_type-own fs n d = rw (d, eq-eqb (length (field_names fs)) (length (field_types fs)) (as_many fs), zipped-own fs) refl

module _ (t : Ty) (slots : Slots) (row : Val) (test : Asking → Bool) (o : Observes t slots row test) (e : Tree) (item : Bytes → Tree) (ask : List Bytes → List Asking) (v : Val) where
  -- an item that stands for the field of a value, which has this type, in the place of an expression
  pub record ItemKept (f : Bytes) (w : Ty) : Type 0 where
    pub typed : typed_of t (item f) ≡ Ok w
    pub fitting : slots_fit slots e ≡ true → slots_fit slots (item f) ≡ true
    pub means : mean t slots row (item f) ≡ field_of f v
    pub sees : (path : List Bytes) → path_in path w ≡ true → seen test t (item f) path ≡ list_any test (ask (f ∷ path))

  -- each field of a type has its item
  abbrev pub ItemsKept : Fields → Type 0
  ItemsKept gs = (f : Bytes) (w : Ty) → field_type f gs ≡ Some w → ItemKept f w

  items-typed : (gs hs : Fields) → ItemsKept gs → TypedIn gs hs → all_typed t (trees_of (map item (field_names hs))) ≡ Ok (field_types hs)
  unfolding typed_of
  items-typed gs no_fields k h = refl
  items-typed gs (field f w hs) k h =
      ap (λ (x : Result Ty Refusal). and_then x (λ a. and_then (all_typed t (trees_of (map item (field_names hs)))) (λ ts. Ok (a ∷ ts)))) (k f w h.0).typed
      ∙ ap (λ (x : Result (List Ty) Refusal). and_then x (λ ts. Ok (w ∷ ts))) (items-typed gs hs k h.1)

  items-fitting : (gs hs : Fields) → ItemsKept gs → TypedIn gs hs → slots_fit slots e ≡ true → all_slots_fit slots (trees_of (map item (field_names hs))) ≡ true
  unfolding slots_fit
  items-fitting gs no_fields k h s = refl
  items-fitting gs (field f w hs) k h s =
      and_from (slots_fit slots (item f)) (all_slots_fit slots (trees_of (map item (field_names hs)))) ((k f w h.0).fitting s) (items-fitting gs hs k h.1 s)

  items-mean : (gs hs : Fields) → ItemsKept gs → TypedIn gs hs
      → zip_members (field_names hs) (meanings t slots row (trees_of (map item (field_names hs)))) ≡ members_at (field_names hs) v
  unfolding mean
  items-mean gs no_fields k h = refl
  items-mean gs (field f w hs) k h =
      ap (λ (x : Val). member f x (zip_members (field_names hs) (meanings t slots row (trees_of (map item (field_names hs)))))) (k f w h.0).means
      ∙ ap (member f (field_of f v)) (items-mean gs hs k h.1)

  items-whole : (gs hs : Fields) → ItemsKept gs → TypedIn gs hs
      → list_any test (asked_in_pack t (field_names hs) (trees_of (map item (field_names hs))) []) ≡ list_any test (each_asked ask (field_names hs))
  unfolding asked
  items-whole gs no_fields k h = refl
  items-whole gs (field f w hs) k h =
      two-same t slots row test o (asked t (item f) []) (ask (f ∷ [])) (asked_in_pack t (field_names hs) (trees_of (map item (field_names hs))) []) (each_asked ask (field_names hs))
      ((k f w h.0).sees [] refl) (items-whole gs hs k h.1)

  items-one : (gs hs : Fields) → ItemsKept gs → TypedIn gs hs → (f : Bytes) (path : List Bytes) (w : Ty) → field_type f hs ≡ Some w → path_in path w ≡ true
      → list_any test (asked_in_pack t (field_names hs) (trees_of (map item (field_names hs))) (f ∷ path)) ≡ list_any test (ask (f ∷ path))
  unfolding asked
  items-one gs no_fields k h f path w i p = let no : ⊥ = cc in absurd no
  items-one gs (field g u hs) k h f path w i p = by-test (bytes_eq f g) refl i (λ j. items-one gs hs k h.1 f path w j p)
    where
      by-test : (b : Bool) → bytes_eq f g ≡ b → cond b (Some u) (field_type f hs) ≡ Some w
          → (field_type f hs ≡ Some w → list_any test (asked_in_pack t (field_names hs) (trees_of (map item (field_names hs))) (f ∷ path)) ≡ list_any test (ask (f ∷ path)))
          → list_any test (cond b (asked t (item g) path) (asked_in_pack t (field_names hs) (trees_of (map item (field_names hs))) (f ∷ path))) ≡ list_any test (ask (f ∷ path))
      by-test true i j r =
          let own : u ≡ w = cc in
          (k g u h.0).sees path (subst (λ (z : Ty). path_in path z ≡ true) (sym own) p) ∙ ap (λ (z : Bytes). list_any test (ask (z ∷ path))) (sym (bytes_same f g i))
      by-test false i j r = r j

  -- the pack of the items of a node's fields
  pub packed_items : Fields → Nullability → Tree
  packed_items gs n = pack (field_names gs) (trees_of (map item (field_names gs))) n

  packed-sees : (gs : Fields) (n : Nullability) → ItemsKept gs → TypedIn gs gs → (path : List Bytes) → path_in path (struct_ty gs n) ≡ true
      → list_any test (asked_in_pack t (field_names gs) (trees_of (map item (field_names gs))) path) ≡ list_any test (path_or_each ask (field_names gs) path)
  packed-sees gs n k h [] p = items-whole gs gs k h
  packed-sees gs n k h (f ∷ path) p = let first = first_of_path f path gs p in items-one gs gs k h f path first.own first.found first.rest

  pub items-kept : (gs : Fields) (n : Nullability) → typed_of t e ≡ Ok (struct_ty gs n) → StructButNulls v gs → v ≡ mean t slots row e
      → ((path : List Bytes) → path_in path (struct_ty gs n) ≡ true → seen test t e path ≡ list_any test (path_or_each ask (field_names gs) path))
      → ItemsKept gs → Kept t slots row test o e (pack (field_names gs) (trees_of (map item (field_names gs))) n) (struct_ty gs n)
  unfolding typed_of mean asked slots_fit
  items-kept gs n h s w a k =
      let names = (struct-distinct gs n (typed-distinct t e (struct_ty gs n) h)).names in
      let own = typed_in-own gs names in
      let items = trees_of (map item (field_names gs)) in
      record {
        was = h;
        ty = struct_ty gs n;
        typed = ap (λ (x : Result (List Ty) Refusal). and_then x (pack_type (field_names gs) n)) (items-typed gs gs k own) ∙ pack_type-own gs n names;
        narrow = under-own no_more_nullable narrowing (struct_ty gs n);
        fitting = items-fitting gs gs k own;
        means = ap struct_val (items-mean gs gs k own) ∙ (own-fields v gs s names ∙ w);
        sees = λ path p. seen-below t slots row test o (pack (field_names gs) items n) (asked_in_pack t (field_names gs) items path) refl
            ∙ (packed-sees gs n k own path p ∙ sym (a path p));
      }
