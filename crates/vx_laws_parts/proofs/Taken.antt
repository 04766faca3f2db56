-- The parts of an expression stand under their names in the struct of their packs.
use Rattle.std.proofs.Common.{◌≡◌, refl, ap, sym, ◌∙◌, Bool, true, false, cond, not, subst, List, [], ◌∷◌, length, map, ℕ, suc, Option, Some, Result, Ok}
use Rattle.std.specs.Prelude.{nat_eq, option_map, ok_or, unwrap_or}
use Rattle.std.specs.Str.{bytes_eq}
use Rattle.std.proofs.lemmas.Bool.{and_parts, or_left, or_right}
use Rattle.vx_dtype.specs.declared.Nullability.TheVariants.{Nullable, NonNullable}
use Rattle.vx_dtype.specs.Types.{Bytes, Ty, bool_ty, int_ty, text_ty, list_ty, struct_ty, Fields, field}
use Rattle.vx_dtype.specs.TypeRules.{widened, field_type, has_name, distinct_names}
use Rattle.vx_dtype.specs.Values.{Val, struct_val, fault, Members, member}
use Rattle.vx_dtype.specs.Structs.{member_named, field_of}
use Rattle.vx_dtype.specs.Zipped.{zipped}
use Rattle.vx_expr.specs.Trees.{Tree, root, get_item, pack, Trees, trees_of}
use Rattle.vx_semantics.specs.Typing.{Refusal, duplicate_field, type_mismatch, unknown_field, unless, and_then, item_type, pack_type, typed_of, all_typed}
use Rattle.vx_semantics.specs.Meaning.{Slots, zip_members, mean, meanings}
use Rattle.vx_passes.specs.Annotating.{Entry}
use Rattle.vx_passes.specs.Splitting.{Share, part_names, packed_parts, taken_from}
use Rattle.vx_laws.proofs.Inverting.{and_then-ok, unless-ok, Ok-same, bytes_same, bytes_eq-itself}
use Rattle.vx_laws.proofs.Distinct.{not-has, typed-distinct}
use Rattle.vx_laws_parts.specs.Taking.{packed_shares, TakesParts, TakenKeepsType, TakenKeepsMeaning}
use Rattle.vx_laws_parts.proofs.PutBack.{Stands, PartsStand, SharesStand, taken-goes}

widened-itself : (w : Ty) → widened w NonNullable ≡ w
widened-itself (bool_ty Nullable) = refl
widened-itself (bool_ty NonNullable) = refl
widened-itself (int_ty p Nullable) = refl
widened-itself (int_ty p NonNullable) = refl
widened-itself (text_ty Nullable) = refl
widened-itself (text_ty NonNullable) = refl
widened-itself (list_ty e Nullable) = refl
widened-itself (list_ty e NonNullable) = refl
widened-itself (struct_ty fs Nullable) = refl
widened-itself (struct_ty fs NonNullable) = refl

-- a pack that has a strict type
pub record PackIs (t : Ty) (names : List Bytes) (es : Trees) (w : Ty) : Type 0 where
  pub types : List Ty
  pub typed : all_typed t es ≡ Ok types
  pub distinct : distinct_names names ≡ true
  pub is : w ≡ struct_ty (zipped names types) NonNullable

pub pack-is : (t : Ty) (names : List Bytes) (es : Trees) (w : Ty) → typed_of t (pack names es NonNullable) ≡ Ok w → PackIs t names es w
unfolding typed_of
pack-is t names es w h =
    let x = and_then-ok (all_typed t es) (pack_type names NonNullable) w h in
    let made : Result Ty Refusal = Ok (struct_ty (zipped names x.given) NonNullable) in
    let sized = unless (nat_eq (length names) (length x.given)) type_mismatch made in
    let a = unless-ok (distinct_names names) duplicate_field sized w x.gave in
    let b = unless-ok (nat_eq (length names) (length x.given)) type_mismatch made w a.gave in
    record { types = x.given; typed = x.was; distinct = a.holds; is = Ok-same (Ok w) w (struct_ty (zipped names x.given) NonNullable) refl (sym b.gave) }

module _ (t u : Ty) (slots : Slots) (row made : Val) where
  abbrev FieldsStand : Tree → List Bytes → List Tree → Type 0
  FieldsStand base [] es = Unit {0}
  FieldsStand base (f ∷ fs) [] = Unit {0}
  FieldsStand base (f ∷ fs) (e ∷ es) = Stands t u slots row made (get_item f base) e × FieldsStand base fs es

  -- fields and members under these names are those of others
  abbrev SameFields : List Bytes → Fields → Members → Fields → Members → Type 0
  SameFields names fs ms gs ns = (f : Bytes) → has_name f names ≡ true → (field_type f fs ≡ field_type f gs) × (member_named f ms ≡ member_named f ns)

  later-same : (g : Bytes) (w : Ty) (v : Val) (names : List Bytes) (fs : Fields) (ms : Members) (gs : Fields) (ns : Members) → has_name g names ≡ false
      → SameFields (g ∷ names) fs ms (field g w gs) (member g v ns) → SameFields names fs ms gs ns
  later-same g w v names fs ms gs ns d s f h = by-test (bytes_eq f g) refl (s f (or_right (bytes_eq f g) (has_name f names) h))
    where
      by-test : (b : Bool) → bytes_eq f g ≡ b → (field_type f fs ≡ cond b (Some w) (field_type f gs)) × (member_named f ms ≡ cond b (Some v) (member_named f ns))
          → (field_type f fs ≡ field_type f gs) × (member_named f ms ≡ member_named f ns)
      by-test true e k =
          let two : has_name f names ≡ has_name g names = ap (λ (z : Bytes). has_name z names) (bytes_same f g e) in
          let no : ⊥ = cc in absurd no
      by-test false e k = k

  item-stands : (base : Tree) (fs : Fields) (ms : Members) (f : Bytes) (e : Tree) (w : Ty) → typed_of u base ≡ Ok (struct_ty fs NonNullable) → mean u slots made base ≡ struct_val ms
      → typed_of t e ≡ Ok w → field_type f fs ≡ Some w → member_named f ms ≡ Some (mean t slots row e) → Stands t u slots row made (get_item f base) e
  unfolding typed_of mean
  item-stands base fs ms f e w h k x p q =
      record {
        typed =
            ap (λ (r : Result Ty Refusal). and_then r (item_type f)) h
            ∙ (ap (λ (o : Option Ty). ok_or (option_map (λ z. widened z NonNullable) o) unknown_field) p ∙ (ap (λ (z : Ty). Ok z) (widened-itself w) ∙ sym x));
        means = ap (field_of f) k ∙ ap (λ (o : Option Val). unwrap_or o fault) q;
      }

  fields-stand : (base : Tree) (fs : Fields) (ms : Members) → typed_of u base ≡ Ok (struct_ty fs NonNullable) → mean u slots made base ≡ struct_val ms
      → (names : List Bytes) (es : List Tree) (ts : List Ty) → all_typed t (trees_of es) ≡ Ok ts → distinct_names names ≡ true
      → SameFields names fs ms (zipped names ts) (zip_members names (meanings t slots row (trees_of es))) → FieldsStand base names es
  unfolding typed_of mean
  fields-stand base fs ms h k [] es ts x d s = tt
  fields-stand base fs ms h k (f ∷ names) [] ts x d s = tt
  fields-stand base fs ms h k (f ∷ names) (e ∷ es) ts x d s =
      let a = and_then-ok (typed_of t e) (λ z. and_then (all_typed t (trees_of es)) (λ zs. Ok (z ∷ zs))) ts x in
      let b = and_then-ok (all_typed t (trees_of es)) (λ zs. Ok (a.given ∷ zs)) ts a.gave in
      let parts = and_parts (not (has_name f names)) (distinct_names names) d in
      let v = mean t slots row e in
      let ns = zip_members names (meanings t slots row (trees_of es)) in
      let gs = zipped names b.given in
      let all : SameFields (f ∷ names) fs ms (field f a.given gs) (member f v ns) =
      subst (λ (zs : List Ty). SameFields (f ∷ names) fs ms (zipped (f ∷ names) zs) (member f v ns)) (Ok-same (Ok ts) ts (a.given ∷ b.given) refl (sym b.gave)) s in
      let here = all f (or_left (bytes_eq f f) (has_name f names) (bytes_eq-itself f)) in (
        item-stands base fs ms f e a.given h k a.was (here.0 ∙ ap (λ (c : Bool). cond c (Some a.given) (field_type f gs)) (bytes_eq-itself f))
            (here.1 ∙ ap (λ (c : Bool). cond c (Some v) (member_named f ns)) (bytes_eq-itself f)),
        fields-stand base fs ms h k names es b.given b.was parts.1 (later-same f a.given v names fs ms gs ns (not-has (has_name f names) parts.0) all),
      )

  pack-stands : (base : Tree) (names : List Bytes) (es : List Tree) (w : Ty) → Stands t u slots row made base (pack names (trees_of es) NonNullable)
      → typed_of t (pack names (trees_of es) NonNullable) ≡ Ok w → FieldsStand base names es
  unfolding mean
  pack-stands base names es w s h =
      let p = pack-is t names (trees_of es) w h in
      fields-stand base (zipped names p.types) (zip_members names (meanings t slots row (trees_of es)))
      (s.typed ∙ (h ∙ ap (λ (z : Ty). Ok z) p.is)) s.means names es p.types p.typed p.distinct (λ f k. (refl, refl))

  parts-stand : (f : Bytes) (i : ℕ) (es : List Tree) → FieldsStand (get_item f root) (part_names f i es) es → PartsStand t u slots row made f i es
  parts-stand f i [] h = tt
  parts-stand f i (e ∷ es) h = (h.0, parts-stand f (suc i) es h.1)

  shares-stand : {A : Type 0} (same : A → A → Bool) (text : A → Bytes) (m : List (Entry A)) (ss : List (Share A)) (ts : List Ty)
      → FieldsStand root (map (λ x. text x.annotation) ss) (map (λ x. packed_parts (text x.annotation) x.parts) ss)
      → all_typed t (trees_of (map (λ x. packed_parts (text x.annotation) x.parts) ss)) ≡ Ok ts → SharesStand t u slots row made same text m ss
  unfolding typed_of
  shares-stand same text m [] ts h k = tt
  shares-stand same text m (x ∷ xs) ts h k =
      let rest = trees_of (map (λ y. packed_parts (text y.annotation) y.parts) xs) in
      let a = and_then-ok (typed_of t (packed_parts (text x.annotation) x.parts)) (λ z. and_then (all_typed t rest) (λ zs. Ok (z ∷ zs))) ts k in
      let b = and_then-ok (all_typed t rest) (λ zs. Ok (a.given ∷ zs)) ts a.gave in (
        parts-stand (text x.annotation) 0 x.parts (pack-stands (get_item (text x.annotation) root) (part_names (text x.annotation) 0 x.parts) x.parts a.given h.0 a.was),
        shares-stand same text m xs b.given h.1 b.was,
      )

-- the row of the packs stands for their pack
pub packs-stand : (t u : Ty) (slots : Slots) (row : Val) (e : Tree) → typed_of t e ≡ Ok u → Stands t u slots row (mean t slots row e) root e
unfolding typed_of mean
packs-stand t u slots row e h =
    record { typed = ap (λ (b : Bool). unless b duplicate_field (Ok u)) (typed-distinct t e u h) ∙ sym h; means = refl }

-- each part of the shares stands under its name
pub all-stand : {A : Type 0} (same : A → A → Bool) (text : A → Bytes) (m : List (Entry A)) (t : Ty) (slots : Slots) (row : Val) (ss : List (Share A)) (u : Ty) → typed_of t (packed_shares text ss) ≡ Ok u
    → SharesStand t u slots row (mean t slots row (packed_shares text ss)) same text m ss
all-stand same text m t slots row ss u h =
    let packs = packed_shares text ss in
    let made = mean t slots row packs in
    let names = map (λ x. text x.annotation) ss in
    let parts = map (λ x. packed_parts (text x.annotation) x.parts) ss in
    let q = pack-is t names (trees_of parts) u h in
    shares-stand t u slots row made same text m ss q.types (pack-stands t u slots row made root names parts u (packs-stand t u slots row packs h) h) q.typed

-- the expression without its parts stands for the expression
pub taken-stands : {A : Type 0} (same : A → A → Bool) (text : A → Bytes) (m : List (Entry A)) (t : Ty) (slots : Slots) (row : Val) (e : Tree) (u : Ty) → TakesParts A same text m t e u
    → Stands t u slots row (mean t slots row (packed_shares text (taken_from same text m e []).shares)) (taken_from same text m e []).expression e
taken-stands same text m t slots row e u p =
    let ss = (taken_from same text m e []).shares in
    let made = mean t slots row (packed_shares text ss) in
    (taken-goes t u slots row made same text m (λ a b h. ap text (sym (p.decides a b h))) e [] (all-stand same text m t slots row ss u p.typed)).stands p.covered

pub taken_typed : (A : Type 0) → TakenKeepsType A
taken_typed A same text m t e u p = (taken-stands same text m t [] fault e u p).typed

pub taken_means : (A : Type 0) → TakenKeepsMeaning A
taken_means A same text m t slots row e u p = (taken-stands same text m t slots row e u p).means
