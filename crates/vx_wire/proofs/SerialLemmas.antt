-- Wire trees that are written of expressions.
use Rattle.std.proofs.Common.{◌≡◌, ℕ, zero, suc, ◌+◌, ◌^◌, ◌<◌, ◌≤◌, true, nat_eq, List, [], ◌∷◌, ◌++◌, length, map, drop, take, get_or, Some, Result, Ok, Err, IfOk, refl, sym, ap, subst, ◌∙◌, append_assoc, arith}
use Rattle.std.specs.List.{slice_get, AllByRecursion}
use Rattle.std.proofs.lemmas.List.{append-nil, drop_all, take_all, take_more}
use Rattle.vx_dtype.specs.Types.{Bytes}
use Rattle.vx_expr.specs.Trees.{Tree, dynamic, trees_of, listed, children_of}
use Rattle.vx_expr.specs.Children.{id_of}
use Rattle.vx_expr.specs.Packed.{Packed, pack_tree}
use Rattle.vx_expr.proofs.TreeLemmas.{listed_trees_of}
use Rattle.vx_dtype.specs.declared.Nullability.{Nullability}
use Rattle.vx_dtype.specs.TypeRules.{null_number}
use Rattle.vx_wire_bytes.specs.Wires.{Wire, node, first}
use Rattle.vx_wire_bytes.specs.WireViews.{wires_in, tree_view, trees_view}
use Rattle.vx_wire_bytes.specs.Numbers.{number_bytes, piece_bytes}
use Rattle.vx_wire_bytes.specs.Fields.{IsShort, IsText}
use Rattle.vx_wire_bytes.specs.declared.trees.WireTree.{WireTree}
use Rattle.vx_wire_bytes.specs.declared.errors.WireError.{WireError}
use Rattle.vx_wire_bytes.specs.declared.errors.WireError.TheVariants as errors
use Rattle.vx_wire.specs.Encodings.{encoding_of, is_default_kind}
use Rattle.vx_wire.specs.Metadata.{texts_bytes, names_bytes, AreNames, metadata_bytes, HasMetadata, HasForm, IsSerializable, HasShortMetadata, IsNoEmptyMerge}
use Rattle.vx_wire.specs.Forms.{node_with, wire_of, wires_of, Everywhere, EverywhereIn}
use Rattle.vx_wire.specs.Building.{IsBuilt}
use Rattle.vx_wire.specs.Serializing.{IsWritten, IsUnwrittenLong, IsUnserialized}
use Rattle.vx_wire.proofs.FieldLemmas.{texts_bytes-push, texts-push}
use Rattle.vx_wire.proofs.WireLemmas.{wire_of-children, everywhere}
use Rattle.vx_wire.proofs.EverywhereLemmas.{both_everywhere, also_everywhere}

-- ---- lists of names

-- the number of the names and the first names stand behind what stood there
pub record AreNamesWritten (old new : Bytes) (names : List Bytes) (i : ℕ) : Type 0 where
  pub few : length names < 2 ^ 32
  pub texts : AllByRecursion IsText (take i names)
  pub written : new ≡ old ++ (number_bytes (length names) ++ texts_bytes (take i names))

pub names_written_start : (old new : Bytes) (names : List Bytes) → length names < 2 ^ 32 → new ≡ old ++ number_bytes (length names) → AreNamesWritten old new names 0
names_written_start old new names few e = record { few = few; texts = tt; written = e ∙ ap (λ (b : Bytes). old ++ b) (sym (append-nil (number_bytes (length names)))) }

pub names_written_go_on : (old new after : Bytes) (names : List Bytes) (i : ℕ) (name : Bytes) → i < length names → name ≡ get_or names i name → IsText name → after ≡ new ++ piece_bytes name → AreNamesWritten old new names i → AreNamesWritten old after names (i + 1)
names_written_go_on old new after names i name lt is text e w =
    let more : take (i + 1) names ≡ take i names ++ name ∷ [] = take_more names i name lt ∙ ap (λ x. take i names ++ x ∷ []) (sym is) in
    let row : texts_bytes (take (i + 1) names) ≡ texts_bytes (take i names) ++ piece_bytes name = ap texts_bytes more ∙ texts_bytes-push (take i names) name in
    let number = number_bytes (length names) in
    record {
      few = w.few;
      texts = subst (AllByRecursion IsText) (sym more) (texts-push (take i names) name w.texts text);
      written = e ∙ ap (λ (b : Bytes). b ++ piece_bytes name) w.written ∙ append_assoc old (number ++ texts_bytes (take i names)) (piece_bytes name)
          ∙ ap (λ (b : Bytes). old ++ b) (append_assoc number (texts_bytes (take i names)) (piece_bytes name) ∙ ap (λ (b : Bytes). number ++ b) (sym row));
    }

pub names_written_end : (old new : Bytes) (names : List Bytes) (i : ℕ) → length names ≤ i → AreNamesWritten old new names i → AreNames names × (new ≡ old ++ names_bytes names)
names_written_end old new names i le w =
    let all : take i names ≡ names = take_all i names le in
    ((w.few, subst (AllByRecursion IsText) all w.texts), w.written ∙ ap (λ (b : List Bytes). old ++ (number_bytes (length names) ++ texts_bytes b)) all)

short_name : (names : List Bytes) (i : ℕ) (name : Bytes) → i < length names → name ≡ get_or names i name → AllByRecursion IsShort names → IsShort name
short_name [] i name lt is all = absurd (omega arith)
short_name (n ∷ names) zero name lt is all = subst IsShort (sym is) all.0
short_name (n ∷ names) (suc i) name lt is all = short_name names i name (omega arith) is all.1

-- a reason passes on to what has the part
pub also_long : (P Q : Type 0) (why : WireError) → (Q → P) → IsUnwrittenLong P why → IsUnwrittenLong Q why
also_long P Q errors.NoMemory f h = tt
also_long P Q errors.TooLong f h = λ q. h (f q)
also_long P Q errors.BadWire f h = h
also_long P Q errors.TooDeep f h = h
also_long P Q errors.TooManyNodes f h = h
also_long P Q errors.NotSerializable f h = h

pub long_name : (names : List Bytes) (i : ℕ) (name : Bytes) (why : WireError) → i < length names → name ≡ get_or names i name → IsUnwrittenLong (IsShort name) why → IsUnwrittenLong ((length names < 2 ^ 32) × AllByRecursion IsShort names) why
long_name names i name why lt is h = also_long (IsShort name) ((length names < 2 ^ 32) × AllByRecursion IsShort names) why (λ q. short_name names i name lt is q.1) h

-- ---- nodes

pub wires_listed : (es : List Tree) → wires_of (trees_of es) ≡ wires_in (map wire_of es)
wires_listed [] = refl
wires_listed (e ∷ es) = ap (first (wire_of e)) (wires_listed es)

-- ---- the whole expression

pub default_kind : (e : Tree) → HasMetadata e → is_default_kind (encoding_of e) ≡ true
default_kind (dynamic e op k t default) h = absurd h
default_kind e h = refl

pub spelled_everywhere : (e : Tree) → Everywhere IsWritten e → Everywhere HasMetadata e
spelled_everywhere = also_everywhere IsWritten HasMetadata (λ e w. w.metadata)

pub built_again : (wire : Wire) (e : Tree) → wire ≡ wire_of e → Everywhere IsWritten e → Everywhere IsNoEmptyMerge e → IsBuilt is_default_kind wire e
built_again wire e form written some = record {
  form = form;
  forms = both_everywhere IsWritten IsNoEmptyMerge HasForm (λ d w m. record { metadata = w.metadata; children = w.children m }) e written some;
  held = also_everywhere IsWritten (λ d. is_default_kind (encoding_of d) ≡ true) (λ d w. default_kind d w.metadata) e written;
}

pub spelled_again : {A : Type 0} (e : Tree) (result : Result A WireError) → IfOk result (λ x. Everywhere IsWritten e) → IfOk result (λ x. Everywhere HasMetadata e)
spelled_again e (Ok x) h = spelled_everywhere e h
spelled_again e (Err why) h = tt

pub all_built_again : {A : Type 0} (see : A → Wire) (e : Tree) (result : Result A WireError) → IfOk result (λ x. see x ≡ wire_of e) → IfOk result (λ x. Everywhere IsWritten e) → IfOk result (λ x. Everywhere IsNoEmptyMerge e → IsBuilt is_default_kind (see x) e)
all_built_again see e (Ok x) form written = built_again (see x) e form written
all_built_again see e (Err why) form written = tt

pub unserialized : (e : Tree) (why : WireError) → Everywhere IsSerializable e → IsUnwrittenLong (Everywhere HasShortMetadata e) why → IsUnserialized e why
unserialized e errors.NoMemory s h = tt
unserialized e errors.TooLong s h = (s, h)
unserialized e errors.BadWire s h = h
unserialized e errors.TooDeep s h = h
unserialized e errors.TooManyNodes s h = h
unserialized e errors.NotSerializable s h = absurd h

same_number : (m n : ℕ) → m ≡ n → nat_eq n m ≡ true
same_number m n e = grind arith

-- a struct that has as many values as names
packed_written : {B : Type 0} (see : B → Bytes) (p : Packed) (result : Result B WireError) → length p.names ≡ length p.values
    → IfOk result (λ b. AreNames p.names × (see b ≡ null_number p.nullability ∷ names_bytes p.names)) → IfOk result (λ b. IsWritten (pack_tree p) × (see b ≡ metadata_bytes (pack_tree p)))
packed_written see p (Err why) as_many h = tt
packed_written see p (Ok b) as_many h =
    let number : length (listed (trees_of p.values)) ≡ length p.values = ap length (listed_trees_of p.values) in
    (record { metadata = h.0; children = λ some. same_number (length p.names) (length (listed (trees_of p.values))) (as_many ∙ sym number) }, h.1)

pub pack_written : {B : Type 0} (see : B → Bytes) (p : Packed) (names : List Bytes) (n : Nullability) (e : Tree) (result : Result B WireError) → e ≡ pack_tree p → names ≡ p.names → n ≡ p.nullability → length p.names ≡ length p.values
    → IfOk result (λ b. AreNames names × (see b ≡ null_number n ∷ names_bytes names)) → IfOk result (λ b. IsWritten e × (see b ≡ metadata_bytes e))
pack_written see p names n e result is names_are n_is as_many h =
    let known = subst (λ m. IfOk result (λ b. AreNames p.names × (see b ≡ null_number m ∷ names_bytes p.names))) n_is (subst (λ x. IfOk result (λ b. AreNames x × (see b ≡ null_number n ∷ names_bytes x))) names_are h) in
    subst (λ d. IfOk result (λ b. IsWritten d × (see b ≡ metadata_bytes d))) (sym is) (packed_written see p result as_many known)
