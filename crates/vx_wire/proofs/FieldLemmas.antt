-- Fields that are read as a whole, and lists of names.
use Rattle.std.proofs.Common.{◌≡◌, ℕ, ◌+◌, ◌^◌, ◌<◌, ◌≤◌, List, [], ◌∷◌, ◌++◌, length, drop, Some, None, refl, sym, ap, subst, ◌∙◌, append_assoc, arith, length-append, length-drop}
use Rattle.std.specs.List.{AllByRecursion}
use Rattle.std.proofs.lemmas.List.{append-nil, drop_all}
use Rattle.std.proofs.lemmas.Option.{same_Some}
use Rattle.vx_dtype.specs.Types.{Bytes}
use Rattle.vx_wire_bytes.specs.Numbers.{number_bytes, piece_bytes}
use Rattle.vx_wire_bytes.specs.Fields.{Stands, IsFieldAt, IsNumber, IsText}
use Rattle.vx_wire_bytes.specs.Reading.{number_at, text_at}
use Rattle.vx_wire_bytes.specs.TypeForms.{type_bytes, IsType}
use Rattle.vx_dtype.specs.TypeRules.{most_deep}
use Rattle.vx_wire_bytes.specs.TypeReading.{type_at}
use Rattle.vx_wire_bytes.proofs.NumberLemmas.{number_again}
use Rattle.vx_wire_bytes.proofs.HeadLemmas.{text_again}
use Rattle.vx_wire_bytes.proofs.TypeLemmas.{type_again}
use Rattle.vx_wire.specs.Metadata.{texts_bytes, names_bytes, AreNames}
use Rattle.vx_wire.specs.ReadBack.{IsReadBack}

-- no spelling begins another
abbrev pub IsPrefixFree : {A : Type 0} → (A → Bytes) → (A → Type 0) → Type 0
IsPrefixFree {A} spelling HasSpelling = (a b : A) (x y : Bytes) → HasSpelling a → HasSpelling b → spelling a ++ x ≡ spelling b ++ y → (a ≡ b) × (x ≡ y)

pub same_found : {A : Type 0} (p q : A × Bytes) → Some p ≡ Some q → (p.0 ≡ q.0) × (p.1 ≡ q.1)
same_found {A} p q e = let same : p ≡ q = same_Some p q e in (ap (λ (x : A × Bytes). x.0) same, ap (λ (x : A × Bytes). x.1) same)

pub number_free : IsPrefixFree number_bytes IsNumber
number_free a b x y p q e = same_found (a, x) (b, y) (sym (number_again a x p) ∙ ap number_at e ∙ number_again b y q)

pub text_free : IsPrefixFree piece_bytes IsText
text_free a b x y p q e = same_found (a, x) (b, y) (sym (text_again a x p.short p.utf8) ∙ ap text_at e ∙ text_again b y q.short q.utf8)

pub type_free : IsPrefixFree type_bytes IsType
type_free a b x y p q e = same_found (a, x) (b, y) (sym (type_again a most_deep x p.names p.depth) ∙ ap (type_at most_deep) e ∙ type_again b most_deep y q.names q.depth)

-- a field that stands at a place ends within the bytes
pub ends_within : (bytes : Bytes) (at : ℕ) (text : Bytes) (after : ℕ) → at ≤ length bytes → Stands bytes at text after → after ≤ length bytes
ends_within bytes at text after le s =
    omega (arith, s.ends, length-drop at bytes, length-drop after bytes, ap length s.stands, length-append text (drop after bytes))

-- bytes that begin with no spelling are none
pub none_there : {A : Type 0} (spelling : A → Bytes) (HasSpelling : A → Type 0) (bytes : Bytes) → IsFieldAt spelling HasSpelling bytes 0 None → IsReadBack spelling HasSpelling bytes None
none_there spelling HasSpelling bytes h x fits e = h x [] fits (e ∙ sym (append-nil (spelling x)))

-- bytes behind a spelling are too many
pub some_behind : {A : Type 0} (spelling : A → Bytes) (HasSpelling : A → Type 0) → IsPrefixFree spelling HasSpelling → (bytes : Bytes) (found : A) (after : ℕ) → IsFieldAt spelling HasSpelling bytes 0 (Some (found, after)) → after < length bytes → IsReadBack spelling HasSpelling bytes None
some_behind spelling HasSpelling free bytes found after h lt x fits e =
    let same : spelling found ++ drop after bytes ≡ spelling x ++ [] = sym h.1.stands ∙ e ∙ sym (append-nil (spelling x)) in
    let left : drop after bytes ≡ [] = (free found x (drop after bytes) [] h.0 fits same).1 in
    omega (arith, ap length left, length-drop after bytes)

-- nothing stands behind a spelling that ends the bytes
pub none_behind : {A : Type 0} (spelling : A → Bytes) (HasSpelling : A → Type 0) (bytes : Bytes) (found : A) (after : ℕ) → IsFieldAt spelling HasSpelling bytes 0 (Some (found, after)) → length bytes ≤ after → IsReadBack spelling HasSpelling bytes (Some found)
none_behind spelling HasSpelling bytes found after h le =
    (h.0, h.1.stands ∙ ap (λ (r : Bytes). spelling found ++ r) (drop_all after bytes le) ∙ append-nil (spelling found))

-- ---- lists of names

pub texts_bytes-push : (names : List Bytes) (s : Bytes) → texts_bytes (names ++ s ∷ []) ≡ texts_bytes names ++ piece_bytes s
texts_bytes-push [] s = append-nil (piece_bytes s)
texts_bytes-push (n ∷ names) s = ap (λ (r : Bytes). piece_bytes n ++ r) (texts_bytes-push names s) ∙ sym (append_assoc (piece_bytes n) (texts_bytes names) (piece_bytes s))

pub texts-push : (names : List Bytes) (s : Bytes) → AllByRecursion IsText names → IsText s → AllByRecursion IsText (names ++ s ∷ [])
texts-push [] s all one = (one, tt)
texts-push (n ∷ names) s all one = (all.0, texts-push names s all.1 one)

-- the first names of a list, and what is left of it
pub record IsFront (names row : List Bytes) (rest : Bytes) : Type 0 where
  pub others : List Bytes
  pub fits : AllByRecursion IsText others
  pub number : length row ≡ length names + length others
  pub left : rest ≡ texts_bytes others

front_of : (names row : List Bytes) (rest : Bytes) → AllByRecursion IsText names → AllByRecursion IsText row → length names ≤ length row → texts_bytes names ++ rest ≡ texts_bytes row → IsFront names row rest
front_of [] row rest p q le e = record { others = row; fits = q; number = omega arith; left = e }
front_of (n ∷ names) [] rest p q le e = absurd (omega arith)
front_of (n ∷ names) (m ∷ row) rest p q le e =
    let both = text_free n m (texts_bytes names ++ rest) (texts_bytes row) p.0 q.0 (sym (append_assoc (piece_bytes n) (texts_bytes names) rest) ∙ e) in
    let inner = front_of names row rest p.1 q.1 (omega arith) both.1 in
    record { others = inner.others; fits = inner.fits; number = omega (arith, inner.number); left = inner.left }

-- so many names were read, which stand behind their number
pub record AreRead (bytes : Bytes) (number : ℕ) (names : List Bytes) (at count : ℕ) : Type 0 where
  pub within : at ≤ length bytes
  pub below : number < 2 ^ 32
  pub texts : AllByRecursion IsText names
  pub counted : length names ≡ count
  pub spelled : bytes ≡ number_bytes number ++ (texts_bytes names ++ drop at bytes)

pub names_start : (bytes : Bytes) (number start : ℕ) → IsFieldAt number_bytes IsNumber bytes 0 (Some (number, start)) → AreRead bytes number [] start 0
names_start bytes number start h = record { within = ends_within bytes 0 (number_bytes number) start (omega arith) h.1; below = h.0; texts = tt; counted = refl; spelled = h.1.stands }

pub names_go_on : (bytes : Bytes) (number : ℕ) (names more : List Bytes) (at count : ℕ) (text : Bytes) (after : ℕ) → AreRead bytes number names at count → IsFieldAt piece_bytes IsText bytes at (Some (text, after)) → more ≡ names ++ text ∷ [] → AreRead bytes number more after (count + 1)
names_go_on bytes number names more at count text after r h is =
    let row : texts_bytes more ≡ texts_bytes names ++ piece_bytes text = ap texts_bytes is ∙ texts_bytes-push names text in
    record {
      within = ends_within bytes at (piece_bytes text) after r.within h.1;
      below = r.below;
      texts = subst (AllByRecursion IsText) (sym is) (texts-push names text r.texts h.0);
      counted = omega (arith, r.counted, ap length is, length-append names (text ∷ []));
      spelled = r.spelled ∙ ap (λ (b : Bytes). number_bytes number ++ b)
          (ap (λ (b : Bytes). texts_bytes names ++ b) h.1.stands ∙ sym (append_assoc (texts_bytes names) (piece_bytes text) (drop after bytes)) ∙ ap (λ (b : Bytes). b ++ drop after bytes) (sym row));
    }

-- what other names with their number are spelled so: as many, and these first
pub front_row : (bytes : Bytes) (number : ℕ) (names : List Bytes) (at count : ℕ) → AreRead bytes number names at count → count ≤ number → (row : List Bytes) → AreNames row → bytes ≡ names_bytes row → (length row ≡ number) × IsFront names row (drop at bytes)
front_row bytes number names at count r le row fits e =
    let both = number_free (length row) number (texts_bytes row) (texts_bytes names ++ drop at bytes) fits.0 r.below (sym e ∙ r.spelled) in
    (both.0, front_of names row (drop at bytes) r.texts fits.1 (omega (arith, r.counted, both.0)) (sym both.1))

pub no_name : (bytes : Bytes) (number : ℕ) (names : List Bytes) (at count : ℕ) → AreRead bytes number names at count → count < number → IsFieldAt piece_bytes IsText bytes at None → IsReadBack names_bytes AreNames bytes None
no_name bytes number names at count r lt h row fits e =
    let all = front_row bytes number names at count r (omega arith) row fits e in
    go all.1.others all.1.fits (omega (arith, all.0, all.1.number, r.counted)) all.1.left
  where
    go : (others : List Bytes) → AllByRecursion IsText others → 0 < length others → drop at bytes ≡ texts_bytes others → ⊥
    go [] p some left = omega arith
    go (s ∷ others) p some left = h s (texts_bytes others) p.0 left

pub names_behind : (bytes : Bytes) (number : ℕ) (names : List Bytes) (at count : ℕ) → AreRead bytes number names at count → count ≡ number → at < length bytes → IsReadBack names_bytes AreNames bytes None
names_behind bytes number names at count r all lt row fits e =
    let front = front_row bytes number names at count r (omega (arith, all)) row fits e in
    go front.1.others (omega (arith, front.0, front.1.number, r.counted, all)) front.1.left
  where
    go : (others : List Bytes) → length others ≡ 0 → drop at bytes ≡ texts_bytes others → ⊥
    go [] none left = omega (arith, ap length left, length-drop at bytes)
    go (s ∷ others) none left = omega (arith, none)

pub names_end : (bytes : Bytes) (number : ℕ) (names : List Bytes) (at count : ℕ) → AreRead bytes number names at count → count ≡ number → length bytes ≤ at → IsReadBack names_bytes AreNames bytes (Some names)
names_end bytes number names at count r all le =
    let same : length names ≡ number = r.counted ∙ all in
    let left : texts_bytes names ++ drop at bytes ≡ texts_bytes names = ap (λ (b : Bytes). texts_bytes names ++ b) (drop_all at bytes le) ∙ append-nil (texts_bytes names) in
    ((omega (arith, same, r.below), r.texts), r.spelled ∙ ap (λ (b : Bytes). number_bytes number ++ b) left ∙ ap (λ n. number_bytes n ++ texts_bytes names) (sym same))
