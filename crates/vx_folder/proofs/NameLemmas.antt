-- The names of block files in their order, none twice.
use Rattle.std.proofs.Common.{◌≡◌, refl, sym, ap, ◌∙◌, subst, Bool, true, false, ◌&&◌, ◌||◌, List, [], ◌∷◌, ◌++◌, map}
use Rattle.std.specs.List.{list_any, AllByRecursion}
use Rattle.std.specs.List.Sorted.{IsStrictlySortedBy}
use Rattle.std.specs.Cmp.Lexicographic.{slice_cmp, bytes_decides}
use Rattle.std.specs.Str.{bytes_eq}
use Rattle.std.specs.declared.cmp.Ordering.{Ordering}
use Rattle.std.specs.declared.cmp.Ordering.TheVariants.{Less, Equal, Greater}
use Rattle.std.specs.declared.string.String.{String}
use Rattle.std.specs.declared.alloc.Global.{Global}
use Rattle.std.specs.String.{string_bytes, string_cmp}
use Rattle.std.specs.BTreeSet.{insert_key}
use Rattle.std.specs.Ordering.{match_ordering, is_eq, nat_cmp}
use Rattle.std.proofs.lemmas.Map.Text.{is_eq-slice_cmp}
use Rattle.vx_dtype.specs.Types.{Bytes}
use Rattle.vx_laws_shell.specs.FolderContents.{is_file_name, AreFileNames}
use Rattle.vx_folder.specs.FolderAnswers.{AreFilesAmong}

abbrev Name : Type 0
Name = String Global

abbrev pub has_bytes : Bytes → List Name → Bool
has_bytes b names = list_any (bytes_eq b) (map string_bytes names)

-- ---- one more name

or_false : (a : Bool) → (a || false) ≡ a
or_false true = refl
or_false false = refl

has_more : (b : Bytes) (names : List Name) (name : Name) → has_bytes b (names ++ name ∷ []) ≡ (has_bytes b names || bytes_eq b (string_bytes name))
has_more b [] name = or_false (bytes_eq b (string_bytes name))
has_more b (n ∷ names) name = ap (λ (x : Bool). bytes_eq b (string_bytes n) || x) (has_more b names name) ∙ assoc (bytes_eq b (string_bytes n))
  where
    assoc : (x : Bool) → (x || (has_bytes b names || bytes_eq b (string_bytes name))) ≡ ((x || has_bytes b names) || bytes_eq b (string_bytes name))
    assoc true = refl
    assoc false = refl

swapped : (x y z : Bool) → (x || (y || z)) ≡ (y || (x || z))
swapped true true z = refl
swapped true false z = refl
swapped false true z = refl
swapped false false z = refl

twice : (x y z : Bool) → x ≡ y → (y || z) ≡ (x || (y || z))
twice true true z e = refl
twice true false z e = absurd cc
twice false y z e = refl

has_inserted : (b : Bytes) (names : List Name) (name : Name) → has_bytes b (insert_key string_cmp names name) ≡ (bytes_eq b (string_bytes name) || has_bytes b names)
has_inserted b [] name = refl
has_inserted b (n ∷ names) name = by (string_cmp name n) refl (has_inserted b names name)
  where
    by : (o : Ordering) → string_cmp name n ≡ o → has_bytes b (insert_key string_cmp names name) ≡ (bytes_eq b (string_bytes name) || has_bytes b names)
        → has_bytes b (match_ordering o (name ∷ n ∷ names) (n ∷ names) (n ∷ insert_key string_cmp names name)) ≡ (bytes_eq b (string_bytes name) || has_bytes b (n ∷ names))
    by Less e rest = refl
    by Equal e rest =
        let tie : bytes_eq (string_bytes name) (string_bytes n) ≡ true = sym (is_eq-slice_cmp (string_bytes name) (string_bytes n)) ∙ ap is_eq e in
        let same : string_bytes name ≡ string_bytes n = (bytes_decides (string_bytes name) (string_bytes n)).0 tie in
        twice (bytes_eq b (string_bytes name)) (bytes_eq b (string_bytes n)) (has_bytes b names) (ap (bytes_eq b) same)
    by Greater e rest =
        ap (λ (x : Bool). bytes_eq b (string_bytes n) || x) rest
        ∙ swapped (bytes_eq b (string_bytes n)) (bytes_eq b (string_bytes name)) (has_bytes b names)

-- what stands so far are the names of block files so far
abbrev pub AreSoFar : List Name → List Name → Type 0
AreSoFar standing yielded = AreFilesAmong (map string_bytes yielded) (map string_bytes standing)

pub none_so_far : AreSoFar [] []
none_so_far b = by (is_file_name b)
  where
    by : (x : Bool) → false ≡ (x && false)
    by true = refl
    by false = refl

put_in : (b : Bytes) (name : Bytes) (x : Bool) → is_file_name name ≡ true → (bytes_eq b name || (is_file_name b && x)) ≡ (is_file_name b && (x || bytes_eq b name))
put_in b name x file = by (bytes_eq b name) (is_file_name b) refl refl
  where
    by : (same own : Bool) → bytes_eq b name ≡ same → is_file_name b ≡ own → (same || (own && x)) ≡ (own && (x || same))
    by true own e f =
        let is : own ≡ true = sym f ∙ ap is_file_name ((bytes_decides b name).0 e) ∙ file in
        subst (λ (o : Bool). true ≡ (o && (x || true))) (sym is) (or_true x)
      where
        or_true : (y : Bool) → true ≡ (y || true)
        or_true true = refl
        or_true false = refl
    by false own e f = ap (λ (y : Bool). own && y) (sym (or_false x))

left_out : (b : Bytes) (name : Bytes) (x : Bool) → is_file_name name ≡ false → (is_file_name b && x) ≡ (is_file_name b && (x || bytes_eq b name))
left_out b name x file = by (bytes_eq b name) (is_file_name b) refl refl
  where
    by : (same own : Bool) → bytes_eq b name ≡ same → is_file_name b ≡ own → (own && x) ≡ (own && (x || same))
    by true own e f =
        let is : own ≡ false = sym f ∙ ap is_file_name ((bytes_decides b name).0 e) ∙ file in
        subst (λ (o : Bool). (o && x) ≡ (o && (x || true))) (sym is) refl
    by false own e f = ap (λ (y : Bool). own && y) (sym (or_false x))

pub one_put_in : (standing yielded : List Name) (name : Name) → is_file_name (string_bytes name) ≡ true → AreSoFar standing yielded
    → AreSoFar (insert_key string_cmp standing name) (yielded ++ name ∷ [])
one_put_in standing yielded name file h = λ b.
    has_inserted b standing name ∙ ap (λ (x : Bool). bytes_eq b (string_bytes name) || x) (h b) ∙ put_in b (string_bytes name) (has_bytes b yielded) file
    ∙ ap (λ (x : Bool). is_file_name b && x) (sym (has_more b yielded name))

pub one_left_out : (standing yielded : List Name) (name : Name) → is_file_name (string_bytes name) ≡ false → AreSoFar standing yielded
    → AreSoFar standing (yielded ++ name ∷ [])
one_left_out standing yielded name file h = λ b.
    h b ∙ left_out b (string_bytes name) (has_bytes b yielded) file ∙ ap (λ (x : Bool). is_file_name b && x) (sym (has_more b yielded name))

-- ---- their order

below_all : (name : Name) (names : List Name) → AllByRecursion (λ y. string_cmp name y ≡ Less) names
    → AllByRecursion (λ y. slice_cmp nat_cmp (string_bytes name) y ≡ Less) (map string_bytes names)
below_all name [] h = tt
below_all name (n ∷ names) h = (h.0, below_all name names h.1)

in_order : (names : List Name) → IsStrictlySortedBy string_cmp names → IsStrictlySortedBy (slice_cmp nat_cmp) (map string_bytes names)
unfolding IsStrictlySortedBy
in_order [] h = tt
in_order (name ∷ names) h = (below_all name names h.0, in_order names h.1)

-- the names that stand, in their order
pub are_file_names : (listed names : List Name) → IsStrictlySortedBy string_cmp names → AreSoFar names listed → AreFileNames (map string_bytes listed) (map string_bytes names)
are_file_names listed names order h = record { ascending = in_order names order; same = h }
