-- Lists of items that are spelled so that none begins another; bytes that are cut into pieces of given lengths, and the places of the pieces.
use Rattle.std.proofs.Common.{◌≡◌, refl, sym, ap, ◌∙◌, append_assoc, ℕ, zero, suc, ◌+◌, ◌≤◌, List, [], ◌∷◌, ◌++◌, map, length, take, drop, get_or, sum, Some, arith}
use Rattle.std.specs.List.{AllByRecursion, flat_map, concat, slice_get}
use Rattle.std.proofs.lemmas.List.{length-append, length-drop, length-take-le, take_at, drop_at, drop-drop, take-append-drop}
use Rattle.std.proofs.lemmas.List.Sums.{sum_by-cons}
use Rattle.std.proofs.lemmas.Option.{same_Some}
use Rattle.vx_dtype.specs.Types.{Bytes}
use Rattle.vx_wire_bytes.specs.Numbers.{number_bytes}
use Rattle.vx_wire_bytes.proofs.NumberLemmas.{IsBytes, IsBytes-rest}
use Rattle.vx_wire.proofs.FieldLemmas.{IsPrefixFree, number_free}
use Rattle.vx_laws_file.specs.FileForms.{counted_bytes, AreCounted, lengths_of, ranges_bytes}
use Rattle.vx_laws_file.specs.Opening.{cut, cut_blocks}

-- ---- what holds of each item

pub each_so : {X : Type 0} (P Q : X → Type 0) (xs : List X) → ((x : X) → P x → Q x) → AllByRecursion P xs → AllByRecursion Q xs
each_so P Q [] f h = tt
each_so P Q (x ∷ xs) f h = (f x h.0, each_so P Q xs f h.1)

pub each_both : {X : Type 0} (P Q : X → Type 0) (xs : List X) → AllByRecursion P xs → AllByRecursion Q xs → AllByRecursion (λ x. P x × Q x) xs
each_both P Q [] h k = tt
each_both P Q (x ∷ xs) h k = ((h.0, k.0), each_both P Q xs h.1 k.1)

-- ---- parts of bytes are bytes

pub bytes_behind : (a b : Bytes) → IsBytes (a ++ b) → IsBytes b
bytes_behind [] b h = h
bytes_behind (x ∷ a) b h = bytes_behind a b (IsBytes-rest x (a ++ b) h)

pub bytes_before : (a b : Bytes) → IsBytes (a ++ b) → IsBytes a
bytes_before [] b h i = omega arith
bytes_before (x ∷ a) b h zero = h zero
bytes_before (x ∷ a) b h (suc i) = bytes_before a b (IsBytes-rest x (a ++ b) h) i

-- ---- lists that are spelled item by item

pub each_free : {A : Type 0} (spelling : A → Bytes) (P : A → Type 0) → IsPrefixFree spelling P → (xs ys : List A) (x y : Bytes) → AllByRecursion P xs → AllByRecursion P ys
    → length xs ≡ length ys → flat_map spelling xs ++ x ≡ flat_map spelling ys ++ y → (xs ≡ ys) × (x ≡ y)
each_free spelling P free [] [] x y p q n e = (refl, e)
each_free spelling P free [] (b ∷ ys) x y p q n e = absurd (omega (arith, n))
each_free spelling P free (a ∷ xs) [] x y p q n e = absurd (omega (arith, n))
each_free spelling P free (a ∷ xs) (b ∷ ys) x y p q n e =
    let both = free a b (flat_map spelling xs ++ x) (flat_map spelling ys ++ y) p.0 q.0
    (sym (append_assoc (spelling a) (flat_map spelling xs) x) ∙ e ∙ append_assoc (spelling b) (flat_map spelling ys) y) in
    let rest = each_free spelling P free xs ys x y p.1 q.1 (omega (arith, n)) both.1 in
    ((λ i. both.0 i ∷ rest.0 i), rest.1)

pub counted_free : {A : Type 0} (spelling : A → Bytes) (P : A → Type 0) → IsPrefixFree spelling P → IsPrefixFree (counted_bytes spelling) (AreCounted P)
counted_free spelling P free xs ys x y p q e =
    let number = number_free (length xs) (length ys) (flat_map spelling xs ++ x) (flat_map spelling ys ++ y) p.0 q.0
    (sym (append_assoc (number_bytes (length xs)) (flat_map spelling xs) x) ∙ e ∙ append_assoc (number_bytes (length ys)) (flat_map spelling ys) y) in
    each_free spelling P free xs ys x y p.1 q.1 number.0 number.1

-- ---- pieces of given lengths

pub same_front : (x y a b : Bytes) → length x ≡ length y → x ++ a ≡ y ++ b → (x ≡ y) × (a ≡ b)
same_front x y a b n e = (
  sym (take_at x a (length x) refl) ∙ ap (take (length x)) e ∙ take_at y b (length x) (sym n),
  sym (drop_at x a (length x) refl) ∙ ap (drop (length x)) e ∙ drop_at y b (length x) (sym n),
)

same_heads : {X : Type 0} (m n : X) (ms ns : List X) → m ∷ ms ≡ n ∷ ns → (m ≡ n) × (ms ≡ ns)
same_heads m n ms ns e = (cc, cc)

pub pieces_same : (xs ys : List Bytes) (a b : Bytes) → lengths_of xs ≡ lengths_of ys → concat xs ++ a ≡ concat ys ++ b → (xs ≡ ys) × (a ≡ b)
pieces_same [] [] a b n e = (refl, e)
pieces_same [] (y ∷ ys) a b n e = absurd cc
pieces_same (x ∷ xs) [] a b n e = absurd cc
pieces_same (x ∷ xs) (y ∷ ys) a b n e =
    let heads = same_heads (length x) (length y) (lengths_of xs) (lengths_of ys) n in
    let front = same_front x y (concat xs ++ a) (concat ys ++ b) heads.0 (sym (append_assoc x (concat xs) a) ∙ e ∙ append_assoc y (concat ys) b) in
    let rest = pieces_same xs ys a b heads.1 front.1 in
    ((λ i. front.0 i ∷ rest.0 i), rest.1)

pub ranges_same : (xs ys : List (List Bytes)) (a b : Bytes) → map lengths_of xs ≡ map lengths_of ys → ranges_bytes xs ++ a ≡ ranges_bytes ys ++ b → (xs ≡ ys) × (a ≡ b)
ranges_same [] [] a b n e = (refl, e)
ranges_same [] (y ∷ ys) a b n e = absurd cc
ranges_same (x ∷ xs) [] a b n e = absurd cc
ranges_same (x ∷ xs) (y ∷ ys) a b n e =
    let heads = same_heads (lengths_of x) (lengths_of y) (map lengths_of xs) (map lengths_of ys) n in
    let front = pieces_same x y (ranges_bytes xs ++ a) (ranges_bytes ys ++ b) heads.0
    (sym (append_assoc (concat x) (ranges_bytes xs) a) ∙ e ∙ append_assoc (concat y) (ranges_bytes ys) b) in
    let rest = ranges_same xs ys a b heads.1 front.1 in
    ((λ i. front.0 i ∷ rest.0 i), rest.1)

-- ---- sums

pub sum_cons : (n : ℕ) (ns : List ℕ) → sum (n ∷ ns) ≡ n + sum ns
sum_cons n ns = sum_by-cons (λ x. x) n ns

pub pieces_length : (xs : List Bytes) → length (concat xs) ≡ sum (lengths_of xs)
pieces_length [] = refl
pieces_length (x ∷ xs) = omega (arith, length-append x (concat xs), pieces_length xs, sum_cons (length x) (lengths_of xs))

pub ranges_length : (xs : List (List Bytes)) → length (ranges_bytes xs) ≡ sum (map sum (map lengths_of xs))
ranges_length [] = refl
ranges_length (x ∷ xs) =
    omega (arith, length-append (concat x) (ranges_bytes xs), pieces_length x, ranges_length xs, sum_cons (sum (lengths_of x)) (map sum (map lengths_of xs)))

-- ---- bytes that are cut

pub cut_is : (ns : List ℕ) (bytes : Bytes) → sum ns ≤ length bytes → (lengths_of (cut ns bytes) ≡ ns) × (concat (cut ns bytes) ++ drop (sum ns) bytes ≡ bytes)
cut_is [] bytes le = (refl, refl)
cut_is (n ∷ ns) bytes le =
    let both = sum_cons n ns in
    let rest = cut_is ns (drop n bytes) (omega (arith, le, both, length-drop n bytes)) in
    let len : length (take n bytes) ≡ n = length-take-le n bytes (omega (arith, le, both)) in
    let left : drop (sum (n ∷ ns)) bytes ≡ drop (sum ns) (drop n bytes) = ap (λ k. drop k bytes) both ∙ sym (drop-drop (sum ns) n bytes) in (
      (λ i. len i ∷ rest.0 i),
      ap (λ (b : Bytes). (take n bytes ++ concat (cut ns (drop n bytes))) ++ b) left
          ∙ append_assoc (take n bytes) (concat (cut ns (drop n bytes))) (drop (sum ns) (drop n bytes))
          ∙ ap (λ (b : Bytes). take n bytes ++ b) rest.1
          ∙ take-append-drop n bytes,
    )

pub cut_blocks_are : (nss : List (List ℕ)) (bytes : Bytes) → sum (map sum nss) ≤ length bytes
    → (map lengths_of (cut_blocks nss bytes) ≡ nss) × (ranges_bytes (cut_blocks nss bytes) ++ drop (sum (map sum nss)) bytes ≡ bytes)
cut_blocks_are [] bytes le = (refl, refl)
cut_blocks_are (ns ∷ nss) bytes le =
    let both = sum_cons (sum ns) (map sum nss) in
    let here = cut_is ns bytes (omega (arith, le, both)) in
    let behind = drop (sum ns) bytes in
    let rest = cut_blocks_are nss behind (omega (arith, le, both, length-drop (sum ns) bytes)) in
    let left : drop (sum (map sum (ns ∷ nss))) bytes ≡ drop (sum (map sum nss)) behind = ap (λ k. drop k bytes) both ∙ sym (drop-drop (sum (map sum nss)) (sum ns) bytes) in (
      (λ i. here.0 i ∷ rest.0 i),
      ap (λ (b : Bytes). (concat (cut ns bytes) ++ ranges_bytes (cut_blocks nss behind)) ++ b) left
          ∙ append_assoc (concat (cut ns bytes)) (ranges_bytes (cut_blocks nss behind)) (drop (sum (map sum nss)) behind)
          ∙ ap (λ (b : Bytes). concat (cut ns bytes) ++ b) rest.1
          ∙ here.1,
    )

-- ---- places of pieces

-- a piece stands behind those before it
pub piece_stands : (xs : List Bytes) (i : ℕ) (x rest : Bytes) → slice_get xs i ≡ Some x → take (length x) (drop (sum (take i (lengths_of xs))) (concat xs ++ rest)) ≡ x
piece_stands [] i x rest e = absurd cc
piece_stands (y ∷ xs) zero x rest e =
    let same : y ≡ x = same_Some y x e in
    ap (take (length x)) (append_assoc y (concat xs) rest) ∙ take_at y (concat xs ++ rest) (length x) (ap length same) ∙ same
piece_stands (y ∷ xs) (suc i) x rest e =
    let before = sum (take i (lengths_of xs)) in
    let both : sum (take (suc i) (lengths_of (y ∷ xs))) ≡ length y + before = sum_cons (length y) (take i (lengths_of xs)) in
    ap (λ k. take (length x) (drop k ((y ++ concat xs) ++ rest))) both
    ∙ ap (take (length x)) (sym (drop-drop before (length y) ((y ++ concat xs) ++ rest)))
    ∙ ap (λ (b : Bytes). take (length x) (drop before b)) (ap (drop (length y)) (append_assoc y (concat xs) rest) ∙ drop_at y (concat xs ++ rest) (length y) refl)
    ∙ piece_stands xs i x rest e

-- the ranges of a block stand behind those of the blocks before it
pub record BlockStands (xss : List (List Bytes)) (i : ℕ) (xs : List Bytes) : Type 0 where
  pub behind : Bytes
  pub stands : drop (sum (map sum (take i (map lengths_of xss)))) (ranges_bytes xss) ≡ concat xs ++ behind
  pub lengths : get_or (map lengths_of xss) i [] ≡ lengths_of xs

pub block_stands : (xss : List (List Bytes)) (i : ℕ) (xs : List Bytes) → slice_get xss i ≡ Some xs → BlockStands xss i xs
block_stands [] i xs e = absurd cc
block_stands (ys ∷ xss) zero xs e =
    let same : ys ≡ xs = same_Some ys xs e in
    record { behind = ranges_bytes xss; stands = ap (λ (zs : List Bytes). concat zs ++ ranges_bytes xss) same; lengths = ap lengths_of same }
block_stands (ys ∷ xss) (suc i) xs e =
    let rest = block_stands xss i xs e in
    let before = sum (map sum (take i (map lengths_of xss))) in
    let both : sum (map sum (take (suc i) (map lengths_of (ys ∷ xss)))) ≡ sum (lengths_of ys) + before = sum_cons (sum (lengths_of ys)) (map sum (take i (map lengths_of xss))) in
    let gone : drop (sum (lengths_of ys)) (concat ys ++ ranges_bytes xss) ≡ ranges_bytes xss = drop_at (concat ys) (ranges_bytes xss) (sum (lengths_of ys)) (pieces_length ys) in
    record {
      behind = rest.behind;
      stands = ap (λ k. drop k (concat ys ++ ranges_bytes xss)) both ∙ sym (drop-drop before (sum (lengths_of ys)) (concat ys ++ ranges_bytes xss)) ∙ ap (drop before) gone ∙ rest.stands;
      lengths = rest.lengths;
    }
