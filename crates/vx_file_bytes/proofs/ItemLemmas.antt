-- Items that are read one after the other, as a loop does.
use Rattle.std.proofs.Common.{◌≡◌, refl, sym, ap, ◌∙◌, append_assoc, append-nil, ℕ, suc, ◌-◌, ◌+◌, ◌≤◌, ◌<◌, List, [], ◌∷◌, ◌++◌, Option, Some, None, arith}
use Rattle.vx_dtype.specs.Types.{Bytes}
use Rattle.vx_wire_bytes.specs.Reading.{◌>>=◌}
use Rattle.vx_laws_file.specs.HeaderReading.{items_with}

module _ {A : Type 0} (read : Bytes → Option (A × Bytes)) where
  -- the items that were read before, and those that are still read
  abbrev pub with_items : List A → Option (List A × Bytes) → Option (List A × Bytes)
  with_items front o = o >>= λ x. Some (front ++ x.0, x.1)

  with_items-joined : (front : List A) (x : A) (o : Option (List A × Bytes)) → with_items front (o >>= λ xs. Some (x ∷ xs.0, xs.1)) ≡ with_items (front ++ x ∷ []) o
  with_items-joined front x None = refl
  with_items-joined front x (Some xs) = ap (λ ys. Some (ys, xs.1)) (sym (append_assoc front (x ∷ []) xs.0))

  with_items-none : (o : Option (List A × Bytes)) → with_items [] o ≡ o
  with_items-none None = refl
  with_items-none (Some x) = refl

  -- of so many items these were read, and what is left gives the others
  abbrev pub IsReadingItems : ℕ → Bytes → ℕ → Bytes → List A → Type 0
  IsReadingItems n bytes i rest xs = items_with read n bytes ≡ with_items xs (items_with read (n - i) rest)

  pub items_start : (n : ℕ) (bytes : Bytes) (xs : List A) → xs ≡ [] → IsReadingItems n bytes 0 bytes xs
  items_start n bytes xs none =
      let k : n ≡ n - 0 = omega arith in
      ap (λ i. items_with read i bytes) k ∙ sym (with_items-none (items_with read (n - 0) bytes)) ∙ ap (λ ys. with_items ys (items_with read (n - 0) bytes)) (sym none)

  pub items_go_on : (n : ℕ) (bytes : Bytes) (i : ℕ) (rest : Bytes) (xs new : List A) (x : A) (after : Bytes) → i < n → Some (x, after) ≡ read rest → new ≡ xs ++ x ∷ []
      → IsReadingItems n bytes i rest xs → IsReadingItems n bytes (i + 1) after new
  unfolding items_with
  items_go_on n bytes i rest xs new x after lt e is so_far =
      let k : n - i ≡ suc (n - (i + 1)) = omega arith in
      so_far ∙ rw (k, ← e, is) (with_items-joined xs x (items_with read (n - (i + 1)) after))

  pub no_item : (n : ℕ) (bytes : Bytes) (i : ℕ) (rest : Bytes) (xs : List A) → i < n → None ≡ read rest → IsReadingItems n bytes i rest xs → None ≡ items_with read n bytes
  unfolding items_with
  no_item n bytes i rest xs lt e so_far =
      let k : n - i ≡ suc (n - (i + 1)) = omega arith in
      let none : with_items xs (items_with read (n - i) rest) ≡ None = rw (k, ← e) refl in
      sym (so_far ∙ none)

  pub items_end : (n : ℕ) (bytes : Bytes) (i : ℕ) (rest : Bytes) (xs : List A) → n ≤ i → IsReadingItems n bytes i rest xs → Some (xs, rest) ≡ items_with read n bytes
  unfolding items_with
  items_end n bytes i rest xs le so_far =
      let k : n - i ≡ 0 = omega arith in
      let one : with_items xs (items_with read (n - i) rest) ≡ Some (xs, rest) = rw k (ap (λ ys. Some (ys, rest)) (append-nil xs)) in
      sym (so_far ∙ one)
