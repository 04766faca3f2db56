-- A map keyed by expressions: what is looked up in it, and how the entries under numbers make it.
use Rattle.std.proofs.Common.{◌≡◌, ◌||◌, ℕ, nat_eq, Bool, true, false, cond, List, [], ◌∷◌, ◌++◌, map, Option, Some, option_map, refl, ap, sym, subst, ◌∙◌, append_assoc, append-nil, true≢false}
use Rattle.std.specs.Prelude.{unwrap_or, is_some}
use Rattle.std.specs.List.{slice_get, AllByRecursion, IsDistinct}
use Rattle.std.specs.Map.{lookup, keys_of}
use Rattle.indexmap.specs.IndexMap.{insert_entry}
use Rattle.vx_expr.specs.Equal.{tree_eq}
use Rattle.vx_expr.specs.EqualLaws.{tree_decides}
use Rattle.vx_expr.specs.Trees.{Tree}
use Rattle.vx_passes.specs.Annotating.{Entry, entry_of}
use Rattle.vx_partition.specs.Entries.{AreAtNumbers}
use Rattle.vx_partition.specs.Views.{has_entry}
use Rattle.vx_partition.specs.declared.numbered.Annotated.{Annotated}
use Rattle.vx_partition.proofs.EntryLemmas.{as_entries, SameTest, same_test}

module _ {A V : Type 0} (items : V → List A) where
  -- the entries of a map keyed by expressions
  abbrev pub keyed : List (Tree × V) → List (Entry A)
  keyed es = map (λ e. record { expression = e.0; annotations = items e.1 }) es

  -- what is held where something was found
  abbrev pub held_in : Option V → List A
  held_in o = unwrap_or (option_map items o) []

  held_by : (b : Bool) (v : V) (o : Option V) (more : List A) → held_in o ≡ more → held_in (cond b (Some v) o) ≡ cond b (items v) more
  held_by true v o more h = refl
  held_by false v o more h = h

  looked_up : (e : Tree) (es : List (Tree × V)) → held_in (lookup (tree_eq e) es) ≡ entry_of e (keyed es)
  looked_up e [] = refl
  looked_up e (x ∷ es) = held_by (tree_eq e x.0) x.1 (lookup (tree_eq e) es) (entry_of e (keyed es)) (looked_up e es)

  found_by : (b : Bool) (v : V) (o : Option V) (rest : Bool) → is_some o ≡ rest → is_some (cond b (Some v) o) ≡ (b || rest)
  found_by true v o rest h = refl
  found_by false v o rest h = h

  found : (e : Tree) (es : List (Tree × V)) → is_some (lookup (tree_eq e) es) ≡ has_entry e (keyed es)
  found e [] = refl
  found e (x ∷ es) = found_by (tree_eq e x.0) x.1 (lookup (tree_eq e) es) (has_entry e (keyed es)) (found e es)

  -- what is looked up is what the entry holds
  pub held_is : (e : Tree) (es : List (Tree × V)) (o : Option V) → o ≡ lookup (tree_eq e) es → held_in o ≡ entry_of e (keyed es)
  held_is e es o is = ap held_in is ∙ looked_up e es

  -- and is there where the entry is
  pub known_is : (e : Tree) (es : List (Tree × V)) (o : Option V) → o ≡ lookup (tree_eq e) es → is_some o ≡ has_entry e (keyed es)
  known_is e es o is = ap is_some is ∙ found e es

  module _ (e : Tree) (v : V) where
    last_by : (b : Bool) (x : Tree × V) (es with_v : List (Tree × V)) → (b || has_entry e (keyed es)) ≡ false
        → (has_entry e (keyed es) ≡ false → keyed with_v ≡ keyed es ++ record { expression = e; annotations = items v } ∷ [])
        → keyed (cond b ((x.0, v) ∷ es) (x ∷ with_v))
        ≡ record { expression = x.0; annotations = items x.1 } ∷ (keyed es ++ record { expression = e; annotations = items v } ∷ [])
    last_by true x es with_v absent next = absurd (true≢false absent)
    last_by false x es with_v absent next = ap (λ zs. record { expression = x.0; annotations = items x.1 } ∷ zs) (next absent)

    -- a new entry goes last
    pub goes_last : (es : List (Tree × V)) → has_entry e (keyed es) ≡ false
        → keyed (insert_entry tree_eq es e v) ≡ keyed es ++ record { expression = e; annotations = items v } ∷ []
    goes_last [] absent = refl
    goes_last (x ∷ es) absent = last_by (tree_eq e x.0) x es (insert_entry tree_eq es e v) absent (goes_last es)

-- ---- entries of distinct expressions

-- no two entries are of one expression
abbrev pub AreDistinct : {A : Type 0} → List (Entry A) → Type 0
AreDistinct es = IsDistinct tree_eq (map (λ x. x.expression) es)

neither : (b c : Bool) → b ≡ false → c ≡ false → (b || c) ≡ false
neither b c is also = ap (λ x. x || c) is ∙ also

other_way : (d e : Tree) → tree_eq d e ≡ false → tree_eq e d ≡ false
other_way d e apart = by (tree_eq e d) refl
  where
    by : (b : Bool) → tree_eq e d ≡ b → b ≡ false
    by true is = absurd (true≢false (sym ((tree_decides d e).1 (sym ((tree_decides e d).0 is))) ∙ apart))
    by false is = refl

module _ {A : Type 0} where
  at_place : (P : Tree → Type 0) (xs : List (Entry A)) (x : Entry A) (rest : List (Entry A)) → AllByRecursion P (map (λ y. y.expression) (xs ++ x ∷ rest)) → P x.expression
  at_place P [] x rest h = h.0
  at_place P (y ∷ xs) x rest h = at_place P xs x rest h.1

  -- an entry is of another expression than those before it
  not_before : (xs : List (Entry A)) (x : Entry A) (rest : List (Entry A)) → AreDistinct (xs ++ x ∷ rest) → has_entry x.expression xs ≡ false
  unfolding IsDistinct
  not_before [] x rest h = refl
  not_before (y ∷ xs) x rest h =
      neither (tree_eq x.expression y.expression) (has_entry x.expression xs)
      (other_way y.expression x.expression (at_place (λ e. tree_eq y.expression e ≡ false) xs x rest h.0)) (not_before xs x rest h.1)

  module _ (n : ℕ) (e : Tree) where
    apart_from : (es : List (ℕ × Annotated A)) → SameTest n e es → AllByRecursion (λ m. nat_eq n m ≡ false) (keys_of es)
        → AllByRecursion (λ d. tree_eq e d ≡ false) (map (λ x. x.expression) (as_entries es))
    apart_from [] same h = h
    apart_from (x ∷ es) same h = (sym same.0 ∙ h.0, apart_from es same.1 h.1)

  -- entries under distinct numbers are of distinct expressions
  pub distinct_numbered : (known : List Tree) (once : (m n : ℕ) (e : Tree) → slice_get known m ≡ Some e → slice_get known n ≡ Some e → m ≡ n)
      (es : List (ℕ × Annotated A)) → AreAtNumbers known es → IsDistinct nat_eq (keys_of es) → AreDistinct (as_entries es)
  unfolding IsDistinct
  distinct_numbered known once [] at h = h
  distinct_numbered known once (x ∷ es) at h =
      (apart_from x.0 x.1.expr es (same_test known once x.0 x.1.expr at.0 es at.1) h.0, distinct_numbered known once es at.1 h.1)

  -- an entry that moves from those that are left under its expression
  module _ {V : Type 0} (items : V → List A) (whole : List (Entry A)) (distinct : AreDistinct whole) where
    pub one_more_keyed : (made new : List (Tree × V)) (left rest : List (ℕ × Annotated A)) (x : ℕ × Annotated A) (v : V) → items v ≡ x.1.annotations.items
        → keyed items made ++ as_entries left ≡ whole → left ≡ x ∷ rest → new ≡ insert_entry tree_eq made x.1.expr v
        → keyed items new ++ as_entries rest ≡ whole
    one_more_keyed made new left rest x v same so_far taken inserted =
        let y : Entry A = record { expression = x.1.expr; annotations = x.1.annotations.items } in
        let parted : keyed items made ++ y ∷ as_entries rest ≡ whole = ap (λ es. keyed items made ++ as_entries es) (sym taken) ∙ so_far in
        let fresh = not_before (keyed items made) y (as_entries rest) (subst AreDistinct (sym parted) distinct) in
        ap (λ es. keyed items es ++ as_entries rest) inserted
        ∙ ap (λ es. es ++ as_entries rest) (goes_last items x.1.expr v made fresh)
        ∙ append_assoc (keyed items made) (record { expression = x.1.expr; annotations = items v } ∷ []) (as_entries rest)
        ∙ ap (λ zs. keyed items made ++ record { expression = x.1.expr; annotations = zs } ∷ as_entries rest) same ∙ parted

    -- with none left all stand under their expressions
    pub all_keyed : (made : List (Tree × V)) (left : List (ℕ × Annotated A)) → keyed items made ++ as_entries left ≡ whole → left ≡ [] → keyed items made ≡ whole
    all_keyed made left so_far none = sym (append-nil (keyed items made)) ∙ ap (λ es. keyed items made ++ as_entries es) (sym none) ∙ so_far
