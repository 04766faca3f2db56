-- The parts of an annotation: how many there are, one more of them, and their names.
use Rattle.std.proofs.Common.{◌≡◌, ℕ, suc, ◌+◌, ◌<◌, ◌≤◌, Bool, true, false, cond, List, [], ◌∷◌, ◌++◌, length, map, drop, Option, Some, None, option_map, refl, ap, sym, ◌∙◌, append_assoc, append-nil, add-one}
use Rattle.std.specs.Prelude.{unwrap_or}
use Rattle.std.specs.Map.{lookup}
use Rattle.std.proofs.lemmas.List.{drop_all, drop_more}
use Rattle.indexmap.specs.IndexMap.{insert_entry}
use Rattle.vx_dtype.specs.Types.{Bytes}
use Rattle.vx_expr.specs.Trees.{Tree, root}
use Rattle.vx_passes.specs.Splitting.{Share, parts_count, with_part, part_name, part_names}

module _ {A V : Type 0} (items : V → List Tree) (same : A → A → Bool) where
  abbrev pub as_shares : List (A × V) → List (Share A)
  as_shares es = map (λ e. record { annotation = e.0; parts = items e.1 }) es

  -- what is looked up, counted
  abbrev pub count_in : Option V → ℕ
  count_in o = unwrap_or (option_map (λ v. length (items v)) o) 0

  count_by : (b : Bool) (v : V) (o : Option V) (n : ℕ) → count_in o ≡ n → count_in (cond b (Some v) o) ≡ cond b (length (items v)) n
  count_by true v o n h = refl
  count_by false v o n h = h

  counted : (a : A) (es : List (A × V)) → count_in (lookup (same a) es) ≡ parts_count same a (as_shares es)
  counted a [] = refl
  counted a (x ∷ es) = count_by (same a x.0) x.1 (lookup (same a) es) (parts_count same a (as_shares es)) (counted a es)

  pub is_count : (a : A) (es : List (A × V)) (o : Option V) → o ≡ lookup (same a) es → count_in o ≡ parts_count same a (as_shares es)
  is_count a es o is = ap count_in is ∙ counted a es

  module _ (a : A) (own : same a a ≡ true) where
    again_by : (b : Bool) (x : A × V) (v w : V) (es : List (A × V)) → same a x.0 ≡ b
        → (insert_entry same (insert_entry same es a v) a w ≡ insert_entry same es a w)
        → insert_entry same (cond b ((x.0, v) ∷ es) (x ∷ insert_entry same es a v)) a w ≡ cond b ((x.0, w) ∷ es) (x ∷ insert_entry same es a w)
    again_by true x v w es is next = ap (λ c. cond c ((x.0, w) ∷ es) ((x.0, v) ∷ insert_entry same es a w)) is
    again_by false x v w es is next =
        ap (λ c. cond c ((x.0, w) ∷ insert_entry same es a v) (x ∷ insert_entry same (insert_entry same es a v) a w)) is ∙ ap (λ zs. x ∷ zs) next

    -- of two that are put in one after the other the second counts
    pub again : (es : List (A × V)) (v w : V) → insert_entry same (insert_entry same es a v) a w ≡ insert_entry same es a w
    again [] v w = ap (λ c. cond c ((a, w) ∷ []) ((a, v) ∷ (a, w) ∷ [])) own
    again (x ∷ es) v w = again_by (same a x.0) x v w es refl (again es v w)

  -- the parts so far, and none where there is no entry
  abbrev pub parts_in : Option V → List Tree
  parts_in o = unwrap_or (option_map items o) []

  module _ (a : A) (e : Tree) (v : V) where
    one_more_by : (b : Bool) (x : A × V) (es with_v : List (A × V)) (rest : List (Share A))
        → items v ≡ parts_in (cond b (Some x.1) (lookup (same a) es)) ++ e ∷ []
        → (items v ≡ parts_in (lookup (same a) es) ++ e ∷ [] → as_shares with_v ≡ rest)
        → as_shares (cond b ((x.0, v) ∷ es) (x ∷ with_v))
        ≡ cond b (record { annotation = x.0; parts = items x.1 ++ e ∷ [] } ∷ as_shares es) (record { annotation = x.0; parts = items x.1 } ∷ rest)
    one_more_by true x es with_v rest is next = ap (λ ps. record { annotation = x.0; parts = ps } ∷ as_shares es) is
    one_more_by false x es with_v rest is next = ap (λ zs. record { annotation = x.0; parts = items x.1 } ∷ zs) (next is)

    -- the share with one more part
    pub one_more : (es : List (A × V)) → items v ≡ parts_in (lookup (same a) es) ++ e ∷ [] → as_shares (insert_entry same es a v) ≡ with_part same a e (as_shares es)
    one_more [] is = ap (λ ps. record { annotation = a; parts = ps } ∷ []) is
    one_more (x ∷ es) is = one_more_by (same a x.0) x es (insert_entry same es a v) (with_part same a e (as_shares es)) is (one_more es)

  unwrapped : (o : Option V) (d : V) → items d ≡ [] → items (unwrap_or o d) ≡ parts_in o
  unwrapped None d h = h
  unwrapped (Some v) d h = refl

  -- the parts so far are taken out, and put back with one more
  pub put_back : (a : A) → same a a ≡ true → (e : Tree) (es : List (A × V)) (so_far : Option V) (none gap v : V) (k l : A) → k ≡ a → l ≡ a
      → items none ≡ [] → so_far ≡ lookup (same k) es → items v ≡ items (unwrap_or so_far none) ++ e ∷ []
      → (es_with es_new : List (A × V)) → es_with ≡ insert_entry same es k gap → es_new ≡ insert_entry same es_with l v
      → as_shares es_new ≡ with_part same a e (as_shares es)
  put_back a own e es so_far none gap v k l is_k is_l is_none found is_v es_with es_new is_with is_new =
      let held = found ∙ ap (λ j. lookup (same j) es) is_k in
      let all = is_v ∙ ap (λ ps. ps ++ e ∷ []) (unwrapped so_far none is_none ∙ ap parts_in held) in
      let first = is_with ∙ ap (λ j. insert_entry same es j gap) is_k in
      ap as_shares (is_new ∙ ap (λ j. insert_entry same es_with j v) is_l ∙ ap (λ xs. insert_entry same xs a v) first ∙ again a own es gap v)
      ∙ one_more a e v es all

-- ---- names

module _ (text : Bytes) where
  pub as_many_names : (n : ℕ) (parts : List Tree) → length (part_names text n parts) ≡ length parts
  as_many_names n [] = refl
  as_many_names n (e ∷ es) = ap suc (as_many_names (suc n) es)

  module _ (parts : List Tree) (i : ℕ) (all names : List Bytes) (so_far : all ≡ names ++ part_names text i (drop i parts)) where
    pub next_name : (names_with : List Bytes) → i < length parts → names_with ≡ names ++ part_name text i ∷ [] → all ≡ names_with ++ part_names text (i + 1) (drop (i + 1) parts)
    next_name names_with within is =
        so_far ∙ ap (λ es. names ++ part_names text i es) (drop_more parts i root within)
        ∙ ap (λ k. names ++ part_name text i ∷ part_names text k (drop (i + 1) parts)) (sym (add-one i))
        ∙ sym (append_assoc names (part_name text i ∷ []) (part_names text (i + 1) (drop (i + 1) parts)))
        ∙ ap (λ ns. ns ++ part_names text (i + 1) (drop (i + 1) parts)) (sym is)

    pub all_named : length parts ≤ i → names ≡ all
    all_named past = sym (so_far ∙ ap (λ es. names ++ part_names text i es) (drop_all i parts past) ∙ append-nil names)
