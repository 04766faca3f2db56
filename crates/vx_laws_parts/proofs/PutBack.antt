-- An expression without its parts, over a row in which each part stands under its name, has the type of the expression and means the same.
use Rattle.std.proofs.Common.{arith, ◌≡◌, refl, ap, ◌∙◌, Bool, true, false, cond, ◌&&◌, subst, List, [], ◌∷◌, ◌++◌, length, ℕ, suc, ◌+◌, Result, Ok}
use Rattle.std.proofs.lemmas.Bool.{and_parts}
use Rattle.vx_dtype.specs.declared.Nullability.TheVariants.{NonNullable}
use Rattle.vx_dtype.specs.Types.{Bytes, Ty, bool_ty}
use Rattle.vx_dtype.specs.Values.{Val, struct_val}
use Rattle.vx_dtype.specs.Logic.{not3, is_null3}
use Rattle.vx_dtype.specs.Order.{between3}
use Rattle.vx_dtype.specs.Like.{like3}
use Rattle.vx_dtype.specs.Casts.{cast3}
use Rattle.vx_dtype.specs.Lists.{contains3}
use Rattle.vx_dtype.specs.Structs.{field_of}
use Rattle.vx_expr.specs.Trees.{Tree, root, literal, get_item, binary, not_of, is_null_of, like, between, cast, list_contains, pack, merge, select, dynamic, Trees, no_trees, tree}
use Rattle.vx_semantics.specs.Typing.{Refusal, and_then, item_type, select_type, pack_type, merge_type, binary_type, not_type, like_type, between_type, contains_type, cast_type, dynamic_type, typed_of, all_typed, names_in, type_or_empty, given_names}
use Rattle.vx_semantics.specs.Meaning.{Slots, Source, binary3, dynamic3, select3, slot_value, merged, zip_members, mean, meanings, sources}
use Rattle.vx_passes.specs.Annotating.{Entry, entry_of}
use Rattle.vx_passes.specs.Splitting.{Share, Taken, parts_count, with_part, part_access, part_or_below, over_one, over_two, over_three, over_list, taken_from, all_taken_from}
use Rattle.vx_laws_parts.specs.Taking.{part_or, row_in_parts, row_in_parts_of_all}

module _ (t u : Ty) (slots : Slots) (row made : Val) where
  -- an expression over what the parts give stands for one over the row
  pub record Stands (d e : Tree) : Type 0 where
    pub typed : typed_of u d ≡ typed_of t e
    pub means : mean u slots made d ≡ mean t slots row e

  pub record AllStand (ds es : Trees) : Type 0 where
    pub typed : all_typed u ds ≡ all_typed t es
    pub mean_same : meanings u slots made ds ≡ meanings t slots row es
    pub same_sources : sources u slots made ds ≡ sources t slots row es

  -- the parts of one name, from a number on
  abbrev pub PartsStand : Bytes → ℕ → List Tree → Type 0
  PartsStand f i [] = Unit {0}
  PartsStand f i (e ∷ es) = Stands (part_access f i) e × PartsStand f (suc i) es

  one-typed : (d e : Tree) (rule : Ty → Result Ty Refusal) → Stands d e → and_then (typed_of u d) rule ≡ and_then (typed_of t e) rule
  one-typed d e rule x = ap (λ (r : Result Ty Refusal). and_then r rule) x.typed

  two-typed : (d e k l : Tree) (rule : Ty → Ty → Result Ty Refusal) → Stands d e → Stands k l
      → and_then (typed_of u d) (λ a. and_then (typed_of u k) (rule a)) ≡ and_then (typed_of t e) (λ a. and_then (typed_of t l) (rule a))
  two-typed d e k l rule x y =
      ap (λ (r : Result Ty Refusal). and_then r (λ a. and_then (typed_of u k) (rule a))) x.typed
      ∙ ap (λ (r : Result Ty Refusal). and_then (typed_of t e) (λ a. and_then r (rule a))) y.typed

  two-mean : (d e k l : Tree) (rule : Val → Val → Val) → Stands d e → Stands k l
      → rule (mean u slots made d) (mean u slots made k) ≡ rule (mean t slots row e) (mean t slots row l)
  two-mean d e k l rule x y = ap (λ (v : Val). rule v (mean u slots made k)) x.means ∙ ap (rule (mean t slots row e)) y.means

  module _ {A : Type 0} (same : A → A → Bool) (text : A → Bytes) (m : List (Entry A)) where
    abbrev pub SharesStand : List (Share A) → Type 0
    SharesStand [] = Unit {0}
    SharesStand (x ∷ xs) = PartsStand (text x.annotation) 0 x.parts × SharesStand xs

    abbrev pub OneText : Type 0
    OneText = (a b : A) → same a b ≡ true → text b ≡ text a

    parts-last : (f : Bytes) (i n : ℕ) (es : List Tree) (e : Tree) → n ≡ length es + i → PartsStand f i (es ++ e ∷ []) → PartsStand f i es × Stands (part_access f n) e
    parts-last f i n [] e k h = let at : i ≡ n = omega arith in (tt, subst (λ (z : ℕ). Stands (part_access f z) e) at h.0)
    parts-last f i n (d ∷ ds) e k h =
        let r = parts-last f (suc i) n ds e (omega arith) h.1 in
        ((h.0, r.0), r.1)

    part-last : OneText → (a : A) (e : Tree) (ss : List (Share A)) → SharesStand (with_part same a e ss) → SharesStand ss × Stands (part_access (text a) (parts_count same a ss)) e
    part-last o a e [] h = (tt, h.0.0)
    part-last o a e (x ∷ xs) h = by-test (same a x.annotation) refl h (part-last o a e xs)
      where
        by-test : (b : Bool) → same a x.annotation ≡ b → SharesStand (cond b (record { annotation = x.annotation; parts = x.parts ++ e ∷ [] } ∷ xs) (x ∷ with_part same a e xs))
            → (SharesStand (with_part same a e xs) → SharesStand xs × Stands (part_access (text a) (parts_count same a xs)) e)
            → SharesStand (x ∷ xs) × Stands (part_access (text a) (cond b (length x.parts) (parts_count same a xs))) e
        by-test true k h r =
            let p = parts-last (text x.annotation) 0 (length x.parts) x.parts e (omega arith) h.0 in
            ((p.0, h.1), subst (λ (z : Bytes). Stands (part_access z (length x.parts)) e) (o a x.annotation k) p.1)
        by-test false k h r = let p = r h.1 in ((h.0, p.0), p.1)

    -- shares that stood before, and an expression that stands for another where a test passed
    pub record Goes (ss : List (Share A)) (d e : Tree) (test : Bool) : Type 0 where
      pub before : SharesStand ss
      pub stands : test ≡ true → Stands d e

    pub record AllGo (ss : List (Share A)) (ds es : Trees) (test : Bool) : Type 0 where
      pub before : SharesStand ss
      pub stand : test ≡ true → AllStand ds es

    by-entry : OneText → (e : Tree) (xs : List A) (below : List (Share A) → Taken A) (ss : List (Share A)) (test : Bool)
        → (SharesStand (below ss).shares → Goes ss (below ss).expression e test)
        → SharesStand (part_or_below same text e xs below ss).shares → Goes ss (part_or_below same text e xs below ss).expression e (part_or xs test)
    by-entry o e [] below ss test r h = r h
    by-entry o e (a ∷ []) below ss test r h =
        let p = part-last o a e ss h in
        record { before = p.0; stands = λ k. p.1 }
    by-entry o e (a ∷ b ∷ xs) below ss test r h = r h

    one : (ss : List (Share A)) (d e n k : Tree) (test : Bool) → (Stands d e → Stands n k) → Goes ss d e test → Goes ss n k test
    one ss d e n k test node x = record { before = x.before; stands = λ h. node (x.stands h) }

    two : (ss ss' : List (Share A)) (d e k l n o : Tree) (p q : Bool) → (Stands d e → Stands k l → Stands n o) → Goes ss d e p → Goes ss' k l q → Goes ss n o (p && q)
    two ss ss' d e k l n o p q node x y = record { before = x.before; stands = λ h. let b = and_parts p q h in node (x.stands b.0) (y.stands b.1) }

    of-list : (ss : List (Share A)) (ds es : Trees) (n k : Tree) (test : Bool) → (AllStand ds es → Stands n k) → AllGo ss ds es test → Goes ss n k test
    of-list ss ds es n k test node x = record { before = x.before; stands = λ h. node (x.stand h) }

    mutual
      unfolding taken_from row_in_parts typed_of mean

      pub taken-goes : OneText → (e : Tree) (ss : List (Share A)) → SharesStand (taken_from same text m e ss).shares → Goes ss (taken_from same text m e ss).expression e (row_in_parts m e)
      taken-goes o root ss h =
          by-entry o root (entry_of root m) (λ ks. record { expression = root; shares = ks }) ss false (λ k. record { before = k; stands = λ f. let no : ⊥ = cc in absurd no }) h
      taken-goes o (literal s) ss h =
          by-entry o (literal s) (entry_of (literal s) m) (λ ks. record { expression = literal s; shares = ks }) ss true
          (λ k. record { before = k; stands = λ f. record { typed = refl; means = refl } }) h
      taken-goes o (get_item f d) ss h =
          let x = taken_from same text m d ss in
          by-entry o (get_item f d) (entry_of (get_item f d) m) (λ ks. over_one (get_item f) (taken_from same text m d ks)) ss (row_in_parts m d)
          (λ k. one ss x.expression d (get_item f x.expression) (get_item f d) (row_in_parts m d)
          (λ s. record { typed = one-typed x.expression d (item_type f) s; means = ap (field_of f) s.means }) (taken-goes o d ss k)) h
      taken-goes o (binary l op r) ss h =
          let x = taken_from same text m l ss in
          let y = taken_from same text m r x.shares in
          by-entry o (binary l op r) (entry_of (binary l op r) m) (λ ks. over_two (λ a. λ b. binary a op b) (taken_from same text m r) (taken_from same text m l ks)) ss
          (row_in_parts m l && row_in_parts m r)
          (λ k. let second = taken-goes o r x.shares k in
          two ss x.shares x.expression l y.expression r (binary x.expression op y.expression) (binary l op r) (row_in_parts m l) (row_in_parts m r)
          (λ s z. record { typed = two-typed x.expression l y.expression r (binary_type op) s z; means = two-mean x.expression l y.expression r (binary3 op) s z })
          (taken-goes o l ss second.before) second) h
      taken-goes o (not_of d) ss h =
          let x = taken_from same text m d ss in
          by-entry o (not_of d) (entry_of (not_of d) m) (λ ks. over_one not_of (taken_from same text m d ks)) ss (row_in_parts m d)
          (λ k. one ss x.expression d (not_of x.expression) (not_of d) (row_in_parts m d)
          (λ s. record { typed = one-typed x.expression d not_type s; means = ap not3 s.means }) (taken-goes o d ss k)) h
      taken-goes o (is_null_of d) ss h =
          let x = taken_from same text m d ss in
          by-entry o (is_null_of d) (entry_of (is_null_of d) m) (λ ks. over_one is_null_of (taken_from same text m d ks)) ss (row_in_parts m d)
          (λ k. one ss x.expression d (is_null_of x.expression) (is_null_of d) (row_in_parts m d)
          (λ s. record { typed = one-typed x.expression d (λ a. Ok (bool_ty NonNullable)) s; means = ap is_null3 s.means }) (taken-goes o d ss k)) h
      taken-goes o (like d p negated fold_case) ss h =
          let x = taken_from same text m d ss in
          let y = taken_from same text m p x.shares in
          by-entry o (like d p negated fold_case) (entry_of (like d p negated fold_case) m)
          (λ ks. over_two (λ a. λ b. like a b negated fold_case) (taken_from same text m p) (taken_from same text m d ks)) ss (row_in_parts m d && row_in_parts m p)
          (λ k. let second = taken-goes o p x.shares k in
          two ss x.shares x.expression d y.expression p (like x.expression y.expression negated fold_case) (like d p negated fold_case) (row_in_parts m d) (row_in_parts m p)
          (λ s z. record { typed = two-typed x.expression d y.expression p like_type s z; means = two-mean x.expression d y.expression p (like3 negated fold_case) s z })
          (taken-goes o d ss second.before) second) h
      taken-goes o (between d lower upper options) ss h =
          let x = taken_from same text m d ss in
          let y = taken_from same text m lower x.shares in
          let z = taken_from same text m upper y.shares in
          by-entry o (between d lower upper options) (entry_of (between d lower upper options) m)
          (λ ks. over_three (λ a. λ b. λ c. between a b c options) (taken_from same text m lower) (taken_from same text m upper) (taken_from same text m d ks)) ss
          (row_in_parts m d && (row_in_parts m lower && row_in_parts m upper))
          (λ k. let third = taken-goes o upper y.shares k in
          let second = taken-goes o lower x.shares third.before in
          let first = taken-goes o d ss second.before in
          record {
            before = first.before;
            stands = λ c.
                let p = and_parts (row_in_parts m d) (row_in_parts m lower && row_in_parts m upper) c in
                let q = and_parts (row_in_parts m lower) (row_in_parts m upper) p.1 in
                let a = first.stands p.0 in
                let b = second.stands q.0 in
                let e = third.stands q.1 in
                record {
                  typed =
                      ap (λ (r : Result Ty Refusal). and_then r (λ v. and_then (typed_of u y.expression) (λ w. and_then (typed_of u z.expression) (between_type v w)))) a.typed
                      ∙ (ap (λ (r : Result Ty Refusal). and_then (typed_of t d) (λ v. and_then r (λ w. and_then (typed_of u z.expression) (between_type v w)))) b.typed
                      ∙ ap (λ (r : Result Ty Refusal). and_then (typed_of t d) (λ v. and_then (typed_of t lower) (λ w. and_then r (between_type v w)))) e.typed);
                  means =
                      ap (λ (v : Val). between3 options v (mean u slots made y.expression) (mean u slots made z.expression)) a.means
                      ∙ (ap (λ (v : Val). between3 options (mean t slots row d) v (mean u slots made z.expression)) b.means
                      ∙ ap (between3 options (mean t slots row d) (mean t slots row lower)) e.means);
                };
          }) h
      taken-goes o (cast d target) ss h =
          let x = taken_from same text m d ss in
          by-entry o (cast d target) (entry_of (cast d target) m) (λ ks. over_one (λ a. cast a target) (taken_from same text m d ks)) ss (row_in_parts m d)
          (λ k. one ss x.expression d (cast x.expression target) (cast d target) (row_in_parts m d)
          (λ s. record { typed = one-typed x.expression d (cast_type target) s; means = ap (cast3 target) s.means }) (taken-goes o d ss k)) h
      taken-goes o (list_contains l r) ss h =
          let x = taken_from same text m l ss in
          let y = taken_from same text m r x.shares in
          by-entry o (list_contains l r) (entry_of (list_contains l r) m) (λ ks. over_two list_contains (taken_from same text m r) (taken_from same text m l ks)) ss
          (row_in_parts m l && row_in_parts m r)
          (λ k. let second = taken-goes o r x.shares k in
          two ss x.shares x.expression l y.expression r (list_contains x.expression y.expression) (list_contains l r) (row_in_parts m l) (row_in_parts m r)
          (λ s z. record { typed = two-typed x.expression l y.expression r contains_type s z; means = two-mean x.expression l y.expression r contains3 s z })
          (taken-goes o l ss second.before) second) h
      taken-goes o (pack names es n) ss h =
          let x = all_taken_from same text m es ss in
          by-entry o (pack names es n) (entry_of (pack names es n) m) (λ ks. over_list (λ ds. pack names ds n) (all_taken_from same text m es ks)) ss (row_in_parts_of_all m es)
          (λ k. of-list ss x.expressions es (pack names x.expressions n) (pack names es n) (row_in_parts_of_all m es)
          (λ s. record {
            typed = ap (λ (r : Result (List Ty) Refusal). and_then r (pack_type names n)) s.typed;
            means = ap (λ (vs : List Val). struct_val (zip_members names vs)) s.mean_same;
          }) (all_taken-go o es ss k)) h
      taken-goes o (merge es n) ss h =
          let x = all_taken_from same text m es ss in
          by-entry o (merge es n) (entry_of (merge es n) m) (λ ks. over_list (λ ds. merge ds n) (all_taken_from same text m es ks)) ss (row_in_parts_of_all m es)
          (λ k. of-list ss x.expressions es (merge x.expressions n) (merge es n) (row_in_parts_of_all m es)
          (λ s. record {
            typed = ap (λ (r : Result (List Ty) Refusal). and_then r (merge_type n)) s.typed;
            means = ap merged s.same_sources;
          }) (all_taken-go o es ss k)) h
      taken-goes o (select c d) ss h =
          let x = taken_from same text m d ss in
          by-entry o (select c d) (entry_of (select c d) m) (λ ks. over_one (select c) (taken_from same text m d ks)) ss (row_in_parts m d)
          (λ k. one ss x.expression d (select c x.expression) (select c d) (row_in_parts m d)
          (λ s. record { typed = one-typed x.expression d (select_type c) s; means = ap (select3 c) s.means }) (taken-goes o d ss k)) h
      taken-goes o (dynamic d op j slot default) ss h =
          let x = taken_from same text m d ss in
          by-entry o (dynamic d op j slot default) (entry_of (dynamic d op j slot default) m) (λ ks. over_one (λ a. dynamic a op j slot default) (taken_from same text m d ks)) ss
          (row_in_parts m d)
          (λ k. one ss x.expression d (dynamic x.expression op j slot default) (dynamic d op j slot default) (row_in_parts m d)
          (λ s. record {
            typed = one-typed x.expression d (dynamic_type slot) s;
            means = ap (λ (v : Val). dynamic3 op default v (slot_value slots j)) s.means;
          }) (taken-goes o d ss k)) h

      all_taken-go : OneText → (es : Trees) (ss : List (Share A)) → SharesStand (all_taken_from same text m es ss).shares
          → AllGo ss (all_taken_from same text m es ss).expressions es (row_in_parts_of_all m es)
      all_taken-go o no_trees ss h = record { before = h; stand = λ k. record { typed = refl; mean_same = refl; same_sources = refl } }
      all_taken-go o (tree d ds) ss h =
          let x = taken_from same text m d ss in
          let xs = all_taken_from same text m ds x.shares in
          let rest = all_taken-go o ds x.shares h in
          let first = taken-goes o d ss rest.before in
          record {
            before = first.before;
            stand = λ k.
                let p = and_parts (row_in_parts m d) (row_in_parts_of_all m ds) k in
                let a = first.stands p.0 in
                let b = rest.stand p.1 in
                record {
                  typed =
                      ap (λ (r : Result Ty Refusal). and_then r (λ v. and_then (all_typed u xs.expressions) (λ vs. Ok (v ∷ vs)))) a.typed
                      ∙ ap (λ (r : Result (List Ty) Refusal). and_then (typed_of t d) (λ v. and_then r (λ vs. Ok (v ∷ vs)))) b.typed;
                  mean_same =
                      ap (λ (v : Val). v ∷ meanings u slots made xs.expressions) a.means ∙ ap (λ (vs : List Val). mean t slots row d ∷ vs) b.mean_same;
                  same_sources =
                      ap (λ (r : Result Ty Refusal). record { names = names_in (type_or_empty r); whole = mean u slots made x.expression } ∷ sources u slots made xs.expressions) a.typed
                      ∙ (ap (λ (v : Val). record { names = given_names t d; whole = v } ∷ sources u slots made xs.expressions) a.means
                      ∙ ap (λ (vs : List Source). record { names = given_names t d; whole = mean t slots row d } ∷ vs) b.same_sources);
                };
          }
