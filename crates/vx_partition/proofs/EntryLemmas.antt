-- The entries of a map of annotations: one that is looked up, and one that gets annotations; and sets that are joined.
use Rattle.std.proofs.Common.{◌≡◌, ℕ, ◌+◌, ◌<◌, ◌≤◌, nat_eq, Bool, true, false, ◌||◌, cond, List, [], ◌∷◌, ◌++◌, length, map, drop, take, Option, Some, option_map, refl, ap, sym, subst, ◌∙◌, true≢false}
use Rattle.std.specs.Prelude.{unwrap_or, Decides}
use Rattle.std.specs.Cmp.{unsigned_Decides}
use Rattle.std.specs.HashSet.{HashSet, contains}
use Rattle.std.specs.List.{list_any, slice_get, flat_map}
use Rattle.std.specs.Map.{lookup}
use Rattle.std.proofs.Math.ListN.{get_or}
use Rattle.std.proofs.lemmas.List.{drop_all, drop_more, take_more}
use Rattle.std.proofs.lemmas.List.Folds.{list_any-append}
use Rattle.std.proofs.lemmas.Option.{same_Some}
use Rattle.indexmap.specs.IndexMap.{insert_entry}
use Rattle.vx_expr.specs.Children.{one_of}
use Rattle.vx_expr.specs.Equal.{tree_eq}
use Rattle.vx_expr.specs.EqualLaws.{tree_decides}
use Rattle.vx_expr.specs.Trees.{Tree}
use Rattle.vx_passes.specs.Annotating.{Entry, entry_of, joined_sets, with_annotations}
use Rattle.vx_partition.specs.Entries.{held_at, HasAnnotations, AreAtNumbers, IsSound, Extends, numbered_entries}
use Rattle.vx_partition.specs.Numbering.{known, AreNumbersOf, IsNumbering, KeepsNumbers, Grows}
use Rattle.vx_partition.specs.declared.numbered.Annotated.{Annotated}
use Rattle.vx_partition.specs.declared.numbered.NumberedAnnotations.{NumberedAnnotations}

-- tests of facts that follow from one another answer alike
pub alike : (P Q : Type 0) (b c : Bool) → Decides b P → Decides c Q → (P → Q) → (Q → P) → b ≡ c
alike P Q true true p q to from = refl
alike P Q true false p q to from = absurd (true≢false (sym (q.1 (to (p.0 refl)))))
alike P Q false true p q to from = absurd (true≢false (sym (p.1 (from (q.0 refl)))))
alike P Q false false p q to from = refl

module _ {A : Type 0} where
  -- the entries as a map sees them
  abbrev pub as_entries : List (ℕ × Annotated A) → List (Entry A)
  as_entries es = map (λ x. record { expression = x.1.expr; annotations = x.1.annotations.items }) es

  -- the test by a number is at each entry the test by the expression
  abbrev pub SameTest : ℕ → Tree → List (ℕ × Annotated A) → Type 0
  SameTest n e [] = Unit {0}
  SameTest n e (x ∷ es) = (nat_eq n x.0 ≡ tree_eq e x.1.expr) × SameTest n e es

  module _ (known : List Tree) (once : (m n : ℕ) (e : Tree) → slice_get known m ≡ Some e → slice_get known n ≡ Some e → m ≡ n)
      (n : ℕ) (e : Tree) (at : slice_get known n ≡ Some e) where
    pub same_test : (es : List (ℕ × Annotated A)) → AreAtNumbers known es → SameTest n e es
    same_test [] h = tt
    same_test (x ∷ es) h = (
      alike (n ≡ x.0) (e ≡ x.1.expr) (nat_eq n x.0) (tree_eq e x.1.expr) (unsigned_Decides n x.0) (tree_decides e x.1.expr)
          (λ is. same_Some e x.1.expr (sym at ∙ ap (slice_get known) is ∙ h.0)) (λ is. once n x.0 e at (h.0 ∙ ap Some (sym is))),
      same_test es h.1,
    )

  held_where : (b : Bool) (x : Annotated A) (o : Option (Annotated A)) (more : List A)
      → unwrap_or (option_map (λ y. y.annotations.items) o) [] ≡ more
      → unwrap_or (option_map (λ y. y.annotations.items) (cond b (Some x) o)) [] ≡ cond b x.annotations.items more
  held_where true x o more h = refl
  held_where false x o more h = h

  held_is : (n : ℕ) (e : Tree) (es : List (ℕ × Annotated A)) → SameTest n e es → held_at n es ≡ entry_of e (as_entries es)
  held_is n e [] h = refl
  held_is n e (x ∷ es) h =
      held_where (nat_eq n x.0) x.1 (lookup (nat_eq n) es) (entry_of e (as_entries es)) (held_is n e es h.1)
      ∙ ap (λ b. cond b x.1.annotations.items (entry_of e (as_entries es))) h.0

  module _ (same : A → A → Bool) (n : ℕ) (ys : List A) (v : Annotated A) where
    here : (b : Bool) (x : ℕ × Annotated A) (es with_v : List (ℕ × Annotated A)) (rest : List (Entry A))
        → (b ≡ true → v.expr ≡ x.1.expr)
        → v.annotations.items ≡ joined_sets same (cond b x.1.annotations.items (entry_of v.expr (as_entries es))) ys
        → (v.annotations.items ≡ joined_sets same (entry_of v.expr (as_entries es)) ys → as_entries with_v ≡ rest)
        → as_entries (cond b ((x.0, v) ∷ es) (x ∷ with_v))
        ≡ cond b (record { expression = x.1.expr; annotations = joined_sets same x.1.annotations.items ys } ∷ as_entries es)
        (record { expression = x.1.expr; annotations = x.1.annotations.items } ∷ rest)
    here true x es with_v rest is joined next = λ i. record { expression = is refl i; annotations = joined i } ∷ as_entries es
    here false x es with_v rest is joined next = ap (λ zs. record { expression = x.1.expr; annotations = x.1.annotations.items } ∷ zs) (next joined)

    -- the entry with what it held, joined with more
    added_to : (es : List (ℕ × Annotated A)) → SameTest n v.expr es → v.annotations.items ≡ joined_sets same (entry_of v.expr (as_entries es)) ys
        → as_entries (insert_entry nat_eq es n v) ≡ with_annotations same v.expr ys (as_entries es)
    added_to [] h joined = ap (λ zs. record { expression = v.expr; annotations = zs } ∷ []) joined
    added_to (x ∷ es) h joined =
        ap (λ b. as_entries (cond b ((x.0, v) ∷ es) (x ∷ insert_entry nat_eq es n v))) h.0
        ∙ here (tree_eq v.expr x.1.expr) x es (insert_entry nat_eq es n v) (with_annotations same v.expr ys (as_entries es)) (tree_decides v.expr x.1.expr).0 joined
        (added_to es h.1)

  at_where : (known : List Tree) (b : Bool) (x : ℕ × Annotated A) (v : Annotated A) (es with_v : List (ℕ × Annotated A))
      → (b ≡ true → slice_get known x.0 ≡ Some v.expr) → AreAtNumbers known (x ∷ es) → AreAtNumbers known with_v
      → AreAtNumbers known (cond b ((x.0, v) ∷ es) (x ∷ with_v))
  at_where known true x v es with_v is h next = (is refl, h.1)
  at_where known false x v es with_v is h next = (h.0, next)

  -- entries stay at their numbers where one is made or changed
  still_at : (known : List Tree) (n : ℕ) (v : Annotated A) (es : List (ℕ × Annotated A)) → slice_get known n ≡ Some v.expr → AreAtNumbers known es
      → AreAtNumbers known (insert_entry nat_eq es n v)
  still_at known n v [] at h = (at, tt)
  still_at known n v (x ∷ es) at h =
      at_where known (nat_eq n x.0) x v es (insert_entry nat_eq es n v) (λ b. ap (slice_get known) (sym ((unsigned_Decides n x.0).0 b)) ∙ at) h
      (still_at known n v es at h.1)

  kept_at : (old new : List Tree) → KeepsNumbers old new → (es : List (ℕ × Annotated A)) → AreAtNumbers old es → AreAtNumbers new es
  kept_at old new kept [] h = tt
  kept_at old new kept (x ∷ es) h = (kept x.0 x.1.expr h.0, kept_at old new kept es h.1)

  -- ---- sound maps

  -- what the entry at an expression's number holds is what the expression's entry holds
  pub held_entry : (m : NumberedAnnotations A) → IsSound m → (n : ℕ) (e : Tree) → slice_get (known m.numbers) n ≡ Some e
      → held_at n m.entries.entries ≡ entry_of e (numbered_entries m)
  held_entry m sound n e at =
      held_is n e m.entries.entries (same_test (known m.numbers) sound.numbering.once n e at m.entries.entries sound.entries)

  pub only_held : (m : NumberedAnnotations A) → IsSound m → (n : ℕ) (e : Tree) → slice_get (known m.numbers) n ≡ Some e → (o : Option A)
      → o ≡ one_of (held_at n m.entries.entries) → o ≡ one_of (entry_of e (numbered_entries m))
  only_held m sound n e at o is = is ∙ ap one_of (held_entry m sound n e at)

  -- the same of several, one after another
  held_entries : (m : NumberedAnnotations A) → IsSound m → (ns : List ℕ) (es : List Tree) → AreNumbersOf (known m.numbers) ns es
      → flat_map (λ n. held_at n m.entries.entries) ns ≡ flat_map (λ e. entry_of e (numbered_entries m)) es
  held_entries m sound [] [] h = refl
  held_entries m sound [] (e ∷ es) h = absurd h
  held_entries m sound (n ∷ ns) [] h = absurd h
  held_entries m sound (n ∷ ns) (e ∷ es) h = λ i. held_entry m sound n e h.0 i ++ held_entries m sound ns es h.1 i

  pub held_below : (m : NumberedAnnotations A) → IsSound m → (ns : List ℕ) (es : List Tree) → AreNumbersOf (known m.numbers) ns es → (held : List A)
      → held ≡ flat_map (λ n. held_at n m.entries.entries) ns → held ≡ flat_map (λ e. entry_of e (numbered_entries m)) es
  held_below m sound ns es h held is = is ∙ held_entries m sound ns es h

  -- the map with more annotations at an expression
  module _ (same : A → A → Bool) (old : NumberedAnnotations A) (sound : IsSound old) (n : ℕ) (e : Tree) (at : slice_get (known old.numbers) n ≡ Some e)
      (v : Annotated A) (is : v.expr ≡ e) (ys : List A) (joined : v.annotations.items ≡ joined_sets same (held_at n old.entries.entries) ys)
      (new : List (ℕ × Annotated A)) (inserted : new ≡ insert_entry nat_eq old.entries.entries n v) where
    at_v : slice_get (known old.numbers) n ≡ Some v.expr
    at_v = at ∙ ap Some (sym is)

    pub entry_added : as_entries new ≡ with_annotations same e ys (numbered_entries old)
    entry_added =
        ap as_entries inserted
        ∙ added_to same n ys v old.entries.entries (same_test (known old.numbers) sound.numbering.once n v.expr at_v old.entries.entries sound.entries)
        (joined ∙ ap (λ xs. joined_sets same xs ys) (held_entry old sound n v.expr at_v))
        ∙ ap (λ d. with_annotations same d ys (numbered_entries old)) is

    pub entries_at : AreAtNumbers (known old.numbers) new
    entries_at =
        subst (AreAtNumbers (known old.numbers)) (sym inserted) (still_at (known old.numbers) n v old.entries.entries at_v sound.entries)

  -- with more numbers a map is sound
  pub sound_with : (old new : NumberedAnnotations A) → IsSound old → Grows old.numbers new.numbers → new.entries.entries ≡ old.entries.entries → Extends old new
  sound_with old new sound grown is =
      record {
        sound =
            record {
              numbering = grown.numbering;
              entries =
                  subst (AreAtNumbers (known new.numbers)) (sym is)
                  (kept_at (known old.numbers) (known new.numbers) grown.kept old.entries.entries sound.entries);
            };
        kept = grown.kept;
      }

  -- with more entries at known numbers a map is sound
  pub extended_with : (old new : NumberedAnnotations A) → IsSound old → new.numbers ≡ old.numbers → AreAtNumbers (known old.numbers) new.entries.entries → Extends old new
  extended_with old new sound is at =
      record {
        sound =
            record {
              numbering = subst (λ m. IsNumbering m.nodes.entries) (sym is) sound.numbering;
              entries = subst (λ m. AreAtNumbers (known m) new.entries.entries) (sym is) at;
            };
        kept = λ n e h. ap (λ m. slice_get (known m) n) is ∙ h;
      }

  pub extends_on : (old mid new : NumberedAnnotations A) → Extends old mid → Extends mid new → Extends old new
  extends_on old mid new first second = record { sound = second.sound; kept = λ n e at. second.kept n e (first.kept n e at) }

-- ---- sets, annotation by annotation

module _ {A : Type 0} (same : A → A → Bool) (all more set : List A) (i : ℕ) (so_far : all ≡ joined_sets same set (drop i more)) where
  module _ (y : A) (within : i < length more) (is : y ≡ get_or more i y) where
    step : (b : Bool) → list_any (same y) set ≡ b
        → all ≡ cond b (joined_sets same set (drop (i + 1) more)) (joined_sets same (set ++ y ∷ []) (drop (i + 1) more))
    step b has =
        so_far ∙ ap (joined_sets same set) (drop_more more i y within ∙ ap (λ z. z ∷ drop (i + 1) more) (sym is))
        ∙ ap (λ c. cond c (joined_sets same set (drop (i + 1) more)) (joined_sets same (set ++ y ∷ []) (drop (i + 1) more))) has

    -- one that the set has is passed over
    pub passed_over : list_any (same y) set ≡ true → all ≡ joined_sets same set (drop (i + 1) more)
    passed_over has = step true has

    -- one that it doesn't have goes last
    pub goes_last : (set_with : List A) → list_any (same y) set ≡ false → set_with ≡ set ++ y ∷ [] → all ≡ joined_sets same set_with (drop (i + 1) more)
    goes_last set_with has is_with = step false has ∙ ap (λ zs. joined_sets same zs (drop (i + 1) more)) (sym is_with)

  -- past the last one the sets are joined
  pub joined : length more ≤ i → set ≡ all
  joined past = sym (so_far ∙ ap (joined_sets same set) (drop_all i more past))

-- ---- sets of annotations by their hash

behind : (a b : Bool) → cond a true b ≡ (b || (a || false))
behind true true = refl
behind true false = refl
behind false true = refl
behind false false = refl

module _ {A S : Type 0} (same : A → A → Bool) (flips : (a b : A) → same a b ≡ same b a) where
  -- with one more that goes last a set has just the annotations and this one
  pub one_more_annotation : (was now : HashSet A S) (set set_with : List A) (y : A) → HasAnnotations same set was
      → ((a : A) → contains same now a ≡ cond (same y a) true (contains same was a)) → set_with ≡ set ++ y ∷ [] → HasAnnotations same set_with now
  one_more_annotation was now set set_with y just put is a =
      put a ∙ ap (λ b. cond b true (contains same was a)) (flips y a) ∙ ap (cond (same a y) true) (just a)
      ∙ behind (same a y) (list_any (same a) set) ∙ sym (list_any-append (same a) set (y ∷ [])) ∙ ap (list_any (same a)) (sym is)

  -- so with those up to a place and the one there a set has those up to the next place
  pub one_more_at : (was now : HashSet A S) (all : List A) (i : ℕ) (y : A) → i < length all → y ≡ get_or all i y → HasAnnotations same (take i all) was
      → ((a : A) → contains same now a ≡ cond (same y a) true (contains same was a)) → HasAnnotations same (take (i + 1) all) now
  one_more_at was now all i y within is just put =
      one_more_annotation was now (take i all) (take (i + 1) all) y just put (take_more all i y within ∙ ap (λ z. take i all ++ z ∷ []) (sym is))

  -- a set that stays as it was has what it had
  pub none_more : (was now : HashSet A S) (set : List A) → now.keys ≡ was.keys → HasAnnotations same set was → HasAnnotations same set now
  none_more was now set is just a = ap (list_any (same a)) is ∙ just a
