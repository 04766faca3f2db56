-- What is made of an expression goes by its children, and what a loop over these, or the walk, collects.
use Rattle.std.proofs.Common.{◌≡◌, ℕ, zero, suc, ◌+◌, ◌≤◌, ◌==◌, true, List, [], ◌∷◌, ◌++◌, length, take, drop, Option, Some, None, Ok, Err, Result, inl, inr, refl, sym, ap, subst, ◌∙◌, append_assoc, append-nil, arith, true≢false}
use Rattle.std.specs.Prelude.{unwrap_or, is_none}
use Rattle.std.specs.List.{list_all, slice_get}
use Rattle.std.specs.Cmp.{unsigned_Decides}
use Rattle.std.proofs.lemmas.Option.{same_Some, none-some, slice_get_within, get_or_from_slice_get}
use Rattle.std.proofs.lemmas.List.{drop_all, drop_more, take_more, take_all}
use Rattle.vx_expr.specs.Trees.{Tree, root, literal, get_item, binary, not_of, is_null_of, like, between, cast, list_contains, pack, merge, select, dynamic, Trees, no_trees, tree, trees_of, listed, children_of}
use Rattle.vx_expr.specs.Children.{where_so}
use Rattle.vx_expr.proofs.ChildrenLemmas.{with_own_children}
use Rattle.vx_traversal.specs.declared.errors.WalkError.{WalkError}
use Rattle.vx_traversal.specs.declared.errors.WalkError.TheVariants.{Visit}
use Rattle.vx_traversal.specs.Expressions.{node_height, IsWithChildren}
use Rattle.vx_traversal.specs.UpSteps.{in_place, OfAnswer, IsOver, MakesInTurn, MakesOver, MakesNode, MakesUp}
use Rattle.vx_traversal.proofs.UpStepLemmas.{made-so}
use Rattle.vx_semantics.specs.Typing.{Refusal, and_then}
use Rattle.vx_passes.specs.Rebuilding.{rebuilt, all_rebuilt}
use Rattle.vx_transform.specs.declared.errors.TransformError.{TransformError}
use Rattle.vx_transform.specs.declared.errors.TransformError.TheVariants.{NoMemory, UnknownField, NotStruct, NullableSelect, TypeMismatch}
use Rattle.vx_transform.specs.TransformAnswers.{Refuses, AnswersBy, AnswersTree}
use Rattle.vx_transform.specs.Rebuilds.{each, or_same, all_or_same, with_these, children_rebuilt}

-- a refusal is handed on by what comes after it
pub handed_on : {A B : Type 0} (told : Result A Refusal) (next : A → Result B Refusal) (e : TransformError) → Refuses told e → Refuses (and_then told next) e
handed_on told next NoMemory h = tt
handed_on told next UnknownField h = ap (λ r. and_then r next) h
handed_on told next NotStruct h = ap (λ r. and_then r next) h
handed_on told next NullableSelect h = ap (λ r. and_then r next) h
handed_on told next TypeMismatch h = ap (λ r. and_then r next) h

-- ---- what a rule gives each of a list

-- as many as the list has, where none is refused
abbrev pub HasLength : {B : Type 0} → Result (List B) Refusal → ℕ → Type 0
HasLength (Ok ys) n = length ys ≡ n
HasLength (Err r) n = Unit {0}

longer : {B : Type 0} (r : Result B Refusal) (rs : Result (List B) Refusal) (n : ℕ) → HasLength rs n
    → HasLength (and_then r (λ y. and_then rs (λ ys. Ok (y ∷ ys)))) (suc n)
longer (Ok y) (Ok ys) n h = ap suc h
longer (Ok y) (Err e) n h = tt
longer (Err e) rs n h = tt

pub each_length : {A B : Type 0} (rule : A → Result B Refusal) (xs : List A) → HasLength (each rule xs) (length xs)
each_length rule [] = refl
each_length rule (x ∷ xs) = longer (rule x) (each rule xs) (length xs) (each_length rule xs)

-- what was collected, before what is left
abbrev pub before : {B : Type 0} → List B → Result (List B) Refusal → Result (List B) Refusal
before ys left = and_then left (λ zs. Ok (ys ++ zs))

one_more : {B : Type 0} (ys : List B) (y : B) (left : Result (List B) Refusal) → before ys (and_then left (λ zs. Ok (y ∷ zs))) ≡ before (ys ++ y ∷ []) left
one_more ys y (Ok zs) = ap Ok (sym (append_assoc ys (y ∷ []) zs))
one_more ys y (Err r) = refl

-- before anything is collected all is left
pub none_yet : {B : Type 0} (left : Result (List B) Refusal) → left ≡ before [] left
none_yet (Ok zs) = refl
none_yet (Err r) = refl

pub left_step : {A : Type 0} (xs : List A) (i : ℕ) (x : A) → slice_get xs i ≡ Some x → drop i xs ≡ x ∷ drop (i + 1) xs
left_step xs i x at = drop_more xs i x (slice_get_within xs i x at) ∙ ap (λ y. y ∷ drop (i + 1) xs) (get_or_from_slice_get xs i x x at)

pub taken_step : {A : Type 0} (xs : List A) (i : ℕ) (x : A) → slice_get xs i ≡ Some x → take (i + 1) xs ≡ take i xs ++ x ∷ []
taken_step xs i x at = take_more xs i x (slice_get_within xs i x at) ∙ ap (λ y. take i xs ++ y ∷ []) (get_or_from_slice_get xs i x x at)

module _ {A B : Type 0} (rule : A → Result B Refusal) (xs : List A) (i : ℕ) (ys : List B) (so_far : each rule xs ≡ before ys (each rule (drop i xs))) where
  -- what the rule gives the element at the place is collected
  pub goes_on : (x : A) (y : B) (ys_with : List B) → slice_get xs i ≡ Some x → rule x ≡ Ok y → ys_with ≡ ys ++ y ∷ [] → each rule xs ≡ before ys_with (each rule (drop (i + 1) xs))
  goes_on x y ys_with at given is =
      let left = each rule (drop (i + 1) xs) in
      so_far ∙ ap (λ zs. before ys (each rule zs)) (left_step xs i x at)
      ∙ ap (λ o. before ys (and_then o (λ z. and_then left (λ zs. Ok (z ∷ zs))))) given
      ∙ one_more ys y left ∙ ap (λ zs. before zs left) (sym is)

  -- where an element is refused the list is
  stops : (x : A) (r : Refusal) → slice_get xs i ≡ Some x → rule x ≡ Err r → each rule xs ≡ Err r
  stops x r at refused =
      so_far ∙ ap (λ zs. before ys (each rule zs)) (left_step xs i x at)
      ∙ ap (λ o. before ys (and_then o (λ z. and_then (each rule (drop (i + 1) xs)) (λ zs. Ok (z ∷ zs))))) refused

  -- past the last element all are collected
  pub ends : length xs ≤ i → each rule xs ≡ Ok ys
  ends past = so_far ∙ ap (λ zs. before ys (each rule zs)) (drop_all i xs past) ∙ ap Ok (append-nil ys)

  pub stops_by : (x : A) (e : TransformError) → slice_get xs i ≡ Some x → Refuses (rule x) e → Refuses (each rule xs) e
  stops_by x NoMemory at h = tt
  stops_by x UnknownField at h = stops x _ at h
  stops_by x NotStruct at h = stops x _ at h
  stops_by x NullableSelect at h = stops x _ at h
  stops_by x TypeMismatch at h = stops x _ at h

-- ---- a node with other children

-- with its own children a node is as it was
pub with_own : (e : Tree) → with_these e (children_of e) ≡ e
with_own e = ap (λ o. unwrap_or o e) (with_own_children e)

pub with_as_many : (m n : ℕ) (made other : Tree) → m ≡ n → unwrap_or (where_so (m == n) made) other ≡ made
with_as_many m n made other e = ap (λ b. unwrap_or (where_so b made) other) ((unsigned_Decides m n).1 e)

-- ---- the recursion by the children

module _ (step : Tree → Result Tree Refusal) where
  -- the step at the node with the children that the list gives
  abbrev then_step : (List Tree → Tree) → Result (List Tree) Refusal → Result Tree Refusal
  then_step node r = and_then (and_then r (λ cs. Ok (node cs))) step

  one : (node : List Tree → Tree) (r : Result Tree Refusal)
      → and_then r (λ a. step (node (a ∷ []))) ≡ then_step node (and_then r (λ a. and_then (Ok []) (λ ds. Ok (a ∷ ds))))
  one node (Ok a) = refl
  one node (Err e) = refl

  two : (node : List Tree → Tree) (r q : Result Tree Refusal)
      → and_then r (λ a. and_then q (λ b. step (node (a ∷ b ∷ []))))
      ≡ then_step node (and_then r (λ a. and_then (and_then q (λ b. and_then (Ok []) (λ ds. Ok (b ∷ ds)))) (λ ds. Ok (a ∷ ds))))
  two node (Ok a) (Ok b) = refl
  two node (Ok a) (Err e) = refl
  two node (Err e) q = refl

  three : (node : List Tree → Tree) (r q p : Result Tree Refusal)
      → and_then r (λ a. and_then q (λ b. and_then p (λ c. step (node (a ∷ b ∷ c ∷ [])))))
      ≡ then_step node (and_then r (λ a. and_then (and_then q (λ b. and_then (and_then p (λ c. and_then (Ok []) (λ ds. Ok (c ∷ ds)))) (λ ds. Ok (b ∷ ds)))) (λ ds. Ok (a ∷ ds))))
  three node (Ok a) (Ok b) (Ok c) = refl
  three node (Ok a) (Ok b) (Err e) = refl
  three node (Ok a) (Err e) p = refl
  three node (Err e) q p = refl

  listed_more : (r : Result Tree Refusal) (rs : Result (List Tree) Refusal)
      → and_then r (λ d. and_then (and_then rs (λ ds. Ok (trees_of ds))) (λ ds. Ok (tree d ds)))
      ≡ and_then (and_then r (λ d. and_then rs (λ ds. Ok (d ∷ ds)))) (λ ds. Ok (trees_of ds))
  listed_more (Ok d) (Ok ds) = refl
  listed_more (Ok d) (Err e) = refl
  listed_more (Err e) rs = refl

  all_is_each : (es : Trees) → all_rebuilt step es ≡ and_then (each (rebuilt step) (listed es)) (λ ds. Ok (trees_of ds))
  unfolding rebuilt
  all_is_each no_trees = refl
  all_is_each (tree e es) =
      ap (λ r. and_then (rebuilt step e) (λ d. and_then r (λ ds. Ok (tree d ds)))) (all_is_each es)
      ∙ listed_more (rebuilt step e) (each (rebuilt step) (listed es))

  many : (node : Trees → Tree) (other : Tree) (n : ℕ) (r : Result (List Tree) Refusal) → HasLength r n
      → and_then (and_then r (λ ds. Ok (trees_of ds))) (λ ds. step (node ds))
      ≡ then_step (λ cs. unwrap_or (where_so (length cs == n) (node (trees_of cs))) other) r
  many node other n (Ok ds) h = ap step (sym (with_as_many (length ds) n (node (trees_of ds)) other h))
  many node other n (Err e) h = refl

  -- first the children are made, then the node with these
  pub by_children : (e : Tree) → rebuilt step e ≡ and_then (children_rebuilt step e) step
  unfolding rebuilt
  by_children root = refl
  by_children (literal s) = refl
  by_children (get_item f e) = one (with_these (get_item f e)) (rebuilt step e)
  by_children (binary l op r) = two (with_these (binary l op r)) (rebuilt step l) (rebuilt step r)
  by_children (not_of e) = one (with_these (not_of e)) (rebuilt step e)
  by_children (is_null_of e) = one (with_these (is_null_of e)) (rebuilt step e)
  by_children (like e p negated fold_case) = two (with_these (like e p negated fold_case)) (rebuilt step e) (rebuilt step p)
  by_children (between e lower upper options) = three (with_these (between e lower upper options)) (rebuilt step e) (rebuilt step lower) (rebuilt step upper)
  by_children (cast e t) = one (with_these (cast e t)) (rebuilt step e)
  by_children (list_contains l v) = two (with_these (list_contains l v)) (rebuilt step l) (rebuilt step v)
  by_children (pack names es n) =
      ap (λ r. and_then r (λ ds. step (pack names ds n))) (all_is_each es)
      ∙ many (λ ds. pack names ds n) (pack names es n) (length (listed es)) (each (rebuilt step) (listed es)) (each_length (rebuilt step) (listed es))
  by_children (merge es n) =
      ap (λ r. and_then r (λ ds. step (merge ds n))) (all_is_each es)
      ∙ many (λ ds. merge ds n) (merge es n) (length (listed es)) (each (rebuilt step) (listed es)) (each_length (rebuilt step) (listed es))
  by_children (select s e) = one (with_these (select s e)) (rebuilt step e)
  by_children (dynamic e op k t default) = one (with_these (dynamic e op k t default)) (rebuilt step e)

-- ---- a node over what its children became

-- where nothing was made of any all stay
pub none_made : (es : List Tree) (made : List (Option Tree)) → list_all is_none made ≡ true → all_or_same es made ≡ es
none_made [] made h = refl
none_made (e ∷ es) [] h = refl
none_made (e ∷ es) (None ∷ made) h = ap (λ ds. e ∷ ds) (none_made es made h)
none_made (e ∷ es) (Some d ∷ made) h = absurd (true≢false (sym h))

pub as_many_or_same : (es : List Tree) (made : List (Option Tree)) → length (all_or_same es made) ≡ length es
as_many_or_same [] made = refl
as_many_or_same (e ∷ es) [] = refl
as_many_or_same (e ∷ es) (m ∷ made) = ap suc (as_many_or_same es made)

or_same_at : (es : List Tree) (made : List (Option Tree)) (i : ℕ) (c : Tree) (m : Option Tree) → slice_get es i ≡ Some c → slice_get made i ≡ Some m
    → slice_get (all_or_same es made) i ≡ Some (or_same c m)
or_same_at [] made i c m at given = absurd (none-some c at)
or_same_at (e ∷ es) [] i c m at given = absurd (none-some m given)
or_same_at (e ∷ es) (n ∷ made) zero c m at given = λ k. Some (or_same (same_Some e c at k) (same_Some n m given k))
or_same_at (e ∷ es) (n ∷ made) (suc i) c m at given = or_same_at es made i c m at given

-- a child more is collected
pub one_more_made : (es : List Tree) (made : List (Option Tree)) (i : ℕ) (c : Tree) (m : Option Tree) (items more : List Tree) → slice_get es i ≡ Some c → slice_get made i ≡ Some m
    → items ≡ take i (all_or_same es made) → more ≡ items ++ or_same c m ∷ [] → more ≡ take (i + 1) (all_or_same es made)
one_more_made es made i c m items more at given so_far is =
    is ∙ ap (λ ds. ds ++ or_same c m ∷ []) so_far ∙ sym (taken_step (all_or_same es made) i (or_same c m) (or_same_at es made i c m at given))

pub all_made : (es : List Tree) (made : List (Option Tree)) (i : ℕ) (items : List Tree) → items ≡ take i (all_or_same es made) → length es ≤ i → items ≡ all_or_same es made
all_made es made i items so_far past = so_far ∙ take_all i (all_or_same es made) (omega (arith, as_many_or_same es made, past))

-- ---- the walk from the leaves up

-- what stands in the place of a node is what the step gives
pub made_in_place : (e : Tree) (told : Result Tree Refusal) (made : Result (Option Tree) TransformError) → AnswersBy (or_same e) told made → AnswersTree told (in_place e made)
made_in_place e told (Ok m) h = h
made_in_place e told (Err r) h = h

pub is_with_these : (e : Tree) (ds : List Tree) (over : Tree) → IsOver children_of IsWithChildren e ds over → with_these e ds ≡ over
is_with_these e ds over (inl own) = ap (with_these e) own.0 ∙ with_own e ∙ sym own.1
is_with_these e ds over (inr is) = ap (λ o. unwrap_or o e) is

and_then_same : {A B C : Type 0} (r : Result A Refusal) (first : A → B) (next : B → Result C Refusal) → and_then (and_then r (λ a. Ok (first a))) next ≡ and_then r (λ a. next (first a))
and_then_same (Ok a) first next = refl
and_then_same (Err r) first next = refl

module _ (step : Tree → Result Tree Refusal) where
  abbrev Gives : Tree → Result Tree TransformError → Type 0
  Gives e made = AnswersTree (step e) made

  abbrev GivesRebuilt : Tree → Result Tree TransformError → Type 0
  GivesRebuilt e made = AnswersTree (rebuilt step e) made

  module _ (e : Tree) where
    -- the step at the node over what was made of the children before, and what is made of these
    abbrev over_these : List Tree → List Tree → Result Tree Refusal
    over_these made cs = and_then (each (rebuilt step) cs) (λ ds. step (with_these e (made ++ ds)))

    first_refused : (c : Tree) (cs made : List Tree) (r : TransformError) → Refuses (rebuilt step c) r → Refuses (over_these made (c ∷ cs)) r
    first_refused c cs made r h =
        handed_on (each (rebuilt step) (c ∷ cs)) (λ ds. step (with_these e (made ++ ds))) r
        (handed_on (rebuilt step c) (λ d. and_then (each (rebuilt step) cs) (λ ds. Ok (d ∷ ds))) r h)

    first_made : (c d : Tree) (cs made : List Tree) → rebuilt step c ≡ Ok d → over_these made (c ∷ cs) ≡ over_these (made ++ d ∷ []) cs
    first_made c d cs made h =
        ap (λ r. and_then (and_then r (λ z. and_then (each (rebuilt step) cs) (λ ds. Ok (z ∷ ds)))) (λ ds. step (with_these e (made ++ ds)))) h
        ∙ and_then_same (each (rebuilt step) cs) (λ ds. d ∷ ds) (λ ds. step (with_these e (made ++ ds)))
        ∙ ap (λ next. and_then (each (rebuilt step) cs) next) (λ i ds. step (with_these e (sym (append_assoc made (d ∷ []) ds) i)))

    in_turn : (cs made : List Tree) (r : Result Tree TransformError) → MakesInTurn GivesRebuilt (MakesOver children_of IsWithChildren Gives e) made cs r → AnswersTree (over_these made cs) r
    in_turn [] made r (over, is, gives) = subst (λ d. AnswersTree (step d) r) (sym (ap (with_these e) (append-nil made) ∙ is_with_these e made over is)) gives
    in_turn (c ∷ cs) made r (Err t, h, is) = subst (AnswersTree (over_these made (c ∷ cs))) (sym is) (first_refused c cs made t h)
    in_turn (c ∷ cs) made r (Ok d, h, rest) = subst (λ told. AnswersTree told r) (sym (first_made c d cs made h)) (in_turn cs (made ++ d ∷ []) r rest)

    node_made : (r : Result Tree TransformError) → MakesNode children_of IsWithChildren Gives GivesRebuilt e r → GivesRebuilt e r
    node_made r w =
        subst (λ told. AnswersTree told r) (sym (by_children step e ∙ and_then_same (each (rebuilt step) (children_of e)) (with_these e) step)) (in_turn (children_of e) [] r w)

  -- what the walk makes of an expression is the expression rebuilt
  pub made_up : (e : Tree) (made : Result Tree TransformError) → MakesUp children_of IsWithChildren Gives node_height e made → AnswersTree (rebuilt step e) made
  made_up e made w = made-so children_of IsWithChildren Gives GivesRebuilt node_made node_height e made w

  -- what it refuses is refused
  pub refused_up : (e : Tree) (w : WalkError TransformError) (r : TransformError) → w ≡ Visit r → OfAnswer (MakesUp children_of IsWithChildren Gives node_height e) (Err w) → Refuses (rebuilt step e) r
  refused_up e w r is h = made_up e (Err r) (subst (λ (v : WalkError TransformError). OfAnswer (MakesUp children_of IsWithChildren Gives node_height e) (Err v)) is h)
