-- What a step that hangs on the node alone makes of a tree, and that a fold which keeps the first refusal makes it.
use Rattle.std.specs.Prelude.{◌≡◌, ℕ, zero, suc, ◌+◌, ◌<◌, ◌≤◌, List, [], ◌∷◌, ◌++◌, true, Option, Some, None, unwrap_or, is_none, Result, Ok, Err, Contains, slice_get, length, take}
use Rattle.std.specs.List.{list_all}
use Rattle.std.proofs.Common.{refl, sym, ap, subst, ◌∙◌, append_assoc, append-nil, arith, true≢false}
use Rattle.std.proofs.lemmas.Option.{same_Some, none-some, slice_get_within, get_or_from_slice_get}
use Rattle.std.proofs.lemmas.List.{length-append, take_all, take_more}
use Rattle.vx_traversal.specs.declared.up_step.UpSteps.{UpSteps}
use Rattle.vx_traversal.specs.UpSteps.{AfterMade, MakesInTurn, MakesOver, MakesNode, MakesBelow, MakesUp}
use Rattle.vx_traversal.specs.UpFolds.{in_places, Makes, GathersMade, Gathers, MakesTree, GathersTree}
use Rattle.vx_traversal.specs.FoldTurns.{MayTurn}
use Rattle.vx_traversal.proofs.FoldTurnLemmas.{turns}

-- ---- what is made of each node goes by what is made of its children

module _ {N E : Type 0} where
  after_made : (P Q : N → Type 0) (q r : Result N E) → ((d : N) → P d → Q d) → AfterMade P q r → AfterMade Q q r
  after_made P Q (Err e) r f w = w
  after_made P Q (Ok d) r f w = f d w

  MakesInTurn-each : (A B : N → Result N E → Type 0) → ((n : N) (q : Result N E) → A n q → B n q) → (GoesOn : List N → Result N E → Type 0) (ns made : List N) (r : Result N E) →
      MakesInTurn A GoesOn made ns r → MakesInTurn B GoesOn made ns r
  MakesInTurn-each A B f GoesOn [] made r w = w
  MakesInTurn-each A B f GoesOn (n ∷ ns) made r (q, step, rest) = (
    q,
    f n q step,
    after_made (λ d. MakesInTurn A GoesOn (made ++ d ∷ []) ns r) (λ d. MakesInTurn B GoesOn (made ++ d ∷ []) ns r) q r
        (λ d. MakesInTurn-each A B f GoesOn ns (made ++ d ∷ []) r) rest,
  )

  module _ (children : N → List N) (is_with : N → List N → N → Type 0) (Makes : N → Result N E → Type 0) (R : N → Result N E → Type 0)
      (by_children : (n : N) (r : Result N E) → MakesNode children is_with Makes R n r → R n r) where
    made_below : (k : ℕ) (n : N) (r : Result N E) → MakesBelow children is_with Makes k n r → R n r
    made_below zero n r w = absurd w
    made_below (suc k) n r w =
        by_children n r (MakesInTurn-each (MakesBelow children is_with Makes k) R (made_below k) (MakesOver children is_with Makes n) (children n) [] r w)

    -- what is so of a node where it is so of its children is so of what is made of a tree
    pub made-so : (height : N → ℕ) (n : N) (r : Result N E) → MakesUp children is_with Makes height n r → R n r
    made-so height n r w = made_below (suc (height n)) n r w

-- ---- what stands in the places of nodes

pub none_made : {N : Type 0} (ns : List N) (made : List (Option N)) → list_all is_none made ≡ true → in_places ns made ≡ ns
none_made [] made h = refl
none_made (n ∷ ns) [] h = refl
none_made (n ∷ ns) (None ∷ made) h = ap (λ ds. n ∷ ds) (none_made ns made h)
none_made (n ∷ ns) (Some d ∷ made) h = absurd (true≢false (sym h))

pub as_many : {N : Type 0} (ns : List N) (made : List (Option N)) → length (in_places ns made) ≡ length ns
as_many [] made = refl
as_many (n ∷ ns) [] = refl
as_many (n ∷ ns) (m ∷ made) = ap suc (as_many ns made)

in_place_at : {N : Type 0} (ns : List N) (made : List (Option N)) (i : ℕ) (n : N) (m : Option N) → slice_get ns i ≡ Some n → slice_get made i ≡ Some m
    → slice_get (in_places ns made) i ≡ Some (unwrap_or m n)
in_place_at [] made i n m at given = absurd (none-some n at)
in_place_at (d ∷ ns) [] i n m at given = absurd (none-some m given)
in_place_at (d ∷ ns) (k ∷ made) zero n m at given = λ j. Some (unwrap_or (same_Some k m given j) (same_Some d n at j))
in_place_at (d ∷ ns) (k ∷ made) (suc i) n m at given = in_place_at ns made i n m at given

taken_step : {A : Type 0} (xs : List A) (i : ℕ) (x : A) → slice_get xs i ≡ Some x → take (i + 1) xs ≡ take i xs ++ x ∷ []
taken_step xs i x at = take_more xs i x (slice_get_within xs i x at) ∙ ap (λ y. take i xs ++ y ∷ []) (get_or_from_slice_get xs i x x at)

-- one more is collected
pub one_more_made : {N : Type 0} (ns : List N) (made : List (Option N)) (i : ℕ) (n : N) (m : Option N) (items more : List N) → slice_get ns i ≡ Some n → slice_get made i ≡ Some m
    → items ≡ take i (in_places ns made) → more ≡ items ++ unwrap_or m n ∷ [] → more ≡ take (i + 1) (in_places ns made)
one_more_made ns made i n m items more at given so_far is =
    is ∙ ap (λ ds. ds ++ unwrap_or m n ∷ []) so_far ∙ sym (taken_step (in_places ns made) i (unwrap_or m n) (in_place_at ns made i n m at given))

pub all_made : {N : Type 0} (ns : List N) (made : List (Option N)) (i : ℕ) (items : List N) → items ≡ take i (in_places ns made) → length ns ≤ i → items ≡ in_places ns made
all_made ns made i items so_far past = so_far ∙ take_all i (in_places ns made) (omega (arith, as_many ns made, past))

-- behind as many nodes as were made, one more
in_places-more : {N : Type 0} (ns : List N) (made : List (Option N)) (n : N) (m : Option N) → length made ≡ length ns
    → in_places (ns ++ n ∷ []) (made ++ m ∷ []) ≡ in_places ns made ++ unwrap_or m n ∷ []
in_places-more [] [] n m many = refl
in_places-more [] (k ∷ made) n m many = absurd (omega (arith, many))
in_places-more (d ∷ ns) [] n m many = absurd (omega (arith, many))
in_places-more (d ∷ ns) (k ∷ made) n m many = ap (λ ds. unwrap_or k d ∷ ds) (in_places-more ns made n m (omega (arith, many)))

-- ---- the fold

contains-behind : {A : Type 0} (xs ys : List A) (x : A) → Contains (xs ++ x ∷ ys) x
contains-behind [] ys x = (0, omega arith, refl)
contains-behind (y ∷ xs) ys x = let found : Contains (xs ++ x ∷ ys) x = contains-behind xs ys x in (suc found.0, let within : found.0 < length (xs ++ x ∷ ys) = found.1 in omega (arith, within), found.2)

module _ {N E : Type 0} (children : N → List N) (is_with : N → List N → N → Type 0) (Step : N → Result N E → Type 0) where
  -- what is made below a number is made below each larger number
  MakesBelow-more : (j k : ℕ) → j ≤ k → (n : N) (r : Result N E) → MakesBelow children is_with Step j n r → MakesBelow children is_with Step k n r
  MakesBelow-more zero k le n r w = absurd w
  MakesBelow-more (suc j) zero le n r w = absurd (omega arith)
  MakesBelow-more (suc j) (suc k) le n r w =
      MakesInTurn-each (MakesBelow children is_with Step j) (MakesBelow children is_with Step k) (MakesBelow-more j k (omega (arith, le))) (MakesOver children is_with Step n) (children n) [] r w

  module _ (height : N → ℕ) (lower : (n c : N) → Contains (children n) c → height c < height n) where
    -- children from a place on, where these are made: what the rest gives is made of the tree
    abbrev LeftMade : N → List N → List N → List (Option N) → Option E → Type 0
    LeftMade n done rest made (Some e) = MakesUp children is_with Step height n (Err e)
    LeftMade n done rest made None = (length made ≡ length done)
        × ((r : Result N E) → MakesInTurn (MakesBelow children is_with Step (height n)) (MakesOver children is_with Step n) (in_places done made) rest r → MakesUp children is_with Step height n r)

    module _ (n : N) (done : List N) (c : N) (rest : List N) (at : done ++ c ∷ rest ≡ children n) (made : List (Option N)) (m : Option N) where
      below : (r : Result N E) → MakesUp children is_with Step height c r → MakesBelow children is_with Step (height n) c r
      below r w = MakesBelow-more (suc (height c)) (height n) (lower n c (subst (λ cs. Contains cs c) at (contains-behind done rest c))) c r w

      next_left : (before after : Option E) → LeftMade n done (c ∷ rest) made before → Makes children is_with Step height before c m after → LeftMade n (done ++ c ∷ []) rest (made ++ m ∷ []) after
      next_left (Some e) after left is = subst (LeftMade n (done ++ c ∷ []) rest (made ++ m ∷ [])) (sym is) left
      next_left None (Some e) (many, left) is = left (Err e) (Err e, below (Err e) is, refl)
      next_left None None (many, left) is = (
        length-append made (m ∷ []) ∙ ap (λ k. k + 1) many ∙ sym (length-append done (c ∷ [])),
        λ r w. left r (
          Ok (unwrap_or m c),
          below (Ok (unwrap_or m c)) is,
          subst (λ ds. MakesInTurn (MakesBelow children is_with Step (height n)) (MakesOver children is_with Step n) ds rest r) (in_places-more done made c m many) w,
        ),
      )

    all_left : (n : N) (done : List N) (made : List (Option N)) (after : Option E) → done ≡ children n → LeftMade n done [] made after → GathersMade children is_with Step height n made after
    all_left n done made (Some e) is left = left
    all_left n done made None is (many, left) = (many ∙ ap length is, λ r w. left r (subst (λ ds. MakesOver children is_with Step n (in_places ds made) r) (sym is) w))

module _ {S N E : Type 0} (children : N → List N) (is_with : N → List N → N → Type 0) (makes : S → N → Result N E → Type 0) (height : N → ℕ)
    (lower : (n c : N) → Contains (children n) c → height c < height n) where
  -- before its children, where no refusal is kept
  pub made-turns : (s : UpSteps S E) (n : N) → s.refused ≡ None →
      MayTurn (λ u m. Unit {0}) (MakesTree children is_with makes height) (GathersTree children is_with makes height s n) (children n) [] s
  made-turns s n none =
      let Left : List N → List N → List (Option N) → Option E → Type 0 = LeftMade children is_with (makes s.step.now) height lower n in
      turns (λ u m. Unit {0}) (MakesTree children is_with makes height) (GathersTree children is_with makes height s n)
      (λ done rest made u. (u.step ≡ s.step) × (done ++ rest ≡ children n) × Left done rest made u.refused)
      (λ done c rest made u (same, at, left). (
        tt,
        λ m t (stays, is). (
          stays ∙ same,
          append_assoc done (c ∷ []) rest ∙ at,
          next_left children is_with (makes s.step.now) height lower n done c rest at made m u.refused t.refused left
              (subst (λ p. Makes children is_with (makes p.now) height u.refused c m t.refused) same is),
        ),
      ))
      (λ done made u (same, at, left). (
        same,
        subst (λ before. Gathers children is_with (makes s.step.now) height before n made u.refused) (sym none)
            (all_left children is_with (makes s.step.now) height lower n done made u.refused (sym (append-nil done) ∙ at) left),
      ))
      (children n) [] [] s (refl, refl, subst (Left [] (children n) []) (sym none) (refl, λ r w. w))
