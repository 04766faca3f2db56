-- What calls of walks give, from the walks' clauses alone.
use Rattle.std.proofs.Common.{◌≡◌, ℕ, zero, suc, List, [], ◌∷◌, ◌++◌, Bool, true, false, ◌||◌, refl, ap, sym, ◌∙◌, subst, map, append_assoc}
use Rattle.std.specs.Prelude.{◌==◌, Result, Ok, Err, IfOk}
use Rattle.std.specs.List.{list_any}
use Rattle.vx_expr.specs.Trees.{Tree, root, children_of}
use Rattle.vx_traversal.specs.declared.errors.WalkError.{WalkError}
use Rattle.vx_traversal.specs.declared.errors.WalkError.TheVariants.{NoMemory, Visit}
use Rattle.vx_traversal.specs.declared.fold.FoldDownContext.TheVariants as deep
use Rattle.vx_traversal.specs.declared.fold.FoldDown.{FoldDown}
use Rattle.vx_traversal.specs.declared.fold.FoldDown.TheVariants as plain
use Rattle.vx_traversal.specs.declared.fold.FoldUp.{FoldUp}
use Rattle.vx_traversal.specs.declared.fold.FoldUp.TheVariants as up
use Rattle.vx_traversal.specs.declared.order.TraversalOrder.TheVariants.{Skip, Continue}
use Rattle.vx_traversal.specs.declared.transform.Transformed.{Transformed}
use Rattle.vx_traversal.specs.Expressions.{IsWithChildren}
use Rattle.vx_traversal.specs.Folds.{folded_value, FoldStep, FoldsInTurn, FoldsBelow, DownAlone, UpAlone}
use Rattle.vx_base_tests.specs.Numbers.{NumberTree, number, NumberTrees, no_trees, tree_before, list_of_trees, number_at, trees_below}
use Rattle.vx_traversal.specs.Rewrites.{Walk, RewriteStep, UnlessNoMemory, FromOrder, GoesUp, RewritesBelow, marked}
use Rattle.vx_base_tests.specs.Zeros.{holds_zero, one_holds_zero}

-- what follows from a fact that holds unless memory ran out
pub unless : {T E : Type 0} (r : Walk T E) (P : Type 0) (Q : T → Type 0) → (P → IfOk r Q) → UnlessNoMemory r P → IfOk r Q
unless (Ok x) P Q f w = f w
unless (Err NoMemory) P Q f w = tt
unless (Err (Visit e)) P Q f w = tt

if_error : {T E : Type 0} (r : Result T E) (e : E) (Q : T → Type 0) → r ≡ Err e → IfOk r Q
if_error {T} {E} r e Q is = subst (λ (q : Result T E). IfOk q Q) (sym is) tt

abbrev ok : (T E : Type 0) → T → Result T E
ok T E x = Ok x

abbrev error : (T E : Type 0) → E → Result T E
error T E e = Err e

same_ok : (T E : Type 0) (x y : T) → ok T E x ≡ Ok y → x ≡ y
same_ok T E x y is = cc

no_error : (T E : Type 0) (e : E) (x : T) → error T E e ≡ Ok x → ⊥
no_error T E e x is = cc

-- the row, changed
abbrev pub IsRow : Transformed Tree → Type 0
IsRow made = made ≡ record { value = root; order = Continue; changed = true }

stays : {E : Type 0} (q : Walk (Transformed Tree) E) → IfOk q IsRow → IfOk (marked false q) IsRow
stays (Err e) h = tt
stays (Ok d) h = h

module _ {S E : Type 0} where
  -- down leaves the children out, and up answers the row, changed
  abbrev pub RowDown : RewriteStep S Tree E
  RowDown s n r t = r ≡ Ok (record { value = n; order = Skip; changed = false })

  abbrev pub RowUp : RewriteStep S Tree E
  RowUp s n r t = IfOk r IsRow

  goes_up : (n : Tree) (u : S) (r : Walk (Transformed Tree) E) (t : S) → GoesUp RowUp false u n r t → IfOk r IsRow
  goes_up n u r t (q, step, is) = subst (λ (a : Walk (Transformed Tree) E). IfOk a IsRow) (sym is) (stays q step)

  -- such a rewrite gives the row
  pub gives-row : (k : ℕ) (s : S) (n : Tree) (r : Walk (Transformed Tree) E) (t : S) → RewritesBelow children_of IsWithChildren RowDown RowUp (suc k) s n r t → IfOk r IsRow
  gives-row k s n r t (Err e, u, step, rest) = absurd (no_error (Transformed Tree) (WalkError E) e _ step)
  gives-row k s n r t (Ok d, u, step, rest) =
      goes_up n u r t (subst (λ (m : Transformed Tree). FromOrder children_of IsWithChildren RowDown RowUp (RewritesBelow children_of IsWithChildren RowDown RowUp k) m.order m u r t) (same_ok (Transformed Tree) (WalkError E) d _ step) rest)

append_nil : {A : Type 0} (xs : List A) → xs ++ [] ≡ xs
append_nil [] = refl
append_nil (x ∷ xs) = ap (λ ys. x ∷ ys) (append_nil xs)

some_zero : (ts : NumberTrees) → list_any (λ held. held) (map holds_zero (list_of_trees ts)) ≡ one_holds_zero ts
some_zero no_trees = refl
some_zero (tree_before t ts) = ap (λ held. holds_zero t || held) (some_zero ts)

zero_in : (n : NumberTree) → ((number_at n == 0) || list_any (λ held. held) (map holds_zero (trees_below n))) ≡ holds_zero n
zero_in (number n ts) = ap (λ held. (n == 0) || held) (some_zero ts)

-- the answer of a fold that tells this
abbrev pub TellsZero : Bool → FoldUp Bool → Type 0
TellsZero held folded = folded ≡ up.Continue held

told : {E : Type 0} (r : Walk (FoldUp Bool) E) (held other : Bool) → held ≡ other → r ≡ Ok (up.Continue held) → IfOk r (TellsZero other)
told {E} r held other same is = subst (λ (q : Walk (FoldUp Bool) E). IfOk q (TellsZero other)) (sym is) (ap up.Continue same)

value_is : (x held : Bool) → up.Continue x ≡ up.Continue held → x ≡ held
value_is x held is = cc

not_stop : (x held : Bool) → up.Stop x ≡ up.Continue held → ⊥
not_stop x held is = cc

not_skip : (E : Type 0) (x : Bool) → ok (FoldDown Bool) E (plain.Skip x) ≡ Ok plain.Continue → ⊥
not_skip E x is = cc

not_stopped : (E : Type 0) (x : Bool) → ok (FoldDown Bool) E (plain.Stop x) ≡ Ok plain.Continue → ⊥
not_stopped E x is = cc

module _ {S E : Type 0} where
  -- down goes on, and up answers whether the number is 0 or one below it is
  abbrev pub ZeroDown : S → NumberTree → Walk (FoldDown Bool) E → S → Type 0
  ZeroDown s n r t = r ≡ Ok plain.Continue

  abbrev pub ZeroUp : S → NumberTree → List Bool → Walk (FoldUp Bool) E → S → Type 0
  ZeroUp s n below r t = r ≡ Ok (up.Continue ((number_at n == 0) || list_any (λ held. held) below))

  folds_children : (Each : FoldStep S NumberTree (Unit {0}) Bool E) → ((s : S) (c : Unit {0}) (m : NumberTree) (r : Walk (FoldUp Bool) E) (t : S) → Each s c m r t → IfOk r (TellsZero (holds_zero m))) →
      (c : Unit {0}) (n : NumberTree) (results : List Bool) (s : S) (ms : List NumberTree) (r : Walk (FoldUp Bool) E) (t : S) →
      FoldsInTurn Each c (λ u below. UpAlone ZeroUp u n c below) results s ms r t → IfOk r (TellsZero ((number_at n == 0) || list_any (λ held. held) (results ++ map holds_zero ms)))
  folds_children Each each c n results s [] r t is = told r _ _ (ap (λ below. (number_at n == 0) || list_any (λ held. held) below) (sym (append_nil results))) is
  folds_children Each each c n results s (m ∷ ms) r t (Err e, u, step, (is, same)) = if_error r e _ is
  folds_children Each each c n results s (m ∷ ms) r t (Ok (up.Stop x), u, step, (is, same)) = absurd (not_stop x (holds_zero m) (each s c m (Ok (up.Stop x)) u step))
  folds_children Each each c n results s (m ∷ ms) r t (Ok (up.Continue x), u, step, rest) =
      let x_is : x ≡ holds_zero m = value_is x (holds_zero m) (each s c m (Ok (up.Continue x)) u step) in
      let below : (results ++ x ∷ []) ++ map holds_zero ms ≡ results ++ map holds_zero (m ∷ ms) = append_assoc results (x ∷ []) (map holds_zero ms) ∙ ap (λ y. results ++ y ∷ map holds_zero ms) x_is in
      subst (λ below'. IfOk r (TellsZero ((number_at n == 0) || list_any (λ held. held) below'))) below (folds_children Each each c n (results ++ x ∷ []) u ms r t rest)

  -- such a fold tells whether the tree has the number 0
  pub tells-zero : (k : ℕ) (s : S) (c : Unit {0}) (n : NumberTree) (r : Walk (FoldUp Bool) E) (t : S) → FoldsBelow trees_below (DownAlone ZeroDown) (UpAlone ZeroUp) k s c n r t → IfOk r (TellsZero (holds_zero n))
  tells-zero zero s c n r t w = absurd w
  tells-zero (suc k) s c n r t (Err e, u, step, (is, same)) = if_error r e _ is
  tells-zero (suc k) s c n r t (Ok (deep.Skip x), u, step, rest) = absurd (not_skip (WalkError E) x step)
  tells-zero (suc k) s c n r t (Ok (deep.Stop x), u, step, rest) = absurd (not_stopped (WalkError E) x step)
  tells-zero (suc k) s c n r t (Ok (deep.Continue d), u, step, rest) =
      subst (λ held. IfOk r (TellsZero held)) (zero_in n) (folds_children (FoldsBelow trees_below (DownAlone ZeroDown) (UpAlone ZeroUp) k) (tells-zero k) d n [] u (trees_below n) r t rest)

-- the value of a fold that tells this
pub told-value : {E : Type 0} (r : Walk (FoldUp Bool) E) (folded : FoldUp Bool) (held : Bool) → r ≡ Ok folded → IfOk r (TellsZero held) → folded_value folded ≡ held
told-value {E} r folded held is tells = ap folded_value (subst (λ (q : Walk (FoldUp Bool) E). IfOk q (TellsZero held)) is tells)
