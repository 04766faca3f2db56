-- Elements that containers hand over, one container after another.
use Rattle.std.specs.Prelude.{◌≡◌, ℕ, ◌+◌, ◌≤◌, List, [], ◌∷◌, ◌++◌, Bool, true, false, ◌||◌, Ok, Err, Option, Some, MatchOption, slice_get, length, map}
use Rattle.std.specs.List.{flat_map}
use denote.Ref.{Bor}
use Rattle.std.proofs.Common.{drop, refl, sym, ap, ◌∙◌, subst, append_assoc, arith}
use Rattle.std.proofs.lemmas.List.{append-nil}
use Rattle.std.proofs.lemmas.Grind.{flat_map-append}
use Rattle.vx_traversal.specs.declared.errors.WalkError.{WalkError}
use Rattle.vx_traversal.specs.declared.order.TraversalOrder.{TraversalOrder}
use Rattle.vx_traversal.specs.declared.order.TraversalOrder.TheVariants.{Skip, Stop, Continue}
use Rattle.vx_traversal.specs.declared.transform.Transformed.{Transformed}
use Rattle.vx_traversal.specs.Rewrites.{Walk, RewriteStep, UnlessStopped, MapsInTurn, with_one}
use Rattle.vx_traversal.specs.ContainerShapes.{Shape}
use Rattle.vx_traversal.specs.Containers.{left_of_each, left_of_pair, MapsElements, none_after}
use Rattle.vx_traversal.proofs.Steps.{drop-next, drop-past}
use Rattle.vx_traversal.proofs.RewriteLemmas.{or-false}

or_assoc : (a b c : Bool) → ((a || b) || c) ≡ (a || (b || c))
or_assoc true b c = refl
or_assoc false b c = refl

-- mapped values after others
abbrev joined : {T : Type 0} → List T → Bool → Transformed (List T) → Transformed (List T)
joined before ch m = record { value = before ++ m.value; order = m.order; changed = ch || m.changed }

-- a mapped container by the list of its elements
abbrev pub as_list : {C T : Type 0} → (C → List T) → Transformed C → Transformed (List T)
as_list elements y = record { value = elements y.value; order = y.order; changed = y.changed }

module _ {S T E : Type 0} (Each : RewriteStep S T E) where
  -- values that are mapped in turn, and then more of them
  MapsInTurn-append : (xs ys : List T) (so_far : Transformed (List T)) (s : S) (m : Transformed (List T)) (u : S) (r : Walk (Transformed (List T)) E) (t : S) →
      MapsInTurn Each so_far s xs (Ok m) u → MapsInTurn Each m u ys r t → MapsInTurn Each so_far s (xs ++ ys) r t
  MapsInTurn-append [] ys so_far s m u r t (is, stays) rest =
      let same : m ≡ so_far = cc in
      let P : Transformed (List T) → Type 0 = λ k. MapsInTurn Each k s ys r t in
      subst P same (let Q : S → Type 0 = λ v. MapsInTurn Each m v ys r t in subst Q stays rest)
  MapsInTurn-append (x ∷ xs) ys so_far s m u r t (Err e, v, step, (is, stays)) rest = absurd (cc)
  MapsInTurn-append (x ∷ xs) ys so_far s m u r t (Ok y, v, step, more) rest = (Ok y, v, step, MapsInTurn-append xs ys (with_one so_far y) v m u r t more rest)

  -- an error among the first ends it
  MapsInTurn-append-error : (xs ys : List T) (so_far : Transformed (List T)) (s : S) (e : WalkError E) (u : S) → MapsInTurn Each so_far s xs (Err e) u → MapsInTurn Each so_far s (xs ++ ys) (Err e) u
  MapsInTurn-append-error [] ys so_far s e u (is, stays) = absurd (cc)
  MapsInTurn-append-error (x ∷ xs) ys so_far s e u (Err f, v, step, ends) = (Err f, v, step, ends)
  MapsInTurn-append-error (x ∷ xs) ys so_far s e u (Ok y, v, step, more) = (Ok y, v, step, MapsInTurn-append-error xs ys (with_one so_far y) v e u more)

  joined-one : (before : List T) (ch : Bool) (m : Transformed (List T)) (y : Transformed T) → with_one (joined before ch m) y ≡ joined before ch (with_one m y)
  joined-one before ch m y = λ i. record { value = append_assoc before m.value (y.value ∷ []) i; order = y.order; changed = or_assoc ch m.changed y.changed i }

  -- the same after other values
  MapsInTurn-joined : (before : List T) (ch : Bool) (xs : List T) (so_far : Transformed (List T)) (s : S) (m : Transformed (List T)) (t : S) →
      MapsInTurn Each so_far s xs (Ok m) t → MapsInTurn Each (joined before ch so_far) s xs (Ok (joined before ch m)) t
  MapsInTurn-joined before ch [] so_far s m t (is, stays) = (let same : m ≡ so_far = cc in ap (λ k. Ok (joined before ch k)) same, stays)
  MapsInTurn-joined before ch (x ∷ xs) so_far s m t (Err e, v, step, (is, stays)) = absurd (cc)
  MapsInTurn-joined before ch (x ∷ xs) so_far s m t (Ok y, v, step, more) = (
    Ok y,
    v,
    step,
    let P : Transformed (List T) → Type 0 = λ k. MapsInTurn Each k v xs (Ok (joined before ch m)) t in
        subst P (sym (joined-one before ch so_far y)) (MapsInTurn-joined before ch xs (with_one so_far y) v m t more),
  )

  MapsInTurn-joined-error : (before : List T) (ch : Bool) (xs : List T) (so_far : Transformed (List T)) (s : S) (e : WalkError E) (t : S) →
      MapsInTurn Each so_far s xs (Err e) t → MapsInTurn Each (joined before ch so_far) s xs (Err e) t
  MapsInTurn-joined-error before ch [] so_far s e t (is, stays) = absurd (cc)
  MapsInTurn-joined-error before ch (x ∷ xs) so_far s e t (Err f, v, step, ends) = (Err f, v, step, ends)
  MapsInTurn-joined-error before ch (x ∷ xs) so_far s e t (Ok y, v, step, more) = (
    Ok y,
    v,
    step,
    let P : Transformed (List T) → Type 0 = λ k. MapsInTurn Each k v xs (Err e) t in
        subst P (sym (joined-one before ch so_far y)) (MapsInTurn-joined-error before ch xs (with_one so_far y) v e t more),
  )

  joined-none : (before : List T) (ch : Bool) (last : TraversalOrder) → joined before ch (none_after last) ≡ record { value = before; order = last; changed = ch }
  joined-none before ch last = λ i. record { value = append-nil before i; order = last; changed = or-false ch i }

  module _ {C : Type 0} (elements : C → List T) where
    -- the elements of a mapped container in turn
    MapsElements-turns : (last : TraversalOrder) (s : S) (c : C) (y : Transformed C) (t : S) → MapsElements elements Each last s c (Ok y) t → MapsInTurn Each (none_after last) s (elements c) (Ok (as_list elements y)) t
    MapsElements-turns last s c y t (Err e, turns, refills) = absurd (cc)
    MapsElements-turns last s c y t (Ok m, turns, (refilled, holds, is)) =
        let same : y ≡ record { value = refilled; order = m.order; changed = m.changed } = cc in
        let listed : as_list elements y ≡ m = ap (as_list elements) same ∙ (λ i. record { value = holds i; order = m.order; changed = m.changed }) in
        let P : Transformed (List T) → Type 0 = λ k. MapsInTurn Each (none_after last) s (elements c) (Ok k) t in
        subst P (sym listed) turns

    MapsElements-error : (last : TraversalOrder) (s : S) (c : C) (e : WalkError E) (t : S) → MapsElements elements Each last s c (Err e) t → MapsInTurn Each (none_after last) s (elements c) (Err e) t
    MapsElements-error last s c e t (Ok m, turns, (refilled, holds, is)) = absurd (cc)
    MapsElements-error last s c e t (Err f, turns, is) = let P : Walk (Transformed (List T)) E → Type 0 = λ q. MapsInTurn Each (none_after last) s (elements c) q t in subst P (ap (λ x. Err x) (let same : f ≡ e = cc in same)) turns

    -- one more container of a vector
    pub MapsEach-next : (so_far : List T) (order : TraversalOrder) (ch : Bool) (s : S) (c : C) (rest : List T) (y : Transformed C) (u : S) (r : Walk (Transformed (List T)) E) (t : S) →
        MapsElements elements Each order s c (Ok y) u → MapsInTurn Each (record { value = so_far ++ elements y.value; order = y.order; changed = ch || y.changed }) u rest r t →
        MapsInTurn Each (record { value = so_far; order = order; changed = ch }) s (elements c ++ rest) r t
    MapsEach-next so_far order ch s c rest y u r t mapped more =
        MapsInTurn-append (elements c) rest (record { value = so_far; order = order; changed = ch }) s (joined so_far ch (as_list elements y)) u r t
        (let P : Transformed (List T) → Type 0 = λ k. MapsInTurn Each k s (elements c) (Ok (joined so_far ch (as_list elements y))) u in
        subst P (joined-none so_far ch order) (MapsInTurn-joined so_far ch (elements c) (none_after order) s (as_list elements y) u (MapsElements-turns order s c y u mapped)))
        more

    pub MapsEach-error : (so_far : List T) (order : TraversalOrder) (ch : Bool) (s : S) (c : C) (rest : List T) (e : WalkError E) (u : S) →
        MapsElements elements Each order s c (Err e) u → MapsInTurn Each (record { value = so_far; order = order; changed = ch }) s (elements c ++ rest) (Err e) u
    MapsEach-error so_far order ch s c rest e u mapped =
        MapsInTurn-append-error (elements c) rest (record { value = so_far; order = order; changed = ch }) s e u
        (let P : Transformed (List T) → Type 0 = λ k. MapsInTurn Each k s (elements c) (Err e) u in
        subst P (joined-none so_far ch order) (MapsInTurn-joined-error so_far ch (elements c) (none_after order) s e u (MapsElements-error order s c e u mapped)))

    -- a container whose elements are the mapped ones
    pub MapsElements-refilled : (last : TraversalOrder) (s : S) (c : C) (y : Transformed C) (m : List T) (t : S) → elements y.value ≡ m → MapsInTurn Each (none_after last) s (elements c) (Ok (record { value = m; order = y.order; changed = y.changed })) t → MapsElements elements Each last s c (Ok y) t
    MapsElements-refilled last s c y m t holds turns = (Ok (record { value = m; order = y.order; changed = y.changed }), turns, (y.value, holds, refl))

  -- the same elements in another container
  pub MapsElements-as : {A B : Type 0} (of_a : A → List T) (of_b : B → List T) (last : TraversalOrder) (s : S) (a : A) (b : B) (y : Transformed A) (z : Transformed B) (t : S) →
      of_b b ≡ of_a a → of_b z.value ≡ of_a y.value → z.order ≡ y.order → z.changed ≡ y.changed → MapsElements of_a Each last s a (Ok y) t → MapsElements of_b Each last s b (Ok z) t
  MapsElements-as {A} {B} of_a of_b last s a b y z t same holds orders marks mapped =
      MapsElements-refilled of_b last s b z (of_a y.value) t holds
      (let P : List T → Type 0 = λ xs. MapsInTurn Each (none_after last) s xs (Ok (record { value = of_a y.value; order = z.order; changed = z.changed })) t in
      subst P (sym same)
      (let Q : Transformed (List T) → Type 0 = λ k. MapsInTurn Each (none_after last) s (of_a a) (Ok k) t in
      subst Q (λ i. record { value = of_a y.value; order = sym orders i; changed = sym marks i }) (MapsElements-turns of_a last s a y t mapped)))

-- what is left in the middle of the container at a place
pub left-at : {C K T : Type 0} (left : C → K → List T) (elements : C → List T) (k : K) (cs : List C) (i : ℕ) (c : C) → slice_get cs i ≡ Some c → left_of_each left elements k (drop i cs) ≡ left c k ++ flat_map elements (drop (i + 1) cs)
left-at left elements k cs i c at = ap (left_of_each left elements k) (drop-next cs i c at)

-- what is left before the first element of the next container
pub left-fresh : {C K T : Type 0} (left : C → K → List T) (elements : C → List T) (k : K) (cs : List C) → ((c : C) → left c k ≡ elements c) → left_of_each left elements k cs ≡ flat_map elements cs
left-fresh left elements k [] fresh = refl
left-fresh left elements k (c ∷ cs) fresh = ap (λ xs. xs ++ flat_map elements cs) (fresh c)

-- nothing is left past the last container
pub left-past : {C K T : Type 0} (left : C → K → List T) (elements : C → List T) (k : K) (cs : List C) (i : ℕ) → length cs ≤ i → left_of_each left elements k (drop i cs) ≡ []
left-past left elements k cs i le = ap (left_of_each left elements k) (drop-past cs i le)

module _ {S T E : Type 0} (Each : RewriteStep S T E) {C : Type 0} (elements : C → List T) (last : TraversalOrder) (s : S) (pair : C × C) where
  -- a pair whose parts are mapped in turn
  pub MapsPair-mapped : (y : Transformed C) (u : S) (z : Transformed C) (t : S) → MapsElements elements Each last s pair.0 (Ok y) u → MapsElements elements Each y.order u pair.1 (Ok z) t →
      MapsElements {C = C × C} (λ it. elements it.0 ++ elements it.1) Each last s pair (Ok (record { value = (y.value, z.value); order = z.order; changed = y.changed || z.changed })) t
  MapsPair-mapped y u z t first second =
      MapsElements-refilled Each (λ (it : C × C). elements it.0 ++ elements it.1) last s pair (record { value = (y.value, z.value); order = z.order; changed = y.changed || z.changed }) (elements y.value ++ elements z.value) t refl
      (MapsEach-next Each elements [] last false s pair.0 (elements pair.1) y u (Ok (record { value = elements y.value ++ elements z.value; order = z.order; changed = y.changed || z.changed })) t first
      (let P : List T → Type 0 = λ xs. MapsInTurn Each (record { value = elements y.value; order = y.order; changed = y.changed }) u xs (Ok (record { value = elements y.value ++ elements z.value; order = z.order; changed = y.changed || z.changed })) t in
      subst P (append-nil (elements pair.1))
      (MapsEach-next Each elements (elements y.value) y.order y.changed u pair.1 [] z t (Ok (record { value = elements y.value ++ elements z.value; order = z.order; changed = y.changed || z.changed })) t second (refl, refl))))

  -- an error in the first
  pub MapsPair-first_error : (e : WalkError E) (u : S) → MapsElements elements Each last s pair.0 (Err e) u → MapsElements {C = C × C} (λ it. elements it.0 ++ elements it.1) Each last s pair (Err e) u
  MapsPair-first_error e u first = (Err e, MapsEach-error Each elements [] last false s pair.0 (elements pair.1) e u first, refl)

  -- an error in the second
  pub MapsPair-second_error : (y : Transformed C) (u : S) (e : WalkError E) (t : S) → MapsElements elements Each last s pair.0 (Ok y) u → MapsElements elements Each y.order u pair.1 (Err e) t →
      MapsElements {C = C × C} (λ it. elements it.0 ++ elements it.1) Each last s pair (Err e) t
  MapsPair-second_error y u e t first second = (
    Err e,
    MapsEach-next Each elements [] last false s pair.0 (elements pair.1) y u (Err e) t first
        (let P : List T → Type 0 = λ xs. MapsInTurn Each (record { value = elements y.value; order = y.order; changed = y.changed }) u xs (Err e) t in
        subst P (append-nil (elements pair.1)) (MapsEach-error Each elements (elements y.value) y.order y.changed u pair.1 [] e t second)),
    refl,
  )

-- an error by an equal answer
pub error-as : {S T C E : Type 0} (Each : RewriteStep S T E) (elements : C → List T) (last : TraversalOrder) (s : S) (c : C) (e : WalkError E) (r : Walk (Transformed C) E) (t : S) → r ≡ Err e → MapsElements elements Each last s c (Err e) t → MapsElements elements Each last s c r t
error-as {S} {T} {C} {E} Each elements last s c e r t is errors = let P : Walk (Transformed C) E → Type 0 = λ q. MapsElements elements Each last s c q t in subst P (sym is) errors

-- what is left of a pair whose first is at its end
pub pair-second : {C K T : Type 0} (left : C → K → List T) (elements : C → List T) (in_second : Bool) (k fresh : K) (a b : C) → in_second ≡ false → left a k ≡ [] → left b fresh ≡ elements b → left_of_pair left elements in_second k a b ≡ left b fresh
pair-second left elements true k fresh a b is done starts = absurd (cc)
pair-second left elements false k fresh a b is done starts = ap (λ xs. xs ++ elements b) done ∙ sym starts

-- the next element of equal lists
pub next-along : {T : Type 0} (xs ys rest : List T) (r : Option (Bor T)) → ys ≡ xs → MatchOption r (xs ≡ []) (λ e. xs ≡ e.now ∷ rest) → MatchOption r (ys ≡ []) (λ e. ys ≡ e.now ∷ rest)
next-along {T} xs ys rest r same h = let P : List T → Type 0 = λ zs. MatchOption r (zs ≡ []) (λ e. zs ≡ e.now ∷ rest) in subst P (sym same) h

-- elements of equal lists in turn
pub maps-along : {S T E : Type 0} (Each : RewriteStep S T E) (so_far : Transformed (List T)) (s : S) (xs ys : List T) (r : Walk (Transformed (List T)) E) (t : S) → ys ≡ xs → MapsInTurn Each so_far s xs r t → MapsInTurn Each so_far s ys r t
maps-along {S} {T} Each so_far s xs ys r t same turns = let P : List T → Type 0 = λ zs. MapsInTurn Each so_far s zs r t in subst P (sym same) turns

-- values so far by another name
pub maps-from : {S T E : Type 0} (Each : RewriteStep S T E) (order : TraversalOrder) (ch : Bool) (s : S) (xs vs ws : List T) (r : Walk (Transformed (List T)) E) (t : S) → ws ≡ vs → MapsInTurn Each (record { value = vs; order = order; changed = ch }) s xs r t → MapsInTurn Each (record { value = ws; order = order; changed = ch }) s xs r t
maps-from {S} {T} Each order ch s xs vs ws r t same turns = let P : List T → Type 0 = λ us. MapsInTurn Each (record { value = us; order = order; changed = ch }) s xs r t in subst P (sym same) turns

-- the elements of containers and of one more
pub flat_map-push : {C T : Type 0} (elements : C → List T) (cs : List C) (c : C) → flat_map elements (cs ++ c ∷ []) ≡ flat_map elements cs ++ elements c
flat_map-push elements cs c = flat_map-append elements cs (c ∷ []) ∙ ap (λ xs. flat_map elements cs ++ xs) (append-nil (elements c))

-- the shapes of the containers so far and of those that are left, past one more
pub shapes-push : {C : Type 0} (shape : C → Shape) (so_far : List C) (made c : C) (rest : List C) → shape made ≡ shape c → map shape (so_far ++ made ∷ []) ++ map shape rest ≡ map shape so_far ++ map shape (c ∷ rest)
shapes-push shape [] made c rest same = λ i. same i ∷ map shape rest
shapes-push shape (d ∷ ds) made c rest same = λ i. shape d ∷ shapes-push shape ds made c rest same i

pub none-left : {A : Type 0} (xs : List A) → length xs ≡ 0 → xs ≡ []
none-left [] e = refl
none-left (x ∷ xs) e = absurd (omega arith)

module _ {S T E : Type 0} (Each : RewriteStep S T E) (s : S) (x : T) where
  -- after a Stop a single element stays
  pub MapsSingle-kept : (o : TraversalOrder) → o ≡ Stop → MapsElements (λ it. it ∷ []) Each o s x (Ok (record { value = x; order = Stop; changed = false })) s
  MapsSingle-kept Skip is = absurd (cc)
  MapsSingle-kept Continue is = absurd (cc)
  MapsSingle-kept Stop is = (Ok (record { value = x ∷ []; order = Stop; changed = false }), (Ok (record { value = x; order = Stop; changed = false }), s, (refl, refl), (refl, refl)), (x, refl, refl))

  not_stopped : (o : TraversalOrder) → (o ≡ Stop → ⊥) → (q : Walk (Transformed T) E) (u : S) → Each s x q u → UnlessStopped Each o s x q u
  not_stopped Skip on q u step = step
  not_stopped Stop on q u step = absurd (on refl)
  not_stopped Continue on q u step = step

  -- else it takes its step
  pub MapsSingle-mapped : (o : TraversalOrder) → (o ≡ Stop → ⊥) → (r : Walk (Transformed T) E) (t : S) → Each s x r t → MapsElements (λ it. it ∷ []) Each o s x r t
  MapsSingle-mapped o on (Err e) t step = (Err e, (Err e, t, not_stopped o on (Err e) t step, (refl, refl)), refl)
  MapsSingle-mapped o on (Ok y) t step = (Ok (record { value = y.value ∷ []; order = y.order; changed = y.changed }), (Ok y, t, not_stopped o on (Ok y) t step, (refl, refl)), (y.value, refl, refl))
