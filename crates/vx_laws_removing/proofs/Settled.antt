-- An expression with its ranges has no further ones, and its nodes stay simple; so simplifying by types again changes nothing.
use Rattle.std.proofs.Common.{◌⊎◌, inl, inr, ◌≡◌, ◌≤◌, ℕ, zero, suc, refl, ap, sym, ◌∙◌, Bool, true, ◌&&◌, Option, Some, None, subst, List, [], ◌∷◌, ◌++◌, Result, Ok, arith}
use Rattle.std.specs.Prelude.{length, option_map, unwrap_or}
use Rattle.std.specs.List.{AllByRecursion}
use Rattle.std.proofs.lemmas.Bool.{and_from}
use Rattle.vx_dtype.specs.Types.{Ty, bool_ty}
use Rattle.vx_dtype.specs.declared.Nullability.TheVariants.{NonNullable}
use Rattle.vx_dtype.specs.declared.BetweenOptions.{BetweenOptions}
use Rattle.vx_dtype.specs.Values.{Typed, fault}
use Rattle.vx_expr.specs.declared.Operator.{Operator}
use Rattle.vx_expr.specs.Conjuncts.{conjuncts_of}
use Rattle.vx_expr.specs.Trees.{Tree, literal, binary, between}
use Rattle.vx_semantics.specs.Typing.{Refusal, and_then}
use Rattle.vx_build.specs.Collectors.{joined_left, joined_after}
use Rattle.vx_passes.specs.Ranges.{Reading, range_of, Paired, behind, paired_or, paired, placed, with_ranges, ranged}
use Rattle.vx_passes.specs.Simplifying.{without_packed_fields, simplified}
use Rattle.vx_passes.specs.Selecting.{without_select}
use Rattle.vx_passes.specs.Merging.{without_merge}
use Rattle.vx_passes.specs.TypedSimplifying.{simplified_typed}
use Rattle.vx_laws.proofs.Inverting.{and_then-ok, Ok-same}
use Rattle.vx_laws.proofs.Conjunctions.{conjuncts_of-chain}
use Rattle.vx_laws_simplifying.proofs.Observing.{and-assoc, and-comm, and-twice}
use Rattle.vx_laws_simplifying.proofs.RangeParts.{Reads, left_read, right_read, Bounds, RangeParts, range_of-parts}
use Rattle.vx_laws_simplifying.proofs.Chains.{Measure, alone-ranged}
use Rattle.vx_laws_removing.specs.Simplest.{nodes_below, all_nodes, is_simple, SimplifiedNodesAreSimple, SimplifiedStays, SimplifiedOnceStays}
use Rattle.vx_laws_removing.proofs.Nodes.{without_select-good, without_merge-good, without_packed_fields-good, without_select-stays, without_merge-stays, without_packed_fields-stays, is_unpacked, without_packed_fields-unpacked, unpacked-stays}

-- what holds of each of these expressions
abbrev pub Each : (Tree → Type 0) → List Tree → Type 0
Each P es = AllByRecursion P es

each-append : (P : Tree → Type 0) (xs ys : List Tree) → Each P xs → Each P ys → Each P (xs ++ ys)
each-append P [] ys h k = k
each-append P (x ∷ xs) ys h k = (h.0, each-append P xs ys h.1 k)

-- a range is a between
record IsRange (x : Tree) : Type 0 where
  pub value : Tree
  pub lower : Tree
  pub upper : Tree
  pub options : BetweenOptions
  pub is : x ≡ between value lower upper options

range_of-is : (c d x : Tree) → range_of c d ≡ Some x → IsRange x
range_of-is c d x h = let p = range_of-parts c d x h in by-bounds p.first p.second p.bounds
  where
    one : (a b : Reading) → Bounds a b x → IsRange x
    one a b k = record { value = a.operand; lower = literal k.lower; upper = literal k.upper; options = record { lower_strict = k.below; upper_strict = k.above }; is = k.is }

    by-bounds : (a b : Reading) → Bounds a b x ⊎ Bounds b a x → IsRange x
    by-bounds a b (inl k) = one a b k
    by-bounds a b (inr k) = one b a k

-- what holds of ranges and of conjuncts holds of the conjuncts with ranges
HoldsOfRanges : (Tree → Type 0) → Type 0
HoldsOfRanges P = (e l u : Tree) (options : BetweenOptions) → P (between e l u options)

of-range : (P : Tree → Type 0) → HoldsOfRanges P → (x : Tree) → IsRange x → P x
unfolding HoldsOfRanges
of-range P k x r = subst P (sym r.is) (k r.value r.lower r.upper r.options)

-- what a pair leaves: a range, and others of the conjuncts, one fewer
record Leaves (P : Tree → Type 0) (cs : List Tree) (p : Paired) : Type 0 where
  pub range : IsRange p.range
  pub others : Each P p.others
  pub fewer : suc (length p.others) ≡ length cs

leaves : (P : Tree → Type 0) (c : Tree) (cs : List Tree) (p : Paired) → Each P cs → paired c cs ≡ Some p → Leaves P cs p
leaves P c [] p h e = let no : ⊥ = cc in absurd no
leaves P c (d ∷ ds) p h e = by-range (range_of c d) refl e (λ q i. leaves P c ds q h.1 i)
  where
    by-later : (o : Option Paired) → paired c ds ≡ o → option_map (behind d) o ≡ Some p → ((q : Paired) → paired c ds ≡ Some q → Leaves P ds q) → Leaves P (d ∷ ds) p
    by-later None i j r = let no : ⊥ = cc in absurd no
    by-later (Some q) i j r =
        let same : behind d q ≡ p = cc in
        let rest = r q i in
        subst (Leaves P (d ∷ ds)) same (record { range = rest.range; others = (h.0, rest.others); fewer = ap suc rest.fewer })

    by-range : (o : Option Tree) → range_of c d ≡ o → paired_or o ds (option_map (behind d) (paired c ds)) ≡ Some p → ((q : Paired) → paired c ds ≡ Some q → Leaves P ds q) → Leaves P (d ∷ ds) p
    by-range None i j r = by-later (paired c ds) refl j r
    by-range (Some x) i j r =
        let same : record { range = x; others = ds } ≡ p = cc in
        subst (Leaves P (d ∷ ds)) same (record { range = range_of-is c d x i; others = h.1; fewer = refl })

each-ranges : (P : Tree → Type 0) → HoldsOfRanges P → (n : ℕ) (cs : List Tree) → Each P cs → Each P (with_ranges n cs)
each-ranges P k zero cs h = h
each-ranges P k (suc n) [] h = h
each-ranges P k (suc n) (c ∷ cs) h = by-pair (paired c cs) refl (λ ds i. each-ranges P k n ds i)
  where
    by-pair : (o : Option Paired) → paired c cs ≡ o → ((ds : List Tree) → Each P ds → Each P (with_ranges n ds)) → Each P (placed (with_ranges n) c cs o)
    by-pair None e r = (h.0, r cs h.1)
    by-pair (Some p) e r = let l = leaves P c cs p h.1 e in (of-range P k p.range l.range, r p.others l.others)

-- conjuncts none of which makes a range with a later one
abbrev pub Apart : Tree → Tree → Type 0
Apart c d = range_of c d ≡ None

Unpaired : List Tree → Type 0
Unpaired [] = Unit {0}
Unpaired (c ∷ cs) = Each (Apart c) cs × Unpaired cs

apart-from-range : (c : Tree) → HoldsOfRanges (Apart c)
unfolding HoldsOfRanges
apart-from-range (binary l op r) e lower upper options = refl
apart-from-range _ e lower upper options = refl

range-apart : (ds : List Tree) (x : Tree) → IsRange x → Each (Apart x) ds
range-apart [] x r = tt
range-apart (d ∷ ds) x r = (subst (λ (z : Tree). Apart z d) (sym r.is) refl, range-apart ds x r)

not_paired : (c : Tree) (cs : List Tree) → paired c cs ≡ None → Each (Apart c) cs
not_paired c [] h = tt
not_paired c (d ∷ ds) h = by-range (range_of c d) refl h (not_paired c ds)
  where
    no_later : (o : Option Paired) → option_map (behind d) o ≡ None → o ≡ None
    no_later None i = refl
    no_later (Some q) i = let no : ⊥ = cc in absurd no

    by-range : (o : Option Tree) → range_of c d ≡ o → paired_or o ds (option_map (behind d) (paired c ds)) ≡ None → (paired c ds ≡ None → Each (Apart c) ds) → Each (Apart c) (d ∷ ds)
    by-range None i j r = (i, r (no_later (paired c ds) j))
    by-range (Some x) i j r = let no : ⊥ = cc in absurd no

apart-not_paired : (c : Tree) (cs : List Tree) → Each (Apart c) cs → paired c cs ≡ None
apart-not_paired c [] h = refl
apart-not_paired c (d ∷ ds) h = ap (λ (o : Option Tree). paired_or o ds (option_map (behind d) (paired c ds))) h.0 ∙ ap (option_map (behind d)) (apart-not_paired c ds h.1)

any-tree : (cs : List Tree) → Each (λ c. Unit {0}) cs
any-tree [] = tt
any-tree (c ∷ cs) = (tt, any-tree cs)

ranges-unpaired : (n : ℕ) (cs : List Tree) → length cs ≤ n → Unpaired (with_ranges n cs)
unfolding Unpaired
ranges-unpaired zero [] h = tt
ranges-unpaired zero (c ∷ cs) h = absurd (omega arith)
ranges-unpaired (suc n) [] h = tt
ranges-unpaired (suc n) (c ∷ cs) h = by-pair (paired c cs) refl (λ ds i. ranges-unpaired n ds i)
  where
    by-pair : (o : Option Paired) → paired c cs ≡ o → ((ds : List Tree) → length ds ≤ n → Unpaired (with_ranges n ds)) → Unpaired (placed (with_ranges n) c cs o)
    by-pair None e r = let few : length cs ≤ n = omega arith in (each-ranges (Apart c) (apart-from-range c) n cs (not_paired c cs e), r cs few)
    by-pair (Some p) e r =
        let l = leaves (λ d. Unit {0}) c cs p (any-tree cs) e in
        let fewer = l.fewer in
        let few : length p.others ≤ n = omega arith in
        (range-apart (with_ranges n p.others) p.range l.range, r p.others few)

unpaired-stays : (n : ℕ) (cs : List Tree) → Unpaired cs → with_ranges n cs ≡ cs
unfolding Unpaired
unpaired-stays zero cs h = refl
unpaired-stays (suc n) [] h = refl
unpaired-stays (suc n) (c ∷ cs) h = ap (placed (with_ranges n) c cs) (apart-not_paired c cs h.0) ∙ ap (λ (ds : List Tree). c ∷ ds) (unpaired-stays n cs h.1)

-- an expression that is its only conjunct
abbrev pub Single : Tree → Type 0
Single e = conjuncts_of e ≡ e ∷ []

conjuncts-single : (e : Tree) → Each Single (conjuncts_of e)
unfolding conjuncts_of
conjuncts-single (binary l Operator.And r) = each-append Single (conjuncts_of l) (conjuncts_of r) (conjuncts-single l) (conjuncts-single r)
conjuncts-single e = (refl, tt)

range-single : HoldsOfRanges Single
unfolding HoldsOfRanges conjuncts_of
range-single e l u options = refl

append-none : (xs : List Tree) → xs ++ [] ≡ xs
append-none [] = refl
append-none (x ∷ xs) = ap (λ (ys : List Tree). x ∷ ys) (append-none xs)

append-assoc : (xs ys zs : List Tree) → (xs ++ ys) ++ zs ≡ xs ++ (ys ++ zs)
append-assoc [] ys zs = refl
append-assoc (x ∷ xs) ys zs = ap (λ (ws : List Tree). x ∷ ws) (append-assoc xs ys zs)

conjuncts-joined : (e : Tree) (ds : List Tree) → Each Single ds → conjuncts_of (joined_after Operator.And e ds) ≡ conjuncts_of e ++ ds
unfolding conjuncts_of
conjuncts-joined e [] h = sym (append-none (conjuncts_of e))
conjuncts-joined e (d ∷ ds) h =
    conjuncts-joined (binary e Operator.And d) ds h.1
    ∙ (ap (λ (xs : List Tree). (conjuncts_of e ++ xs) ++ ds) h.0 ∙ append-assoc (conjuncts_of e) (d ∷ []) ds)

-- conjuncts with ranges, the first and the rest
record First (es : List Tree) : Type 0 where
  pub first : Tree
  pub rest : List Tree
  pub is : es ≡ first ∷ rest

first-ranges : (n : ℕ) (c : Tree) (cs : List Tree) → First (with_ranges (suc n) (c ∷ cs))
first-ranges n c cs = by-pair (paired c cs)
  where
    by-pair : (o : Option Paired) → First (placed (with_ranges n) c cs o)
    by-pair None = record { first = c; rest = with_ranges n cs; is = refl }
    by-pair (Some p) = record { first = p.range; rest = with_ranges n p.others; is = refl }

-- joined again, such conjuncts have no further ranges
rejoined : (g : Tree) (gs : List Tree) → Each Single (g ∷ gs) → Unpaired (g ∷ gs) → ranged (joined_after Operator.And g gs) ≡ joined_after Operator.And g gs
rejoined g gs h u =
    let whole = joined_after Operator.And g gs in
    let own : conjuncts_of whole ≡ g ∷ gs = conjuncts-joined g gs h.1 ∙ ap (λ (xs : List Tree). xs ++ gs) h.0 in
    ap (λ (es : List Tree). unwrap_or (joined_left Operator.And (with_ranges (length es) es)) whole) own
    ∙ ap (λ (es : List Tree). unwrap_or (joined_left Operator.And es) whole) (unpaired-stays (length (g ∷ gs)) (g ∷ gs) u)

pub ranged-stays : (e : Tree) → ranged (ranged e) ≡ ranged e
ranged-stays e =
    let c = conjuncts_of-chain (bool_ty NonNullable) [] fault e in
    let f = first-ranges (length c.rest) c.first c.rest in
    let list : with_ranges (length (conjuncts_of e)) (conjuncts_of e) ≡ f.first ∷ f.rest = ap (λ (es : List Tree). with_ranges (length es) es) c.is ∙ f.is in
    let joined : ranged e ≡ joined_after Operator.And f.first f.rest = ap (λ (es : List Tree). unwrap_or (joined_left Operator.And es) e) list in
    let enough : length (conjuncts_of e) ≤ length (conjuncts_of e) = omega arith in
    ap ranged joined
    ∙ (rejoined f.first f.rest (subst (Each Single) list (each-ranges Single range-single (length (conjuncts_of e)) (conjuncts_of e) (conjuncts-single e)))
    (subst Unpaired list (ranges-unpaired (length (conjuncts_of e)) (conjuncts_of e) enough)) ∙ sym joined)

-- nodes of ranges, of which a test says the same whatever stands below them
module _ (good : Tree → Bool) (literals : (s : Typed) → good (literal s) ≡ true) (binaries : (l r : Tree) (op : Operator) → good (binary l op r) ≡ true)
    (betweens : (e l u : Tree) (options : BetweenOptions) → good (between e l u options) ≡ true) where
  literal-nodes : (s : Typed) → all_nodes good (literal s) ≡ true
  unfolding nodes_below
  literal-nodes s = and_from (good (literal s)) true (literals s) refl

  binary-nodes : (l r : Tree) (op : Operator) → all_nodes good (binary l op r) ≡ (all_nodes good l && all_nodes good r)
  unfolding nodes_below
  binary-nodes l r op = ap (λ (x : Bool). x && (all_nodes good l && all_nodes good r)) (binaries l r op)

  between-two : (e : Tree) (lower upper : Typed) (options : BetweenOptions)
      → all_nodes good (between e (literal lower) (literal upper) options) ≡ all_nodes good e
  unfolding nodes_below
  between-two e lower upper options =
      ap (λ (x : Bool). x && (all_nodes good e && (all_nodes good (literal lower) && all_nodes good (literal upper))))
      (betweens e (literal lower) (literal upper) options)
      ∙ (ap (λ (x : Bool). all_nodes good e && (x && all_nodes good (literal upper))) (literal-nodes lower)
      ∙ (ap (λ (x : Bool). all_nodes good e && x) (literal-nodes upper) ∙ and-comm (all_nodes good e) true))

  read-nodes : (c : Tree) (a : Reading) (s : Typed) → Reads c a → a.other ≡ literal s → all_nodes good c ≡ all_nodes good a.operand
  read-nodes c a s (left_read l op r) e =
      binary-nodes l r op
      ∙ (ap (λ (z : Tree). all_nodes good l && all_nodes good z) e
      ∙ (ap (λ (x : Bool). all_nodes good l && x) (literal-nodes s) ∙ and-comm (all_nodes good l) true))
  read-nodes c a s (right_read l op r) e =
      binary-nodes l r op
      ∙ (ap (λ (z : Tree). all_nodes good z && all_nodes good r) e ∙ ap (λ (x : Bool). x && all_nodes good r) (literal-nodes s))

  between-nodes : (a b : Reading) (x : Tree) → Bounds a b x → all_nodes good x ≡ all_nodes good a.operand
  between-nodes a b x k =
      ap (all_nodes good) k.is ∙ between-two a.operand k.lower k.upper (record { lower_strict = k.below; upper_strict = k.above })

  range-nodes : (c d x : Tree) → range_of c d ≡ Some x → all_nodes good x ≡ (all_nodes good c && all_nodes good d)
  range-nodes c d x h = let p = range_of-parts c d x h in by-bounds p p.bounds
    where
      both : (a b : Reading) (e f : Tree) → Reads e a → Reads f b → Bounds a b x → all_nodes good x ≡ (all_nodes good e && all_nodes good f)
      both a b e f i j k =
          between-nodes a b x k
          ∙ (sym (and-twice (all_nodes good a.operand))
          ∙ (ap (λ (y : Bool). y && all_nodes good a.operand) (sym (read-nodes e a k.lower i k.is_lower))
          ∙ ap (λ (y : Bool). all_nodes good e && y) (ap (all_nodes good) k.shared ∙ sym (read-nodes f b k.upper j k.is_upper))))

      by-bounds : (p : RangeParts c d x) → Bounds p.first p.second x ⊎ Bounds p.second p.first x → all_nodes good x ≡ (all_nodes good c && all_nodes good d)
      by-bounds p (inl k) = both p.first p.second c d p.reads_first p.reads_second k
      by-bounds p (inr k) = both p.second p.first d c p.reads_second p.reads_first k ∙ and-comm (all_nodes good d) (all_nodes good c)

  pub nodes : Measure Bool
  nodes = record {
    join = λ a b. a && b;
    assoc = and-assoc;
    comm = and-comm;
    alone = all_nodes good;
    within = all_nodes good;
    and_alone = λ l r. binary-nodes l r Operator.And;
    and_within = λ l r. binary-nodes l r Operator.And;
    range_alone = range-nodes;
    range_within = range-nodes;
  }

  -- such a test says the same of the nodes of an expression and of those of the expression with its ranges
  pub ranged-nodes : (e : Tree) → all_nodes good (ranged e) ≡ all_nodes good e
  unfolding nodes
  ranged-nodes e = alone-ranged Bool nodes e

ranged-simple : (e : Tree) → all_nodes is_simple (ranged e) ≡ all_nodes is_simple e
ranged-simple e = ranged-nodes is_simple (λ s. refl) (λ l r op. refl) (λ e l u options. refl) e

-- what simplifying by types makes is an expression of simple nodes with its ranges
record Settled (d : Tree) : Type 0 where
  pub before : Tree
  pub is : ranged before ≡ d
  pub simple : all_nodes is_simple before ≡ true

settled : (t : Ty) (e d : Tree) → simplified_typed t e ≡ Ok d → Settled d
settled t e d h =
    let a = and_then-ok (simplified e) (λ x. and_then (without_select t x) (λ y. and_then (without_merge t y) simplified)) d h in
    let b = and_then-ok (without_select t a.given) (λ y. and_then (without_merge t y) simplified) d a.gave in
    let c = and_then-ok (without_merge t b.given) simplified d b.gave in
    let f = and_then-ok (without_packed_fields c.given) (λ x. Ok (ranged x)) d c.gave in
    record {
      before = f.given;
      is = Ok-same (Ok d) (ranged f.given) d (sym f.gave) refl;
      simple = without_packed_fields-good c.given f.given (without_merge-good t b.given c.given (without_select-good t a.given b.given b.was) c.was) f.was;
    }

pub simplified_simple : SimplifiedNodesAreSimple
simplified_simple t e d h = let s = settled t e d h in subst (λ (z : Tree). all_nodes is_simple z ≡ true) s.is (ranged-simple s.before ∙ s.simple)

pub simplified_stays : SimplifiedStays
simplified_stays t e d h =
    let s = settled t e d h in
    let good = simplified_simple t e d h in
    let still : ranged d ≡ d = ap ranged (sym s.is) ∙ (ranged-stays s.before ∙ s.is) in
    let once : simplified d ≡ Ok d = ap (λ (x : Result Tree Refusal). and_then x (λ y. Ok (ranged y))) (without_packed_fields-stays d good) ∙ ap (λ (z : Tree). Ok z) still in
    ap (λ (x : Result Tree Refusal). and_then x (λ a. and_then (without_select t a) (λ b. and_then (without_merge t b) simplified))) once
    ∙ (ap (λ (x : Result Tree Refusal). and_then x (λ b. and_then (without_merge t b) simplified)) (without_select-stays t d good)
    ∙ (ap (λ (x : Result Tree Refusal). and_then x simplified) (without_merge-stays t d good) ∙ once))

-- simplifying by itself changes nothing again
pub simplified-twice : SimplifiedOnceStays
simplified-twice e d h =
    let f = and_then-ok (without_packed_fields e) (λ x. Ok (ranged x)) d h in
    let is : ranged f.given ≡ d = Ok-same (Ok d) (ranged f.given) d (sym f.gave) refl in
    let good : all_nodes is_unpacked (ranged f.given) ≡ true =
    ranged-nodes is_unpacked (λ s. refl) (λ l r op. refl) (λ e l u options. refl) f.given ∙ without_packed_fields-unpacked e f.given f.was in
    let still : ranged d ≡ d = ap ranged (sym is) ∙ (ranged-stays f.given ∙ is) in
    ap (λ (x : Result Tree Refusal). and_then x (λ y. Ok (ranged y))) (unpacked-stays d (subst (λ (z : Tree). all_nodes is_unpacked z ≡ true) is good))
    ∙ ap (λ (z : Tree). Ok z) still
