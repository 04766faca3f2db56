-- Which blocks a filter of the exact class skips.
use Rattle.std.proofs.Common.{◌≡◌, ◌∙◌, sym, ap, refl, subst, ℕ, zero, suc, ◌+◌, ◌<◌, ◌≤◌, nat_eq, Bool, true, false, cond, ◌||◌, List, [], ◌∷◌, map, length, slice_get, filter, Some, None, Option, Result, Ok, Err, IfOk, Vec, Global, ne_eqb, eq-eqb, arith}
use Rattle.std.specs.List.{list_any}
use Rattle.std.specs.Bool.{Decides}
use Rattle.std.proofs.lemmas.Option.{same_Some}
use Rattle.std.proofs.lemmas.Bool.Decides.{Decides-at}
use Rattle.vx_dtype.specs.declared.memory.NoMemory.{NoMemory}
use Rattle.vx_dtype.specs.Types.{Bytes, Ty}
use Rattle.vx_dtype.specs.TypeRules.{is_bool_ty}
use Rattle.vx_dtype.specs.Values.{Val}
use Rattle.vx_expr.specs.Trees.{Tree}
use Rattle.vx_semantics.specs.Typing.{Refusal, type_mismatch, unless, and_then, typed_of}
use Rattle.vx_semantics.specs.Meaning.{Slots}
use Rattle.vx_semantics.specs.Slots.{slots_fit}
use Rattle.vx_semantics.specs.Tables.{Zones, row_type, numbered_from}
use Rattle.vx_semantics.specs.Pruning.{rules_out}
use Rattle.vx_eval.specs.Evaluating.{checked_type}
use Rattle.vx_laws_pruning.proofs.Bounded.{accepted_pruning_is_exact}
use Rattle.vx_laws_pruning.specs.PruningLaws.{AreAccepted}
use Rattle.vx_laws_scan.specs.Exactness.{is_exact_filter}
use Rattle.vx_scan.specs.Reports.{Report, report_view}
use Rattle.vx_scan.specs.Scanning.{on_side, after_filter, scan_type, IsReport}
use Rattle.vx_scan.specs.declared.errors.ScanError.{ScanError}
use Rattle.vx_scan.specs.declared.errors.Side.TheVariants.{Filter, Projection}
use Rattle.vx_scan.proofs.TextLemmas.{texts_so}
use Rattle.vx_laws_skipping.specs.ExactSkipping.{IsExactFlag, RuledOutIsExact, is_among, ScansSkipExactly, TextScansSkipExactly}

-- the flag at a place is that of its number
flag-at : {X : Type 0} (p : ℕ → Bool) (n : ℕ) (xs : List X) (i : ℕ) (flag : Bool)
    → slice_get (map (λ (b : ℕ × X). p b.0) (numbered_from n xs)) i ≡ Some flag → flag ≡ p (n + i)
flag-at p n [] i flag h = let no : ⊥ = cc in absurd no
flag-at p n (x ∷ xs) zero flag h = let here : n ≡ n + zero = omega arith in sym (same_Some (p n) flag h) ∙ ap p here
flag-at p n (x ∷ xs) (suc i) flag h = let next : suc n + i ≡ n + suc i = omega arith in flag-at p (suc n) xs i flag h ∙ ap p next

pub ruled_out_is_exact : RuledOutIsExact
ruled_out_is_exact zones slots f u (Err e) accepted class typed answered = tt
ruled_out_is_exact zones slots f u (Ok flags) accepted class typed answered = λ block flag at known row.
    let same : flag ≡ rules_out zones slots (0 + block) f =
    flag-at (λ b. rules_out zones slots b f) 0 zones.lengths block flag (ap (λ (bs : List Bool). slice_get bs block) (sym answered) ∙ at) in
    let here : 0 + block ≡ block = omega arith in
    Decides-at flag (rules_out zones slots block f) (same ∙ ap (λ (b : ℕ). rules_out zones slots b f) here)
    (accepted_pruning_is_exact zones slots block row f u accepted class typed known)

-- ---- skipped blocks

-- a number before all others is not among them
not-before : {X : Type 0} (p : ℕ → Bool) (n : ℕ) (xs : List X) (i : ℕ) → i < n
    → is_among (map (λ (b : ℕ × X). b.0) (filter (λ (b : ℕ × X). p b.0) (numbered_from n xs))) i ≡ false
not-before p n [] i h = refl
not-before {X} p n (x ∷ xs) i h = by (p n) (not-before p (suc n) xs i (omega arith))
  where
    by : (b : Bool) → is_among (map (λ (c : ℕ × X). c.0) (filter (λ (c : ℕ × X). p c.0) (numbered_from (suc n) xs))) i ≡ false
        → is_among (map (λ (c : ℕ × X). c.0) (cond b ((n, x) ∷ filter (λ (c : ℕ × X). p c.0) (numbered_from (suc n) xs)) (filter (λ (c : ℕ × X). p c.0) (numbered_from (suc n) xs)))) i ≡ false
    by true k = ap (λ (a : Bool). a || is_among (map (λ (c : ℕ × X). c.0) (filter (λ (c : ℕ × X). p c.0) (numbered_from (suc n) xs))) i) (ne_eqb i n (λ e. omega arith)) ∙ k
    by false k = k

-- a number is among those that pass a test exactly where it passes
among-passing : {X : Type 0} (p : ℕ → Bool) (n : ℕ) (xs : List X) (i : ℕ) → i < length xs
    → is_among (map (λ (b : ℕ × X). b.0) (filter (λ (b : ℕ × X). p b.0) (numbered_from n xs))) (n + i) ≡ p (n + i)
among-passing p n [] i h = absurd (omega (arith, h))
among-passing {X} p n (x ∷ xs) zero h =
    let here : n + zero ≡ n = omega arith in
    ap (λ (k : ℕ). is_among (map (λ (b : ℕ × X). b.0) (filter (λ (b : ℕ × X). p b.0) (numbered_from n (x ∷ xs)))) k) here
    ∙ by (p n) (not-before p (suc n) xs n (omega arith)) ∙ ap p (sym here)
  where
    by : (b : Bool) → is_among (map (λ (c : ℕ × X). c.0) (filter (λ (c : ℕ × X). p c.0) (numbered_from (suc n) xs))) n ≡ false
        → is_among (map (λ (c : ℕ × X). c.0) (cond b ((n, x) ∷ filter (λ (c : ℕ × X). p c.0) (numbered_from (suc n) xs)) (filter (λ (c : ℕ × X). p c.0) (numbered_from (suc n) xs)))) n ≡ b
    by true k = ap (λ (a : Bool). a || is_among (map (λ (c : ℕ × X). c.0) (filter (λ (c : ℕ × X). p c.0) (numbered_from (suc n) xs))) n) (eq-eqb n n refl)
    by false k = k
among-passing {X} p n (x ∷ xs) (suc i) h =
    let next : n + suc i ≡ suc n + i = omega arith in
    ap (λ (k : ℕ). is_among (map (λ (b : ℕ × X). b.0) (filter (λ (b : ℕ × X). p b.0) (numbered_from n (x ∷ xs)))) k) next
    ∙ by (p n) (among-passing p (suc n) xs i (omega arith)) ∙ ap p (sym next)
  where
    by : (b : Bool) → is_among (map (λ (c : ℕ × X). c.0) (filter (λ (c : ℕ × X). p c.0) (numbered_from (suc n) xs))) (suc n + i) ≡ p (suc n + i)
        → is_among (map (λ (c : ℕ × X). c.0) (cond b ((n, x) ∷ filter (λ (c : ℕ × X). p c.0) (numbered_from (suc n) xs)) (filter (λ (c : ℕ × X). p c.0) (numbered_from (suc n) xs)))) (suc n + i) ≡ p (suc n + i)
    by true k =
        ap (λ (a : Bool). a || is_among (map (λ (c : ℕ × X). c.0) (filter (λ (c : ℕ × X). p c.0) (numbered_from (suc n) xs))) (suc n + i)) (ne_eqb (suc n + i) n (λ e. omega arith)) ∙ k
    by false k = k

-- ---- typed filters

-- the filter of a scan that is typed has a type
record HasType (t : Ty) (e : Tree) : Type 0 where
  own : Ty
  typed : typed_of t e ≡ Ok own

checked-typed : (t : Ty) (slots : Slots) (e : Tree) (u : Ty) → checked_type t slots e ≡ Ok u → HasType t e
checked-typed t slots e u h = by (typed_of t e) refl h
  where
    by : (r : Result Ty Refusal) → typed_of t e ≡ r → and_then r (λ w. unless (slots_fit slots e) type_mismatch (Ok w)) ≡ Ok u → HasType t e
    by (Ok w) is k = record { own = w; typed = is }
    by (Err why) is k = let no : ⊥ = cc in absurd no

filter-typed : (t : Ty) (slots : Slots) (f p : Tree) (u : Ty) → scan_type t slots f p ≡ Ok u → HasType t f
filter-typed t slots f p u h = by (checked_type t slots f) refl h
  where
    by : (r : Result Ty Refusal) → checked_type t slots f ≡ r → after_filter (on_side Filter r) (on_side Projection (checked_type t slots p)) ≡ Ok u → HasType t f
    by (Ok w) e k = checked-typed t slots f w e
    by (Err why) e k = let no : ⊥ = cc in absurd no

pub scans_skip_exactly : ScansSkipExactly
scans_skip_exactly slots f p before after report block accepted class ended within = λ known row.
    let typed = filter-typed (row_type before.zones.columns) slots f p report.ty ended.typed in
    let here : 0 + block ≡ block = omega arith in
    Decides-at (is_among report.skipped block) (rules_out before.zones slots block f)
    (ap (λ (blocks : List ℕ). is_among blocks block) ended.skipped
    ∙ subst
    (λ (b : ℕ). is_among (map (λ (c : ℕ × ℕ). c.0) (filter (λ (c : ℕ × ℕ). rules_out before.zones slots c.0 f) (numbered_from 0 before.zones.lengths))) b ≡ rules_out before.zones slots b f)
    here (among-passing (λ b. rules_out before.zones slots b f) 0 before.zones.lengths block within))
    (accepted_pruning_is_exact before.zones slots block row f typed.own accepted class typed.typed known)

pub text_scans_skip_exactly : TextScansSkipExactly
text_scans_skip_exactly holds ft pt f p before after report block accepted class spelled ended within =
    scans_skip_exactly [] f p before after (report_view report) block accepted class (texts_so holds ft pt f p before after (Ok report) spelled ended) within
