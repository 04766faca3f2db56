-- Two texts spell two expressions at most, and have one refusal at most.
use Rattle.std.proofs.Common.{◌≡◌, ◌≢◌, refl, ap, sym, ◌∙◌, ℕ, Bool, [], ◌++◌, Option, Some, None, Result, Ok, Err, subst, arith, inl, inr}
use Rattle.vx_dtype.specs.Types.{Bytes}
use Rattle.vx_expr.specs.Trees.{Tree}
use Rattle.vx_wire_bytes.specs.Openings.{IsTooDeep, IsTooMany}
use Rattle.vx_wire_bytes.specs.Wires.{Wire, node, Wires, no_wires, first, number_of}
use Rattle.vx_wire_bytes.specs.ReadAnswers.{IsRead, IsBadWire}
use Rattle.vx_wire_bytes.proofs.ReadLemmas.{one_node}
use Rattle.vx_wire.specs.Registries.{held_named}
use Rattle.vx_wire.specs.Building.{IsBuilt, AreBuilt, IsRefusedAt, IsRefusedFirst, IsOneRefused, IsUnbuilt}
use Rattle.vx_wire.specs.declared.encodings.ExprEncoding.{ExprEncoding}
use Rattle.vx_wire.specs.declared.errors.BuildError.{BuildError}
use Rattle.vx_wire.specs.declared.errors.BuildError.TheVariants as builds
use Rattle.vx_wire.proofs.LawLemmas.{one_built, never_both}
use Rattle.vx_scan.specs.ErrorKinds.{ErrorKind, of_memory, of_text, of_types, of_break, of_read, kind_of, OnlyOfText}
use Rattle.vx_scan.specs.Stores.{StoreSeen}
use Rattle.vx_scan.specs.Texts.{SpellsTree, SpellsUnbuilt, IsTextRefused, SpellBoth, AreRefused}
use Rattle.vx_scan.specs.Scanning.{IsScanStopped, IsScanOf, IsUnspelled}
use Rattle.vx_scan.specs.ScanLaws.{TextsScanAsTheySpell}
use Rattle.vx_scan.specs.declared.errors.Side.{Side}
use Rattle.vx_scan.specs.declared.errors.Side.TheVariants.{Filter, Projection}
use Rattle.vx_scan.specs.declared.errors.ScanError.{ScanError}
use Rattle.vx_scan.specs.declared.errors.ScanError.TheVariants as errors
use Rattle.vx_scan.specs.declared.reports.ScanReport.{ScanReport}

-- bytes are read as one tree, and spell one expression
one_read : (bytes : Bytes) (a b : Wire) → IsRead bytes a → IsRead bytes b → a ≡ b
one_read bytes a b p q =
    (one_node a b [] [] p.spelled.spellable q.spelled.spellable (ap (λ (x : Bytes). x ++ []) (sym p.spelled.spelled ∙ q.spelled.spelled))).0

pub one_spelled : (holds : ExprEncoding → Bool) (bytes : Bytes) (a b : Tree) → SpellsTree holds bytes a → SpellsTree holds bytes b → a ≡ b
one_spelled holds bytes a b p q =
    let same : p.0 ≡ q.0 = one_read bytes p.0 q.0 p.1 q.1 in
    one_built holds q.0 a b (subst (λ (w : Wire). IsBuilt holds w a) same p.2) q.2

-- bytes that spell an expression have no refusal
spelled_is_built : (holds : ExprEncoding → Bool) (bytes : Bytes) (e : Tree) (why : BuildError) → why ≢ builds.NoMemory → SpellsTree holds bytes e → ¬ (SpellsUnbuilt holds bytes why)
spelled_is_built holds bytes e why n s u =
    let same : s.0 ≡ u.0 = one_read bytes s.0 u.0 s.1 u.1 in
    never_both holds u.0 e why (subst (λ (w : Wire). IsBuilt holds w e) same s.2) n u.2

pub spelled_is_taken : (holds : ExprEncoding → Bool) (side : Side) (bytes : Bytes) (e : Tree) (why : ScanError) → SpellsTree holds bytes e → ¬ (IsTextRefused holds side bytes why)
spelled_is_taken holds side bytes e (errors.BadWire z) s h = h.1.no_tree s.0 s.1.spelled
spelled_is_taken holds side bytes e (errors.TooDeep z) s h = s.1.not_deep h.1
spelled_is_taken holds side bytes e (errors.TooManyNodes z) s h = s.1.not_many h.1
spelled_is_taken holds side bytes e (errors.UnknownExpr z) s h = spelled_is_built holds bytes e builds.UnknownExpr (λ same. absurd cc) s h.1
spelled_is_taken holds side bytes e (errors.BadMetadata z) s h = spelled_is_built holds bytes e builds.BadMetadata (λ same. absurd cc) s h.1
spelled_is_taken holds side bytes e (errors.WrongChildren z) s h = spelled_is_built holds bytes e builds.WrongChildren (λ same. absurd cc) s h.1
spelled_is_taken holds side bytes e _ s h = h

pub both_are_taken : (holds : ExprEncoding → Bool) (ft pt : Bytes) (f p : Tree) (why : ScanError) → SpellBoth holds ft pt f p → ¬ (AreRefused holds ft pt why)
both_are_taken holds ft pt f p why s (inl h) = spelled_is_taken holds Filter ft f why s.filter_spelled h
both_are_taken holds ft pt f p why s (inr h) = spelled_is_taken holds Projection pt p why s.projection_spelled h.1

unspelled_so : (holds : ExprEncoding → Bool) (ft pt : Bytes) (f p : Tree) (before after : StoreSeen) (result : Result ScanReport ScanError)
    → SpellBoth holds ft pt f p → IsUnspelled holds ft pt before after result → IsScanOf [] f p before after result
unspelled_so holds ft pt f p before after (Ok report) s h = absurd h
unspelled_so holds ft pt f p before after (Err e) s h = by (kind_of e) h.1
  where
    by : (k : ErrorKind) → OnlyOfText k (AreRefused holds ft pt e) → IsScanStopped k [] f p before after e
    by of_memory r = inl h.0
    by of_text r = both_are_taken holds ft pt f p e s r
    by of_types r = absurd r
    by (of_break cause) r = absurd r
    by of_read r = absurd r

pub texts_so : TextsScanAsTheySpell
texts_so holds ft pt f p before after result s (inl h) = unspelled_so holds ft pt f p before after result s h
texts_so holds ft pt f p before after result s (inr h) =
    let one : h.0 ≡ f = one_spelled holds ft h.0 f h.2.filter_spelled s.filter_spelled in
    let other : h.1 ≡ p = one_spelled holds pt h.1 p h.2.projection_spelled s.projection_spelled in
    subst (λ (g : Tree). IsScanOf [] g p before after result) one (subst (λ (q : Tree). IsScanOf [] h.0 q before after result) other h.3)

-- a wire tree that is refused builds nothing, and is refused for one reason
to_unbuilt : (holds : ExprEncoding → Bool) (w : Wire) (why : BuildError) → why ≢ builds.NoMemory → IsRefusedFirst holds why w → IsUnbuilt holds w why
to_unbuilt holds w builds.NoMemory n h = absurd (n refl)
to_unbuilt holds w builds.UnknownExpr n h = h
to_unbuilt holds w builds.BadMetadata n h = h
to_unbuilt holds w builds.WrongChildren n h = h

not_first : (holds : ExprEncoding → Bool) (why : BuildError) → why ≢ builds.NoMemory → (w : Wire) (e : Tree) → IsBuilt holds w e → ¬ (IsRefusedFirst holds why w)
not_first holds why n w e b h = never_both holds w e why b n (to_unbuilt holds w why n h)

none_among : (holds : ExprEncoding → Bool) (why : BuildError) → why ≢ builds.NoMemory → (ws : Wires) → AreBuilt holds ws → ¬ (IsOneRefused holds why ws)
none_among holds why n no_wires b h = h
none_among holds why n (first w ws) b (inl h) = not_first holds why n w b.0.0 b.0.1 h
none_among holds why n (first w ws) b (inr h) = none_among holds why n ws b.1 h.1

one_at : (kind : Option ExprEncoding) (metadata : Bytes) (children : ℕ) (why other : BuildError) → IsRefusedAt kind metadata children why → IsRefusedAt kind metadata children other → why ≡ other
one_at None metadata children why other h k = h ∙ sym k
one_at (Some kind) metadata children builds.NoMemory other h k = absurd h
one_at (Some kind) metadata children builds.UnknownExpr other h k = absurd h
one_at (Some kind) metadata children builds.BadMetadata builds.NoMemory h k = absurd k
one_at (Some kind) metadata children builds.BadMetadata builds.UnknownExpr h k = absurd k
one_at (Some kind) metadata children builds.BadMetadata builds.BadMetadata h k = refl
one_at (Some kind) metadata children builds.BadMetadata builds.WrongChildren h k = absurd (h k.0 k.1)
one_at (Some kind) metadata children builds.WrongChildren builds.NoMemory h k = absurd k
one_at (Some kind) metadata children builds.WrongChildren builds.UnknownExpr h k = absurd k
one_at (Some kind) metadata children builds.WrongChildren builds.BadMetadata h k = absurd (k h.0 h.1)
one_at (Some kind) metadata children builds.WrongChildren builds.WrongChildren h k = refl

mutual
  one_first : (holds : ExprEncoding → Bool) (why other : BuildError) → why ≢ builds.NoMemory → other ≢ builds.NoMemory → (w : Wire)
      → IsRefusedFirst holds why w → IsRefusedFirst holds other w → why ≡ other
  one_first holds why other n m (node id metadata children) (inl h) (inl k) = one_among holds why other n m children h k
  one_first holds why other n m (node id metadata children) (inl h) (inr k) = absurd (none_among holds why n children k.0 h)
  one_first holds why other n m (node id metadata children) (inr h) (inl k) = absurd (none_among holds other m children h.0 k)
  one_first holds why other n m (node id metadata children) (inr h) (inr k) = one_at (held_named holds id) metadata (number_of children) why other h.1 k.1

  one_among : (holds : ExprEncoding → Bool) (why other : BuildError) → why ≢ builds.NoMemory → other ≢ builds.NoMemory → (ws : Wires)
      → IsOneRefused holds why ws → IsOneRefused holds other ws → why ≡ other
  one_among holds why other n m no_wires h k = absurd h
  one_among holds why other n m (first w ws) (inl h) (inl k) = one_first holds why other n m w h k
  one_among holds why other n m (first w ws) (inl h) (inr k) = absurd (not_first holds why n w k.0.0 k.0.1 h)
  one_among holds why other n m (first w ws) (inr h) (inl k) = absurd (not_first holds other m w h.0.0 h.0.1 k)
  one_among holds why other n m (first w ws) (inr h) (inr k) = one_among holds why other n m ws h.1 k.1

-- why a text is refused
data Why : Type 0 where
  no_wire : Why
  too_deep : Why
  too_many : Why
  unbuilt : BuildError → Why

abbrev IsWhy : (ExprEncoding → Bool) → Bytes → Why → Type 0
IsWhy holds bytes no_wire = IsBadWire bytes
IsWhy holds bytes too_deep = IsTooDeep bytes
IsWhy holds bytes too_many = IsTooMany bytes
IsWhy holds bytes (unbuilt why) = (wire : Wire) × IsRead bytes wire × (why ≢ builds.NoMemory) × IsRefusedFirst holds why wire

abbrev error_of : Side → Why → ScanError
error_of side no_wire = errors.BadWire side
error_of side too_deep = errors.TooDeep side
error_of side too_many = errors.TooManyNodes side
error_of side (unbuilt builds.NoMemory) = errors.NoMemory
error_of side (unbuilt builds.UnknownExpr) = errors.UnknownExpr side
error_of side (unbuilt builds.BadMetadata) = errors.BadMetadata side
error_of side (unbuilt builds.WrongChildren) = errors.WrongChildren side

-- bytes meet one limit first
one_limit : (bytes : Bytes) → IsTooDeep bytes → ¬ (IsTooMany bytes)
one_limit bytes deep many =
    let before = deep.first many.prefix many.rest many.depth many.bytes_are many.many in
    let after = many.first deep.prefix deep.rest deep.count deep.bytes_are deep.deep in
    omega (arith, before, after)

one_why : (holds : ExprEncoding → Bool) (bytes : Bytes) (a b : Why) → IsWhy holds bytes a → IsWhy holds bytes b → a ≡ b
one_why holds bytes no_wire no_wire h k = refl
one_why holds bytes no_wire too_deep h k = absurd (h.not_deep k)
one_why holds bytes no_wire too_many h k = absurd (h.not_many k)
one_why holds bytes no_wire (unbuilt why) h k = absurd (h.no_tree k.0 k.1.spelled)
one_why holds bytes too_deep no_wire h k = absurd (k.not_deep h)
one_why holds bytes too_deep too_deep h k = refl
one_why holds bytes too_deep too_many h k = absurd (one_limit bytes h k)
one_why holds bytes too_deep (unbuilt why) h k = absurd (k.1.not_deep h)
one_why holds bytes too_many no_wire h k = absurd (k.not_many h)
one_why holds bytes too_many too_deep h k = absurd (one_limit bytes k h)
one_why holds bytes too_many too_many h k = refl
one_why holds bytes too_many (unbuilt why) h k = absurd (k.1.not_many h)
one_why holds bytes (unbuilt why) no_wire h k = absurd (k.no_tree h.0 h.1.spelled)
one_why holds bytes (unbuilt why) too_deep h k = absurd (h.1.not_deep k)
one_why holds bytes (unbuilt why) too_many h k = absurd (h.1.not_many k)
one_why holds bytes (unbuilt why) (unbuilt other) h k =
    let same : h.0 ≡ k.0 = one_read bytes h.0 k.0 h.1 k.1 in
    ap (λ (e : BuildError). unbuilt e)
    (one_first holds why other h.2 k.2 k.0 (subst (λ (w : Wire). IsRefusedFirst holds why w) same h.3) k.3)

-- the reason of a text's refusal
why_of : (holds : ExprEncoding → Bool) (side : Side) (bytes : Bytes) (e : ScanError) → IsTextRefused holds side bytes e → (why : Why) × IsWhy holds bytes why × (e ≡ error_of side why)
why_of holds side bytes (errors.BadWire z) h = (no_wire, h.1, ap (λ (s : Side). errors.BadWire s) h.0)
why_of holds side bytes (errors.TooDeep z) h = (too_deep, h.1, ap (λ (s : Side). errors.TooDeep s) h.0)
why_of holds side bytes (errors.TooManyNodes z) h = (too_many, h.1, ap (λ (s : Side). errors.TooManyNodes s) h.0)
why_of holds side bytes (errors.UnknownExpr z) h = (unbuilt builds.UnknownExpr, (h.1.0, h.1.1, λ same. absurd cc, h.1.2), ap (λ (s : Side). errors.UnknownExpr s) h.0)
why_of holds side bytes (errors.BadMetadata z) h = (unbuilt builds.BadMetadata, (h.1.0, h.1.1, λ same. absurd cc, h.1.2), ap (λ (s : Side). errors.BadMetadata s) h.0)
why_of holds side bytes (errors.WrongChildren z) h = (unbuilt builds.WrongChildren, (h.1.0, h.1.1, λ same. absurd cc, h.1.2), ap (λ (s : Side). errors.WrongChildren s) h.0)
why_of holds side bytes _ h = absurd h

pub one_refusal_of : (holds : ExprEncoding → Bool) (side : Side) (bytes : Bytes) (d e : ScanError) → IsTextRefused holds side bytes d → IsTextRefused holds side bytes e → d ≡ e
one_refusal_of holds side bytes d e h k =
    let a = why_of holds side bytes d h in
    let b = why_of holds side bytes e k in
    a.2 ∙ ap (error_of side) (one_why holds bytes a.0 b.0 a.1 b.1) ∙ sym b.2

pub one_text_refusal : (holds : ExprEncoding → Bool) (ft pt : Bytes) (d e : ScanError) → AreRefused holds ft pt d → AreRefused holds ft pt e → d ≡ e
one_text_refusal holds ft pt d e (inl h) (inl k) = one_refusal_of holds Filter ft d e h k
one_text_refusal holds ft pt d e (inl h) (inr k) = absurd (spelled_is_taken holds Filter ft k.0.0 d k.0.1 h)
one_text_refusal holds ft pt d e (inr h) (inl k) = absurd (spelled_is_taken holds Filter ft h.0.0 e h.0.1 k)
one_text_refusal holds ft pt d e (inr h) (inr k) = one_refusal_of holds Projection pt d e h.1 k.1
