-- Which columns of a file are damaged is decided: what is read of a range it spells, and what it spells is read.
use Rattle.std.proofs.Common.{◌≡◌, refl, sym, ◌∙◌, subst, ℕ, zero, suc, Bool, true, false, cond, Option, Some, None, List, [], ◌∷◌}
use Rattle.std.specs.Bool.{Decides}
use Rattle.std.specs.List.{AllByRecursion, slice_get}
use Rattle.std.specs.Str.{bytes_eq}
use Rattle.std.proofs.lemmas.Bool.{false≢true}
use Rattle.std.proofs.lemmas.Option.{none-some, same_Some}
use Rattle.vx_dtype.specs.Types.{Bytes, Ty, Fields, no_fields, field}
use Rattle.vx_dtype.specs.TypeRules.{field_type}
use Rattle.vx_dtype.specs.Values.{Val}
use Rattle.vx_scan.specs.Stores.{Read}
use Rattle.vx_laws_file.specs.FileForms.{front_bytes, FileContent, header_of, ranges_bytes}
use Rattle.vx_laws_file.specs.FileLaws.{AreBytes}
use Rattle.vx_laws_file.specs.HeldTables.{range_values}
use Rattle.vx_laws_file.specs.Ranges.{SpellsRange, range_named, HasRange, IsDamaged}
use Rattle.vx_laws_file.proofs.HeldLemmas.{ranges_are_bytes, and_then_parts}
use Rattle.vx_laws_file.proofs.Lists.{bytes_behind}
use Rattle.vx_laws_file.proofs.RangeLemmas.{values_read, values_spelled}
use Rattle.vx_laws_shell.specs.Damage.{has_no_values, is_range_damaged, range_read, is_damaged_in, DamageIsDecided}

-- ---- the range of a read is bytes

each_at : {X : Type 0} (P : X → Type 0) (xs : List X) (i : ℕ) (x : X) → AllByRecursion P xs → slice_get xs i ≡ Some x → P x
each_at P [] i x h e = absurd (none-some x e)
each_at P (y ∷ xs) zero x h e = subst P (same_Some y x e) h.0
each_at P (y ∷ xs) (suc i) x h e = each_at P xs i x h.1 e

named_bytes : (f : Bytes) (fs : Fields) (rs : List Bytes) (r : Bytes) → AllByRecursion AreBytes rs → range_named f fs rs ≡ Some r → AreBytes r
named_bytes f no_fields rs r h e = absurd (none-some r e)
named_bytes f (field g t fs) [] r h e = absurd (none-some r e)
named_bytes f (field g t fs) (s ∷ rs) r h e = by-name (bytes_eq f g) e (named_bytes f fs rs r h.1)
  where
    by-name : (b : Bool) → cond b (Some s) (range_named f fs rs) ≡ Some r → (range_named f fs rs ≡ Some r → AreBytes r) → AreBytes r
    by-name true k rest = subst AreBytes (same_Some s r k) h.0
    by-name false k rest = rest k

-- each range of each block is bytes
abbrev pub HasBytes : FileContent → Type 0
HasBytes content = AllByRecursion (λ (rs : List Bytes). AllByRecursion AreBytes rs) content.ranges

read_bytes : (content : FileContent) (read : Read) (r : Bytes) → HasBytes content → range_read content read ≡ Some r → AreBytes r
read_bytes content read r here e =
    let parts = and_then_parts (range_named read.1 content.zones.columns) (slice_get content.ranges read.0) r e in
    named_bytes read.1 content.zones.columns parts.0 r
    (each_at (λ (rs : List Bytes). AllByRecursion AreBytes rs) content.ranges read.0 parts.0 here parts.1) parts.2

-- ---- it is values of its column, or none

-- a read has one type, one number of rows and one range
one_range_read : (content : FileContent) (read : Read) (t u : Ty) (n m : ℕ) (r s : Bytes) (values : List Val)
    → HasRange content read.0 read.1 t n r → HasRange content read.0 read.1 u m s → SpellsRange t n r values → SpellsRange u m s values
one_range_read content read t u n m r s values p q h =
    let types = same_Some t u (sym p.ty ∙ q.ty) in
    let numbers = same_Some n m (sym p.number ∙ q.number) in
    let ranges = same_Some r s (sym p.stands ∙ q.stands) in
    subst (λ (k : Bytes). SpellsRange u m k values) ranges
    (subst (λ (k : ℕ). SpellsRange u k r values) numbers (subst (λ (k : Ty). SpellsRange k n r values) types h))

decided_by : (content : FileContent) (read : Read) → HasBytes content → (ty : Option Ty) (number : Option ℕ) (range : Option Bytes)
    → field_type read.1 content.zones.columns ≡ ty → slice_get content.zones.lengths read.0 ≡ number → range_read content read ≡ range
    → Decides (is_range_damaged ty number range) (IsDamaged content read.0 read.1)
decided_by content read here None number range a b c = (λ k. absurd (false≢true k), λ d. absurd (none-some d.0 (sym a ∙ d.3.ty)))
decided_by content read here (Some t) None range a b c = (λ k. absurd (false≢true k), λ d. absurd (none-some d.1 (sym b ∙ d.3.number)))
decided_by content read here (Some t) (Some n) None a b c = (λ k. absurd (false≢true k), λ d. absurd (none-some d.2 (sym c ∙ d.3.stands)))
decided_by content read here (Some t) (Some n) (Some r) a b c = by-values (range_values t n r) refl
  where
    there : HasRange content read.0 read.1 t n r
    there = record { number = b; ty = a; stands = c }

    by-values : (o : Option (List Val)) → range_values t n r ≡ o → Decides (has_no_values o) (IsDamaged content read.0 read.1)
    by-values None e = (λ k. (t, n, r, there, λ values s. none-some values (sym e ∙ values_read t n r values s)), λ d. refl)
    by-values (Some values) e = (
      λ k. absurd (false≢true k),
      λ d. absurd (d.4 values
          (one_range_read content read t d.0 n d.1 r d.2 values there d.3 (values_spelled t n r values (read_bytes content read r here c) e))),
    )

pub damage_so : (content : FileContent) (read : Read) → HasBytes content → Decides (is_damaged_in content read) (IsDamaged content read.0 read.1)
unfolding is_damaged_in
damage_so content read here =
    decided_by content read here (field_type read.1 content.zones.columns) (slice_get content.zones.lengths read.0) (range_read content read) refl refl refl

pub damage_is_decided : DamageIsDecided
damage_is_decided bytes content read here opened =
    damage_so content read
    (ranges_are_bytes content.ranges
    (bytes_behind (front_bytes (header_of content)) (ranges_bytes content.ranges) (subst AreBytes opened.header.stands here)))
