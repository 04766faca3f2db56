-- The laws of the common type of integer types.
use Rattle.std.proofs.Common.{◌≡◌, refl, subst, ℤ, Bool, true, false, cond, not, ◌&&◌, ◌||◌, List, [], ◌∷◌, Option, Some, None, int_le, arith}
use Rattle.std.specs.Prelude.{MatchOption}
use Rattle.std.proofs.lemmas.Int.{ints}
use Rattle.std.proofs.lemmas.Bool.{and_parts, and_from}
use Rattle.vx_dtype.specs.declared.PType.{PType}
use Rattle.vx_dtype.specs.declared.PType.TheVariants.{U8, U16, U32, U64, I8, I16, I32, I64}
use Rattle.vx_dtype.specs.Fits.{least, greatest}
use Rattle.vx_laws_sql.specs.CommonTypes.{holds_type, by_width, first_where, common_type, common_of_three, first_apart}
use Rattle.vx_laws_sql.specs.TypeLaws.{HeldNumbersFit, CommonTypeHoldsBoth, CommonTypeIsNarrowest, TypesApartHaveNone}

int_le-by : (a b c : ℤ) (v : Bool) → int_le a c ≡ v → int_le a b ≡ true → int_le b c ≡ true → int_le a c ≡ true
int_le-by a b c true e h k = e
int_le-by a b c false e h k = let no : ⊥ = omega (arith, ints) in absurd no

int_le-trans : (a b c : ℤ) → int_le a b ≡ true → int_le b c ≡ true → int_le a c ≡ true
int_le-trans a b c h k = int_le-by a b c (int_le a c) refl h k

pub held_numbers_fit : HeldNumbersFit
held_numbers_fit p q i h k =
    let a = and_parts (int_le (least p) (least q)) (int_le (greatest q) (greatest p)) h in
    let b = and_parts (int_le (least q) i) (int_le i (greatest q)) k in
    and_from (int_le (least p) i) (int_le i (greatest p)) (int_le-trans (least p) (least q) i a.0 b.0) (int_le-trans i (greatest q) (greatest p) b.1 a.1)

found-at : (b : Bool) (test : PType → Bool) (p : PType) (ps : List PType) (c : PType)
    → ((d : PType) → first_where test ps ≡ Some d → test d ≡ true) → test p ≡ b → cond b (Some p) (first_where test ps) ≡ Some c → test c ≡ true
found-at true test p ps c rest e h = subst (λ (d : PType). test d ≡ true) (cc (h)) e
found-at false test p ps c rest e h = rest c h

-- what is found passes the test
pub found : (test : PType → Bool) (ps : List PType) (c : PType) → first_where test ps ≡ Some c → test c ≡ true
found test [] c h = let no : ⊥ = cc in absurd no
found test (p ∷ ps) c h = found-at (test p) test p ps c (found test ps) refl h

pub common_holds_both : CommonTypeHoldsBoth
common_holds_both p q c h =
    let both = found (λ (d : PType). holds_type d p && holds_type d q) by_width c h in
    and_parts (holds_type c p) (holds_type c q) both

-- the common type of three holds each
pub common_of_three-holds : (p q r c : PType) → common_of_three p q r ≡ Some c → (holds_type c p ≡ true) × ((holds_type c q ≡ true) × (holds_type c r ≡ true))
common_of_three-holds p q r c h =
    let all = found (λ (d : PType). holds_type d p && (holds_type d q && holds_type d r)) by_width c h in
    let first = and_parts (holds_type c p) (holds_type c q && holds_type c r) all in
    (first.0, and_parts (holds_type c q) (holds_type c r) first.1)

-- a test that each integer type passes
abbrev every : (PType → Bool) → Bool
every test = test U8 && (test U16 && (test U32 && (test U64 && (test I8 && (test I16 && (test I32 && test I64))))))

every-of : (test : PType → Bool) → test U8 ≡ true → test U16 ≡ true → test U32 ≡ true → test U64 ≡ true → test I8 ≡ true → test I16 ≡ true → test I32 ≡ true
    → test I64 ≡ true
    → (p : PType) → test p ≡ true
every-of test a b c d e f g h U8 = a
every-of test a b c d e f g h U16 = b
every-of test a b c d e f g h U32 = c
every-of test a b c d e f g h U64 = d
every-of test a b c d e f g h I8 = e
every-of test a b c d e f g h I16 = f
every-of test a b c d e f g h I32 = g
every-of test a b c d e f g h I64 = h

every-at : (test : PType → Bool) → every test ≡ true → (p : PType) → test p ≡ true
every-at test h p =
    let a = and_parts (test U8) (test U16 && (test U32 && (test U64 && (test I8 && (test I16 && (test I32 && test I64)))))) h in
    let b = and_parts (test U16) (test U32 && (test U64 && (test I8 && (test I16 && (test I32 && test I64))))) a.1 in
    let c = and_parts (test U32) (test U64 && (test I8 && (test I16 && (test I32 && test I64)))) b.1 in
    let d = and_parts (test U64) (test I8 && (test I16 && (test I32 && test I64))) c.1 in
    let e = and_parts (test I8) (test I16 && (test I32 && test I64)) d.1 in
    let f = and_parts (test I16) (test I32 && test I64) e.1 in
    let g = and_parts (test I32) (test I64) f.1 in
    every-of test a.0 b.0 c.0 d.0 e.0 f.0 g.0 g.1 p

-- whether a type holds a common type, where there is one
abbrev held_where : PType → Option PType → Bool
held_where r None = false
held_where r (Some c) = holds_type r c

-- whether a type that holds both holds their common type
abbrev is_narrowest : PType → PType → PType → Bool
is_narrowest p q r = not (holds_type r p && holds_type r q) || held_where r (common_type p q)

all_narrowest : every (λ p. every (λ q. every (is_narrowest p q))) ≡ true
all_narrowest = refl

narrowest-of : (both : Bool) (r : PType) (o : Option PType) → not both || held_where r o ≡ true → both ≡ true → MatchOption o ⊥ (λ c. holds_type r c ≡ true)
narrowest-of true r (Some c) h e = h
narrowest-of true r None h e = cc (h)
narrowest-of false r o h e = let no : ⊥ = cc (e) in absurd no

pub common_is_narrowest : CommonTypeIsNarrowest
common_is_narrowest p q r h =
    let first = every-at (λ (a : PType). every (λ b. every (is_narrowest a b))) all_narrowest p in
    let second = every-at (λ (b : PType). every (is_narrowest p b)) first q in
    narrowest-of (holds_type r p && holds_type r q) r (common_type p q) (every-at (is_narrowest p q) second r) h

abbrev is_found : Option PType → Bool
is_found None = false
is_found (Some c) = true

-- whether the two that are named of three have no common type, where the three have none
abbrev are_apart : PType → PType → PType → Bool
are_apart p q r = is_found (common_of_three p q r) || not (is_found (common_type (first_apart p q r).0 (first_apart p q r).1))

all_apart : every (λ p. every (λ q. every (are_apart p q))) ≡ true
all_apart = refl

apart-of : (three two : Option PType) → is_found three || not (is_found two) ≡ true → three ≡ None → two ≡ None
apart-of three None h e = refl
apart-of None (Some c) h e = let no : ⊥ = cc (h) in absurd no
apart-of (Some d) (Some c) h e = let no : ⊥ = cc (e) in absurd no

pub types_apart_have_none : TypesApartHaveNone
types_apart_have_none p q r h =
    let first = every-at (λ (a : PType). every (λ b. every (are_apart a b))) all_apart p in
    let second = every-at (λ (b : PType). every (are_apart p b)) first q in
    apart-of (common_of_three p q r) (common_type (first_apart p q r).0 (first_apart p q r).1) (every-at (are_apart p q) second r) h
