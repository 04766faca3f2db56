-- The last giver of a name where one more struct stands before the others, in typing, meaning and asking.
use Rattle.std.proofs.Common.{◌≡◌, refl, ap, sym, ◌∙◌, Bool, true, false, cond, ◌||◌, Option, Some, None, List, [], ◌∷◌, ◌++◌}
use Rattle.std.specs.Prelude.{is_some, option_map, unwrap_or}
use Rattle.std.specs.Option.{option_or, option_and_then}
use Rattle.std.specs.Str.{bytes_eq}
use Rattle.std.specs.List.{flat_map}
use Rattle.vx_dtype.specs.Types.{Bytes, Ty, Fields, no_fields, field}
use Rattle.vx_dtype.specs.TypeRules.{fields_of, field_names, field_type, has_name}
use Rattle.vx_dtype.specs.Values.{Val, fault}
use Rattle.vx_dtype.specs.Structs.{field_of}
use Rattle.vx_expr.specs.Trees.{Trees, no_trees, tree}
use Rattle.vx_semantics.specs.Merging.{last_giver}
use Rattle.vx_semantics.specs.Typing.{names_in, type_in, merged_type_at, given_names}
use Rattle.vx_semantics.specs.Meaning.{Slots, sources, mean, Source, source_names, merged_value}
use Rattle.vx_semantics.specs.Asked.{asked, Giver, giver_names, givers, asked_of_giver}

-- whether one of the structs gives the name
abbrev pub some_gives : {X : Type 0} → (X → List Bytes) → Bytes → List X → Bool
some_gives names f xs = is_some (last_giver names f xs)

-- the first struct, where it gives the name
abbrev pub giver_here : {X : Type 0} → (X → List Bytes) → Bytes → X → Option X
giver_here names f x = cond (has_name f (names x)) (Some x) None

pub some_gives-step : {X : Type 0} (names : X → List Bytes) (f : Bytes) (x : X) (xs : List X)
    → some_gives names f (x ∷ xs) ≡ cond (some_gives names f xs) true (has_name f (names x))
some_gives-step {X} names f x xs = by-rest (last_giver names f xs) (has_name f (names x))
  where
    by-rest : (o : Option X) (b : Bool) → is_some (option_or o (cond b (Some x) None)) ≡ cond (is_some o) true b
    by-rest (Some y) b = refl
    by-rest None true = refl
    by-rest None false = refl

no_name-no_type : (f : Bytes) (fs : Fields) → has_name f (field_names fs) ≡ false → field_type f fs ≡ None
no_name-no_type f no_fields h = refl
no_name-no_type f (field g t fs) h = by-test (bytes_eq f g) h (no_name-no_type f fs)
  where
    by-test : (b : Bool) → (b || has_name f (field_names fs)) ≡ false → (has_name f (field_names fs) ≡ false → field_type f fs ≡ None) → cond b (Some t) (field_type f fs) ≡ None
    by-test true k r = let no : ⊥ = cc in absurd no
    by-test false k r = r k

pub merged_type_at-step : (f : Bytes) (t : Ty) (ts : List Ty) → merged_type_at f (t ∷ ts) ≡ cond (some_gives names_in f ts) (merged_type_at f ts) (type_in f t)
merged_type_at-step f t ts = by-rest (last_giver names_in f ts) (has_name f (names_in t)) refl
  where
    by-rest : (o : Option Ty) (b : Bool) → has_name f (names_in t) ≡ b
        → option_and_then (type_in f) (option_or o (cond b (Some t) None)) ≡ cond (is_some o) (option_and_then (type_in f) o) (type_in f t)
    by-rest (Some u) b e = refl
    by-rest None true e = refl
    by-rest None false e = rw (no_name-no_type f (fields_of t) e) refl

pub merged_value-step : (f : Bytes) (s : Source) (ss : List Source)
    → merged_value f (s ∷ ss) ≡ cond (some_gives source_names f ss) (merged_value f ss) (cond (has_name f s.names) (field_of f s.whole) fault)
merged_value-step f s ss = by-rest (last_giver source_names f ss) (has_name f s.names)
  where
    by-rest : (o : Option Source) (b : Bool)
        → unwrap_or (option_map (λ (z : Source). field_of f z.whole) (option_or o (cond b (Some s) None))) fault
        ≡ cond (is_some o) (unwrap_or (option_map (λ (z : Source). field_of f z.whole) o) fault) (cond b (field_of f s.whole) fault)
    by-rest (Some z) b = refl
    by-rest None true = refl
    by-rest None false = refl

pub asked_of_giver-step : (f : Bytes) (path : List Bytes) (g : Giver) (gs : List Giver)
    → asked_of_giver (g ∷ gs) (f ∷ path) ≡ cond (some_gives giver_names f gs) (asked_of_giver gs (f ∷ path)) (cond (has_name f g.names) (g.asks (f ∷ path)) [])
asked_of_giver-step f path g gs = by-rest (last_giver giver_names f gs) (has_name f g.names)
  where
    by-rest : (o : Option Giver) (b : Bool)
        → unwrap_or (option_map (λ (z : Giver). z.asks (f ∷ path)) (option_or o (cond b (Some g) None))) []
        ≡ cond (is_some o) (unwrap_or (option_map (λ (z : Giver). z.asks (f ∷ path)) o) []) (cond b (g.asks (f ∷ path)) [])
    by-rest (Some z) b = refl
    by-rest None true = refl
    by-rest None false = refl

-- a first struct of the name gives it, and so does a later one
pub some_gives-here : {X : Type 0} (names : X → List Bytes) (f : Bytes) (x : X) (xs : List X) → has_name f (names x) ≡ true → some_gives names f (x ∷ xs) ≡ true
some_gives-here names f x xs h = some_gives-step names f x xs ∙ by-test (some_gives names f xs) (has_name f (names x)) h
  where
    by-test : (b c : Bool) → c ≡ true → cond b true c ≡ true
    by-test true c k = refl
    by-test false c k = k

pub some_gives-later : {X : Type 0} (names : X → List Bytes) (f : Bytes) (x : X) (xs : List X) → some_gives names f xs ≡ true → some_gives names f (x ∷ xs) ≡ true
some_gives-later names f x xs h = some_gives-step names f x xs ∙ ap (λ b. cond b true (has_name f (names x))) h

-- where no later one gives it, the first does
pub some_gives-first : {X : Type 0} (names : X → List Bytes) (f : Bytes) (x : X) (xs : List X) → some_gives names f xs ≡ false → some_gives names f (x ∷ xs) ≡ true → has_name f (names x) ≡ true
some_gives-first names f x xs h k = sym (some_gives-step names f x xs ∙ ap (λ b. cond b true (has_name f (names x))) h) ∙ k

-- the structs of a merge give the same names to asking as to meaning
pub givers-same : (t : Ty) (slots : Slots) (row : Val) (f : Bytes) (es : Trees) → some_gives giver_names f (givers t es) ≡ some_gives source_names f (sources t slots row es)
unfolding mean asked
givers-same t slots row f no_trees = refl
givers-same t slots row f (tree e es) =
    some_gives-step giver_names f (record { names = given_names t e; asks = asked t e }) (givers t es)
    ∙ (ap (λ b. cond b true (has_name f (given_names t e))) (givers-same t slots row f es)
    ∙ sym (some_gives-step source_names f (record { names = given_names t e; whole = mean t slots row e }) (sources t slots row es)))

pub giver_names-same : (t : Ty) (slots : Slots) (row : Val) (es : Trees) → flat_map giver_names (givers t es) ≡ flat_map source_names (sources t slots row es)
unfolding mean asked
giver_names-same t slots row no_trees = refl
giver_names-same t slots row (tree e es) = ap (λ (xs : List Bytes). given_names t e ++ xs) (giver_names-same t slots row es)
