-- A test of what is asked: of a column any, of a node only whether that node breaks.
use Rattle.std.proofs.Common.{◌≡◌, refl, ap, sym, ◌∙◌, Bool, true, false, cond, not, ◌&&◌, ◌||◌, None, List, [], ◌∷◌, ◌++◌}
use Rattle.std.specs.Str.{bytes_eq}
use Rattle.std.specs.List.{list_any, flat_map, filter}
use Rattle.std.proofs.lemmas.List.Folds.{list_any-append}
use Rattle.vx_dtype.specs.Types.{Bytes, Ty}
use Rattle.vx_dtype.specs.TypeRules.{has_name}
use Rattle.vx_dtype.specs.Values.{Val}
use Rattle.vx_dtype.specs.Casts.{cast3}
use Rattle.vx_expr.specs.declared.Operator.{Operator}
use Rattle.vx_expr.specs.Trees.{Tree, binary, cast}
use Rattle.vx_semantics.specs.Typing.{names_in}
use Rattle.vx_semantics.specs.Meaning.{Slots, binary3, mean}
use Rattle.vx_semantics.specs.Breaks.{Cause, by_sum, by_cast, is_fault, cause_where, is_cause, break_of, breaks_by}
use Rattle.vx_semantics.specs.Asked.{Asking, asks_node, asks_column, node_in, column_in, asked, asked_columns}
use Rattle.vx_laws_simplifying.specs.Asking.{breaks_along, asks_along}

-- whether a node never breaks
abbrev pub is_still : Tree → Bool
is_still (binary l Operator.Add r) = false
is_still (binary l Operator.Sub r) = false
is_still (cast e t) = false
is_still _ = true

pub record Observes (t : Ty) (slots : Slots) (row : Val) (test : Asking → Bool) : Type 0 where
  pub still : (n : Tree) → is_still n ≡ true → test (asks_node n) ≡ false
  pub sums : (l k : Tree) (op : Operator) (r q : Tree) → mean t slots row l ≡ mean t slots row k → mean t slots row r ≡ mean t slots row q
      → test (asks_node (binary l op r)) ≡ test (asks_node (binary k op q))
  pub casts : (e d : Tree) (target : Ty) → mean t slots row e ≡ mean t slots row d → test (asks_node (cast e target)) ≡ test (asks_node (cast d target))

-- what is seen of an expression along a path
abbrev pub seen : (Asking → Bool) → Ty → Tree → List Bytes → Bool
seen test t e path = list_any test (asked t e path)

-- whether what is asked is a node that breaks by this cause
abbrev pub breaking : Cause → Ty → Slots → Val → Asking → Bool
breaking cause t slots row (asks_node e) = breaks_by cause t slots row e
breaking cause t slots row (asks_column c) = false

-- whether what is asked is this column
abbrev pub is_column : Bytes → Asking → Bool
is_column c (asks_node e) = false
is_column c (asks_column d) = bytes_eq c d

is_cause-none : (cause : Cause) → is_cause cause None ≡ false
is_cause-none by_sum = refl
is_cause-none by_cast = refl

still-none : (t : Ty) (slots : Slots) (row : Val) (n : Tree) → is_still n ≡ true → break_of t slots row n ≡ None
still-none t slots row (binary l Operator.Add r) h = let no : ⊥ = cc in absurd no
still-none t slots row (binary l Operator.Sub r) h = let no : ⊥ = cc in absurd no
still-none t slots row (binary l op r) h = refl
still-none t slots row (cast e target) h = let no : ⊥ = cc in absurd no
still-none t slots row _ h = refl

sums-break : (t : Ty) (slots : Slots) (row : Val) (l k : Tree) (op : Operator) (r q : Tree) → mean t slots row l ≡ mean t slots row k → mean t slots row r ≡ mean t slots row q
    → break_of t slots row (binary l op r) ≡ break_of t slots row (binary k op q)
unfolding mean
sums-break t slots row l k Operator.Add r q h i =
    ap (λ (v : Val). cause_where (not (is_fault v) && not (is_fault (mean t slots row r))) (binary3 Operator.Add v (mean t slots row r)) by_sum) h
    ∙ ap (λ (w : Val). cause_where (not (is_fault (mean t slots row k)) && not (is_fault w)) (binary3 Operator.Add (mean t slots row k) w) by_sum) i
sums-break t slots row l k Operator.Sub r q h i =
    ap (λ (v : Val). cause_where (not (is_fault v) && not (is_fault (mean t slots row r))) (binary3 Operator.Sub v (mean t slots row r)) by_sum) h
    ∙ ap (λ (w : Val). cause_where (not (is_fault (mean t slots row k)) && not (is_fault w)) (binary3 Operator.Sub (mean t slots row k) w) by_sum) i
sums-break t slots row l k _ r q h i = refl

casts-break : (t : Ty) (slots : Slots) (row : Val) (e d : Tree) (target : Ty) → mean t slots row e ≡ mean t slots row d → break_of t slots row (cast e target) ≡ break_of t slots row (cast d target)
unfolding mean
casts-break t slots row e d target h = ap (λ (v : Val). cause_where (not (is_fault v)) (cast3 target v) by_cast) h

pub breaking-observes : (cause : Cause) (t : Ty) (slots : Slots) (row : Val) → Observes t slots row (breaking cause t slots row)
breaking-observes cause t slots row = record {
  still = λ n h. ap (is_cause cause) (still-none t slots row n h) ∙ is_cause-none cause;
  sums = λ l k op r q h i. ap (is_cause cause) (sums-break t slots row l k op r q h i);
  casts = λ e d target h. ap (is_cause cause) (casts-break t slots row e d target h);
}

pub is_column-observes : (c : Bytes) (t : Ty) (slots : Slots) (row : Val) → Observes t slots row (is_column c)
is_column-observes c t slots row = record { still = λ n h. refl; sums = λ l k op r q h i. refl; casts = λ e d target h. refl }

breaking-any : (cause : Cause) (t : Ty) (slots : Slots) (row : Val) (asks : List Asking) → list_any (breaks_by cause t slots row) (flat_map node_in asks) ≡ list_any (breaking cause t slots row) asks
breaking-any cause t slots row [] = refl
breaking-any cause t slots row (asks_node e ∷ asks) = ap (λ (b : Bool). breaks_by cause t slots row e || b) (breaking-any cause t slots row asks)
breaking-any cause t slots row (asks_column c ∷ asks) = breaking-any cause t slots row asks

is_column-any : (c : Bytes) (asks : List Asking) → has_name c (flat_map column_in asks) ≡ list_any (is_column c) asks
is_column-any c [] = refl
is_column-any c (asks_node e ∷ asks) = is_column-any c asks
is_column-any c (asks_column d ∷ asks) = ap (λ (b : Bool). bytes_eq c d || b) (is_column-any c asks)

pub breaking-along : (cause : Cause) (t : Ty) (slots : Slots) (row : Val) (e : Tree) (path : List Bytes) → breaks_along cause t slots row e path ≡ seen (breaking cause t slots row) t e path
breaking-along cause t slots row e path = breaking-any cause t slots row (asked t e path)

pub column-along : (t : Ty) (e : Tree) (path : List Bytes) (c : Bytes) → asks_along t e path c ≡ seen (is_column c) t e path
column-along t e path c = is_column-any c (asked t e path)

-- what is seen alike of two expressions breaks alike, and is of the same columns
pub breaks-kept : (cause : Cause) (t : Ty) (slots : Slots) (row : Val) (e d : Tree) (path : List Bytes) → seen (breaking cause t slots row) t d path ≡ seen (breaking cause t slots row) t e path
    → breaks_along cause t slots row d path ≡ breaks_along cause t slots row e path
breaks-kept cause t slots row e d path h = breaking-any cause t slots row (asked t d path) ∙ (h ∙ sym (breaking-any cause t slots row (asked t e path)))

pub columns-kept : (t : Ty) (e d : Tree) (path : List Bytes) (c : Bytes) → seen (is_column c) t d path ≡ seen (is_column c) t e path → asks_along t d path c ≡ asks_along t e path c
columns-kept t e d path c h = is_column-any c (asked t d path) ∙ (h ∙ sym (is_column-any c (asked t e path)))

filter-same : (p q : Bytes → Bool) → ((c : Bytes) → p c ≡ q c) → (cs : List Bytes) → filter p cs ≡ filter q cs
filter-same p q h [] = refl
filter-same p q h (c ∷ cs) =
    ap (λ (b : Bool). cond b (c ∷ filter p cs) (filter p cs)) (h c) ∙ ap (λ (xs : List Bytes). cond (q c) (c ∷ xs) xs) (filter-same p q h cs)

pub asked_columns-kept : (t : Ty) (e d : Tree) → ((c : Bytes) → asks_along t d [] c ≡ asks_along t e [] c) → asked_columns t d ≡ asked_columns t e
asked_columns-kept t e d h = filter-same (λ c. asks_along t d [] c) (λ c. asks_along t e [] c) h (names_in t)

-- what is seen of two lists
pub seen-both : (test : Asking → Bool) (xs ys : List Asking) → list_any test (xs ++ ys) ≡ (list_any test xs || list_any test ys)
seen-both test xs ys = list_any-append test xs ys

-- a node that never breaks is not seen itself
pub seen-below : (t : Ty) (slots : Slots) (row : Val) (test : Asking → Bool) → Observes t slots row test → (n : Tree) (asks : List Asking) → is_still n ≡ true
    → list_any test (asks_node n ∷ asks) ≡ list_any test asks
seen-below t slots row test o n asks h = ap (λ (b : Bool). b || list_any test asks) (o.still n h)

pub or-assoc : (a b c : Bool) → ((a || b) || c) ≡ (a || (b || c))
or-assoc true b c = refl
or-assoc false b c = refl

pub or-comm : (a b : Bool) → (a || b) ≡ (b || a)
or-comm true true = refl
or-comm true false = refl
or-comm false true = refl
or-comm false false = refl

pub or-twice : (a : Bool) → (a || a) ≡ a
or-twice true = refl
or-twice false = refl

pub or-false : (a : Bool) → (a || false) ≡ a
or-false true = refl
or-false false = refl

pub and-assoc : (a b c : Bool) → ((a && b) && c) ≡ (a && (b && c))
and-assoc true b c = refl
and-assoc false b c = refl

pub and-comm : (a b : Bool) → (a && b) ≡ (b && a)
and-comm true true = refl
and-comm true false = refl
and-comm false true = refl
and-comm false false = refl

pub and-twice : (a : Bool) → (a && a) ≡ a
and-twice true = refl
and-twice false = refl
