-- Texts that are written one after another.
use Rattle.std.proofs.Common.{◌≡◌, refl, ap, sym, ◌∙◌, subst, ℕ, zero, suc, ◌+◌, ◌≤◌, List, [], ◌∷◌, ◌++◌, length, take, Option, Some, None, Result, Ok, Err, append_assoc, append-nil, length-append, arith}
use Rattle.vx_dtype.specs.Types.{Bytes}
use Rattle.vx_io.specs.Counts.{one_more}
use Rattle.vx_io.specs.Ends.{Added, AddedPrefix}
use Rattle.vx_semantics.specs.Tables.{ZoneStat, Zones}
use Rattle.vx_laws_shell.specs.Running.{End}
use Rattle.vx_laws_listing.specs.ListingTexts.{block_lines, lengths_between, part_lines}
use Rattle.vx_listing.specs.ListingSteps.{Writes, WritesText}
use Rattle.vx_listing.proofs.TextLemmas.{all_between}
use Rattle.vx_listing.specs.declared.errors.LineError.{LineError}
use Rattle.vx_listing.specs.declared.errors.LineError.TheVariants.{NoMemory, Unwritten}

-- nothing is added
pub added_nothing : (told : Option Bytes) → Added told told []
added_nothing None = refl
added_nothing (Some old) = ap Some (sym (append-nil old))

-- a text behind another one
pub added_then : (a b c : Option Bytes) (x y : Bytes) → Added a b x → Added b c y → Added a c (x ++ y)
added_then None None c x y p q = q
added_then None (Some now) c x y p q = absurd (let e = p in cc)
added_then (Some old) None c x y p q = absurd (let e = p in cc)
added_then (Some old) (Some now) c x y p q =
    let now_is : now ≡ old ++ x = cc p in
    q ∙ ap Some (ap (λ (z : Bytes). z ++ y) now_is ∙ append_assoc old x y)

-- the first bytes of a text are those of it with more behind
take_front : (n : ℕ) (x y : Bytes) → n ≤ length x → take n (x ++ y) ≡ take n x
take_front zero x y h = refl
take_front (suc n) [] y h = absurd (omega (arith, h))
take_front (suc n) (b ∷ x) y h = ap (λ (z : Bytes). b ∷ z) (take_front n x y (omega (arith, h)))

take_behind : (n : ℕ) (x y : Bytes) → take (length x + n) (x ++ y) ≡ x ++ take n y
take_behind n [] y = ap (λ m. take m y) (omega arith)
take_behind n (b ∷ x) y =
    let next : suc (length x) + n ≡ suc (length x + n) = omega arith in
    ap (λ m. take m (b ∷ (x ++ y))) next ∙ ap (λ (z : Bytes). b ∷ z) (take_behind n x y)

pub prefix_front : (a b : Option Bytes) (x y : Bytes) → AddedPrefix a b x → AddedPrefix a b (x ++ y)
prefix_front a b x y p =
    (p.0, omega (arith, p.1, length-append x y), subst (Added a b) (sym (take_front p.0 x y p.1)) p.2)

pub prefix_behind : (a b c : Option Bytes) (x y : Bytes) → Added a b x → AddedPrefix b c y → AddedPrefix a c (x ++ y)
prefix_behind a b c x y p q =
    (length x + q.0, omega (arith, q.1, length-append x y), subst (Added a c) (sym (take_behind q.0 x y)) (added_then a b c x (take q.0 y) p q.2))

-- a later count has risen where an earlier one did
risen : (a b c : ℕ) → a ≤ b → one_more b ≤ c → one_more a ≤ c
risen a b c h k = grind (arith, h, k)

writes_then : (x y : Bytes) (a b c : End) (r : Result (Unit {0}) LineError) → a.faults ≤ b.faults → Added a.bytes b.bytes x → Writes y b c r → Writes (x ++ y) a c r
writes_then x y a b c (Ok done) later p q = added_then a.bytes b.bytes c.bytes x y p q
writes_then x y a b c (Err NoMemory) later p q = prefix_behind a.bytes b.bytes c.bytes x y p q
writes_then x y a b c (Err Unwritten) later p q = (prefix_behind a.bytes b.bytes c.bytes x y p q.0, risen a.faults b.faults c.faults later q.1)

-- a text that is written whole, and then another one; and one that isn't
pub text_then : (x y : Bytes) (a b c : End) (r : Result (Unit {0}) LineError) → WritesText x a b (Ok tt) → WritesText y b c r → WritesText (x ++ y) a c r
text_then x y a b c r p q = record {
  later = omega (arith, p.later, q.later);
  writes = writes_then x y a b c r p.later p.writes q.writes;
}

writes_front : (x y : Bytes) (a b : End) (e : LineError) → Writes x a b (Err e) → Writes (x ++ y) a b (Err e)
writes_front x y a b NoMemory p = prefix_front a.bytes b.bytes x y p
writes_front x y a b Unwritten p = (prefix_front a.bytes b.bytes x y p.0, p.1)

pub text_cut : (x y : Bytes) (a b : End) (e : LineError) → WritesText x a b (Err e) → WritesText (x ++ y) a b (Err e)
text_cut x y a b e p = record { later = p.later; writes = writes_front x y a b e p.writes }

-- a text so far, and one more behind it, of which the rest is left
pub more_written : (so_far line left rest all : Bytes) (a b c : End) → so_far ++ left ≡ all → left ≡ line ++ rest → WritesText so_far a b (Ok tt) → WritesText line b c (Ok tt)
    → (more : Bytes) × WritesText more a c (Ok tt) × (more ++ rest ≡ all)
more_written so_far line left rest all a b c whole cut p q =
    (so_far ++ line, text_then so_far line a b c (Ok tt) p q, append_assoc so_far line rest ∙ ap (λ (z : Bytes). so_far ++ z) (sym cut) ∙ whole)

pub more_cut : (so_far line left rest all : Bytes) (a b c : End) (e : LineError) → so_far ++ left ≡ all → left ≡ line ++ rest → WritesText so_far a b (Ok tt) → WritesText line b c (Err e)
    → WritesText all a c (Err e)
more_cut so_far line left rest all a b c e whole cut p q =
    let same : (so_far ++ line) ++ rest ≡ all = append_assoc so_far line rest ∙ ap (λ (z : Bytes). so_far ++ z) (sym cut) ∙ whole in
    subst (λ (t : Bytes). WritesText t a c (Err e)) same (text_cut (so_far ++ line) rest a c e (text_then so_far line a b c (Err e) p q))

-- where nothing is left all is written
pub all_written : (so_far left all : Bytes) (a b : End) → so_far ++ left ≡ all → left ≡ [] → WritesText so_far a b (Ok tt) → WritesText all a b (Ok tt)
all_written so_far left all a b whole none p =
    subst (λ (t : Bytes). WritesText t a b (Ok tt)) (sym (append-nil so_far) ∙ ap (λ (z : Bytes). so_far ++ z) (sym none) ∙ whole) p

-- before the first line nothing is written
pub none_written : (a : End) → WritesText [] a a (Ok tt)
none_written a = record { later = omega arith; writes = added_nothing a.bytes }

-- the lines of other statistics and lengths that are the same
pub blocks_as : (path : Bytes) (stats others : List ZoneStat) (begin end : ℕ) (lengths more : List ℕ) (a b : End) (r : Result (Unit {0}) LineError) → stats ≡ others
    → lengths ≡ more → WritesText (block_lines path stats begin (lengths_between begin end lengths)) a b r
    → WritesText (block_lines path others begin (lengths_between begin end more)) a b r
blocks_as path stats others begin end lengths more a b r s l w =
    subst (λ (t : Bytes). WritesText t a b r) (λ i. block_lines path (s i) begin (lengths_between begin end (l i))) w

-- the same of all blocks
pub all_blocks_as : (path : Bytes) (stats others : List ZoneStat) (end : ℕ) (lengths more : List ℕ) (a b : End) (r : Result (Unit {0}) LineError) → stats ≡ others
    → lengths ≡ more → end ≡ length more → WritesText (block_lines path stats 0 (lengths_between 0 end lengths)) a b r
    → WritesText (block_lines path others 0 more) a b r
all_blocks_as path stats others end lengths more a b r s l e w =
    let same : block_lines path stats 0 (lengths_between 0 end lengths) ≡ block_lines path others 0 (lengths_between 0 (length more) more) =
    λ i. block_lines path (s i) 0 (lengths_between 0 (e i) (l i)) in
    subst (λ (t : Bytes). WritesText t a b r) (same ∙ ap (block_lines path others 0) (all_between more)) w

-- the lines of a file of another name that is the same, up to another end that is the same
pub part_as : (path name other : Bytes) (zones : Zones) (begin end last : ℕ) (a b : End) (r : Result (Unit {0}) LineError) → name ≡ other → end ≡ last
    → WritesText (block_lines (path ++ name) zones.stats begin (lengths_between begin end zones.lengths)) a b r
    → WritesText (block_lines (path ++ other) zones.stats begin (lengths_between begin last zones.lengths)) a b r
part_as path name other zones begin end last a b r n e w =
    subst (λ (t : Bytes). WritesText t a b r) (λ i. block_lines (path ++ n i) zones.stats begin (lengths_between begin (e i) zones.lengths)) w

-- nothing of a text is written where there was no memory for its first line
pub none_cut : (x : Bytes) (a : End) → WritesText x a a (Err NoMemory)
none_cut x a = record { later = omega arith; writes = (0, omega arith, added_nothing a.bytes) }

-- the lines of other names and begins that are the same
pub parts_as : (path : Bytes) (zones : Zones) (names others : List Bytes) (begins more : List ℕ) (a b : End) (r : Result (Unit {0}) LineError) → names ≡ others
    → begins ≡ more → WritesText (part_lines path zones names begins) a b r → WritesText (part_lines path zones others more) a b r
parts_as path zones names others begins more a b r n m w = subst (λ (t : Bytes). WritesText t a b r) (λ i. part_lines path zones (n i) (m i)) w
