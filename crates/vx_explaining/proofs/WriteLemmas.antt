-- Texts that are written one after another.
use Rattle.std.proofs.Common.{◌≡◌, ap, sym, ◌∙◌, subst, ℕ, suc, ◌+◌, ◌<◌, ◌≤◌, Bool, List, [], ◌++◌, length, drop, Result, Ok, Err, append_assoc, append-nil, arith}
use Rattle.std.proofs.Math.ListN.{get_or}
use Rattle.std.proofs.lemmas.List.{drop_more, drop_all}
use Rattle.vx_dtype.specs.Types.{Bytes}
use Rattle.vx_io.specs.Counts.{one_more}
use Rattle.vx_io.specs.Ends.{Added}
use Rattle.vx_laws_shell.specs.Running.{End}
use Rattle.vx_laws_shell.proofs.Adding.{added_both, added_none_of, added_nothing, prefix_behind, prefix_of_more}
use Rattle.vx_laws_explaining.specs.ExplainingWords.{Form}
use Rattle.vx_laws_explaining.specs.Explained.{Explained}
use Rattle.vx_laws_explaining.specs.Explanations.{block_in, blocks_in}
use Rattle.vx_explaining.specs.ExplainingSteps.{Writes, WritesText}
use Rattle.vx_explaining.specs.declared.errors.PieceError.{PieceError}
use Rattle.vx_explaining.specs.declared.errors.PieceError.TheVariants.{NoMemory, Unwritten}

-- a later count has risen where an earlier one did
risen : (a b c : ℕ) → a ≤ b → one_more b ≤ c → one_more a ≤ c
risen a b c h k = grind (arith, h, k)

writes_then : (x y : Bytes) (a b c : End) (r : Result (Unit {0}) PieceError) → a.faults ≤ b.faults → Added a.bytes b.bytes x → Writes y b c r → Writes (x ++ y) a c r
writes_then x y a b c (Ok done) later p q = added_both a.bytes b.bytes c.bytes x y p q
writes_then x y a b c (Err NoMemory) later p q = prefix_behind a.bytes b.bytes c.bytes x y p q
writes_then x y a b c (Err Unwritten) later p q = (prefix_behind a.bytes b.bytes c.bytes x y p q.0, risen a.faults b.faults c.faults later q.1)

-- a text that is written whole, and then another one; and one that isn't
pub text_then : (x y : Bytes) (a b c : End) (r : Result (Unit {0}) PieceError) → WritesText x a b (Ok tt) → WritesText y b c r → WritesText (x ++ y) a c r
text_then x y a b c r p q = record {
  later = omega (arith, p.later, q.later);
  writes = writes_then x y a b c r p.later p.writes q.writes;
}

writes_front : (x y : Bytes) (a b : End) (e : PieceError) → Writes x a b (Err e) → Writes (x ++ y) a b (Err e)
writes_front x y a b NoMemory p = prefix_of_more a.bytes b.bytes x y p
writes_front x y a b Unwritten p = (prefix_of_more a.bytes b.bytes x y p.0, p.1)

pub text_cut : (x y : Bytes) (a b : End) (e : PieceError) → WritesText x a b (Err e) → WritesText (x ++ y) a b (Err e)
text_cut x y a b e p = record { later = p.later; writes = writes_front x y a b e p.writes }

-- a text so far, and one more behind it, of which the rest is left
pub more_written : (so_far line left rest all : Bytes) (a b c : End) → so_far ++ left ≡ all → left ≡ line ++ rest → WritesText so_far a b (Ok tt) → WritesText line b c (Ok tt)
    → (more : Bytes) × WritesText more a c (Ok tt) × (more ++ rest ≡ all)
more_written so_far line left rest all a b c whole cut p q =
    (so_far ++ line, text_then so_far line a b c (Ok tt) p q, append_assoc so_far line rest ∙ ap (λ (z : Bytes). so_far ++ z) (sym cut) ∙ whole)

pub more_cut : (so_far line left rest all : Bytes) (a b c : End) (e : PieceError) → so_far ++ left ≡ all → left ≡ line ++ rest → WritesText so_far a b (Ok tt) → WritesText line b c (Err e)
    → WritesText all a c (Err e)
more_cut so_far line left rest all a b c e whole cut p q =
    let same : (so_far ++ line) ++ rest ≡ all = append_assoc so_far line rest ∙ ap (λ (z : Bytes). so_far ++ z) (sym cut) ∙ whole in
    subst (λ (t : Bytes). WritesText t a c (Err e)) same (text_cut (so_far ++ line) rest a c e (text_then so_far line a b c (Err e) p q))

-- where nothing is left all is written
pub all_written : (so_far left all : Bytes) (a b : End) → so_far ++ left ≡ all → left ≡ [] → WritesText so_far a b (Ok tt) → WritesText all a b (Ok tt)
all_written so_far left all a b whole none p =
    subst (λ (t : Bytes). WritesText t a b (Ok tt)) (sym (append-nil so_far) ∙ ap (λ (z : Bytes). so_far ++ z) (sym none) ∙ whole) p

-- before the first line nothing is written
pub none_written : (a : End) → WritesText [] a a (Ok tt)
none_written a = record { later = omega arith; writes = added_nothing a.bytes }

-- from a place within on the pieces of the blocks are that of the block there and those behind it
pub blocks_step : (form : Form) (x : Explained) (lengths : List ℕ) (skipped : List Bool) (i : ℕ) (d : ℕ) (e : Bool) → i < length lengths → i < length skipped
    → blocks_in form x i (drop i lengths) (drop i skipped)
    ≡ block_in form x i (get_or lengths i d) (get_or skipped i e) ++ blocks_in form x (i + 1) (drop (i + 1) lengths) (drop (i + 1) skipped)
blocks_step form x lengths skipped i d e h k =
    let next : suc i ≡ i + 1 = omega arith in
    (λ j. blocks_in form x i (drop_more lengths i d h j) (drop_more skipped i e k j))
    ∙ ap (λ n. block_in form x i (get_or lengths i d) (get_or skipped i e) ++ blocks_in form x n (drop (i + 1) lengths) (drop (i + 1) skipped)) next

pub blocks_end : (form : Form) (x : Explained) (lengths : List ℕ) (skipped : List Bool) (i : ℕ) → length lengths ≤ i
    → blocks_in form x i (drop i lengths) (drop i skipped) ≡ []
blocks_end form x lengths skipped i le = ap (λ ns. blocks_in form x i ns (drop i skipped)) (drop_all i lengths le)

-- a text that is the same
pub text_as : (x y : Bytes) (a b : End) (r : Result (Unit {0}) PieceError) → x ≡ y → WritesText x a b r → WritesText y a b r
text_as x y a b r e w = subst (λ (t : Bytes). WritesText t a b r) e w

-- nothing of a text is written for want of memory
pub none_cut : (x : Bytes) (a : End) → WritesText x a a (Err NoMemory)
none_cut x a = record { later = omega arith; writes = added_none_of a.bytes x }
