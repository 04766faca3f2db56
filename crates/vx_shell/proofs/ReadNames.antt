-- The names of the columns of reads, as a set, and how many names it has of others.
use Rattle.std.proofs.Common.{◌≡◌, ◌∙◌, sym, ap, refl, ℕ, ◌+◌, ◌<◌, Bool, true, false, ◌||◌, cond, List, [], ◌∷◌, ◌++◌, length, take, map}
use Rattle.std.proofs.Math.ListN.{get_or}
use Rattle.std.proofs.lemmas.List.{map-append, take_more}
use Rattle.std.proofs.lemmas.List.Folds.{list_any-append}
use Rattle.std.specs.HashSet.{HashSet, contains}
use Rattle.std.specs.List.{list_any}
use Rattle.std.specs.Str.{bytes_eq}
use Rattle.vx_dtype.specs.EqualLaws.{bytes_eq_equiv}
use Rattle.vx_dtype.specs.Types.{Bytes}
use Rattle.vx_scan.specs.Stores.{Read}
use Rattle.vx_scan.specs.StoreViews.{entry_view}
use Rattle.vx_scan.specs.declared.stores.ReadEntry.{ReadEntry}

behind : (a b : Bool) → cond a true b ≡ (b || (a || false))
behind true true = refl
behind true false = refl
behind false true = refl
behind false false = refl

-- with the name of one more read a set has the names of the reads so far and this one
pub one_more_read : {S : Type 0} (reads : List ReadEntry) (i : ℕ) (e : ReadEntry) (was now : HashSet Bytes S) → i < length reads → e ≡ get_or reads i e
    → ((c : Bytes) → contains bytes_eq was c ≡ list_any (λ r. bytes_eq c r.1) (map entry_view (take i reads)))
    → ((c : Bytes) → contains bytes_eq now c ≡ cond (bytes_eq e.name c) true (contains bytes_eq was c))
    → (c : Bytes) → contains bytes_eq now c ≡ list_any (λ r. bytes_eq c r.1) (map entry_view (take (i + 1) reads))
one_more_read reads i e was now within is so_far put c =
    let named : Read → Bool = λ r. bytes_eq c r.1 in
    put c ∙ ap (λ b. cond b true (contains bytes_eq was c)) (bytes_eq_equiv.symm e.name c) ∙ ap (cond (bytes_eq c e.name) true) (so_far c)
    ∙ behind (bytes_eq c e.name) (list_any named (map entry_view (take i reads)))
    ∙ sym (list_any-append named (map entry_view (take i reads)) (entry_view e ∷ []))
    ∙ ap (list_any named) (sym (map-append entry_view (take i reads) (e ∷ [])))
    ∙ ap (λ rs. list_any named (map entry_view rs)) (sym (take_more reads i e within ∙ ap (λ x. take i reads ++ x ∷ []) (sym is)))
