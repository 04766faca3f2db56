-- A further row in the order and among the first rows, and what further blocks add.
use Rattle.std.proofs.Common.{◌≡◌, refl, ap, sym, ◌∙◌, ℕ, Bool, true, false, cond, List, [], ◌∷◌, ◌++◌, take, append_assoc}
use Rattle.std.specs.List.{AllByRecursion}
use Rattle.vx_dtype.specs.Types.{Ty}
use Rattle.vx_dtype.specs.TypeRules.{is_plain}
use Rattle.vx_laws.proofs.EachNode.{all-apart}
use Rattle.vx_laws_topk.specs.TopRows.{Keyed, stands_before, in_key_order, top, top_skips, found_with, found_over, skipped_over}
use Rattle.vx_laws_topk.specs.TopPhases.{SlottedPhase, phases_with, phases_over}
use Rattle.vx_laws_topk.specs.BoundLaws.{put_behind_ties, FurtherRowGoesBehindTies, FurtherRowAmongFirst, FoundOverMore, PhasesOverMore, SkippedOverMore}
use Rattle.vx_laws_topk.proofs.Inserting.{OfType, have-keys, order-all, sorted-stays, order-sorted}
use Rattle.vx_laws_topk.proofs.Firsts.{merged, all-take, sorted-take, order-both, top-again}

-- the row merged behind ordered rows
merged-one : (d : Bool) (xs : List Keyed) (r : Keyed) → merged d xs (r ∷ []) ≡ put_behind_ties d r xs
merged-one d [] r = refl
merged-one d (x ∷ xs) r = by-test (stands_before d r.key x.key) (merged-one d xs r)
  where
    by-test : (b : Bool) → merged d xs (r ∷ []) ≡ put_behind_ties d r xs → cond b (r ∷ merged d (x ∷ xs) []) (x ∷ merged d xs (r ∷ [])) ≡ cond b (r ∷ x ∷ xs) (x ∷ put_behind_ties d r xs)
    by-test true e = refl
    by-test false e = ap (λ (rs : List Keyed). x ∷ rs) e

pub further_row : FurtherRowGoesBehindTies
further_row t d rows r h =
    let parts = all-apart (OfType t) rows (r ∷ []) (have-keys t (rows ++ r ∷ []) h) in
    order-both d t h.plain rows (r ∷ []) parts.0 parts.1 ∙ merged-one d (in_key_order d rows) r

pub further_among : (t : Ty) → is_plain t ≡ true → (d : Bool) (k : ℕ) (rows : List Keyed) (r : Keyed) → AllByRecursion (OfType t) rows → AllByRecursion (OfType t) (r ∷ [])
    → top d k (rows ++ r ∷ []) ≡ take k (put_behind_ties d r (top d k rows))
further_among t plain d k rows r f g =
    let first = top d k rows in
    let own : AllByRecursion (OfType t) first = all-take (OfType t) k (in_key_order d rows) (order-all (OfType t) d rows f) in
    sym (top-again d t plain k rows (r ∷ []) f g)
    ∙ ap (take k) (order-both d t plain first (r ∷ []) own g
    ∙ merged-one d (in_key_order d first) r
    ∙ ap (put_behind_ties d r) (sorted-stays d first (sorted-take d k (in_key_order d rows) (order-sorted d t plain rows f))))

pub further_among_first : FurtherRowAmongFirst
further_among_first t d k rows r h =
    let parts = all-apart (OfType t) rows (r ∷ []) (have-keys t (rows ++ r ∷ []) h) in
    further_among t h.plain d k rows r parts.0 parts.1

pub found_over_more : FoundOverMore
found_over_more ask t zones found [] cs = refl
found_over_more ask t zones found (b ∷ bs) cs = found_over_more ask t zones (found_with ask t zones found b) bs cs

pub phases_over_more : PhasesOverMore
phases_over_more ask t zones found [] cs = refl
phases_over_more ask t zones found (b ∷ bs) cs =
    let next = found_with ask t zones found b in
    ap (λ (ss : List SlottedPhase). phases_with ask t zones found b ++ ss) (phases_over_more ask t zones next bs cs)
    ∙ sym (append_assoc (phases_with ask t zones found b) (phases_over ask t zones next bs) (phases_over ask t zones (found_over ask t zones next bs) cs))

pub skipped_over_more : SkippedOverMore
skipped_over_more ask t zones found [] cs = refl
skipped_over_more ask t zones found (b ∷ bs) cs =
    by-test (top_skips ask zones found b.0) (skipped_over_more ask t zones next bs cs)
  where
    next : List Keyed
    next = found_with ask t zones found b

    rest : List ℕ
    rest = skipped_over ask t zones (found_over ask t zones next bs) cs

    by-test : (c : Bool) → skipped_over ask t zones next (bs ++ cs) ≡ skipped_over ask t zones next bs ++ rest
        → cond c (b.0 ∷ skipped_over ask t zones next (bs ++ cs)) (skipped_over ask t zones next (bs ++ cs))
        ≡ cond c (b.0 ∷ skipped_over ask t zones next bs) (skipped_over ask t zones next bs) ++ rest
    by-test true k = ap (λ (ns : List ℕ). b.0 ∷ ns) k
    by-test false k = k
