-- Calls that ask a catalog, one after the other: what they asked together, and what they found.
use Rattle.std.proofs.Common.{◌≡◌, List, [], ◌++◌, Option, Some, None, Result, Ok, Err, IfOk, IsErr, option_map, refl, sym, ap, ◌∙◌, subst, append_assoc, append-nil}
use Rattle.vx_expr.specs.Trees.{Tree}
use Rattle.vx_passes.specs.Catalogs.{Catalog}
use Rattle.vx_passes.specs.Falsifying.{Question, Found, found_in, found_by, found_next, both, either, joined_known}
use Rattle.vx_prune.specs.Finding.{AsksSome, Finds}

-- ---- a first part of questions

pub some_more : (all rest before after : List Question) → AsksSome all before after → AsksSome (all ++ rest) before after
some_more all rest before after h =
    record { part = h.part; rest = h.rest ++ rest; whole = ap (λ qs. qs ++ rest) h.whole ∙ append_assoc h.part h.rest rest; grown = h.grown }

some_all : (all before after : List Question) → after ≡ before ++ all → AsksSome all before after
some_all all before after e = record { part = all; rest = []; whole = sym (append-nil all); grown = e }

pub some_then : (first all before between after : List Question) → between ≡ before ++ first → AsksSome all between after → AsksSome (first ++ all) before after
some_then first all before between after e h =
    record {
      part = first ++ h.part;
      rest = h.rest;
      whole = ap (λ qs. first ++ qs) h.whole ∙ sym (append_assoc first h.part h.rest);
      grown = h.grown ∙ ap (λ qs. qs ++ h.part) e ∙ append_assoc before first h.part;
    }

some_next : (next : Tree → Found) (found : Option Tree) (asked before after : List Question) → AsksSome asked before after → AsksSome (found_by next found asked).asked before after
some_next next None asked before after h = h
some_next next (Some a) asked before after h = some_more asked (next a).asked before after h

module _ {S : Type 0} (answer : S → Catalog) (asked : S → List Question) where
  -- the catalog answers what it answered, and just these questions were asked, or a first part of them
  pub record Asks (questions : Catalog → List Question) (before after : S) : Type 0 where
    pub same : answer after ≡ answer before
    pub grown : asked after ≡ asked before ++ questions (answer before)

  pub record Stops (questions : Catalog → List Question) (before after : S) : Type 0 where
    pub same : answer after ≡ answer before
    pub grown : AsksSome (questions (answer before)) (asked before) (asked after)

  pub first_stops : (first rest : Catalog → List Question) (before after : S) → Stops first before after → Stops (λ k. first k ++ rest k) before after
  first_stops first rest before after s =
      record { same = s.same; grown = some_more (first (answer before)) (rest (answer before)) (asked before) (asked after) s.grown }

  module _ (first rest : Catalog → List Question) (before between after : S) where
    pub then_stops : Asks first before between → Stops rest between after → Stops (λ k. first k ++ rest k) before after
    then_stops a s =
        record {
          same = s.same ∙ a.same;
          grown =
              some_then (first (answer before)) (rest (answer before)) (asked before) (asked between) (asked after) a.grown
              (subst (λ c. AsksSome (rest c) (asked between) (asked after)) a.same s.grown);
        }

    pub then_asks : Asks first before between → Asks rest between after → Asks (λ k. first k ++ rest k) before after
    then_asks a b =
        record {
          same = b.same ∙ a.same;
          grown =
              b.grown ∙ ap (λ qs. qs ++ rest (answer between)) a.grown ∙ ap (λ c. (asked before ++ first (answer before)) ++ rest c) a.same
              ∙ append_assoc (asked before) (first (answer before)) (rest (answer before));
        }

  pub asked_stops : (questions : Catalog → List Question) (before after : S) → Asks questions before after → Stops questions before after
  asked_stops questions before after a = record { same = a.same; grown = some_all (questions (answer before)) (asked before) (asked after) a.grown }

  -- before anything is asked, none of no questions are
  pub nothing_stops : (here : S) → Stops (λ k. []) here here
  nothing_stops here = record { same = refl; grown = some_all [] (asked here) (asked here) (sym (append-nil (asked here))) }

-- ---- calls

module _ {S E : Type 0} {answer : S → Catalog} {asked : S → List Question} {find : Catalog → Found} {before after : S} where
  pub asks : {found : Option Tree} → Finds {E = E} answer asked find before after (Ok found) → Asks answer asked (λ k. (find k).asked) before after
  asks h = record { same = h.same; grown = h.found.1 }

  pub stops : {e : E} → Finds {E = E} answer asked find before after (Err e) → Stops answer asked (λ k. (find k).asked) before after
  stops h = record { same = h.same; grown = h.found }

  -- what was found, of a catalog that answers the same
  pub found_at : (k : Catalog) {found : Option Tree} → answer before ≡ k → Finds {E = E} answer asked find before after (Ok found) → found ≡ (find k).tree
  found_at k e h = h.found.0 ∙ ap (λ c. (find c).tree) e

module _ {S E : Type 0} {answer : S → Catalog} {asked : S → List Question} (find : Catalog → Found) {before after : S} where
  -- a call that lacks memory
  pub fails : {result : Result (Option Tree) E} → IsErr result → Stops answer asked (λ k. (find k).asked) before after → Finds answer asked find before after result
  fails {result = Ok found} h s = absurd cc
  fails {result = Err e} h s = record { same = s.same; found = s.grown }

  -- a call that has asked all, and may lack memory for its answer
  pub ends : {result : Result (Option Tree) E} → Asks answer asked (λ k. (find k).asked) before after → IfOk result (λ found. found ≡ (find (answer before)).tree)
      → Finds answer asked find before after result
  ends {result = Ok found} a h = record { same = a.same; found = (h, a.grown) }
  ends {result = Err e} a h = record { same = a.same; found = some_all (find (answer before)).asked (asked before) (asked after) a.grown }

-- ---- what is asked next only where something is found

module _ {S : Type 0} {answer : S → Catalog} {asked : S → List Question} (find : Catalog → Found) (next : Catalog → Tree → Found) {before after : S} where
  pub next_stops : Stops answer asked (λ k. (find k).asked) before after → Stops answer asked (λ k. (found_next (find k) (next k)).asked) before after
  next_stops s = record { same = s.same; grown = some_next (next (answer before)) (find (answer before)).tree (find (answer before)).asked (asked before) (asked after) s.grown }

  pub next_then : {E : Type 0} {between : S} {found : Option Tree} {a : Tree} → Finds {E = E} answer asked find before between (Ok found) → found ≡ Some a
      → Stops answer asked (λ k. (next k a).asked) between after → Stops answer asked (λ k. (found_next (find k) (next k)).asked) before after
  next_then {between = between} {a = a} h is s =
      let k = answer before in
      let rest = some_then (find k).asked (next k a).asked (asked before) (asked between) (asked after) h.found.1
      (subst (λ c. AsksSome (next c a).asked (asked between) (asked after)) h.same s.grown) in
      record { same = s.same ∙ h.same; grown = subst (λ o. AsksSome (found_by (next k) o (find k).asked).asked (asked before) (asked after)) (sym is ∙ h.found.0) rest }

-- ---- two calls whose trees are joined

module _ {S E : Type 0} {answer : S → Catalog} {asked : S → List Question} {first : Catalog → Found} (second : Catalog → Found) (join : Tree → Tree → Tree) {before after : S} {result : Result (Option Tree) E} where
  pub both_first_fails : {e : E} → IsErr result → Finds answer asked first before after (Err e) → Finds answer asked (λ k. both join (first k) (second k)) before after result
  both_first_fails r h = fails (λ k. both join (first k) (second k)) r (next_stops first (λ k a. found_in (join a) (second k)) (stops h))

  pub both_second_fails : {between : S} {found : Option Tree} {a : Tree} → IsErr result → Finds {E = E} answer asked first before between (Ok found) → found ≡ Some a
      → Stops answer asked (λ k. (second k).asked) between after → Finds answer asked (λ k. both join (first k) (second k)) before after result
  both_second_fails r h is s = fails (λ k. both join (first k) (second k)) r (next_then first (λ k a. found_in (join a) (second k)) h is s)

  pub either_first_fails : {e : E} → IsErr result → Finds answer asked first before after (Err e) → Finds answer asked (λ k. either join (first k) (second k)) before after result
  either_first_fails r h = fails (λ k. either join (first k) (second k)) r (first_stops answer asked (λ k. (first k).asked) (λ k. (second k).asked) before after (stops h))

  pub either_second_fails : {between : S} {found : Option Tree} → IsErr result → Finds {E = E} answer asked first before between (Ok found)
      → Stops answer asked (λ k. (second k).asked) between after → Finds answer asked (λ k. either join (first k) (second k)) before after result
  either_second_fails {between = between} r h s =
      fails (λ k. either join (first k) (second k)) r (then_stops answer asked (λ k. (first k).asked) (λ k. (second k).asked) before between after (asks h) s)

  pub either_ends : {between : S} {a b : Option Tree} → Finds {E = E} answer asked first before between (Ok a) → Finds {E = E} answer asked second between after (Ok b)
      → IfOk result (λ found. found ≡ joined_known join a b) → Finds answer asked (λ k. either join (first k) (second k)) before after result
  either_ends {between = between} {a = a} {b = b} h s made =
      let k = answer before in
      let trees : joined_known join a b ≡ joined_known join (first k).tree (second k).tree = λ i. joined_known join (h.found.0 i) (found_at k h.same s i) in
      ends (λ k. either join (first k) (second k)) (then_asks answer asked (λ k. (first k).asked) (λ k. (second k).asked) before between after (asks h) (asks s))
      (subst (λ t. IfOk result (λ found. found ≡ t)) trees made)

module _ {S E : Type 0} {answer : S → Catalog} {asked : S → List Question} {first : Catalog → Found} (second : Catalog → Found) (join : Tree → Tree → Tree) {before after : S} where
  pub both_ends : {between : S} {found last : Option Tree} {a b made : Tree} → Finds {E = E} answer asked first before between (Ok found) → found ≡ Some a
      → Finds {E = E} answer asked second between after (Ok last) → last ≡ Some b → made ≡ join a b
      → Finds {E = E} answer asked (λ k. both join (first k) (second k)) before after (Ok (Some made))
  both_ends {between = between} {a = a} {made = made} h is s last is_made =
      let k = answer before in
      let next : Tree → Found = λ t. found_in (join t) (second k) in
      let tree : Some made ≡ option_map (join a) (second k).tree = ap Some is_made ∙ ap (option_map (join a)) (sym last ∙ found_at k h.same s) in
      let both_asked = then_asks answer asked (λ c. (first c).asked) (λ c. (second c).asked) before between after (asks h) (asks s) in
      record {
        same = both_asked.same;
        found =
            subst (λ o. (Some made ≡ (found_by next o (first k).asked).tree) × (asked after ≡ asked before ++ (found_by next o (first k).asked).asked))
            (sym is ∙ h.found.0) (tree, both_asked.grown);
      }
