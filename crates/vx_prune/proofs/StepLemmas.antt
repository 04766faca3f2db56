-- Steps that are left to find a filter: what a step makes of them, and what they find in the end.
use Rattle.std.proofs.Common.{◌≡◌, ◌<◌, ℕ, ◌+◌, arith, Bool, true, false, not, List, [], ◌∷◌, ◌++◌, Option, Some, None, Result, Ok, Err, IfOk, IsErr, refl, sym, ap, ◌∙◌, subst, append_assoc, append-nil}
use Rattle.std.proofs.lemmas.Option.{same_Some, none-some}
use Rattle.vx_dtype.specs.declared.CompareOperator.{CompareOperator}
use Rattle.vx_expr.specs.declared.Operator.{Operator}
use Rattle.vx_expr.specs.Operators.{comparison_of, inverse_comparison}
use Rattle.vx_expr.specs.Trees.{Tree, binary, not_of}
use Rattle.vx_passes.specs.Catalogs.{Catalog}
use Rattle.vx_passes.specs.Falsifying.{Question, Found, comparison_falsified, found_by, found_in, and_of, or_of, joined_known, falsified}
use Rattle.vx_prune.specs.Finding.{AnswersFound, AsksSome, Finds}
use Rattle.vx_prune.specs.Steps.{Task, ask, second_of_either, second_of_both, join_either, join_both, second_task, asked_comparison, filtered, held, after_asking, stepped, all_stepped}
use Rattle.vx_prune.specs.Steps.{further_steps, task_steps, tasks_steps, Leads, Takes, Goes}
use Rattle.vx_prune.proofs.FindingLemmas.{Stops, fails, some_more, some_then}

-- ---- steps behind steps

all_append : (k : Catalog) (ss ts : List Task) (x : Found) → all_stepped k (ss ++ ts) x ≡ all_stepped k ss (all_stepped k ts x)
all_append k [] ts x = refl
all_append k (s ∷ ss) ts x = ap (stepped k s) (all_append k ss ts x)

steps_append : (ss ts : List Task) → tasks_steps (ss ++ ts) ≡ tasks_steps ss + tasks_steps ts
steps_append [] ts = omega arith
steps_append (s ∷ ss) ts = omega (arith, steps_append ss ts)

-- questions that were asked before stay before
by_after : (next : Tree → Found) (o : Option Tree) (qs later : List Question) → found_by next o (qs ++ later) ≡ after_asking qs (found_by next o later)
by_after next None qs later = refl
by_after next (Some a) qs later = ap (λ all. record { tree = (next a).tree; asked = all }) (append_assoc qs later (next a).asked)

step_after : (k : Catalog) (s : Task) (qs : List Question) (x : Found) → stepped k s (after_asking qs x) ≡ after_asking qs (stepped k s x)
step_after k (ask n e) qs x = ap (λ all. record { tree = (filtered n k e).tree; asked = all }) (append_assoc qs x.asked (filtered n k e).asked)
step_after k (second_of_either n e) qs x =
    ap (λ all. record { tree = joined_known or_of x.tree (filtered n k e).tree; asked = all }) (append_assoc qs x.asked (filtered n k e).asked)
step_after k (second_of_both n e) qs x = by_after (λ a. found_in (and_of a) (filtered n k e)) x.tree qs x.asked
step_after k (join_either first) qs x = refl
step_after k (join_both first) qs x = refl

all_after : (k : Catalog) (ss : List Task) (qs : List Question) (x : Found) → all_stepped k ss (after_asking qs x) ≡ after_asking qs (all_stepped k ss x)
all_after k [] qs x = refl
all_after k (s ∷ ss) qs x = ap (stepped k s) (all_after k ss qs x) ∙ step_after k s qs (all_stepped k ss x)

-- what was found is found after its own questions
own_after : (x : Found) → after_asking x.asked (held x.tree) ≡ x
own_after x = ap (λ all. record { tree = x.tree; asked = all }) (append-nil x.asked)

own_first : (k : Catalog) (ss : List Task) (x : Found) → x.asked ++ (all_stepped k ss (held x.tree)).asked ≡ (all_stepped k ss x).asked
own_first k ss x = ap (λ y. y.asked) (sym (all_after k ss x.asked (held x.tree)) ∙ ap (all_stepped k ss) (own_after x))

module _ {S : Type 0} {answer : S → Catalog} {asked : S → List Question} where
  -- ---- how far what is to be found has come

  -- nothing was asked
  pub at_first : (find rest : Catalog → Found) (here : S) → find (answer here) ≡ rest (answer here) → Leads answer asked find rest here here
  at_first find rest here e = record { same = refl; part = []; grown = sym (append-nil (asked here)); left = e }

  pub leads_on : {find rest more : Catalog → Found} {before now after : S} → Leads answer asked find rest before now → Leads answer asked rest more now after
      → Leads answer asked find more before after
  leads_on {rest = rest} {more = more} {before = before} {now = now} h m =
      let k = answer before in
      let left : rest k ≡ after_asking m.part (more k) = subst (λ c. rest c ≡ after_asking m.part (more c)) h.same m.left in
      record {
        same = m.same ∙ h.same;
        part = h.part ++ m.part;
        grown = m.grown ∙ ap (λ qs. qs ++ m.part) h.grown ∙ append_assoc (asked before) h.part m.part;
        left =
            h.left ∙ ap (after_asking h.part) left
            ∙ ap (λ all. record { tree = (more k).tree; asked = all }) (sym (append_assoc h.part m.part (more k).asked));
      }

  -- the same below steps that are left
  leads_below : (ss : List Task) {find rest : Catalog → Found} {before now : S} → Leads answer asked find rest before now
      → Leads answer asked (λ k. all_stepped k ss (find k)) (λ k. all_stepped k ss (rest k)) before now
  leads_below ss {rest = rest} {before = before} h =
      record {
        same = h.same;
        part = h.part;
        grown = h.grown;
        left = ap (all_stepped (answer before) ss) h.left ∙ all_after (answer before) ss h.part (rest (answer before));
      }

  -- what is left was found without a question more
  pub leads_end : {E : Type 0} {find : Catalog → Found} {before now : S} {found : Option Tree} → Leads answer asked find (λ k. held found) before now
      → Finds {E = E} answer asked find before now (Ok found)
  leads_end {before = before} {now = now} {found = found} h =
      record {
        same = h.same;
        found = (
          sym (ap (λ x. x.tree) h.left),
          h.grown ∙ ap (λ qs. asked before ++ qs) (sym (append-nil h.part) ∙ sym (ap (λ x. x.asked) h.left)),
        );
      }

  -- a first part of what is left was asked
  leads_stop : {find rest : Catalog → Found} {before now after : S} → Leads answer asked find rest before now → Stops answer asked (λ k. (rest k).asked) now after
      → Stops answer asked (λ k. (find k).asked) before after
  leads_stop {find = find} {rest = rest} {before = before} {now = now} {after = after} h s =
      let k = answer before in
      let more : AsksSome (rest k).asked (asked now) (asked after) = subst (λ c. AsksSome (rest c).asked (asked now) (asked after)) h.same s.grown in
      record {
        same = s.same ∙ h.same;
        grown =
            subst (λ qs. AsksSome qs (asked before) (asked after)) (sym (ap (λ x. x.asked) h.left))
            (some_then h.part (rest k).asked (asked before) (asked now) (asked after) h.grown more);
      }

  -- ---- the loop over the steps

  popped : (find : Catalog → Found) (all ss : List Task) (s : Task) (found : Option Tree) (before now : S) → all ≡ ss ++ s ∷ []
      → Leads answer asked find (λ k. all_stepped k all (held found)) before now → Leads answer asked find (λ k. all_stepped k ss (stepped k s (held found))) before now
  popped find all ss s found before now is h =
      record {
        same = h.same;
        part = h.part;
        grown = h.grown;
        left =
            h.left
            ∙ ap (λ ts. after_asking h.part (all_stepped (answer before) ts (held found))) is
            ∙ ap (after_asking h.part) (all_append (answer before) ss (s ∷ []) (held found));
      }

  -- the steps go on with what a step leaves
  pub goes_on : (find : Catalog → Found) (all ss new : List Task) (s : Task) (found next : Option Tree) (before now after : S) → all ≡ ss ++ s ∷ []
      → Leads answer asked find (λ k. all_stepped k all (held found)) before now → Takes answer asked (λ k. stepped k s (held found)) (task_steps s) ss new now after next
      → Leads answer asked find (λ k. all_stepped k new (held next)) before after
  goes_on find all ss new s found next before now after is h t =
      let further = leads_on (popped find all ss s found before now is h) (leads_below ss t.leads) in
      record {
        same = further.same;
        part = further.part;
        grown = further.grown;
        left =
            further.left
            ∙ ap (after_asking further.part) (sym (all_append (answer before) ss t.rest (held next)) ∙ ap (λ ts. all_stepped (answer before) ts (held next)) (sym t.left));
      }

  pub fewer_left : (find : Catalog → Found) (all ss new : List Task) (s : Task) (most : ℕ) (next : Option Tree) (now after : S) → all ≡ ss ++ s ∷ [] → most ≡ task_steps s
      → Takes answer asked find most ss new now after next → tasks_steps new < tasks_steps all
  fewer_left find all ss new s most next now after is steps t =
      omega (arith, ap tasks_steps is, ap tasks_steps t.left, steps_append ss (s ∷ []), steps_append ss t.rest, t.fewer, steps)

  -- where a step lacks memory, so does the whole
  pub stops_whole : {E F : Type 0} (find : Catalog → Found) (all ss : List Task) (s : Task) (found : Option Tree) (before now after : S) (e : E) (result : Result (Option Tree) F)
      → all ≡ ss ++ s ∷ [] → Leads answer asked find (λ k. all_stepped k all (held found)) before now
      → Finds answer asked (λ k. stepped k s (held found)) now after (Err e) → IsErr result → Finds answer asked find before after result
  stops_whole find all ss s found before now after e result is h stop err =
      let k = answer now in
      let first = stepped k s (held found) in
      fails find err
      (leads_stop (popped find all ss s found before now is h)
      (record {
        same = stop.same;
        grown =
            subst (λ qs. AsksSome qs (asked now) (asked after)) (own_first k ss first)
            (some_more first.asked (all_stepped k ss (held first.tree)).asked (asked now) (asked after) stop.found);
      }))

-- ---- a step

module _ {S : Type 0} (answer : S → Catalog) (asked : S → List Question) where
  -- nothing was asked yet
  none_asked : (find : Catalog → Found) (here : S) → Stops answer asked (λ k. (find k).asked) here here
  none_asked find here = record { same = refl; grown = record { part = []; rest = (find (answer here)).asked; whole = refl; grown = sym (append-nil (asked here)) } }

  -- before anything is asked memory may be wanting
  pub lacks : {E : Type 0} (find : Catalog → Found) (most : ℕ) (old new : List Task) (here : S) (result : Result (Option Tree) E) → IsErr result
      → Goes answer asked find most old new here here result
  lacks find most old new here (Ok found) err = absurd cc
  lacks find most old new here (Err e) err = fails find err (none_asked find here)

  pub lacks_whole : {E : Type 0} (find : Catalog → Found) (here : S) (result : Result (Option Tree) E) → IsErr result → Finds answer asked find here here result
  lacks_whole find here result err = fails find err (none_asked find here)

  -- what finds the same of the catalog as it was
  pub found_same : {E : Type 0} (find other : Catalog → Found) (before after : S) (result : Result (Option Tree) E) → find (answer before) ≡ other (answer before)
      → Finds answer asked find before after result → Finds answer asked other before after result
  found_same find other before after result e h = record { same = h.same; found = subst (λ x. AnswersFound x (asked before) (asked after) result) e h.found }

  -- steps stand for what is to be found
  pub leaves : (find : Catalog → Found) (most : ℕ) (old new rest : List Task) (here : S) (found : Option Tree) → new ≡ old ++ rest → tasks_steps rest < most
      → find (answer here) ≡ all_stepped (answer here) rest (held found) → Takes answer asked find most old new here here found
  leaves find most old new rest here found left fewer is =
      record { rest = rest; left = left; fewer = fewer; leads = at_first find (λ k. all_stepped k rest (held found)) here is }

  -- what was found before is joined without a question
  pub joins : {E : Type 0} (find : Catalog → Found) (most : ℕ) (ss : List Task) (here : S) (joined : Option Tree) (result : Result (Option Tree) E) → 0 < most
      → find (answer here) ≡ held joined → IfOk result (λ made. made ≡ joined) → Goes answer asked find most ss ss here here result
  joins find most ss here joined (Ok found) some is made =
      leaves find most ss ss [] here found (sym (append-nil ss)) (omega (arith, some)) (is ∙ ap held (sym made))
  joins find most ss here joined (Err e) some is made = fails find refl (none_asked find here)

  -- all that is to be found was asked at once
  pub asks_once : {E : Type 0} (find : Catalog → Found) (most : ℕ) (ss : List Task) (before after : S) (result : Result (Option Tree) E) → 0 < most
      → Finds answer asked find before after result → Goes answer asked find most ss ss before after result
  asks_once find most ss before after (Ok found) some h =
      let k = answer before in
      record {
        rest = [];
        left = sym (append-nil ss);
        fewer = omega (arith, some);
        leads = record {
          same = h.same;
          part = (find k).asked;
          grown = h.found.1;
          left = sym (own_after (find k)) ∙ ap (λ t. after_asking (find k).asked (held t)) (sym h.found.0);
        };
      }
  asks_once find most ss before after (Err e) some h = h

-- ---- the operands of a node

pub and_left : (k : Catalog) (negated : Bool) (l r : Tree) → filtered negated k (binary l Operator.And r) ≡ all_stepped k (second_task (not negated) negated r ∷ ask negated l ∷ []) (held None)
unfolding falsified
and_left k true l r = refl
and_left k false l r = refl

pub or_left : (k : Catalog) (negated : Bool) (l r : Tree) → filtered negated k (binary l Operator.Or r) ≡ all_stepped k (second_task negated negated r ∷ ask negated l ∷ []) (held None)
unfolding falsified
or_left k true l r = refl
or_left k false l r = refl

pub not_left : (k : Catalog) (negated : Bool) (e : Tree) → filtered negated k (not_of e) ≡ all_stepped k (ask (not negated) e ∷ []) (held None)
unfolding falsified
not_left k true e = refl
not_left k false e = refl

-- a comparison, by its operator
pub compared : (k : Catalog) (negated : Bool) (l r : Tree) (op : Operator) (o : CompareOperator) → comparison_of op ≡ Some o
    → comparison_falsified k l r (asked_comparison negated o) ≡ filtered negated k (binary l op r)
unfolding falsified
compared k true l r Operator.Eq o h = ap (λ c. comparison_falsified k l r (inverse_comparison c)) (sym (same_Some _ _ h))
compared k true l r Operator.NotEq o h = ap (λ c. comparison_falsified k l r (inverse_comparison c)) (sym (same_Some _ _ h))
compared k true l r Operator.Gt o h = ap (λ c. comparison_falsified k l r (inverse_comparison c)) (sym (same_Some _ _ h))
compared k true l r Operator.Gte o h = ap (λ c. comparison_falsified k l r (inverse_comparison c)) (sym (same_Some _ _ h))
compared k true l r Operator.Lt o h = ap (λ c. comparison_falsified k l r (inverse_comparison c)) (sym (same_Some _ _ h))
compared k true l r Operator.Lte o h = ap (λ c. comparison_falsified k l r (inverse_comparison c)) (sym (same_Some _ _ h))
compared k true l r _ o h = absurd (none-some _ h)
compared k false l r Operator.Eq o h = ap (comparison_falsified k l r) (sym (same_Some _ _ h))
compared k false l r Operator.NotEq o h = ap (comparison_falsified k l r) (sym (same_Some _ _ h))
compared k false l r Operator.Gt o h = ap (comparison_falsified k l r) (sym (same_Some _ _ h))
compared k false l r Operator.Gte o h = ap (comparison_falsified k l r) (sym (same_Some _ _ h))
compared k false l r Operator.Lt o h = ap (comparison_falsified k l r) (sym (same_Some _ _ h))
compared k false l r Operator.Lte o h = ap (comparison_falsified k l r) (sym (same_Some _ _ h))
compared k false l r _ o h = absurd (none-some _ h)

pub second_steps : (either negated : Bool) (e : Tree) → task_steps (second_task either negated e) ≡ 3 + further_steps e
second_steps true negated e = refl
second_steps false negated e = refl
