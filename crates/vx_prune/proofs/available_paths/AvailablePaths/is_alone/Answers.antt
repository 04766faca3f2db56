use Rattle.std.proofs.Common.{◌≡◌, ◌∙◌, false, sym, subst, map, List, Option, IfSome, Bool}
use Rattle.std.specs.BTreeMap.{BTreeMap, get}
use Rattle.std.specs.Cmp.Lexicographic.{slice_cmp}
use Rattle.std.specs.Ordering.{nat_cmp}
use Rattle.vx_dtype.specs.Types.{Bytes}
use Rattle.vx_passes.specs.Catalogs.{is_alone_among}
use Rattle.vx_semantics.specs.Tables.{joined_path}
use Rattle.vx_prune.specs.Standing.{NotesStanding}
use Rattle.vx_prune.proofs.StandingLemmas.{none-alone, noted-alone}
use Rattle.vx_prune.proofs.available_paths.AvailablePaths.is_alone.Goals as goal

pub returns-then-not-contains-clause-alone : goal.returns-then-not-contains-clause-alone
returns-then-not-contains-clause-alone c =
    subst (λ (members : List (List Bytes)). false ≡ is_alone_among members c.args.path.now) c.self.view_is
    (none-alone c.self.inside.paths.now c.args.path.now (sym c.contains.ensures ∙ c.if-not-contains.true))

pub returns-in-Some-clause-alone : goal.returns-in-Some-clause-alone
returns-in-Some-clause-alone c =
    let members = c.self.inside.paths.now in
    let noted = subst (λ (o : Option (BTreeMap Bytes Bool)). IfSome o (NotesStanding (map joined_path members))) c.in-Some.is c.self.invariant in
    subst (λ (ps : List (List Bytes)). c.stands_once.result ≡ is_alone_among ps c.args.path.now) c.self.view_is
    (noted-alone members c.args.path.now c.in_ok-name.name (get (slice_cmp nat_cmp) c.in-Some.standing c.in_ok-name.name) c.stands_once.result
    (sym c.contains.ensures ∙ c.if-not-contains.false) c.in_ok-name.ensures (noted c.in_ok-name.name) c.stands_once.ensures)

pub returns-clause-alone : goal.returns-clause-alone
returns-clause-alone c =
    let members = c.self.inside.paths.now in
    let standing = c.in_ok-standing.standing in
    let noted = subst (λ (ps : List (List Bytes)). NotesStanding (map joined_path ps) standing) c.as_slice.ensures.paths c.in_ok-standing.ensures in
    subst (λ (ps : List (List Bytes)). c.stands_once-alone.result ≡ is_alone_among ps c.args.path.now) c.self.view_is
    (noted-alone members c.args.path.now c.in_ok-name.name (get (slice_cmp nat_cmp) standing c.in_ok-name.name) c.stands_once-alone.result (sym c.contains.ensures ∙ c.if-not-contains.false)
    c.in_ok-name.ensures (noted c.in_ok-name.name) c.stands_once-alone.ensures)
