use Rattle.std.proofs.Common.{◌≡◌, ap, sym, ◌∙◌, [], ◌∷◌, ◌++◌, map, rules}
use Rattle.std.specs.Str.{chars}
use Rattle.std.specs.String.{string_bytes}
use Rattle.std.proofs.lemmas.Str.{chars-nil, IsUtf8-string_bytes}
use Rattle.vx_dtype.specs.Like.{wildcards, just}
use Rattle.vx_kernels.specs.Patterns.{letters, meaning_view}
use Rattle.vx_kernels.proofs.NeedleLemmas.{spelled_more}
use Rattle.vx_kernels.proofs.patterns.needle_of.Goals as goal

pub loop-c-init : goal.loop-c-init
loop-c-init c =
    let none : chars (string_bytes c.new-found.result) ≡ [] = ap chars c.new-found.ensures.bytes ∙ chars-nil in
    (c.utf8.text, ap (λ cs. map just cs ++ wildcards (letters c.args.fold_case c.args.text.now)) (sym none))

pub loop-c-preserved : goal.loop-c-preserved
loop-c-preserved c =
    let next : wildcards (letters c.args.fold_case c.loop-c.rest.now) ≡ just c.in-Just.d ∷ wildcards (letters c.args.fold_case c.meaning_at-meaning.result.1.now) = ap wildcards c.in-Some.ensures ∙ c.meaning_at-meaning.ensures.meaning ∙ ap (λ m. meaning_view m ∷ wildcards (letters c.args.fold_case c.meaning_at-meaning.result.1.now)) c.in-Just.is in (
      search rules,
      spelled_more _ (string_bytes c.loop-c.found) (string_bytes c.push.new.self) c.in-Just.d _ _ (IsUtf8-string_bytes c.loop-c.found) (IsUtf8-string_bytes c.push.new.self) c.in_ok-push-in-Just.ensures.bytes c.loop-c.invariant.1 next,
    )
