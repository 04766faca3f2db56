-- What is known of a writer's bytes, from one step to the next.
use Rattle.std.proofs.Common.{ℕ, List, take, Option, Some, None, sym, append-nil, ◌∙◌}
use Rattle.std.specs.Io.KnownBytes.{Appends, Keeps}

-- what was added stays where the bytes stay
pub appends_kept : (old new last : Option (List ℕ)) (bs : List ℕ) → Appends old new bs → Keeps new last → Appends old last bs
appends_kept None new last bs h k = tt
appends_kept (Some xs) None last bs h k = absurd h
appends_kept (Some xs) (Some ys) None bs h k = absurd k
appends_kept (Some xs) (Some ys) (Some zs) bs h k = k ∙ h

-- nothing is added where the bytes stay
pub appends_nothing : (known : Option (List ℕ)) (bs : List ℕ) → Appends known known (take 0 bs)
appends_nothing None bs = tt
appends_nothing (Some xs) bs = sym (append-nil xs)
