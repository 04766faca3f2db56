-- For the checker: no public clause cites this. Patterns of LIKE as the code keeps them, in parts, and how far they go.
use Rattle.std.specs.Prelude.{◌≡◌, ◌<◌, ◌≤◌, ⊤, ℕ, ◌==◌, Bool, true, false, cond, List, [], ◌∷◌, ◌++◌, map, length}
use Rattle.std.specs.Str.{chars}
use Rattle.std.specs.String.{string_bytes}
use Rattle.vx_dtype.specs.Like.{Wildcard, any_run, any_one, just, wildcards, matches, some_suffix, folded}
use Rattle.vx_dtype.specs.Types.{Bytes}
use Rattle.vx_kernels.specs.declared.patterns.Meaning.{Meaning}
use Rattle.vx_kernels.specs.declared.patterns.Meaning.TheVariants as meaning
use Rattle.vx_kernels.specs.declared.patterns.Needle.{Needle}
use Rattle.vx_kernels.specs.declared.patterns.Part.{Part}
use Rattle.vx_kernels.specs.declared.patterns.Part.TheVariants.{AnyRun, AnyOne, Just}
use Rattle.vx_kernels.specs.declared.patterns.Pattern.{Pattern}
use Rattle.vx_kernels.specs.declared.patterns.Reach.{Reach}
use Rattle.vx_kernels.specs.declared.patterns.Reach.TheVariants.{Matched, Run, TextEnds, Differs}

-- the part of a pattern that a meaning stands for
abbrev pub meaning_view : Meaning → Wildcard
meaning_view meaning.AnyRun = any_run
meaning_view meaning.AnyOne = any_one
meaning_view (meaning.Just c) = just c

-- the part of a pattern that a part of the code stands for
abbrev pub part_view : Part → Wildcard
part_view (AnyRun needle) = any_run
part_view AnyOne = any_one
part_view (Just c) = just c

-- a character, folded where this is asked
abbrev pub letter : Bool → ℕ → ℕ
letter fold c = cond fold (folded c) c

-- the characters, folded where this is asked
abbrev pub folded_if : Bool → List ℕ → List ℕ
folded_if fold cs = cond fold (map folded cs) cs

-- the characters of a text, folded where this is asked
abbrev pub letters : Bool → Bytes → List ℕ
letters fold text = folded_if fold (chars text)

-- whether a part is a run
abbrev pub is_run : Wildcard → Bool
is_run any_run = true
is_run _ = false

-- whether a part that isn't a run takes a character
abbrev pub takes : Wildcard → ℕ → Bool
takes any_run c = false
takes any_one c = true
takes (just d) c = c == d

-- the parts begin with the characters of a needle, and none stands behind them where they are the last
pub record IsNeedle (needle : Needle) (ws : List Wildcard) : Type 0 where
  pub others : List Wildcard
  pub begins : ws ≡ map just (chars (string_bytes needle.text)) ++ others
  pub last : needle.last ≡ true → others ≡ []

-- a part's needle, where it has one, is that of the parts behind it
abbrev pub IsNeedleOf : Part → List Wildcard → Type 0
IsNeedleOf (AnyRun needle) ws = IsNeedle needle.value ws
IsNeedleOf AnyOne ws = ⊤
IsNeedleOf (Just c) ws = ⊤

-- each needle is that of the parts behind it, the last of which are these
abbrev pub NeedlesFit : List Part → List Wildcard → Type 0
NeedlesFit [] ws = ⊤
NeedlesFit (p ∷ ps) ws = IsNeedleOf p (map part_view ps ++ ws) × NeedlesFit ps ws

-- a needle, and those of the parts behind it, fit
pub record AreNeedles (needle : Needle) (parts : List Part) : Type 0 where
  pub first : IsNeedle needle (map part_view parts)
  pub others : NeedlesFit parts []

-- the pattern is the one that the text spells
pub record IsPattern (fold : Bool) (text : Bytes) (pattern : Pattern) : Type 0 where
  pub parts : map part_view pattern.parts.items ≡ wildcards (letters fold text)
  pub needles : NeedlesFit pattern.parts.items []
  pub fold_case : pattern.fold_case ≡ fold

-- the parts of a pattern go as far as a run in the characters: from there on some suffix of those left has to match the parts behind it,
-- both where the characters match and where some suffix of them does
pub record IsRunBehind (ws vs : List Wildcard) (cs ds : List ℕ) : Type 0 where
  pub first : matches ws cs ≡ some_suffix (matches vs) ds
  pub later : some_suffix (matches ws) cs ≡ some_suffix (matches vs) ds
  pub fewer : length vs < length ws
  pub behind : length ds ≤ length cs

-- and their needles fit
pub record IsRunFound (parts behind : List Part) (needle : Needle) (text rest : Bytes) : Type 0 where
  pub run : IsRunBehind (map part_view parts) (map part_view behind) (chars text) (chars rest)
  pub needles : NeedlesFit parts [] → AreNeedles needle behind

-- the parts of a pattern go this far in the characters of a text
abbrev pub IsReach : List Part → Bytes → Reach → Type 0
IsReach parts text Matched = matches (map part_view parts) (chars text) ≡ true
IsReach parts text (Run needle behind rest) = IsRunFound parts behind.now needle.now text rest.now
IsReach parts text TextEnds = some_suffix (matches (map part_view parts)) (chars text) ≡ false
IsReach parts text Differs = matches (map part_view parts) (chars text) ≡ false
