-- What is left of a path behind that of its folder.
use Rattle.std.proofs.Common.{◌≡◌, refl, sym, ap, ◌∙◌, ℕ, Bool, true, false, cond, ◌&&◌, Some, None, [], ◌∷◌, ◌++◌, length, take, drop, take-append-drop}
use Rattle.std.specs.Cmp.Lexicographic.{bytes_decides}
use Rattle.std.specs.Str.{bytes_eq}
use Rattle.std.specs.Str.Pattern.{LacksTextAt}
use Rattle.vx_dtype.specs.Types.{Bytes}
use Rattle.vx_files.specs.MemoryViews.{is_name, name_in}

front_of : (front behind : Bytes) → take (length front) (front ++ behind) ≡ front
front_of [] behind = refl
front_of (b ∷ front) behind = ap (λ (bs : Bytes). b ∷ bs) (front_of front behind)

-- a path that begins with its folder's
pub name_behind : (folder path name : Bytes) (k : ℕ) → k ≡ length folder → path ≡ folder ++ drop k path → name ≡ drop k path
    → name_in folder path ≡ cond (is_name name) (Some name) None
name_behind folder path name k at stands is =
    let begins : take (length folder) path ≡ folder = ap (take (length folder)) stands ∙ front_of folder (drop k path) in
    let left : drop (length folder) path ≡ name = ap (λ (n : ℕ). drop n path) (sym at) ∙ sym is in
    let same : bytes_eq (take (length folder) path) folder ≡ true = (bytes_decides (take (length folder) path) folder).1 begins in
    λ i. cond (same i && is_name (left i)) (Some (left i)) None

-- and one that doesn't
pub no_name_behind : (folder path : Bytes) → LacksTextAt folder path 0 → name_in folder path ≡ None
no_name_behind folder path lacks = by (bytes_eq (take (length folder) path) folder) refl
  where
    by : (b : Bool) → bytes_eq (take (length folder) path) folder ≡ b → name_in folder path ≡ None
    by true e =
        let begins = (bytes_decides (take (length folder) path) folder).0 e in
        absurd (lacks (drop (length folder) path)
        (sym (take-append-drop (length folder) path) ∙ ap (λ (bs : Bytes). bs ++ drop (length folder) path) begins))
    by false e = ap (λ (b : Bool). cond (b && is_name (drop (length folder) path)) (Some (drop (length folder) path)) None) e
