-- Files in memory that are kept in a folder.
use Rattle.std.proofs.Common.{◌≡◌, refl, sym, ap, ◌∙◌, subst, Bool, true, false, cond, not, ◌&&◌, ◌||◌, List, [], ◌∷◌, ◌++◌, map, filter, length, drop, Option, Some, None}
use Rattle.std.proofs.lemmas.Bool.Decides.{Decides-eqb}
use Rattle.std.proofs.lemmas.List.{map-append}
use Rattle.std.proofs.lemmas.Slice.Eq.{starts_is}
use Rattle.std.specs.Cmp.Lexicographic.{bytes_decides}
use Rattle.std.specs.List.{list_any}
use Rattle.std.specs.Str.{bytes_eq}
use Rattle.std.specs.String.{string_bytes}
use Rattle.vx_dtype.specs.Types.{Bytes}
use Rattle.vx_files.specs.Kept.{MayStand, MayBeFree, kept_as}
use Rattle.vx_files.specs.FolderKeeping.{NamedFile, MayStandIn, bytes_named, found_over, is_below, kept_with_files}
use Rattle.vx_files.specs.MemoryViews.{FileSeen, bytes_among, file_in, file_view, files_out_of, kept_among}
use Rattle.vx_files.specs.declared.memory_files.MemoryFile.{MemoryFile}

-- the paths that begin with a folder's
below_is : (folder path : Bytes) → is_below folder path ≡ true → path ≡ folder ++ drop (length folder) path
below_is folder path = (starts_is Decides-eqb path folder (is_below folder path) refl).0

is_below_it : (folder path name : Bytes) → path ≡ folder ++ name → is_below folder path ≡ true
is_below_it folder path name = (starts_is Decides-eqb path folder (is_below folder path) refl).1 name

pub not_both : {A : Type 0} (b : Bool) → b ≡ true → b ≡ false → A
not_both true h k = let no : ⊥ = cc in absurd no
not_both false h k = let no : ⊥ = cc in absurd no

-- the files out of a folder, as they are seen
abbrev is_out : Bytes → FileSeen → Bool
is_out folder file = not (is_below folder file.path)

either_seen : (b : Bool) (file : MemoryFile) (files : List MemoryFile) (seen : List FileSeen) → map file_view files ≡ seen
    → map file_view (cond b (file ∷ files) files) ≡ cond b (file_view file ∷ seen) seen
either_seen true file files seen e = ap (λ (fs : List FileSeen). file_view file ∷ fs) e
either_seen false file files seen e = e

out_seen : (folder : Bytes) (files : List MemoryFile) → map file_view (files_out_of folder files) ≡ filter (is_out folder) (map file_view files)
out_seen folder [] = refl
out_seen folder (file ∷ files) =
    either_seen (not (is_below folder (string_bytes file.path))) file (files_out_of folder files) (filter (is_out folder) (map file_view files))
    (out_seen folder files)

-- none of them has a path below it
skipped : (b c : Bool) (file : FileSeen) (files rest : List FileSeen) (other : Bytes) (found : Option Bytes) → bytes_eq file.path other ≡ c → (c ≡ true → b ≡ true)
    → bytes_among (files ++ rest) other ≡ found → bytes_among (cond (not b) (file ∷ files) files ++ rest) other ≡ found
skipped true c file files rest other found e h left = left
skipped false true file files rest other found e h left = not_both false (h refl) refl
skipped false false file files rest other found e h left = ap (λ (t : Bool). cond t (Some file.bytes) (bytes_among (files ++ rest) other)) e ∙ left

found_below : (folder other : Bytes) (rest : List FileSeen) → is_below folder other ≡ true → (files : List FileSeen)
    → bytes_among (filter (is_out folder) files ++ rest) other ≡ bytes_among rest other
found_below folder other rest below [] = refl
found_below folder other rest below (file ∷ files) =
    skipped (is_below folder file.path) (bytes_eq file.path other) file (filter (is_out folder) files) rest other (bytes_among rest other) refl
    (λ e. ap (is_below folder) ((bytes_decides file.path other).0 e) ∙ below) (found_below folder other rest below files)

-- and each other path leads to what it led to
stayed : (b c : Bool) (file : FileSeen) (files rest all : List FileSeen) (other : Bytes) → bytes_eq file.path other ≡ c → (c ≡ true → b ≡ false)
    → bytes_among (files ++ rest) other ≡ bytes_among all other → bytes_among (cond (not b) (file ∷ files) files ++ rest) other ≡ bytes_among (file ∷ all) other
stayed false c file files rest all other e h left = ap (λ (r : Option Bytes). cond (bytes_eq file.path other) (Some file.bytes) r) left
stayed true true file files rest all other e h left = not_both true refl (h refl)
stayed true false file files rest all other e h left = left ∙ sym (ap (λ (t : Bool). cond t (Some file.bytes) (bytes_among all other)) e)

found_out : (folder other : Bytes) (rest : List FileSeen) → is_below folder other ≡ false → bytes_among rest other ≡ None → (files : List FileSeen)
    → bytes_among (filter (is_out folder) files ++ rest) other ≡ bytes_among files other
found_out folder other rest out none [] = none
found_out folder other rest out none (file ∷ files) =
    stayed (is_below folder file.path) (bytes_eq file.path other) file (filter (is_out folder) files) rest files other refl
    (λ e. ap (is_below folder) ((bytes_decides file.path other).0 e) ∙ out) (found_out folder other rest out none files)

-- the files of a folder under their paths
front_drops : (folder name rest : Bytes) → bytes_eq (folder ++ name) (folder ++ rest) ≡ bytes_eq name rest
front_drops [] name rest = refl
front_drops (b ∷ folder) name rest = ap (λ (t : Bool). t && bytes_eq (folder ++ name) (folder ++ rest)) ((Decides-eqb b b).1 refl) ∙ front_drops folder name rest

in_below : (folder other : Bytes) → other ≡ folder ++ drop (length folder) other → (files : List NamedFile)
    → bytes_among (map (file_in folder) files) other ≡ bytes_named files (drop (length folder) other)
in_below folder other is [] = refl
in_below folder other is (file ∷ files) =
    let same : bytes_eq (folder ++ file.name) other ≡ bytes_eq file.name (drop (length folder) other) =
    ap (bytes_eq (folder ++ file.name)) is ∙ front_drops folder file.name (drop (length folder) other) in
    λ i. cond (same i) (Some file.bytes) (in_below folder other is files i)

not_first : (folder other : Bytes) → is_below folder other ≡ false → (file : NamedFile) (files : List NamedFile) (c : Bool) → bytes_eq (folder ++ file.name) other ≡ c
    → bytes_among (map (file_in folder) files) other ≡ None → bytes_among (map (file_in folder) (file ∷ files)) other ≡ None
not_first folder other out file files true e left =
    not_both (is_below folder other) (is_below_it folder other file.name (sym ((bytes_decides (folder ++ file.name) other).0 e))) out
not_first folder other out file files false e left = ap (λ (t : Bool). cond t (Some file.bytes) (bytes_among (map (file_in folder) files) other)) e ∙ left

not_in : (folder other : Bytes) → is_below folder other ≡ false → (files : List NamedFile) → bytes_among (map (file_in folder) files) other ≡ None
not_in folder other out [] = refl
not_in folder other out (file ∷ files) = not_first folder other out file files (bytes_eq (folder ++ file.name) other) refl (not_in folder other out files)

-- what paths lead to once they are there
over : (found was : Option Bytes) → found_over found (kept_as was) ≡ kept_as found
over found None = refl
over found (Some bytes) = refl

seen_kept : (folder : Bytes) (old : List FileSeen) (files : List NamedFile) (other : Bytes)
    → kept_among (filter (is_out folder) old ++ map (file_in folder) files) other ≡ kept_with_files folder files (kept_among old) other
seen_kept folder old files other = by (is_below folder other) refl
  where
    new : List FileSeen
    new = map (file_in folder) files

    found : Option Bytes
    found = bytes_named files (drop (length folder) other)

    by : (b : Bool) → is_below folder other ≡ b → kept_among (filter (is_out folder) old ++ new) other ≡ kept_with_files folder files (kept_among old) other
    by true e =
        ap kept_as (found_below folder other new e old ∙ in_below folder other (below_is folder other e) files) ∙ sym (over found (bytes_among old other))
        ∙ sym (ap (λ (t : Bool). cond t (found_over found (kept_among old other)) (kept_among old other)) e)
    by false e =
        ap kept_as (found_out folder other new e (not_in folder other e files) old)
        ∙ sym (ap (λ (t : Bool). cond t (found_over found (kept_among old other)) (kept_among old other)) e)

pub folder_kept : (folder : Bytes) (files : List NamedFile) (old new all : List MemoryFile) → all ≡ files_out_of folder old ++ new
    → map file_view new ≡ map (file_in folder) files → (other : Bytes)
    → kept_among (map file_view all) other ≡ kept_with_files folder files (kept_among (map file_view old)) other
folder_kept folder files old new all is placed other =
    let seen : map file_view all ≡ filter (is_out folder) (map file_view old) ++ map (file_in folder) files =
    ap (map file_view) is ∙ map-append file_view (files_out_of folder old) new ∙ (λ i. out_seen folder old i ++ placed i) in
    ap (λ (fs : List FileSeen). kept_among fs other) seen ∙ seen_kept folder (map file_view old) files other

-- where no file is below a folder nothing stands there
abbrev pub some_below : Bytes → List FileSeen → Bool
some_below folder files = list_any (λ file. is_below folder file.path) files

none_first : (folder name : Bytes) (file : FileSeen) (files : List FileSeen) (b c : Bool) → is_below folder file.path ≡ b → bytes_eq file.path (folder ++ name) ≡ c
    → some_below folder (file ∷ files) ≡ false → (some_below folder files ≡ false → bytes_among files (folder ++ name) ≡ None)
    → bytes_among (file ∷ files) (folder ++ name) ≡ None
none_first folder name file files true c e k none left =
    not_both (some_below folder (file ∷ files)) (ap (λ (t : Bool). t || some_below folder files) e) none
none_first folder name file files false true e k none left =
    not_both (is_below folder file.path) (is_below_it folder file.path name ((bytes_decides file.path (folder ++ name)).0 k)) e
none_first folder name file files false false e k none left =
    ap (λ (t : Bool). cond t (Some file.bytes) (bytes_among files (folder ++ name))) k
    ∙ left (sym (ap (λ (t : Bool). t || some_below folder files) e) ∙ none)

none_found : (folder name : Bytes) (files : List FileSeen) → some_below folder files ≡ false → bytes_among files (folder ++ name) ≡ None
none_found folder name [] none = refl
none_found folder name (file ∷ files) none =
    none_first folder name file files (is_below folder file.path) (bytes_eq file.path (folder ++ name)) refl refl none (none_found folder name files)

pub none_stands : (folder : Bytes) (files : List FileSeen) → some_below folder files ≡ false → (name : Bytes) → MayBeFree (kept_among files (folder ++ name))
none_stands folder files none name = subst (λ (found : Option Bytes). MayBeFree (kept_as found)) (sym (none_found folder name files none)) tt

-- and where one is something does
found_either : (b : Bool) (file : FileSeen) (rest : Option Bytes) → (kept : MayStand (kept_as rest)) → MayStand (kept_as (cond b (Some file.bytes) rest))
found_either true file rest kept = tt
found_either false file rest kept = kept

some_first : (folder : Bytes) (file : FileSeen) (files : List FileSeen) (b : Bool) → is_below folder file.path ≡ b → some_below folder (file ∷ files) ≡ true
    → (some_below folder files ≡ true → MayStandIn folder (kept_among files)) → MayStandIn folder (kept_among (file ∷ files))
some_first folder file files true e some left =
    let name = drop (length folder) file.path in
    let same = (bytes_decides file.path (folder ++ name)).1 (below_is folder file.path e) in
    (name, subst (λ (t : Bool). MayStand (kept_as (cond t (Some file.bytes) (bytes_among files (folder ++ name))))) (sym same) tt)
some_first folder file files false e some left =
    let there = left (sym (ap (λ (t : Bool). t || some_below folder files) e) ∙ some) in
    (there.0, found_either (bytes_eq file.path (folder ++ there.0)) file (bytes_among files (folder ++ there.0)) there.1)

pub some_stands : (folder : Bytes) (files : List FileSeen) → some_below folder files ≡ true → MayStandIn folder (kept_among files)
some_stands folder [] some = not_both false some refl
some_stands folder (file ∷ files) some = some_first folder file files (is_below folder file.path) refl some (some_stands folder files)
