-- Files that are opened one after another by their names.
use Rattle.std.proofs.Common.{◌≡◌, sym, ap, ◌∙◌, subst, ℕ, zero, suc, ◌+◌, ◌<◌, ◌≤◌, ◌^◌, nat_eq, Bool, false, Some, None, List, [], ◌∷◌, ◌++◌, map, length, take, drop, arith, slice_get}
use Rattle.std.specs.Prelude.{Err}
use Rattle.std.proofs.lemmas.List.{length-append, map_push}
use Rattle.std.proofs.lemmas.Option.{same_Some, none-some}
use Rattle.vx_dtype.specs.Types.{Bytes}
use Rattle.vx_semantics.specs.Tables.{Zones}
use Rattle.vx_zones.specs.Zoning.{broken_rule}
use Rattle.vx_laws_file.specs.FileForms.{Header}
use Rattle.vx_file_open.specs.Layouts.{IsFileWith}
use Rattle.vx_laws_shell.specs.Folders.{zones_before}
use Rattle.vx_laws_shell.specs.Paths.{WhereEachKept, Listed, unlisted, no_folder, lists, WhereListed}
use Rattle.vx_laws_shell.specs.FolderContents.{AreFileNames, kept_in, ArePassed, IsUnlikeThem, HaveTooManyBlocks, IsFolderFault, unlike_file}
use Rattle.vx_laws_shell.specs.Paths.{Kept, WhereKept}
use Rattle.vx_laws_shell.specs.Paths.{Paths}
use Rattle.vx_laws_shell.specs.FolderContents.{WhereFiles}
use Rattle.vx_folder.specs.PathViews.{kept_by}
use Rattle.vx_folder.specs.FolderParts.{Parts, held_of, AreParts}
use Rattle.vx_folder.specs.FolderAnswers.{HoldsFiles, AreRefused, IsRefusedFolder, IsUnlisted, IsHeaderFault, IsNext, IsUnlike, GathersNext, AreGathered, IsLawful, gathered_zones}
use Rattle.vx_folder.specs.FolderTables.{Ascend, FilesTable, HasPlaces, HoldTable, IsTableOfFolder}
use Rattle.vx_folder.specs.declared.gathering.Gathered.{Gathered}
use Rattle.vx_folder.specs.declared.errors.FolderError.{FolderError}
use Rattle.vx_folder.specs.declared.errors.FolderError.TheVariants as errors
use Rattle.vx_folder.proofs.GatherLemmas.{first_gathered, gathered_more, unlike_more, are_passed, too_many, hold_together, holds_files, parts_held, header_refused}
use Rattle.vx_folder.proofs.KeptLemmas.{where_each_so, where_kept_so, where_each_more}

-- ---- lists of names

pub split_at : {X Y : Type 0} (f : X → Y) (xs : List X) (i : ℕ) (x : X) → slice_get xs i ≡ Some x → map f xs ≡ map f (take i xs) ++ f x ∷ map f (drop (suc i) xs)
split_at f [] i x e = absurd (none-some x e)
split_at {X} {Y} f (y ∷ xs) zero x e = ap (λ (z : X). f z ∷ map f xs) (same_Some y x e)
split_at {X} {Y} f (y ∷ xs) (suc i) x e = ap (λ (rest : List Y). f y ∷ rest) (split_at f xs i x e)

taken_further : {X Y : Type 0} (f : X → Y) (xs : List X) (i : ℕ) (x : X) → slice_get xs i ≡ Some x → map f (take (suc i) xs) ≡ map f (take i xs) ++ f x ∷ []
taken_further f [] i x e = absurd (none-some x e)
taken_further {X} {Y} f (y ∷ xs) zero x e = ap (λ (z : X). f z ∷ []) (same_Some y x e)
taken_further {X} {Y} f (y ∷ xs) (suc i) x e = ap (λ (rest : List Y). f y ∷ rest) (taken_further f xs i x e)

pub taken_more : {X Y : Type 0} (f : X → Y) (xs : List X) (i : ℕ) (x : X) → slice_get xs i ≡ Some x → map f (take (i + 1) xs) ≡ map f (take i xs) ++ f x ∷ []
taken_more {X} f xs i x e =
    let more : i + 1 ≡ suc i = omega arith in ap (λ (n : ℕ). map f (take n xs)) more ∙ taken_further f xs i x e

-- ---- files

module _ (kept : Bytes → Kept) (folder : Bytes) where
  pub first_read : (name : Bytes) (h : Header) → WhereKept (kept (folder ++ name)) (IsFileWith h) → WhereEachKept (kept_in kept folder (name ∷ [])) (AreGathered h.zones (0 ∷ []))
  first_read name h w = where_kept_so (kept (folder ++ name)) (IsFileWith h) (AreGathered h.zones (0 ∷ [])) (λ bytes. first_gathered h bytes) w

  pub next_read : (front : List Bytes) (name : Bytes) (zones after : Zones) (begins : List ℕ) → WhereEachKept (kept_in kept folder front) (AreGathered zones begins)
      → IsNext (kept (folder ++ name)) zones after → WhereEachKept (kept_in kept folder (front ++ name ∷ [])) (AreGathered after (begins ++ length zones.lengths ∷ []))
  next_read front name zones after begins so_far next =
      let more = begins ++ length zones.lengths ∷ [] in
      subst (λ (ks : List Kept). WhereEachKept ks (AreGathered after more)) (sym (map_push (λ (n : Bytes). kept (folder ++ n)) front name))
      (subst (λ (z : Zones). WhereEachKept (kept_in kept folder front ++ kept (folder ++ name) ∷ []) (AreGathered z more)) (sym next.after_is)
      (where_each_more (kept_in kept folder front) (kept (folder ++ name)) (AreGathered zones begins) (IsFileWith next.header) (AreGathered (zones_before zones next.header.zones) more)
      (λ read bytes g w. gathered_more zones begins read next.header bytes g w next.alike) so_far next.file))

  pub front_passed : (front : List Bytes) (zones : Zones) (begins : List ℕ) → WhereEachKept (kept_in kept folder front) (AreGathered zones begins)
      → WhereEachKept (kept_in kept folder front) ArePassed
  front_passed front zones begins so_far =
      where_each_so (kept_in kept folder front) (AreGathered zones begins) ArePassed (are_passed zones begins) so_far

  pub first_refused : (names back : List Bytes) (name : Bytes) (error : FolderError) → names ≡ name ∷ back → IsHeaderFault (kept (folder ++ name)) name error
      → AreRefused kept folder names error
  first_refused names back name error split h = header_refused kept folder names [] back name split ([], tt, tt) error h

  module _ (names front back : List Bytes) (name : Bytes) (split : names ≡ front ++ name ∷ back) (zones after : Zones) (begins : List ℕ)
      (so_far : WhereEachKept (kept_in kept folder front) (AreGathered zones begins)) where
    unlike : IsUnlike (kept (folder ++ name)) zones → WhereEachKept (kept_in kept folder (front ++ name ∷ [])) IsUnlikeThem
    unlike h =
        subst (λ (ks : List Kept). WhereEachKept ks IsUnlikeThem) (sym (map_push (λ (n : Bytes). kept (folder ++ n)) front name))
        (where_each_more (kept_in kept folder front) (kept (folder ++ name)) (AreGathered zones begins) (IsFileWith h.header) IsUnlikeThem
        (λ read bytes g w. unlike_more zones begins read h.header bytes g w h.unlike) so_far h.file)

    passed : WhereEachKept (kept_in kept folder front) ArePassed
    passed = front_passed front zones begins so_far

    refused : (error : FolderError) → IsHeaderFault (kept (folder ++ name)) name error → AreRefused kept folder names error
    refused error h = header_refused kept folder names front back name split passed error h

    pub next_refused : (error : FolderError) → GathersNext (kept (folder ++ name)) name zones after (Err error) → AreRefused kept folder names error
    next_refused errors.NoMemory h = tt
    next_refused errors.ReadFault h = tt
    next_refused errors.NotListed h = absurd h
    next_refused errors.NoFile h = absurd h
    next_refused (errors.NotOpened told) h = refused (errors.NotOpened told) h
    next_refused (errors.NoBlockFile told error) h = refused (errors.NoBlockFile told error) h
    next_refused (errors.Unlike told) h =
        subst (λ (n : Bytes). IsFolderFault kept folder names (unlike_file n)) (sym h.0) (front, back, split, passed, unlike h.1)
    next_refused errors.TooManyBlocks h = absurd h

-- ---- the files of names, one after another

pub some_stand : (n : ℕ) (empty : Bool) → empty ≡ nat_eq n 0 → empty ≡ false → 0 < n
some_stand zero empty is e = let none : ⊥ = cc in absurd none
some_stand (suc n) empty is e = omega arith

front_stays : (begins : List ℕ) (n : ℕ) → slice_get begins 0 ≡ Some 0 → slice_get (begins ++ n ∷ []) 0 ≡ Some 0
front_stays [] n e = absurd (none-some 0 e)
front_stays (begin ∷ begins) n e = e

-- numbers that ascend to one, with that one behind them
ascend_more : (low high higher : ℕ) (ns : List ℕ) → Ascend low ns high → high ≤ higher → Ascend low (ns ++ high ∷ []) higher
ascend_more low high higher [] h k = (h, k)
ascend_more low high higher (n ∷ ns) h k = (h.0, ascend_more n high higher ns h.1 k)

pub lawful_first : (g : Gathered) (zones : Zones) → gathered_zones g ≡ zones → broken_rule zones ≡ None → g.begins.items ≡ 0 ∷ [] → IsLawful g 1
lawful_first g zones is rules begins = record {
  rules = ap broken_rule is ∙ rules;
  paired = ap length begins;
  front = ap (λ (bs : List ℕ). slice_get bs 0) begins;
  ascend = subst (λ (bs : List ℕ). Ascend 0 bs (length g.lengths.items)) (sym begins) (omega arith, omega arith);
}

-- the blocks with those of one more file are as many at least
pub blocks_grow : (kept : Kept) (before after : Zones) → IsNext kept before after → length before.lengths ≤ length after.lengths
blocks_grow kept before after next =
    omega (arith, ap (λ (z : Zones). length z.lengths) next.after_is, length-append before.lengths next.header.zones.lengths)

pub lawful_next : (g now : Gathered) (i : ℕ) → IsLawful g i → broken_rule (gathered_zones now) ≡ None
    → now.begins.items ≡ g.begins.items ++ length g.lengths.items ∷ [] → length g.lengths.items ≤ length now.lengths.items → IsLawful now (i + 1)
lawful_next g now i h rules more later = record {
  rules = rules;
  paired = ap length more ∙ length-append g.begins.items (length g.lengths.items ∷ []) ∙ ap (λ (k : ℕ). k + 1) h.paired;
  front = ap (λ (bs : List ℕ). slice_get bs 0) more ∙ front_stays g.begins.items (length g.lengths.items) h.front;
  ascend = subst (λ (bs : List ℕ). Ascend 0 bs (length now.lengths.items)) (sym more)
      (ascend_more 0 (length g.lengths.items) (length now.lengths.items) g.begins.items h.ascend later);
}

module _ (kept : Bytes → Kept) (folder : Bytes) {X : Type 0} (f : X → Bytes) (xs : List X) (x : X) (name : Bytes) (is : name ≡ f x) where
  pub first_so_far : (h : Header) (zones : Zones) (begins : List ℕ) → slice_get xs 0 ≡ Some x → zones ≡ h.zones → begins ≡ 0 ∷ []
      → WhereKept (kept (folder ++ name)) (IsFileWith h) → WhereEachKept (kept_in kept folder (map f (take 1 xs))) (AreGathered zones begins)
  first_so_far h zones begins here z b w =
      let names : map f (take 1 xs) ≡ name ∷ [] = taken_further f xs 0 x here ∙ ap (λ (n : Bytes). n ∷ []) (sym is) in
      subst (λ (ns : List Bytes). WhereEachKept (kept_in kept folder ns) (AreGathered zones begins)) (sym names)
      (subst (λ (bs : List ℕ). WhereEachKept (kept_in kept folder (name ∷ [])) (AreGathered zones bs)) (sym b)
      (subst (λ (zs : Zones). WhereEachKept (kept_in kept folder (name ∷ [])) (AreGathered zs (0 ∷ []))) (sym z) (first_read kept folder name h w)))

  pub more_so_far : (i : ℕ) (zones after : Zones) (begins more : List ℕ) → slice_get xs i ≡ Some x → more ≡ begins ++ length zones.lengths ∷ []
      → WhereEachKept (kept_in kept folder (map f (take i xs))) (AreGathered zones begins) → IsNext (kept (folder ++ name)) zones after
      → WhereEachKept (kept_in kept folder (map f (take (i + 1) xs))) (AreGathered after more)
  more_so_far i zones after begins more here b so_far next =
      let names : map f (take (i + 1) xs) ≡ map f (take i xs) ++ name ∷ [] =
      taken_more f xs i x here ∙ ap (λ (n : Bytes). map f (take i xs) ++ n ∷ []) (sym is) in
      subst (λ (ns : List Bytes). WhereEachKept (kept_in kept folder ns) (AreGathered after more)) (sym names)
      (subst (λ (bs : List ℕ). WhereEachKept (kept_in kept folder (map f (take i xs) ++ name ∷ [])) (AreGathered after bs)) (sym b)
      (next_read kept folder (map f (take i xs)) name zones after begins so_far next))

  pub first_refused_at : (error : FolderError) → slice_get xs 0 ≡ Some x → IsHeaderFault (kept (folder ++ name)) name error → AreRefused kept folder (map f xs) error
  first_refused_at error here h =
      first_refused kept folder (map f xs) (map f (drop 1 xs)) name error
      (split_at f xs 0 x here ∙ ap (λ (n : Bytes). n ∷ map f (drop 1 xs)) (sym is)) h

  pub refused_at : (i : ℕ) (zones after : Zones) (begins : List ℕ) (error : FolderError) → slice_get xs i ≡ Some x
      → WhereEachKept (kept_in kept folder (map f (take i xs))) (AreGathered zones begins)
      → GathersNext (kept (folder ++ name)) name zones after (Err error) → AreRefused kept folder (map f xs) error
  refused_at i zones after begins error here so_far h =
      next_refused kept folder (map f xs) (map f (take i xs)) (map f (drop (suc i) xs)) name
      (split_at f xs i x here ∙ ap (λ (n : Bytes). map f (take i xs) ++ n ∷ map f (drop (suc i) xs)) (sym is)) zones after begins so_far error h

-- a file whose header isn't read isn't put behind those before it
pub next_unread : (kept : Kept) (name : Bytes) (before after : Zones) (error : FolderError) → IsHeaderFault kept name error
    → GathersNext kept name before after (Err error)
next_unread kept name before after errors.NoMemory h = tt
next_unread kept name before after errors.ReadFault h = tt
next_unread kept name before after errors.NotListed h = absurd h
next_unread kept name before after errors.NoFile h = absurd h
next_unread kept name before after (errors.NotOpened told) h = h
next_unread kept name before after (errors.NoBlockFile told error) h = h
next_unread kept name before after (errors.Unlike told) h = absurd h
next_unread kept name before after errors.TooManyBlocks h = absurd h

-- ---- the table of a folder

pub gathered_as : (ks : List Kept) (zones other : Zones) (begins others : List ℕ) → other ≡ zones → others ≡ begins → WhereEachKept ks (AreGathered zones begins)
    → WhereEachKept ks (AreGathered other others)
gathered_as ks zones other begins others z b h =
    subst (λ (zs : Zones). WhereEachKept ks (AreGathered zs others)) (sym z) (subst (λ (bs : List ℕ). WhereEachKept ks (AreGathered zones bs)) (sym b) h)

-- the blocks of each file have their places in it
pub table_places : (g : Gathered) (files : ℕ) (table : FilesTable) → IsLawful g files → table.zones ≡ gathered_zones g → table.begins ≡ g.begins.items
    → length table.names ≡ files → HasPlaces table
table_places g files table h zones begins names = record {
  front = ap (λ (bs : List ℕ). slice_get bs 0) begins ∙ h.front;
  paired = ap length begins ∙ h.paired ∙ sym names;
  ascend = subst (λ (bs : List ℕ). Ascend 0 bs (length table.zones.lengths)) (sym begins)
      (subst (λ (zs : Zones). Ascend 0 g.begins.items (length zs.lengths)) (sym zones) h.ascend);
}

-- it is what the files hold together
pub table_held : (ks : List Kept) (table : FilesTable) → length table.zones.lengths < 2 ^ 32 → WhereEachKept ks (AreGathered table.zones table.begins)
    → WhereEachKept ks (HoldTable table)
table_held ks table few h =
    where_each_so ks (AreGathered table.zones table.begins) (HoldTable table)
    (λ read g. record {
      first = g.first;
      contents = g.contents;
      together = hold_together table.zones table.begins read few g;
      zones_are = g.zones_are;
      placed = g.placed;
    }) h

-- ---- the parts of a folder

module _ (parts : Parts) (path : Bytes) (at : parts.folder ≡ path) (few : length parts.zones.lengths < 2 ^ 32)
    (h : WhereEachKept (kept_in (kept_by parts.kept) path parts.names) (AreGathered parts.zones parts.begins)) where
  gathered_there : WhereEachKept (kept_in (kept_by parts.kept) parts.folder parts.names) (AreGathered parts.zones parts.begins)
  gathered_there = subst (λ (p : Bytes). WhereEachKept (kept_in (kept_by parts.kept) p parts.names) (AreGathered parts.zones parts.begins)) (sym at) h

  pub parts_are : slice_get parts.begins 0 ≡ Some 0 → length parts.begins ≡ length parts.names → AreParts parts
  parts_are front paired = record { front = front; paired = paired; held = parts_held parts few gathered_there }

  pub parts_hold : WhereEachKept (kept_in (kept_by parts.kept) path parts.names) (HoldsFiles (held_of parts))
  parts_hold =
      subst (λ (p : Bytes). WhereEachKept (kept_in (kept_by parts.kept) p parts.names) (HoldsFiles (held_of parts))) at
      (holds_files (kept_in (kept_by parts.kept) parts.folder parts.names) parts.zones parts.begins few gathered_there)

pub too_many_are : (kept : Bytes → Kept) (folder : Bytes) (names : List Bytes) (zones : Zones) (begins : List ℕ) → 2 ^ 32 ≤ length zones.lengths
    → WhereEachKept (kept_in kept folder names) (AreGathered zones begins) → WhereEachKept (kept_in kept folder names) HaveTooManyBlocks
too_many_are kept folder names zones begins many h =
    where_each_so (kept_in kept folder names) (AreGathered zones begins) HaveTooManyBlocks (λ read g. too_many zones begins read many g) h

-- ---- folders

where_listed_so : (l : Listed) (P Q : List Bytes → Type 0) → ((standing : List Bytes) → P standing → Q standing) → WhereListed l P → WhereListed l Q
where_listed_so unlisted P Q so h = tt
where_listed_so no_folder P Q so h = absurd h
where_listed_so (lists standing) P Q so h = so standing h

-- what holds of the names that are listed holds of the block files in the folder
pub where_files : (paths : Paths) (path : Bytes) (names : List Bytes) (P : List Bytes → Type 0) → WhereListed (paths.listed path) (λ standing. AreFileNames standing names) → P names
    → WhereFiles paths path P
where_files paths path names P listed h =
    where_listed_so (paths.listed path) (λ standing. AreFileNames standing names) (λ standing. (ns : List Bytes) × AreFileNames standing ns × P ns)
    (λ standing are. (names, are, h)) listed

-- the table of the block files of these names is that of the folder
pub folder_table_is : (paths : Paths) (path : Bytes) (names : List Bytes) (table : FilesTable) → WhereListed (paths.listed path) (λ standing. AreFileNames standing names)
    → table.names ≡ names → length table.zones.lengths < 2 ^ 32 → WhereEachKept (kept_in paths.kept path names) (AreGathered table.zones table.begins)
    → IsTableOfFolder paths path table
folder_table_is paths path names table listed same few h =
    where_files paths path names (λ ns. (table.names ≡ ns) × WhereEachKept (kept_in paths.kept path ns) (HoldTable table)) listed
    (same, table_held (kept_in paths.kept path names) table few h)

pub folder_refused : (paths : Paths) (path : Bytes) (names : List Bytes) (error : FolderError) → WhereListed (paths.listed path) (λ standing. AreFileNames standing names)
    → AreRefused paths.kept path names error → IsRefusedFolder paths path error
folder_refused paths path names errors.NoMemory listed h = tt
folder_refused paths path names errors.ReadFault listed h = tt
folder_refused paths path names errors.NotListed listed h = absurd h
folder_refused paths path names errors.NoFile listed h = where_files paths path names (λ ns. AreRefused paths.kept path ns errors.NoFile) listed h
folder_refused paths path names (errors.NotOpened name) listed h =
    where_files paths path names (λ ns. AreRefused paths.kept path ns (errors.NotOpened name)) listed h
folder_refused paths path names (errors.NoBlockFile name error) listed h =
    where_files paths path names (λ ns. AreRefused paths.kept path ns (errors.NoBlockFile name error)) listed h
folder_refused paths path names (errors.Unlike name) listed h = where_files paths path names (λ ns. AreRefused paths.kept path ns (errors.Unlike name)) listed h
folder_refused paths path names errors.TooManyBlocks listed h =
    where_files paths path names (λ ns. AreRefused paths.kept path ns errors.TooManyBlocks) listed h

pub folder_unlisted : (paths : Paths) (path : Bytes) (error : FolderError) → IsUnlisted (paths.listed path) error → IsRefusedFolder paths path error
folder_unlisted paths path errors.NoMemory h = tt
folder_unlisted paths path errors.ReadFault h = tt
folder_unlisted paths path errors.NotListed h = h
folder_unlisted paths path errors.NoFile h = absurd h
folder_unlisted paths path (errors.NotOpened name) h = absurd h
folder_unlisted paths path (errors.NoBlockFile name error) h = absurd h
folder_unlisted paths path (errors.Unlike name) h = absurd h
folder_unlisted paths path errors.TooManyBlocks h = absurd h
