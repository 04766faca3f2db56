-- One listing of a folder.
use Rattle.std.proofs.Common.{◌≡◌, refl, ap, sym, ◌∙◌, subst, inl, inr, ℕ, ◌+◌, List, [], ◌∷◌, map, length, Some}
use Rattle.vx_dtype.specs.Types.{Bytes}
use Rattle.vx_io.specs.Ends.{Added}
use Rattle.vx_laws_file.specs.FileForms.{FileContent}
use Rattle.vx_laws_file.proofs.Openings.{one_content}
use Rattle.vx_laws_shell.specs.Origins.{block_file, folder}
use Rattle.vx_laws_shell.specs.Paths.{Paths, Kept, Listed, holds, lists, WhereEachKept, WhereListed}
use Rattle.vx_laws_shell.specs.FolderContents.{AreFileNames, AreOpened, contents_joined, kept_in}
use Rattle.vx_laws_shell.specs.Running.{End}
use Rattle.vx_folder.specs.FolderParts.{HaveBegins}
use Rattle.vx_folder.specs.FolderTables.{FilesTable, HoldTable, IsTableOfFolder}
use Rattle.vx_laws_listing.specs.ListingTexts.{folder_lines}
use Rattle.vx_laws_listing.specs.ListingWords.{listing_asked_of}
use Rattle.vx_laws_listing.specs.Listing.{listed, IsTableOfPath, IsListingEnd}
use Rattle.vx_laws_listing.specs.ListingLaws.{OneFolderListing}
use Rattle.vx_laws_listing.proofs.FolderNames.{one_names}
use Rattle.vx_laws_listing.proofs.ListedFiles.{one_added}

-- ---- files hold one table

one_contents : (files : List Bytes) (cs ds : List FileContent) → AreOpened files cs → AreOpened files ds → cs ≡ ds
one_contents [] [] [] a b = refl
one_contents [] [] (d ∷ ds) a b = absurd b
one_contents [] (c ∷ cs) ds a b = absurd a
one_contents (bytes ∷ files) [] ds a b = absurd a
one_contents (bytes ∷ files) (c ∷ cs) [] a b = absurd b
one_contents (bytes ∷ files) (c ∷ cs) (d ∷ ds) a b =
    let own = one_content bytes c d a.0 b.0 in
    let rest = one_contents files cs ds a.1 b.1 in
    λ i. own i ∷ rest i

one_begins : (contents : List FileContent) (n : ℕ) (bs cs : List ℕ) → HaveBegins contents n bs → HaveBegins contents n cs → bs ≡ cs
one_begins [] n [] [] a b = refl
one_begins [] n [] (c ∷ cs) a b = absurd b
one_begins [] n (x ∷ bs) cs a b = absurd a
one_begins (content ∷ contents) n [] cs a b = absurd a
one_begins (content ∷ contents) n (x ∷ bs) [] a b = absurd b
one_begins (content ∷ contents) n (x ∷ bs) (c ∷ cs) a b =
    let own = a.0 ∙ sym b.0 in
    let rest = one_begins contents (n + length content.zones.lengths) bs cs a.1 b.1 in
    λ i. own i ∷ rest i

first_of : (c d : FileContent) (cs ds : List FileContent) → c ∷ cs ≡ d ∷ ds → c ≡ d
first_of c d cs ds e = cc

others_of : (c d : FileContent) (cs ds : List FileContent) → c ∷ cs ≡ d ∷ ds → cs ≡ ds
others_of c d cs ds e = cc

one_table : (names files : List Bytes) (t u : FilesTable) → t.names ≡ names → u.names ≡ names → HoldTable t files → HoldTable u files → t ≡ u
one_table names files t u n m a b =
    let same : a.first ∷ a.contents ≡ b.first ∷ b.contents = one_contents files (a.first ∷ a.contents) (b.first ∷ b.contents) a.together.opened b.together.opened in
    let first = first_of a.first b.first a.contents b.contents same in
    let others = others_of a.first b.first a.contents b.contents same in
    let joined : contents_joined a.first a.contents ≡ contents_joined b.first b.contents = λ i. contents_joined (first i) (others i) in
    let zones : t.zones ≡ u.zones = sym a.zones_are ∙ ap (λ (c : FileContent). c.zones) joined ∙ b.zones_are in
    let own : HaveBegins (b.first ∷ b.contents) 0 t.begins = subst (λ (cs : List FileContent). HaveBegins cs 0 t.begins) same a.placed in
    let begins : t.begins ≡ u.begins = one_begins (b.first ∷ b.contents) 0 t.begins u.begins own b.placed in
    let named : t.names ≡ u.names = n ∙ sym m in
    λ i. record { names = named i; begins = begins i; zones = zones i }

-- ---- a folder of which all is known

each_holds : (files : List Bytes) (P : List Bytes → Type 0) → WhereEachKept (map holds files) P → P files
each_holds [] P h = h
each_holds (bytes ∷ files) P h = each_holds files (λ read. P (bytes ∷ read)) h

-- the names of the block files are known, and what they hold
record IsKnownTable (names files : List Bytes) (table : FilesTable) : Type 0 where
  named : table.names ≡ names
  held : HoldTable table files

module _ (paths : Paths) (path : Bytes) (standing names files : List Bytes) (there : paths.listed path ≡ lists standing) (are : AreFileNames standing names)
    (known : kept_in paths.kept path names ≡ map holds files) where
  abbrev IsNamed : FilesTable → List Bytes → Type 0
  IsNamed table ns = (table.names ≡ ns) × WhereEachKept (kept_in paths.kept path ns) (HoldTable table)

  known_table : (table : FilesTable) → IsTableOfFolder paths path table → IsKnownTable names files table
  known_table table is =
      let found = subst (λ (l : Listed). WhereListed l (λ listing. (ns : List Bytes) × AreFileNames listing ns × IsNamed table ns)) there is in
      let same : found.0 ≡ names = one_names standing found.0 names found.1 are in
      let each = subst (λ (ns : List Bytes). WhereEachKept (kept_in paths.kept path ns) (HoldTable table)) same found.2.1 in
      record {
        named = found.2.0 ∙ same;
        held = each_holds files (HoldTable table) (subst (λ (ks : List Kept). WhereEachKept ks (HoldTable table)) known each);
      }

  one_folder : (t u : FilesTable) → IsTableOfFolder paths path t → IsTableOfFolder paths path u → t ≡ u
  one_folder t u a b =
      let own = known_table t a in
      let other = known_table u b in
      one_table names files t u own.named other.named own.held other.held

-- where words ask a folder they ask no block file, and one folder alone
no_file : (path other : Bytes) → Some (folder path) ≡ Some (block_file other) → ⊥
no_file path other e = cc

one_path : (path other : Bytes) → Some (folder path) ≡ Some (folder other) → path ≡ other
one_path path other e = cc

folder_asked : (words : List Bytes) (paths : Paths) (path : Bytes) (before after : End) → listing_asked_of words ≡ Some (folder path)
    → IsListingEnd words paths before after listed
    → (table : FilesTable) × IsTableOfPath paths path table × Added before.bytes after.bytes (folder_lines path table)
folder_asked words paths path before after form (inl h) = absurd (no_file path h.0 (sym form ∙ h.1))
folder_asked words paths path before after form (inr h) =
    subst (λ (p : Bytes). (table : FilesTable) × IsTableOfPath paths p table × Added before.bytes after.bytes (folder_lines p table))
    (sym (one_path path h.0 (sym form ∙ h.1))) h.2

pub one_folder_listing : OneFolderListing
one_folder_listing words paths path old standing names files before x y form there are known told a b =
    let own = folder_asked words paths path before x form a in
    let other = folder_asked words paths path before y form b in
    let same = one_folder paths path standing names files there are known own.0 other.0 own.1.held other.1.held in
    one_added before.bytes x.bytes y.bytes old (folder_lines path own.0) (folder_lines path other.0) told (ap (folder_lines path) same) own.2 other.2
