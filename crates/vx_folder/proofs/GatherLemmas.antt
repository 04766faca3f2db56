-- Files that are put one behind another: what they hold as one, and why they aren't opened together.
use Rattle.std.proofs.Common.{◌≡◌, refl, sym, ap, ◌∙◌, subst, ℕ, ◌+◌, ◌<◌, ◌≤◌, ◌^◌, Option, Some, None, List, [], ◌∷◌, ◌++◌, map, length, length-append, arith, true}
use Rattle.std.specs.List.{AllByRecursion, list_all}
use Rattle.std.specs.Option.{option_and_then}
use Rattle.std.specs.String.{string_bytes}
use Rattle.std.proofs.lemmas.Bool.{and_parts, eqb-true}
use Rattle.std.proofs.lemmas.List.{length-map}
use Rattle.std.proofs.lemmas.Option.{same_Some}
use Rattle.vx_dtype.specs.Types.{Bytes}
use Rattle.vx_semantics.specs.Tables.{ZoneStat, Zones}
use Rattle.vx_zones.specs.Zoning.{counts_blocks}
use Rattle.vx_laws_file.specs.FileForms.{Header, FileContent}
use Rattle.vx_laws_file.specs.FileLaws.{AreBytes}
use Rattle.vx_laws_file.specs.HeldTables.{held_table}
use Rattle.vx_laws_file.specs.Opening.{IsOpened, FileRefusal, IsRefusedFile}
use Rattle.vx_file_open.specs.Layouts.{content_at, IsFileWith}
use Rattle.vx_file_open.specs.OpenAnswers.{refusal_of}
use Rattle.vx_laws_shell.specs.Folders.{TableFile, zones_before, HasItsZones, IsOfForm}
use Rattle.vx_laws_shell.specs.Paths.{WhereEachKept}
use Rattle.vx_laws_shell.specs.FolderContents.{contents_joined, file_held, AreOpened, HoldTogether, kept_in, ArePassed, IsUnlikeThem, HaveTooManyBlocks, IsFolderFault, unopened_file, no_block_file}
use Rattle.vx_laws_shell.specs.Paths.{Kept, unknown, absent, holds, WhereKept}
use Rattle.vx_folder.specs.FolderStates.{WhereHeld}
use Rattle.vx_folder.specs.FolderParts.{contents_kept, all_joined, Parts, held_of, HaveBegins, AreOfContent}
use Rattle.vx_folder.specs.PathViews.{kept_by}
use Rattle.vx_folder.specs.FolderAnswers.{HoldsFiles, TellsRefusal, AreRefused, IsHeaderFault, AreOfForm, AreGathered}
use Rattle.vx_folder.specs.declared.errors.FolderError.{FolderError}
use Rattle.vx_folder.specs.declared.errors.FolderError.TheVariants as errors
use Rattle.vx_folder.proofs.JoinLemmas.{kinds_of, kinds_before, joined_more}
use Rattle.vx_folder.proofs.KeptLemmas.{contents_are, all_known}
use Rattle.vx_folder.proofs.RuleLemmas.{lawful}
use Rattle.vx_folder.proofs.WholeLemmas.{agrees_of_file}

-- ---- one file

each_counts : (lengths : List ℕ) (zs : List ZoneStat) → list_all (counts_blocks lengths) zs ≡ true → AllByRecursion (λ z. length z.values ≡ length lengths) zs
each_counts lengths [] h = tt
each_counts lengths (z ∷ zs) h =
    let parts = and_parts (counts_blocks lengths z) (list_all (counts_blocks lengths) zs) h in
    (eqb-true (length z.values) (length lengths) parts.0, each_counts lengths zs parts.1)

-- its statistics are those of its table
file_has : (bytes : Bytes) (content : FileContent) → AreBytes bytes → IsOpened bytes content → HasItsZones (file_held content)
file_has bytes content are opened =
    let agrees = agrees_of_file bytes content are opened in
    record {
      columns = refl;
      blocks = sym (length-map (held_table content).blocks length) ∙ ap length agrees.lengths;
      values = each_counts content.zones.lengths content.zones.stats (lawful content.zones opened.rules).counts;
    }

pub first_gathered : (h : Header) (bytes : Bytes) → IsFileWith h bytes → AreGathered h.zones (0 ∷ []) (bytes ∷ [])
first_gathered h bytes w =
    let content = content_at h bytes in
    record {
      first = content;
      contents = [];
      are_bytes = (w.are_bytes, tt);
      opened = (w.opened, tt);
      alike = record { first_has = file_has bytes content w.are_bytes w.opened; each_has = tt; forms = tt };
      zones_are = refl;
      placed = (refl, tt);
    }

-- ---- one more file

all_more : {X : Type 0} (P : X → Type 0) (xs : List X) (y : X) → AllByRecursion P xs → P y → AllByRecursion P (xs ++ y ∷ [])
all_more P [] y h own = (own, tt)
all_more P (x ∷ xs) y h own = (h.0, all_more P xs y h.1 own)

all_mapped_more : {X Y : Type 0} (f : X → Y) (P : Y → Type 0) (xs : List X) (y : X) → AllByRecursion P (map f xs) → P (f y) → AllByRecursion P (map f (xs ++ y ∷ []))
all_mapped_more f P [] y h own = (own, tt)
all_mapped_more f P (x ∷ xs) y h own = (h.0, all_mapped_more f P xs y h.1 own)

last_mapped : {X Y : Type 0} (f : X → Y) (P : Y → Type 0) (xs : List X) (y : X) → AllByRecursion P (map f (xs ++ y ∷ [])) → P (f y)
last_mapped f P [] y h = h.0
last_mapped f P (x ∷ xs) y h = last_mapped f P xs y h.1

opened_more : (read : List Bytes) (contents : List FileContent) (bytes : Bytes) (content : FileContent) → AreOpened read contents → IsOpened bytes content
    → AreOpened (read ++ bytes ∷ []) (contents ++ content ∷ [])
opened_more [] [] bytes content h own = (own, tt)
opened_more [] (c ∷ contents) bytes content h own = absurd h
opened_more (b ∷ read) [] bytes content h own = absurd h
opened_more (b ∷ read) (c ∷ contents) bytes content h own = (h.0, opened_more read contents bytes content h.1 own)

begins_more : (first next : FileContent) (contents : List FileContent) (n m : ℕ) (begins : List ℕ) → m ≡ n + length (contents_joined first contents).zones.lengths
    → HaveBegins (first ∷ contents) n begins → HaveBegins (first ∷ contents ++ next ∷ []) n (begins ++ m ∷ [])
begins_more first next contents n m [] e h = absurd h
begins_more first next [] n m (begin ∷ []) e h = (h.0, (e, tt))
begins_more first next [] n m (begin ∷ other ∷ begins) e h = absurd h.1
begins_more first next (other ∷ contents) n m (begin ∷ begins) e h =
    let rest = contents_joined other contents in
    let long : length (first.zones.lengths ++ rest.zones.lengths) ≡ length first.zones.lengths + length rest.zones.lengths =
    length-append first.zones.lengths rest.zones.lengths in
    (h.0, begins_more other next contents (n + length first.zones.lengths) m begins (omega (arith, e, long)) h.1)

-- the form of files that are alike is that of the first
joined_columns : (first : FileContent) (contents : List FileContent) → (contents_joined first contents).zones.columns ≡ first.zones.columns
joined_columns first [] = refl
joined_columns first (next ∷ contents) = refl

joined_kinds : (form : TableFile) (first : FileContent) (contents : List FileContent) → kinds_of first.zones.stats ≡ kinds_of form.zones.stats
    → AllByRecursion (IsOfForm form) (map file_held contents) → kinds_of (contents_joined first contents).zones.stats ≡ kinds_of form.zones.stats
joined_kinds form first [] h forms = h
joined_kinds form first (next ∷ contents) h forms =
    let rest = joined_kinds form next contents forms.0.stats forms.1 in
    kinds_before first.zones.stats (contents_joined next contents).zones.stats (rest ∙ sym h) ∙ h

module _ (zones : Zones) (begins : List ℕ) (read : List Bytes) (h : Header) (bytes : Bytes) (so_far : AreGathered zones begins read) (w : IsFileWith h bytes) where
  abbrev last : FileContent
  last = content_at h bytes

  form_columns : zones.columns ≡ so_far.first.zones.columns
  form_columns = ap (λ (z : Zones). z.columns) (sym so_far.zones_are) ∙ joined_columns so_far.first so_far.contents

  form_kinds : kinds_of zones.stats ≡ kinds_of so_far.first.zones.stats
  form_kinds =
      ap (λ (z : Zones). kinds_of z.stats) (sym so_far.zones_are)
      ∙ joined_kinds (file_held so_far.first) so_far.first so_far.contents refl so_far.alike.forms

  all_opened : AreOpened (read ++ bytes ∷ []) (so_far.first ∷ so_far.contents ++ last ∷ [])
  all_opened = opened_more read (so_far.first ∷ so_far.contents) bytes last so_far.opened w.opened

  pub gathered_more : AreOfForm zones h.zones → AreGathered (zones_before zones h.zones) (begins ++ length zones.lengths ∷ []) (read ++ bytes ∷ [])
  gathered_more form =
      let first = so_far.first in
      let joined = contents_joined first so_far.contents in
      let long : length zones.lengths ≡ length joined.zones.lengths = ap (λ (z : Zones). length z.lengths) (sym so_far.zones_are) in
      record {
        first = first;
        contents = so_far.contents ++ last ∷ [];
        are_bytes = all_more AreBytes read bytes so_far.are_bytes w.are_bytes;
        opened = all_opened;
        alike = record {
          first_has = so_far.alike.first_has;
          each_has = all_mapped_more file_held HasItsZones so_far.contents last so_far.alike.each_has (file_has bytes last w.are_bytes w.opened);
          forms = all_mapped_more file_held (IsOfForm (file_held first)) so_far.contents last so_far.alike.forms
              (record { columns = form.columns ∙ form_columns; stats = form.stats ∙ form_kinds });
        };
        zones_are = ap (λ (c : FileContent). c.zones) (joined_more first last so_far.contents) ∙ ap (λ (z : Zones). zones_before z h.zones) so_far.zones_are;
        placed = begins_more first last so_far.contents 0 (length zones.lengths) begins (omega (arith, long)) so_far.placed;
      }

  pub unlike_more : ¬ (AreOfForm zones h.zones) → IsUnlikeThem (read ++ bytes ∷ [])
  unlike_more unlike = (
    so_far.first,
    so_far.contents,
    last,
    all_opened,
    λ alike.
        let form = last_mapped file_held (IsOfForm (file_held so_far.first)) so_far.contents last alike.forms in
        unlike (record { columns = form.columns ∙ sym form_columns; stats = form.stats ∙ sym form_kinds }),
  )

-- ---- all files

pub are_passed : (zones : Zones) (begins : List ℕ) (read : List Bytes) → AreGathered zones begins read → ArePassed read
are_passed zones begins read h = (h.first ∷ h.contents, h.opened, h.alike)

pub too_many : (zones : Zones) (begins : List ℕ) (read : List Bytes) → 2 ^ 32 ≤ length zones.lengths → AreGathered zones begins read → HaveTooManyBlocks read
too_many zones begins read many h =
    (h.first, h.contents, h.opened, h.alike, subst (λ (z : Zones). 2 ^ 32 ≤ length z.lengths) (sym h.zones_are) many)

pub hold_together : (zones : Zones) (begins : List ℕ) (read : List Bytes) → length zones.lengths < 2 ^ 32 → (h : AreGathered zones begins read) → HoldTogether read h.first h.contents
hold_together zones begins read few h =
    record { opened = h.opened; alike = h.alike; few = subst (λ (z : Zones). length z.lengths < 2 ^ 32) (sym h.zones_are) few }

-- what files hold together that are known
each_known : (ks : List Kept) (P Q : List Bytes → Type 0) → ((read : List Bytes) → ks ≡ map holds read → P read → Q read) → WhereEachKept ks P → WhereEachKept ks Q
each_known [] P Q so h = so [] refl h
each_known (unknown ∷ ks) P Q so h = tt
each_known (absent ∷ ks) P Q so h = absurd h
each_known (holds bytes ∷ ks) P Q so h =
    each_known ks (λ read. P (bytes ∷ read)) (λ read. Q (bytes ∷ read))
    (λ read e. so (bytes ∷ read) (ap (λ (others : List Kept). holds bytes ∷ others) e)) h

pub holds_files : (ks : List Kept) (zones : Zones) (begins : List ℕ) → length zones.lengths < 2 ^ 32 → WhereEachKept ks (AreGathered zones begins)
    → WhereEachKept ks (HoldsFiles (option_and_then all_joined (contents_kept ks)))
holds_files ks zones begins few h =
    each_known ks (AreGathered zones begins) (HoldsFiles (option_and_then all_joined (contents_kept ks)))
    (λ read e g. record {
      first = g.first;
      contents = g.contents;
      together = hold_together zones begins read few g;
      content_is = ap (option_and_then all_joined) (ap contents_kept e ∙ contents_are read (g.first ∷ g.contents) g.are_bytes g.opened);
    }) h

pub parts_held : (parts : Parts) → length parts.zones.lengths < 2 ^ 32
    → WhereEachKept (kept_in (kept_by parts.kept) parts.folder parts.names) (AreGathered parts.zones parts.begins) → WhereHeld (held_of parts) (AreOfContent parts)
parts_held parts few h = by (contents_kept (kept_in (kept_by parts.kept) parts.folder parts.names)) refl
  where
    by : (o : Option (List FileContent)) → contents_kept (kept_in (kept_by parts.kept) parts.folder parts.names) ≡ o → WhereHeld (option_and_then all_joined o) (AreOfContent parts)
    by None e = tt
    by (Some []) e = tt
    by (Some (c ∷ cs)) e =
        let known = all_known (kept_in (kept_by parts.kept) parts.folder parts.names) (c ∷ cs) (AreGathered parts.zones parts.begins) e h in
        let g = known.holds_so in
        let told : contents_kept (kept_in (kept_by parts.kept) parts.folder parts.names) ≡ Some (g.first ∷ g.contents) = ap contents_kept known.kept ∙ contents_are known.read (g.first ∷ g.contents) g.are_bytes g.opened in
        let same : contents_joined c cs ≡ contents_joined g.first g.contents =
        same_Some (contents_joined c cs) (contents_joined g.first g.contents) (ap (option_and_then all_joined) (sym e ∙ told)) in
        record {
          files = known.read;
          first = g.first;
          contents = g.contents;
          are_bytes = g.are_bytes;
          together = hold_together parts.zones parts.begins known.read few g;
          told = told;
          begins = g.placed;
          content_is = same;
          zones = ap (λ (d : FileContent). d.zones) same ∙ g.zones_are;
        }

-- ---- why they aren't

module _ (kept : Bytes → Kept) (folder : Bytes) (names front back : List Bytes) (name : Bytes) (split : names ≡ front ++ name ∷ back)
    (passed : WhereEachKept (kept_in kept folder front) ArePassed) where
  refused_as : (o : Option FileRefusal) (told : Bytes) → told ≡ name → TellsRefusal o (λ r. WhereKept (kept (folder ++ name)) (λ bytes. IsRefusedFile bytes r))
      → TellsRefusal o (λ r. IsFolderFault kept folder names (no_block_file told r))
  refused_as None told same h = absurd h
  refused_as (Some r) told same h =
      subst (λ (n : Bytes). IsFolderFault kept folder names (no_block_file n r)) (sym same) (front, back, split, passed, h)

  pub header_refused : (error : FolderError) → IsHeaderFault (kept (folder ++ name)) name error → AreRefused kept folder names error
  header_refused errors.NoMemory h = tt
  header_refused errors.ReadFault h = tt
  header_refused errors.NotListed h = absurd h
  header_refused errors.NoFile h = absurd h
  header_refused (errors.NotOpened told) h =
      subst (λ (n : Bytes). IsFolderFault kept folder names (unopened_file n)) (sym h.0) (front, back, split, passed, h.1)
  header_refused (errors.NoBlockFile told error) h = refused_as (refusal_of error) (string_bytes told) h.0 h.1
  header_refused (errors.Unlike told) h = absurd h
  header_refused errors.TooManyBlocks h = absurd h
