-- What is read of a file of a folder is what is read of the folder.
use Rattle.std.proofs.Common.{◌≡◌, sym, ap, ◌∙◌, subst, ℕ, zero, suc, ◌+◌, ◌<◌, ◌≤◌, Option, Some, None, List, [], ◌∷◌, ◌++◌, map, length, take, drop, length-drop, take_all, ◌-◌, true, nat_eq, slice_range, arith, slice_get, get_or}
use Rattle.std.specs.Cmp.Lexicographic.{bytes_decides}
use Rattle.std.specs.List.{starts_with}
use Rattle.std.specs.Prelude.{IfSome}
use Rattle.std.proofs.lemmas.Option.{same_Some, none-some, get_or_from_slice_get}
use Rattle.vx_dtype.specs.Types.{Bytes, Fields}
use Rattle.vx_dtype.specs.TypeRules.{has_name, field_names}
use Rattle.vx_column.specs.Columns.{Column}
use Rattle.vx_semantics.specs.Tables.{Zones}
use Rattle.vx_laws_file.specs.FileForms.{Header, FileContent}
use Rattle.vx_file_open.specs.ColumnAnswers.{IsColumnIn, IsRangeRead}
use Rattle.vx_file_open.specs.Layouts.{content_at, WhereBytes, IsFileWith}
use Rattle.vx_laws_shell.specs.FolderContents.{kept_in, contents_joined}
use Rattle.vx_folder.specs.PathViews.{kept_by}
use Rattle.vx_folder.specs.FolderStates.{FolderState, WhereHeld, IsKeptFolder}
use Rattle.vx_folder.specs.FolderParts.{Parts, held_of, AreOfContent, AreParts, AgreesAt, IsFileAt}
use Rattle.vx_folder.proofs.FolderLemmas.{where_so}
use Rattle.vx_folder.proofs.KeptLemmas.{content_is, known_at, told_bytes}
use Rattle.vx_folder.proofs.PlaceLemmas.{placed_at, read_there, column_there}
use Rattle.vx_folder.proofs.WholeLemmas.{each_has_ranges}

pub get_mapped : {X Y : Type 0} (f : X → Y) (xs : List X) (i : ℕ) (x : X) → slice_get xs i ≡ Some x → slice_get (map f xs) i ≡ Some (f x)
get_mapped f [] i x e = absurd (none-some x e)
get_mapped f (y ∷ xs) zero x e = ap (λ z. Some (f z)) (same_Some y x e)
get_mapped f (y ∷ xs) (suc i) x e = get_mapped f xs i x e

-- what stands at a place that there is
pub got : {X : Type 0} (xs : List X) (i : ℕ) (d x : X) → i < length xs → x ≡ get_or xs i d → slice_get xs i ≡ Some x
got [] i d x h e = let no : ⊥ = omega (arith, h) in absurd no
got (y ∷ xs) zero d x h e = ap Some (sym e)
got (y ∷ xs) (suc i) d x h e = got xs i d x (omega (arith, h)) e

range_at : (parts : Parts) (number : ℕ) (told : Option Bytes) (h : Header) (block place : ℕ) (name : Bytes) (found : Option Column) (at : IsFileAt parts number told h)
    → at.begin + place ≡ block → place < length h.zones.lengths → WhereBytes told (λ bytes. IsRangeRead (content_at h bytes) place name found)
    → (content : FileContent) → AreOfContent parts content → IsRangeRead content block name found
range_at parts number told h block place name found at stands within x content c =
    let kept = kept_by parts.kept in
    let path = parts.folder ++ at.name in
    let there = get_mapped (λ (n : Bytes). kept (parts.folder ++ n)) parts.names number at.name at.named in
    let known = known_at (kept_in kept parts.folder parts.names) (c.first ∷ c.contents) number (kept path) c.told there in
    let bytes = known.known.bytes in
    let told_is = told_bytes (parts.kept path) told bytes at.opened known.known.kept in
    let w : IsFileWith h bytes = subst (λ (o : Option Bytes). WhereBytes o (IsFileWith h)) told_is at.file in
    let r : IsRangeRead (content_at h bytes) place name found =
    subst (λ (o : Option Bytes). WhereBytes o (λ b. IsRangeRead (content_at h b) place name found)) told_is x in
    let same : content_at h bytes ≡ known.content =
    same_Some (content_at h bytes) known.content (sym (content_is bytes (content_at h bytes) w.are_bytes w.opened) ∙ known.known.holds_it) in
    let joined = contents_joined c.first c.contents in
    let placed = placed_at c.first c.contents 0 parts.begins number at.begin known.content (each_has_ranges c.files (c.first ∷ c.contents) c.together.opened) c.begins at.begins known.there in
    let columns : known.content.zones.columns ≡ joined.zones.columns =
    ap (λ (d : FileContent). d.zones.columns) (sym same) ∙ at.agrees.columns ∙ ap (λ (z : Zones). z.columns) (sym c.zones)
    ∙ ap (λ (d : FileContent). d.zones.columns) c.content_is in
    let long : length known.content.zones.lengths ≡ length h.zones.lengths = ap (λ (d : FileContent). length d.zones.lengths) (sym same) in
    let where_it_is : block ≡ placed.place + place = omega (arith, stands, placed.begins) in
    subst (λ (d : FileContent). IsRangeRead d block name found) (sym c.content_is)
    (read_there joined known.content placed.place block place name found placed.stands columns (omega (arith, within, long)) where_it_is
    (subst (λ (d : FileContent). IsRangeRead d place name found) same r))

pub range_there : (parts : Parts) (number : ℕ) (told : Option Bytes) (h : Header) (block place : ℕ) (name : Bytes) (found : Option Column) (at : IsFileAt parts number told h)
    → at.begin + place ≡ block → place < length h.zones.lengths → AreParts parts → WhereBytes told (λ bytes. IsRangeRead (content_at h bytes) place name found)
    → WhereHeld (held_of parts) (λ content. IsRangeRead content block name found)
range_there parts number told h block place name found at stands within are x =
    where_so (held_of parts) (AreOfContent parts) (λ content. IsRangeRead content block name found)
    (range_at parts number told h block place name found at stands within x) are.held

-- and the column that was read of it is one of the folder
pub column_found : (parts : Parts) (number : ℕ) (told : Option Bytes) (h : Header) (block place : ℕ) (name : Bytes) (found : Option Column) (at : IsFileAt parts number told h)
    → at.begin + place ≡ block → place < length h.zones.lengths → IfSome found (IsColumnIn h.zones place name) → IfSome found (IsColumnIn parts.zones block name)
column_found parts number told h block place name None at stands within here = tt
column_found parts number told h block place name (Some c) at stands within here =
    column_there parts.zones h.zones at.begin block place name c at.agrees within (sym stands) here

-- where a file begins
pub begin_is : (parts : Parts) (number : ℕ) (told : Option Bytes) (h : Header) (at : IsFileAt parts number told h) (d : ℕ) → get_or parts.begins number d ≡ at.begin
begin_is parts number told h at d = get_or_from_slice_get parts.begins number at.begin d at.begins

-- and how far behind a block of it stands
pub place_there : (parts : Parts) (number : ℕ) (told : Option Bytes) (h : Header) (at : IsFileAt parts number told h) (found block d : ℕ) → number ≡ found
    → d ≡ get_or parts.begins found d → get_or parts.begins found 0 ≤ block → at.begin + (block - d) ≡ block
place_there parts number told h at found block d same is before =
    let here : (e : ℕ) → get_or parts.begins found e ≡ at.begin = λ e. ap (λ (n : ℕ). get_or parts.begins n e) (sym same) ∙ begin_is parts number told h at e in
    let begin : d ≡ at.begin = is ∙ here d in
    omega (arith, begin, here 0, before)

-- a name of a column of the folder is one of a column of the file
pub named_there : (parts : Parts) (number : ℕ) (told : Option Bytes) (h : Header) (name : Bytes) → IsFileAt parts number told h
    → has_name name (field_names parts.zones.columns) ≡ true → has_name name (field_names h.zones.columns) ≡ true
named_there parts number told h name at here = ap (λ (fs : Fields). has_name name (field_names fs)) at.agrees.columns ∙ here

-- ---- a folder of which nothing was read

abbrev pub new_folder : Parts → FolderState
new_folder parts = record { zones = parts.zones; content = held_of parts; count = 0; reads = []; failed = None; damaged = [] }

pub new_kept : (parts : Parts) → AreParts parts → WhereHeld (held_of parts) (IsKeptFolder (new_folder parts))
new_kept parts are =
    where_so (held_of parts) (AreOfContent parts) (IsKeptFolder (new_folder parts)) (λ content c. record {
      files = record {
        files = c.files;
        first = c.first;
        contents = c.contents;
        are_bytes = c.are_bytes;
        together = c.together;
        content_is = c.content_is;
      };
      zones = c.zones;
      sound = tt;
      spoilt = tt;
    }) are.held

-- ---- a file that is opened again

-- it agrees where its lengths begin those that stand there
pub agrees_by : (zones file : Zones) (begin : ℕ) (behind : List ℕ) → file.columns ≡ zones.columns → behind ≡ slice_range zones.lengths begin (length zones.lengths)
    → starts_with nat_eq behind file.lengths ≡ true → AgreesAt zones begin file
agrees_by zones file begin behind columns is starts =
    let n = length file.lengths in
    let all : behind ≡ drop begin zones.lengths =
    is ∙ take_all (length zones.lengths - begin) (drop begin zones.lengths) (omega (arith, length-drop begin zones.lengths)) in
    let same : file.lengths ≡ take n behind = (bytes_decides file.lengths (take n behind)).0 starts in
    record { columns = columns; lengths = ap (take n) (sym all) ∙ sym same }
