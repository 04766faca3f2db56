-- One explanation of a table that is known.
use Rattle.std.proofs.Common.{◌≡◌, refl, ap, sym, ◌∙◌, subst, inl, inr, Option, Some, None, Result, Ok, List, [], ◌∷◌, map}
use Rattle.std.specs.Result.{result_ok}
use Rattle.std.proofs.lemmas.Option.{same_Some}
use Rattle.vx_dtype.specs.Types.{Bytes}
use Rattle.vx_semantics.specs.Tables.{Zones}
use Rattle.vx_laws_file.specs.FileForms.{FileContent}
use Rattle.vx_laws_file.proofs.Openings.{one_content}
use Rattle.vx_laws_statements.specs.TableNames.{table_named}
use Rattle.vx_laws_shell.specs.FolderContents.{AreFileNames, AreOpened, contents_joined, kept_in}
use Rattle.vx_laws_shell.specs.Origins.{Origin, block_file, folder, origin_of, standard_input}
use Rattle.vx_laws_shell.specs.Paths.{Kept, Listed, Paths, WhereEachKept, WhereKept, WhereListed, holds}
use Rattle.vx_laws_shell.specs.Running.{End}
use Rattle.vx_laws_listing.specs.Listing.{AreZonesOfFile, AreZonesOfPath}
use Rattle.vx_laws_explaining.specs.Explaining.{AreAskedZones, AreZonesOfFiles, AreZonesOfFolder, AskOrigin}
use Rattle.vx_laws_explaining.specs.ExplainingLaws.{IsKnownFolder, OneExplanationOfFile, OneExplanationOfFolder}
use Rattle.vx_laws_explaining.specs.ExplainingWords.{Asked}
use Rattle.vx_laws_explaining.specs.Explanations.{explanation_of}
use Rattle.vx_laws_listing.proofs.OneOrder.{one_order}

-- ---- what words ask

same_ok : {E : Type 0} (x y : Bytes) → ◌≡◌ {A = Result Bytes E} (Ok x) (Ok y) → x ≡ y
same_ok x y e = same_Some x y (ap result_ok e)

-- they ask one statement in one form, and one table
one_asked : (words : List Bytes) (a b : Asked) (o p : Origin) → AskOrigin words a o → AskOrigin words b p → a ≡ b
one_asked words a b o p x y = same_Some a b (sym x.asks.form ∙ y.asks.form)

one_origin : (words : List Bytes) (a b : Asked) (o p : Origin) → AskOrigin words a o → AskOrigin words b p → o ≡ p
one_origin words a b o p x y =
    let same = one_asked words a b o p x y in
    let named : x.name ≡ y.name = same_ok x.name y.name (sym x.asks.named ∙ ap (λ (q : Asked). table_named q.statement) same ∙ y.asks.named) in
    sym x.is ∙ ap origin_of named ∙ y.is

abbrev path_in : Origin → Bytes
path_in standard_input = []
path_in (block_file path) = path
path_in (folder path) = path

-- ---- zones

-- those of a block file that words ask
file_zones : (words : List Bytes) (paths : Paths) (i j : End) (a b : Asked) (path : Bytes) (zones : Zones) → AskOrigin words b (block_file path)
    → AreAskedZones words paths i j a zones → (a ≡ b) × AreZonesOfPath (paths.kept path) zones
file_zones words paths i j a b path zones asks (inl h) =
    let no : standard_input ≡ block_file path = one_origin words a b standard_input (block_file path) h.2.asks asks in absurd cc
file_zones words paths i j a b path zones asks (inr (inl h)) =
    let here = h.1.asks in (
      one_asked words a b (block_file h.0) (block_file path) here asks,
      subst (λ (q : Bytes). AreZonesOfPath (paths.kept q) zones) (ap path_in (one_origin words a b (block_file h.0) (block_file path) here asks)) h.2,
    )
file_zones words paths i j a b path zones asks (inr (inr h)) =
    let no : folder h.0 ≡ block_file path = one_origin words a b (folder h.0) (block_file path) h.1.asks asks in absurd cc

-- and those of a folder
folder_zones : (words : List Bytes) (paths : Paths) (i j : End) (a b : Asked) (path : Bytes) (zones : Zones) → AskOrigin words b (folder path)
    → AreAskedZones words paths i j a zones → (a ≡ b) × AreZonesOfFolder paths path zones
folder_zones words paths i j a b path zones asks (inl h) =
    let no : standard_input ≡ folder path = one_origin words a b standard_input (folder path) h.2.asks asks in absurd cc
folder_zones words paths i j a b path zones asks (inr (inl h)) =
    let no : block_file h.0 ≡ folder path = one_origin words a b (block_file h.0) (folder path) h.1.asks asks in absurd cc
folder_zones words paths i j a b path zones asks (inr (inr h)) =
    let here = h.1.asks in (
      one_asked words a b (folder h.0) (folder path) here asks,
      subst (λ (q : Bytes). AreZonesOfFolder paths q zones) (ap path_in (one_origin words a b (folder h.0) (folder path) here asks)) h.2,
    )

-- of one file
one_of_file : (bytes : Bytes) (zones others : Zones) → AreZonesOfFile zones bytes → AreZonesOfFile others bytes → zones ≡ others
one_of_file bytes zones others a b = sym a.zones_are ∙ ap (λ (c : FileContent). c.zones) (one_content bytes a.content b.content a.opened b.opened) ∙ b.zones_are

-- files hold one thing each
one_by_one : (files : List Bytes) (contents others : List FileContent) → AreOpened files contents → AreOpened files others → contents ≡ others
one_by_one [] [] [] a b = refl
one_by_one [] (content ∷ contents) others a b = absurd a
one_by_one [] [] (other ∷ others) a b = absurd b
one_by_one (bytes ∷ files) [] others a b = absurd a
one_by_one (bytes ∷ files) (content ∷ contents) [] a b = absurd b
one_by_one (bytes ∷ files) (content ∷ contents) (other ∷ others) a b =
    ap (λ (c : FileContent). c ∷ contents) (one_content bytes content other a.0 b.0)
    ∙ ap (λ (cs : List FileContent). other ∷ cs) (one_by_one files contents others a.1 b.1)

abbrev joined : List FileContent → Option Zones
joined [] = None
joined (first ∷ contents) = Some (contents_joined first contents).zones

one_of_files : (files : List Bytes) (zones others : Zones) → AreZonesOfFiles zones files → AreZonesOfFiles others files → zones ≡ others
one_of_files files zones others a b =
    let held = one_by_one files (a.first ∷ a.contents) (b.first ∷ b.contents) a.together.opened b.together.opened in
    sym a.zones_are
    ∙ same_Some (contents_joined a.first a.contents).zones (contents_joined b.first b.contents).zones (ap joined held)
    ∙ b.zones_are

-- what holds of files whose bytes are known
where_held : (files : List Bytes) (P : List Bytes → Type 0) → WhereEachKept (map holds files) P → P files
where_held [] P h = h
where_held (bytes ∷ files) P h = where_held files (λ others. P (bytes ∷ others)) h

-- the zones of a folder that is known are those of its files
of_known_files : (paths : Paths) (path : Bytes) (known : IsKnownFolder paths path) (zones : Zones) → AreZonesOfFolder paths path zones
    → AreZonesOfFiles zones known.files
of_known_files paths path known zones are =
    let P = λ (names : List Bytes). WhereEachKept (kept_in paths.kept path names) (AreZonesOfFiles zones) in
    let found = subst (λ (l : Listed). WhereListed l (λ listed. (names : List Bytes) × AreFileNames listed names × P names)) known.listed are.held in
    let names : found.0 ≡ known.names =
    one_order found.0 known.names found.1.ascending known.ordered.ascending (λ name. found.1.same name ∙ sym (known.ordered.same name)) in
    where_held known.files (AreZonesOfFiles zones)
    (subst (λ (ks : List Kept). WhereEachKept ks (AreZonesOfFiles zones)) known.kept (subst P names found.2))

-- ---- explanations

one_text : (zones others : Zones) (a b : Asked) (text other : Bytes) → zones ≡ others → a ≡ b → explanation_of zones a ≡ Ok text
    → explanation_of others b ≡ Ok other → text ≡ other
one_text zones others a b text other z e h k =
    same_ok text other (sym h ∙ ap (λ (zs : Zones). explanation_of zs a) z ∙ ap (explanation_of others) e ∙ k)

pub one_explanation_of_file : OneExplanationOfFile
one_explanation_of_file words paths asked path bytes i j k l text other asks held x y =
    let a = file_zones words paths i j x.asked asked path x.zones asks x.are in
    let b = file_zones words paths k l y.asked asked path y.zones asks y.are in
    let one : AreZonesOfFile x.zones bytes = subst (λ (kept : Kept). WhereKept kept (AreZonesOfFile x.zones)) held a.1.held in
    let another : AreZonesOfFile y.zones bytes = subst (λ (kept : Kept). WhereKept kept (AreZonesOfFile y.zones)) held b.1.held in
    one_text x.zones y.zones x.asked y.asked text other (one_of_file bytes x.zones y.zones one another) (a.0 ∙ sym b.0) x.text_is y.text_is

pub one_explanation_of_folder : OneExplanationOfFolder
one_explanation_of_folder words paths asked path i j k l text other asks known x y =
    let a = folder_zones words paths i j x.asked asked path x.zones asks x.are in
    let b = folder_zones words paths k l y.asked asked path y.zones asks y.are in
    let zones = one_of_files known.files x.zones y.zones (of_known_files paths path known x.zones a.1) (of_known_files paths path known y.zones b.1) in
    one_text x.zones y.zones x.asked y.asked text other zones (a.0 ∙ sym b.0) x.text_is y.text_is
