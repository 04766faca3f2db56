-- The blocks of a table that a text of JSON tells are a table with its zones.
use Rattle.std.proofs.Common.{◌≡◌, refl, ap, sym, subst, nat_le, Bool, true, false, List, [], ◌∷◌, length, map, Option, Some, None, ok_or, Result, Ok, Err}
use Rattle.std.specs.List.{list_all}
use Rattle.std.specs.Option.{option_or}
use Rattle.serde_json.specs.Data.{Data}
use Rattle.vx_column.specs.Columns.{Column}
use Rattle.vx_dtype.specs.StructTypes.{field_types}
use Rattle.vx_dtype.specs.TypeRules.{field_names}
use Rattle.vx_dtype.specs.Types.{Bytes, Fields}
use Rattle.vx_semantics.specs.Tables.{Zones}
use Rattle.vx_tables.specs.Blocks.{have_lengths, have_types, table_refusal}
use Rattle.vx_zones.specs.Zoning.{broken_rule}
use Rattle.vx_zones.specs.declared.errors.ZoneError.{ZoneError}
use Rattle.vx_request.specs.Cells.{blocks_of}
use Rattle.vx_request.specs.RequestMembers.{BlockText, StatText, columns_in, blocks_in}
use Rattle.vx_request.specs.Requests.{◌>>=◌, ensured, json_in, at_place, most_bytes, is_rectangle, block_columns, zones_of, zones_by, sound_zones}
use Rattle.vx_request.specs.Objects.{object_of}
use Rattle.vx_request.specs.Tables.{ToldTable, names_without_stats, names_with_stats, told_with, told_in, stats_at, places_told, members_told, told_of, told_table}
use Rattle.vx_request.specs.declared.errors.Place.TheVariants.{Top, Columns, Blocks}
use Rattle.vx_request.specs.declared.errors.RequestError.{RequestError}
use Rattle.vx_request.specs.declared.errors.RequestError.TheVariants.{InputTooLong}
use Rattle.vx_laws_shell.specs.ToldTables.{ToldTablesAreTables}
use Rattle.vx_laws_shell.proofs.ToldCells.{blocks_shape, BlocksShape}

-- each table that is told is one
abbrev AreTables : Result ToldTable RequestError → Type 0
AreTables (Err e) = Unit {0}
AreTables (Ok told) = table_refusal told.zones told.blocks ≡ None

-- what is made in a step is so where it is for whatever the step before gave
step : {A : Type 0} (r : Result A RequestError) (f : A → Result ToldTable RequestError) → ((x : A) → r ≡ Ok x → AreTables (f x)) → AreTables (r >>= f)
step (Err e) f h = tt
step (Ok x) f h = h x refl

zones_same : (z x : Zones) (o : Option ZoneError) → zones_by z o ≡ Ok x → z ≡ x
zones_same z x None h = cc h
zones_same z x (Some e) h = absurd (cc h)

found_ok : {A : Type 0} (o : Option A) (e : RequestError) (x : A) → ok_or o e ≡ Ok x → o ≡ Some x
found_ok None e x h = absurd (cc h)
found_ok (Some y) e x h = let same : y ≡ x = cc h in ap Some same

made_shape : (fs : Fields) (bs : List BlockText) (b : Bool) (e g : RequestError) (made : List (List Column)) → (b ≡ list_all (is_rectangle (length (field_names fs))) bs)
    → (ensured b e >>= λ shaped. ok_or (blocks_of (field_types fs) (map (λ b. b.values) bs)) g) ≡ Ok made → BlocksShape fs bs made
made_shape fs bs true e g made is h = blocks_shape fs bs made (sym is) (found_ok _ g made h)
made_shape fs bs false e g made is h = absurd (cc h)

both_hold : (zones : Zones) (blocks : List (List Column)) → have_lengths zones blocks ≡ true → have_types zones blocks ≡ true → table_refusal zones blocks ≡ None
both_hold zones blocks h k = rw (h, k) refl

with_zones : (z : Zones) (fs : Fields) (bs : List BlockText) (ss : List StatText) → zones_of fs bs ss ≡ z → AreTables (told_with z fs bs)
with_zones z fs bs ss is =
    subst (λ (k : Zones). AreTables (told_with k fs bs)) is
    (step (block_columns fs bs) (λ made. Ok (record { zones = zones_of fs bs ss; blocks = made }))
    (λ made h. let shape = made_shape fs bs _ _ _ made refl h in both_hold (zones_of fs bs ss) made shape.0 shape.1))

in_places : (fs : Fields) (bs : List BlockText) (ss : List StatText) → AreTables (told_in fs bs ss)
in_places fs bs ss =
    step (sound_zones (zones_of fs bs ss)) (λ zones. told_with zones fs bs)
    (λ zones h. with_zones zones fs bs ss (zones_same (zones_of fs bs ss) zones (broken_rule (zones_of fs bs ss)) h))

at_places : (columns blocks : Data) (stats : Option Data) → AreTables (places_told columns blocks stats)
at_places columns blocks stats =
    step (at_place Columns (columns_in columns)) (λ cs. at_place Blocks (blocks_in blocks) >>= λ bs. stats_at stats >>= λ ss. told_in cs bs ss)
    (λ cs a. step (at_place Blocks (blocks_in blocks)) (λ bs. stats_at stats >>= λ ss. told_in cs bs ss)
    (λ bs b. step (stats_at stats) (λ ss. told_in cs bs ss) (λ ss c. in_places cs bs ss)))

by_members : (members : List Data) → AreTables (members_told members)
by_members [] = tt
by_members (a ∷ []) = tt
by_members (columns ∷ blocks ∷ []) = at_places columns blocks None
by_members (columns ∷ blocks ∷ stats ∷ []) = at_places columns blocks (Some stats)
by_members (a ∷ b ∷ c ∷ d ∷ more) = tt

by_value : (d : Data) → AreTables (told_of d)
by_value d =
    step (at_place Top (option_or (object_of names_without_stats d) (object_of names_with_stats d))) members_told (λ members h. by_members members)

tables_in : (input : Bytes) → AreTables (told_table input)
unfolding told_table
tables_in input =
    step (ensured (nat_le (length input) most_bytes) InputTooLong) (λ within. json_in input >>= told_of)
    (λ within a. step (json_in input) told_of (λ d b. by_value d))

-- the table that an input tells
pub told_tables_are_tables : ToldTablesAreTables
told_tables_are_tables input told h = subst AreTables h (tables_in input)
