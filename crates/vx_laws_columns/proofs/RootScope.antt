-- What the partitions give has the type of the packs of the parts, and over it what is left of the expression has the expression's type.
use Rattle.std.proofs.Common.{◌≡◌, refl, ap, sym, ◌∙◌, List, [], ◌∷◌, map, Result, Ok}
use Rattle.std.specs.List.{AllByRecursion}
use Rattle.std.specs.Str.{bytes_eq}
use Rattle.vx_dtype.specs.declared.Nullability.TheVariants.{NonNullable}
use Rattle.vx_dtype.specs.Types.{Bytes, Ty, struct_ty, Fields}
use Rattle.vx_dtype.specs.Zipped.{zipped}
use Rattle.vx_expr.specs.Trees.{Tree, trees_of}
use Rattle.vx_semantics.specs.Typing.{Refusal, and_then, typed_of, all_typed}
use Rattle.vx_semantics.specs.Tables.{row_type}
use Rattle.vx_passes.specs.Annotating.{column_annotation}
use Rattle.vx_passes.specs.Splitting.{Share, packed_parts, Partition, Split, partitions_type}
use Rattle.vx_laws.proofs.Inverting.{Ok-same}
use Rattle.vx_laws_parts.specs.Taking.{TakesParts}
use Rattle.vx_laws_parts.proofs.Taken.{pack-is, taken_typed}
use Rattle.vx_laws_parts.proofs.PartsTyped.{parts_are_typed}
use Rattle.vx_laws_columns.specs.Columns.{SplitByColumns}
use Rattle.vx_laws_columns.proofs.Entries.{columns_map}
use Rattle.vx_laws_columns.proofs.Partitions.{own_name, taken_by_columns, IsOfColumn}
use Rattle.vx_laws_columns.proofs.ByColumn.{ready, splits-of, is-split}

-- the packs of the parts of shares
abbrev pub packs : List (Share Bytes) → List Tree
packs ss = map (λ x. packed_parts x.annotation x.parts) ss

-- the types of partitions
their-types : (t : Ty) (ps : List (Partition Bytes)) → AllByRecursion (IsOfColumn t) ps → all_typed t (trees_of (map (λ p. p.expression) ps)) ≡ Ok (map (λ p. p.ty) ps)
unfolding typed_of
their-types t [] h = refl
their-types t (p ∷ ps) h =
    ap (λ (x : Result Ty Refusal). and_then x (λ a. and_then (all_typed t (trees_of (map (λ q. q.expression) ps))) (λ us. Ok (a ∷ us)))) h.0.typed
    ∙ ap (λ (x : Result (List Ty) Refusal). and_then x (λ us. Ok (p.ty ∷ us))) (their-types t ps h.1)

-- the type of the packs of the parts is that of what the partitions give
pub record RootScope (t : Ty) (d : Tree) (s : Split Bytes) : Type 0 where
  pub ty : Ty
  pub takes : TakesParts Bytes bytes_eq own_name (columns_map t d) t d ty
  pub is : partitions_type own_name s.partitions ≡ ty

pub root-scope : (fs : Fields) (e : Tree) (u : Ty) (d : Tree) (s : Split Bytes) → SplitByColumns fs e u d s → RootScope (row_type fs) d s
root-scope fs e u d s h =
    let t = row_type fs in
    let ss = (taken_by_columns t d).shares in
    let ps = s.partitions in
    let sp = is-split fs e u d s h in
    let j = parts_are_typed Bytes bytes_eq own_name (column_annotation t) t d (ready fs e u d h.prepared.simplifies).typed.0 (splits-of fs e u d h.prepared) in
    let i = pack-is t (map (λ y. y.annotation) ss) (trees_of (packs ss)) j.0 j.1.typed in
    let types : i.types ≡ map (λ p. p.ty) ps =
    Ok-same (all_typed t (trees_of (packs ss))) i.types (map (λ p. p.ty) ps) i.typed (ap (λ (es : List Tree). all_typed t (trees_of es)) (sym sp.expressions) ∙ their-types t ps sp.of_columns) in
    record {
      ty = j.0;
      takes = j.1;
      is =
          ap (λ (cs : List Bytes). struct_ty (zipped cs (map (λ p. p.ty) ps)) NonNullable) sp.annotations_same
          ∙ (ap (λ (us : List Ty). struct_ty (zipped (map (λ (y : Share Bytes). y.annotation) ss) us) NonNullable) (sym types) ∙ sym i.is);
    }

-- what is left has the type of the expression
pub left-typed : (fs : Fields) (e : Tree) (u : Ty) (d : Tree) (s : Split Bytes) → SplitByColumns fs e u d s
    → typed_of (partitions_type own_name s.partitions) (taken_by_columns (row_type fs) d).expression ≡ typed_of (row_type fs) d
left-typed fs e u d s h =
    let t = row_type fs in
    let o = root-scope fs e u d s h in
    ap (λ (v : Ty). typed_of v (taken_by_columns t d).expression) o.is ∙ taken_typed Bytes bytes_eq own_name (columns_map t d) t d o.ty o.takes
