-- The partitions of an expression and the root over them: simplified packs, put together again.
use Rattle.std.proofs.Common.{◌≡◌, refl, ap, sym, ◌∙◌, Bool, subst, List, [], ◌∷◌, map, Result, Ok}
use Rattle.vx_dtype.specs.declared.Nullability.TheVariants.{NonNullable}
use Rattle.vx_dtype.specs.Types.{Bytes, Ty, struct_ty}
use Rattle.vx_dtype.specs.Values.{Val, struct_val}
use Rattle.vx_dtype.specs.Zipped.{zipped}
use Rattle.vx_expr.specs.Trees.{Tree, pack, trees_of}
use Rattle.vx_semantics.specs.Typing.{Refusal, and_then, pack_type, typed_of, all_typed}
use Rattle.vx_semantics.specs.Meaning.{Slots, zip_members, mean, meanings}
use Rattle.vx_semantics.specs.Breaks.{by_sum}
use Rattle.vx_passes.specs.Annotating.{annotated}
use Rattle.vx_passes.specs.Splitting.{Share, Partition, Split, split, partitions_type, taken_from, packed_parts, typed_part, partition_of, partitions_of, with_root}
use Rattle.vx_passes.specs.TypedSimplifying.{simplified_typed}
use Rattle.vx_laws.proofs.Inverting.{and_then-ok, Ok-same}
use Rattle.vx_laws_simplifying.proofs.Observing.{breaking, breaking-observes}
use Rattle.vx_laws_simplifying.specs.Narrowing.{no_more_nullable}
use Rattle.vx_laws_simplifying.proofs.Narrows.{narrowing, Narrow}
use Rattle.vx_laws_simplifying.proofs.Under.{UnderList, ended, further, pack-under}
use Rattle.vx_laws.proofs.AnySlots.{FitsButNulls, fits-but_nulls, mean-but_nulls}
use Rattle.vx_laws_simplifying.proofs.Passes.{some_row, some_row-fits}
use Rattle.vx_laws_removing.proofs.Composed.{simplified_typed-kept}
use Rattle.vx_laws_removing.proofs.Loosened.{strict_types_are_loose}
use Rattle.vx_laws_parts.specs.Taking.{packed_shares, TakesParts}
use Rattle.vx_laws_parts.specs.Recombining.{partitions_row, SplitsWithoutRefusal, SplitRecombines}
use Rattle.vx_laws_parts.proofs.PutBack.{Stands}
use Rattle.vx_laws_parts.proofs.SharesHold.{map-twice}
use Rattle.vx_laws_parts.proofs.PartsTyped.{parts_are_typed}
use Rattle.vx_laws_parts.proofs.Taken.{pack-is, packs-stand, taken-stands}
use Rattle.vx_laws_parts.proofs.Narrower.{narrower}

-- what simplifying by types makes of a strictly typed expression
record Simple (t : Ty) (slots : Slots) (row : Val) (e : Tree) (w : Ty) : Type 0 where
  pub made : Tree
  pub is : simplified_typed t e ≡ Ok made
  pub ty : Ty
  pub typed : typed_of t made ≡ Ok ty
  pub narrow : Narrow ty w
  pub means : mean t slots row made ≡ mean t slots row e

simple : (t : Ty) (slots : Slots) (row : Val) (e : Tree) (w : Ty) → FitsButNulls row t → typed_of t e ≡ Ok w → Simple t slots row e w
simple t slots row e w g h =
    let o = breaking-observes by_sum t slots row in
    let m = simplified_typed-kept t slots row (breaking by_sum t slots row) o e w g h in
    record { made = m.made; is = m.is; ty = m.kept.ty; typed = m.kept.typed; narrow = m.kept.narrow; means = m.kept.means }

pub mean-list : (t : Ty) (slots : Slots) (row : Val) (es : List Tree) → meanings t slots row (trees_of es) ≡ map (mean t slots row) es
unfolding mean
mean-list t slots row [] = refl
mean-list t slots row (e ∷ es) = ap (λ (vs : List Val). mean t slots row e ∷ vs) (mean-list t slots row es)

module _ {A : Type 0} (text : A → Bytes) (t : Ty) (slots : Slots) (row : Val) where
  abbrev packs : List (Share A) → List Tree
  packs ss = map (λ x. packed_parts (text x.annotation) x.parts) ss

  abbrev own : List (Partition A) → List Tree
  own ps = map (λ p. p.expression) ps

  -- the partitions of shares whose packs have these types
  record Parts (ss : List (Share A)) (ws : List Ty) : Type 0 where
    pub partitions : List (Partition A)
    pub is : partitions_of text t ss ≡ Ok partitions
    pub annotations : map (λ p. p.annotation) partitions ≡ map (λ x. x.annotation) ss
    pub typed : all_typed t (trees_of (own partitions)) ≡ Ok (map (λ p. p.ty) partitions)
    pub narrow : UnderList no_more_nullable (map (λ p. p.ty) partitions) ws
    pub mean_same : meanings t slots row (trees_of (own partitions)) ≡ meanings t slots row (trees_of (packs ss))

  parts : (ss : List (Share A)) (ws : List Ty) → FitsButNulls row t
      → all_typed t (trees_of (packs ss)) ≡ Ok ws → Parts ss ws
  unfolding typed_of mean
  parts [] ws g h =
      record { partitions = []; is = refl; annotations = refl; typed = refl; narrow = subst (UnderList no_more_nullable []) (Ok-same (Ok []) [] ws refl h) ended; mean_same = refl }
  parts (x ∷ xs) ws g h =
      let e = packed_parts (text x.annotation) x.parts in
      let a = and_then-ok (typed_of t e) (λ z. and_then (all_typed t (trees_of (packs xs))) (λ zs. Ok (z ∷ zs))) ws h in
      let b = and_then-ok (all_typed t (trees_of (packs xs))) (λ zs. Ok (a.given ∷ zs)) ws a.gave in
      let k = simple t slots row e a.given g a.was in
      let r = parts xs b.given g b.was in
      let here : Partition A = record { annotation = x.annotation; expression = k.made; ty = k.ty } in
      let one : partition_of text t x ≡ Ok here =
      ap (λ (q : Result Tree Refusal). and_then q (typed_part t x.annotation)) k.is
      ∙ ap (λ (q : Result Ty Refusal). and_then q (λ z. Ok (record { annotation = x.annotation; expression = k.made; ty = z }))) (strict_types_are_loose t k.made k.ty k.typed) in
      record {
        partitions = here ∷ r.partitions;
        is =
            ap (λ (q : Result (Partition A) Refusal). and_then q (λ p. and_then (partitions_of text t xs) (λ ps. Ok (p ∷ ps)))) one
            ∙ ap (λ (q : Result (List (Partition A)) Refusal). and_then q (λ ps. Ok (here ∷ ps))) r.is;
        annotations = ap (λ (ks : List A). x.annotation ∷ ks) r.annotations;
        typed =
            ap (λ (q : Result Ty Refusal). and_then q (λ z. and_then (all_typed t (trees_of (own r.partitions))) (λ zs. Ok (z ∷ zs)))) k.typed
            ∙ ap (λ (q : Result (List Ty) Refusal). and_then q (λ zs. Ok (k.ty ∷ zs))) r.typed;
        narrow =
            subst (UnderList no_more_nullable (k.ty ∷ map (λ p. p.ty) r.partitions)) (Ok-same (Ok ws) (a.given ∷ b.given) ws (sym b.gave) refl)
            (further k.ty a.given (map (λ p. p.ty) r.partitions) b.given k.narrow r.narrow);
        mean_same =
            ap (λ (v : Val). v ∷ meanings t slots row (trees_of (own r.partitions))) k.means
            ∙ ap (λ (vs : List Val). mean t slots row e ∷ vs) r.mean_same;
      }

  -- an expression that was split
  record PutTogether (ss : List (Share A)) (d e : Tree) : Type 0 where
    pub made : Split A
    pub is : and_then (partitions_of text t ss) (with_root text d) ≡ Ok made
    pub annotations : map (λ p. p.annotation) made.partitions ≡ map (λ x. x.annotation) ss
    pub means : mean (partitions_type text made.partitions) slots (partitions_row text t slots row made.partitions) made.root_expression ≡ mean t slots row e

  splits : (ss : List (Share A)) (d e : Tree) (u w : Ty) → FitsButNulls row t
      → typed_of t (packed_shares text ss) ≡ Ok u → typed_of t e ≡ Ok w → Stands t u slots row (mean t slots row (packed_shares text ss)) d e → PutTogether ss d e
  unfolding typed_of mean
  splits ss d e u w g h i stands =
      let names = map (λ x. text x.annotation) ss in
      let q = pack-is t names (trees_of (packs ss)) u h in
      let r = parts ss q.types g q.typed in
      let ps = r.partitions in
      let tys = map (λ p. p.ty) ps in
      let mine = map (λ p. text p.annotation) ps in
      let texts : mine ≡ names =
      sym (map-twice text (λ (p : Partition A). p.annotation) ps) ∙ (ap (map text) r.annotations ∙ map-twice text (λ (x : Share A). x.annotation) ss) in
      let whole : pack_type names NonNullable q.types ≡ Ok u =
      ap (λ (z : Result (List Ty) Refusal). and_then z (pack_type names NonNullable)) (sym q.typed) ∙ h in
      let k = pack-under no_more_nullable narrowing names NonNullable tys q.types u r.narrow whole in
      let over = pack names (trees_of (own ps)) NonNullable in
      let over_typed : typed_of t over ≡ Ok k.ty = ap (λ (z : Result (List Ty) Refusal). and_then z (pack_type names NonNullable)) r.typed ∙ k.is in
      let over_is = pack-is t names (trees_of (own ps)) k.ty over_typed in
      let types : over_is.types ≡ tys = Ok-same (all_typed t (trees_of (own ps))) over_is.types tys over_is.typed r.typed in
      let scope : partitions_type text ps ≡ k.ty =
      ap (λ (z : List Bytes). struct_ty (zipped z tys) NonNullable) texts ∙ (ap (λ (z : List Ty). struct_ty (zipped names z) NonNullable) (sym types) ∙ sym over_is.is) in
      let values : mean t slots row over ≡ mean t slots row (packed_shares text ss) = ap (λ (vs : List Val). struct_val (zip_members names vs)) r.mean_same in
      let rows : partitions_row text t slots row ps ≡ mean t slots row over =
      ap (λ (z : List Bytes). struct_val (zip_members z (map (λ p. mean t slots row p.expression) ps))) texts
      ∙ ap (λ (vs : List Val). struct_val (zip_members names vs)) (sym (mean-list t slots row (own ps) ∙ map-twice (mean t slots row) (λ (p : Partition A). p.expression) ps)) in
      let made = mean t slots row over in
      let at : mean u slots made d ≡ mean t slots row e = ap (λ (z : Val). mean u slots z d) values ∙ stands.means in
      let n = narrower u k.ty slots made ((packs-stand t k.ty slots row over over_typed).typed ∙ over_typed) k.under d w (stands.typed ∙ i) in
      let fits = mean-but_nulls t slots row over k.ty g over_typed in
      let z = simple k.ty slots made d n.ty fits n.typed in
      let root_is : simplified_typed (partitions_type text ps) d ≡ Ok z.made = ap (λ (c : Ty). simplified_typed c d) scope ∙ z.is in
      record {
        made = record { root_expression = z.made; partitions = ps };
        is =
            ap (λ (x : Result (List (Partition A)) Refusal). and_then x (with_root text d)) r.is
            ∙ ap (λ (x : Result Tree Refusal). and_then x (λ c. Ok (record { root_expression = c; partitions = ps }))) root_is;
        annotations = r.annotations;
        means =
            ap (λ (c : Ty). mean c slots (partitions_row text t slots row ps) z.made) scope
            ∙ (ap (λ (v : Val). mean k.ty slots v z.made) rows ∙ (z.means ∙ (n.means ∙ at)));
      }

split-of : {A : Type 0} (same : A → A → Bool) (text : A → Bytes) (annotate : Tree → List A) (t : Ty) (slots : Slots) (row : Val) (e : Tree) (u w : Ty)
    → TakesParts A same text (annotated same annotate e) t e u → typed_of t e ≡ Ok w → FitsButNulls row t
    → PutTogether text t slots row (taken_from same text (annotated same annotate e) e []).shares (taken_from same text (annotated same annotate e) e []).expression e
split-of same text annotate t slots row e u w p i g =
    let m = annotated same annotate e in
    let x = taken_from same text m e [] in
    splits text t slots row x.shares x.expression e u w g p.typed i (taken-stands same text m t slots row e u p)

pub splits_without_refusal : (A : Type 0) → SplitsWithoutRefusal A
splits_without_refusal A same text annotate t e w p =
    let k = parts_are_typed A same text annotate t e w p in
    let s = split-of same text annotate t [] (some_row t) e k.0 w k.1 p.typed (some_row-fits t) in
    (s.made, s.is, s.annotations)

pub split_recombines : (A : Type 0) → SplitRecombines A
split_recombines A same text annotate t slots row e w s p g h =
    let j = parts_are_typed A same text annotate t e w p in
    let k = split-of same text annotate t slots row e j.0 w j.1 p.typed (fits-but_nulls row t g) in
    let one : k.made ≡ s = Ok-same (split same text annotate t e) k.made s k.is h in
    subst (λ (z : Split A). mean (partitions_type text z.partitions) slots (partitions_row text t slots row z.partitions) z.root_expression ≡ mean t slots row e) one k.means
