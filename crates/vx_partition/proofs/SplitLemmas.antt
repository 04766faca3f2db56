-- Partitions, share by share, and an expression in parts.
use Rattle.std.proofs.Common.{◌≡◌, List, [], ◌∷◌, Ok, Result, refl, ap, sym, subst, ◌∙◌}
use Rattle.vx_dtype.specs.Types.{Bytes, Ty}
use Rattle.vx_expr.specs.Trees.{Tree}
use Rattle.vx_semantics.specs.Typing.{Refusal, and_then}
use Rattle.vx_passes.specs.TypedSimplifying.{simplified_typed}
use Rattle.vx_passes.specs.Splitting.{Partition, Share, Split, Taken, partition_of, partitions_of, partitions_type, split_taken, with_root}
use Rattle.vx_transform.specs.declared.errors.TransformError.{TransformError}
use Rattle.vx_transform.specs.Rebuilds.{each}
use Rattle.vx_transform.specs.TransformAnswers.{Refuses}
use Rattle.vx_transform.proofs.RebuildLemmas.{handed_on}
use Rattle.vx_partition.specs.Splits.{SplitColumns, in_columns}
use Rattle.vx_partition.specs.Takings.{taken_as}

module _ {A : Type 0} (text : A → Bytes) where
  pub partitions_each : (t : Ty) (ss : List (Share A)) → partitions_of text t ss ≡ each (partition_of text t) ss
  partitions_each t [] = refl
  partitions_each t (x ∷ xs) = ap (λ r. and_then (partition_of text t x) (λ p. and_then r (λ ps. Ok (p ∷ ps)))) (partitions_each t xs)

  -- a split, or its refusal, as columns
  abbrev pub as_columns : Result (Split A) Refusal → Result (SplitColumns A) Refusal
  as_columns told = and_then told (λ made. Ok (in_columns text made))

  abbrev rooted_by : List (Partition A) → Result Tree Refusal → Result (Split A) Refusal
  rooted_by ps told = and_then told (λ d. Ok (record { root_expression = d; partitions = ps }))

  module _ (root : Tree) (ps : List (Partition A)) (scope : Ty) (is : scope ≡ partitions_type text ps) where
    pub rooted : (d : Tree) → simplified_typed scope root ≡ Ok d
        → as_columns (with_root text root ps) ≡ Ok (in_columns text (record { root_expression = d; partitions = ps }))
    rooted d h = ap (λ t. as_columns (rooted_by ps (simplified_typed t root))) (sym is) ∙ ap (λ told. as_columns (rooted_by ps told)) h

    pub not_rooted : (e : TransformError) → Refuses (simplified_typed scope root) e → Refuses (as_columns (with_root text root ps)) e
    not_rooted e h =
        let told = simplified_typed (partitions_type text ps) root in
        handed_on (rooted_by ps told) (λ made. Ok (in_columns text made)) e
        (handed_on told (λ d. Ok (record { root_expression = d; partitions = ps })) e (subst (λ t. Refuses (simplified_typed t root) e) is h))

  module _ (t : Ty) (taken : Taken A) (root : Tree) (ss : List (Share A)) (is : taken ≡ taken_as root ss) where
    pub split_by : (ps : List (Partition A)) → partitions_of text t ss ≡ Ok ps → as_columns (split_taken text t taken) ≡ as_columns (with_root text root ps)
    split_by ps h =
        ap (λ x. as_columns (and_then (partitions_of text t x.shares) (with_root text x.expression))) is
        ∙ ap (λ told. as_columns (and_then told (with_root text root))) h

    pub not_split : (e : TransformError) → Refuses (partitions_of text t ss) e → Refuses (as_columns (split_taken text t taken)) e
    not_split e h =
        subst (λ x. Refuses (as_columns (split_taken text t x)) e) (sym is)
        (handed_on (and_then (partitions_of text t ss) (with_root text root)) (λ made. Ok (in_columns text made)) e
        (handed_on (partitions_of text t ss) (with_root text root) e h))
