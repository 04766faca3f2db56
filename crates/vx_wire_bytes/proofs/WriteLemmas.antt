-- Writing a number seven bits at a time.
use Rattle.std.proofs.Common.{◌≡◌, ℕ, zero, suc, ◌+◌, ◌/◌, ◌%◌, ◌^◌, ◌<◌, ◌≤◌, List, [], ◌∷◌, ◌++◌, length, refl, sym, ap, ◌∙◌, append_assoc, subst, get_or, take, arith}
use Rattle.std.proofs.lemmas.List.{append-nil, take_all}
use Rattle.vx_dtype.specs.Types.{Bytes}
use Rattle.vx_wire_bytes.specs.Numbers.{sevens, bound, number_bytes, piece_bytes}
use Rattle.vx_wire_bytes.specs.Wires.{node, wire_bytes, wires_bytes, head_bytes, head_of_tree, IsHead, IsSpellable, AreSpellable, HasShortParts, HaveShortParts}
use Rattle.vx_wire_bytes.specs.Reading.{appended}
use Rattle.vx_wire_bytes.specs.WireViews.{tree_view, trees_view}
use Rattle.vx_wire_bytes.specs.WriteAnswers.{IsUnwritten}
use Rattle.vx_wire_bytes.specs.declared.errors.WireError.{WireError}
use Rattle.vx_wire_bytes.specs.declared.errors.WireError.TheVariants as errors
use Rattle.vx_wire_bytes.specs.declared.trees.WireTree.{WireTree}
use Rattle.vx_wire_bytes.specs.declared.trees.WireTree.TheViews.{out-WireTree}
use Rattle.vx_wire_bytes.proofs.ListLemmas.{nodes_bytes-appended, AreSpellable-appended}
use Rattle.vx_wire_bytes.proofs.TreeLemmas.{tree_view-out}
use Rattle.vx_wire_bytes.proofs.StackLemmas.{trees_view-push}
use Rattle.vx_wire_bytes.proofs.NumberLemmas.{sevens-large}

-- what was written and the spelling of what is left are the number's spelling behind what stood there
pub record IsWriting (old new : Bytes) (n rest : ℕ) : Type 0 where
  pub more : ℕ
  pub below : rest < bound more
  pub whole : new ++ sevens more rest ≡ old ++ number_bytes n
  pub written : Bytes
  pub so_far : new ≡ old ++ written

pub writing_starts : (old : Bytes) (n : ℕ) → n < 2 ^ 32 → IsWriting old old n n
unfolding number_bytes
writing_starts old n lt = record { more = 4; below = lt; whole = refl; written = []; so_far = sym (append-nil old) }

pub writing_goes_on : (old new : Bytes) (n rest : ℕ) → 128 ≤ rest → IsWriting old new n rest → IsWriting old (new ++ (rest % 128 + 128) ∷ []) n (rest / 128)
writing_goes_on old new n rest le w = go w.more w.below w.whole
  where
    go : (more : ℕ) → rest < bound more → new ++ sevens more rest ≡ old ++ number_bytes n → IsWriting old (new ++ (rest % 128 + 128) ∷ []) n (rest / 128)
    go zero lt e = absurd (omega arith)
    go (suc more) lt e = record {
      more = more;
      below = omega arith;
      whole = append_assoc new ((rest % 128 + 128) ∷ []) (sevens more (rest / 128)) ∙ ap (λ (b : Bytes). new ++ b) (sym (sevens-large more rest le)) ∙ e;
      written = w.written ++ (rest % 128 + 128) ∷ [];
      so_far = ap (λ (b : Bytes). b ++ (rest % 128 + 128) ∷ []) w.so_far ∙ append_assoc old w.written ((rest % 128 + 128) ∷ []);
    }

-- the three fields of a head, one behind the other
pub head_written : (old after_id after_metadata new id metadata : Bytes) (n : ℕ) → after_id ≡ old ++ piece_bytes id → after_metadata ≡ after_id ++ piece_bytes metadata → new ≡ after_metadata ++ number_bytes n
    → new ≡ old ++ (piece_bytes id ++ (piece_bytes metadata ++ number_bytes n))
head_written old after_id after_metadata new id metadata n a b c =
    c ∙ ap (λ (x : Bytes). x ++ number_bytes n) (b ∙ ap (λ (x : Bytes). x ++ piece_bytes metadata) a)
    ∙ append_assoc (old ++ piece_bytes id) (piece_bytes metadata) (number_bytes n) ∙ append_assoc old (piece_bytes id) (piece_bytes metadata ++ number_bytes n)
