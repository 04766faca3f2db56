-- What a source and a sink in memory are.
use Rattle.std.specs.Prelude.{ℕ, List, Bool, ◌||◌, ◌&&◌, nat_eq, nat_le, not, length}
use Rattle.vx_io.specs.Counts.{one_more, is_listed}

-- a source: the bytes to come, how many it gives at most in a call, the numbers of the calls that fail, how many calls there were and how many failed
pub record SourceState : Type 0 where
  pub bytes : List ℕ
  pub most : ℕ
  pub listed : List ℕ
  pub calls : ℕ
  pub faults : ℕ

-- a sink: the bytes that were written, how many it holds in all, how many it takes at most in a call, and the same
pub record SinkState : Type 0 where
  pub bytes : List ℕ
  pub room : ℕ
  pub most : ℕ
  pub listed : List ℕ
  pub calls : ℕ
  pub faults : ℕ

-- whether the next read fails
abbrev pub read_fails : SourceState → Bool
read_fails s = is_listed (one_more s.calls) s.listed

-- whether the next write of a piece fails: it is listed, or the piece is not empty and the room is used up
abbrev pub is_empty_piece : List ℕ → Bool
is_empty_piece piece = nat_eq (length piece) 0

abbrev pub write_fails : SinkState → List ℕ → Bool
write_fails s piece = is_listed (one_more s.calls) s.listed || (not (is_empty_piece piece) && nat_le s.room (length s.bytes))
