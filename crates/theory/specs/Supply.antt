-- When what is supplied beside a program's tables fits: the header (1), the hashes (13), the limits (14), the witness bits (15), the input
-- bits (16) and the stores (17). Bits fit if they are the compact bits of values of the right types, one after the other, then fewer than
-- eight zeros. That the checks pass exactly what fits is shown in proofs/Supply.
use Rattle.std.specs.Prelude.{◌≡◌, ℕ, suc, ◌/◌, ◌≤◌, ◌<◌, get_or}
use Rattle.std.proofs.Math.Bool.{true}
use mathlib.Core.List.{List, [], ◌∷◌, ◌++◌}
use Rattle.std.proofs.Math.ListN.{length}
use Rattle.limits.specs.Limits.{header_bytes, dossier_bytes, hash_bytes, cell_count, frame_count, cost_limit, frame_numbers}
use Rattle.report.specs.Bits.{Bit}
use Rattle.report.specs.Types.{Ty, width}
use Rattle.report.specs.Values.{Val, ⟨⟩, HasTy, compact}
use Rattle.report.specs.Nodes.{Node}
use Rattle.scope.specs.Numbers.{stream_of, bytes_for}
use Rattle.scope.specs.Header.{header_rule}
use Rattle.scope.specs.Types.{TypeRecord, ty_at}
use Rattle.scope.specs.Arrows.{Arrow, target}
use Rattle.scope.specs.Hashes.{rights, entry}
use Rattle.scope.specs.Program.{Program, whole_target}
use Rattle.scope.specs.Bounds.{whole_cells, whole_frames, whole_cost}
use Rattle.exactness.specs.Programs.{Closed}

-- THE HEADER keeps its rules
pub record HeaderFits (d : List ℕ) : Type 0 where
  pub least : header_bytes ≤ length d
  pub most : length d ≤ dossier_bytes
  pub rules : (j : ℕ) → j < 14 → header_rule d j ≡ true

-- THE LIMITS on the whole program
pub record LimitsFit (P : Program) : Type 0 where
  pub cells : whole_cells P ≤ cell_count
  pub frames : whole_frames P ≤ frame_count
  pub cost : whole_cost P ≤ cost_limit

-- THE STORES for a run: cells and answer in bytes, frames in whole records
pub record StoresFit (P : Program) (cells frames answer : List ℕ) : Type 0 where
  pub cell_bytes : bytes_for (whole_cells P) ≤ length cells
  pub frame_records : whole_frames P ≤ length frames / frame_numbers
  pub answer_bytes : bytes_for (width (whole_target P)) ≤ length answer

-- THE HASHES: as many as disconnects with two children, and one child gets one hash
pub record HashesFit (nodes : List Node) (given : List ℕ) : Type 0 where
  pub many : length given / hash_bytes ≡ length (rights nodes)
  pub alike : (e f : ℕ) → e < length (rights nodes) → f < length (rights nodes) → get_or (rights nodes) e 0 ≡ get_or (rights nodes) f 0
      → entry given e ≡ entry given f

-- BITS THAT ARE SUPPLIED: as many as the count says, and behind them fewer than eight zeros, in no more bytes than a dossier may have
pub record BitsAre (bytes : List ℕ) (count : ℕ) (bits : List Bit) : Type 0 where
  pub many : count ≡ length bits
  pub within : length bytes ≤ dossier_bytes
  pub closed : Closed (stream_of bytes) bits

-- THE INPUT BITS are those of a value of the type
pub record InputFits (A : Ty) (bytes : List ℕ) (count : ℕ) (v : Val) : Type 0 where
  pub typed : HasTy v A
  pub bits : BitsAre bytes count (compact v)

-- the compact bits of values one after the other
unfoldable pub all_bits : List Val → List Bit
unfolding compact
all_bits [] = []
all_bits (v ∷ vs) = compact v ++ all_bits vs

module _ (types : List TypeRecord) (arrows : List Arrow) where
  -- the value of node i: for a witness one of its target, for any other node none
  pub record ValueFor (i : ℕ) (n : Node) (v : Val) : Type 0 where
    pub witness : n ≡ Node.witness → HasTy v (ty_at types (target arrows i))
    pub other : (n ≡ Node.witness → ⊥) → v ≡ ⟨⟩

  -- a value for each node from node i on
  abbrev pub ValuesFor : (i : ℕ) → List Node → List Val → Type 0
  ValuesFor i [] [] = Unit {0}
  ValuesFor i [] (v ∷ vs) = ⊥
  ValuesFor i (n ∷ ns) [] = ⊥
  ValuesFor i (n ∷ ns) (v ∷ vs) = ValueFor i n v × ValuesFor (suc i) ns vs

-- THE WITNESS BITS are those of the values of the witness nodes, in node order
pub record WitnessFits (types : List TypeRecord) (nodes : List Node) (arrows : List Arrow) (bytes : List ℕ) (count : ℕ) (values : List Val) : Type 0 where
  pub each : ValuesFor types arrows 0 nodes values
  pub bits : BitsAre bytes count (all_bits values)
