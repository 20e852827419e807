-- What a program that decodes has to be: the report's code of a table of nodes, closed by fewer than eight zeros.
-- The table is well formed and canonical, its hidden nodes stand where they may, and it fits the stores that are lent.
use Rattle.std.specs.Prelude.{◌≡◌, List, ◌++◌, ℕ, ◌≤◌, ◌<◌, length}
use Rattle.limits.specs.Limits.{dossier_bytes}
use Rattle.report.specs.Bits.{Bit}
use Rattle.report.specs.Nodes.{Node, code_program}
use Rattle.report.specs.Canonical.{Canonical}
use Rattle.scope.specs.Numbers.{zeros, stream_of}
use Rattle.exactness.specs.Nodes.{WellFormed, hashes_of}
use Rattle.exactness.specs.Hidden.{HiddenPlaces}

-- the bits are x, and then fewer than eight zeros
pub record Closed (bits x : List Bit) : Type 0 where
  pub padding : ℕ
  pub short : padding < 8
  pub whole : bits ≡ x ++ zeros padding

-- a program that is the code of this table of nodes, and fits
pub record IsProgram (program : List ℕ) (records bytes : ℕ) (ns : List Node) : Type 0 where
  pub within : length program ≤ dossier_bytes
  pub formed : WellFormed ns
  pub coded : Closed (stream_of program) (code_program ns)
  pub canonical : Canonical ns
  pub hidden_places : HiddenPlaces ns
  pub records_fit : length ns ≤ records
  pub bytes_fit : length (hashes_of ns) ≤ bytes
