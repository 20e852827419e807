-- What the checks of a program's tables come to: all that the laws of nodes and whole programs ask of a program.
-- That a checked dossier's program is sound is shown in proofs/Accepted.
use Rattle.std.specs.Prelude.{◌≡◌, true, false, ℕ, ◌-◌, ◌^◌, ◌<◌, length, get_or}
use mathlib.Core.List.{List}
use Rattle.report.specs.Bits.{Bit}
use Rattle.report.specs.Types.{word_ty}
use Rattle.report.specs.Values.{⟨⟩, HasTy}
use Rattle.report.specs.Nodes.{disconnect, witness, word}
use Rattle.report.specs.Canonical.{children}
use Rattle.scope.specs.Check.{passed}
use Rattle.scope.specs.Nodes.{node_at}
use Rattle.scope.specs.Walk.{hidden_at, allowed}
use Rattle.scope.specs.Arrows.{arrow_rule}
use Rattle.scope.specs.Program.{Program, target_ty, last}
use Rattle.common.specs.Bits.{AllBelow}
use Rattle.exactness.specs.Types.{TypesPass}

-- what the checks of a program's tables come to
pub record Sound (P : Program) : Type 0 where
  -- every type record, and every node's arrow, keeps its rule
  pub type_rules : TypesPass P.types
  pub arrow_rules : (i : ℕ) → i < length P.nodes → arrow_rule P.types P.nodes P.arrows i ≡ true
  -- children stand below their parents; hidden ones only under a case, and not both
  pub children_below : (i : ℕ) → i < length P.nodes → AllBelow i (children (node_at P.nodes i))
  pub hidden_rules : (i : ℕ) → i < length P.nodes → hidden_at P.nodes i ≡ false → allowed P.nodes i (node_at P.nodes i) ≡ passed tt
  -- there is a node, and the last one is not hidden
  pub some_node : 0 < length P.nodes
  pub last_shown : hidden_at P.nodes (last P) ≡ false
  -- a word has its bits, a witness a value of its target, a disconnect a hash of 256 bits for its right child
  pub word_bits : (i n : ℕ) (bits : List Bit) → node_at P.nodes i ≡ word n bits → length bits ≡ 2 ^ (n - 1)
  pub witness_values : (i : ℕ) → node_at P.nodes i ≡ witness → HasTy (get_or P.witnesses i ⟨⟩) (target_ty P i)
  pub hash_values : (i a b : ℕ) → node_at P.nodes i ≡ disconnect a b → HasTy (P.hash b) (word_ty 8)
