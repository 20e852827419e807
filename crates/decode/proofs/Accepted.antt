-- What the promise of the public call comes to, by the exactness of decoding: it accepts exactly the report's codes of canonical tables that fit the stores,
-- and the records and bytes that it then leaves in them stand for that table.
use mathlib.Core.Logic.{◌↔◌}
use mathlib.Core.Path.{◌≡◌, ap₂, ◌∙◌}
use mathlib.Core.List.{List}
use Prim.Native.Nat.{ℕ, ◌*◌, ◌/◌}
use lib.ListN.{length, take}
use Rattle.limits.specs.Limits.{node_numbers}
use Rattle.report.specs.Nodes.{Node}
use Rattle.refusal.specs.declared.Refusal.{Refusal}
use Rattle.scope.specs.Numbers.{stream_of}
use Rattle.scope.specs.Nodes.{NodeRecord, node_records, nodes_of}
use Rattle.scope.specs.Closing.{decode}
use Rattle.exactness.specs.Nodes.{layout}
use Rattle.exactness.specs.Programs.{IsProgram}
use Rattle.exactness.proofs.Decoding.{decoded_is_program, program_is_decoded, decoded_nodes}
use Rattle.std.specs.Prelude.{Result, Ok}
use Rattle.decode.specs.declared.Sizes.{Sizes}
use Rattle.decode.specs.Answers.{said_of}
use Rattle.decode.specs.Stores.{sizes_with, left, left_by}
use Rattle.decode.proofs.Pins.{answer_tells}
use Rattle.decode.proofs.Promise.{Holds, holds, table_told}

-- the sizes of a table of nodes in the stores
abbrev pub layout_sizes : List Node → Sizes
layout_sizes ns = sizes_with (length (layout ns).records) (length (layout ns).hashes)

-- the call answers r and leaves these stores
module _ (program nodes hashes : List ℕ) (r : Result Sizes Refusal) (nodes' hashes' : List ℕ)
    (promise : left (said_of r) nodes' hashes' ≡ left_by (decode program (length nodes / node_numbers) (length hashes)) nodes hashes) where
  -- the bytes are the code of this table of nodes, which fits the stores
  abbrev pub Codes : List Node → Type 0
  Codes ns = IsProgram program (length nodes / node_numbers) (length hashes) ns

  -- what is answered and left for the code of a table of nodes
  pub record Leaves (ns : List Node) : Type 0 where
    pub answer : r ≡ Ok (layout_sizes ns)
    pub layout_left : Holds program nodes hashes r nodes' hashes' promise (layout ns)
    pub stands : nodes_of (stream_of program) (take (layout_sizes ns).hashes hashes') (node_records (take (node_numbers * (layout_sizes ns).nodes) nodes')) ≡ ns

  pub program_is_accepted : (ns : List Node) → Codes ns → Leaves ns
  program_is_accepted ns h =
      let all = holds program nodes hashes r nodes' hashes' promise (layout ns)
      (program_is_decoded program (length nodes / node_numbers) (length hashes) ns h) in
      record {
        answer = answer_tells r (Ok (layout_sizes ns)) all.answer;
        layout_left = all;
        stands = ap₂ (λ (b : List ℕ) (rs : List NodeRecord). nodes_of (stream_of program) b rs) all.bytes_stand all.records_stand
            ∙ decoded_nodes program (length nodes / node_numbers) (length hashes) ns h;
      }

  pub accepted_is_program : (sizes : Sizes) → r ≡ Ok sizes → (ns : List Node) × Codes ns
  accepted_is_program sizes e =
      let t = table_told program nodes hashes r nodes' hashes' promise sizes e in
      let p = decoded_is_program program (length nodes / node_numbers) (length hashes) t.0 t.1 in
      (p.0, p.1)

  -- THE CALL ACCEPTS EXACTLY THE CODES OF CANONICAL TABLES THAT FIT; by `program_is_accepted` the table that it leaves is that one
  pub accepts_exactly : ((sizes : Sizes) × (r ≡ Ok sizes)) ↔ ((ns : List Node) × Codes ns)
  accepts_exactly = ((λ p. accepted_is_program p.0 p.1), (λ h. (layout_sizes h.0, (program_is_accepted h.0 h.1).answer)))
