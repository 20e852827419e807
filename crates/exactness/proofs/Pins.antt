-- The conditions of the theorems can be met: the program `89 20` of the requirements is the code of the table that holds unit and an injl of it,
-- closed by two zeros, and two records and no byte are room enough for it.
use Rattle.std.specs.Prelude.{◌≡◌, refl, List, [], ◌∷◌, ℕ}
use Rattle.std.proofs.Common.{sym, ap, ◌∙◌, subst}
use Rattle.report.specs.Naturals.{code_by, log2_by, low_bits}
use Rattle.report.specs.Nodes.{Node, injl, unit}
use Rattle.scope.specs.Check.{passed}
use Rattle.scope.specs.Numbers.{stream_of}
use Rattle.scope.specs.Nodes.{nodes_of}
use Rattle.scope.specs.Reading.{NodeTable}
use Rattle.scope.specs.Closing.{decode}
use Rattle.exactness.specs.Nodes.{layout}
use Rattle.exactness.specs.Programs.{IsProgram}
use Rattle.exactness.proofs.Decoding.{decoded_is_program, decoded_nodes}

abbrev program : List ℕ
program = 0x89 ∷ 0x20 ∷ []

abbrev table : List Node
table = unit ∷ injl 0 ∷ []

decodes : decode program 2 0 ≡ passed (layout table)
unfolding decode layout code_by log2_by low_bits
decodes = refl

nodes_again : nodes_of (stream_of program) (layout table).hashes (layout table).records ≡ table
unfolding nodes_of layout
nodes_again = refl

is_program : IsProgram program 2 0 table
is_program =
    let r = decoded_is_program program 2 0 (layout table) decodes in
    let nodes : (t : NodeTable) → List Node = λ t. nodes_of (stream_of program) t.hashes t.records in
    subst (IsProgram program 2 0) (sym (decoded_nodes program 2 0 r.0 r.1) ∙ ap nodes (sym r.2) ∙ nodes_again) r.1
