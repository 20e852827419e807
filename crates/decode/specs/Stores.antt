-- What reading, walk and closing leave in the lent stores, beside what they say.
-- While nodes are read the stores' filled fronts are the records and bytes that the requirements' reader has gathered.
use Rattle.std.specs.Prelude.{◌≡◌, Result, Ok, Err, List, ℕ, suc, ◌+◌, ◌*◌, ◌<◌, ◌≤◌, leb, length, take, set}
use Rattle.limits.specs.Limits.{dossier_bytes, node_count, node_numbers, fail_bytes}
use Rattle.refusal.specs.declared.Refusal.{Refusal}
use Rattle.refusal.specs.declared.Refusal.TheVariants.{Header, Closing}
use Rattle.report.specs.Bits.{Bit}
use Rattle.scope.specs.Check.{Check, passed, refused, ◌>>=◌, require}
use Rattle.scope.specs.Numbers.{stream_of}
use Rattle.scope.specs.Nodes.{NodeRecord, node_records, nodes_of}
use Rattle.scope.specs.Reading.{got, node_in, NodeTable, nodes_from, read_nodes}
use Rattle.scope.specs.Walk.{check_walk}
use Rattle.scope.specs.Closing.{closes, nodes_left, hashes_left}
use Rattle.bititer.specs.Answers.{placed}
use Rattle.table.specs.Answers.{record_of}
use Rattle.decode.specs.declared.NodeHead.{NodeHead}
use Rattle.decode.specs.declared.Progress.{Progress}
use Rattle.decode.specs.declared.Sizes.{Sizes}
use Rattle.decode.specs.Answers.{size_of}
use Rattle.decode.specs.Heads.{at_node}

-- a record put at its place
abbrev pub record_put : (nodes : List ℕ) → (i : ℕ) → NodeRecord → List ℕ
record_put nodes i r =
    let at = node_numbers * i in
    set (set (set (set nodes at r.kind) (at + 1) r.first) (at + 2) r.second) (at + 3) r.third

-- a node that was read into the hash store, or refused at node i
abbrev pub NodeMeans : (bits : List Bit) → (i held at : ℕ) → (store : List ℕ) → Result (NodeHead × ℕ) Refusal → (left : List ℕ) → Type 0
NodeMeans bits i held at store (Ok (h, next)) left =
    (bytes : List ℕ) × (node_in bits (length store) i held at ≡ got (record { node = record_of h.node; stored = bytes }) next)
    × (length bytes ≡ size_of h.follows) × (held + length bytes ≤ length store) × (left ≡ placed store held bytes)
NodeMeans bits i held at store (Err why) left = at_node i (node_in bits (length store) i held at) ≡ refused why

-- the stores are filled so far, and there is room for a record more
pub record Room (nodes hashes : List ℕ) (done : Progress) : Type 0 where
  pub few : done.nodes < node_count
  pub records : node_numbers * done.nodes + node_numbers ≤ length nodes
  pub bytes : done.hashes ≤ length hashes
  pub most : done.hashes ≤ fail_bytes * done.nodes

-- the table that the filled fronts of the stores are
abbrev pub table_in : (nodes hashes : List ℕ) → Progress → NodeTable
table_in nodes hashes done = record {
  records = node_records (take (node_numbers * done.nodes) nodes);
  hashes = take done.hashes hashes;
  end = done.at;
}

-- the table that two stores are as a whole
abbrev pub table_of : (nodes hashes : List ℕ) → Progress → NodeTable
table_of nodes hashes done = record { records = node_records nodes; hashes = hashes; end = done.at }

-- what k more nodes come to, after what the stores hold
abbrev pub more : (bits : List Bit) → (room k : ℕ) → (nodes hashes : List ℕ) → Progress → Check NodeTable
more bits room k nodes hashes done =
    nodes_from bits room k done.nodes (node_records (take (node_numbers * done.nodes) nodes)) (take done.hashes hashes) done.at

-- one node more: whatever follows comes to the same as before
abbrev pub StepMeans : (bits : List Bit) → (nodes hashes : List ℕ) → Progress → Result Progress Refusal → (nodes' hashes' : List ℕ) → Type 0
StepMeans bits nodes hashes done (Ok after) nodes' hashes' =
    (after.nodes ≡ done.nodes + 1) × (after.hashes ≤ length hashes) × (after.hashes ≤ fail_bytes * after.nodes)
    × ((k : ℕ) → more bits (length hashes) (suc k) nodes hashes done ≡ more bits (length hashes) k nodes' hashes' after)
StepMeans bits nodes hashes done (Err why) nodes' hashes' = (k : ℕ) → more bits (length hashes) (suc k) nodes hashes done ≡ refused why

-- all nodes that were wanted stand in the stores, or the reason is the wanted one
abbrev pub ReadMeans : (wanted : Check NodeTable) → Result Progress Refusal → (nodes hashes : List ℕ) → Type 0
ReadMeans wanted (Ok done) nodes hashes =
    (wanted ≡ passed (table_in nodes hashes done)) × (1 ≤ done.nodes) × (done.nodes ≤ node_count)
    × (node_numbers * done.nodes ≤ length nodes) × (done.hashes ≤ length hashes)
ReadMeans wanted (Err why) nodes hashes = wanted ≡ refused why

-- reading as a whole: 1, then the nodes
unfoldable pub read_all : (program : List ℕ) → (records bytes : ℕ) → Check NodeTable
unfolding ◌>>=◌ require stream_of read_nodes
read_all program records bytes = require (leb (length program) dossier_bytes) (Header 0) >>= λ fits. read_nodes (stream_of program) records bytes

-- walk and closing of a table
unfoldable pub judging : (program : List ℕ) → NodeTable → Check NodeTable
unfolding ◌>>=◌ require stream_of check_walk nodes_of closes
judging program t = do
  walked ← check_walk (nodes_of (stream_of program) t.hashes t.records)
  closed ← require (closes (stream_of program) t.end) (Closing (length t.records))
  passed t

-- sizes of a table: as they are told, as they were read
abbrev pub sizes_with : (nodes hashes : ℕ) → Sizes
sizes_with nodes hashes = record { nodes = nodes; hashes = hashes }

abbrev pub sizes_in : Progress → Sizes
sizes_in done = sizes_with done.nodes done.hashes

-- a table of these sizes passed, or the reason is that of walk and closing
abbrev pub JudgedMeans : (program : List ℕ) → NodeTable → Progress → Result Sizes Refusal → Type 0
JudgedMeans program t done (Ok sizes) = (judging program t ≡ passed t) × (sizes ≡ sizes_in done)
JudgedMeans program t done (Err why) = judging program t ≡ refused why

-- a table of these sizes stands in the stores, or the reason is the wanted one
abbrev pub DecodedMeans : (wanted : Check NodeTable) → Result Sizes Refusal → (nodes hashes : List ℕ) → Type 0
DecodedMeans wanted (Ok sizes) nodes hashes =
    (end : ℕ) × (wanted ≡ passed (table_in nodes hashes (record { nodes = sizes.nodes; hashes = sizes.hashes; at = end })))
    × (node_numbers * sizes.nodes ≤ length nodes) × (sizes.hashes ≤ length hashes)
DecodedMeans wanted (Err why) nodes hashes = wanted ≡ refused why

-- what decoding says, and the two stores as it leaves them
pub record Left : Type 0 where
  pub says : Check Sizes
  pub nodes : List ℕ
  pub hashes : List ℕ

-- both together
abbrev pub left : Check Sizes → (nodes hashes : List ℕ) → Left
left says nodes hashes = record { says = says; nodes = nodes; hashes = hashes }

-- the sizes of a table that was decoded
unfoldable pub table_sizes : Check NodeTable → Check Sizes
table_sizes (passed t) = passed (sizes_with (length t.records) (length t.hashes))
table_sizes (refused why) = refused why

-- what is left once decoding came to a table or a refusal, in stores that held these numbers
unfoldable pub left_by : Check NodeTable → (nodes hashes : List ℕ) → Left
unfolding table_sizes nodes_left hashes_left
left_by c nodes hashes = left (table_sizes c) (nodes_left c nodes) (hashes_left c hashes)
