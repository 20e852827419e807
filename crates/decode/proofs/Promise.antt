-- What the promise of the public call tells a caller, answer by answer: a table that was decoded stands in the fronts of the stores, or why
-- there is none and the stores are zero.
use mathlib.Core.Path.{◌≡◌, refl, sym, ap, ◌∙◌}
use mathlib.Core.List.{List}
use Prim.Native.Nat.{ℕ, ◌*◌, ◌-◌, ◌/◌}
use lib.ListN.{length, take}
use lib.Seq.{take_at}
use Rattle.limits.specs.Limits.{node_numbers}
use Rattle.refusal.specs.declared.Refusal.{Refusal}
use Rattle.scope.specs.Check.{Check, passed, refused}
use Rattle.scope.specs.Numbers.{zeros, filled}
use Rattle.scope.specs.Nodes.{node_records, node_numbers_of}
use Rattle.scope.specs.Reading.{NodeTable}
use Rattle.scope.specs.Closing.{decode, nodes_left, hashes_left}
use Rattle.common.specs.Checks.{clash}
use Rattle.std.specs.Prelude.{Result, Ok, Err}
use Rattle.decode.specs.declared.Sizes.{Sizes}
use Rattle.decode.specs.Answers.{said_of}
use Rattle.decode.specs.Stores.{sizes_with, Left, left, table_sizes, left_by}
use Rattle.common.specs.Nodes.{records_back, length_numbers}

-- the front of a filled store is what it was filled with
filled_front : (numbers store : List ℕ) (n : ℕ) → length numbers ≡ n → take n (filled numbers store) ≡ numbers
unfolding filled
filled_front numbers store n e = take_at numbers (zeros (length store - length numbers)) n e

-- the call answers r and leaves these stores
module _ (program nodes hashes : List ℕ) (r : Result Sizes Refusal) (nodes' hashes' : List ℕ)
    (promise : left (said_of r) nodes' hashes' ≡ left_by (decode program (length nodes / node_numbers) (length hashes)) nodes hashes) where
  -- the requirements' answer
  abbrev pub wanted : Check NodeTable
  wanted = decode program (length nodes / node_numbers) (length hashes)

  -- a table that was decoded, and how it stands in the stores
  pub record Holds (t : NodeTable) : Type 0 where
    pub answer : said_of r ≡ passed (sizes_with (length t.records) (length t.hashes))
    pub nodes_left_lem : nodes' ≡ filled (node_numbers_of t.records) nodes
    pub hashes_left_lem : hashes' ≡ filled t.hashes hashes
    pub records_stand : node_records (take (node_numbers * length t.records) nodes') ≡ t.records
    pub bytes_stand : take (length t.hashes) hashes' ≡ t.hashes

  pub holds : (t : NodeTable) → wanted ≡ passed t → Holds t
  unfolding left_by table_sizes nodes_left hashes_left
  holds t d =
      let all : left (said_of r) nodes' hashes' ≡ left_by (passed t) nodes hashes = promise ∙ ap (λ (c : Check NodeTable). left_by c nodes hashes) d in
      let n : nodes' ≡ filled (node_numbers_of t.records) nodes = ap (λ (x : Left). x.nodes) all in
      let h : hashes' ≡ filled t.hashes hashes = ap (λ (x : Left). x.hashes) all in
      record {
        answer = ap (λ (x : Left). x.says) all;
        nodes_left_lem = n;
        hashes_left_lem = h;
        records_stand = ap node_records (ap (take (node_numbers * length t.records)) n
            ∙ filled_front (node_numbers_of t.records) nodes (node_numbers * length t.records) (length_numbers t.records)) ∙ records_back t.records;
        bytes_stand = ap (take (length t.hashes)) h ∙ filled_front t.hashes hashes (length t.hashes) refl;
      }

  -- what either answer tells
  pub table_told : (sizes : Sizes) → r ≡ Ok sizes → (t : NodeTable) × (wanted ≡ passed t) × Holds t
  unfolding left_by table_sizes
  table_told sizes e = go wanted refl (sym (ap said_of e) ∙ ap (λ (x : Left). x.says) promise)
    where
      go : (c : Check NodeTable) → wanted ≡ c → passed sizes ≡ table_sizes c → (t : NodeTable) × (wanted ≡ passed t) × Holds t
      go (passed t) d e = (t, d, holds t d)
      go (refused why) d e = clash (cc)

  pub refused_told : (why : Refusal) → r ≡ Err why → (wanted ≡ refused why) × (nodes' ≡ zeros (length nodes)) × (hashes' ≡ zeros (length hashes))
  unfolding left_by table_sizes nodes_left hashes_left
  refused_told why e = go wanted refl (sym (ap said_of e) ∙ ap (λ (x : Left). x.says) promise)
    where
      go : (c : Check NodeTable) → wanted ≡ c → refused why ≡ table_sizes c
          → (wanted ≡ refused why) × (nodes' ≡ zeros (length nodes)) × (hashes' ≡ zeros (length hashes))
      go (passed t) d e = clash (cc)
      go (refused other) d e =
          let all : left (said_of r) nodes' hashes' ≡ left_by (refused other) nodes hashes = promise ∙ ap (λ (c : Check NodeTable). left_by c nodes hashes) d in
          let same : other ≡ why = cc in
          (d ∙ ap (λ (w : Refusal). refused w) same, ap (λ (x : Left). x.nodes) all, ap (λ (x : Left). x.hashes) all)
