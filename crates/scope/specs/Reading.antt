-- Reading the nodes of a program: the stream ended (3), a natural over its bound (4) or with a length too long (21), a jet (5),
-- the node store too short right after the count (17 at 3), the hash store once a hidden or fail node is read (17 at 4).
use Rattle.std.specs.Prelude.{leb, eqb, take, drop}
use Rattle.std.proofs.Math.Bool.{true, false}
use mathlib.Core.List.{List, [], ◌∷◌, ◌++◌}
use Prim.Native.Nat.{ℕ, zero, suc, ◌+◌, ◌-◌, ◌*◌, ◌^◌}
use Rattle.std.proofs.Math.ListN.{length}
use Rattle.limits.specs.Limits.{node_count, word_most, hash_bytes, fail_bytes}
use Rattle.refusal.specs.declared.Refusal.{Refusal}
use Rattle.refusal.specs.declared.Refusal.TheVariants.{StreamEnded, Natural as BadNatural, Overlong, Jet, StoreShort}
use Rattle.report.specs.Bits.{Bit, number_from, bytes_of}
use Rattle.scope.specs.Check.{Check, passed, refused}
use Rattle.scope.specs.Naturals.{Natural, natural, ended, too_long, read_natural}
use Rattle.scope.specs.Nodes.{Kind, k_comp, k_case, k_pair, k_disconnect, k_injl, k_injr, k_take, k_drop, k_iden, k_unit, k_fail, k_disconnect1, k_witness, k_hidden, k_word, kind_number, NodeRecord}

-- THE CODES: the bits that a node begins with, and its kind. Children, a word's number and bits, and stored bytes follow.
abbrev pub codes : List (List Bit × Kind)
codes =
    (0 ∷ 0 ∷ 0 ∷ 0 ∷ 0 ∷ [], k_comp) ∷ (0 ∷ 0 ∷ 0 ∷ 0 ∷ 1 ∷ [], k_case) ∷ (0 ∷ 0 ∷ 0 ∷ 1 ∷ 0 ∷ [], k_pair) ∷ (0 ∷ 0 ∷ 0 ∷ 1 ∷ 1 ∷ [], k_disconnect)
    ∷ (0 ∷ 0 ∷ 1 ∷ 0 ∷ 0 ∷ [], k_injl) ∷ (0 ∷ 0 ∷ 1 ∷ 0 ∷ 1 ∷ [], k_injr) ∷ (0 ∷ 0 ∷ 1 ∷ 1 ∷ 0 ∷ [], k_take) ∷ (0 ∷ 0 ∷ 1 ∷ 1 ∷ 1 ∷ [], k_drop)
    ∷ (0 ∷ 1 ∷ 0 ∷ 0 ∷ 0 ∷ [], k_iden) ∷ (0 ∷ 1 ∷ 0 ∷ 0 ∷ 1 ∷ [], k_unit) ∷ (0 ∷ 1 ∷ 0 ∷ 1 ∷ 0 ∷ [], k_fail) ∷ (0 ∷ 1 ∷ 0 ∷ 1 ∷ 1 ∷ [], k_disconnect1)
    ∷ (0 ∷ 1 ∷ 1 ∷ 0 ∷ [], k_hidden) ∷ (0 ∷ 1 ∷ 1 ∷ 1 ∷ [], k_witness) ∷ (1 ∷ 0 ∷ [], k_word) ∷ []

-- what can be wrong at a node
pub data Fault : Type 0 where
  stream_ended length_too_long over_bound a_jet hashes_short : Fault

-- a fault's refusal at node i
unfoldable pub refusal_at : (i : ℕ) → Fault → Refusal
refusal_at i stream_ended = StreamEnded i
refusal_at i length_too_long = Overlong i
refusal_at i over_bound = BadNatural i
refusal_at i a_jet = Jet i
refusal_at i hashes_short = StoreShort 4

-- a reader starts at a bit position, and gives a result and the position after it, or a fault
pub data Got (X : Type 0) : Type 0 where
  got : X → (next : ℕ) → Got X
  fault : Fault → Got X

abbrev pub Reader : Type 0 → Type 0
Reader X = (at : ℕ) → Got X

infixl 40 ◌>>=◌
unfoldable pub ◌>>=◌ : {X Y : Type 0} → Reader X → (X → Reader Y) → Reader Y
◌>>=◌ m f at = elim (m at) [ got x next ↦ f x next | fault e ↦ fault e ]

unfoldable pub give : {X : Type 0} → X → Reader X
give x at = got x at

unfoldable pub stop : {X : Type 0} → Fault → Reader X
stop e at = fault e

unfoldable pub here : Reader ℕ
here at = got at at

-- a node's record, and what the node puts into the hash store
pub record Item : Type 0 where
  pub node : NodeRecord
  pub stored : List ℕ

unfoldable pub item : (kind first second : ℕ) → List ℕ → Reader Item
unfolding give
item kind first second stored = give (record { node = record { kind = kind; first = first; second = second; third = 0 }; stored = stored })

module _ (bits : List Bit) where
  -- the next k bits
  unfoldable pub next : (k : ℕ) → Reader (List Bit)
  next k at = elim (leb (at + k) (length bits)) [ true ↦ got (take k (drop at bits)) (at + k) | false ↦ fault stream_ended ]

  -- the next k bits as a number
  unfoldable pub code : (k : ℕ) → Reader ℕ
  unfolding next number_from ◌>>=◌ give
  code k = do
    bs ← next k
    give (number_from 0 bs)

  -- how many bits were taken of a list, of which these are left
  abbrev pub taken : (all rest : List Bit) → ℕ
  taken all rest = length all - length rest

  -- what a natural that was read from the bits l at a position answers, with its bound
  unfoldable pub bounded : (most at : ℕ) → (l : List Bit) → Natural → Got ℕ
  bounded most at l (natural n rest) = elim (leb n most) [ true ↦ got n (at + taken l rest) | false ↦ fault over_bound ]
  bounded most at l ended = fault stream_ended
  bounded most at l too_long = fault length_too_long

  -- a natural of at most `most`
  unfoldable pub natural_up_to : (most : ℕ) → Reader ℕ
  unfolding bounded read_natural
  natural_up_to most at = bounded most at (drop at bits) (read_natural (drop at bits))

  -- a child of node i, told by its distance, 1 to i
  unfoldable pub child : (i : ℕ) → Reader ℕ
  unfolding natural_up_to ◌>>=◌ give
  child i = do
    distance ← natural_up_to i
    give (i - distance)

  -- k whole bytes
  unfoldable pub octets : (k : ℕ) → Reader (List ℕ)
  unfolding next bytes_of ◌>>=◌ give
  octets k = do
    bs ← next (8 * k)
    give (bytes_of k bs)

  -- a combinator after its `0` and its two-bit code, at node i with `held` bytes in the hash store;
  -- the kinds of a code follow one another, those of code 0 from comp on, whose number is 0
  unfoldable pub combinator : (i held code : ℕ) → Reader Item
  unfolding code child octets item ◌>>=◌
  combinator i held zero = do
    sub ← code 2
    left ← child i
    right ← child i
    item sub left right []
  combinator i held (suc zero) = do
    sub ← code 2
    only ← child i
    item (kind_number k_injl + sub) only 0 []
  combinator i held (suc (suc zero)) = do
    sub ← code 2
    elim (eqb sub 3) [
      | true ↦ (do
        only ← child i
        item (kind_number k_disconnect1) only 0 [])
      | false ↦ elim (eqb sub 2) [
        | true ↦ (do
          bytes ← octets fail_bytes
          item (kind_number k_fail) held 0 bytes)
        | false ↦ item (kind_number k_iden + sub) 0 0 []
      ]
    ]
  combinator i held (suc (suc (suc k))) = do
    sub ← code 1
    elim (eqb sub 1) [
      | true ↦ item (kind_number k_witness) 0 0 []
      | false ↦ (do
        bytes ← octets hash_bytes
        item (kind_number k_hidden) held 0 bytes)
    ]

  -- a word after its `10`: n, then 2^(n - 1) bits
  unfoldable pub word_item : Reader Item
  unfolding natural_up_to next here item ◌>>=◌
  word_item = do
    n ← natural_up_to word_most
    first ← here
    bs ← next (2 ^ (n - 1))
    item (kind_number k_word) n first []

  -- node i, where the hash store holds `held` bytes
  unfoldable pub node : (i held : ℕ) → Reader Item
  unfolding code combinator word_item stop ◌>>=◌
  node i held = do
    other ← code 1
    elim (eqb other 0) [
      | true ↦ (do
        two ← code 2
        combinator i held two)
      | false ↦ (do
        jet ← code 1
        elim (eqb jet 1) [ true ↦ stop a_jet | false ↦ word_item ])
    ]

  -- the same, with room for so many bytes in the hash store
  unfoldable pub node_in : (room i held : ℕ) → Reader Item
  unfolding node stop give ◌>>=◌
  node_in room i held = do
    x ← node i held
    elim (leb (held + length x.stored) room) [ true ↦ give x | false ↦ stop hashes_short ]

-- the records that were read, the bytes of the hash store, and the position after the last node
pub record NodeTable : Type 0 where
  pub records : List NodeRecord
  pub hashes : List ℕ
  pub end : ℕ

-- k nodes from node i on
unfoldable pub nodes_from : (bits : List Bit) → (room k i : ℕ) → List NodeRecord → List ℕ → (at : ℕ) → Check NodeTable
unfolding node_in refusal_at
nodes_from bits room zero i records hashes at = passed (record { records = records; hashes = hashes; end = at })
nodes_from bits room (suc k) i records hashes at = elim (node_in bits room i (length hashes) at) [
  | got x next ↦ nodes_from bits room k (suc i) (records ++ x.node ∷ []) (hashes ++ x.stored) next
  | fault e ↦ refused (refusal_at i e)
]

-- all nodes, into a node store for `records` records and a hash store of `bytes` bytes
unfoldable pub read_nodes : (bits : List Bit) → (records bytes : ℕ) → Check NodeTable
unfolding natural_up_to nodes_from refusal_at
read_nodes bits records bytes = elim (natural_up_to bits node_count 0) [
  | got n next ↦ elim (leb n records) [ true ↦ nodes_from bits bytes n 0 [] [] next | false ↦ refused (StoreShort 3) ]
  | fault e ↦ refused (refusal_at 0 e)
]
