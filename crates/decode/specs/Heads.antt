-- Reading a node in two steps, as the code does it: its head, with only the program lent, and then the bytes that follow it.
-- A head stands for what the requirements' reader of the whole node gives from there on.
use Rattle.std.specs.Prelude.{◌≡◌, Option, Some, None, Result, Ok, Err, ℕ, ◌+◌, ◌-◌, ◌^◌, ◌≤◌, leb, eqb, length, drop}
use Rattle.std.proofs.Math.Bool.{true, false}
use mathlib.Core.List.{List, []}
use Rattle.limits.specs.Limits.{node_count, hash_bytes, fail_bytes}
use Rattle.refusal.specs.declared.Refusal.{Refusal}
use Rattle.refusal.specs.declared.Refusal.TheVariants.{StoreShort}
use Rattle.report.specs.Bits.{Bit}
use Rattle.scope.specs.Check.{Check, passed, refused}
use Rattle.scope.specs.Naturals.{natural, read_natural}
use Rattle.scope.specs.Nodes.{NodeRecord}
use Rattle.scope.specs.Reading.{Got, got, fault, Reader, ◌>>=◌, give, Item, item, refusal_at, next, code, natural_up_to, child, octets}
use Rattle.table.specs.Answers.{record_of}
use Rattle.decode.specs.declared.Follows.{Follows}
use Rattle.decode.specs.declared.NodeHead.{NodeHead}

-- what a reader gives at node i, as a check: the result with the position after it, or the fault's refusal there
unfoldable pub at_node : {X : Type 0} → (i : ℕ) → Got X → Check (X × ℕ)
unfolding refusal_at
at_node i (got x next) = passed (x, next)
at_node i (fault e) = refused (refusal_at i e)

-- a natural that the table tells of, with the position after it
abbrev pub TableMeans : List Bit → (at : ℕ) → Option (ℕ × ℕ) → Type 0
TableMeans bits at (Some (n, next)) = (read_natural (drop at bits) ≡ natural n (drop next bits)) × (at ≤ next) × (next ≤ length bits)
TableMeans bits at None = Unit {0}

-- a head of these numbers
abbrev pub plain : (kind first second : ℕ) → Follows → NodeHead
plain kind first second follows = record { node = record { kind = kind; first = first; second = second; third = 0 }; follows = follows }

module _ (bits : List Bit) where
  -- the bytes that follow a head
  unfoldable pub bytes_after : Follows → Reader (List ℕ)
  unfolding give octets
  bytes_after Follows.Nothing = give []
  bytes_after Follows.Hash = octets bits hash_bytes
  bytes_after Follows.Fail = octets bits fail_bytes

  -- the whole node of a record, after the bytes that follow
  unfoldable pub followed : NodeRecord → Follows → Reader Item
  unfolding ◌>>=◌ give bytes_after
  followed node follows = do
    bytes ← bytes_after follows
    give (record { node = node; stored = bytes })

  -- what a head stands for at node i
  abbrev pub head_of : (i : ℕ) → Result (NodeHead × ℕ) Refusal → Check (Item × ℕ)
  head_of i (Ok (h, next)) = at_node i (followed (record_of h.node) h.follows next)
  head_of i (Err why) = refused why

  -- parts of the reader of a combinator, first two children
  unfoldable pub two_children : (kind i : ℕ) → Reader Item
  unfolding ◌>>=◌ child item
  two_children kind i = do
    left ← child bits i
    right ← child bits i
    item kind left right []

  -- one child
  unfoldable pub one_child : (kind i : ℕ) → Reader Item
  unfolding ◌>>=◌ child item
  one_child kind i = do
    only ← child bits i
    item kind only 0 []

  -- iden, unit, fail or a disconnect with one child, after the subcode
  unfoldable pub third : (i held sub : ℕ) → Reader Item
  unfolding ◌>>=◌ child octets item one_child
  third i held sub = elim (eqb sub 3) [
    | true ↦ one_child 11 i
    | false ↦ elim (eqb sub 2) [
      | true ↦ (do
        bytes ← octets bits fail_bytes
        item 10 held 0 bytes)
      | false ↦ item (8 + sub) 0 0 []
    ]
  ]

  -- witness or hidden
  unfoldable pub last : (held : ℕ) → Reader Item
  unfolding ◌>>=◌ code octets item
  last held = do
    sub ← code bits 1
    elim (eqb sub 1) [
      | true ↦ item 12 0 0 []
      | false ↦ (do
        bytes ← octets bits hash_bytes
        item 13 held 0 bytes)
    ]

  -- a word of n whose bits begin at a position
  unfoldable pub word_from : (n first : ℕ) → Got Item
  unfolding ◌>>=◌ next item
  word_from n first = (next bits (2 ^ (n - 1)) >>= λ bs. item 14 n first []) first

  -- the count of nodes, for which a store has room
  unfoldable pub count_in : (room : ℕ) → Check (ℕ × ℕ)
  unfolding natural_up_to refusal_at
  count_in room = elim (natural_up_to bits node_count 0) [
    | got n next ↦ elim (leb n room) [ true ↦ passed (n, next) | false ↦ refused (StoreShort 3) ]
    | fault e ↦ refused (refusal_at 0 e)
  ]
