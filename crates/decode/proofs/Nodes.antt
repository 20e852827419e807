-- A whole node: its head, and the bytes that follow it in the hash store. They were stored, or the stream ended in them, or the store has no room.
use mathlib.Core.Path.{◌≡◌, refl, sym, ap, ◌∙◌}
use mathlib.Core.Bool.{Bool, true, false}
use mathlib.Core.List.{List, [], ◌++◌}
use Prim.Native.Nat.{ℕ, ◌+◌, ◌*◌, ◌≤◌}
use native.Mathlib.Nat.{add-zero}
use native.Mathlib.Omega.{arith}
use lib.Dec.{leb}
use lib.ListN.{length, take, drop, take-append-drop}
use borrow.Author.Tests.{le-leb, leb-true}
use Rattle.limits.specs.Limits.{hash_bytes, fail_bytes}
use Rattle.refusal.specs.declared.Refusal.{Refusal}
use Rattle.report.specs.Bits.{Bit}
use Rattle.scope.specs.Check.{refused}
use Rattle.scope.specs.Nodes.{NodeRecord}
use Rattle.scope.specs.Reading.{Got, got, fault, Fault, hashes_short, refusal_at, Reader, give, stop, Item, node, node_in}
use Rattle.common.specs.Checks.{clash}
use Rattle.std.specs.Prelude.{Result, Ok, Err}
use Rattle.bititer.specs.Answers.{Stored, stored, placed, storing, bytes_fault, got_bytes}
use Rattle.bititer.specs.declared.BytesFault.{BytesFault}
use Rattle.bititer.proofs.Streams.{octets-got}
use Rattle.common.specs.Bits.{length_bytes}
use Rattle.table.specs.Answers.{record_of}
use Rattle.exactness.proofs.Stream.{then_reads}
use Rattle.decode.specs.declared.Follows.{Follows}
use Rattle.decode.specs.declared.NodeHead.{NodeHead}
use Rattle.decode.specs.Answers.{size_of}
use Rattle.decode.specs.Heads.{at_node, bytes_after, followed}
use Rattle.decode.specs.Stores.{NodeMeans}
use Rattle.decode.proofs.Heads.{at_got, stops_with, stops}

-- no bytes to store leave the store as it is
pub store_nothing : (bits : List Bit) (at : ℕ) (store : List ℕ) (held : ℕ) → held ≤ length store
    → stored (got tt at) store ≡ storing (bytes_after bits Follows.Nothing at) store held
unfolding storing bytes_after give
store_nothing bits at store held h =
    let e : leb (held + 0) (length store) ≡ true = le-leb (held + 0) (length store) (omega arith) in
    let p : placed store held [] ≡ store = ap (λ (k : ℕ). take held store ++ drop k store) (add-zero held) ∙ take-append-drop held store in
    sym (ap (λ (t : Bool). elim t [ true ↦ stored (got tt at) (placed store held []) | false ↦ stored (fault hashes_short) store ]) e
    ∙ ap (stored (got tt at)) p)

-- bytes that were stored were read, have room and stand there
pub stored_told : (g : Got (List ℕ)) (store : List ℕ) (at next : ℕ) (left : List ℕ) → stored (got tt next) left ≡ storing g store at
    → (bytes : List ℕ) × (g ≡ got bytes next) × (at + length bytes ≤ length store) × (left ≡ placed store at bytes)
unfolding storing
stored_told (got bytes n) store at next left e = go (leb (at + length bytes) (length store)) refl e
  where
    go : (t : Bool) → leb (at + length bytes) (length store) ≡ t
        → stored (got tt next) left ≡ elim t [ true ↦ stored (got tt n) (placed store at bytes) | false ↦ stored (fault hashes_short) store ]
        → (more : List ℕ) × (got bytes n ≡ got more next) × (at + length more ≤ length store) × (left ≡ placed store at more)
    go true h e =
        let c : got tt next ≡ got tt n = ap (λ (x : Stored). x.says) e in
        let m : n ≡ next = cc in
        (bytes, ap (got bytes) m, leb-true (at + length bytes) (length store) h, ap (λ (x : Stored). x.store) e)
    go false h e = let c : got tt next ≡ fault hashes_short = ap (λ (x : Stored). x.says) e in clash (cc)
stored_told (fault d) store at next left e = let c : got tt next ≡ fault d = ap (λ (x : Stored). x.says) e in clash (cc)

-- as many bytes as follow
follows_length : (bits : List Bit) (follows : Follows) (at : ℕ) (bytes : List ℕ) (n : ℕ) → bytes_after bits follows at ≡ got bytes n
    → length bytes ≡ size_of follows
unfolding bytes_after give
follows_length bits Follows.Nothing at bytes n e = let b : [] ≡ bytes = cc in sym (ap length b)
follows_length bits Follows.Hash at bytes n e =
    ap length (octets-got bits hash_bytes at bytes n e).2
    ∙ length_bytes hash_bytes (take (8 * hash_bytes) (drop at bits))
follows_length bits Follows.Fail at bytes n e =
    ap length (octets-got bits fail_bytes at bytes n e).2
    ∙ length_bytes fail_bytes (take (8 * fail_bytes) (drop at bits))

pub size_most : (follows : Follows) → size_of follows ≤ fail_bytes
size_most Follows.Nothing = omega arith
size_most Follows.Hash = omega arith
size_most Follows.Fail = omega arith

-- the test for room
abbrev fits : (room held : ℕ) → Item → Reader Item
fits room held x = elim (leb (held + length x.stored) room) [ true ↦ give x | false ↦ stop hashes_short ]

module _ (bits : List Bit) (i held at : ℕ) (store : List ℕ) where
  -- what stops a node stops it before the test for room
  pub head_stops : (why : Refusal) → refused why ≡ at_node i (node bits i held at) → at_node i (node_in bits (length store) i held at) ≡ refused why
  unfolding node_in
  head_stops why e = stops i (node bits i held) (fits (length store) held) at why (sym e)

  room_test : (x : Item) (n : ℕ) (t : Bool) → node bits i held at ≡ got x n → leb (held + length x.stored) (length store) ≡ t
      → node_in bits (length store) i held at ≡ elim t [ true ↦ got x n | false ↦ fault hashes_short ]
  unfolding node_in give stop
  room_test x n t e h =
      then_reads (node bits i held) (fits (length store) held) at x n e
      ∙ ap (λ (b : Bool). (elim b as (λ z. Reader Item) [ true ↦ give x | false ↦ stop hashes_short ]) n) h ∙ go t
    where
      go : (t : Bool) → (elim t as (λ z. Reader Item) [ true ↦ give x | false ↦ stop hashes_short ]) n ≡ elim t [ true ↦ got x n | false ↦ fault hashes_short ]
      go true = refl
      go false = refl

  module _ (r : NodeRecord) (follows : Follows) (middle : ℕ) (head : at_node i (followed bits r follows middle) ≡ at_node i (node bits i held at)) where
    node_read : (bytes : List ℕ) (n : ℕ) → bytes_after bits follows middle ≡ got bytes n → node bits i held at ≡ got (record { node = r; stored = bytes }) n
    unfolding followed give at_node
    node_read bytes n e =
        at_got i (node bits i held at) (record { node = r; stored = bytes }) n
        (sym head ∙ ap (at_node i) (then_reads (bytes_after bits follows) (λ bytes. give (record { node = r; stored = bytes })) middle bytes n e))

    -- the bytes were stored
    pub bytes_in : (next : ℕ) (left : List ℕ) → stored (got tt next) left ≡ storing (bytes_after bits follows middle) store held
        → (bytes : List ℕ) × (node_in bits (length store) i held at ≡ got (record { node = r; stored = bytes }) next)
        × (length bytes ≡ size_of follows) × (held + length bytes ≤ length store) × (left ≡ placed store held bytes)
    bytes_in next left e =
        let t = stored_told (bytes_after bits follows middle) store held next left e in (
          t.0,
          room_test (record { node = r; stored = t.0 }) next true (node_read t.0 next t.1) (le-leb (held + length t.0) (length store) t.2),
          follows_length bits follows middle t.0 next t.1,
          t.2,
          t.3,
        )

    -- the stream ended in them, or the store has no room
    pub bytes_out : (d : Fault) (left : List ℕ) → stored (fault d) left ≡ storing (bytes_after bits follows middle) store held
        → at_node i (node_in bits (length store) i held at) ≡ refused (refusal_at i d)
    unfolding storing at_node followed
    bytes_out d left e = go (bytes_after bits follows middle) refl e
      where
        short : (bytes : List ℕ) (n : ℕ) (t : Bool) → bytes_after bits follows middle ≡ got bytes n → leb (held + length bytes) (length store) ≡ t
            → stored (fault d) left ≡ elim t [ true ↦ stored (got tt n) (placed store held bytes) | false ↦ stored (fault hashes_short) store ]
            → at_node i (node_in bits (length store) i held at) ≡ refused (refusal_at i d)
        short bytes n true q h e = let c : ◌≡◌ {A = Got (Unit {0})} (fault d) (got tt n) = ap (λ (x : Stored). x.says) e in clash (cc)
        short bytes n false q h e =
            let c : ◌≡◌ {A = Got (Unit {0})} (fault d) (fault hashes_short) = ap (λ (x : Stored). x.says) e in
            let f : hashes_short ≡ d = cc in
            ap (at_node i) (room_test (record { node = r; stored = bytes }) n false (node_read bytes n q) h) ∙ ap (λ (f : Fault). refused (refusal_at i f)) f

        go : (g : Got (List ℕ)) → bytes_after bits follows middle ≡ g → stored (fault d) left ≡ storing g store held
            → at_node i (node_in bits (length store) i held at) ≡ refused (refusal_at i d)
        go (got bytes n) q e = short bytes n (leb (held + length bytes) (length store)) q refl e
        go (fault f) q e =
            let c : ◌≡◌ {A = Got (Unit {0})} (fault d) (fault f) = ap (λ (x : Stored). x.says) e in
            let s : d ≡ f = cc in
            head_stops (refusal_at i d)
            (ap (λ (f : Fault). refused (refusal_at i f)) s
            ∙ sym (ap (at_node i) (stops_with (bytes_after bits follows) (λ bytes. give (record { node = r; stored = bytes })) middle f q)) ∙ head)

  -- what the code's answers of head and bytes come to
  module _ (h : NodeHead) (middle : ℕ) (head : at_node i (followed bits (record_of h.node) h.follows middle) ≡ at_node i (node bits i held at))
      (left : List ℕ) (w : ℕ) (same : w ≡ held) where
    says : (b : Result ℕ BytesFault) → stored (got_bytes b) left ≡ storing (bytes_after bits h.follows middle) store w
        → stored (got_bytes b) left ≡ storing (bytes_after bits h.follows middle) store held
    says b e = e ∙ ap (storing (bytes_after bits h.follows middle) store) same

    pub node_in_lem : (next : ℕ) → stored (got tt next) left ≡ storing (bytes_after bits h.follows middle) store w
        → NodeMeans bits i held at store (Ok (h, next)) left
    node_in_lem next e = bytes_in (record_of h.node) h.follows middle head next left (says (Ok next) e)

    pub node_out : (f : BytesFault) (why : Refusal) → stored (fault (bytes_fault f)) left ≡ storing (bytes_after bits h.follows middle) store w
        → why ≡ refusal_at i (bytes_fault f) → NodeMeans bits i held at store (Err why) left
    node_out f why e r =
        bytes_out (record_of h.node) h.follows middle head (bytes_fault f) left (says (Err f) e) ∙ sym (ap (λ (r : Refusal). refused r) r)
