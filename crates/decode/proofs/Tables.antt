-- Decoding as a whole: a node more in the stores, all nodes after the count, walk and closing, and what is left in the stores.
use mathlib.Core.Path.{◌≡◌, refl, sym, ap, ap₂, ◌∙◌, subst}
use mathlib.Core.Bool.{Bool, true, false}
use mathlib.Core.List.{List, [], ◌∷◌, ◌++◌, append_assoc}
use Prim.Native.Nat.{ℕ, suc, ◌+◌, ◌*◌, ◌-◌, ◌/◌, ◌<◌, ◌≤◌}
use native.Mathlib.Omega.{arith}
use lib.Dec.{leb}
use lib.ListN.{length, take, drop, length-append}
use lib.Seq.{take_at, length-take-le}
use borrow.Author.Tests.{le-leb, lt-leb, leb-true}
use Rattle.limits.specs.Limits.{dossier_bytes, node_count, node_numbers, fail_bytes}
use Rattle.refusal.specs.declared.Refusal.{Refusal}
use Rattle.refusal.specs.declared.Refusal.TheVariants.{Header, Closing, StoreShort}
use Rattle.report.specs.Bits.{Bit}
use Rattle.scope.specs.Check.{Check, passed, refused, ◌>>=◌, require}
use Rattle.scope.specs.Numbers.{zeros, filled, stream_of, tabulate_from, tabulate}
use Rattle.scope.specs.Nodes.{NodeRecord, node_records, node_numbers_of, nodes_of}
use Rattle.scope.specs.Reading.{Got, got, fault, refusal_at, Item, natural_up_to, node_in, NodeTable, nodes_from, read_nodes}
use Rattle.scope.specs.Walk.{check_walk}
use Rattle.scope.specs.Closing.{closes, decode, nodes_left, hashes_left}
use Rattle.std.specs.Prelude.{Result, Ok, Err}
use Rattle.std.specs.Result.{result_unwrap_or}
use Rattle.common.specs.Checks.{clash, counted_fine, then_then, then_refuses, then_passes}
use Rattle.bititer.specs.Answers.{placed}
use Rattle.bititer.proofs.Naturals.{up_to_got}
use Rattle.table.specs.Answers.{record_of}
use Rattle.table.specs.Stage.{counted_walk}
use Rattle.common.specs.Nodes.{length_records, numbers_back}
use Rattle.table.proofs.Stages.{walk_then}
use Rattle.table.proofs.AnyBits.{walk_any_bits}
use Rattle.decode.specs.declared.NodeHead.{NodeHead}
use Rattle.decode.specs.declared.Progress.{Progress}
use Rattle.decode.specs.declared.Sizes.{Sizes}
use Rattle.decode.specs.Answers.{size_of, said_of}
use Rattle.decode.specs.Heads.{at_node, count_in}
use Rattle.common.specs.Stores.{cleared, all_cleared}
use Rattle.decode.specs.Stores.{record_put, NodeMeans, Room, table_in, table_of, more, StepMeans, read_all, judging, ReadMeans, JudgedMeans, DecodedMeans, sizes_with, left, table_sizes, left_by}
use Rattle.decode.proofs.Records.{put_records}

-- the front of a store after bytes were put behind it
front_bytes : (store bytes : List ℕ) (at n : ℕ) → n ≡ at + length bytes → n ≤ length store → take n (placed store at bytes) ≡ take at store ++ bytes
front_bytes store bytes at n e h =
    ap (take n) (sym (append_assoc (take at store) bytes (drop (at + length bytes) store)))
    ∙ take_at (take at store ++ bytes) (drop (at + length bytes) store) n
    (length-append (take at store) bytes ∙ (omega (arith, length-take-le at store (let l : at ≤ length store = omega arith in l))))

module _ (bits : List Bit) (room : ℕ) where
  -- a node that was read goes to the end of what was gathered
  from_node_lem : (k i held : ℕ) (rs : List NodeRecord) (hs : List ℕ) (at : ℕ) (x : Item) (n : ℕ) → length hs ≡ held → node_in bits room i held at ≡ got x n
      → nodes_from bits room (suc k) i rs hs at ≡ nodes_from bits room k (suc i) (rs ++ x.node ∷ []) (hs ++ x.stored) n
  unfolding nodes_from
  from_node_lem k i held rs hs at x n h e =
      let there : node_in bits room i (length hs) at ≡ got x n = ap (λ (m : ℕ). node_in bits room i m at) h ∙ e in
      rw (there, nodes_from)

  from_same : (k i j : ℕ) (rs ss : List NodeRecord) (hs gs : List ℕ) (at bt : ℕ) → i ≡ j → rs ≡ ss → hs ≡ gs → at ≡ bt
      → nodes_from bits room k i rs hs at ≡ nodes_from bits room k j ss gs bt
  from_same k i j rs ss hs gs at bt p q r s =
      ap₂ (λ (x : ℕ) (y : List NodeRecord). nodes_from bits room k x y hs at) p q ∙ ap₂ (λ (x : List ℕ) (y : ℕ). nodes_from bits room k j ss x y) r s

  from_refused : (k i held : ℕ) (rs : List NodeRecord) (hs : List ℕ) (at : ℕ) (why : Refusal) → length hs ≡ held
      → at_node i (node_in bits room i held at) ≡ refused why
      → nodes_from bits room (suc k) i rs hs at ≡ refused why
  unfolding nodes_from at_node
  from_refused k i held rs hs at why h e = go (node_in bits room i (length hs) at) (ap (λ (m : ℕ). at_node i (node_in bits room i m at)) h ∙ e)
    where
      go : (g : Got Item) → at_node i g ≡ refused why
          → ◌≡◌ {A = Check NodeTable} (elim g [
            | got x n ↦ nodes_from bits room k (suc i) (rs ++ x.node ∷ []) (hs ++ x.stored) n
            | fault d ↦ refused (refusal_at i d)
          ]) (refused why)
      go (got x n) e = clash (cc)
      go (fault d) e = (let r : refusal_at i d ≡ why = cc in ap (λ (r : Refusal). refused r) r)

-- one node more in the stores, or why there is none
module _ (bits : List Bit) (nodes hashes : List ℕ) (done : Progress) (room : Room nodes hashes done) where
  held_length : length (take done.hashes hashes) ≡ done.hashes
  held_length = length-take-le done.hashes hashes room.bytes

  pub step_refused : (why : Refusal) → at_node done.nodes (node_in bits (length hashes) done.nodes done.hashes done.at) ≡ refused why
      → (k : ℕ) → more bits (length hashes) (suc k) nodes hashes done ≡ refused why
  step_refused why e k =
      from_refused bits (length hashes) k done.nodes done.hashes (node_records (take (node_numbers * done.nodes) nodes))
      (take done.hashes hashes) done.at why held_length e

  pub step_read : (h : NodeHead) (next : ℕ) (nodes' hashes' : List ℕ)
      → NodeMeans bits done.nodes done.hashes done.at hashes (Ok (h, next)) hashes'
      → nodes' ≡ record_put nodes done.nodes (record_of h.node) → (size : ℕ) → size ≡ size_of h.follows → size ≤ fail_bytes
      → StepMeans bits nodes hashes done (Ok (record { nodes = done.nodes + 1; hashes = done.hashes + size; at = next })) nodes' hashes'
  step_read h next nodes' hashes' m p size s l =
      let b : size ≡ length m.0 = s ∙ sym m.2 in
      let fits = m.3 in
      let most = room.most in (
        refl,
        omega arith,
        omega arith,
        (λ k. from_node_lem bits (length hashes) k done.nodes done.hashes (node_records (take (node_numbers * done.nodes) nodes))
            (take done.hashes hashes) done.at
            (record { node = record_of h.node; stored = m.0 }) next held_length m.1
            ∙ from_same bits (length hashes) k (suc done.nodes) (done.nodes + 1) _ _ _ _ next next
            (let e : suc done.nodes ≡ done.nodes + 1 = omega arith in e)
            (sym (ap (λ (l : List ℕ). node_records (take (node_numbers * (done.nodes + 1)) l)) p
            ∙ put_records nodes done.nodes (record_of h.node) room.records))
            (sym (ap (take (done.hashes + size)) m.4
            ∙ front_bytes hashes m.0 done.hashes (done.hashes + size) (ap (λ (k : ℕ). done.hashes + k) b) (omega arith)))
            refl),
      )

-- before the first node nothing is gathered, and after the last the stores hold the table
pub begun_more : (bits : List Bit) (room count : ℕ) (nodes hashes : List ℕ) (first : ℕ)
    → nodes_from bits room count 0 [] [] first ≡ more bits room (count - 0) nodes hashes (record { nodes = 0; hashes = 0; at = first })
unfolding node_records tabulate tabulate_from
begun_more bits room count nodes hashes first = ap (λ (k : ℕ). nodes_from bits room k 0 [] [] first) (let e : count ≡ count - 0 = omega arith in e)

pub ended_more : (bits : List Bit) (room k : ℕ) (nodes hashes : List ℕ) (done : Progress) → k ≡ 0
    → more bits room k nodes hashes done ≡ passed (table_in nodes hashes done)
unfolding nodes_from
ended_more bits room k nodes hashes done e = ap (λ (k : ℕ). more bits room k nodes hashes done) e

-- a turn of the loop over the nodes: it stops, or goes on with one node less to read
module _ (bits : List Bit) (wanted : Check NodeTable) (room count : ℕ) (nodes hashes : List ℕ) (done : Progress)
    (so_far : wanted ≡ more bits room (count - done.nodes) nodes hashes done) (left : done.nodes < count) (same : length hashes ≡ room)
    (nodes' hashes' : List ℕ) where
  one_less : wanted ≡ more bits (length hashes) (suc (count - (done.nodes + 1))) nodes hashes done
  one_less =
      so_far ∙ ap₂ (λ (k m : ℕ). more bits k m nodes hashes done) (sym same) (let e : count - done.nodes ≡ suc (count - (done.nodes + 1)) = omega arith in e)

  pub turn_stops : (why : Refusal) → StepMeans bits nodes hashes done (Err why) nodes' hashes' → wanted ≡ refused why
  turn_stops why step = one_less ∙ step (count - (done.nodes + 1))

  pub turn_goes : (after : Progress) → StepMeans bits nodes hashes done (Ok after) nodes' hashes'
      → wanted ≡ more bits room (count - after.nodes) nodes' hashes' after
  turn_goes after step = one_less ∙ step.3 (count - (done.nodes + 1)) ∙ ap₂ (λ (k m : ℕ). more bits k (count - m) nodes' hashes' after) same (sym step.0)

-- the two numbers of a check that passed
abbrev number_in : ℕ → Check (ℕ × ℕ) → ℕ
number_in other c = elim c [ passed p ↦ p.0 | refused r ↦ other ]

abbrev next_in : ℕ → Check (ℕ × ℕ) → ℕ
next_in other c = elim c [ passed p ↦ p.1 | refused r ↦ other ]

-- the count: refused, without room in the store, or read
module _ (bits : List Bit) (room : ℕ) where
  abbrev counting : Got ℕ → Check (ℕ × ℕ)
  counting g = elim g [ got n next ↦ elim (leb n room) [ true ↦ passed (n, next) | false ↦ refused (StoreShort 3) ] | fault e ↦ refused (refusal_at 0 e) ]

  abbrev reading : (bytes : ℕ) → Got ℕ → Check NodeTable
  reading bytes g =
      elim g [
        | got n next ↦ elim (leb n room) [ true ↦ nodes_from bits bytes n 0 [] [] next | false ↦ refused (StoreShort 3) ]
        | fault e ↦ refused (refusal_at 0 e)
      ]

  pub count_stops : (why : Refusal) → at_node 0 (natural_up_to bits node_count 0) ≡ refused why → refused why ≡ count_in bits room
  unfolding count_in at_node
  count_stops why e = sym (go (natural_up_to bits node_count 0) e)
    where
      go : (g : Got ℕ) → at_node 0 g ≡ refused why → counting g ≡ refused why
      go (got n next) e = clash (cc)
      go (fault d) e = e

  pub count_short : (n next : ℕ) → natural_up_to bits node_count 0 ≡ got n next → room < n → refused (StoreShort 3) ≡ count_in bits room
  unfolding count_in
  count_short n next e h = sym (rw (e, lt-leb n room h, count_in))

  pub count_read : (n next : ℕ) → natural_up_to bits node_count 0 ≡ got n next → n ≤ room → passed (n, next) ≡ count_in bits room
  unfolding count_in
  count_read n next e h = sym (rw (e, le-leb n room h, count_in))

  -- what a count tells of reading the nodes
  refused_told : (bytes : ℕ) (why : Refusal) → count_in bits room ≡ refused why → read_nodes bits room bytes ≡ refused why
  unfolding count_in read_nodes
  refused_told bytes why e = go (natural_up_to bits node_count 0) e
    where
      tested : (n next : ℕ) (t : Bool) → ◌≡◌ {A = Check (ℕ × ℕ)} (elim t [ true ↦ passed (n, next) | false ↦ refused (StoreShort 3) ]) (refused why)
          → ◌≡◌ {A = Check NodeTable} (elim t [ true ↦ nodes_from bits bytes n 0 [] [] next | false ↦ refused (StoreShort 3) ]) (refused why)
      tested n next true e = clash (cc)
      tested n next false e = (let r : StoreShort 3 ≡ why = cc in ap (λ (r : Refusal). refused r) r)

      go : (g : Got ℕ) → counting g ≡ refused why → reading bytes g ≡ refused why
      go (got n next) e = tested n next (leb n room) e
      go (fault d) e = (let r : refusal_at 0 d ≡ why = cc in ap (λ (r : Refusal). refused r) r)

  -- a count that was read, and its natural
  pub count_told : (n next : ℕ) → count_in bits room ≡ passed (n, next) → (natural_up_to bits node_count 0 ≡ got n next) × (leb n room ≡ true)
  unfolding count_in
  count_told n next e = go (natural_up_to bits node_count 0) e
    where
      tested : (m p : ℕ) (t : Bool) → leb m room ≡ t
          → ◌≡◌ {A = Check (ℕ × ℕ)} (elim t [ true ↦ passed (m, p) | false ↦ refused (StoreShort 3) ]) (passed (n, next))
          → (got m p ≡ got n next) × (leb n room ≡ true)
      tested m p true h e = (ap₂ got (ap (number_in m) e) (ap (next_in p) e), ap (λ (k : ℕ). leb k room) (sym (ap (number_in m) e)) ∙ h)
      tested m p false h e = clash (cc)

      go : (g : Got ℕ) → counting g ≡ passed (n, next) → (g ≡ got n next) × (leb n room ≡ true)
      go (got m p) e = tested m p (leb m room) refl e
      go (fault d) e = clash (cc)

  pub count_bounds : (n next : ℕ) → count_in bits room ≡ passed (n, next) → (1 ≤ n) × (n ≤ node_count) × (n ≤ room)
  count_bounds n next e =
      let t = count_told n next e in
      let g = up_to_got bits node_count 0 n next t.0 in
      (g.0, g.1, leb-true n room t.1)

  read_told : (bytes n next : ℕ) → count_in bits room ≡ passed (n, next) → read_nodes bits room bytes ≡ nodes_from bits bytes n 0 [] [] next
  unfolding read_nodes
  read_told bytes n next e = let t = count_told n next e in rw (t.0, t.1, read_nodes)

-- reading as a whole: too long, a count refused, or the nodes after it
module _ (program : List ℕ) (room bytes : ℕ) where
  pub too_long_lem : dossier_bytes < length program → read_all program room bytes ≡ refused (Header 0)
  unfolding read_all require ◌>>=◌
  too_long_lem h = rw (lt-leb (length program) dossier_bytes h, read_all)

  within : length program ≤ dossier_bytes → read_all program room bytes ≡ read_nodes (stream_of program) room bytes
  unfolding read_all require ◌>>=◌
  within h = rw (le-leb (length program) dossier_bytes h, read_all)

  pub count_refused : (why : Refusal) → length program ≤ dossier_bytes → count_in (stream_of program) room ≡ refused why → read_all program room bytes ≡ refused why
  count_refused why h e = within h ∙ refused_told (stream_of program) room bytes why e

  pub count_passed : (n next : ℕ) → length program ≤ dossier_bytes → count_in (stream_of program) room ≡ passed (n, next)
      → read_all program room bytes ≡ nodes_from (stream_of program) bytes n 0 [] [] next
  count_passed n next h e = within h ∙ read_told (stream_of program) room bytes n next e

  -- decoding is reading, and then walk and closing
  decode_by : decode program room bytes ≡ (read_all program room bytes >>= judging program)
  unfolding decode read_all judging
  decode_by = sym (then_then (require (leb (length program) dossier_bytes) (Header 0)) (λ fits. read_nodes (stream_of program) room bytes) (judging program))

  pub decode_stops : (why : Refusal) → read_all program room bytes ≡ refused why → decode program room bytes ≡ refused why
  decode_stops why e = decode_by ∙ then_refuses (read_all program room bytes) (judging program) why e

  pub decode_judges : (t : NodeTable) → read_all program room bytes ≡ passed t → decode program room bytes ≡ judging program t
  decode_judges t e = decode_by ∙ then_passes (read_all program room bytes) (judging program) t e

-- reading as a whole is what is wanted where reading the nodes is
pub read_means : (wanted other : Check NodeTable) (r : Result Progress Refusal) (nodes hashes : List ℕ) → wanted ≡ other → ReadMeans other r nodes hashes
    → ReadMeans wanted r nodes hashes
read_means wanted other r nodes hashes e m = subst (λ (w : Check NodeTable). ReadMeans w r nodes hashes) (sym e) m

-- walk and closing of a table of n nodes
module _ (program nodes hashes : List ℕ) (n at : ℕ) (whole : length nodes ≡ node_numbers * n) (some : 1 ≤ n) (few : n ≤ node_count) where
  abbrev table : NodeTable
  table = record { records = node_records nodes; hashes = hashes; end = at }

  count_is : length (node_records nodes) ≡ n
  count_is = length_records nodes ∙ (omega arith)

  walk_is : counted_walk hashes nodes ≡ check_walk (nodes_of (stream_of program) hashes (node_records nodes))
  walk_is =
      walk_then hashes nodes (counted_fine (length (node_records nodes)) node_count (omega (arith, count_is)) (omega (arith, count_is)))
      ∙ sym (walk_any_bits (stream_of program) hashes (node_records nodes))

  abbrev closing : Unit {0} → Check NodeTable
  closing walked = require (closes (stream_of program) at) (Closing (length (node_records nodes))) >>= λ closed. passed table

  pub walk_refuses : (why : Refusal) → refused why ≡ counted_walk hashes nodes → judging program table ≡ refused why
  unfolding judging
  walk_refuses why e = then_refuses (check_walk (nodes_of (stream_of program) hashes (node_records nodes))) closing why (sym walk_is ∙ sym e)

  after_walk : passed tt ≡ counted_walk hashes nodes → judging program table ≡ closing tt
  unfolding judging
  after_walk e = then_passes (check_walk (nodes_of (stream_of program) hashes (node_records nodes))) closing tt (sym walk_is ∙ sym e)

  -- the closing as it is told of n nodes
  closing_is : (c : Check (Unit {0})) → c ≡ require (closes (stream_of program) at) (Closing n)
      → require (closes (stream_of program) at) (Closing (length (node_records nodes))) ≡ c
  closing_is c e = ap (λ (k : ℕ). require (closes (stream_of program) at) (Closing k)) count_is ∙ sym e

  pub closing_refuses : (why : Refusal) → passed tt ≡ counted_walk hashes nodes → refused why ≡ require (closes (stream_of program) at) (Closing n)
      → judging program table ≡ refused why
  closing_refuses why e f =
      after_walk e
      ∙ then_refuses (require (closes (stream_of program) at) (Closing (length (node_records nodes)))) (λ closed. passed table) why (closing_is (refused why) f)

  pub all_passed : passed tt ≡ counted_walk hashes nodes → passed tt ≡ require (closes (stream_of program) at) (Closing n)
      → judging program table ≡ passed table
  all_passed e f =
      after_walk e
      ∙ then_passes (require (closes (stream_of program) at) (Closing (length (node_records nodes)))) (λ closed. passed table) tt (closing_is (passed tt) f)

-- what walk and closing say of the table in the stores is what decoding says
pub judged_means : (program : List ℕ) (room bytes : ℕ) (nodes hashes : List ℕ) (done : Progress) (r : Result Sizes Refusal)
    → read_all program room bytes ≡ passed (table_in nodes hashes done) → node_numbers * done.nodes ≤ length nodes → done.hashes ≤ length hashes
    → JudgedMeans program (table_in nodes hashes done) done r → DecodedMeans (decode program room bytes) r nodes hashes
judged_means program room bytes nodes hashes done (Ok sizes) e k l (j, s) =
    let p : decode program room bytes ≡ passed (table_in nodes hashes done) = decode_judges program room bytes (table_in nodes hashes done) e ∙ j in
    subst (λ (z : Sizes). DecodedMeans (decode program room bytes) (Ok z) nodes hashes) (sym s) (done.at, p, k, l)
judged_means program room bytes nodes hashes done (Err why) e k l j = decode_judges program room bytes (table_in nodes hashes done) e ∙ j

-- the same, of the fronts that the code hands on
pub fronts_mean : (program : List ℕ) (room bytes : ℕ) (nodes hashes : List ℕ) (done : Progress) (r : Result Sizes Refusal)
    → ReadMeans (read_all program room bytes) (Ok done) nodes hashes
    → (n h : ℕ) → n ≡ done.nodes → h ≡ done.hashes → JudgedMeans program (table_of (take (node_numbers * n) nodes) (take h hashes) done) done r
    → DecodedMeans (decode program room bytes) r nodes hashes
fronts_mean program room bytes nodes hashes done r m n h p q j =
    let same : table_of (take (node_numbers * n) nodes) (take h hashes) done ≡ table_in nodes hashes done =
    ap₂ (λ (x y : ℕ). table_of (take (node_numbers * x) nodes) (take y hashes) done) p q in
    judged_means program room bytes nodes hashes done r m.0 m.3 m.4 (subst (λ (t : NodeTable). JudgedMeans program t done r) same j)

-- the stores, once cleared behind what is kept, are what decoding leaves
same_left : (s t : Check Sizes) (n m h g : List ℕ) → s ≡ t → n ≡ m → h ≡ g → left s n h ≡ left t m g
same_left s t n m h g p q r = ap₂ (λ (x : Check Sizes) (y : List ℕ). left x y h) p q ∙ ap (λ (z : List ℕ). left t m z) r

cleared-filled : (store store₀ : List ℕ) (n : ℕ) (numbers : List ℕ) → n ≤ length store → length store ≡ length store₀ → numbers ≡ take n store
    → cleared store n ≡ filled numbers store₀
unfolding filled
cleared-filled store store₀ n numbers h l e =
    let k : length numbers ≡ n = ap length e ∙ length-take-le n store h in
    ap₂ (λ (x : List ℕ) (y : ℕ). x ++ zeros y) (sym e) (let z : length store - n ≡ length store₀ - length numbers = omega arith in z)

cleared_whole : (store store₀ : List ℕ) → length store ≡ length store₀ → cleared store 0 ≡ zeros (length store₀)
cleared_whole store store₀ l = all_cleared store ∙ ap zeros l

pub decode_leaves : (wanted : Check NodeTable) (r : Result Sizes Refusal) (nodes hashes nodes₀ hashes₀ : List ℕ) → DecodedMeans wanted r nodes hashes
    → length nodes ≡ length nodes₀ → length hashes ≡ length hashes₀
    → left (said_of r) (cleared nodes (node_numbers * (result_unwrap_or r (sizes_with 0 0)).nodes)) (cleared hashes (result_unwrap_or r (sizes_with 0 0)).hashes) ≡ left_by wanted nodes₀ hashes₀
unfolding left_by table_sizes nodes_left hashes_left
decode_leaves wanted (Ok sizes) nodes hashes nodes₀ hashes₀ (end, e, k, l) p q =
    let n : ℕ = sizes.nodes in
    let front : List ℕ = take (node_numbers * n) nodes in
    let f : length front ≡ node_numbers * n = length-take-le (node_numbers * n) nodes k in
    let a : n ≡ length (node_records front) = sym (length_records front ∙ (let z : length front / node_numbers ≡ n = omega arith in z)) in
    let b : sizes.hashes ≡ length (take sizes.hashes hashes) = sym (length-take-le sizes.hashes hashes l) in
    same_left _ _ _ _ _ _ (ap₂ (λ (x y : ℕ). passed (record { nodes = x; hashes = y })) a b)
    (cleared-filled nodes nodes₀ (node_numbers * n) (node_numbers_of (node_records front)) k p (numbers_back n front f))
    (cleared-filled hashes hashes₀ sizes.hashes (take sizes.hashes hashes) l q refl)
    ∙ sym (ap (λ (c : Check NodeTable). left_by c nodes₀ hashes₀) e)
decode_leaves wanted (Err why) nodes hashes nodes₀ hashes₀ e p q =
    same_left _ _ _ _ _ _ refl (cleared_whole nodes nodes₀ p) (cleared_whole hashes hashes₀ q) ∙ sym (ap (λ (c : Check NodeTable). left_by c nodes₀ hashes₀) e)

-- the same, as the code clears them
pub clearing_leaves : (wanted : Check NodeTable) (r : Result Sizes Refusal) (nodes hashes nodes₀ hashes₀ : List ℕ) → DecodedMeans wanted r nodes hashes
    → length nodes ≡ length nodes₀ → length hashes ≡ length hashes₀ → (kept : Sizes) → kept ≡ result_unwrap_or r (sizes_with 0 0) → (n h : ℕ) → n ≡ kept.nodes → h ≡ kept.hashes
    → (nodes' hashes' : List ℕ) → nodes' ≡ cleared nodes (node_numbers * n) → hashes' ≡ cleared hashes h
    → left (said_of r) nodes' hashes' ≡ left_by wanted nodes₀ hashes₀
clearing_leaves wanted r nodes hashes nodes₀ hashes₀ m p q kept k n h a b nodes' hashes' c d =
    same_left _ _ _ _ _ _ refl (c ∙ ap (λ (x : ℕ). cleared nodes (node_numbers * x)) (a ∙ ap (λ (s : Sizes). s.nodes) k))
    (d ∙ ap (cleared hashes) (b ∙ ap (λ (s : Sizes). s.hashes) k))
    ∙ decode_leaves wanted r nodes hashes nodes₀ hashes₀ m p q
