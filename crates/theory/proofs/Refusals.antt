-- Which refusals come where: 1 to 10, or 17, while the sections are opened and the program is decoded, 9 of equal nodes and 11 to 13 while
-- its tables are checked, 14 to 17 once they stand; 18 and 19 come from a run alone. What holds of each refusal that a check may give holds of what it gives.
use Rattle.std.specs.Prelude.{◌≡◌, Bool, not, eqb, get_or, take as take_l}
use Rattle.std.proofs.Common.{sym, subst, arith, not-suc-le-zero, get_or-take, length-take-le}
use Rattle.std.proofs.Math.Bool.{true, false}
use mathlib.Core.List.{List, [], ◌∷◌, ◌++◌}
use Prim.Native.Nat.{ℕ, zero, suc, ◌*◌, ◌-◌, ◌/◌, ◌<◌}
use Rattle.std.proofs.Math.Decide.{dec_lt}
use Rattle.std.proofs.Math.Dec.{leb}
use Rattle.std.proofs.Math.ListN.{length, get_or-eq_default}
use Rattle.limits.specs.Limits.{dossier_bytes, header_bytes, node_numbers, node_count, cell_count, frame_count, cost_limit, frame_numbers, hash_bytes}
use Rattle.refusal.specs.declared.Refusal.{Refusal}
use Rattle.refusal.specs.declared.Refusal.TheVariants.{Header, TypeRecord as BadTypeRecord, StreamEnded, Natural, Overlong, Jet, CanonicalOrder, HiddenElsewhere, BothHidden, NodeRepeated, Closing, OneChildDisconnect, Arrow as BadArrow, Hash, OverLimit, Witness, Input, StoreShort}
use Rattle.report.specs.Bits.{Bit}
use Rattle.report.specs.Types.{Ty, width}
use Rattle.report.specs.Table.{entries}
use Rattle.report.specs.Values.{Val, ⟨⟩, Read, value, short, read_value}
use Rattle.report.specs.Nodes.{Node, comp, case, pair, disconnect, injl, injr, take, drop, disconnect1, iden, unit, witness, fail, hidden, word}
use Rattle.report.specs.Canonical.{children, is_done}
use Rattle.scope.specs.Check.{Check, passed, refused, ◌>>=◌, require, first_failing, each}
use Rattle.scope.specs.Numbers.{bytes_for, every, any_below, stream_of, held_bits}
use Rattle.scope.specs.Header.{check_header, header_rule, section, s_types, s_program}
use Rattle.scope.specs.Types.{TypeRecord, ty_at, type_rule, type_records, check_types}
use Rattle.scope.specs.Nodes.{NodeRecord, no_node, nodes_of, on_witness}
use Rattle.scope.specs.Reading.{Fault, stream_ended, length_too_long, over_bound, a_jet, hashes_short, refusal_at, Got, got, fault, Item, natural_up_to, node_in, NodeTable, nodes_from, read_nodes}
use Rattle.scope.specs.Walk.{hidden_at, hides, none_hidden, allowed, Walk, walk_each, walk_make, walk_from, check_walk}
use Rattle.scope.specs.Closing.{closes, used_up, decode}
use Rattle.scope.specs.Arrows.{Arrow, target, no_one_child, repeats, node_rule, node_refusal, check_arrows}
use Rattle.scope.specs.Hashes.{count_place, rights, check_hashes}
use Rattle.scope.specs.Program.{Program, whole_source, whole_target}
use Rattle.scope.specs.Bounds.{whole_cells, whole_frames, whole_cost, check_limits, check_bounds}
use Rattle.scope.specs.Witness.{Values, values_from, check_witness}
use Rattle.scope.specs.Input.{check_input}
use Rattle.scope.specs.Stores.{check_stores}
use Rattle.scope.specs.Run.{Tables, program_of, check_tables, check_ready, tables_of, check_dossier}
use Rattle.common.specs.Checks as Checks
use Rattle.common.specs.Tables.{entries_at, entries_past, length-entries}

-- a check refuses with such refusals alone
abbrev pub Refuses : {X : Type 0} → (Refusal → Type 0) → Check X → Type 0
Refuses Fine c = (r : Refusal) → c ≡ refused r → Fine r

-- it holds of all that decoding refuses with: 1, 3 to 10, 17 at 3 and 4, and 21
pub record OfDecoding (Fine : Refusal → Type 0) : Type 0 where
  pub header : (at : ℕ) → Fine (Header at)
  pub ended : (at : ℕ) → Fine (StreamEnded at)
  pub natural : (at : ℕ) → Fine (Natural at)
  pub overlong : (at : ℕ) → Fine (Overlong at)
  pub jet : (at : ℕ) → Fine (Jet at)
  pub order : (at : ℕ) → Fine (CanonicalOrder at)
  pub elsewhere : (at : ℕ) → Fine (HiddenElsewhere at)
  pub both : (at : ℕ) → Fine (BothHidden at)
  pub repeated : (at : ℕ) → Fine (NodeRepeated at)
  pub closing : (at : ℕ) → Fine (Closing at)
  pub nodes_short : Fine (StoreShort 3)
  pub hashes_short_lem : Fine (StoreShort 4)

-- of all that the checked tables refuse with: 9, 11, 12 and 13
pub record OfTables (Fine : Refusal → Type 0) : Type 0 where
  pub equal : (at : ℕ) → Fine (NodeRepeated at)
  pub one-child : (at : ℕ) → Fine (OneChildDisconnect at)
  pub arrow : (at : ℕ) → Fine (BadArrow at)
  pub hash : (at : ℕ) → Fine (Hash at)

-- of all that is refused once the tables stand: 14, 15, 16, and 17 at 0, 1 and 2
pub record OfReady (Fine : Refusal → Type 0) : Type 0 where
  pub over : (at : ℕ) → Fine (OverLimit at)
  pub witness : (at : ℕ) → Fine (Witness at)
  pub input : Fine (Input 0)
  pub cells_short : Fine (StoreShort 0)
  pub frames_short : Fine (StoreShort 1)
  pub answer_short : Fine (StoreShort 2)

module _ (Fine : Refusal → Type 0) where
  -- a check that passed
  pub passed_refuses : {X : Type 0} (x : X) → Refuses Fine (passed x)
  passed_refuses x r e = Checks.clash (cc)

  -- a refusal
  pub refused_refuses : {X : Type 0} (q : Refusal) → Fine q → Refuses {X = X} Fine (refused q)
  refused_refuses q h r e = subst Fine (let z : q ≡ r = cc in z) h

  -- one check after the other
  pub then_refuses : {X Y : Type 0} (m : Check X) (f : X → Check Y) → Refuses Fine m → ((x : X) → Refuses Fine (f x)) → Refuses Fine (m >>= f)
  unfolding ◌>>=◌
  then_refuses (passed x) f h k r e = k x r e
  then_refuses (refused q) f h k r e = h r (cc)

  -- a test
  pub require_refuses : (b : Bool) (q : Refusal) → Fine q → Refuses Fine (require b q)
  unfolding require
  require_refuses true q h = passed_refuses tt
  require_refuses false q h = refused_refuses q h

  -- a test of each number
  pub each_refuses : (n : ℕ) (test : ℕ → Bool) (refusal : ℕ → Refusal) → ((i : ℕ) → Fine (refusal i)) → Refuses Fine (each n test refusal)
  unfolding each
  each_refuses n test refusal h = require_refuses (eqb (first_failing test n 0) n) (refusal (first_failing test n 0)) (h (first_failing test n 0))

  -- three tests in a row
  three_refuse : (a b c : Bool) (x y z : Refusal) → Fine x → Fine y → Fine z → Refuses Fine (require a x >>= λ first. (require b y >>= λ second. require c z))
  three_refuse a b c x y z h k l =
      then_refuses (require a x) _ (require_refuses a x h) (λ first. then_refuses (require b y) _ (require_refuses b y k) (λ second. require_refuses c z l))

module _ (Fine : Refusal → Type 0) (may : OfDecoding Fine) where
  -- the header
  header_refuses : (d : List ℕ) → Refuses Fine (check_header d)
  unfolding check_header
  header_refuses d =
      then_refuses Fine (require (every (leb header_bytes (length d) ∷ leb (length d) dossier_bytes ∷ [])) (Header 0))
      (λ fits. each 14 (header_rule d) (λ j. Header (4 * j)))
      (require_refuses Fine (every (leb header_bytes (length d) ∷ leb (length d) dossier_bytes ∷ [])) (Header 0) (may.header 0))
      (λ fits. each_refuses Fine 14 (header_rule d) (λ j. Header (4 * j)) (λ j. may.header (4 * j)))

  -- 3, 4, 5 and 17
  fault_refuses : (i : ℕ) (e : Fault) → Fine (refusal_at i e)
  unfolding refusal_at
  fault_refuses i stream_ended = may.ended i
  fault_refuses i length_too_long = may.overlong i
  fault_refuses i over_bound = may.natural i
  fault_refuses i a_jet = may.jet i
  fault_refuses i hashes_short = may.hashes_short_lem

  -- the nodes from node i on
  nodes_refuse : (bits : List Bit) (room k i : ℕ) (records : List NodeRecord) (hashes : List ℕ) (at : ℕ)
      → Refuses Fine (nodes_from bits room k i records hashes at)
  unfolding nodes_from
  nodes_refuse bits room zero i records hashes at = passed_refuses Fine _
  nodes_refuse bits room (suc k) i records hashes at =
      go (node_in bits room i (length hashes) at) (λ records hashes at. nodes_refuse bits room k (suc i) records hashes at)
    where
      go : (x : Got Item)
          → ((records : List NodeRecord) (hashes : List ℕ) (at : ℕ) → Refuses {X = NodeTable} Fine (nodes_from bits room k (suc i) records hashes at))
          → Refuses {X = NodeTable} Fine (elim x [
            | got x next ↦ nodes_from bits room k (suc i) (records ++ x.node ∷ []) (hashes ++ x.stored) next
            | fault e ↦ refused (refusal_at i e)
          ])
      go (got x next) later = later (records ++ x.node ∷ []) (hashes ++ x.stored) next
      go (fault e) later = refused_refuses Fine (refusal_at i e) (fault_refuses i e)

  -- all nodes
  reading_refuses : (bits : List Bit) (records bytes : ℕ) → Refuses Fine (read_nodes bits records bytes)
  unfolding read_nodes
  reading_refuses bits records bytes = go (natural_up_to bits node_count 0)
    where
      go : (x : Got ℕ) → Refuses {X = NodeTable} Fine (elim x [
        | got n next ↦ elim (leb n records) [ true ↦ nodes_from bits bytes n 0 [] [] next | false ↦ refused (StoreShort 3) ]
        | fault e ↦ refused (refusal_at 0 e)
      ])
      go (got n next) = fits (leb n records)
        where
          fits : (b : Bool) → Refuses {X = NodeTable} Fine (elim b [ true ↦ nodes_from bits bytes n 0 [] [] next | false ↦ refused (StoreShort 3) ])
          fits true = nodes_refuse bits bytes n 0 [] [] next
          fits false = refused_refuses Fine (StoreShort 3) may.nodes_short
      go (fault e) = refused_refuses Fine (refusal_at 0 e) (fault_refuses 0 e)

  -- 6 to 9
  module _ (nodes : List Node) where
    -- children of which none is hidden
    none_refuses : (i : ℕ) (js : List ℕ) → Refuses Fine (none_hidden nodes i js)
    unfolding none_hidden
    none_refuses i [] = passed_refuses Fine tt
    none_refuses i (j ∷ js) =
        then_refuses Fine (require (not (hidden_at nodes j)) (HiddenElsewhere i)) (λ shown. none_hidden nodes i js)
        (require_refuses Fine (not (hidden_at nodes j)) (HiddenElsewhere i) (may.elsewhere i)) (λ shown. none_refuses i js)

    -- what a node asks
    allowed_refuses : (i : ℕ) (n : Node) → Refuses Fine (allowed nodes i n)
    unfolding allowed
    allowed_refuses i (comp a b) = none_refuses i (a ∷ b ∷ [])
    allowed_refuses i (case a b) = require_refuses Fine (not (every (hidden_at nodes a ∷ hidden_at nodes b ∷ []))) (BothHidden i) (may.both i)
    allowed_refuses i (pair a b) = none_refuses i (a ∷ b ∷ [])
    allowed_refuses i (disconnect a b) = none_refuses i (a ∷ b ∷ [])
    allowed_refuses i (injl a) = none_refuses i (a ∷ [])
    allowed_refuses i (injr a) = none_refuses i (a ∷ [])
    allowed_refuses i (take a) = none_refuses i (a ∷ [])
    allowed_refuses i (drop a) = none_refuses i (a ∷ [])
    allowed_refuses i (disconnect1 a) = none_refuses i (a ∷ [])
    allowed_refuses i iden = passed_refuses Fine tt
    allowed_refuses i unit = passed_refuses Fine tt
    allowed_refuses i witness = passed_refuses Fine tt
    allowed_refuses i (fail bytes) = passed_refuses Fine tt
    allowed_refuses i (hidden hash) = require_refuses Fine (not (any_below i (hides nodes hash))) (NodeRepeated i) (may.repeated i)
    allowed_refuses i (word n bits) = passed_refuses Fine tt

    -- a walk that refuses so, from whatever nodes done
    abbrev WalkRefuses : Walk nodes → Type 0
    WalkRefuses w = (done : List ℕ) → Refuses Fine (w done)

    -- walks to children, of which each refuses so
    each_walk : (walks : List (Walk nodes)) → ((j : ℕ) → WalkRefuses (get_or walks j (λ d. passed d))) → (js : List ℕ) → WalkRefuses (walk_each nodes walks js)
    unfolding walk_each
    each_walk walks h [] done = passed_refuses Fine done
    each_walk walks h (j ∷ js) done =
        then_refuses Fine ((get_or walks j (λ d. passed d)) done) (λ d. walk_each nodes walks js d) (h j done) (λ d. each_walk walks h js d)

    -- and the walk from a node
    make_walk : (walks : List (Walk nodes)) → ((j : ℕ) → WalkRefuses (get_or walks j (λ d. passed d))) → (n : Node) → WalkRefuses (walk_make nodes walks n)
    unfolding walk_make
    make_walk walks h n done = go (is_done i done)
      where
        i : ℕ
        i = length walks

        rest : List ℕ → Check (List ℕ)
        rest d = require (eqb i (length d)) (CanonicalOrder (length d)) >>= λ next. (allowed nodes i n >>= λ fine. passed (d ++ i ∷ []))

        go : (b : Bool) → Refuses {X = List ℕ} Fine (elim b [ true ↦ passed done | false ↦ walk_each nodes walks (children n) done >>= rest ])
        go true = passed_refuses Fine done
        go false = then_refuses Fine (walk_each nodes walks (children n) done) rest (each_walk walks h (children n) done)
            (λ d. then_refuses Fine (require (eqb i (length d)) (CanonicalOrder (length d))) _
            (require_refuses Fine (eqb i (length d)) (CanonicalOrder (length d)) (may.order (length d)))
            (λ next. then_refuses Fine (allowed nodes i n) _ (allowed_refuses i n) (λ fine. passed_refuses Fine (d ++ i ∷ []))))

    -- the walks from the nodes below n
    walks_below : (n i : ℕ) → i < n → WalkRefuses (walk_from nodes i)
    unfolding walk_from
    walks_below zero i l = absurd (not-suc-le-zero l)
    walks_below (suc n) i l = go (dec_lt i (length nodes)) (λ j m. walks_below n j (omega arith))
      where
        E : List (Walk nodes)
        E = entries (walk_make nodes) nodes

        go : Dec (i < length nodes) → ((j : ℕ) → j < i → WalkRefuses (walk_from nodes j)) → WalkRefuses (walk_from nodes i)
        go (yes h) below =
            subst WalkRefuses (sym (entries_at (walk_make nodes) nodes i (λ d. passed d) no_node h)) (make_walk (take_l i E) children_refuse (get_or nodes i no_node))
          where
            children_refuse : (j : ℕ) → WalkRefuses (get_or (take_l i E) j (λ d. passed d))
            children_refuse j = elim (dec_lt j i) [
              | yes m ↦ subst WalkRefuses (sym (get_or-take i E j (λ d. passed d) m)) (below j m)
              | no m ↦ subst WalkRefuses
                  (sym (get_or-eq_default (take_l i E)
                  (λ d. passed d) {n = j} (omega (arith, length-take-le i E (omega (arith, length-entries (walk_make nodes) nodes))))))
                  (λ done. passed_refuses Fine done)
            ]
        go (no h) below = subst WalkRefuses (sym (entries_past (walk_make nodes) nodes i (λ d. passed d) (omega arith))) (λ done. passed_refuses Fine done)

    -- the whole walk
    walk_refuses : Refuses Fine (check_walk nodes)
    unfolding check_walk
    walk_refuses =
        then_refuses Fine (walk_from nodes (length nodes - 1) []) _ (walks_below (suc (length nodes - 1)) (length nodes - 1) (omega arith) [])
        (λ all. require_refuses Fine (not (hidden_at nodes (length nodes - 1))) (HiddenElsewhere (length nodes - 1)) (may.elsewhere (length nodes - 1)))

  -- decoding: 1, 3 to 10, and 17
  decode_refuses : (program : List ℕ) (records bytes : ℕ) → Refuses Fine (decode program records bytes)
  unfolding decode
  decode_refuses program records bytes =
      then_refuses Fine (require (leb (length program) dossier_bytes) (Header 0)) _
      (require_refuses Fine (leb (length program) dossier_bytes) (Header 0) (may.header 0))
      (λ fits. then_refuses Fine (read_nodes (stream_of program) records bytes) _
      (reading_refuses (stream_of program) records bytes)
      (λ t. then_refuses Fine (check_walk (nodes_of (stream_of program) t.hashes t.records)) _
      (walk_refuses (nodes_of (stream_of program) t.hashes t.records))
      (λ walked. then_refuses Fine (require (closes (stream_of program) t.end) (Closing (length t.records))) _
      (require_refuses Fine (closes (stream_of program) t.end) (Closing (length t.records)) (may.closing (length t.records)))
      (λ closed. passed_refuses Fine t))))

module _ (Fine : Refusal → Type 0) (may : OfTables Fine) where
  -- node i of the arrows: 9 or 12
  node_refuses : (types : List TypeRecord) (nodes : List Node) (arrows : List Arrow) (i : ℕ) → Fine (node_refusal types nodes arrows i)
  unfolding node_refusal
  node_refuses types nodes arrows i = go (repeats nodes arrows i)
    where
      go : (b : Bool) → Fine (elim b [ true ↦ NodeRepeated i | false ↦ BadArrow i ])
      go true = may.equal i
      go false = may.arrow i

  -- 11, 12, 9 of equal nodes, and 13
  pub tables_refuse : (T : Tables) → Refuses Fine (check_tables T)
  unfolding check_tables check_arrows check_hashes
  tables_refuse T =
      then_refuses Fine (check_arrows T.types T.nodes T.arrows) (λ arrows. check_hashes T.nodes T.given)
      (then_refuses Fine (each (length T.nodes) (no_one_child T.types T.nodes T.arrows) OneChildDisconnect) _
      (each_refuses Fine (length T.nodes) (no_one_child T.types T.nodes T.arrows) OneChildDisconnect may.one-child)
      (λ whole. then_refuses Fine (require (eqb (length T.arrows) (length T.nodes)) (BadArrow (length T.nodes))) _
      (require_refuses Fine (eqb (length T.arrows) (length T.nodes)) (BadArrow (length T.nodes)) (may.arrow (length T.nodes)))
      (λ count. each_refuses Fine (length T.nodes) (node_rule T.types T.nodes T.arrows) (node_refusal T.types T.nodes T.arrows)
      (node_refuses T.types T.nodes T.arrows))))
      (λ arrows. then_refuses Fine
      (require (eqb (length T.given / hash_bytes) (length (rights T.nodes))) (Hash (count_place (length T.given / hash_bytes)))) _
      (require_refuses Fine (eqb (length T.given / hash_bytes) (length (rights T.nodes)))
      (Hash (count_place (length T.given / hash_bytes))) (may.hash (count_place (length T.given / hash_bytes))))
      (λ count. each_refuses Fine (length (rights T.nodes)) _ Hash may.hash))

module _ (Fine : Refusal → Type 0) (may : OfReady Fine) where
  -- 14 and 17: three tests in a row
  bounds_refuse : (P : Program) → Refuses Fine (check_bounds P)
  unfolding check_bounds check_limits
  bounds_refuse P =
      three_refuse Fine (leb (whole_cells P) cell_count) (leb (whole_frames P) frame_count) (leb (whole_cost P) cost_limit)
      (OverLimit 0) (OverLimit 1) (OverLimit 2) (may.over 0) (may.over 1) (may.over 2)

  -- the stores
  stores_refuse : (P : Program) (cells frames answer : List ℕ) → Refuses Fine (check_stores P cells frames answer)
  unfolding check_stores
  stores_refuse P cells frames answer =
      three_refuse Fine (leb (bytes_for (whole_cells P)) (length cells)) (leb (whole_frames P) (length frames / frame_numbers))
      (leb (bytes_for (width (whole_target P))) (length answer)) (StoreShort 0) (StoreShort 1) (StoreShort 2) may.cells_short
      may.frames_short may.answer_short

  -- 15
  values_refuse : (types : List TypeRecord) (arrows : List Arrow) (i : ℕ) (ns : List Node) (values : List Val) (rest : List Bit)
      → Refuses Fine (values_from types arrows i ns values rest)
  unfolding values_from
  values_refuse types arrows i [] values rest = passed_refuses Fine _
  values_refuse types arrows i (n ∷ ns) values rest =
      go (λ values rest. values_refuse types arrows (suc i) ns values rest) (on_witness n (read_value (ty_at types (target arrows i)) rest) (value ⟨⟩ rest))
    where
      go : ((values : List Val) (rest : List Bit) → Refuses {X = Values} Fine (values_from types arrows (suc i) ns values rest))
          → (x : Read) → Refuses {X = Values} Fine
          (elim x [ value v rest ↦ values_from types arrows (suc i) ns (values ++ v ∷ []) rest | short ↦ refused (Witness i) ])
      go later (value v rest) = later (values ++ v ∷ []) rest
      go later short = refused_refuses Fine (Witness i) (may.witness i)

  -- the whole witness
  witness_refuses : (types : List TypeRecord) (nodes : List Node) (arrows : List Arrow) (bytes : List ℕ) (count : ℕ)
      → Refuses Fine (check_witness types nodes arrows bytes count)
  unfolding check_witness
  witness_refuses types nodes arrows bytes count =
      then_refuses Fine (values_from types arrows 0 nodes [] (take_l count (held_bits bytes))) _
      (values_refuse types arrows 0 nodes [] (take_l count (held_bits bytes)))
      (λ read. then_refuses Fine (require (used_up bytes count read.rest) (Witness (length nodes))) _
      (require_refuses Fine (used_up bytes count read.rest) (Witness (length nodes)) (may.witness (length nodes)))
      (λ used. passed_refuses Fine read.values))

  -- 16
  input_refuses : (A : Ty) (bytes : List ℕ) (count : ℕ) → Refuses Fine (check_input A bytes count)
  unfolding check_input
  input_refuses A bytes count = go (read_value A (take_l count (held_bits bytes)))
    where
      go : (x : Read) → Refuses {X = Val} Fine (elim x [
        | value v rest ↦ (require (used_up bytes count rest) (Input 0) >>= λ used. passed v)
        | short ↦ refused (Input 0)
      ])
      go (value v rest) =
          then_refuses Fine (require (used_up bytes count rest) (Input 0)) (λ used. passed v)
          (require_refuses Fine (used_up bytes count rest) (Input 0) may.input) (λ used. passed_refuses Fine v)
      go short = refused_refuses Fine (Input 0) may.input

  -- 14 TO 17
  pub ready_refuses : (T : Tables) (cells frames answer : List ℕ) → Refuses Fine (check_ready T cells frames answer)
  unfolding check_ready
  ready_refuses T cells frames answer =
      then_refuses Fine (check_bounds (program_of T [])) _ (bounds_refuse (program_of T []))
      (λ bounded. then_refuses Fine (check_witness T.types T.nodes T.arrows T.witness T.witness_bits) _
      (witness_refuses T.types T.nodes T.arrows T.witness T.witness_bits)
      (λ values. then_refuses Fine (check_input (whole_source (program_of T [])) T.input T.input_bits) _
      (input_refuses (whole_source (program_of T [])) T.input T.input_bits)
      (λ v. then_refuses Fine (check_stores (program_of T []) cells frames answer) _
      (stores_refuse (program_of T []) cells frames answer) (λ stored. passed_refuses Fine _))))

-- 2
types_refuse : (Fine : Refusal → Type 0) → ((at : ℕ) → Fine (BadTypeRecord at)) → (types : List TypeRecord) → Refuses Fine (check_types types)
unfolding check_types
types_refuse Fine wrong types = each_refuses Fine (length types) (type_rule types) BadTypeRecord wrong

-- 1 TO 13, AND 17
pub dossier_refuses : (Fine : Refusal → Type 0) → OfDecoding Fine → ((at : ℕ) → Fine (BadTypeRecord at)) → OfTables Fine
    → (d nodes hashes : List ℕ) → Refuses Fine (check_dossier d nodes hashes)
unfolding check_dossier
dossier_refuses Fine decoding wrong tables d nodes hashes =
    let types : List TypeRecord = type_records (section d s_types) in
    then_refuses Fine (check_header d) _ (header_refuses Fine decoding d)
    (λ header. then_refuses Fine (check_types types) _ (types_refuse Fine wrong types)
    (λ typed. then_refuses Fine (decode (section d s_program) (length nodes / node_numbers) (length hashes)) _
    (decode_refuses Fine decoding (section d s_program) (length nodes / node_numbers) (length hashes))
    (λ t. then_refuses Fine (check_tables (tables_of d t)) _ (tables_refuse Fine tables (tables_of d t))
    (λ checked. passed_refuses Fine t))))
