-- What is supplied beside a program's tables passes its checks exactly if it fits: the header (1), the hashes (13), the limits (14), the
-- witness bits (15), the input bits (16) and the stores (17). Bits fit if they are the compact bits of values of the right types, one after
-- the other, then fewer than eight zeros.
use Rattle.std.specs.Prelude.{◌≡◌, Bool, ◌⊎◌, ℕ, suc, ◌*◌, ◌-◌, ◌/◌, ◌≤◌, ◌<◌, eqb, get_or}
use Rattle.std.proofs.Math.Path.{refl, sym, ap, ap₂, subst}
use Rattle.std.proofs.Common.{◌∙◌, inl, inr, take-append-drop, take_at}
use Rattle.std.proofs.Math.Bool.{true, false, not}
use mathlib.Core.List.{List, [], ◌∷◌, ◌++◌, append-nil, append_assoc}
use native.Mathlib.Omega.{arith}
use Rattle.std.proofs.Math.Decide.{dec_lt}
use Rattle.std.proofs.Math.Dec.{leb, ltb}
use Rattle.std.proofs.Math.ListN.{length, take, drop, length-take}
use borrow.Author.Tests.{eqb-true, eq-eqb, leb-true, le-leb, not-true}
use Rattle.limits.specs.Limits.{header_bytes, dossier_bytes, hash_bytes, cell_count, frame_count, cost_limit, frame_numbers}
use Rattle.refusal.specs.declared.Refusal.TheVariants.{Header, Hash, OverLimit, Witness, Input, StoreShort}
use Rattle.report.specs.Bits.{Bit}
use Rattle.report.specs.Types.{Ty, width}
use Rattle.report.specs.Values.{Val, ⟨⟩, HasTy, compact, Read, value, short, read_value}
use Rattle.report.specs.Nodes.{Node}
use Rattle.scope.specs.Check.{passed, refused, ◌>>=◌, require, each}
use Rattle.scope.specs.Numbers.{stream_of, held_bits, bytes_for, every, same, all_zero}
use Rattle.scope.specs.Header.{header_rule, check_header}
use Rattle.scope.specs.Types.{TypeRecord, ty_at}
use Rattle.scope.specs.Nodes.{on_witness}
use Rattle.scope.specs.Closing.{closes, used_up}
use Rattle.scope.specs.Arrows.{Arrow, target}
use Rattle.scope.specs.Hashes.{count_place, rights, entry, clash, check_hashes}
use Rattle.scope.specs.Program.{Program, whole_target}
use Rattle.scope.specs.Bounds.{whole_cells, whole_frames, whole_cost, check_limits, check_bounds}
use Rattle.scope.specs.Witness.{Values, values_from, check_witness}
use Rattle.scope.specs.Input.{check_input}
use Rattle.scope.specs.Stores.{check_stores}
use Rattle.common.specs.Checks as Checks
use Rattle.common.specs.Checks.{every_all, all_every, none_below, below_none, same_equal, equal_same, require_holds, holds_require, both_passed, then_passes, each_holds, holds_each}
use Rattle.common.specs.Bits.{AreBits, below_take, held_within}
use Rattle.exactness.specs.Values.{reads_compact, read_is_compact}
use Rattle.exactness.proofs.Decoding.{closed_stands, closed_closes, stream_bits}
use Rattle.theory.specs.Supply.{HeaderFits, LimitsFit, StoresFit, HashesFit, BitsAre, InputFits, all_bits, ValueFor, ValuesFor, WitnessFits}

module _ (d : List ℕ) where
  -- the tests of its size
  abbrev sizes : List Bool
  sizes = leb header_bytes (length d) ∷ leb (length d) dossier_bytes ∷ []

  -- a header that passed
  pub header_fits : check_header d ≡ passed tt → HeaderFits d
  unfolding check_header
  header_fits e =
      let p = both_passed (require (every sizes) (Header 0)) (λ fits. each 14 (header_rule d) (λ j. Header (4 * j))) tt e in
      let q = every_all sizes (require_holds (every sizes) (Header 0) p.0 p.1) in
      record { least = leb-true _ _ q.0; most = leb-true _ _ q.1.0; rules = each_holds 14 (header_rule d) (λ j. Header (4 * j)) tt p.2 }

  -- and one that keeps its rules passes
  pub fits_header : HeaderFits d → check_header d ≡ passed tt
  unfolding check_header
  fits_header h =
      then_passes (require (every sizes) (Header 0)) (λ fits. each 14 (header_rule d) (λ j. Header (4 * j))) tt
      (holds_require (every sizes) (Header 0) (all_every sizes (le-leb _ _ h.least, (le-leb _ _ h.most, tt))))
      ∙ holds_each 14 (header_rule d) (λ j. Header (4 * j)) h.rules

module _ (P : Program) where
  -- bounds that passed
  pub limits_fit : check_bounds P ≡ passed tt → LimitsFit P
  unfolding check_bounds check_limits
  limits_fit e =
      let a = both_passed (require (leb (whole_cells P) cell_count) (OverLimit 0)) (λ first. require (leb (whole_frames P) frame_count) (OverLimit 1) >>= λ second.
      require (leb (whole_cost P) cost_limit) (OverLimit 2)) tt e in
      let b = both_passed (require (leb (whole_frames P) frame_count) (OverLimit 1)) (λ second. require (leb (whole_cost P) cost_limit) (OverLimit 2)) tt a.2 in
      record {
        cells = leb-true _ _ (require_holds (leb (whole_cells P) cell_count) (OverLimit 0) a.0 a.1);
        frames = leb-true _ _ (require_holds (leb (whole_frames P) frame_count) (OverLimit 1) b.0 b.1);
        cost = leb-true _ _ (require_holds (leb (whole_cost P) cost_limit) (OverLimit 2) tt b.2);
      }

  -- and bounds within the limits pass
  pub fit_limits : LimitsFit P → check_bounds P ≡ passed tt
  unfolding check_bounds check_limits
  fit_limits h =
      then_passes (require (leb (whole_cells P) cell_count) (OverLimit 0)) (λ first. require (leb (whole_frames P) frame_count) (OverLimit 1) >>= λ second.
      require (leb (whole_cost P) cost_limit) (OverLimit 2)) tt (holds_require (leb (whole_cells P) cell_count) (OverLimit 0) (le-leb _ _ h.cells))
      ∙ then_passes (require (leb (whole_frames P) frame_count) (OverLimit 1)) (λ second. require (leb (whole_cost P) cost_limit) (OverLimit 2)) tt
      (holds_require (leb (whole_frames P) frame_count) (OverLimit 1) (le-leb _ _ h.frames))
      ∙ holds_require (leb (whole_cost P) cost_limit) (OverLimit 2) (le-leb _ _ h.cost)

  module _ (cells frames answer : List ℕ) where
    -- the test of the cells
    abbrev first : Bool
    first = leb (bytes_for (whole_cells P)) (length cells)

    -- of the frames
    abbrev second : Bool
    second = leb (whole_frames P) (length frames / frame_numbers)

    -- of the answer
    abbrev third : Bool
    third = leb (bytes_for (width (whole_target P))) (length answer)

    -- stores that passed
    pub stores_fit : check_stores P cells frames answer ≡ passed tt → StoresFit P cells frames answer
    unfolding check_stores
    stores_fit e =
        let a = both_passed (require first (StoreShort 0)) (λ one. require second (StoreShort 1) >>= λ two. require third (StoreShort 2)) tt e in
        let b = both_passed (require second (StoreShort 1)) (λ two. require third (StoreShort 2)) tt a.2 in
        record {
          cell_bytes = leb-true _ _ (require_holds first (StoreShort 0) a.0 a.1);
          frame_records = leb-true _ _ (require_holds second (StoreShort 1) b.0 b.1);
          answer_bytes = leb-true _ _ (require_holds third (StoreShort 2) tt b.2);
        }

    -- and stores with room pass
    pub fit_stores : StoresFit P cells frames answer → check_stores P cells frames answer ≡ passed tt
    unfolding check_stores
    fit_stores h =
        then_passes (require first (StoreShort 0)) (λ one. require second (StoreShort 1) >>= λ two. require third (StoreShort 2)) tt
        (holds_require first (StoreShort 0) (le-leb _ _ h.cell_bytes))
        ∙ then_passes (require second (StoreShort 1)) (λ two. require third (StoreShort 2)) tt
        (holds_require second (StoreShort 1) (le-leb _ _ h.frame_records))
        ∙ holds_require third (StoreShort 2) (le-leb _ _ h.answer_bytes)

module _ (nodes : List Node) (given : List ℕ) where
  -- the child that entry e is for
  abbrev right : (e : ℕ) → ℕ
  right e = get_or (rights nodes) e 0

  -- entries d and e are for one child and unlike
  abbrev unlike : (e d : ℕ) → Bool
  unlike e d = every (eqb (right d) (right e) ∷ not (same (entry given d) (entry given e)) ∷ [])

  -- an entry that clashes with none before it
  no_clash : (e d : ℕ) → unlike e d ≡ false → right d ≡ right e → entry given d ≡ entry given e
  unfolding every
  no_clash e d p q = go (same (entry given d) (entry given e)) refl
    where
      go : (b : Bool) → same (entry given d) (entry given e) ≡ b → entry given d ≡ entry given e
      go true r = same_equal _ _ r
      go false r = Checks.not_both (all_every (eqb (right d) (right e) ∷ not (same (entry given d) (entry given e)) ∷ []) (eq-eqb _ _ q, (ap not r, tt))) p

  -- and the other way round
  clash_none : (e d : ℕ) → (right d ≡ right e → entry given d ≡ entry given e) → unlike e d ≡ false
  unfolding every
  clash_none e d h = go (unlike e d) refl
    where
      go : (b : Bool) → unlike e d ≡ b → unlike e d ≡ false
      go false r = r
      go true r =
          let p = every_all (eqb (right d) (right e) ∷ not (same (entry given d) (entry given e)) ∷ []) r in
          Checks.not_both (ap (λ (x : List ℕ). same x (entry given e)) (h (eqb-true _ _ p.0)) ∙ equal_same (entry given e)) (not-true _ p.1.0)

  -- the test of the count
  abbrev count : Bool
  count = eqb (length given / hash_bytes) (length (rights nodes))

  -- hashes that passed
  pub hashes_fit : check_hashes nodes given ≡ passed tt → HashesFit nodes given
  unfolding check_hashes clash
  hashes_fit e =
      let p = both_passed (require count (Hash (count_place (length given / hash_bytes))))
      (λ counted. each (length (rights nodes)) (λ e. not (clash nodes given e)) Hash) tt e in
      let fine : (e d : ℕ) → e < length (rights nodes) → d < e → right d ≡ right e → entry given d ≡ entry given e =
      λ e d l m. no_clash e d
      (none_below e (unlike e) (not-true _ (each_holds (length (rights nodes)) (λ e. not (clash nodes given e)) Hash tt p.2 e l)) d m) in
      record {
        many = eqb-true _ _ (require_holds count (Hash (count_place (length given / hash_bytes))) p.0 p.1);
        alike = λ e f le lf q. elim (dec_lt e f) [
          | yes l ↦ fine f e lf l q
          | no n ↦ elim (dec_lt f e) [ yes l ↦ sym (fine e f le l (sym q)) | no m ↦ (let z : e ≡ f = omega arith in ap (entry given) z) ]
        ];
      }

  -- and hashes that fit pass
  pub fit_hashes : HashesFit nodes given → check_hashes nodes given ≡ passed tt
  unfolding check_hashes clash
  fit_hashes h =
      then_passes (require count (Hash (count_place (length given / hash_bytes))))
      (λ counted. each (length (rights nodes)) (λ e. not (clash nodes given e)) Hash) tt
      (holds_require count (Hash (count_place (length given / hash_bytes))) (eq-eqb _ _ h.many))
      ∙ holds_each (length (rights nodes)) (λ e. not (clash nodes given e)) Hash
      (λ e l. ap not (below_none e (unlike e) (λ d m. clash_none e d (h.alike d e (omega arith) l))))

module _ (bytes : List ℕ) (count : ℕ) (bits : List Bit) where
  -- the bits within the count, and the test of what is left
  bits_are : take count (held_bits bytes) ≡ bits → leb (length bytes) dossier_bytes ≡ true → closes (stream_of bytes) count ≡ true → BitsAre bytes count bits
  unfolding closes
  bits_are f w c =
      let limit : length bytes ≤ dossier_bytes = leb-true _ _ w in
      let e : take count (stream_of bytes) ≡ bits = ap (take count) (sym (held_within bytes limit)) ∙ f in
      let within = every_all (leb count (length (stream_of bytes)) ∷ ltb (length (stream_of bytes) - count) 8 ∷ all_zero (drop count (stream_of bytes)) ∷ []) c in
      let room : count ≤ length (stream_of bytes) = leb-true _ _ within.0 in
      let l : count ≡ length bits = omega (arith, ap length e, length-take count (stream_of bytes)) in
      record {
        many = l;
        within = limit;
        closed = closed_stands (stream_of bytes) bits (record {
          bits_there = sym (take-append-drop count (stream_of bytes)) ∙ ap₂ (λ (x : List Bit) (k : ℕ). x ++ drop k (stream_of bytes)) e l;
          ends_at = omega arith;
          inside = omega arith;
        }) (subst (λ (k : ℕ). closes (stream_of bytes) k ≡ true) l c);
      }

  -- and the other way round
  are_bits : BitsAre bytes count bits → (take count (held_bits bytes) ≡ bits) × (leb (length bytes) dossier_bytes ≡ true) × (closes (stream_of bytes) count ≡ true)
  are_bits h = (
    ap (take count) (held_within bytes h.within ∙ h.closed.whole) ∙ take_at bits _ count (sym h.many),
    le-leb _ _ h.within,
    subst (λ (k : ℕ). closes (stream_of bytes) k ≡ true) (sym h.many) (closed_closes (stream_of bytes) bits h.closed),
  )

-- no bits, and a part of bits
no_bits : (l : List Bit) → length l ≡ 0 → l ≡ []
no_bits [] e = refl
no_bits (b ∷ l) e = absurd (omega arith)

-- the later ones
below_back : (x rest : List Bit) → AreBits (x ++ rest) → AreBits rest
below_back [] rest h = h
below_back (b ∷ x) rest h = below_back x rest h.1

module _ (A : Ty) (bytes : List ℕ) (count : ℕ) (v : Val) where
  -- the test of what is left, of the value and the bits after it
  abbrev used : List Bit → Bool
  used rest = used_up bytes count rest

  -- an input that passed
  pub input_fits : check_input A bytes count ≡ passed v → InputFits A bytes count v
  unfolding check_input
  input_fits e = go (read_value A (take count (held_bits bytes))) refl e
    where
      go : (r : Read) → read_value A (take count (held_bits bytes)) ≡ r
          → (elim r [ value v rest ↦ (require (used rest) (Input 0) >>= λ fine. passed v) | short ↦ refused (Input 0) ]) ≡ passed v → InputFits A bytes count v
      go (value w rest) p q =
          let a = both_passed (require (used rest) (Input 0)) (λ fine. passed w) v q in
          let same : w ≡ v = (let z = a.2 in cc) in
          let t = every_all (eqb (length rest) 0 ∷ leb (length bytes) dossier_bytes ∷ closes (stream_of bytes) count ∷ [])
          (require_holds (used rest) (Input 0) a.0 a.1) in
          let r = read_is_compact A (take count (held_bits bytes)) w rest (below_take 2 count (held_bits bytes) (stream_bits (take dossier_bytes bytes))) p in
          let bits : take count (held_bits bytes) ≡ compact v =
          r.1 ∙ ap₂ (λ (u : Val) (l : List Bit). compact u ++ l) same (no_bits rest (eqb-true _ _ t.0)) ∙ append-nil (compact v) in
          record { typed = subst (λ (u : Val). HasTy u A) same r.0; bits = bits_are bytes count (compact v) bits t.1.0 t.1.1.0 }
      go short p q = Checks.clash (cc)

  -- and an input that fits passes
  pub fits_input : InputFits A bytes count v → check_input A bytes count ≡ passed v
  unfolding check_input
  fits_input h =
      let b = are_bits bytes count (compact v) h.bits in
      let r : read_value A (take count (held_bits bytes)) ≡ value v [] = ap (read_value A) (b.0 ∙ sym (append-nil (compact v))) ∙ reads_compact h.typed [] in
      rw (r, check_input)
      (then_passes (require (used []) (Input 0)) (λ fine. passed v) tt
      (holds_require (used []) (Input 0)
      (all_every (eqb 0 0 ∷ leb (length bytes) dossier_bytes ∷ closes (stream_of bytes) count ∷ []) (refl, (b.1, (b.2, tt))))))

-- a node is a witness, or takes no bits
no_witness : (n : Node) → (n ≡ Node.witness) ⊎ ((n ≡ Node.witness → ⊥) × ((a b : Read) → on_witness n a b ≡ b))
unfolding on_witness
no_witness (Node.comp a b) = inr (λ e. Checks.clash (cc), λ a b. refl)
no_witness (Node.case a b) = inr (λ e. Checks.clash (cc), λ a b. refl)
no_witness (Node.pair a b) = inr (λ e. Checks.clash (cc), λ a b. refl)
no_witness (Node.disconnect a b) = inr (λ e. Checks.clash (cc), λ a b. refl)
no_witness (Node.injl a) = inr (λ e. Checks.clash (cc), λ a b. refl)
no_witness (Node.injr a) = inr (λ e. Checks.clash (cc), λ a b. refl)
no_witness (Node.take a) = inr (λ e. Checks.clash (cc), λ a b. refl)
no_witness (Node.drop a) = inr (λ e. Checks.clash (cc), λ a b. refl)
no_witness (Node.disconnect1 a) = inr (λ e. Checks.clash (cc), λ a b. refl)
no_witness Node.iden = inr (λ e. Checks.clash (cc), λ a b. refl)
no_witness Node.unit = inr (λ e. Checks.clash (cc), λ a b. refl)
no_witness Node.witness = inl refl
no_witness (Node.fail bytes) = inr (λ e. Checks.clash (cc), λ a b. refl)
no_witness (Node.hidden bytes) = inr (λ e. Checks.clash (cc), λ a b. refl)
no_witness (Node.word n bits) = inr (λ e. Checks.clash (cc), λ a b. refl)

module _ (types : List TypeRecord) (arrows : List Arrow) where
  -- what is read for node i
  abbrev read_for : (i : ℕ) → Node → List Bit → Read
  read_for i n bits = on_witness n (read_value (ty_at types (target arrows i)) bits) (value ⟨⟩ bits)

  -- the value of a node is read from its bits
  read_one : (i : ℕ) (n : Node) (v : Val) (rest : List Bit) → ValueFor types arrows i n v → read_for i n (compact v ++ rest) ≡ value v rest
  unfolding on_witness compact
  read_one i n v rest h = go (no_witness n)
    where
      go : (n ≡ Node.witness) ⊎ ((n ≡ Node.witness → ⊥) × ((a b : Read) → on_witness n a b ≡ b)) → read_for i n (compact v ++ rest) ≡ value v rest
      go (inl e) = ap (λ (n : Node). read_for i n (compact v ++ rest)) e ∙ reads_compact (h.witness e) rest
      go (inr k) = k.1 _ _ ∙ ap (λ (u : Val). value ⟨⟩ (compact u ++ rest)) (h.other k.0) ∙ ap (λ (u : Val). value u rest) (sym (h.other k.0))

  -- and what is read is its value, from its bits
  one_read : (i : ℕ) (n : Node) (bits : List Bit) (v : Val) (rest : List Bit) → AreBits bits → read_for i n bits ≡ value v rest
      → ValueFor types arrows i n v × (bits ≡ compact v ++ rest)
  unfolding on_witness compact
  one_read i n bits v rest are e = go (no_witness n)
    where
      go : (n ≡ Node.witness) ⊎ ((n ≡ Node.witness → ⊥) × ((a b : Read) → on_witness n a b ≡ b)) → ValueFor types arrows i n v × (bits ≡ compact v ++ rest)
      go (inl w) =
          let r = read_is_compact (ty_at types (target arrows i)) bits v rest are (ap (λ (n : Node). read_for i n bits) (sym w) ∙ e) in
          (record { witness = λ q. r.0; other = λ q. absurd (q w) }, r.1)
      go (inr k) =
          let q : value ⟨⟩ bits ≡ value v rest = sym (k.1 (read_value (ty_at types (target arrows i)) bits) (value ⟨⟩ bits)) ∙ e in
          let none : ⟨⟩ ≡ v = cc in
          let same : bits ≡ rest = cc in
          (record { witness = λ w. absurd (k.0 w); other = λ w. sym none }, same ∙ ap (λ (u : Val). compact u ++ rest) none)

  -- the values of all nodes from node i on, after those before
  values_read : (ns : List Node) (vs : List Val) (i : ℕ) (before : List Val) (rest : List Bit) → ValuesFor types arrows i ns vs
      → values_from types arrows i ns before (all_bits vs ++ rest) ≡ passed (record { values = before ++ vs; rest = rest })
  unfolding values_from all_bits
  values_read [] [] i before rest h = ap (λ (vs : List Val). passed (record { values = vs; rest = rest })) (sym (append-nil before))
  values_read [] (v ∷ vs) i before rest h = absurd h
  values_read (n ∷ ns) [] i before rest h = absurd h
  values_read (n ∷ ns) (v ∷ vs) i before rest h =
      rw (append_assoc (compact v) (all_bits vs) rest, read_one i n v (all_bits vs ++ rest) h.0, values_from)
      (values_read ns vs (suc i) (before ++ v ∷ []) rest h.1
      ∙ ap (λ (vs : List Val). passed (record { values = vs; rest = rest })) (append_assoc before (v ∷ []) vs))

  -- what was read: values for the nodes, whose bits stood there
  abbrev WasRead : (i : ℕ) → List Node → (before : List Val) → List Bit → Values → Type 0
  WasRead i ns before bits R = (vs : List Val) × ValuesFor types arrows i ns vs × (R.values ≡ before ++ vs) × (bits ≡ all_bits vs ++ R.rest)

  -- one node, and then the others
  was_read_step : (i : ℕ) (n : Node) (ns : List Node) (before : List Val) (bits : List Bit) (R : Values) (v : Val) (rest : List Bit)
      → ValueFor types arrows i n v → bits ≡ compact v ++ rest → WasRead (suc i) ns (before ++ v ∷ []) rest R → WasRead i (n ∷ ns) before bits R
  unfolding all_bits
  was_read_step i n ns before bits R v rest h e k = (
    v ∷ k.0,
    (h, k.1),
    k.2 ∙ append_assoc before (v ∷ []) k.0,
    e ∙ ap (λ (l : List Bit). compact v ++ l) k.3 ∙ sym (append_assoc (compact v) (all_bits k.0) R.rest),
  )

  -- of all nodes from node i on
  read_values : (ns : List Node) (i : ℕ) (before : List Val) (bits : List Bit) (R : Values) → AreBits bits → values_from types arrows i ns before bits ≡ passed R
      → WasRead i ns before bits R
  unfolding values_from all_bits
  read_values [] i before bits R are e =
      let q : record { values = before; rest = bits } ≡ R = cc in
      ([], tt, ap (λ (R : Values). R.values) (sym q) ∙ sym (append-nil before), ap (λ (R : Values). R.rest) q)
  read_values (n ∷ ns) i before bits R are e =
      go (read_for i n bits) refl e (λ v rest k f. read_values ns (suc i) (before ++ v ∷ []) rest R k f)
    where
      go : (r : Read) → read_for i n bits ≡ r
          → (elim r [ value v rest ↦ values_from types arrows (suc i) ns (before ++ v ∷ []) rest | short ↦ refused (Witness i) ]) ≡ passed R
          → ((v : Val) (rest : List Bit) → AreBits rest → values_from types arrows (suc i) ns (before ++ v ∷ []) rest ≡ passed R
          → WasRead (suc i) ns (before ++ v ∷ []) rest R)
          → WasRead i (n ∷ ns) before bits R
      go (value v rest) p q later =
          let r = one_read i n bits v rest are p in
          was_read_step i n ns before bits R v rest r.0 r.1 (later v rest (below_back (compact v) rest (subst AreBits r.1 are)) q)
      go short p q later = Checks.clash (cc)

  module _ (nodes : List Node) (bytes : List ℕ) (count : ℕ) (values : List Val) where
    -- the test of what is left
    abbrev left : List Bit → Bool
    left rest = used_up bytes count rest

    -- witness bits that passed
    pub witness_fits : check_witness types nodes arrows bytes count ≡ passed values → WitnessFits types nodes arrows bytes count values
    unfolding check_witness
    witness_fits e =
        let a = both_passed (values_from types arrows 0 nodes [] (take count (held_bits bytes)))
        (λ read. require (left read.rest) (Witness (length nodes)) >>= λ fine. passed read.values) values e in
        let b = both_passed (require (left a.0.rest) (Witness (length nodes))) (λ fine. passed a.0.values) values a.2 in
        let t = every_all (eqb (length a.0.rest) 0 ∷ leb (length bytes) dossier_bytes ∷ closes (stream_of bytes) count ∷ [])
        (require_holds (left a.0.rest) (Witness (length nodes)) b.0 b.1) in
        let r = read_values nodes 0 [] (take count (held_bits bytes)) a.0
        (below_take 2 count (held_bits bytes) (stream_bits (take dossier_bytes bytes))) a.1 in
        let same : r.0 ≡ values = (let z = b.2 in let y = r.2 in cc) in
        let bits : take count (held_bits bytes) ≡ all_bits values =
        r.3 ∙ ap₂ (λ (vs : List Val) (l : List Bit). all_bits vs ++ l) same (no_bits a.0.rest (eqb-true _ _ t.0)) ∙ append-nil (all_bits values) in
        record { each = subst (ValuesFor types arrows 0 nodes) same r.1; bits = bits_are bytes count (all_bits values) bits t.1.0 t.1.1.0 }

    -- and witness bits that fit pass
    pub fits_witness : WitnessFits types nodes arrows bytes count values → check_witness types nodes arrows bytes count ≡ passed values
    unfolding check_witness
    fits_witness h =
        let b = are_bits bytes count (all_bits values) h.bits in
        let r : values_from types arrows 0 nodes [] (take count (held_bits bytes)) ≡ passed (record { values = values; rest = [] }) =
        ap (values_from types arrows 0 nodes []) (b.0 ∙ sym (append-nil (all_bits values))) ∙ values_read nodes values 0 [] [] h.each in
        then_passes (values_from types arrows 0 nodes [] (take count (held_bits bytes)))
        (λ read. require (left read.rest) (Witness (length nodes)) >>= λ fine. passed read.values)
        (record { values = values; rest = [] }) r
        ∙ then_passes (require (left []) (Witness (length nodes))) (λ fine. passed values) tt
        (holds_require (left []) (Witness (length nodes))
        (all_every (eqb 0 0 ∷ leb (length bytes) dossier_bytes ∷ closes (stream_of bytes) count ∷ []) (refl, (b.1, (b.2, tt)))))
