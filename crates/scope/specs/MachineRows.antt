-- The machine, computed: each rule with just enough room and with one cell or one frame less, and how each kind of term is run, on old ones and on old zeros.
use Rattle.std.specs.Prelude.{◌≡◌, refl, Bool, true, false, List, [], ◌∷◌, ℕ, zero, suc, ◌+◌, get_or}
use Rattle.report.specs.Lines.{◌is◌, Hold, b1, b2, b3, o, i}
use Rattle.report.specs.Bits.{Bit}
use Rattle.report.specs.Types.{one, sum, word_ty}
use Rattle.report.specs.Values.{Val, ⟨⟩, inl, ◌&◌, Cells}
use Rattle.report.specs.Terms.{Term, iden, comp, unit, injl, injr, case, pair, take, drop, assertl, assertr, fail, witness, word, disconnect, bad}
use Rattle.report.specs.Meaning.{Out, done, failed, pruned, stuck}
use Rattle.scope.specs.Numbers.{tabulate_from}
use Rattle.scope.specs.Machine.{Frame, frame, frame_numbers_of, frame_at, State, state, Step, put_bits, copy_cells, new_frame, move_frame, drop_frame, write_bits, skip, copy, fwd, back, peek, input, output, exec, machine, answer}

-- cells that begin with these bits, and hold one and the same after them
abbrev cells : List Bit → (rest : Bit) → Cells
cells bits rest p = get_or bits p rest

-- n cells of a state from a place on, its frames, and the first cell above them
pub record View : Type 0 where
  pub bits : List Bit
  pub read_frames : List Frame
  pub write_frames : List Frame
  pub free : ℕ

abbrev view : List Bit → (reads writes : List Frame) → (next : ℕ) → View
view bs rs ws nx = record { bits = bs; read_frames = rs; write_frames = ws; free = nx }

abbrev seen : (from n : ℕ) → State → View
seen from n s = view (tabulate_from from n s.cells) s.reads s.writes s.next

unfoldable pub shown : (from n : ℕ) → Step → Out View View
unfolding tabulate_from
shown from n (done s) = done (seen from n s)
shown from n (failed p s) = failed p (seen from n s)
shown from n (pruned p s) = pruned p (seen from n s)
shown from n stuck = stuck

-- three numbers a record; a number past the end is 0
frame_records_lem : Hold (
    frame_at (9 ∷ 1 ∷ 2 ∷ 3 ∷ []) 1 is frame 1 2 3
    ∷ frame_at [] 0 is frame 0 0 0
    ∷ [])
unfolding Hold
frame_records_lem = refl

frame_numbers_lem : frame_numbers_of (frame 1 2 3) ≡ 1 ∷ 2 ∷ 3 ∷ []
frame_numbers_lem = refl

bits_put : Hold (
    tabulate_from 0 5 (put_bits (cells [] 1) 1 (0 ∷ 1 ∷ 0 ∷ [])) is (1 ∷ 0 ∷ 1 ∷ 0 ∷ 1 ∷ [])
    -- cells are copied one after the other, each from the cells as they then are
    ∷ tabulate_from 0 5 (copy_cells (cells (1 ∷ 0 ∷ 1 ∷ []) 0) 0 2 3) is (1 ∷ 0 ∷ 1 ∷ 0 ∷ 1 ∷ [])
    ∷ tabulate_from 0 5 (copy_cells (cells (1 ∷ []) 0) 0 1 3) is (1 ∷ 1 ∷ 1 ∷ 1 ∷ 0 ∷ [])
    ∷ [])
unfolding Hold put_bits copy_cells tabulate_from
bits_put = refl

-- a read frame of cells 0 to 2 with its cursor at 1, a write frame of cells 3 to 6 with its cursor at 5
abbrev S : State
S = state (cells (1 ∷ 0 ∷ 1 ∷ []) 0) (frame 1 0 3 ∷ []) (frame 5 3 4 ∷ []) 7

-- no frame
abbrev bare : State
bare = state (cells [] 0) [] [] 7

-- the read frame is the uppermost, up to this cell
abbrev up_to : ℕ → State
up_to nx = state (cells [] 0) (frame 5 4 3 ∷ frame 1 0 2 ∷ []) (frame 2 2 2 ∷ []) nx

rules : Hold (
    -- a frame above all frames, within the cells and the frames there are; old bits stay
    shown 0 8 (new_frame 9 3 2 S) is done (view (1 ∷ 0 ∷ 1 ∷ 0 ∷ 0 ∷ 0 ∷ 0 ∷ 0 ∷ []) (frame 1 0 3 ∷ []) (frame 7 7 2 ∷ frame 5 3 4 ∷ []) 9)
    ∷ shown 0 1 (new_frame 7 3 0 S) is done (view (1 ∷ []) (frame 1 0 3 ∷ []) (frame 7 7 0 ∷ frame 5 3 4 ∷ []) 7)
    ∷ shown 0 0 (new_frame 8 3 2 S) is stuck
    ∷ shown 0 0 (new_frame 9 2 2 S) is stuck
    ∷ shown 0 0 (new_frame 9 4 2 (up_to 7)) is done (view [] (frame 5 4 3 ∷ frame 1 0 2 ∷ []) (frame 7 7 2 ∷ frame 2 2 2 ∷ []) 9)
    ∷ shown 0 0 (new_frame 9 3 2 (up_to 7)) is stuck
    -- the write frame becomes the read frame, its cursor at its start
    ∷ shown 0 3 (move_frame S) is done (view (1 ∷ 0 ∷ 1 ∷ []) (frame 3 3 4 ∷ frame 1 0 3 ∷ []) [] 7)
    ∷ shown 0 0 (move_frame bare) is stuck
    -- the read frame goes, if it is the uppermost
    ∷ shown 0 1 (drop_frame (up_to 7)) is done (view (0 ∷ []) (frame 1 0 2 ∷ []) (frame 2 2 2 ∷ []) 4)
    ∷ shown 0 0 (drop_frame (up_to 6)) is stuck
    ∷ shown 0 0 (drop_frame (up_to 8)) is stuck
    ∷ shown 0 0 (drop_frame bare) is stuck
    -- bits from the write cursor on, as far as the frame goes
    ∷ shown 3 5 (write_bits (1 ∷ 1 ∷ []) S) is done (view (0 ∷ 0 ∷ 1 ∷ 1 ∷ 0 ∷ []) (frame 1 0 3 ∷ []) (frame 7 3 4 ∷ []) 7)
    ∷ shown 3 5 (write_bits (1 ∷ []) S) is done (view (0 ∷ 0 ∷ 1 ∷ 0 ∷ 0 ∷ []) (frame 1 0 3 ∷ []) (frame 6 3 4 ∷ []) 7)
    ∷ shown 0 0 (write_bits (1 ∷ 0 ∷ 1 ∷ []) S) is stuck
    ∷ shown 0 0 (write_bits (1 ∷ []) bare) is stuck
    ∷ shown 0 0 (write_bits [] bare) is done (view [] [] [] 7)
    -- the write cursor alone
    ∷ shown 0 3 (skip 2 S) is done (view (1 ∷ 0 ∷ 1 ∷ []) (frame 1 0 3 ∷ []) (frame 7 3 4 ∷ []) 7)
    ∷ shown 0 0 (skip 3 S) is stuck
    ∷ shown 0 0 (skip 1 bare) is stuck
    ∷ shown 0 0 (skip 0 bare) is done (view [] [] [] 7)
    -- from the read cursor to the write cursor, as far as both frames go
    ∷ shown 3 5 (copy 2 S) is done (view (0 ∷ 0 ∷ 0 ∷ 1 ∷ 0 ∷ []) (frame 1 0 3 ∷ []) (frame 7 3 4 ∷ []) 7)
    ∷ shown 0 0 (copy 3 (state (cells [] 0) (frame 1 0 3 ∷ []) (frame 4 3 4 ∷ []) 7)) is stuck
    ∷ shown 0 0 (copy 3 (state (cells [] 0) (frame 0 0 3 ∷ []) (frame 5 3 4 ∷ []) 7)) is stuck
    ∷ shown 0 0 (copy 1 (state (cells [] 0) [] (frame 4 3 4 ∷ []) 7)) is stuck
    ∷ shown 0 0 (copy 1 (state (cells [] 0) (frame 1 0 3 ∷ []) [] 7)) is stuck
    ∷ shown 0 0 (copy 0 bare) is done (view [] [] [] 7)
    -- the read cursor on and back, within its frame
    ∷ shown 0 3 (fwd 2 S) is done (view (1 ∷ 0 ∷ 1 ∷ []) (frame 3 0 3 ∷ []) (frame 5 3 4 ∷ []) 7)
    ∷ shown 0 0 (fwd 3 S) is stuck
    ∷ shown 0 0 (fwd 1 bare) is stuck
    ∷ shown 0 0 (fwd 0 bare) is done (view [] [] [] 7)
    ∷ shown 0 3 (back 1 S) is done (view (1 ∷ 0 ∷ 1 ∷ []) (frame 0 0 3 ∷ []) (frame 5 3 4 ∷ []) 7)
    ∷ shown 0 1 (back 2 (up_to 7)) is stuck
    ∷ shown 0 0 (back 1 bare) is stuck
    ∷ shown 0 0 (back 0 bare) is done (view [] [] [] 7)
    -- input and output of width above 0 get their frames, and others none
    ∷ shown 6 5 (input 9 1 2 (1 ∷ 0 ∷ []) bare) is done (view (0 ∷ 1 ∷ 0 ∷ 0 ∷ 0 ∷ []) (frame 7 7 2 ∷ []) [] 9)
    ∷ shown 0 0 (input 8 1 2 (1 ∷ 0 ∷ []) bare) is stuck
    ∷ shown 0 0 (input 9 0 2 (1 ∷ 0 ∷ []) bare) is stuck
    ∷ shown 0 0 (input 0 0 0 [] bare) is done (view [] [] [] 7)
    ∷ shown 0 0 (output 9 1 2 bare) is done (view [] [] (frame 7 7 2 ∷ []) 9)
    ∷ shown 0 0 (output 8 1 2 bare) is stuck
    ∷ shown 0 0 (output 9 0 2 bare) is stuck
    ∷ shown 0 0 (output 0 0 0 bare) is done (view [] [] [] 7)
    ∷ [])
unfolding Hold shown new_frame move_frame drop_frame write_bits skip copy fwd back input output
rules = refl

-- the bit at the read cursor, if the frame has one there; it is shown as it is, so that only its bit counts
unfoldable pub bit_shown : Out State Bit → Out (Unit {0}) Bit
bit_shown (done b) = done b
bit_shown (failed p s) = failed p tt
bit_shown (pruned p s) = pruned p tt
bit_shown stuck = stuck

peeks : Hold (
    bit_shown (peek S) is done 0
    ∷ bit_shown (peek (state (cells (1 ∷ 0 ∷ 1 ∷ []) 0) (frame 2 0 3 ∷ []) [] 7)) is done 1
    ∷ bit_shown (peek (state (cells [] 0) (frame 3 0 3 ∷ []) [] 7)) is stuck
    ∷ bit_shown (peek bare) is stuck
    ∷ [])
unfolding Hold bit_shown peek state
peeks = refl

-- a read frame of cells 0 to 6, its cursor at the second, which begins with this tag; a write frame of cells 7 to 12, its cursor at the second; old bits
abbrev on : (tag old : Bit) → State
on tag old = state (cells (1 ∷ tag ∷ 0 ∷ 0 ∷ 1 ∷ 0 ∷ 1 ∷ []) old) (frame 1 0 7 ∷ []) (frame 8 7 6 ∷ []) 13

-- cells 7 to 14 after a run in 15 cells and 4 frames
abbrev ran : Term → (tag old : Bit) → Out View View
ran t tag old = shown 7 8 (exec 15 4 t (on tag old))

-- the same, with the read cursor back, no new frame left, and the write cursor n on
abbrev wrote : List Bit → (n : ℕ) → Out View View
wrote bits n = done (view bits (frame 1 0 7 ∷ []) (frame (8 + n) 7 6 ∷ []) 13)

runs : Hold (
    ran (iden b2) 1 0 is wrote (0 ∷ 1 ∷ 0 ∷ 0 ∷ 0 ∷ 0 ∷ 0 ∷ 0 ∷ []) 2
    ∷ ran (iden b2) 0 1 is wrote (1 ∷ 0 ∷ 0 ∷ 1 ∷ 1 ∷ 1 ∷ 1 ∷ 1 ∷ []) 2
    ∷ ran unit 0 1 is wrote (1 ∷ 1 ∷ 1 ∷ 1 ∷ 1 ∷ 1 ∷ 1 ∷ 1 ∷ []) 0
    -- injl and injr write their tag and pass over their padding, which keeps its old cells
    ∷ ran (injl b1 b3 (iden b1)) 0 1 is wrote (1 ∷ 0 ∷ 1 ∷ 1 ∷ 0 ∷ 1 ∷ 1 ∷ 1 ∷ []) 4
    ∷ ran (injl b3 b1 (iden b3)) 1 0 is wrote (0 ∷ 0 ∷ 1 ∷ 0 ∷ 0 ∷ 0 ∷ 0 ∷ 0 ∷ []) 4
    ∷ ran (injr b3 b1 (iden b1)) 0 1 is wrote (1 ∷ 1 ∷ 1 ∷ 1 ∷ 0 ∷ 1 ∷ 1 ∷ 1 ∷ []) 4
    ∷ ran (injr b1 b3 (iden b3)) 1 0 is wrote (0 ∷ 1 ∷ 1 ∷ 0 ∷ 0 ∷ 0 ∷ 0 ∷ 0 ∷ []) 4
    -- witness and word write padding as 0
    ∷ ran (witness (sum b1 b3) (inl i)) 0 1 is wrote (1 ∷ 0 ∷ 0 ∷ 0 ∷ 1 ∷ 1 ∷ 1 ∷ 1 ∷ []) 4
    ∷ ran (word b3 (i & o & i)) 0 1 is wrote (1 ∷ 1 ∷ 0 ∷ 1 ∷ 1 ∷ 1 ∷ 1 ∷ 1 ∷ []) 3
    -- a pair goes left first
    ∷ ran (pair b1 (witness b1 o) (witness b1 i)) 0 0 is wrote (0 ∷ 0 ∷ 1 ∷ 0 ∷ 0 ∷ 0 ∷ 0 ∷ 0 ∷ []) 2
    ∷ ran (take (iden b1)) 1 0 is wrote (0 ∷ 1 ∷ 0 ∷ 0 ∷ 0 ∷ 0 ∷ 0 ∷ 0 ∷ []) 1
    -- drop passes over the left part, and goes back
    ∷ ran (drop b3 (iden b1)) 0 0 is wrote (0 ∷ 1 ∷ 0 ∷ 0 ∷ 0 ∷ 0 ∷ 0 ∷ 0 ∷ []) 1
    -- a case passes over the tag and the padding of its part, and goes back
    ∷ ran (case b1 b3 (iden b2) (fail 9)) 0 0 is wrote (0 ∷ 1 ∷ 0 ∷ 0 ∷ 0 ∷ 0 ∷ 0 ∷ 0 ∷ []) 2
    ∷ ran (case b3 b1 (iden b3) (fail 9)) 0 0 is wrote (0 ∷ 0 ∷ 0 ∷ 1 ∷ 0 ∷ 0 ∷ 0 ∷ 0 ∷ []) 3
    ∷ ran (case b3 b1 (fail 9) (iden b2)) 1 0 is wrote (0 ∷ 1 ∷ 0 ∷ 0 ∷ 0 ∷ 0 ∷ 0 ∷ 0 ∷ []) 2
    ∷ ran (case b1 b3 (fail 9) (iden b3)) 1 0 is wrote (0 ∷ 0 ∷ 0 ∷ 1 ∷ 0 ∷ 0 ∷ 0 ∷ 0 ∷ []) 3
    ∷ ran (assertl 5 b1 b3 (iden b2)) 0 0 is wrote (0 ∷ 1 ∷ 0 ∷ 0 ∷ 0 ∷ 0 ∷ 0 ∷ 0 ∷ []) 2
    ∷ ran (assertl 5 b3 b1 (iden b3)) 0 0 is wrote (0 ∷ 0 ∷ 0 ∷ 1 ∷ 0 ∷ 0 ∷ 0 ∷ 0 ∷ []) 3
    ∷ ran (assertr 6 b3 b1 (iden b2)) 1 0 is wrote (0 ∷ 1 ∷ 0 ∷ 0 ∷ 0 ∷ 0 ∷ 0 ∷ 0 ∷ []) 2
    ∷ ran (assertr 6 b1 b3 (iden b3)) 1 0 is wrote (0 ∷ 0 ∷ 0 ∷ 1 ∷ 0 ∷ 0 ∷ 0 ∷ 0 ∷ []) 3
    -- a comp's frame stands above all, and its cells stay; even of width 0 it needs a frame
    ∷ ran (comp b2 (iden b2) (drop b1 (iden b1))) 1 0 is wrote (0 ∷ 0 ∷ 0 ∷ 0 ∷ 0 ∷ 0 ∷ 1 ∷ 0 ∷ []) 1
    ∷ ran (comp b2 (iden b2) (take (iden b1))) 1 0 is wrote (0 ∷ 1 ∷ 0 ∷ 0 ∷ 0 ∷ 0 ∷ 1 ∷ 0 ∷ []) 1
    ∷ ran (comp b3 (iden b3) unit) 1 0 is stuck
    ∷ shown 7 2 (exec 13 3 (comp one unit unit) (on 0 0)) is wrote (0 ∷ 0 ∷ []) 0
    ∷ shown 7 2 (exec 13 2 (comp one unit unit) (on 0 0)) is stuck
    -- where a run stops, with the state at the stop
    ∷ ran (fail 3) 0 1 is failed 3 (view (1 ∷ 1 ∷ 1 ∷ 1 ∷ 1 ∷ 1 ∷ 1 ∷ 1 ∷ []) (frame 1 0 7 ∷ []) (frame 8 7 6 ∷ []) 13)
    ∷ ran (assertl 5 b1 b3 unit) 1 1 is pruned 5 (view (1 ∷ 1 ∷ 1 ∷ 1 ∷ 1 ∷ 1 ∷ 1 ∷ 1 ∷ []) (frame 1 0 7 ∷ []) (frame 8 7 6 ∷ []) 13)
    ∷ ran (assertr 6 b1 b3 unit) 0 1 is pruned 6 (view (1 ∷ 1 ∷ 1 ∷ 1 ∷ 1 ∷ 1 ∷ 1 ∷ 1 ∷ []) (frame 1 0 7 ∷ []) (frame 8 7 6 ∷ []) 13)
    ∷ ran (pair b1 (injr one one (fail 4)) (fail 5)) 0 0 is failed 4 (view (0 ∷ 1 ∷ 0 ∷ 0 ∷ 0 ∷ 0 ∷ 0 ∷ 0 ∷ []) (frame 1 0 7 ∷ []) (frame 9 7 6 ∷ []) 13)
    ∷ ran bad 0 1 is stuck
    ∷ [])
unfolding Hold shown exec
runs = refl

-- a comp within each kind of term: it needs a frame and a place above the frames, of the cells and frames that the whole has
abbrev inner : Term
inner = comp one unit unit

unfoldable pub is_done : Step → Bool
is_done (done s) = true
is_done (failed p s) = false
is_done (pruned p s) = false
is_done stuck = false

-- with as many frames as it takes, and with one less
abbrev framed : Term → (tag frames : ℕ) → List Bool
framed t tag n = is_done (exec 20 (suc n) t (on tag 0)) ∷ is_done (exec 20 n t (on tag 0)) ∷ []

rooms_within : Hold (
    framed inner 0 2 is (true ∷ false ∷ [])
    ∷ framed (injl one one inner) 0 2 is (true ∷ false ∷ [])
    ∷ framed (injr one one inner) 0 2 is (true ∷ false ∷ [])
    ∷ framed (pair one inner unit) 0 2 is (true ∷ false ∷ [])
    ∷ framed (pair one unit inner) 0 2 is (true ∷ false ∷ [])
    ∷ framed (take inner) 0 2 is (true ∷ false ∷ [])
    ∷ framed (drop b1 inner) 0 2 is (true ∷ false ∷ [])
    ∷ framed (case b1 b1 inner unit) 0 2 is (true ∷ false ∷ [])
    ∷ framed (case b1 b1 unit inner) 1 2 is (true ∷ false ∷ [])
    ∷ framed (assertl 5 b1 b1 inner) 0 2 is (true ∷ false ∷ [])
    ∷ framed (assertr 6 b1 b1 inner) 1 2 is (true ∷ false ∷ [])
    ∷ framed (comp one inner unit) 0 3 is (true ∷ false ∷ [])
    ∷ framed (comp one unit inner) 0 3 is (true ∷ false ∷ [])
    ∷ [])
unfolding Hold is_done exec
rooms_within = refl

-- the word of 2 ^ k ones
unfoldable pub ones : (k : ℕ) → Val
ones zero = i
ones (suc k) = ones k & ones k

-- from a bit, of a left child that keeps 1 0 and hands its input on, and a right child that puts a tag before it: in just the cells and
-- frames there must be, and one less
abbrev disconnected : (size most : ℕ) → Out View View
disconnected size most =
    shown 7 8 (exec size most (disconnect b1 b2 b1 (ones 8) (drop (word_ty 8) (pair b2 (witness b2 (i & o)) (iden b1))) (injr one b1 (iden b1))) (on 0 0))

disconnects : Hold (
    disconnected 273 4 is wrote (0 ∷ 1 ∷ 0 ∷ 1 ∷ 0 ∷ 0 ∷ 1 ∷ 1 ∷ []) 4
    ∷ disconnected 272 4 is stuck
    ∷ disconnected 273 3 is stuck
    -- the same with a comp in the left child, and in the right one
    ∷ shown 0 0 (exec 273 5 (disconnect b1 one one (ones 8) (comp one unit (pair one unit unit)) unit) (on 0 0)) is wrote [] 0
    ∷ shown 0 0 (exec 273 4 (disconnect b1 one one (ones 8) (comp one unit (pair one unit unit)) unit) (on 0 0)) is stuck
    ∷ shown 0 0 (exec 273 5 (disconnect b1 one one (ones 8) (pair one unit unit) inner) (on 0 0)) is wrote [] 0
    ∷ shown 0 0 (exec 273 4 (disconnect b1 one one (ones 8) (pair one unit unit) inner) (on 0 0)) is stuck
    -- the hash stands before the input, and what the left child writes after both
    ∷ shown 267 8 (exec 273 4 (disconnect b1 b2 b1 (ones 8) (drop (word_ty 8) (pair b2 (witness b2 (i & o)) (iden b1))) unit) (on 0 0))
    is wrote (1 ∷ 1 ∷ 0 ∷ 1 ∷ 0 ∷ 0 ∷ 0 ∷ 0 ∷ []) 2
    ∷ [])
unfolding Hold shown exec ones word_ty
disconnects = refl

-- a whole run, from a bit to 1 + b1: the input at cell 0, the output after it; no frame where a width is 0
machines : Hold (
    shown 0 5 (machine 4 2 (injr one b1 (iden b1)) b1 (sum one b1) i (cells [] 0)) is done
    (view (1 ∷ 1 ∷ 1 ∷ 0 ∷ 0 ∷ []) (frame 0 0 1 ∷ []) (frame 3 1 2 ∷ []) 3)
    ∷ shown 0 3 (machine 2 1 (witness b2 (o & i)) one b2 ⟨⟩ (cells [] 1)) is done (view (0 ∷ 1 ∷ 1 ∷ []) [] (frame 2 0 2 ∷ []) 2)
    ∷ shown 0 3 (machine 3 1 unit (sum one b2) one (inl ⟨⟩) (cells [] 1)) is done (view (0 ∷ 0 ∷ 0 ∷ []) (frame 0 0 3 ∷ []) [] 3)
    -- a cell or a frame less than input, output or the run need
    ∷ shown 0 0 (machine 2 9 unit (sum one b2) one (inl ⟨⟩) (cells [] 1)) is stuck
    ∷ shown 0 0 (machine 9 0 unit (sum one b2) one (inl ⟨⟩) (cells [] 1)) is stuck
    ∷ shown 0 0 (machine 1 9 (iden b1) b1 b1 i (cells [] 1)) is stuck
    ∷ shown 0 0 (machine 9 1 (iden b1) b1 b1 i (cells [] 1)) is stuck
    ∷ shown 0 0 (machine 0 1 inner one one ⟨⟩ (cells [] 1)) is done (view [] [] [] 0)
    ∷ shown 0 0 (machine 9 0 inner one one ⟨⟩ (cells [] 1)) is stuck
    ∷ shown 0 0 (machine 0 9 (comp b1 (witness b1 o) unit) one one ⟨⟩ (cells [] 1)) is stuck
    ∷ [])
unfolding Hold shown machine
machines = refl

-- the value in the output frame, or where the run stopped
answers : Hold (
    answer b1 b2 (done (state (cells (1 ∷ 0 ∷ 1 ∷ []) 0) [] [] 0)) is done (o & i)
    ∷ answer b2 b1 (done (state (cells (1 ∷ 0 ∷ 1 ∷ []) 0) [] [] 0)) is done i
    ∷ answer b1 b2 (failed 3 bare) is failed 3 tt
    ∷ answer b1 b2 (pruned 4 bare) is pruned 4 tt
    ∷ answer b1 b2 stuck is stuck
    ∷ [])
unfolding Hold answer state
answers = refl
