-- How the machine of the requirements lies in the stores: its cells as a list, its two stacks of frames in one list of records.
-- And the laws of that layout: where the active frames stand, and what it is to set a record.
use Rattle.std.specs.Prelude.{◌≡◌, refl, List, [], ◌∷◌, ◌++◌, ℕ, zero, suc, ◌+◌, ◌-◌, ◌<◌, ◌≤◌, length, get_or, set, replicate}
use Rattle.std.proofs.Common.{sym, ap, ◌∙◌, append-nil, arith, zero-add, add-zero, length-append, get_or-append-add}
use Rattle.std.proofs.lemmas.List.{length-replicate, get_or-replicate}
use Rattle.std.proofs.Math.ListN.{get_or-append}
use Rattle.report.specs.Values.{Cells}
use Rattle.scope.specs.Numbers.{tabulate}
use Rattle.scope.specs.Machine.{Frame, State}
use Rattle.common.specs.Lists.{set-append-add}
use Rattle.layout.specs.Mach.{Mach, mach, no_frame}

-- a state by its four parts
abbrev pub state_of : Cells → (reads writes : List Frame) → ℕ → State
state_of c rs ws nx = record { cells = c; reads = rs; writes = ws; next = nx }

-- the frames of a stack from its lowest to its active one, and then a list
abbrev pub stacked : List Frame → List Frame → List Frame
stacked [] l = l
stacked (f ∷ fs) l = stacked fs (f ∷ l)

-- the records of two stacks with so many free records between them: write frames upwards, read frames downwards from the end
abbrev pub arranged : (free : ℕ) → (writes reads : List Frame) → List Frame
arranged free ws rs = stacked ws (replicate free no_frame ++ rs)

-- a state in a list of `lent` cells and of `most` records
abbrev pub layout : (lent most : ℕ) → State → Mach
layout lent most s =
    mach (tabulate lent s.cells) (arranged (most - (length s.reads + length s.writes)) s.writes s.reads) (length s.writes)
    (length s.reads) s.next

-- two stacks as records

stacked-length : (ws l : List Frame) → length (stacked ws l) ≡ length ws + length l
stacked-length [] l = sym (zero-add (length l))
stacked-length (f ∷ ws) l = let z : length (stacked ws (f ∷ l)) ≡ length ws + length (f ∷ l) = stacked-length ws (f ∷ l) in omega arith

stacked_get : (ws l : List Frame) (k : ℕ) → get_or (stacked ws l) (length ws + k) no_frame ≡ get_or l k no_frame
stacked_get [] l k = rw zero-add
stacked_get (f ∷ ws) l k =
    let e : suc (length ws) + k ≡ length ws + suc k = omega arith in
    rw e (stacked_get ws (f ∷ l) (suc k))

stacked-set : (ws l : List Frame) (k : ℕ) (g : Frame) → set (stacked ws l) (length ws + k) g ≡ stacked ws (set l k g)
stacked-set [] l k g = rw zero-add
stacked-set (f ∷ ws) l k g =
    let e : suc (length ws) + k ≡ length ws + suc k = omega arith in
    rw e (stacked-set ws (f ∷ l) (suc k) g)

free_length : (z : ℕ) (rs : List Frame) → length (replicate z no_frame ++ rs) ≡ z + length rs
free_length z rs = omega (arith, length-append (replicate z no_frame) rs, length-replicate z no_frame)

free_get : (z : ℕ) (rs : List Frame) (k : ℕ) → get_or (replicate z no_frame ++ rs) (z + k) no_frame ≡ get_or rs k no_frame
free_get z rs k =
    ap (λ n. get_or (replicate z no_frame ++ rs) (n + k) no_frame) (sym (length-replicate z no_frame)) ∙ get_or-append-add (replicate z no_frame) rs k no_frame

free_set : (z : ℕ) (rs : List Frame) (k : ℕ) (g : Frame) → set (replicate z no_frame ++ rs) (z + k) g ≡ replicate z no_frame ++ set rs k g
free_set z rs k g =
    ap (λ n. set (replicate z no_frame ++ rs) (n + k) g) (sym (length-replicate z no_frame)) ∙ set-append-add (replicate z no_frame) rs k g

-- a free record more, behind the free ones or before them
free_more : (z : ℕ) (rs : List Frame) → replicate z no_frame ++ no_frame ∷ rs ≡ no_frame ∷ (replicate z no_frame ++ rs)
free_more zero rs = refl
free_more (suc z) rs = ap (λ l. no_frame ∷ l) (free_more z rs)

-- as many records as frames and free ones
pub arranged-length : (z : ℕ) (ws rs : List Frame) → length (arranged z ws rs) ≡ length ws + (z + length rs)
arranged-length z ws rs = stacked-length ws (replicate z no_frame ++ rs) ∙ ap (λ k. length ws + k) (free_length z rs)

-- the active frames stand where the machine looks, and are set there
module _ (z : ℕ) (f : Frame) (ws rs : List Frame) where
  write_place_lem : length (f ∷ ws) - 1 ≡ length ws + 0
  write_place_lem = omega arith

  pub write_get : get_or (arranged z (f ∷ ws) rs) (length (f ∷ ws) - 1) no_frame ≡ f
  write_get = rw write_place_lem (stacked_get ws (f ∷ (replicate z no_frame ++ rs)) 0)

  pub write_set : (g : Frame) → set (arranged z (f ∷ ws) rs) (length (f ∷ ws) - 1) g ≡ arranged z (g ∷ ws) rs
  write_set g = rw write_place_lem (stacked-set ws (f ∷ (replicate z no_frame ++ rs)) 0 g)

  read_place_lem : length (arranged z ws (f ∷ rs)) - length (f ∷ rs) ≡ length ws + (z + 0)
  read_place_lem = omega (arith, arranged-length z ws (f ∷ rs))

  pub read_get : get_or (arranged z ws (f ∷ rs)) (length (arranged z ws (f ∷ rs)) - length (f ∷ rs)) no_frame ≡ f
  read_get = rw read_place_lem (stacked_get ws (replicate z no_frame ++ f ∷ rs) (z + 0) ∙ free_get z (f ∷ rs) 0)

  pub read_set : (g : Frame) → set (arranged z ws (f ∷ rs)) (length (arranged z ws (f ∷ rs)) - length (f ∷ rs)) g ≡ arranged z ws (g ∷ rs)
  read_set g = rw read_place_lem (stacked-set ws (replicate z no_frame ++ f ∷ rs) (z + 0) g ∙ ap (λ l. stacked ws l) (free_set z (f ∷ rs) 0 g))

  -- a frame in the first free record
  pub push_set : set (arranged (suc z) ws rs) (length ws) f ≡ arranged z (f ∷ ws) rs
  push_set = ap (λ k. set (arranged (suc z) ws rs) k f) (sym (add-zero (length ws))) ∙ stacked-set ws (no_frame ∷ (replicate z no_frame ++ rs)) 0 f

  -- the active write frame's record free, and a frame in the last free record
  pub move_set : (g : Frame)
      → set (set (arranged z (f ∷ ws) rs) (length (f ∷ ws) - 1) no_frame) (length (arranged z (f ∷ ws) rs) - (length rs + 1)) g ≡ arranged z ws (g ∷ rs)
  move_set g =
      let place : length (arranged z (f ∷ ws) rs) - (length rs + 1) ≡ length ws + (z + 0) = omega (arith, arranged-length z (f ∷ ws) rs) in
      ap (λ k. set (set (arranged z (f ∷ ws) rs) (length (f ∷ ws) - 1) no_frame) k g) place
      ∙ ap (λ l. set l (length ws + (z + 0)) g) (write_set no_frame ∙ ap (λ l. stacked ws l) (sym (free_more z rs)))
      ∙ stacked-set ws (replicate z no_frame ++ no_frame ∷ rs) (z + 0) g
      ∙ ap (λ l. stacked ws l) (free_set z (no_frame ∷ rs) 0 g)

  -- the active read frame's record free
  pub drop_set : set (arranged z ws (f ∷ rs)) (length (arranged z ws (f ∷ rs)) - length (f ∷ rs)) no_frame ≡ arranged (suc z) ws rs
  drop_set = read_set no_frame ∙ ap (λ l. stacked ws l) (free_more z rs)

-- no frame at all: every record is free
pub arranged_none : (z : ℕ) → arranged z [] [] ≡ replicate z no_frame
arranged_none z = append-nil (replicate z no_frame)

-- a record between the two stacks is free
pub arranged_free : (z : ℕ) (ws rs : List Frame) (k : ℕ) → length ws ≤ k → k < length ws + z → get_or (arranged z ws rs) k no_frame ≡ no_frame
arranged_free z ws rs k low high =
    let j : ℕ = k - length ws in
    let e : k ≡ length ws + j = omega arith in
    ap (λ k. get_or (arranged z ws rs) k no_frame) e ∙ stacked_get ws (replicate z no_frame ++ rs) j
    ∙ get_or-append (replicate z no_frame) rs no_frame j (omega (arith, length-replicate z no_frame)) ∙ get_or-replicate z j no_frame no_frame (omega arith)
