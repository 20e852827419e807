-- Room at the cursor of the active frame, and the frames once it has moved: by these is told what an instruction does.
-- That each instruction does so is shown in proofs/Instructions.
use Rattle.std.specs.Prelude.{◌≡◌, List, [], ◌∷◌, ℕ, ◌+◌, ◌≤◌}
use Rattle.scope.specs.Machine.{Frame, forward}

-- n cells can be read or written at the cursor `at` of the active frame; where n is 0 there need be no frame
unfoldable pub At : List Frame → (at n : ℕ) → Type 0
At [] at n = n ≤ 0
At (f ∷ fs) at n = (f.cursor ≡ at) × (f.start ≤ at) × (at + n ≤ f.start + f.len)

-- the active frame's cursor n cells further on
unfoldable pub advance : ℕ → List Frame → List Frame
unfolding forward
advance n [] = []
advance n (f ∷ fs) = forward n f ∷ fs
