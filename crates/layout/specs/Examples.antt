-- Small runs on the store machine, computed: which bits and which records they leave, and where a stop leaves its frames.
use Rattle.std.specs.Prelude.{◌≡◌, refl, [], ◌∷◌}
use Rattle.report.specs.Types.{Ty, one, sum, width, pad_l}
use Rattle.report.specs.Values.{⟨⟩, inr, padded}
use Rattle.report.specs.Terms.{iden, comp, unit, injl, fail}
use Rattle.report.specs.Meaning.{done, failed, ◌>>=◌}
use Rattle.scope.specs.Machine.{frame, forward, reset}
use Rattle.common.specs.Cells.{copy_bits}
use Rattle.layout.specs.Mach.{mach, no_frame, empty}
use Rattle.layout.specs.Rules.{pushed, moved, dropped, bit_written, bits_written, skipped, copied, backed}
use Rattle.layout.specs.Exec.{first_of, second_of, third_of, run_term, with_input, with_output, run_whole}

abbrev bit : Ty
bit = sum one one

-- iden on 1 + 1 with input 1: both cells hold 1, the output's frame stands in the first record, the input's in the last
pub iden_leaves : run_whole (iden bit) bit bit (inr ⟨⟩) (empty (0 ∷ 0 ∷ 0 ∷ []) 3)
    ≡ done (mach (1 ∷ 1 ∷ 0 ∷ []) (frame 2 1 1 ∷ no_frame ∷ frame 0 0 1 ∷ []) 1 1 2)
unfolding run_whole run_term with_input with_output padded width pushed moved bits_written copied copy_bits reset forward
iden_leaves = refl

-- injl of unit to 1 + (1 + 1) over old ones: the padding keeps its old bit
pub injl_leaves : run_whole (injl one bit unit) one (sum one bit) ⟨⟩ (empty (1 ∷ 1 ∷ []) 2) ≡ done (mach (0 ∷ 1 ∷ []) (frame 2 0 2 ∷ no_frame ∷ []) 1 0 2)
unfolding run_whole run_term with_input with_output width pad_l padded pushed bit_written skipped backed ◌>>=◌ forward
injl_leaves = refl

-- a composition through 1 + 1 frees its record and its cell
pub comp_leaves : run_whole (comp bit (iden bit) (iden bit)) bit bit (inr ⟨⟩) (empty (0 ∷ 0 ∷ 0 ∷ []) 3)
    ≡ done (mach (1 ∷ 1 ∷ 1 ∷ []) (frame 2 1 1 ∷ no_frame ∷ frame 0 0 1 ∷ []) 1 1 2)
unfolding run_whole run_term first_of second_of third_of with_input with_output padded width pushed moved dropped bits_written copied copy_bits ◌>>=◌ reset forward
comp_leaves = refl

-- a fail node behind it stops with the middle's frame among the read frames
pub stop_leaves : run_whole (comp bit (iden bit) (fail 1)) bit bit (inr ⟨⟩) (empty (0 ∷ 0 ∷ 0 ∷ []) 3)
    ≡ failed 1 (mach (1 ∷ 0 ∷ 1 ∷ []) (frame 1 1 1 ∷ frame 2 2 1 ∷ frame 0 0 1 ∷ []) 1 2 3)
unfolding run_whole run_term first_of second_of third_of with_input with_output padded width pushed moved dropped bits_written copied copy_bits ◌>>=◌ reset forward
stop_leaves = refl
