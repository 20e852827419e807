-- Whole programs: the last node of a sound program, run on a value of its source with cells and frames of just the computed size.
-- The answer is the meaning whatever bits the cells held, the run is never stuck, and visits keep within the cost.
use Rattle.std.specs.Prelude.{◌≡◌, false, List, ℕ, ◌+◌, ◌/◌, ◌≤◌, ◌<◌, length}
use Rattle.std.proofs.Common.{sym, ◌∙◌, arith, le_refl}
use Rattle.limits.specs.Limits.{node_cost}
use Rattle.report.specs.Types.{width}
use Rattle.report.specs.Values.{Val, HasTy, Cells, value_at}
use Rattle.report.specs.Typing.{Typed}
use Rattle.report.specs.Meaning.{stuck, Means, eval, visits}
use Rattle.scope.specs.Machine.{Frame, Step, state, exec}
use Rattle.scope.specs.Walk.{hidden_at}
use Rattle.scope.specs.Program.{Program, source_ty, target_ty, term_at, last, whole, whole_source, whole_target}
use Rattle.scope.specs.Bounds.{bounds, whole_cells, whole_frames, whole_cost}
use Rattle.common.specs.Checks.{clash}
use Rattle.theory.specs.Safety.{Good}
use Rattle.theory.proofs.Safety.{safe}
use Rattle.theory.proofs.Visits.{visits_bound}
use Rattle.theory.specs.Cells.{Apart}
use Rattle.theory.specs.Instructions.{At}
use Rattle.theory.specs.Correct.{Ends}
use Rattle.theory.proofs.Correct.{exec_within}
use Rattle.theory.specs.WholeRuns.{Ran, ran_value, ran_fail, ran_prune}
use Rattle.theory.proofs.WholeRuns.{machine_within, ran_answer}
use Rattle.theory.specs.Sound.{Sound}
use Rattle.theory.proofs.Sound.{term_typed}
use Rattle.theory.specs.Programs.{run_of, answer_of}

module _ (P : Program) (ok : Sound P) where
  -- at any point of a run each node that is not hidden does what its term means, within the bounds of its term
  pub node_ends : (i : ℕ) → i < length P.nodes → hidden_at P.nodes i ≡ false → (size most : ℕ) (rs ws : List Frame) (rd wr nx : ℕ) (c : Cells)
      → At rs rd (width (source_ty P i)) → At ws wr (width (target_ty P i)) → rd + width (source_ty P i) ≤ nx → wr + width (target_ty P i) ≤ nx
      → Apart rd (width (source_ty P i)) wr (width (target_ty P i))
      → nx + (bounds (term_at P i)).cells ≤ size → length rs + length ws + (bounds (term_at P i)).frames ≤ most
      → Ends (target_ty P i) wr nx (bounds (term_at P i)).cells rs ws c (eval (term_at P i) (value_at (source_ty P i) c rd))
      (exec size most (term_at P i) (state c rs ws nx))
  node_ends i h shown = exec_within (term_typed P ok i h shown)

  -- the whole program goes from its source to its target
  pub whole_typed : Typed (whole P) (whole_source P) (whole_target P)
  unfolding whole whole_source whole_target last
  whole_typed = term_typed P ok (last P) (omega (arith, ok.some_node)) ok.last_shown

  module _ (v : Val) (hv : HasTy v (whole_source P)) where
    -- it ends as the meaning does, and the cells past the bound keep their old bits, also where it stops
    pub run_ends : (c : Cells) → Ran (whole_target P) (width (whole_source P)) (whole_cells P) c (eval (whole P) v) (run_of P v c)
    unfolding run_of whole_cells whole_frames
    run_ends c = machine_within whole_typed hv (whole_cells P) (whole_frames P) c (le_refl _) (le_refl _)

    -- THE ANSWER IS THE MEANING
    pub run_means : (c : Cells) → answer_of P v c ≡ eval (whole P) v
    unfolding answer_of
    run_means c = ran_answer (whole_source P) (run_ends c)

    -- the run is never stuck
    pub never_stuck : (c : Cells) → run_of P v c ≡ stuck → ⊥
    never_stuck c e = go (run_ends c) e
      where
        go : {o : Means} {s : Step} → Ran (whole_target P) (width (whole_source P)) (whole_cells P) c o s → s ≡ stuck → ⊥
        go (ran_value k) e = clash (cc)
        go (ran_fail k) e = clash (cc)
        go (ran_prune k) e = clash (cc)

    -- old cells change no output, no refusal and no place
    pub old_cells : (c d : Cells) → answer_of P v c ≡ answer_of P v d
    old_cells c d = run_means c ∙ sym (run_means d)

    -- the meaning is a value of the target, or stops at a fail node or a pruned branch
    pub value_of_target : Good (whole_target P) (eval (whole P) v)
    value_of_target = safe whole_typed v hv

    -- visits are at most the cost over the price of a node, and one
    pub few_visits : visits (whole P) v ≤ whole_cost P / node_cost + 1
    unfolding whole_cost
    few_visits = visits_bound (whole P) v
