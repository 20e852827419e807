-- The old contents of all five stores change nothing of what a job says, and no bit of its output: the checks look at the sizes alone (Job),
-- and where all pass the meaning of the dossier's program says all.
use Rattle.std.specs.Prelude.{◌≡◌, List, ℕ, length}
use Rattle.std.proofs.Math.Path.{refl, sym, ap}
use Rattle.std.proofs.Common.{◌∙◌}
use Rattle.refusal.specs.declared.Refusal.{Refusal}
use Rattle.refusal.specs.Answers.{Answer}
use Rattle.std.specs.Prelude.{Err as Refused}
use Rattle.scope.specs.Check.{Check, passed, refused}
use Rattle.scope.specs.Reading.{NodeTable}
use Rattle.scope.specs.Run.{Tables, Ready, check_ready, tables_of, check_dossier, run}
use Rattle.theory.specs.Left.{output_bytes}
use Rattle.theory.proofs.Job.{job_says, job_bytes, job_refused, job_unready, same_dossier, same_ready}

-- the same dossier with stores of the same sizes
module _ (d nodes nodes' hashes hashes' cells cells' frames frames' answer answer' : List ℕ)
    (n : length nodes ≡ length nodes') (h : length hashes ≡ length hashes')
    (c : length cells ≡ length cells') (f : length frames ≡ length frames') (a : length answer ≡ length answer') where
  -- what the checks say of the one and the other stores
  dossiers_agree : check_dossier d nodes hashes ≡ check_dossier d nodes' hashes'
  dossiers_agree = same_dossier d nodes nodes' hashes hashes' cells cells' frames frames' answer answer' n h c f a

  -- also those of the stores
  stores_agree : (T : Tables) → check_ready T cells frames answer ≡ check_ready T cells' frames' answer'
  stores_agree = same_ready d nodes nodes' hashes hashes' cells cells' frames frames' answer answer' n h c f a

  -- what is said, and the bytes that hold the output
  abbrev Alike : Type 0
  Alike =
      let x = run d nodes hashes cells frames answer in
      let y = run d nodes' hashes' cells' frames' answer' in
      (x.says ≡ y.says) × (output_bytes x.says x.answer ≡ output_bytes y.says y.answer)

  alike : Alike
  unfolding output_bytes
  alike = go (check_dossier d nodes hashes) refl
    where
      -- two refusals for one reason
      alike_refused : (r : Refusal) → (run d nodes hashes cells frames answer).says ≡ Refused r
          → (run d nodes' hashes' cells' frames' answer').says ≡ Refused r → Alike
      alike_refused r p q = (
        p ∙ sym q,
        ap (λ (a : Answer). output_bytes a (run d nodes hashes cells frames answer).answer) p
            ∙ sym (ap (λ (a : Answer). output_bytes a (run d nodes' hashes' cells' frames' answer').answer) q),
      )

      tables : (t : NodeTable) → check_dossier d nodes hashes ≡ passed t → (x : Check Ready) → check_ready (tables_of d t) cells frames answer ≡ x → Alike
      tables t e (passed R) p =
          let e' = sym dossiers_agree ∙ e in
          let p' = sym (stores_agree (tables_of d t)) ∙ p in (
            job_says d nodes hashes t e cells frames answer R p ∙ sym (job_says d nodes' hashes' t e' cells' frames' answer' R p'),
            job_bytes d nodes hashes t e cells frames answer R p ∙ sym (job_bytes d nodes' hashes' t e' cells' frames' answer' R p'),
          )
      tables t e (refused r) p =
          alike_refused r (job_unready d nodes hashes cells frames answer t r e p)
          (job_unready d nodes' hashes' cells' frames' answer' t r (sym dossiers_agree ∙ e) (sym (stores_agree (tables_of d t)) ∙ p))

      go : (x : Check NodeTable) → check_dossier d nodes hashes ≡ x → Alike
      go (passed t) e = tables t e (check_ready (tables_of d t) cells frames answer) refl
      go (refused r) e =
          alike_refused r (job_refused d nodes hashes cells frames answer r e)
          (job_refused d nodes' hashes' cells' frames' answer' r (sym dossiers_agree ∙ e))

  -- OLD CONTENTS OF THE FIVE STORES CHANGE NO OUTPUT, NO REFUSAL AND NO PLACE: nothing that is said
  pub old_stores : (run d nodes hashes cells frames answer).says ≡ (run d nodes' hashes' cells' frames' answer').says
  old_stores = alike.0

  -- and no bit of the output
  pub old_output : output_bytes (run d nodes hashes cells frames answer).says (run d nodes hashes cells frames answer).answer
      ≡ output_bytes (run d nodes' hashes' cells' frames' answer').says (run d nodes' hashes' cells' frames' answer').answer
  old_output = alike.1
