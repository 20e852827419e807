-- The end of a run within its bounds: what is told, and the three stores as they are left, are those of the requirements.
use mathlib.Core.Path.{◌≡◌, refl, sym, ap, ap₂, ◌∙◌, subst}
use mathlib.Core.List.{List, ◌++◌}
use Prim.Native.Nat.{ℕ, ◌+◌, ◌*◌, ◌-◌, ◌/◌, ◌≤◌}
use native.Mathlib.Omega.{arith}
use lib.ListN.{length, get_or, take, drop, length-take}
use lib.Seq.{length-take-le}
use Rattle.limits.specs.Limits.{node_numbers, frame_numbers, cell_count}
use Rattle.refusal.specs.declared.Refusal.{Refusal}
use Rattle.refusal.specs.declared.Refusal.TheVariants.{FailReached, PrunedReached}
use Rattle.refusal.specs.Answers.{Answer}
use Rattle.std.specs.Prelude.{Ok as Value, Err as Refused}
use Rattle.report.specs.Bits.{Bit, bits_of}
use Rattle.report.specs.Types.{Ty, width}
use Rattle.report.specs.Values.{Val, compact, value_at}
use Rattle.report.specs.Meaning.{done, failed, pruned, stuck}
use Rattle.scope.specs.Numbers.{stream_of, zeros, bytes_for, tabulate}
use Rattle.scope.specs.Types.{type_records, ty_at}
use Rattle.scope.specs.Nodes.{node_records}
use Rattle.scope.specs.Arrows.{arrow_records, source, target}
use Rattle.scope.specs.Program.{Program, last, whole, whole_source, whole_target, source_ty, target_ty}
use Rattle.scope.specs.Bounds.{whole_cells, whole_frames}
use Rattle.scope.specs.Machine.{State, Step, machine}
use Rattle.scope.specs.Run.{Left, program_of, cells_of, packed, cleared, written, left_with, ends, ran}
use Rattle.scope.specs.Stages.{tables_lent}
use Rattle.common.specs.Checks.{clash}
use Rattle.layout.specs.Mach.{Mach, empty}
use Rattle.layout.specs.Exec.{run_whole}
use Rattle.common.specs.Bits.{length_bits}
use Rattle.layout.specs.Safe.{WholeOk}
use Rattle.common.specs.Tables.{tabulate_at, length-tabulate}
use Rattle.layout.specs.Match.{laid_out, Reached, Ends}
use Rattle.theory.proofs.Cells.{same_value}
use Rattle.theory.proofs.Theorems.{whole_safe, whole_same, whole_ends, bytes_left}
use Rattle.bititer.proofs.Bits.{Bytes}
use Rattle.cells.proofs.Machine.{cells_packed}
use Rattle.common.specs.Nodes.{length_records, length_nodes}
use Rattle.ready.specs.Lent.{program_at, Shown}
use Rattle.bit_machine.proofs.Lent
use Rattle.bit_machine.specs.Machine.{Within}
use Rattle.bit_machine.specs.Whole.{stopped_end, cells_after, end_of, refusal_of, node_end, NodeOk, ready_of, RunOk}
use Rattle.bit_machine.specs.declared.Heights.{Heights}
use Rattle.bit_machine.specs.declared.Reason.{Reason}
use Rattle.bit_machine.specs.declared.Reason.TheVariants.{Failed, Pruned}
use Rattle.std.specs.Prelude.{Result, Ok, Err}
use Rattle.bit_machine.specs.declared.Heights.{Heights}
use Rattle.bit_machine.specs.declared.Stopped.{Stopped}

-- as many nodes as the lent table has records
pub nodes_many : (types nodes arrows program hashes given witnesses positions : List ℕ)
    → length (program_at types nodes arrows program hashes given witnesses positions).nodes ≡ length nodes / node_numbers
unfolding program_at program_of tables_lent
nodes_many types nodes arrows program hashes given witnesses positions = length_nodes (stream_of program) hashes (node_records nodes) ∙ length_records nodes

pub last_is : (types nodes arrows program hashes given witnesses positions : List ℕ)
    → length nodes / node_numbers - 1 ≡ last (program_at types nodes arrows program hashes given witnesses positions)
unfolding last
last_is types nodes arrows program hashes given witnesses positions =
    ap (λ (n : ℕ). n - 1) (sym (nodes_many types nodes arrows program hashes given witnesses positions))

-- the last node's source and target, as the code finds them
module _ {types widths next nodes arrows program hashes given witnesses positions : List ℕ}
    (shown : Shown types widths next nodes arrows program hashes given witnesses positions)
    (i : ℕ) (e : i ≡ last (program_at types nodes arrows program hashes given witnesses positions)) where
  abbrev Q : Program
  Q = program_at types nodes arrows program hashes given witnesses positions

  pub source_size : (at : ℕ) → at ≡ get_or widths (source (arrow_records arrows) i) 0 → at ≡ width (whole_source Q)
  unfolding whole_source
  source_size at q = q ∙ Lent.source_wide shown i ∙ ap (λ (i : ℕ). width (source_ty Q i)) e

  module _ (k : ℕ) (ek : k ≡ target (arrow_records arrows) i) where
    pub target_is : ty_at (type_records types) k ≡ whole_target Q
    unfolding whole_target target_ty program_at program_of tables_lent
    target_is = ap (ty_at (type_records types)) ek ∙ ap (target_ty Q) e

    pub target_size : get_or widths k 0 ≡ width (whole_target Q)
    unfolding whole_target
    target_size = ap (λ (k : ℕ). get_or widths k 0) ek ∙ Lent.target_wide shown i ∙ ap (λ (i : ℕ). width (target_ty Q i)) e

-- ends with the same parts
same_left : {a a' : Answer} {c c' f f' w w' : List ℕ} → a ≡ a' → c ≡ c' → f ≡ f' → w ≡ w' → left_with a c f w ≡ left_with a' c' f' w'
same_left p q r t = λ i. left_with (p i) (q i) (r i) (t i)

-- `bytes` and `numbers` of the stores are lent on to the run
module _ {P : Program} {input : List ℕ} {size most : ℕ} {cells frames answer : List ℕ} (ok : RunOk P input size most cells frames answer)
    (bytes : ℕ) (eb : bytes ≡ bytes_for size) (numbers : ℕ) (em : numbers ≡ frame_numbers * most) where
  pub cells_inside : bytes ≤ length cells
  cells_inside = let h = ok.cells_fit in omega arith

  pub frames_inside : numbers ≤ length frames
  frames_inside = let h = ok.frames_fit in omega arith

  pub part_within : Within (take bytes cells) (take numbers frames)
  part_within =
      let s = ok.size_fits in
      let m = ok.most_fits in
      record { cells = omega (arith, length-take bytes cells); frames = omega (arith, length-take numbers frames) }

  most_records : length (take numbers frames) / frame_numbers ≡ most
  most_records = let e = length-take-le numbers frames frames_inside in omega arith

  -- the output lies in the cells, and the answer has room for it
  pub output_fits : (at w : ℕ) → at ≡ width (whole_source P) → w ≡ width (whole_target P) → (after : List ℕ) → length after ≡ length cells
      → ((at + w ≤ length (bits_of after)) × (at + w ≤ cell_count)) × (bytes_for w ≤ length answer)
  unfolding whole_cells
  output_fits at w ea ew after same =
      let s = ok.size_fits in
      let c = ok.cells_fit in
      let z = ok.size_is in
      let l = length_bits after in
      ((omega arith, omega arith), rw ew ok.answer_fits)

  -- the machine of the requirements
  abbrev step : Step
  step = machine (whole_cells P) (whole_frames P) (whole P) (whole_source P) (whole_target P) (ready_of P input).input (cells_of cells)

  abbrev lent_on : Mach
  lent_on = empty (bits_of (take bytes cells)) (length (take numbers frames) / frame_numbers)

  lent_is : empty (bits_of (take (bytes_for (whole_cells P)) cells)) (whole_frames P) ≡ lent_on
  lent_is =
      ap (λ (b : ℕ). empty (bits_of (take b cells)) (whole_frames P)) (ap (λ (n : ℕ). bytes_for n) (sym ok.size_is) ∙ sym eb)
      ∙ ap (λ (n : ℕ). empty (bits_of (take bytes cells)) n) (sym ok.most_is ∙ sym most_records)

  held : bytes_for (whole_cells P) ≤ length cells
  held = subst (λ (n : ℕ). bytes_for n ≤ length cells) ok.size_is ok.cells_fit

  pub node_ok : (i : ℕ) → i ≡ last P → NodeOk P i input lent_on
  unfolding whole whole_source whole_target
  node_ok i e = subst (λ (i : ℕ). NodeOk P i input lent_on) (sym e) (record {
    reads = ok.reads;
    safe = subst (λ (m : Mach). WholeOk (whole P) (whole_source P) (whole_target P) (ready_of P input).input m) lent_is
        (whole_safe cells (bytes_for (whole_cells P)) (whole_cells P) (whole_frames P) held (omega arith) (whole P) (whole_source P)
        (whole_target P) (ready_of P input).input ok.goes);
  })

  -- the end of the run of the last node is that of the machine of the requirements
  same_end : (i : ℕ) → i ≡ last P → node_end P i input lent_on ≡ cells_after (laid_out (8 * bytes_for (whole_cells P)) (whole_frames P) step)
  unfolding whole whole_source whole_target
  same_end i e =
      ap (λ (i : ℕ). node_end P i input lent_on) e
      ∙ ap (λ (m : Mach). cells_after (run_whole (whole P) (whole_source P) (whole_target P) (ready_of P input).input m)) (sym lent_is)
      ∙ ap cells_after
      (whole_same cells (bytes_for (whole_cells P)) (whole_cells P) (whole_frames P) held (omega arith) (whole P) (whole_source P)
      (whole_target P) (ready_of P input).input ok.goes)

  reached : Ends (whole_cells P) (whole_frames P) (cells_of cells) step
  reached =
      whole_ends cells (bytes_for (whole_cells P)) (whole_cells P) (whole_frames P) held (omega arith) (whole P) (whole_source P) (whole_target P)
      (ready_of P input).input ok.goes

  -- the stores after the run: the part of the cells with the rest behind it, and the frame records cleared
  module _ (i : ℕ) (ei : i ≡ last P) (part after : List ℕ) (ea : after ≡ part ++ drop bytes cells) (small : Bytes after)
      (records : List ℕ) (er : records ≡ zeros (length (take numbers frames))) where
    abbrev numbers_after : List ℕ
    numbers_after = records ++ drop numbers frames

    frames_cleared : numbers_after ≡ cleared (whole_frames P) frames
    unfolding cleared
    frames_cleared =
        ap (λ (l : List ℕ). l ++ drop numbers frames) er ∙ ap (λ (n : ℕ). zeros n ++ drop numbers frames) (length-take-le numbers frames frames_inside)
        ∙ ap (λ (n : ℕ). zeros n ++ drop n frames) (em ∙ ap (λ (n : ℕ). frame_numbers * n) ok.most_is)

    module _ (s : State) (r : Reached (whole_cells P) (whole_frames P) (cells_of cells) s)
        (is : bits_of part ≡ tabulate (8 * bytes_for (whole_cells P)) s.cells) where
      after_is : after ≡ part ++ drop (bytes_for (whole_cells P)) cells
      after_is = ea ∙ ap (λ (n : ℕ). part ++ drop n cells) (eb ∙ ap (λ (n : ℕ). bytes_for n) ok.size_is)

      bits_after : bits_of after ≡ tabulate (8 * length cells) s.cells
      bits_after = ap bits_of after_is ∙ bytes_left cells (bytes_for (whole_cells P)) held part s.cells (whole_cells P) (omega arith) is r.kept

      as_many : length after ≡ length cells
      as_many = omega (arith, length_bits after, ap length bits_after, length-tabulate s.cells (8 * length cells))

      cells_are_lem : after ≡ packed (length cells) s.cells
      cells_are_lem =
          cells_packed after s.cells small (bits_after ∙ ap (λ (n : ℕ). tabulate (8 * n) s.cells) (sym as_many))
          ∙ ap (λ (n : ℕ). packed n s.cells) as_many

      -- the output's value is the same in both
      value_is : value_at (whole_target P) (cells_of after) (width (whole_source P)) ≡ value_at (whole_target P) s.cells (width (whole_source P))
      unfolding cells_of whole_cells
      value_is = same_value (whole_target P) (cells_of after) s.cells (width (whole_source P)) (width (whole_source P))
          (λ k l. ap (λ (bits : List Bit). get_or bits (width (whole_source P) + k) 0) bits_after
          ∙ tabulate_at s.cells (8 * length cells) (width (whole_source P) + k) 0 (let h = held in omega arith))

    abbrev Ended : Left → Type 0
    Ended left = left ≡ ran (ready_of P input) cells frames answer

    ran_is : (o : Step) → step ≡ o → ran (ready_of P input) cells frames answer ≡ ends P o cells frames answer
    unfolding ran
    ran_is o e = ap (λ (o : Step). ends P o cells frames answer) e

    -- the run ended with the output in the answer store
    pub ends_done : (r : Result Heights Stopped) (h : Heights) → r ≡ Ok h → end_of r (bits_of part) ≡ node_end P i input lent_on
        → (B : Ty) (at : ℕ) → B ≡ whole_target P → at ≡ width (whole_source P) → (n : ℕ) (answer-after : List ℕ)
        → n ≡ length (compact (value_at B (cells_of after) at)) → answer-after ≡ written (compact (value_at B (cells_of after) at)) answer
        → Ended (left_with (Value n) after numbers_after answer-after)
    unfolding cells_after laid_out ends
    ends_done r h how e B at e_b ea n answer-after told wrote = go step refl (ap (λ (r : Result Heights Stopped). end_of r (bits_of part)) (sym how) ∙ e ∙ same_end i ei) reached
      where
        found : value_at B (cells_of after) at ≡ value_at (whole_target P) (cells_of after) (width (whole_source P))
        found = ap₂ (λ (B : Ty) (at : ℕ). value_at B (cells_of after) at) e_b ea

        go : (o : Step) → step ≡ o → end_of (Ok h) (bits_of part) ≡ cells_after (laid_out (8 * bytes_for (whole_cells P)) (whole_frames P) o)
            → Ends (whole_cells P) (whole_frames P) (cells_of cells) o → Ended (left_with (Value n) after numbers_after answer-after)
        go (done s) eo q r =
            let is : bits_of part ≡ tabulate (8 * bytes_for (whole_cells P)) s.cells = cc in
            let v = found ∙ value_is s r is in
            same_left (ap Value (told ∙ ap (λ (v : Val). length (compact v)) v)) (cells_are_lem s r is) frames_cleared
            (wrote ∙ ap (λ (v : Val). written (compact v) answer) v)
            ∙ sym (ran_is (done s) eo)
        go (failed place s) eo q r = clash (cc)
        go (pruned place s) eo q r = clash (cc)
        go stuck eo q r = absurd r

    -- the run stopped
    stopped : (why : Reason) → stopped_end why (bits_of part) ≡ node_end P i input lent_on
        → Ended (left_with (Refused (refusal_of why)) after numbers_after answer)
    unfolding cells_after laid_out ends
    stopped (Failed at) e = go step refl (e ∙ same_end i ei) reached
      where
        go : (o : Step) → step ≡ o → stopped_end (Failed at) (bits_of part) ≡ cells_after (laid_out (8 * bytes_for (whole_cells P)) (whole_frames P) o)
            → Ends (whole_cells P) (whole_frames P) (cells_of cells) o → Ended (left_with (Refused (FailReached at)) after numbers_after answer)
        go (done s) eo q r = clash (cc)
        go (failed place s) eo q r =
            let is : bits_of part ≡ tabulate (8 * bytes_for (whole_cells P)) s.cells = cc in
            let there : at ≡ place = cc in
            same_left (ap (λ (k : ℕ). Refused (FailReached k)) there) (cells_are_lem s r is) frames_cleared refl ∙ sym (ran_is (failed place s) eo)
        go (pruned place s) eo q r = clash (cc)
        go stuck eo q r = absurd r
    stopped (Pruned at) e = go step refl (e ∙ same_end i ei) reached
      where
        go : (o : Step) → step ≡ o → stopped_end (Pruned at) (bits_of part) ≡ cells_after (laid_out (8 * bytes_for (whole_cells P)) (whole_frames P) o)
            → Ends (whole_cells P) (whole_frames P) (cells_of cells) o → Ended (left_with (Refused (PrunedReached at)) after numbers_after answer)
        go (done s) eo q r = clash (cc)
        go (failed place s) eo q r = clash (cc)
        go (pruned place s) eo q r =
            let is : bits_of part ≡ tabulate (8 * bytes_for (whole_cells P)) s.cells = cc in
            let there : at ≡ place = cc in
            same_left (ap (λ (k : ℕ). Refused (PrunedReached k)) there) (cells_are_lem s r is) frames_cleared refl ∙ sym (ran_is (pruned place s) eo)
        go stuck eo q r = absurd r

    pub ends_stopped : (r : Result Heights Stopped) (stop : Stopped) → r ≡ Err stop → end_of r (bits_of part) ≡ node_end P i input lent_on
        → (said : Answer) (refusal : Refusal) → said ≡ Refused refusal → refusal ≡ refusal_of stop.why → Ended (left_with said after numbers_after answer)
    ends_stopped r stop how e said refusal es ew =
        ap (λ (said : Answer). left_with said after numbers_after answer) (es ∙ ap Refused ew)
        ∙ stopped stop.why (ap (λ (r : Result Heights Stopped). end_of r (bits_of part)) (sym how) ∙ e)
