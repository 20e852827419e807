-- What the checks 14, 16 and 17 tell once they have passed: the bounds keep the limits, the input's value stands at the front of its bits,
-- and the stores have room for the bounds.
use mathlib.Core.Path.{◌≡◌, refl, sym, ap, ◌∙◌}
use mathlib.Core.List.{List}
use Prim.Native.Nat.{ℕ, ◌/◌, ◌≤◌}
use lib.Dec.{leb}
use lib.ListN.{length, take}
use borrow.Author.Tests.{leb-true}
use Rattle.limits.specs.Limits.{cell_count, frame_count, cost_limit, frame_numbers}
use Rattle.refusal.specs.declared.Refusal.TheVariants.{Input, StoreShort, OverLimit}
use Rattle.report.specs.Bits.{Bit}
use Rattle.report.specs.Types.{Ty, width}
use Rattle.report.specs.Values.{Val, Read, value, short, read_value}
use Rattle.scope.specs.Check.{Check, passed, refused, ◌>>=◌, require}
use Rattle.scope.specs.Numbers.{stream_of, held_bits, bytes_for}
use Rattle.scope.specs.Closing.{used_up}
use Rattle.scope.specs.Program.{Program, whole_target}
use Rattle.scope.specs.Bounds.{whole_cells, whole_frames, check_limits}
use Rattle.scope.specs.Input.{check_input}
use Rattle.scope.specs.Stores.{check_stores}
use Rattle.common.specs.Bits.{held_within}
use Rattle.common.specs.Checks.{clash, both_passed, require_holds}
use Rattle.theory.proofs.Supply.{input_fits}
use Rattle.ready.proofs.FirstBits.{in_all_lem}

pub limits_kept : (cells frames cost : ℕ) → check_limits cells frames cost ≡ passed tt → (cells ≤ cell_count) × (frames ≤ frame_count) × (cost ≤ cost_limit)
unfolding check_limits
limits_kept cells frames cost e =
    let second : Check (Unit {0}) = require (leb frames frame_count) (OverLimit 1) in
    let third : Check (Unit {0}) = require (leb cost cost_limit) (OverLimit 2) in
    let a = both_passed (require (leb cells cell_count) (OverLimit 0)) (λ first. second >>= λ two. third) tt e in
    let b = both_passed second (λ two. third) tt a.2 in (
      leb-true cells cell_count (require_holds (leb cells cell_count) (OverLimit 0) _ a.1),
      leb-true frames frame_count (require_holds (leb frames frame_count) (OverLimit 1) _ b.1),
      leb-true cost cost_limit (require_holds (leb cost cost_limit) (OverLimit 2) _ b.2),
    )

pub stores_fit : (P : Program) (cells frames answer : List ℕ) → check_stores P cells frames answer ≡ passed tt
    → (bytes_for (whole_cells P) ≤ length cells) × (whole_frames P ≤ length frames / frame_numbers) × (bytes_for (width (whole_target P)) ≤ length answer)
unfolding check_stores
stores_fit P cells frames answer e =
    let second : Check (Unit {0}) = require (leb (whole_frames P) (length frames / frame_numbers)) (StoreShort 1) in
    let third : Check (Unit {0}) = require (leb (bytes_for (width (whole_target P))) (length answer)) (StoreShort 2) in
    let a = both_passed (require (leb (bytes_for (whole_cells P)) (length cells)) (StoreShort 0)) (λ first. second >>= λ two. third) tt e in
    let b = both_passed second (λ two. third) tt a.2 in (
      leb-true (bytes_for (whole_cells P)) (length cells) (require_holds (leb (bytes_for (whole_cells P)) (length cells)) (StoreShort 0) _ a.1),
      leb-true (whole_frames P) (length frames / frame_numbers) (require_holds (leb (whole_frames P) (length frames / frame_numbers)) (StoreShort 1) _ b.1),
      leb-true (bytes_for (width (whole_target P))) (length answer)
          (require_holds (leb (bytes_for (width (whole_target P))) (length answer)) (StoreShort 2) _ b.2),
    )

pub input_read : (A : Ty) (bytes : List ℕ) (count : ℕ) (v : Val) → check_input A bytes count ≡ passed v
    → (rest : List Bit) × (read_value A (stream_of bytes) ≡ value v rest)
unfolding check_input
input_read A bytes count v e =
    let within = (input_fits A bytes count v e).bits.within in
    let r = go (read_value A (take count (held_bits bytes))) (in_all_lem A 0 count (held_bits bytes)) e in
    (r.0, ap (read_value A) (sym (held_within bytes within)) ∙ r.1)
  where
    go : (r : Read) → ((v : Val) (rest : List Bit) → r ≡ value v rest → (more : List Bit) × (read_value A (held_bits bytes) ≡ value v more))
        → (elim r [
          | value v rest ↦ (require (used_up bytes count rest) (Input 0) >>= λ used. passed v)
          | short ↦ refused (Input 0)
        ]) ≡ passed v → (rest : List Bit) × (read_value A (held_bits bytes) ≡ value v rest)
    go (value w rest) all q =
        let p = both_passed (require (used_up bytes count rest) (Input 0)) (λ used. passed w) v q in
        let f : w ≡ v = cc in
        let m = all w rest refl in
        (m.0, m.1 ∙ ap (λ (u : Val). value u m.0) f)
    go short all q = clash (cc)
