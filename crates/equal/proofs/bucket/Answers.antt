-- `equal::bucket` meets its contract.
use mathlib.Core.Path.{ap, ap₂, ◌∙◌}
use Prim.Native.Nat.{ℕ, ◌+◌, ◌*◌, ◌%◌}
use native.Mathlib.Omega.{arith}
use Rattle.std.specs.Prelude.{Option}
use Rattle.std.specs.Option.{option_map}
use Rattle.scope.specs.Nodes.{NodeRecord}
use Rattle.scope.specs.Arrows.{arrow_records}
use Rattle.table.specs.Answers.{record_of}
use Rattle.equal.specs.Keys.{record_key, key_at}
use Rattle.equal.specs.Buckets.{buckets, key_number, arrow_number, bucket_of, bucket_at}
use Rattle.equal.proofs.KindKeys.{key_small}
use Rattle.equal.proofs.bucket.Goals as goal

pub returns-in_err-number : goal.returns-in_err-number
unfolding bucket_at bucket_of key_at
returns-in_err-number c =
    c.from_residual.ensures
    ∙ ap (option_map (λ k. (k + 97 * arrow_number (arrow_records c.args.arrows.now) c.args.i) % buckets))
    (c.in_err-number.ensures ∙ ap (λ (r : NodeRecord). key_number (record_key c.args.program.now c.args.hashes.now r)) c.record_in.ensures)

pub overflow_add-result : goal.overflow_add-result
overflow_add-result c =
    omega (
      arith,
      c.arrow_number.ensures.2,
      key_small (record_key c.args.program.now c.args.hashes.now (record_of c.record_in.result)) c.in_ok-number.number c.in_ok-number.ensures,
    )

pub returns : goal.returns
unfolding bucket_at bucket_of key_at
returns c =
    ap₂ (λ (key : Option ℕ) (arrow : ℕ). option_map (λ k. (k + 97 * arrow) % buckets) key)
    (c.in_ok-number.ensures ∙ ap (λ (r : NodeRecord). key_number (record_key c.args.program.now c.args.hashes.now r)) c.record_in.ensures)
    c.arrow_number.ensures.0
