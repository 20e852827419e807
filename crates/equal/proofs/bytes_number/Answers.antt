-- `equal::bytes_number` meets its contract: what the first bytes and those that are left add up to stays the same.
use mathlib.Core.Path.{refl, sym, ap, ◌∙◌}
use Prim.Native.Nat.{ℕ, ◌+◌, ◌*◌, ◌%◌}
use lib.ListN.{drop}
use Rattle.report.specs.Bits.{number_from}
use Rattle.equal.specs.Buckets.{buckets}
use native.Mathlib.Omega.{arith}
use Rattle.equal.proofs.Digits.{bytes_by_one, bytes_end}
use Rattle.equal.proofs.bytes_number.Goals as goal

pub loop-x-init : goal.loop-x-init
loop-x-init c = (refl, c.requires)

pub loop-x-preserved : goal.loop-x-preserved
loop-x-preserved c =
    let l = c.loop-x in (
      l.invariant.0 ∙ bytes_by_one c.args.bytes.now l.x-index l.number (omega arith)
          ∙ ap (λ (x : ℕ). number_from ((l.number * 2 + x) % buckets) (drop (l.x-index + 1) c.args.bytes.now) % buckets) (sym c.from.ensures),
      omega arith,
    )

pub returns : goal.returns
returns c =
    let l = c.loop-x in
    sym (l.invariant.0 ∙ bytes_end c.args.bytes.now l.x-index l.number (omega arith))
