-- `bit_machine::rules::write_bit` meets its contract.
use native.Mathlib.Omega.{arith}
use mathlib.Core.Path.{◌≡◌, ap}
use Prim.Native.Nat.{◌%◌}
use Rattle.layout.proofs.Safe.{fed_bits}
use Rattle.layout.specs.Rules.{bit_written}
use Rattle.bit_machine.proofs.rules.write_bit.Goals as goal

pub advance-requires : goal.advance-requires
advance-requires c =
    let cursor = ap (λ f. f.cursor) c.record_at-f.ensures in
    record {
      f_value = c.record_at-f.ensures;
      n_bound = omega (arith, fed_bits c.requires.fed, c.requires.write_ok.fits);
    }

pub returns : goal.returns
unfolding bit_written
returns c =
    let e : c.args.bit % 2 ≡ c.args.bit = omega (arith, c.requires.bit_bound) in
    let cursor = ap (λ f. f.cursor) c.record_at-f.ensures in
    rw (c.advance.ensures, c.write_cell.ensures, cursor, e)
