-- `packed::part` meets its contract. The loop's invariant: what is left to be passed over leads to the same bytes.
use Rattle.packed.proofs.Records.{next_part, no_part}
use Rattle.packed.proofs.part.Goals as goal

pub loop-j-preserved : goal.loop-j-preserved
loop-j-preserved c =
    cc (
      c.loop-j.invariant,
      next_part _ _ _ c.loop-j.rest.now c.loop-j-test.true,
      c.from-rest-in-loop-j.ensures,
      c.number.ensures,
    )

pub returns : goal.returns
returns c =
    cc (
      c.whole.ensures,
      c.number-2.ensures,
      c.loop-j.invariant,
      no_part _ _ _ c.loop-j.rest.now c.loop-j-test.false,
      c.from-rest.ensures,
    )
