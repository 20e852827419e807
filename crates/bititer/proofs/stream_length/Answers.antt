-- How many bits a slice's stream has: none above the dossier's limit, and eight for each byte within it.
use mathlib.Core.Path.{sym}
use native.Mathlib.Omega.{arith}
use Rattle.common.specs.Bits.{length_within}
use Rattle.bititer.proofs.Streams.{length_over}
use Rattle.bititer.proofs.stream_length.Goals as goal

pub returns-then-s-gt-DOSSIER_BYTES : goal.returns-then-s-gt-DOSSIER_BYTES
returns-then-s-gt-DOSSIER_BYTES c = sym (length_over c.args.s.now c.if-s-gt-DOSSIER_BYTES.true)

pub returns : goal.returns
returns c =
    let s = c.args.s.now in
    omega (arith, length_within s c.if-s-gt-DOSSIER_BYTES.false)
