-- What each public call promises has one outcome: over the call's own promise, `Post`, two results and two stores that are left are the same.
-- A store that is left is a slice of bytes, so that each of its numbers is below 256, and its bits tell it.
use mathlib.Core.Path.{ap, sym, ◌∙◌}
use Rattle.promise.specs.Outcomes.{OneResult, OneOutcome, ◌&◌}
use Rattle.bititer.proofs.Bits.{Bytes, bits_tell}
use Rattle.value.specs.Bits.{Padded, Unpadded}
use Rattle.value.proofs.pad.Kinds as pad-kinds
use Rattle.value.proofs.pad.Reads as pad-reads
use Rattle.value.proofs.skip.Kinds as skip-kinds
use Rattle.value.proofs.skip.Reads as skip-reads
use Rattle.value.proofs.unpad.Kinds as unpad-kinds
use Rattle.value.proofs.unpad.Reads as unpad-reads

pub skip : OneResult 3 skip-kinds.ps skip-kinds.r skip-reads.Post
skip κs a s t x y p q = p ∙ sym q

pub pad : OneOutcome 4 pad-kinds.ps pad-kinds.r (λ κs a r x. Bytes x.1.1.1.1.0.now × pad-reads.Post κs a r x)
pad κs a s t v w p q =
    let e = p.1 ∙ sym q.1 in
    let cells = bits_tell v.1.1.1.1.0 w.1.1.1.1.0 p.0 q.0 (ap (λ (o : Padded). o.cells) e) in
    (ap (λ (o : Padded). o.says) e, λ i. tt & tt & tt & tt & cells i & tt & tt)

pub unpad : OneOutcome 4 unpad-kinds.ps unpad-kinds.r (λ κs a r x. Bytes x.1.1.1.1.0.now × unpad-reads.Post κs a r x)
unpad κs a s t v w p q =
    let e = p.1 ∙ sym q.1 in
    let answer = bits_tell v.1.1.1.1.0 w.1.1.1.1.0 p.0 q.0 (ap (λ (o : Unpadded). o.bits) e) in
    (ap (λ (o : Unpadded). o.says) e, λ i. tt & tt & tt & tt & answer i & tt & tt)
