-- What each public call promises has one outcome: over the call's own promise, `Post`, two results, or two stores that are left, are the same.
-- A store that is left is a slice of bytes, so that each of its numbers is below 256, and its bits tell it.
use mathlib.Core.Path.{sym, ◌∙◌}
use Rattle.promise.specs.Outcomes.{OneResult, OneOutcome, ◌&◌}
use Rattle.bititer.proofs.Bits.{Bytes, bits_tell}
use Rattle.cells.proofs.copy_cells.Kinds as copy-cells-kinds
use Rattle.cells.proofs.copy_cells.Reads as copy-cells-reads
use Rattle.cells.proofs.put_bits.Kinds as put-bits-kinds
use Rattle.cells.proofs.put_bits.Reads as put-bits-reads
use Rattle.cells.proofs.read_cell.Kinds as read-cell-kinds
use Rattle.cells.proofs.read_cell.Reads as read-cell-reads
use Rattle.cells.proofs.read_eight.Kinds as read-eight-kinds
use Rattle.cells.proofs.read_eight.Reads as read-eight-reads
use Rattle.cells.proofs.write_cell.Kinds as write-cell-kinds
use Rattle.cells.proofs.write_cell.Reads as write-cell-reads
use Rattle.cells.proofs.zero_cells.Kinds as zero-cells-kinds
use Rattle.cells.proofs.zero_cells.Reads as zero-cells-reads

pub read_cell : OneResult 1 read-cell-kinds.ps read-cell-kinds.r read-cell-reads.Post
read_cell κs a s t x y p q = p ∙ sym q

pub read_eight : OneResult 1 read-eight-kinds.ps read-eight-kinds.r read-eight-reads.Post
read_eight κs a s t x y p q = p ∙ sym q

pub write_cell : OneOutcome 1 write-cell-kinds.ps write-cell-kinds.r (λ κs a r x. Bytes x.0.now × write-cell-reads.Post κs a r x)
write_cell κs a s t v w p q = let e = bits_tell v.0 w.0 p.0 q.0 (p.1 ∙ sym q.1) in (λ i. tt, λ i. e i & tt & tt & tt)

pub copy_cells_lem : OneOutcome 1 copy-cells-kinds.ps copy-cells-kinds.r (λ κs a r x. Bytes x.0.now × copy-cells-reads.Post κs a r x)
copy_cells_lem κs a s t v w p q = let e = bits_tell v.0 w.0 p.0 q.0 (p.1 ∙ sym q.1) in (λ i. tt, λ i. e i & tt & tt & tt & tt)

pub zero_cells : OneOutcome 1 zero-cells-kinds.ps zero-cells-kinds.r (λ κs a r x. Bytes x.0.now × zero-cells-reads.Post κs a r x)
zero_cells κs a s t v w p q = let e = bits_tell v.0 w.0 p.0 q.0 (p.1 ∙ sym q.1) in (λ i. tt, λ i. e i & tt & tt & tt)

pub put_bits_lem : OneOutcome 2 put-bits-kinds.ps put-bits-kinds.r (λ κs a r x. Bytes x.1.1.1.0.now × put-bits-reads.Post κs a r x)
put_bits_lem κs a s t v w p q =
    let e = bits_tell v.1.1.1.0 w.1.1.1.0 p.0 q.0 (p.1 ∙ sym q.1) in
    (λ i. tt, λ i. tt & tt & tt & e i & tt & tt)
