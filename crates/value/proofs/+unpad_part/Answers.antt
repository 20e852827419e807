-- `value::unpad_part` meets its contract: each way through the code is one law of unpadding along a shape.
use mathlib.Core.Path.{sym}
use native.Mathlib.Omega.{arith}
use Rattle.report.specs.Bits.{bits_of}
use Rattle.scope.specs.Run.{cells_of}
use Rattle.bititer.proofs.Bits.{bit_small}
use Rattle.value.proofs.Ways.{unpad_nothing, unpad_plain, unpad_tag, unpad_both}
use Rattle.value.proofs.+unpad_part.Goals as goal

pub returns-in-Nothing : goal.returns-in-Nothing
returns-in-Nothing t c =
    let a = c.args in
    let shapes = a.shapes.now in
    unpad_nothing shapes.types.now shapes.widths.now shapes.next.now a.i (cells_of a.cells.now) a.at a.q
    (bits_of a.answer.now) (sym c.in-Nothing.ensures)

pub returns-in-Plain : goal.returns-in-Plain
returns-in-Plain t c =
    let a = c.args in
    let shapes = a.shapes.now in
    unpad_plain shapes.types.now shapes.widths.now shapes.next.now a.i c.in-Plain.width a.cells.now a.at a.q
    (bits_of a.answer.now) _ (sym c.in-Plain.ensures) c.put_bits.ensures

pub returns-in-Tag : goal.returns-in-Tag
unfolding cells_of
returns-in-Tag t c =
    let a = c.args in
    let shapes = a.shapes.now in
    let small = bit_small a.cells.now a.at in
    unpad_tag shapes.types.now shapes.widths.now shapes.next.now a.i _ _ _ _ (sym c.in-Tag.ensures) c.read_cell-side.result
    c.side_of-part.result c.side_of-padding.result (cells_of a.cells.now) a.at a.q c.unpad_part.result (bits_of a.answer.now) _ _
    (omega arith) (sym c.read_cell-side.ensures) c.side_of-part.ensures c.side_of-padding.ensures
    c.write_cell.ensures c.unpad_part.ensures.0 c.unpad_part.ensures.1

pub returns-in-Both : goal.returns-in-Both
returns-in-Both t c =
    let a = c.args in
    let shapes = a.shapes.now in
    unpad_both shapes.types.now shapes.widths.now shapes.next.now a.i _ _ _ (sym c.in-Both.ensures) (cells_of a.cells.now) a.at a.q
    c.unpad_part-middle.result c.unpad_part-in-Both.result (bits_of a.answer.now) _ _
    c.unpad_part-middle.ensures.0 c.unpad_part-middle.ensures.1 c.unpad_part-in-Both.ensures.0 c.unpad_part-in-Both.ensures.1
