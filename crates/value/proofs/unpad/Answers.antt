-- `value::unpad` meets its contract.
use mathlib.Core.Path.{◌≡◌, ap, sym, ◌∙◌}
use Prim.Native.Nat.{ℕ}
use lib.ListN.{get_or}
use Rattle.report.specs.Bits.{bits_of}
use Rattle.scope.specs.Run.{cells_of}
use Rattle.value.specs.Bits.{room}
use Rattle.value.specs.Shapes.{shape_at}
use Rattle.value.proofs.Ways.{unpad_done}
use Rattle.value.proofs.unpad.Goals as goal

pub returns : goal.returns
returns c =
    let a = c.args in
    let shapes = a.shapes.now in
    let A = shape_at shapes.types.now shapes.widths.now shapes.next.now a.i in
    let v = get_or shapes.widths.now a.i 0 in
    let b = bits_of a.cells.now in
    let d = bits_of a.answer.now in
    let first : c.has_room.result ≡ room v a.at b = c.has_room.ensures ∙ ap (λ (k : ℕ). room k a.at b) c.entry_or-width.ensures in
    let second : c.has_room-else-not-has_room.result ≡ room v a.q d =
    c.has_room-else-not-has_room.ensures ∙ ap (λ (k : ℕ). room k a.q d) c.entry_or-width.ensures in
    unpad_done A v b (cells_of a.cells.now) a.at d a.q c.unpad_part-end.result _ (sym c.if-not-has_room.false ∙ first)
    (sym c.if-not-has_room-2.false ∙ second) c.unpad_part-end.ensures.0 c.unpad_part-end.ensures.1
