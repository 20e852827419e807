-- `value::pad_part` meets its contract: each way through the code is one law of skipping and one of padding along a shape.
use mathlib.Core.Path.{◌≡◌, sym, ◌∙◌}
use Rattle.bititer.proofs.Streams.{bit_got, bit_below}
use Rattle.report.specs.Bits.{bits_of}
use Rattle.scope.specs.Numbers.{stream_of}
use Rattle.scope.specs.Reading.{got, code}
use Rattle.value.proofs.Ways.{skip_along, pad_along, skip_tag, skip_cut, skip_both, pad_tag, pad_cut, pad_both}
use Rattle.value.proofs.+pad_part.Goals as goal

pub returns-in-Plain : goal.returns-in-Plain
returns-in-Plain t c =
    let a = c.args in
    let shapes = a.shapes.now in
    let step = sym c.in-Plain.ensures in (
      skip_along shapes.types.now shapes.widths.now shapes.next.now a.i _ a.p c.pad_plain.result _ step c.pad_plain.ensures.0,
      pad_along shapes.types.now shapes.widths.now shapes.next.now a.i _ a.at _ (bits_of a.cells.now) _ step c.pad_plain.ensures.1,
    )

pub returns-in_ok-side-in-Tag : goal.returns-in_ok-side-in-Tag
returns-in_ok-side-in-Tag t c =
    let a = c.args in
    let shapes = a.shapes.now in
    let bits = stream_of a.s.now in
    let step = sym c.in-Tag.ensures in
    let side = c.in_ok-side-in-Tag.side in
    let after = c.in_ok-side-in-Tag.after in
    let read : code bits 1 a.p ≡ got side after = sym c.in_ok-side-in-Tag.ensures in
    let rest = bit_got bits a.p side after read in (
      c.pad_part.ensures.0
          ∙ skip_tag shapes.types.now shapes.widths.now shapes.next.now a.i _ _ _ _ step side c.side_of-part.result a.p after bits
          c.side_of-part.ensures rest.1 rest.2,
      pad_tag shapes.types.now shapes.widths.now shapes.next.now a.i _ _ _ _ step side c.side_of-part.result c.side_of-padding.result
          a.p after a.at bits (bits_of a.cells.now) _ _ (bit_below a.s.now a.p side after read) c.side_of-part.ensures c.side_of-padding.ensures rest.2
          c.write_tag.ensures c.pad_part.ensures.1,
    )

pub returns-in_err-middle-in-Both : goal.returns-in_err-middle-in-Both
returns-in_err-middle-in-Both t c =
    let a = c.args in
    let shapes = a.shapes.now in
    let step = sym c.in-Both.ensures in
    let none = sym c.in_err-middle-in-Both.was ∙ c.pad_part-in-Both.ensures.0 in (
      c.from_residual-in_err-middle-in-Both.ensures ∙ skip_cut shapes.types.now shapes.widths.now shapes.next.now a.i _ _ _ step a.p _ none,
      pad_cut shapes.types.now shapes.widths.now shapes.next.now a.i _ _ _ step a.p a.at _ (bits_of a.cells.now) _ none c.pad_part-in-Both.ensures.1,
    )

pub returns-in_ok-middle-in-Both : goal.returns-in_ok-middle-in-Both
returns-in_ok-middle-in-Both t c =
    let a = c.args in
    let shapes = a.shapes.now in
    let bits = stream_of a.s.now in
    let step = sym c.in-Both.ensures in
    let middle = c.in_ok-middle-in-Both.middle in
    let first = c.in_ok-middle-in-Both.ensures.0 in (
      c.pad_part-in-Both-2.ensures.0 ∙ skip_both shapes.types.now shapes.widths.now shapes.next.now a.i _ _ _ step a.p middle bits first,
      pad_both shapes.types.now shapes.widths.now shapes.next.now a.i _ _ _ step a.p middle a.at bits (bits_of a.cells.now) _ _ first
          c.pad_part-in-Both.ensures.1 c.pad_part-in-Both-2.ensures.1,
    )
