-- `decode::Reader::by_table` meets its contract: the entry of the window's first byte is the natural, or that of the byte after its first bit its length.
use mathlib.Core.Path.{◌≡◌, sym, ap, ◌∙◌}
use mathlib.Core.List.{List}
use Prim.Native.Nat.{ℕ, ◌+◌, ◌/◌, ◌%◌, ◌<◌, ◌≤◌}
use native.Mathlib.Omega.{arith}
use lib.ListN.{length, get_or, drop, length-drop}
use lib.Seq.{drop-drop}
use Rattle.scope.specs.Numbers.{stream_of}
use Rattle.scope.specs.Naturals.{natural, read_natural}
use Rattle.scope.specs.Reading.{got, code}
use Rattle.bititer.specs.Windows.{window_bits, after_one, natural_entries}
use Rattle.bititer.proofs.Streams.{length_stream}
use Rattle.bititer.proofs.Windows.{window_read, window_small}
use Rattle.bititer.proofs.Table.{entry_small, table_whole, table_longer}
use Rattle.decode.proofs.Reader.by_table.Goals as goal

-- an entry of a table that is the one of the naturals
entry_is : (naturals : List ℕ) → naturals ≡ natural_entries → (j : ℕ) {x : ℕ} → x ≡ get_or naturals j 0 → x ≡ get_or natural_entries j 0
entry_is naturals same j read = read ∙ ap (λ (t : List ℕ). get_or t j 0) same

-- a natural whose length stands whole in the byte after the window's first bit
longer : (program naturals : List ℕ) (at w whole x : ℕ) → code (stream_of program) window_bits at ≡ got w (at + window_bits) → naturals ≡ natural_entries
    → whole ≡ get_or naturals (w / 131072) 0 → whole ≡ 0 → x ≡ get_or naturals (w / 65536 % 256) 0 → 0 < x
    → (read_natural (drop at (stream_of program)) ≡ natural (after_one w (1 + x % 16) (x / 16)) (drop (at + (1 + x % 16 + x / 16)) (stream_of program)))
    × (at + (1 + x % 16 + x / 16) ≤ length (stream_of program))
longer program naturals at w whole x read same e none f some =
    let bits = stream_of program in
    let window = window_read program at w read in
    let entry = entry_is naturals same (w / 65536 % 256) f in
    let t = table_longer (drop at bits) w window whole x (entry_is naturals same (w / 131072) e) none entry some
    (omega (arith, entry, entry_small (w / 65536 % 256))) in
    (t.0 ∙ ap (natural (after_one w (1 + x % 16) (x / 16))) (drop-drop (1 + x % 16 + x / 16) at bits), omega (arith, t.1, window.1, length-drop at bits))

pub bounds-self-w : goal.bounds-self-w
bounds-self-w c =
    let reader = c.args.self.now in
    let at = c.args.at in
    let w = c.in_ok-w.w in
    omega (
      arith,
      window_small (drop at (stream_of reader.program.now)) w
          (window_read reader.program.now at w (sym c.in_ok-w.ensures)),
    )

pub overflow_add-result : goal.overflow_add-result
overflow_add-result c =
    let reader = c.args.self.now in
    let at = c.args.at in
    let window = window_read reader.program.now at c.in_ok-w.w (sym c.in_ok-w.ensures) in
    omega (arith, window.1, length-drop at (stream_of reader.program.now), length_stream reader.program.now)

pub returns-then-whole-gt0 : goal.returns-then-whole-gt0
returns-then-whole-gt0 c =
    let reader = c.args.self.now in
    let at = c.args.at in
    let bits = stream_of reader.program.now in
    let w = c.in_ok-w.w in
    let x = c.from-whole.result in
    let window = window_read reader.program.now at w (sym c.in_ok-w.ensures) in
    let t = table_whole (drop at bits) w window x
    (entry_is reader.naturals.now reader.table_is_right (w / 131072) c.from-whole.ensures) c.if-whole-gt0.true in (
      t.0 ∙ ap (natural (x / 16)) (drop-drop (x % 16) at bits),
      omega arith,
      omega (arith, t.1, window.1, length-drop at bits),
    )

pub overflow_add-result-3 : goal.overflow_add-result-3
overflow_add-result-3 c =
    let reader = c.args.self.now in
    let at = c.args.at in
    let m = longer reader.program.now reader.naturals.now at c.in_ok-w.w c.from-whole.result c.from-length.result
    (sym c.in_ok-w.ensures) reader.table_is_right c.from-whole.ensures (omega arith) c.from-length.ensures (omega arith) in
    omega (arith, m.1, length_stream reader.program.now)

pub returns : goal.returns
returns c =
    let reader = c.args.self.now in
    let at = c.args.at in
    let x = c.from-length.result in
    let m = longer reader.program.now reader.naturals.now at c.in_ok-w.w c.from-whole.result x
    (sym c.in_ok-w.ensures) reader.table_is_right c.from-whole.ensures (omega arith) c.from-length.ensures (omega arith) in
    (m.0 ∙ ap (λ (n : ℕ). natural n (drop (at + (1 + x % 16 + x / 16)) (stream_of reader.program.now))) (sym c.after_one-n.ensures), omega arith, m.1)
