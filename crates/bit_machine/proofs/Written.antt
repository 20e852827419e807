-- Values and hashes at the write cursor: what the calls that put them into the cells have shown, as the machine's rule.
use mathlib.Core.Path.{◌≡◌, refl, sym, ap, ◌∙◌}
use mathlib.Core.Bool.{true}
use mathlib.Core.List.{List, [], ◌∷◌}
use mathlib.Core.Logic.{◌⊎◌, inl, inr}
use Prim.Native.Nat.{ℕ, ◌+◌, ◌*◌, ◌≤◌}
use native.Mathlib.Omega.{arith}
use borrow.Author.Tests.{le-leb}
use lib.ListN.{length, get_or, take, drop}
use lib.Seq.{sets, take_all}
use Rattle.limits.specs.Limits.{cell_count, hash_bytes}
use Rattle.report.specs.Bits.{Bit, bits_of}
use Rattle.report.specs.Types.{Ty, width}
use Rattle.report.specs.Values.{Val, compact, padded, read_value}
use Rattle.report.specs.Nodes.{Node}
use Rattle.scope.specs.Machine.{Frame, forward}
use Rattle.scope.specs.Types.{type_records, ty_at}
use Rattle.scope.specs.Hashes.{branch_hash}
use Rattle.scope.specs.Program.{value_from}
use Rattle.types.proofs.Sound.{passed_table}
use Rattle.value.specs.Shapes.{shape_at}
use Rattle.value.specs.Bits.{room, Padded, padding, pad_stage}
use Rattle.std.specs.Prelude.{Option, Some}
use Rattle.value.proofs.Ways.{room_inside}
use Rattle.value.proofs.Types.{read_fit}
use Rattle.value.proofs.Sound.{padded_to, pad_is}
use Rattle.common.specs.Bits.{length_bits}
use Rattle.layout.specs.Mach.{Mach, mach, active_write}
use Rattle.layout.specs.Rules.{bits_written, skipped, write_moved}
use Rattle.layout.proofs.Rules.{bits_written_some, skipped_some}
use Rattle.layout.specs.Safe.{WriteOk}
use Rattle.ready.specs.Lent.{Reads, TypesShown}
use Rattle.ready.proofs.Ends.{width_shown}
use Rattle.bit_machine.proofs.Lent.{hash_whole}

-- a hash has at most 32 bytes
pub hash_short : (part : List ℕ) (ns : List Node) (given : List ℕ) (j : ℕ) → part ≡ branch_hash ns given j → length part ≤ hash_bytes
hash_short part ns given j is = go (hash_whole ns given j)
  where
    go : (length (branch_hash ns given j) ≡ hash_bytes) ⊎ (branch_hash ns given j ≡ []) → length part ≤ hash_bytes
    go (inl e) = rw is (omega arith)
    go (inr e) = rw (is, e) (omega arith)

-- all bits of a hash, counted in bytes
module _ {part hash : List ℕ} (is : part ≡ hash) where
  pub hash_count : length part * 8 ≡ length (bits_of hash)
  hash_count = rw is (omega (arith, length_bits hash))

  pub hash_bits : take (length part * 8) (bits_of part) ≡ bits_of hash
  hash_bits = take_all (length part * 8) (bits_of part) (omega (arith, length_bits part)) ∙ ap bits_of is

-- the same bits written
pub written_as : (m : Mach) {bs bs' : List ℕ} → bs ≡ bs' → bits_written bs m ≡ bits_written bs' m
written_as m e = rw e

none_written : (bs : List ℕ) (m : Mach) → length bs ≡ 0 → bits_written bs m ≡ m
unfolding bits_written
none_written [] m e = refl
none_written (b ∷ bs) m e = absurd (omega arith)

-- bits that were put at the write cursor, which was then moved behind them
put_written : (bits bs : List ℕ) (rs : List Frame) (w r x n : ℕ) → length bs ≡ n → (n ≡ 0 → ⊥) → (bits' : List ℕ)
    → bits' ≡ sets bits (active_write (mach bits rs w r x)).cursor bs → skipped n (mach bits' rs w r x) ≡ bits_written bs (mach bits rs w r x)
put_written bits bs rs w r x n e some bits' eb =
    skipped_some n (mach bits' rs w r x) some
    ∙ ap (λ (b : List ℕ). mach b (write_moved (forward n) (mach bits rs w r x)) w r x) eb
    ∙ ap (λ (k : ℕ). mach (sets bits (active_write (mach bits rs w r x)).cursor bs) (write_moved (forward k) (mach bits rs w r x)) w r x) (sym e)
    ∙ sym (bits_written_some bs (mach bits rs w r x) (λ z. some (sym e ∙ z)))

-- the value of type k that stands at bit p of a stream
module _ {types widths next : List ℕ} (shown : TypesShown types widths next) (k : ℕ) (stream : List Bit) (p : ℕ)
    (reads : Reads (ty_at (type_records types) k) (drop p stream)) (n : ℕ) (en : n ≡ get_or widths k 0) where
  abbrev A : Ty
  A = ty_at (type_records types) k

  abbrev cells : List Bit
  cells = padded A (value_from A (drop p stream))

  value_is : value_from A (drop p stream) ≡ reads.0
  unfolding value_from
  value_is = rw (reads.2, value_from)

  wide : n ≡ width A
  wide = en ∙ width_shown types widths next shown k

  pub value_long : length cells ≡ n
  value_long = ap (λ (v : Val). length (padded A v)) value_is ∙ (read_fit A (drop p stream) reads.0 reads.1 reads.2).wide ∙ sym wide

  pub value_none : n ≡ 0 → (m : Mach) → m ≡ bits_written cells m
  value_none e m = sym (none_written cells m (value_long ∙ e))

  padded_cells : (bits : List ℕ) (at : ℕ) → (n ≡ 0 → ⊥) → at + n ≤ length bits → length bits ≤ cell_count → (says : Option ℕ) (bits' : List ℕ)
      → padding says bits' ≡ pad_stage (shape_at types widths next k) (get_or widths k 0) stream p bits at → bits' ≡ sets bits at cells
  unfolding padded_to
  padded_cells bits at some fits few says bits' e =
      let v : Val = reads.0 in
      let roomy : room (width A) at bits ≡ true = rw (sym wide) (room_inside n at bits some fits ∙ le-leb (at + n) cell_count (omega arith)) in
      let right : pad_stage (shape_at types widths next k) (get_or widths k 0) stream p bits at ≡ padded_to A p bits at (read_value A (drop p stream)) =
      rw (shown.widths_are, shown.next_are) (pad_is types shown.count (passed_table types shown.count shown.passes) k stream p bits at) in
      let done : padded_to A p bits at (read_value A (drop p stream)) ≡ padding (Some (p + length (compact v))) (sets bits at (padded A v)) =
      rw (reads.2, roomy, padded_to) in
      ap (λ (z : Padded). z.cells) (e ∙ right ∙ done) ∙ ap (λ (v : Val). sets bits at (padded A v)) (sym value_is)

  pub value_written : (bits : List ℕ) (rs : List Frame) (w r x : ℕ) → (n ≡ 0 → ⊥) → WriteOk (length bits) n (mach bits rs w r x) → length bits ≤ cell_count
      → (cursor : ℕ) → cursor ≡ (active_write (mach bits rs w r x)).cursor → (says : Option ℕ) (bits' : List ℕ)
      → padding says bits' ≡ pad_stage (shape_at types widths next k) (get_or widths k 0) stream p bits cursor
      → skipped n (mach bits' rs w r x) ≡ bits_written cells (mach bits rs w r x)
  value_written bits rs w r x some ok few cursor ec says bits' e =
      put_written bits cells rs w r x n value_long some bits'
      (padded_cells bits cursor some (let z = ok.fits in omega arith) few says bits' e ∙ ap (λ (at : ℕ). sets bits at cells) ec)
