-- The table of naturals: a natural that stands whole in the bits of a byte is the one that any list gives that begins with them.
-- So a byte of a window has an entry that tells the natural there, and where there is none it may tell the length of a longer one.
use mathlib.Core.Path.{◌≡◌, refl, ap, ap₂, sym, subst, ◌∙◌}
use mathlib.Core.List.{List, [], ◌∷◌, ◌++◌}
use Prim.Native.Nat.{ℕ, zero, suc, ◌+◌, ◌*◌, ◌-◌, ◌/◌, ◌%◌, ◌^◌, ◌≤◌, ◌<◌}
use native.Mathlib.Omega.{arith}
use native.Mathlib.Decide.{dec_lt}
use lib.Dec.{T, ltb, ltb→lt, lit<}
use lib.ListN.{length, get_or, take, drop, length-drop, take-append-drop, get_or-eq_default}
use lib.Seq.{length-take-le, take-take, drop-drop, drop-append-le}
use Rattle.limits.specs.Limits.{natural_length}
use Rattle.report.specs.Bits.{Bit, byte_bits, bits_of, number_from, bytes_of}
use Rattle.scope.specs.Naturals.{Natural, natural, ended, too_long, more_bits, of_length, read_natural}
use Rattle.common.specs.Bits.{AreBits, below_take, below_drop, bits_of_bytes}
use Rattle.common.specs.Numbers.{length_fits, length_too_long_lem}
use Rattle.common.specs.Tables.{length-tabulate, tabulate_at}
use Rattle.bititer.specs.Windows.{window_bits, Window, after_one, entry_of, natural_entries}
use Rattle.bititer.proofs.Tests.{below, below_at}
use Rattle.bititer.proofs.Naturals.{natural_zero, natural_told}
use Rattle.bititer.proofs.Windows.{window_part, window_small, one_begins, length_read}

-- what follows a natural does not change it
bits_longer : (k n m : ℕ) (l r t : List Bit) → more_bits k n l ≡ natural m r → more_bits k n (l ++ t) ≡ natural m (r ++ t)
unfolding more_bits
bits_longer zero n m l r t e =
    let v : n ≡ m = cc in
    let w : l ≡ r = cc in
    ap₂ (λ (i : ℕ) (x : List Bit). natural i (x ++ t)) v w
bits_longer (suc k) n m [] r t e = let z : ◌≡◌ {A = ℕ} 0 1 = cc in absurd (omega arith)
bits_longer (suc k) n m (b ∷ l) r t e = bits_longer k (n * 2 + b) m l r t e

pub natural_longer : (l : List Bit) (n : ℕ) (r t : List Bit) → read_natural l ≡ natural n r → read_natural (l ++ t) ≡ natural n (r ++ t)
unfolding read_natural
natural_longer [] n r t e = let z : ◌≡◌ {A = ℕ} 0 1 = cc in absurd (omega arith)
natural_longer (zero ∷ l) n r t e =
    let v : 1 ≡ n = cc in
    let w : l ≡ r = cc in
    ap₂ (λ (i : ℕ) (x : List Bit). natural i (x ++ t)) v w
natural_longer (suc b ∷ l) n r t e = go (read_natural l) (λ m u f. natural_longer l m u t f) e
  where
    long : (m : ℕ) (u : List Bit) → of_length (natural m u) ≡ natural n r → natural_length < m → ⊥
    long m u e h = let c : natural n r ≡ too_long = sym e ∙ length_too_long_lem m u h in let z : ◌≡◌ {A = ℕ} 0 1 = cc in omega arith

    fine : (m : ℕ) (u : List Bit) → read_natural (l ++ t) ≡ natural m (u ++ t) → of_length (natural m u) ≡ natural n r → m ≤ natural_length
        → of_length (read_natural (l ++ t)) ≡ natural n (r ++ t)
    fine m u i e h = ap of_length i ∙ length_fits m (u ++ t) h ∙ bits_longer m 1 n u r t (sym (length_fits m u h) ∙ e)

    go : (x : Natural) → ((m : ℕ) (u : List Bit) → x ≡ natural m u → read_natural (l ++ t) ≡ natural m (u ++ t))
        → of_length x ≡ natural n r → of_length (read_natural (l ++ t)) ≡ natural n (r ++ t)
    go (natural m u) ih e = elim (dec_lt natural_length m) [ yes h ↦ absurd (long m u e h) | no k ↦ fine m u (ih m u refl) e (omega arith) ]
    go ended ih e = let z : ◌≡◌ {A = ℕ} 0 1 = cc in absurd (omega arith)
    go too_long ih e = let z : ◌≡◌ {A = ℕ} 0 1 = cc in absurd (omega arith)

-- an entry that is not 0 is a natural, and the bits that it takes are of the byte
entry_told : (b e : ℕ) → e ≡ entry_of (read_natural (byte_bits b)) → 0 < e
    → (read_natural (byte_bits b) ≡ natural (e / 16) (drop (e % 16) (byte_bits b))) × (e % 16 ≤ 8)
unfolding entry_of
entry_told b e q some = go (read_natural (byte_bits b)) refl q
  where
    go : (x : Natural) → read_natural (byte_bits b) ≡ x → e ≡ entry_of x
        → (read_natural (byte_bits b) ≡ natural (e / 16) (drop (e % 16) (byte_bits b))) × (e % 16 ≤ 8)
    go (natural n r) x q =
        let i = natural_told (byte_bits b) n r x in
        let short : length r < 8 = i.1 in
        let rest : r ≡ drop (8 - length r) (byte_bits b) = i.2 in
        let number : e / 16 ≡ n = omega arith in
        let taken : e % 16 ≡ 8 - length r = omega arith in
        (x ∙ ap₂ natural (sym number) (rest ∙ ap (λ (j : ℕ). drop j (byte_bits b)) (sym taken)), omega arith)
    go ended x q = absurd (omega arith)
    go too_long x q = absurd (omega arith)

entry_of_lem : (b : ℕ) → b < 256 → get_or natural_entries b 0 ≡ entry_of (read_natural (byte_bits b))
unfolding natural_entries
entry_of_lem b h = tabulate_at (λ x. entry_of (read_natural (byte_bits x))) 256 b 0 h

-- each entry is a byte
every_entry_small : T (below (λ b. ltb (entry_of (read_natural (byte_bits b))) 256) 256)
unfolding entry_of read_natural of_length more_bits
every_entry_small = tt

pub entry_small : (b : ℕ) → get_or natural_entries b 0 < 256
unfolding natural_entries
entry_small b = elim (dec_lt b 256) [
  | yes h ↦ rw (entry_of_lem b h)
      (ltb→lt (entry_of (read_natural (byte_bits b))) 256 (below_at (λ x. ltb (entry_of (read_natural (byte_bits x))) 256) 256 b every_entry_small h))
  | no m ↦ past (let h : 256 ≤ b = omega arith in h)
]
  where
    past : 256 ≤ b → get_or natural_entries b 0 < 256
    past h = rw (get_or-eq_default natural_entries 0 {n = b} (omega (arith, length-tabulate (λ x. entry_of (read_natural (byte_bits x))) 256))) (lit< tt)

-- a byte whose first bit is 0 has the entry of 1
zero_entry : (b : ℕ) → b < 128 → get_or natural_entries b 0 ≡ 17
unfolding entry_of
zero_entry b h = entry_of_lem b (omega arith) ∙ ap entry_of (natural_zero (byte_bits b) _ (b / 128 % 2) refl (omega arith))

-- eight bits are those of the byte that they make
byte_bits_lem : (l : List Bit) → AreBits l → 8 ≤ length l → (byte_bits (number_from 0 (take 8 l)) ≡ take 8 l) × (number_from 0 (take 8 l) < 256)
unfolding bytes_of bits_of
byte_bits_lem l are h =
    let n : length (take 8 l) ≡ 8 * 1 = length-take-le 8 l h in
    let i = bits_of_bytes 1 (take 8 l) n (below_take 2 8 l are) in
    let t : take 8 (take 8 l) ≡ take 8 l = take-take 8 8 l (omega arith) in
    (ap (λ (x : List ℕ). byte_bits (number_from 0 x)) (sym t) ∙ i.0, subst (λ (x : List ℕ). number_from 0 x < 256) t i.1.0)

module _ (l : List Bit) (w : ℕ) (window : Window l w) where
  -- the entry of the byte at bit j tells the natural there
  window_entry : (j e : ℕ) → j + 8 ≤ window_bits → e ≡ get_or natural_entries (w / 2 ^ (window_bits - (j + 8)) % 256) 0 → 0 < e
      → (read_natural (drop j l) ≡ natural (e / 16) (drop (j + e % 16) l)) × (e % 16 ≤ 8)
  window_entry j e h q some =
      let x = drop j l in
      let b = number_from 0 (take 8 x) in
      let byte = byte_bits_lem x (below_drop 2 j l window.0) (omega (arith, length-drop j l, window.1)) in
      let p : e ≡ entry_of (read_natural (byte_bits b)) = q ∙ ap (λ (n : ℕ). get_or natural_entries n 0) (window_part l w window j 8 h) ∙ entry_of_lem b byte.1 in
      let told = entry_told b e p some in
      let eight : length (take 8 x) ≡ 8 = length-take-le 8 x (omega (arith, length-drop j l, window.1)) in
      let first : read_natural (take 8 x) ≡ natural (e / 16) (drop (e % 16) (take 8 x)) =
      subst (λ (y : List Bit). read_natural y ≡ natural (e / 16) (drop (e % 16) y)) byte.0 told.0 in
      let rest : drop (e % 16) (take 8 x) ++ drop 8 x ≡ drop (j + e % 16) l =
      sym (drop-append-le (e % 16) (take 8 x) (drop 8 x) (omega (arith, told.1))) ∙ ap (drop (e % 16)) (take-append-drop 8 x) ∙ drop-drop (e % 16) j l in (
        ap read_natural (sym (take-append-drop 8 x)) ∙ natural_longer (take 8 x) (e / 16) (drop (e % 16) (take 8 x)) (drop 8 x) first
            ∙ ap (natural (e / 16)) rest,
        told.1,
      )

  -- a natural that stands whole in the window's first byte
  pub table_whole : (e : ℕ) → e ≡ get_or natural_entries (w / 131072) 0 → 0 < e
      → (read_natural l ≡ natural (e / 16) (drop (e % 16) l)) × (e % 16 ≤ window_bits)
  table_whole e q some =
      let small = window_small l w window in
      let b : w / 131072 ≡ w / 131072 % 256 = omega arith in
      let told = window_entry 0 e (omega arith) (q ∙ ap (λ (n : ℕ). get_or natural_entries n 0) b) some in
      let z : 0 + e % 16 ≡ e % 16 = omega arith in
      (told.0 ∙ ap (λ (n : ℕ). natural (e / 16) (drop n l)) z, omega (arith, told.1))

  -- one that does not: its length, where that stands whole in the byte after the first bit
  pub table_longer : (e f : ℕ) → e ≡ get_or natural_entries (w / 131072) 0 → e ≡ 0 → f ≡ get_or natural_entries (w / 65536 % 256) 0 → 0 < f → f < 256
      → (read_natural l ≡ natural (after_one w (1 + f % 16) (f / 16)) (drop (1 + f % 16 + f / 16) l)) × (1 + f % 16 + f / 16 ≤ window_bits)
  table_longer e f q none r some small =
      let first : 16777216 ≤ w = elim (dec_lt w 16777216) [ yes h ↦ absurd (zero_first h) | no m ↦ omega arith ] in
      let told = window_entry 1 f (omega arith) r some in
      let inside : 1 + f % 16 + f / 16 ≤ window_bits = omega (arith, told.1) in
      (one_begins l w window first ∙ ap of_length told.0 ∙ length_read l w window (1 + f % 16) (f / 16) inside, inside)
    where
      zero_first : w < 16777216 → ⊥
      zero_first h = omega (arith, zero_entry (w / 131072) (omega arith))
