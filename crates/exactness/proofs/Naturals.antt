-- Reading a natural and coding it undo one another, for the naturals from 1 on below `natural_bound`.
-- The bound is exact: no length above `natural_length` is allowed, so no larger number can be read.
use Rattle.std.specs.Prelude.{◌≡◌, refl, List, [], ◌∷◌, ◌++◌, ℕ, zero, suc, ◌+◌, ◌*◌, ◌-◌, ◌/◌, ◌%◌, ◌^◌, ◌≤◌, ◌<◌, length}
use Rattle.std.proofs.Common.{ap, sym, ◌∙◌, subst, ap₂, append_assoc, mod-lt, arith, pow_pos, pow_mono, pow-add, shr_lt}
use Rattle.std.proofs.Math.Decide.{dec_lt}
use Rattle.std.proofs.lemmas.Nat.{mod-pow-add}
use Rattle.std.proofs.Math.Pow.{split, high}
use Rattle.limits.specs.Limits.{natural_length}
use Rattle.report.specs.Bits.{Bit}
use Rattle.report.specs.Naturals.{low_bits, log2_by, log2, code_by, code_natural}
use Rattle.scope.specs.Naturals.{Natural, natural, ended, too_long, more_bits, of_length, read_natural}
use Rattle.common.specs.Numbers.{double, shift_in, length_fits, length_too_long_lem}
use Rattle.common.specs.Checks.{clash}
use Rattle.common.specs.Bits.{AreBits}
use Rattle.exactness.specs.Naturals.{natural_bound, Coded}

-- log2 n counts the bits of n below the top one
log2_by_between : (f n : ℕ) → n ≤ f → 1 ≤ n → (2 ^ log2_by f n ≤ n) × (n < 2 ^ suc (log2_by f n))
unfolding log2_by
log2_by_between zero n h p = absurd (omega arith)
log2_by_between (suc f) zero h p = absurd (omega arith)
log2_by_between (suc f) (suc zero) h p = (omega arith, omega arith)
log2_by_between (suc f) (suc (suc n)) h p =
    let k = log2_by f (suc (suc n) / 2) in
    let ih = log2_by_between f (suc (suc n) / 2) (omega arith) (omega arith) in
    (omega (arith, double k), omega (arith, double k, double (suc k)))

log2_between : (n : ℕ) → 1 ≤ n → (2 ^ log2 n ≤ n) × (n < 2 ^ suc (log2 n))
log2_between n p = log2_by_between n n (omega arith) p

log2_only : (n k : ℕ) → 2 ^ k ≤ n → n < 2 ^ suc k → log2 n ≡ k
log2_only n k a b =
    let p : 1 ≤ n = omega (arith, pow_pos k) in
    let h = log2_between n p in
    elim (dec_lt (log2 n) k) [ yes l ↦ absurd (below h l) | no m ↦ elim (dec_lt k (log2 n)) [ yes l ↦ absurd (above h l) | no j ↦ omega arith ] ]
  where
    below : (2 ^ log2 n ≤ n) × (n < 2 ^ suc (log2 n)) → log2 n < k → ⊥
    below h l = omega (arith, pow_mono {i = suc (log2 n)} {j = k} l)

    above : (2 ^ log2 n ≤ n) × (n < 2 ^ suc (log2 n)) → k < log2 n → ⊥
    above h l = omega (arith, pow_mono {i = suc k} {j = log2 n} l)

below_power : (k : ℕ) → k < 2 ^ k
below_power zero = omega arith
below_power (suc k) = omega (arith, below_power k, double k)

log2_below : (n : ℕ) → 2 ≤ n → log2 n < n
log2_below n p = let h = log2_between n (omega arith) in omega (arith, below_power (log2 n))

log2_positive : (n : ℕ) → 2 ≤ n → 1 ≤ log2 n
log2_positive n p = go (log2 n) (log2_between n (omega arith)).1
  where
    go : (k : ℕ) → n < 2 ^ suc k → 1 ≤ k
    go zero h = absurd (omega arith)
    go (suc k) h = omega arith

log2_fits : (n : ℕ) → 1 ≤ n → n < natural_bound → log2 n ≤ natural_length
log2_fits n p h = elim (dec_lt natural_length (log2 n)) [ yes l ↦ absurd (no_more l) | no m ↦ omega arith ]
  where
    no_more : natural_length < log2 n → ⊥
    no_more l = omega (arith, log2_between n p, pow_mono {i = suc natural_length} {j = log2 n} l)

-- the low bits of n, read back behind the number m
more_low : (k m n : ℕ) (r : List Bit) → more_bits k m (low_bits k n ++ r) ≡ natural (m * 2 ^ k + n % 2 ^ k) r
unfolding more_bits low_bits
more_low zero m n r = ap (λ (x : ℕ). natural x r) (let e : m ≡ m * 1 + n % 1 = omega arith in e)
more_low (suc k) m n r =
    more_low k (m * 2 + n / 2 ^ k % 2) n r ∙ ap (λ (x : ℕ). natural x r) q
  where
    step : n % 2 ^ suc k ≡ n / 2 ^ k % 2 * 2 ^ k + n % 2 ^ k
    step = ap (λ (i : ℕ). n % 2 ^ i) (let e : suc k ≡ 1 + k = omega arith in e) ∙ mod-pow-add n 1 k

    q : (m * 2 + n / 2 ^ k % 2) * 2 ^ k + n % 2 ^ k ≡ m * 2 ^ suc k + n % 2 ^ suc k
    q =
        let d : (m * 2 + n / 2 ^ k % 2) * 2 ^ k ≡ m * 2 ^ suc k + n / 2 ^ k % 2 * 2 ^ k =
        shift_in m (n / 2 ^ k % 2) (2 ^ k) ∙ rw (double k) in
        omega (arith, step)

-- with the top bit in front, that is n
top_bit : (k n : ℕ) → 2 ^ k ≤ n → n < 2 ^ suc k → 1 * 2 ^ k + n % 2 ^ k ≡ n
top_bit k n a b =
    let q : n / 2 ^ k < 2 ^ 1 = shr_lt 1 k (let h : n < 2 ^ (1 + k) = omega (arith, double k, pow-add 2 1 k) in h) in
    let s : n / 2 ^ k * 2 ^ k + n % 2 ^ k ≡ n = split n k in
    let m : n % 2 ^ k < 2 ^ k = mod-lt n (pow_pos k) in
    go (n / 2 ^ k) s q m
  where
    go : (d : ℕ) → d * 2 ^ k + n % 2 ^ k ≡ n → d < 2 → n % 2 ^ k < 2 ^ k → 1 * 2 ^ k + n % 2 ^ k ≡ n
    go zero s q m = absurd (omega arith)
    go (suc zero) s q m = s
    go (suc (suc d)) s q m = absurd (omega arith)

more_log2 : (n : ℕ) (r : List Bit) → 1 ≤ n → more_bits (log2 n) 1 (low_bits (log2 n) n ++ r) ≡ natural n r
more_log2 n r p =
    let h = log2_between n p in
    more_low (log2 n) 1 n r ∙ ap (λ (x : ℕ). natural x r) (top_bit (log2 n) n h.0 h.1)

reads_code_by : (f n : ℕ) (r : List Bit) → n ≤ f → 1 ≤ n → n < natural_bound → read_natural (code_by f n ++ r) ≡ natural n r
unfolding code_by read_natural
reads_code_by zero n r h p s = absurd (omega arith)
reads_code_by (suc f) zero r h p s = absurd (omega arith)
reads_code_by (suc f) (suc zero) r h p s = refl
reads_code_by (suc f) (suc (suc n)) r h p s =
    let m = suc (suc n) in
    let k = log2 (suc (suc n)) in
    let l = log2_below (suc (suc n)) (omega arith) in
    let u = log2_fits (suc (suc n)) p s in
    ap (λ (x : List Bit). of_length (read_natural x)) (append_assoc (code_by f k) (low_bits k m) r)
    ∙ ap of_length (reads_code_by f k (low_bits k m ++ r) (omega arith) (log2_positive m (omega arith)) (omega arith))
    ∙ length_fits k (low_bits k m ++ r) u
    ∙ more_log2 m r p

-- reading undoes the code
pub reads_code : (n : ℕ) (r : List Bit) → 1 ≤ n → n < natural_bound → read_natural (code_natural n ++ r) ≡ natural n r
reads_code n r p s = reads_code_by n n r (omega arith) p s

more_rest : (k m n : ℕ) (l r : List Bit) → AreBits l → more_bits k m l ≡ natural n r → AreBits r
unfolding more_bits
more_rest zero m n l r h e = let q : l ≡ r = cc in subst AreBits q h
more_rest (suc k) m n [] r h e = clash (cc)
more_rest (suc k) m n (b ∷ l) r h e = more_rest k (m * 2 + b) n l r h.1 e

bit_times : (b : ℕ) → b < 2 → (p : ℕ) → b * p + p ≤ 2 * p
bit_times zero h p = omega arith
bit_times (suc zero) h p = omega arith
bit_times (suc (suc b)) h p = absurd (omega arith)

-- what is read behind m are low bits
more_is_low : (k m n : ℕ) (l r : List Bit) → AreBits l → more_bits k m l ≡ natural n r
    → (l ≡ low_bits k n ++ r) × (m * 2 ^ k ≤ n) × (n < m * 2 ^ k + 2 ^ k)
unfolding more_bits low_bits
more_is_low zero m n l r h e = let q : l ≡ r = cc in let w : m ≡ n = cc in (q, omega arith, omega arith)
more_is_low (suc k) m n [] r h e = clash (cc)
more_is_low (suc k) m n (b ∷ l) r h e =
    let ih = more_is_low k (m * 2 + b) n l r h.1 e in
    let d : (m * 2 + b) * 2 ^ k ≡ m * (2 * 2 ^ k) + b * 2 ^ k = shift_in m b (2 ^ k) in
    let e₂ : m * 2 ^ suc k ≡ m * (2 * 2 ^ k) = ap (λ (x : ℕ). m * x) (double k) in
    let t : b * 2 ^ k + 2 ^ k ≤ 2 * 2 ^ k = bit_times b h.0 (2 ^ k) in
    let x : ℕ = n - (m * 2 + b) * 2 ^ k in
    let v : (m * 2 + b) * 2 ^ k + x ≡ n = omega arith in
    let y : n / 2 ^ k ≡ m * 2 + b = ap (λ (j : ℕ). j / 2 ^ k) (sym v) ∙ high (m * 2 + b) k (let o : x < 2 ^ k = omega arith in o) in
    let z : b ≡ n / 2 ^ k % 2 = omega arith in
    (ap₂ ◌∷◌ z ih.0, omega (arith, double k), omega (arith, double k))

code_by_enough : (f g n : ℕ) → n ≤ f → n ≤ g → code_by f n ≡ code_by g n
unfolding code_by
code_by_enough zero zero n h k = refl
code_by_enough zero (suc g) zero h k = refl
code_by_enough zero (suc g) (suc n) h k = absurd (omega arith)
code_by_enough (suc f) zero zero h k = refl
code_by_enough (suc f) zero (suc n) h k = absurd (omega arith)
code_by_enough (suc f) (suc g) zero h k = refl
code_by_enough (suc f) (suc g) (suc zero) h k = refl
code_by_enough (suc f) (suc g) (suc (suc n)) h k =
    let l = log2_below (suc (suc n)) (omega arith) in
    ap (λ (x : List Bit). 1 ∷ (x ++ low_bits (log2 (suc (suc n))) (suc (suc n)))) (code_by_enough f g (log2 (suc (suc n))) (omega arith) (omega arith))

-- the report's rule for a number above 1
pub code_above_one : (n : ℕ) → 2 ≤ n → code_natural n ≡ 1 ∷ (code_natural (log2 n) ++ low_bits (log2 n) n)
unfolding code_by
code_above_one zero h = absurd (omega arith)
code_above_one (suc zero) h = absurd (omega arith)
code_above_one (suc (suc n)) h =
    let l = log2_below (suc (suc n)) (omega arith) in
    ap (λ (x : List Bit). 1 ∷ (x ++ low_bits (log2 (suc (suc n))) (suc (suc n))))
    (code_by_enough (suc n) (log2 (suc (suc n))) (log2 (suc (suc n))) (omega arith) (omega arith))

code_by_some : (f n : ℕ) → 1 ≤ length (code_by f n)
unfolding code_by
code_by_some zero n = omega arith
code_by_some (suc f) zero = omega arith
code_by_some (suc f) (suc zero) = omega arith
code_by_some (suc f) (suc (suc n)) = omega arith

-- no code is empty
pub code_some : (n : ℕ) → 1 ≤ length (code_natural n)
code_some n = code_by_some n n

-- what was read was the code of it
pub read_is_code : (l : List Bit) (n : ℕ) (r : List Bit) → AreBits l → read_natural l ≡ natural n r → Coded l n r
unfolding read_natural code_by of_length
read_is_code [] n r h e = clash (cc)
read_is_code (zero ∷ l) n r h e =
    let p : 1 ≡ n = cc in
    let q : l ≡ r = cc in (
      ap₂ (λ (m : ℕ) (x : List Bit). code_natural m ++ x) p q,
      omega arith,
      (let s : 1 < natural_bound = omega arith in subst (λ (m : ℕ). m < natural_bound) p s),
      subst AreBits q h.1,
    )
read_is_code (suc b ∷ l) n r h e = go (read_natural l) (λ m x f. read_is_code l m x h.1 f) e
  where
    longer : (m : ℕ) (x : List Bit) → of_length (natural m x) ≡ natural n r → natural_length < m → ⊥
    longer m x e j = let y = length_too_long_lem m x j in let z : ◌≡◌ {A = ℕ} 0 1 = cc in omega arith

    fitting : (m : ℕ) (x : List Bit) → Coded l m x → of_length (natural m x) ≡ natural n r → m ≤ natural_length → Coded (suc b ∷ l) n r
    fitting m x i e j =
        let f : more_bits m 1 x ≡ natural n r = sym (length_fits m x j) ∙ e in
        let y = more_is_low m 1 n x r i.3 f in
        let w : log2 n ≡ m = log2_only n m (omega arith) (omega (arith, double m)) in
        let t : 2 ≤ n = omega (arith, pow_mono {i = 1} {j = m} i.1) in
        let c : b ≡ 0 = omega arith in
        let v : l ≡ code_natural (log2 n) ++ (low_bits (log2 n) n ++ r) =
        i.0 ∙ ap₂ (λ (k : ℕ) (u : List Bit). code_natural k ++ u) (sym w) (y.0 ∙ ap (λ (k : ℕ). low_bits k n ++ r) (sym w)) in (
          ap₂ (λ (k : ℕ) (u : List Bit). suc k ∷ u) c (v ∙ sym (append_assoc (code_natural (log2 n)) (low_bits (log2 n) n) r))
              ∙ ap (λ (u : List Bit). u ++ r) (sym (code_above_one n t)),
          omega arith,
          omega (arith, double m, pow_mono {i = suc m} {j = suc natural_length} (let o : suc m ≤ suc natural_length = omega arith in o)),
          more_rest m 1 n x r i.3 f,
        )

    go : (x : Natural) → ((m : ℕ) (r' : List Bit) → x ≡ natural m r' → Coded l m r') → of_length x ≡ natural n r → Coded (suc b ∷ l) n r
    go (natural m x) ih e = elim (dec_lt natural_length m) [ yes j ↦ absurd (longer m x e j) | no k ↦ fitting m x (ih m x refl) e (omega arith) ]
    go ended ih e = clash (cc)
    go too_long ih e = clash (cc)
