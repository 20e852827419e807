-- Readers one after the other at a node, and what each part of a node's head gives once what it reads first is known.
use mathlib.Core.Path.{◌≡◌, refl, sym, ap, ap₂, subst, ◌∙◌}
use mathlib.Core.Bool.{Bool, true, false}
use mathlib.Core.List.{List, []}
use Prim.Native.Nat.{ℕ, zero, suc, ◌+◌, ◌-◌, ◌/◌, ◌%◌, ◌^◌, ◌<◌, ◌≤◌}
use native.Mathlib.Omega.{arith}
use lib.Dec.{eqb}
use lib.ListN.{length, take, drop, length-drop}
use lib.Seq.{length-take-le}
use borrow.Author.Tests.{eq-eqb, ne_eqb}
use Rattle.limits.specs.Limits.{dossier_bytes, word_most, hash_bytes}
use Rattle.refusal.specs.declared.Refusal.{Refusal}
use Rattle.refusal.specs.declared.Refusal.TheVariants.{StreamEnded, Jet}
use Rattle.report.specs.Bits.{Bit, number_from, bits_of}
use Rattle.scope.specs.Check.{Check, passed, refused}
use Rattle.scope.specs.Numbers.{stream_of}
use Rattle.scope.specs.Reading.{Got, got, fault, Fault, stream_ended, a_jet, refusal_at, Reader, ◌>>=◌, give, stop, here, Item, item, next, code, natural_up_to, child, octets, combinator, word_item, node}
use Rattle.common.specs.Checks.{clash}
use Rattle.common.specs.Bits.{AreBits, below_take, below_drop, are_bits, stream_within, length_within}
use Rattle.std.specs.Prelude.{Option, Some, None}
use Rattle.std.specs.Option.{ok_or}
use Rattle.bititer.specs.Answers.{got_code}
use Rattle.bititer.specs.Windows.{window_bits}
use Rattle.bititer.proofs.Streams.{next_within, next_past, code_got, stream_some}
use Rattle.bititer.proofs.Windows.{number_below, window_code}
use Rattle.exactness.proofs.Stream.{then_reads}
use Rattle.decode.specs.declared.Follows.{Follows}
use Rattle.decode.specs.Answers.{number_of}
use Rattle.decode.specs.Heads.{at_node, bytes_after, followed, two_children, one_child, third, last, word_from}

-- a result that passed at a node was read
pub at_got : {X : Type 0} (i : ℕ) (g : Got X) (x : X) (n : ℕ) → at_node i g ≡ passed (x, n) → g ≡ got x n
unfolding at_node
at_got {X} i (got y m) x n e =
    ap₂ got (ap (λ (c : Check (X × ℕ)). elim c [ passed p ↦ p.0 | refused r ↦ y ]) e)
    (ap (λ (c : Check (X × ℕ)). elim c [ passed p ↦ p.1 | refused r ↦ m ]) e)
at_got i (fault d) x n e = clash (cc)

-- one reader and then another: what stops the first stops both
pub stops_with : {X Y : Type 0} (m : Reader X) (f : X → Reader Y) (at : ℕ) (d : Fault) → m at ≡ fault d → (m >>= f) at ≡ fault d
unfolding ◌>>=◌
stops_with {X} {Y} m f at d e = ap (λ (g : Got X). elim g as (λ z. Got Y) [ got x n ↦ f x n | fault d ↦ fault d ]) e

pub stops : {X Y : Type 0} (i : ℕ) (m : Reader X) (f : X → Reader Y) (at : ℕ) (why : Refusal) → at_node i (m at) ≡ refused why
    → at_node i ((m >>= f) at) ≡ refused why
unfolding ◌>>=◌ at_node
stops {X} {Y} i m f at why e = go (m at) e
  where
    go : (g : Got X) → at_node i g ≡ refused why → at_node {X = Y} i (elim g [ got x n ↦ f x n | fault d ↦ fault d ]) ≡ refused why
    go (got x n) e = clash (cc)
    go (fault d) e = (let r : refusal_at i d ≡ why = cc in ap (λ (r : Refusal). refused r) r)

pub at_ended : {X : Type 0} (i : ℕ) (g : Got X) → g ≡ fault stream_ended → refused (StreamEnded i) ≡ at_node i g
unfolding at_node refusal_at
at_ended i g e = sym (ap (at_node i) e)

-- what was read at a node
pub was_read : {X : Type 0} (i : ℕ) (g : Got X) {x : X} {n : ℕ} → passed (x, n) ≡ at_node i g → g ≡ got x n
was_read i g {x} {n} e = at_got i g x n (sym e)

-- bits that are there were read, and bits that are not are refused with the stream's end
pub code_told : (i : ℕ) (o : Option (ℕ × ℕ)) {g : Got ℕ} → got_code o ≡ g → number_of (ok_or o (StreamEnded i)) ≡ at_node i g
unfolding at_node refusal_at
code_told i (Some (v, n)) e = ap (at_node i) e
code_told i None e = ap (at_node i) e

-- a subcode of two bits
pub subcode : (program : List ℕ) (at v n : ℕ) → code (stream_of program) 2 at ≡ got v n → v < 4
subcode program at v n e =
    let bits = stream_of program in
    let c = code_got bits 2 at v n e in
    let d = stream_within program (stream_some program at (omega arith)) in
    let are : AreBits (drop at bits) = subst (λ (l : List Bit). AreBits (drop at l)) (sym d) (below_drop 2 at (bits_of program) (are_bits program)) in
    let two : length (take 2 (drop at bits)) ≡ 2 = length-take-le 2 (drop at bits) (omega (arith, length-drop at bits)) in
    subst (λ (x : ℕ). x < 4) (sym c.2)
    (subst (λ (k : ℕ). number_from 0 (take 2 (drop at bits)) < 2 ^ k) two (number_below (take 2 (drop at bits)) (below_take 2 2 (drop at bits) are)))

module _ (bits : List Bit) (i at : ℕ) where
  -- a child whose distance is refused, or read
  pub child_stops : (why : Refusal) → at_node i (natural_up_to bits i at) ≡ refused why → refused why ≡ at_node i (child bits i at)
  unfolding child
  child_stops why e = sym (stops i (natural_up_to bits i) (λ d. give (i - d)) at why e)

  pub child_read : (d n : ℕ) → natural_up_to bits i at ≡ got d n → passed (i - d, n) ≡ at_node i (child bits i at)
  unfolding child give at_node
  child_read d n e = sym (ap (at_node i) (then_reads (natural_up_to bits i) (λ d. give (i - d)) at d n e))

  -- two children: the first refused, the second, or none
  pub first_stops : (kind : ℕ) (why : Refusal) → at_node i (child bits i at) ≡ refused why → refused why ≡ at_node i (two_children bits kind i at)
  unfolding two_children
  first_stops kind why e = sym (stops i (child bits i) (λ a. child bits i >>= λ b. item kind a b []) at why e)

  after_first_lem : (kind a m : ℕ) → child bits i at ≡ got a m → two_children bits kind i at ≡ (child bits i >>= λ b. item kind a b []) m
  unfolding two_children
  after_first_lem kind a m e = then_reads (child bits i) (λ a. child bits i >>= λ b. item kind a b []) at a m e

  pub second_stops : (kind a m : ℕ) (why : Refusal) → child bits i at ≡ got a m → at_node i (child bits i m) ≡ refused why
      → refused why ≡ at_node i (two_children bits kind i at)
  second_stops kind a m why e f = sym (ap (at_node i) (after_first_lem kind a m e) ∙ stops i (child bits i) (λ b. item kind a b []) m why f)

  pub both_read : (kind a m b n : ℕ) → child bits i at ≡ got a m → child bits i m ≡ got b n
      → at_node i (followed bits (record { kind = kind; first = a; second = b; third = 0 }) Follows.Nothing n) ≡ at_node i (two_children bits kind i at)
  unfolding followed bytes_after ◌>>=◌ give item
  both_read kind a m b n e f = ap (at_node i) (sym (after_first_lem kind a m e ∙ then_reads (child bits i) (λ b. item kind a b []) m b n f))

  -- one child, refused or read
  pub only_stops : (kind : ℕ) (why : Refusal) → at_node i (child bits i at) ≡ refused why → refused why ≡ at_node i (one_child bits kind i at)
  unfolding one_child
  only_stops kind why e = sym (stops i (child bits i) (λ a. item kind a 0 []) at why e)

  pub only_read : (kind a n : ℕ) → child bits i at ≡ got a n
      → at_node i (followed bits (record { kind = kind; first = a; second = 0; third = 0 }) Follows.Nothing n) ≡ at_node i (one_child bits kind i at)
  unfolding one_child followed bytes_after ◌>>=◌ give item
  only_read kind a n e = ap (at_node i) (sym (then_reads (child bits i) (λ a. item kind a 0 []) at a n e))

  -- the third group by its code
  pub third_child : (held sub : ℕ) → sub ≡ 3 → third bits i held sub at ≡ one_child bits 11 i at
  unfolding third
  third_child held sub e = rw (eq-eqb sub 3 e, third)

  pub third_fail : (held sub : ℕ) → sub ≡ 2
      → followed bits (record { kind = 10; first = held; second = 0; third = 0 }) Follows.Fail at ≡ third bits i held sub at
  unfolding third followed bytes_after item
  third_fail held sub e = sym (rw (ne_eqb sub 3 (λ q. omega arith), eq-eqb sub 2 e, third))

  pub third_leaf : (held sub kind : ℕ) → kind ≡ 8 + sub → sub < 2
      → followed bits (record { kind = kind; first = 0; second = 0; third = 0 }) Follows.Nothing at ≡ third bits i held sub at
  unfolding third followed bytes_after item give ◌>>=◌
  third_leaf held sub kind e h = rw e (sym (rw (ne_eqb sub 3 (λ q. omega arith), ne_eqb sub 2 (λ q. omega arith), third)))

  -- the last group: its bit is refused, or tells a witness from a hidden node
  abbrev by_last_bit : (held : ℕ) → Bool → Reader Item
  by_last_bit held b = elim b [ true ↦ item 12 0 0 [] | false ↦ (octets bits hash_bytes >>= λ bytes. item 13 held 0 bytes) ]

  pub last_stops : (held : ℕ) (why : Refusal) → at_node i (code bits 1 at) ≡ refused why → refused why ≡ at_node i (last bits held at)
  unfolding last
  last_stops held why e = sym (stops i (code bits 1) (λ sub. by_last_bit held (eqb sub 1)) at why e)

  pub last_witness : (held sub n : ℕ) → code bits 1 at ≡ got sub n → sub ≡ 1
      → followed bits (record { kind = 12; first = 0; second = 0; third = 0 }) Follows.Nothing n ≡ last bits held at
  unfolding last followed bytes_after item give ◌>>=◌
  last_witness held sub n e h =
      sym (then_reads (code bits 1) (λ sub. by_last_bit held (eqb sub 1)) at sub n e ∙ ap (λ (b : Bool). by_last_bit held b n) (eq-eqb sub 1 h))

  pub last_hidden : (held sub n : ℕ) → code bits 1 at ≡ got sub n → (sub ≡ 1 → ⊥)
      → followed bits (record { kind = 13; first = held; second = 0; third = 0 }) Follows.Hash n ≡ last bits held at
  unfolding last followed bytes_after item
  last_hidden held sub n e h =
      sym (then_reads (code bits 1) (λ sub. by_last_bit held (eqb sub 1)) at sub n e ∙ ap (λ (b : Bool). by_last_bit held b n) (ne_eqb sub 1 h))

  -- a combinator by its code
  pub combinator-last : (held two : ℕ) → 3 ≤ two → combinator bits i held two at ≡ last bits held at
  unfolding combinator last
  combinator-last held zero h = absurd (omega arith)
  combinator-last held (suc zero) h = absurd (omega arith)
  combinator-last held (suc (suc zero)) h = absurd (omega arith)
  combinator-last held (suc (suc (suc k))) h = refl

  pub combinator_stops : (held two : ℕ) (why : Refusal) → two < 3 → at_node i (code bits 2 at) ≡ refused why
      → refused why ≡ at_node i (combinator bits i held two at)
  unfolding combinator
  combinator_stops held zero why h e = sym (stops i (code bits 2) _ at why e)
  combinator_stops held (suc zero) why h e = sym (stops i (code bits 2) _ at why e)
  combinator_stops held (suc (suc zero)) why h e = sym (stops i (code bits 2) _ at why e)
  combinator_stops held (suc (suc (suc k))) why h e = absurd (omega arith)

  pub combinator_two : (held two sub n : ℕ) → two ≡ 0 → code bits 2 at ≡ got sub n → combinator bits i held two at ≡ two_children bits sub i n
  unfolding combinator two_children
  combinator_two held two sub n h e =
      ap (λ (k : ℕ). combinator bits i held k at) h ∙ then_reads (code bits 2) (λ sub. two_children bits sub i) at sub n e

  pub combinator_one : (held two sub n : ℕ) → two ≡ 1 → code bits 2 at ≡ got sub n → combinator bits i held two at ≡ one_child bits (4 + sub) i n
  unfolding combinator one_child
  combinator_one held two sub n h e =
      ap (λ (k : ℕ). combinator bits i held k at) h ∙ then_reads (code bits 2) (λ sub. one_child bits (4 + sub) i) at sub n e

  pub combinator-third : (held two sub n : ℕ) → two ≡ 2 → code bits 2 at ≡ got sub n → combinator bits i held two at ≡ third bits i held sub n
  unfolding combinator third one_child
  combinator-third held two sub n h e =
      ap (λ (k : ℕ). combinator bits i held k at) h ∙ then_reads (code bits 2) (λ sub. third bits i held sub) at sub n e

  -- a word: its natural refused, or read
  pub word_stops : (why : Refusal) → at_node i (natural_up_to bits word_most at) ≡ refused why → refused why ≡ at_node i (word_item bits at)
  unfolding word_item
  word_stops why e = sym (stops i (natural_up_to bits word_most) (λ n. here >>= λ first. next bits (2 ^ (n - 1)) >>= λ bs. item 14 n first []) at why e)

  pub word_read : (n first : ℕ) → natural_up_to bits word_most at ≡ got n first → word_item bits at ≡ word_from bits n first
  unfolding word_item word_from here ◌>>=◌
  word_read n first e = then_reads (natural_up_to bits word_most) (λ n. here >>= λ first. next bits (2 ^ (n - 1)) >>= λ bs. item 14 n first []) at n first e

  -- a node by its first bits
  pub node_stops : (held : ℕ) (why : Refusal) → at_node i (code bits 1 at) ≡ refused why → refused why ≡ at_node i (node bits i held at)
  unfolding node
  node_stops held why e = sym (stops i (code bits 1) _ at why e)

  -- after the second bit of what is no combinator: a jet, or a word
  abbrev by_jet_bit : Bool → Reader Item
  by_jet_bit b = elim b [ true ↦ stop a_jet | false ↦ word_item bits ]

  abbrev by_first_bit : (held : ℕ) → Bool → Reader Item
  by_first_bit held b = elim b [ true ↦ (code bits 2 >>= λ two. combinator bits i held two) | false ↦ (code bits 1 >>= λ jet. by_jet_bit (eqb jet 1)) ]

  first_bit : (held b n : ℕ) (t : Bool) → code bits 1 at ≡ got b n → eqb b 0 ≡ t → node bits i held at ≡ by_first_bit held t n
  unfolding node
  first_bit held b n t e h = then_reads (code bits 1) (λ other. by_first_bit held (eqb other 0)) at b n e ∙ ap (λ (t : Bool). by_first_bit held t n) h

  pub code_stops : (held b n : ℕ) (why : Refusal) → code bits 1 at ≡ got b n → b ≡ 0 → at_node i (code bits 2 n) ≡ refused why
      → refused why ≡ at_node i (node bits i held at)
  code_stops held b n why e h f =
      sym (ap (at_node i) (first_bit held b n true e (eq-eqb b 0 h)) ∙ stops i (code bits 2) (λ two. combinator bits i held two) n why f)

  pub code_read : (held b n two m : ℕ) → code bits 1 at ≡ got b n → b ≡ 0 → code bits 2 n ≡ got two m → node bits i held at ≡ combinator bits i held two m
  code_read held b n two m e h f = first_bit held b n true e (eq-eqb b 0 h) ∙ then_reads (code bits 2) (λ two. combinator bits i held two) n two m f

  pub jet_stops : (held b n : ℕ) (why : Refusal) → code bits 1 at ≡ got b n → (b ≡ 0 → ⊥) → at_node i (code bits 1 n) ≡ refused why
      → refused why ≡ at_node i (node bits i held at)
  jet_stops held b n why e h f =
      sym (ap (at_node i) (first_bit held b n false e (ne_eqb b 0 h)) ∙ stops i (code bits 1) (λ jet. by_jet_bit (eqb jet 1)) n why f)

  second_bit : (held b n jet m : ℕ) (t : Bool) → code bits 1 at ≡ got b n → (b ≡ 0 → ⊥) → code bits 1 n ≡ got jet m → eqb jet 1 ≡ t
      → node bits i held at ≡ by_jet_bit t m
  second_bit held b n jet m t e h f k =
      first_bit held b n false e (ne_eqb b 0 h) ∙ then_reads (code bits 1) (λ jet. by_jet_bit (eqb jet 1)) n jet m f ∙ ap (λ (t : Bool). by_jet_bit t m) k

  pub jet_read : (held b n jet m : ℕ) → code bits 1 at ≡ got b n → (b ≡ 0 → ⊥) → code bits 1 n ≡ got jet m → jet ≡ 1
      → refused (Jet i) ≡ at_node i (node bits i held at)
  unfolding stop at_node refusal_at
  jet_read held b n jet m e h f k = sym (ap (at_node i) (second_bit held b n jet m true e h f (eq-eqb jet 1 k)))

  pub no_jet : (held b n jet m : ℕ) → code bits 1 at ≡ got b n → (b ≡ 0 → ⊥) → code bits 1 n ≡ got jet m → (jet ≡ 1 → ⊥) → node bits i held at ≡ word_item bits m
  no_jet held b n jet m e h f k = second_bit held b n jet m false e h f (ne_eqb jet 1 k)

-- a node by the five bits of its code, which are its kind: two children, one child, or none
module _ (program : List ℕ) (i at held w : ℕ) (read : code (stream_of program) window_bits at ≡ got w (at + window_bits)) (small : w / 1048576 < 12) where
  first_three : node (stream_of program) i held at ≡ combinator (stream_of program) i held (w / 1048576 / 4) (at + 1 + 2)
  first_three =
      let z : at ≡ at + 0 = omega arith in
      let low : w < 2 ^ 24 = omega arith in
      code_read (stream_of program) i at held (w / 2 ^ 24 % 2) (at + 1) (w / 1048576 / 4) (at + 1 + 2)
      (ap (code (stream_of program) 1) z ∙ window_code program at w 0 1 read (omega arith)
      ∙ ap (got (w / 2 ^ 24 % 2)) (let y : at + 0 + 1 ≡ at + 1 = omega arith in y))
      (omega arith)
      (window_code program at w 1 2 read (omega arith) ∙ ap (λ (n : ℕ). got n (at + 1 + 2)) (let y : w / 2 ^ 22 % 2 ^ 2 ≡ w / 1048576 / 4 = omega arith in y))

  last_two : code (stream_of program) 2 (at + 1 + 2) ≡ got (w / 1048576 % 4) (at + 5)
  last_two =
      let y : at + 1 + 2 ≡ at + 3 = omega arith in
      let z : at + 3 + 2 ≡ at + 5 = omega arith in
      ap (code (stream_of program) 2) y ∙ window_code program at w 3 2 read (omega arith) ∙ ap (got (w / 2 ^ 20 % 2 ^ 2)) z

  pub kind_two : w / 1048576 < 4 → node (stream_of program) i held at ≡ two_children (stream_of program) (w / 1048576) i (at + 5)
  kind_two h =
      first_three ∙ combinator_two (stream_of program) i (at + 1 + 2) held (w / 1048576 / 4) (w / 1048576 % 4) (at + 5) (omega arith) last_two
      ∙ ap (λ (k : ℕ). two_children (stream_of program) k i (at + 5)) (let y : w / 1048576 % 4 ≡ w / 1048576 = omega arith in y)

  pub kind_one : 4 ≤ w / 1048576 → w / 1048576 < 8 → node (stream_of program) i held at ≡ one_child (stream_of program) (w / 1048576) i (at + 5)
  kind_one g h =
      first_three ∙ combinator_one (stream_of program) i (at + 1 + 2) held (w / 1048576 / 4) (w / 1048576 % 4) (at + 5) (omega arith) last_two
      ∙ ap (λ (k : ℕ). one_child (stream_of program) k i (at + 5)) (let y : 4 + w / 1048576 % 4 ≡ w / 1048576 = omega arith in y)

  pub kind_none : 8 ≤ w / 1048576 → w / 1048576 < 10
      → followed (stream_of program) (record { kind = w / 1048576; first = 0; second = 0; third = 0 }) Follows.Nothing (at + 5)
      ≡ node (stream_of program) i held at
  kind_none g h =
      third_leaf (stream_of program) i (at + 5) held (w / 1048576 % 4) (w / 1048576) (omega arith) (omega arith)
      ∙ sym (first_three ∙ combinator-third (stream_of program) i (at + 1 + 2) held (w / 1048576 / 4) (w / 1048576 % 4) (at + 5) (omega arith) last_two)

-- a word whose bits are not all there, and one whose bits are
module _ (program : List ℕ) (i n first : ℕ) (within : length program ≤ dossier_bytes) where
  pub word_ended : length program < (first + 2 ^ (n - 1) + 7) / 8 → refused (StreamEnded i) ≡ at_node i (word_from (stream_of program) n first)
  unfolding word_from
  word_ended h =
      at_ended i _ (stops_with (next (stream_of program) (2 ^ (n - 1))) (λ bs. item 14 n first []) first stream_ended
      (next_past (stream_of program) (2 ^ (n - 1)) first (omega (arith, length_within program within))))

  pub word_whole_lem : (first + 2 ^ (n - 1) + 7) / 8 ≤ length program
      → at_node i (followed (stream_of program) (record { kind = 14; first = n; second = first; third = 0 }) Follows.Nothing (first + 2 ^ (n - 1)))
      ≡ at_node i (word_from (stream_of program) n first)
  unfolding word_from followed bytes_after item give ◌>>=◌
  word_whole_lem h =
      ap (at_node i) (sym (then_reads (next (stream_of program) (2 ^ (n - 1))) (λ bs. item 14 n first []) first _ (first + 2 ^ (n - 1))
      (next_within (stream_of program) (2 ^ (n - 1)) first (omega (arith, length_within program within)))))
