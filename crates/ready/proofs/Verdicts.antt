-- What is said of the input bits and of the stores, test by test as the code makes them.
use Rattle.std.specs.Prelude.{Option, Some, None, Result, Ok, Err}
use mathlib.Core.Path.{◌≡◌, refl, ap, sym, ◌∙◌}
use mathlib.Core.Bool.{Bool, true, false}
use mathlib.Core.List.{List}
use Prim.Native.Nat.{ℕ, ◌+◌, ◌/◌, ◌≤◌, ◌<◌}
use native.Mathlib.Omega.{arith}
use lib.Dec.{leb}
use lib.ListN.{length, take, drop}
use borrow.Author.Tests.{le-leb, lt-leb}
use Rattle.limits.specs.Limits.{dossier_bytes, frame_numbers}
use Rattle.refusal.specs.declared.Refusal.{Refusal}
use Rattle.refusal.specs.declared.Refusal.TheVariants.{Input, StoreShort}
use Rattle.report.specs.Bits.{Bit}
use Rattle.report.specs.Types.{Ty}
use Rattle.report.specs.Values.{Val, compact, Read, value, short, read_value}
use Rattle.scope.specs.Check.{passed, refused, ◌>>=◌, require}
use Rattle.scope.specs.Numbers.{stream_of, held_bits, bytes_for}
use Rattle.scope.specs.Closing.{used_up}
use Rattle.scope.specs.Input.{check_input}
use Rattle.common.specs.Checks.{clash}
use Rattle.value.proofs.Types.{read_fit}
use Rattle.ready.specs.Answers.{verdict, end_of, stores_rule}
use Rattle.ready.proofs.Ends.{all_used}

module _ (A : Ty) (bytes : List ℕ) (count : ℕ) where
  abbrev bits : List Bit
  bits = take count (held_bits bytes)

  -- the value's end in a slice that is the bytes up to the limit
  pub input_held : (own : List ℕ) → own ≡ take dossier_bytes bytes → (r : Option ℕ)
      → r ≡ end_of 0 (read_value A (drop 0 (take count (stream_of own)))) → r ≡ end_of 0 (read_value A bits)
  input_held own e r f = f ∙ ap (λ (l : List ℕ). end_of 0 (read_value A (take count (stream_of l)))) e

  -- what is said of what was read
  abbrev said : Read → Result (Unit {0}) Refusal
  said r = verdict {X = Val} (elim r [
    | value v rest ↦ (require (used_up bytes count rest) (Input 0) >>= λ used. passed v)
    | short ↦ refused (Input 0)
  ])

  said_is : said (read_value A bits) ≡ verdict (check_input A bytes count)
  unfolding check_input
  said_is = refl

  pub input_short : None ≡ end_of 0 (read_value A bits) → Err (Input 0) ≡ verdict (check_input A bytes count)
  unfolding end_of verdict
  input_short e = go (read_value A bits) e ∙ said_is
    where
      go : (r : Read) → None ≡ end_of 0 r → Err (Input 0) ≡ said r
      go (value v rest) e = clash (cc)
      go short e = refl

  -- a value was read that ends at q: it is judged by whether that is all
  read_to_lem : (q : ℕ) (used : Bool) → Some q ≡ end_of 0 (read_value A bits) → all_used bytes q count ≡ used
      → (v : Val) × (verdict (require used (Input 0) >>= λ used. passed v) ≡ verdict (check_input A bytes count))
  unfolding end_of
  read_to_lem q used e f = go (read_value A bits) refl e
    where
      go : (r : Read) → read_value A bits ≡ r → Some q ≡ end_of 0 r
          → (v : Val) × (verdict (require used (Input 0) >>= λ used. passed v) ≡ verdict (check_input A bytes count))
      go (value v rest) g e =
          let n : q ≡ length (compact v) = (let z : q ≡ 0 + length (compact v) = cc in omega arith) in
          let l : drop q bits ≡ rest = ap (λ (k : ℕ). drop k bits) n ∙ sym (read_fit A bits v rest g).after in (
            v,
            ap (λ (b : Bool). verdict (require b (Input 0) >>= λ used. passed v))
                (sym f ∙ ap (λ (m : List Bit). used_up bytes count m) l) ∙ ap said (sym g) ∙ said_is,
          )
      go short g e = clash (cc)

  pub input_left : (q : ℕ) → Some q ≡ end_of 0 (read_value A bits) → all_used bytes q count ≡ false → Err (Input 0) ≡ verdict (check_input A bytes count)
  unfolding verdict require ◌>>=◌
  input_left q e f = (read_to_lem q false e f).1

  pub input_whole : (q : ℕ) → Some q ≡ end_of 0 (read_value A bits) → all_used bytes q count ≡ true → Ok tt ≡ verdict (check_input A bytes count)
  unfolding verdict require ◌>>=◌
  input_whole q e f = (read_to_lem q true e f).1

module _ (cell_bound frame_bound width cells frames answer : ℕ) where
  -- what is said of the stores, by the three tests
  abbrev stores : (first second third : Bool) → Result (Unit {0}) Refusal
  stores first second third =
      verdict (require first (StoreShort 0) >>= λ one. require second (StoreShort 1) >>= λ two. require third (StoreShort 2))

  stores_are : (a b c : Bool) → leb (bytes_for cell_bound) cells ≡ a → leb frame_bound (frames / frame_numbers) ≡ b → leb (bytes_for width) answer ≡ c
      → stores a b c ≡ verdict (stores_rule cell_bound frame_bound width cells frames answer)
  unfolding stores_rule
  stores_are a b c x y z = λ k. stores (sym x k) (sym y k) (sym z k)

  pub cells_short : cells < bytes_for cell_bound → Err (StoreShort 0) ≡ verdict (stores_rule cell_bound frame_bound width cells frames answer)
  unfolding verdict require ◌>>=◌
  cells_short h = stores_are false _ _ (lt-leb (bytes_for cell_bound) cells h) refl refl

  pub frames_short : bytes_for cell_bound ≤ cells → frames / frame_numbers < frame_bound
      → Err (StoreShort 1) ≡ verdict (stores_rule cell_bound frame_bound width cells frames answer)
  unfolding verdict require ◌>>=◌
  frames_short g h = stores_are true false _ (le-leb (bytes_for cell_bound) cells g) (lt-leb frame_bound (frames / frame_numbers) h) refl

  pub answer_short : bytes_for cell_bound ≤ cells → frame_bound ≤ frames / frame_numbers → answer < bytes_for width
      → Err (StoreShort 2) ≡ verdict (stores_rule cell_bound frame_bound width cells frames answer)
  unfolding verdict require ◌>>=◌
  answer_short g h k =
      stores_are true true false (le-leb (bytes_for cell_bound) cells g) (le-leb frame_bound (frames / frame_numbers) h)
      (lt-leb (bytes_for width) answer k)

  pub stores_long : bytes_for cell_bound ≤ cells → frame_bound ≤ frames / frame_numbers → bytes_for width ≤ answer
      → Ok tt ≡ verdict (stores_rule cell_bound frame_bound width cells frames answer)
  unfolding verdict require ◌>>=◌
  stores_long g h k =
      stores_are true true true (le-leb (bytes_for cell_bound) cells g) (le-leb frame_bound (frames / frame_numbers) h)
      (le-leb (bytes_for width) answer k)
