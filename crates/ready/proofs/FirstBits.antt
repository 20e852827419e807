-- Values in the first n bits of a stream, as witness and input bits are lent: a value that ends within them is the value that the whole
-- stream holds there, and any other is short.
use Rattle.std.specs.Prelude.{Some, None}
use mathlib.Core.Path.{◌≡◌, refl, ap, sym, ◌∙◌}
use mathlib.Core.Bool.{Bool, true, false}
use mathlib.Core.List.{List}
use Prim.Native.Nat.{ℕ, ◌+◌, ◌-◌, ◌≤◌, ◌<◌}
use native.Mathlib.Omega.{arith}
use lib.Dec.{leb}
use lib.ListN.{length, take, drop}
use borrow.Author.Tests.{le-leb, lt-leb, leb-true}
use Rattle.report.specs.Bits.{Bit}
use Rattle.report.specs.Types.{Ty}
use Rattle.report.specs.Values.{Val, compact, Read, value, short, read_value}
use Rattle.common.specs.Lists.{drop-take}
use Rattle.common.specs.Checks.{clash}
use Rattle.value.proofs.Prefix.{within, read_first}
use Rattle.ready.specs.Answers.{end_of}

module _ (A : Ty) (p n : ℕ) (bits : List Bit) where
  -- reading at p from the first n bits, and from all of them
  abbrev in_first : Read
  in_first = read_value A (drop p (take n bits))

  abbrev in_all : Read
  in_all = read_value A (drop p bits)

  first_is : in_first ≡ within (n - p) in_all
  first_is = ap (read_value A) (drop-take p n bits) ∙ read_first A (n - p) (drop p bits)

  -- what the first bits hold all bits hold
  pub in_all_lem : (v : Val) (rest : List Bit) → in_first ≡ value v rest → (more : List Bit) × (in_all ≡ value v more)
  unfolding within
  in_all_lem v rest e = go in_all refl (sym first_is ∙ e)
    where
      held : (w : Val) (more : List Bit) (b : Bool) → elim b [ true ↦ value w (take (n - p - length (compact w)) more) | false ↦ short ] ≡ value v rest → w ≡ v
      held w more true f = cc
      held w more false f = clash (cc)

      go : (r : Read) → in_all ≡ r → within (n - p) r ≡ value v rest → (more : List Bit) × (in_all ≡ value v more)
      go (value w more) g f = (more, g ∙ ap (λ (u : Val). value u more) (held w more (leb (length (compact w)) (n - p)) f))
      go short g f = clash (cc)

  -- where a value of all bits ends, and where that leaves the first bits
  pub ends_nowhere : None ≡ end_of p in_all → None ≡ end_of p in_first
  unfolding within end_of
  ends_nowhere e = go in_all e ∙ ap (end_of p) (sym first_is)
    where
      go : (r : Read) → None ≡ end_of p r → None ≡ end_of p (within (n - p) r)
      go (value v rest) e = clash (cc)
      go short e = refl

  pub ends_past : (q : ℕ) → Some q ≡ end_of p in_all → p ≤ n → n < q → None ≡ end_of p in_first
  unfolding within end_of
  ends_past q e h k = go in_all e ∙ ap (end_of p) (sym first_is)
    where
      go : (r : Read) → Some q ≡ end_of p r → None ≡ end_of p (within (n - p) r)
      go (value v rest) e =
          let f : q ≡ p + length (compact v) = cc in
          ap (λ (b : Bool). end_of p (elim b [ true ↦ value v (take (n - p - length (compact v)) rest) | false ↦ short ]))
          (sym (lt-leb (length (compact v)) (n - p) (omega arith)))
      go short e = clash (cc)

  pub ends_within : (q : ℕ) → Some q ≡ end_of p in_all → p ≤ n → q ≤ n → Some q ≡ end_of p in_first
  unfolding within end_of
  ends_within q e h k = go in_all e ∙ ap (end_of p) (sym first_is)
    where
      go : (r : Read) → Some q ≡ end_of p r → Some q ≡ end_of p (within (n - p) r)
      go (value v rest) e =
          let f : q ≡ p + length (compact v) = cc in
          e
          ∙ ap (λ (b : Bool). end_of p (elim b [ true ↦ value v (take (n - p - length (compact v)) rest) | false ↦ short ]))
          (sym (le-leb (length (compact v)) (n - p) (omega arith)))
      go short e = clash (cc)

  -- a value of the first bits ends within them
  pub ends_inside : (q : ℕ) → Some q ≡ end_of p in_first → p ≤ n → q ≤ n
  unfolding within end_of
  ends_inside q e h = go in_all (e ∙ ap (end_of p) first_is)
    where
      held : (v : Val) (rest : List Bit) (b : Bool) → leb (length (compact v)) (n - p) ≡ b
          → Some q ≡ end_of p (elim b [ true ↦ value v (take (n - p - length (compact v)) rest) | false ↦ short ]) → q ≤ n
      held v rest true f e =
          let g : q ≡ p + length (compact v) = cc in
          let k = leb-true (length (compact v)) (n - p) f in
          omega arith
      held v rest false f e = clash (cc)

      go : (r : Read) → Some q ≡ end_of p (within (n - p) r) → q ≤ n
      go (value v rest) e = held v rest (leb (length (compact v)) (n - p)) refl e
      go short e = clash (cc)
