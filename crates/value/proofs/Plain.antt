-- Bits without padding: what skipping, padding and unpadding them are, and that the bits of a slice are read as they are.
use mathlib.Core.Path.{◌≡◌, refl, ap, ap₂, sym, ◌∙◌}
use mathlib.Core.List.{List, [], ◌∷◌, ◌++◌}
use Prim.Native.Nat.{ℕ, zero, suc, ◌+◌, ◌≤◌, ◌<◌}
use native.Mathlib.Decide.{dec_lt}
use native.Mathlib.Omega.{arith}
use Rattle.std.specs.Prelude.{Some, None}
use lib.ListN.{length, get_or, take, drop, length-drop}
use lib.Seq.{sets, length-take-le}
use borrow.Author.Tests.{le-leb, lt-leb}
use Rattle.bititer.proofs.Bits.{bit_small}
use Rattle.common.specs.Bits.{stream_within, length_within}
use Rattle.bititer.proofs.Streams.{stream_some, length_stream, length_over}
use Rattle.std.proofs.lemmas.Grind.{common_steps}
use Rattle.cells.proofs.Parts.{bits_within}
use Rattle.common.specs.Cells.{bits_from}
use Rattle.report.specs.Bits.{Bit, bits_of}
use Rattle.scope.specs.Numbers.{stream_of, tabulate_from}
use Rattle.scope.specs.Run.{cells_of}
use Rattle.value.specs.Bits.{used, short, tag_of, tags_of, skip_shape, pad_shape, skipped}
use Rattle.value.specs.Shapes.{plain}

-- by how many bits there are
module _ (n : ℕ) (bs : List Bit) where
  pub skip_enough : n ≤ length bs → skip_shape (plain n) bs ≡ used n
  unfolding skip_shape
  skip_enough h = rw (le-leb n (length bs) h, skip_shape)

  pub skip_few : length bs < n → skip_shape (plain n) bs ≡ short
  unfolding skip_shape
  skip_few h = rw (lt-leb n (length bs) h, skip_shape)

  pub pad_enough : (d : List Bit) (at : ℕ) → n ≤ length bs → pad_shape (plain n) bs d at ≡ sets d at (tags_of (take n bs))
  unfolding pad_shape
  pad_enough d at h = rw (le-leb n (length bs) h, pad_shape)

  pub pad_few : (d : List Bit) (at : ℕ) → length bs < n → pad_shape (plain n) bs d at ≡ d
  unfolding pad_shape
  pad_few d at h = rw (lt-leb n (length bs) h, pad_shape)

-- what the answer of skipping tells
module _ (n p : ℕ) (bs : List Bit) where
  pub plain_there : (m : ℕ) → Some m ≡ skipped p (skip_shape (plain n) bs) → n ≤ length bs
  plain_there m e = elim (dec_lt (length bs) n) [ yes h ↦ absurd (few h) | no h ↦ omega arith ]
    where
      few : length bs < n → ⊥
      few h =
          let f : Some m ≡ None = e ∙ ap (skipped p) (skip_few n bs h) in
          let z : ◌≡◌ {A = ℕ} 0 1 = cc in
          omega arith

  pub plain_cut : (d : List Bit) (at : ℕ) → None ≡ skipped p (skip_shape (plain n) bs) → d ≡ pad_shape (plain n) bs d at
  plain_cut d at e = elim (dec_lt (length bs) n) [ yes h ↦ sym (pad_few n bs d at h) | no h ↦ absurd (enough (let l : n ≤ length bs = omega arith in l)) ]
    where
      enough : n ≤ length bs → ⊥
      enough h =
          let f : None ≡ Some (p + n) = e ∙ ap (skipped p) (skip_enough n bs h) in
          let z : ◌≡◌ {A = ℕ} 0 1 = cc in
          omega arith

-- tags of bits: as many, part by part
pub length_tags : (bs : List Bit) → length (tags_of bs) ≡ length bs
unfolding tags_of
length_tags [] = refl
length_tags (b ∷ bs) = ap suc (length_tags bs)

pub length_first : (n : ℕ) (bs : List Bit) → n ≤ length bs → length (tags_of (take n bs)) ≡ n
length_first n bs h = length_tags (take n bs) ∙ length-take-le n bs h

pub tags_append : (xs ys : List Bit) → tags_of (xs ++ ys) ≡ tags_of xs ++ tags_of ys
unfolding tags_of
tags_append [] ys = refl
tags_append (x ∷ xs) ys = ap (λ (l : List Bit). tag_of x ∷ l) (tags_append xs ys)

-- a bit below 2 is its tag
tag_small : (b : ℕ) → b < 2 → tag_of b ≡ b
tag_small zero h = refl
tag_small (suc zero) h = refl
tag_small (suc (suc b)) h = absurd (omega arith)

module _ (s : List ℕ) where
  tags_same : (p n : ℕ) → tags_of (bits_from (bits_of s) p n) ≡ bits_from (bits_of s) p n
  unfolding tags_of bits_from
  tags_same p zero = refl
  tags_same p (suc n) = ap₂ ◌∷◌ (tag_small (get_or (bits_of s) p 0) (bit_small s p)) (tags_same (suc p) n)

  -- so the bits of a stream are read as they are, and so are the cells of a store
  pub stream_plain : (p n : ℕ) → 0 < n → n ≤ length (drop p (stream_of s)) → bits_from (bits_of s) p n ≡ tags_of (take n (drop p (stream_of s)))
  stream_plain p n h m =
      let k = length-drop p (stream_of s) in
      let e : stream_of s ≡ bits_of s = stream_within s (stream_some s p (omega arith)) in
      let l : length (stream_of s) ≡ length (bits_of s) = ap length e in
      sym (tags_same p n) ∙ ap tags_of (bits_within (bits_of s) p n (omega arith) ∙ ap (λ (b : List ℕ). take n (drop p b)) (sym e))

  pub cells_plain : (at n : ℕ) → bits_from (bits_of s) at n ≡ tabulate_from at n (λ k. tag_of (cells_of s k))
  unfolding bits_from tabulate_from cells_of
  cells_plain at zero = refl
  cells_plain at (suc n) = ap₂ ◌∷◌ (sym (tag_small (get_or (bits_of s) at 0) (bit_small s at))) (cells_plain (suc at) n)

-- what the functions that count, read and pad such bits are proved by
pub ruleset left_ways = (common_steps, length_within, length_over)

pub ruleset skip_plain_ways = (common_steps, length_stream, skip_enough, skip_few)

pub ruleset pad_plain_ways = (length_stream, plain_there, plain_cut, stream_plain, pad_enough)
