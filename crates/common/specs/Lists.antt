-- Laws of lists that the kit's library leaves out: one more at the end, a part of a part, a number set behind a front, one thing many times.
use Rattle.std.specs.Prelude.{◌≡◌, refl, List, [], ◌∷◌, ◌++◌, ℕ, zero, suc, ◌+◌, ◌-◌, length, get_or, set, take, drop, replicate}
use Rattle.std.proofs.Common.{sym, ap, ◌∙◌, zero-add, suc-add, arith, length-append}
use Rattle.std.proofs.Math.Seq.{take-nil}

module _ {X : Type 0} where
  pub length_snoc : (xs : List X) (x : X) → length (xs ++ x ∷ []) ≡ suc (length xs)
  length_snoc xs x = rw (length-append xs (x ∷ [])) (omega arith)

  pub drop-take : (p n : ℕ) (l : List X) → drop p (take n l) ≡ take (n - p) (drop p l)
  drop-take zero n l = ap (λ (k : ℕ). take k l) (let e : n ≡ n - 0 = omega arith in e)
  drop-take (suc p) zero l = ap (λ (k : ℕ). take k (drop (suc p) l)) (let e : 0 ≡ 0 - suc p = omega arith in e)
  drop-take (suc p) (suc n) [] = sym (take-nil (suc n - suc p))
  drop-take (suc p) (suc n) (x ∷ l) = drop-take p n l ∙ ap (λ (k : ℕ). take k (drop p l)) (let e : n - p ≡ suc n - suc p = omega arith in e)

  pub set-append-add : (xs ys : List X) (n : ℕ) (a : X) → set (xs ++ ys) (length xs + n) a ≡ xs ++ set ys n a
  set-append-add [] ys n a = rw zero-add
  set-append-add (x ∷ xs) ys n a = rw (suc-add (length xs) n, set-append-add xs ys n a)

  pub replicate_at : (n j : ℕ) (x : X) → get_or (replicate n x) j x ≡ x
  replicate_at zero j x = refl
  replicate_at (suc n) zero x = refl
  replicate_at (suc n) (suc j) x = replicate_at n j x
