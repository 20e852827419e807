-- The terms of the report's core language, with assertions, failure, witnesses, words and disconnect.
-- A term carries the types that its meaning or its run has to know, and its place in the program where it can stop a run.
use Rattle.std.specs.Prelude.{ℕ}
use Rattle.report.specs.Types.{Ty}
use Rattle.report.specs.Values.{Val}

-- A to B stands for a term from values of A to values of B
pub data Term : Type 0 where
  iden : (A : Ty) → Term
  comp : (B : Ty) → Term → Term → Term  -- A to B, then B to C
  unit : Term
  injl injr : (B C : Ty) → Term → Term  -- A to B + C
  case : (A B : Ty) → Term → Term → Term  -- (A + B) × C to D, of A × C to D and B × C to D
  pair : (B : Ty) → Term → Term → Term  -- A to B × C, of A to B and A to C
  take : Term → Term  -- A × B to C, of A to C
  drop : (A : Ty) → Term → Term  -- A × B to C, of B to C
  assertl assertr : (place : ℕ) (A B : Ty) → Term → Term  -- a case with its right branch pruned, or its left
  fail : (place : ℕ) → Term
  witness word : (A : Ty) → Val → Term
  disconnect : (A B C : Ty) → (hash : Val) → Term → Term → Term  -- A to B × D, of 2^256 × A to B × C and C to D
  bad : Term  -- a node that stands for no term: it has no type and no meaning
