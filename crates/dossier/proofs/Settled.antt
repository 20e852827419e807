-- A store is settled by an answer: kept as it is, or cleared.
use mathlib.Core.Path.{◌≡◌, sym}
use mathlib.Core.Bool.{true, false}
use mathlib.Core.List.{List}
use Prim.Native.Nat.{ℕ}
use Rattle.refusal.specs.Answers.{Answer}
use Rattle.common.specs.Stores.{cleared, all_cleared}
use Rattle.dossier.specs.Ends.{keeps, settled}

module _ (said : Answer) (store : List ℕ) where
  pub settled_kept : true ≡ keeps said → store ≡ settled said store
  unfolding settled
  settled_kept e = rw (sym e, settled)

  pub settled-cleared : false ≡ keeps said → cleared store 0 ≡ settled said store
  unfolding settled
  settled-cleared e = rw (sym e, settled) (all_cleared store)
