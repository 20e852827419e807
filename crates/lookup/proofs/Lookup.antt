-- What is done around two children, by the node's kind.
use mathlib.Core.Path.{◌≡◌}
use mathlib.Core.List.{List}
use Prim.Native.Nat.{ℕ}
use borrow.Author.Tests.{eq-eqb, ne_eqb}
use Rattle.scope.specs.Types.{type_records}
use Rattle.scope.specs.Nodes.{NodeRecord}
use Rattle.scope.specs.Arrows.{arrow_records}
use Rattle.lookup.specs.declared.Around.TheVariants.{Pairing, Composing, Disconnecting}
use Rattle.lookup.specs.Lookup.{source_width, target_width, kept_width, around_by}

module _ (types widths arrows : List ℕ) (i : ℕ) (r : NodeRecord) where
  pub around_pair : r.kind ≡ 2 → Pairing ≡ around_by types widths arrows i r
  unfolding around_by
  around_pair e = rw (eq-eqb r.kind 2 e, around_by)

  pub around_comp : (r.kind ≡ 2 → ⊥) → r.kind ≡ 0 → Composing (target_width widths (arrow_records arrows) r.first)
      ≡ around_by types widths arrows i r
  unfolding around_by
  around_comp n e = rw (ne_eqb r.kind 2 n, eq-eqb r.kind 0 e, around_by)

  pub around_disconnect : (r.kind ≡ 2 → ⊥) → (r.kind ≡ 0 → ⊥)
      → Disconnecting (source_width widths (arrow_records arrows) i) (kept_width (type_records types) widths (arrow_records arrows) i)
      (source_width widths (arrow_records arrows) r.second) ≡ around_by types widths arrows i r
  unfolding around_by
  around_disconnect n m = rw (ne_eqb r.kind 2 n, ne_eqb r.kind 0 m, around_by)
