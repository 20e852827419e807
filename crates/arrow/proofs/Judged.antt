-- A node judged by the first one that repeats an earlier one: before it nodes are fresh, and it is not; and what is said of each.
use mathlib.Core.Path.{◌≡◌, refl, sym, ap, ◌∙◌}
use mathlib.Core.Bool.{Bool, true, false}
use mathlib.Core.List.{List, []}
use Prim.Native.Nat.{ℕ, ◌≤◌, ◌<◌}
use native.Mathlib.Nat.{min-eq_left}
use native.Mathlib.Omega.{arith}
use native.Mathlib.Decide.{ℕ_discrete, dec_lt}
use lib.Dec.{eqb, ltb}
use borrow.Author.Tests.{eq-eqb, eqb-true, lt-ltb, ltb-true}
use Rattle.std.specs.Option.{option_eq}
use Rattle.std.specs.Prelude.{Option, None, Some}
use Rattle.std.proofs.lemmas.Option.{same_Some}
use lib.ListN.{length}
use Rattle.limits.specs.Limits.{node_count}
use Rattle.refusal.specs.declared.Refusal.TheVariants.{NodeRepeated, Arrow as BadArrow}
use Rattle.scope.specs.Check.{first_failing}
use Rattle.scope.specs.Numbers.{every}
use Rattle.scope.specs.Types.{type_records}
use Rattle.scope.specs.Nodes.{node_records}
use Rattle.scope.specs.Arrows.{arrow_records, arrow_rule}
use Rattle.table.specs.Lent.{lent_nodes}
use Rattle.common.specs.Checks.{clash, not_both, first_passed, first_refused}
use Rattle.equal.specs.Keys.{fresh, first_repeat}
use Rattle.arrow.specs.Stage.{lent_rule, lent_refusal}

-- the first one is i, or it is still to come
pub same_index : (again : Option ℕ) (i : ℕ) → option_eq eqb again (Some i) ≡ true → again ≡ Some i
same_index None i e = clash (cc)
same_index (Some j) i e = ap Some (eqb-true j i e)

pub still_ahead : (again : Option ℕ) (i : ℕ) → option_eq eqb again (Some i) ≡ false → ((j : ℕ) → again ≡ Some j → i ≤ j) → (j : ℕ) → again ≡ Some j → i < j
still_ahead None i e ahead j q = clash (cc)
still_ahead (Some k) i e ahead j q =
    let p = same_Some k j q in
    elim (ℕ_discrete k i) [ yes r ↦ not_both (eq-eqb k i r) e | no n ↦ omega (arith, ahead k refl) ]

module _ (types nodes arrows program hashes : List ℕ) where
  module _ (few : length (node_records nodes) ≤ node_count) (again : Option ℕ) (found : again ≡ first_repeat nodes arrows program hashes) where
    abbrev first : ℕ
    first = first_failing (fresh nodes arrows program hashes) (length (node_records nodes)) 0

    told : again ≡ elim (ltb first (length (node_records nodes))) [ true ↦ Some first | false ↦ None ]
    unfolding first_repeat
    told = found ∙ ap (λ (n : ℕ). let i = first_failing (fresh nodes arrows program hashes) n 0 in elim (ltb i n) [ true ↦ Some i | false ↦ None ]) (min-eq_left few)

    -- a node before the first that repeats one is fresh
    pub fresh_before : (i : ℕ) → i < length (node_records nodes) → ((j : ℕ) → again ≡ Some j → i < j) → fresh nodes arrows program hashes i ≡ true
    fresh_before i h before = first_passed (fresh nodes arrows program hashes) (length (node_records nodes)) 0 i (omega arith) (elim (dec_lt first (length (node_records nodes))) [
      | yes l ↦ before first (told ∙ ap (λ (b : Bool). elim b [ true ↦ Some first | false ↦ None ]) (lt-ltb first (length (node_records nodes)) l))
      | no m ↦ omega arith
    ])

    -- and it is not
    pub repeats_there : (i : ℕ) → again ≡ Some i → fresh nodes arrows program hashes i ≡ false
    repeats_there i e = go (ltb first (length (node_records nodes))) refl
      where
        go : (b : Bool) → ltb first (length (node_records nodes)) ≡ b → fresh nodes arrows program hashes i ≡ false
        go true p =
            let q = same_Some first i (sym (told ∙ ap (λ (b : Bool). elim b [ true ↦ Some first | false ↦ None ]) p) ∙ e) in
            ap (fresh nodes arrows program hashes) (sym q)
            ∙ first_refused (fresh nodes arrows program hashes) (length (node_records nodes)) 0 (omega (arith, ltb-true first (length (node_records nodes)) p))
        go false p = clash (let q = sym (told ∙ ap (λ (b : Bool). elim b [ true ↦ Some first | false ↦ None ]) p) ∙ e in cc)

  -- the rule of a node, and why it is refused
  module _ (i : ℕ) where
    abbrev right : Bool
    right = arrow_rule (type_records types) (lent_nodes [] nodes) (arrow_records arrows) i

    pub repeat_refused : fresh nodes arrows program hashes i ≡ false → (lent_rule types nodes arrows program hashes i ≡ false)
        × (NodeRepeated i ≡ lent_refusal types nodes arrows program hashes i)
    unfolding lent_rule lent_refusal every
    repeat_refused e = (rw (e, lent_rule), sym (rw (e, lent_refusal)))

    pub arrow_refused : fresh nodes arrows program hashes i ≡ true → right ≡ false → (lent_rule types nodes arrows program hashes i ≡ false)
        × (BadArrow i ≡ lent_refusal types nodes arrows program hashes i)
    unfolding lent_rule lent_refusal every
    arrow_refused e f = (rw (e, f, lent_rule), sym (rw (e, lent_refusal)))

    pub node_kept : fresh nodes arrows program hashes i ≡ true → right ≡ true → lent_rule types nodes arrows program hashes i ≡ true
    unfolding lent_rule every
    node_kept e f = rw (e, f, lent_rule)
