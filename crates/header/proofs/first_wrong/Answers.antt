-- `header::first_wrong` meets its contract.
-- The loop's invariant: the first wrong number of all is the first from the count of section k on, and section k has to start at `place`.
use mathlib.Core.Path.{◌≡◌, refl, sym, ap, ◌∙◌}
use native.Mathlib.Omega.{arith}
use borrow.Author.Rules.{rules}
use Rattle.scope.specs.Header.{count, size, start}
use Rattle.header.proofs.Rules.{wrong_from, version_wrong, version_right, no_types, many_types, next_start, count_wrong, offset_wrong, section_right, total_wrong, end_wrong, total_right}
use Rattle.header.proofs.first_wrong.Goals as goal
use Rattle.header.proofs.first_wrong.Goals.{then-types-eq0-via-then-types-eq0, then-types-eq0-via-else-types-eq0+then-types-gt-TYPE_COUNT, then-from-length-via-then-from-length, then-from-length-via-else-from-length+then-place-length}

pub returns-then-number-ne1 : goal.returns-then-number-ne1
returns-then-number-ne1 c =
    let d = c.args.dossier.now in
    (sym (version_wrong d (λ e. c.if-number-ne1.true (c.number.ensures ∙ e))), omega arith)

pub returns-then-types-eq0 : goal.returns-then-types-eq0
returns-then-types-eq0 c =
    let d = c.args.dossier.now in
    let right = version_right d (sym c.number.ensures ∙ c.if-number-ne1.false) in
    elim c.then-types-eq0.branch [
      | then-types-eq0-via-then-types-eq0 w ↦
          (sym (right ∙ no_types d (sym c.count-types.ensures ∙ w.if-types-eq0.true)), omega arith)
      | then-types-eq0-via-else-types-eq0+then-types-gt-TYPE_COUNT w ↦
          (sym (right ∙ many_types d (rw (← c.count-types.ensures) w.if-types-gt-TYPE_COUNT.true)), omega arith)
    ]

pub loop-k-init : goal.loop-k-init
unfolding start
loop-k-init c =
    let d = c.args.dossier.now in
    (version_right d (sym c.number.ensures ∙ c.if-number-ne1.false), refl, search rules)

pub returns-then-length-end : goal.returns-then-length-end
returns-then-length-end c =
    let d = c.args.dossier.now in
    let l = c.loop-k in
    let e : c.size.result ≡ size d l.k = c.size.ensures.0 in
    let p : l.place ≡ start d l.k = l.invariant.1 in
    let n : c.count-types.result ≡ count d 0 = c.count-types.ensures in
    (sym (l.invariant.0 ∙ count_wrong d (omega arith) (omega arith) l.k (omega arith) (omega arith)), omega arith)

pub returns-then-from-place : goal.returns-then-from-place
returns-then-from-place c =
    let d = c.args.dossier.now in
    let l = c.loop-k in
    let e : c.size.result ≡ size d l.k = c.size.ensures.0 in
    let p : l.place ≡ start d l.k = l.invariant.1 in
    let n : c.count-types.result ≡ count d 0 =
    c.count-types.ensures in (
      sym (l.invariant.0 ∙ offset_wrong d (omega arith) (omega arith) l.k (omega arith) (omega arith)
          (λ q. c.if-from-place.true (c.from.ensures ∙ c.number-in-loop-k.ensures ∙ q ∙ sym p))),
      omega arith,
    )

pub loop-k-preserved : goal.loop-k-preserved
loop-k-preserved c =
    let d = c.args.dossier.now in
    let l = c.loop-k in
    let e : c.size.result ≡ size d l.k = c.size.ensures.0 in
    let p : l.place ≡ start d l.k = l.invariant.1 in
    let n : c.count-types.result ≡ count d 0 =
    c.count-types.ensures in (
      l.invariant.0
          ∙ section_right d (omega arith) (omega arith) l.k (omega arith) (omega arith)
          (sym c.number-in-loop-k.ensures ∙ sym c.from.ensures ∙ c.if-from-place.false ∙ p),
      next_start d l.k l.place c.size.result p e,
      search rules,
    )

pub returns-then-from-length : goal.returns-then-from-length
returns-then-from-length c =
    let d = c.args.dossier.now in
    let k : c.loop-k.k ≡ 6 = omega arith in
    let p : c.loop-k.place ≡ start d 6 = c.loop-k.invariant.1 ∙ ap (start d) k in
    let all = c.loop-k.invariant.0 ∙ ap (wrong_from d) k in
    elim c.then-from-length.branch [
      | then-from-length-via-then-from-length w ↦ (sym (all ∙ total_wrong d (λ e. w.if-from-length.true (c.from-2.ensures ∙ c.number-2.ensures ∙ e))), omega arith)
      | then-from-length-via-else-from-length+then-place-length w ↦
          (sym (all ∙ end_wrong d (sym c.number-2.ensures ∙ sym c.from-2.ensures ∙ w.if-from-length.false) (λ e. w.if-place-length.true (p ∙ e))), omega arith)
    ]

pub returns : goal.returns
returns c =
    let d = c.args.dossier.now in
    let k : c.loop-k.k ≡ 6 = omega arith in
    let p : c.loop-k.place ≡ start d 6 = c.loop-k.invariant.1 ∙ ap (start d) k in
    c.loop-k.invariant.0 ∙ ap (wrong_from d) k
    ∙ total_right d (sym c.number-2.ensures ∙ sym c.from-2.ensures ∙ c.if-from-length.false) (sym p ∙ c.if-place-length.false)
