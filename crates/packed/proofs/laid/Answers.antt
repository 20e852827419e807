-- `packed::laid` meets its contract. The loop's invariant: the numbers left are to be laid from place k on.
use Rattle.std.proofs.Common.{◌≡◌, ℕ, ◌≤◌, List, ◌∷◌, length, sym, ap, ◌∙◌, arith, rules}
use Rattle.std.proofs.lemmas.List.{set-get_or}
use Rattle.packed.specs.Lists.{unpacked}
use Rattle.packed.proofs.Lists.{laid_from, lay, all_laid, full, taken_off}
use Rattle.packed.proofs.laid.Goals as goal

pub returns-then-is_empty : goal.returns-then-is_empty
returns-then-is_empty c =
    let l = c.loop-k in
    let none : length l.left.now ≤ 0 = search rules in
    rw set-get_or (all_laid l.k l.store l.left.now none ∙ sym l.invariant)

pub loop-k-preserved : goal.loop-k-preserved
loop-k-preserved c =
    let l = c.loop-k in
    let n = c.first_number.result in
    let w = c.after_number-left.result.now in
    let off : unpacked l.left.now ≡ n ∷ unpacked w =
    taken_off l.left.now w n (search rules) c.first_number.ensures c.after_number-left.ensures in
    l.invariant ∙ ap (λ (ns : List ℕ). laid_from l.k ns l.store) off ∙ lay l.k l.store n (unpacked w) (omega arith)

pub returns : goal.returns
returns c =
    let l = c.loop-k in
    let all : length l.store ≡ l.k = omega arith in
    rw all (full l.k l.store (unpacked l.left.now) (omega arith) ∙ sym l.invariant)
