-- `equal::same_key` meets its contract: records of unlike kinds, and the groups of kinds.
use Rattle.equal.proofs.KindKeys.{kinds_apart}
use Rattle.equal.proofs.same_key.Goals as goal

pub returns-then-r-s : goal.returns-then-r-s
returns-then-r-s c =
    let r = c.args.r in
    let s = c.args.s in
    kinds_apart c.args.program.now c.args.hashes.now r.kind r.first r.second s.kind s.first s.second c.if-r-s.true
