-- `decode::judged` meets its contract: the walk refuses, or the closing, or the table passes.
use mathlib.Core.Path.{refl, sym, subst}
use Rattle.common.specs.Answers.{handed_on}
use Rattle.decode.specs.Stores.{table_of, JudgedMeans}
use Rattle.decode.proofs.Tables.{walk_refuses, closing_refuses, all_passed}
use Rattle.decode.proofs.judged.Goals as goal

pub returns-in_err-walk : goal.returns-in_err-walk
returns-in_err-walk c =
    let program = c.args.program.now in
    let nodes = c.args.nodes.now in
    let hashes = c.args.hashes.now in
    let done = c.args.done in
    let p = c.requires in
    subst (JudgedMeans program (table_of nodes hashes done) done) (sym (handed_on c.from_residual.result c.in_err-walk.was c.from_residual.ensures.1))
    (walk_refuses program nodes hashes done.nodes done.at p.0 p.1 p.2 _ c.in_err-walk.ensures)

pub returns-in_err-closing : goal.returns-in_err-closing
returns-in_err-closing c =
    let program = c.args.program.now in
    let nodes = c.args.nodes.now in
    let hashes = c.args.hashes.now in
    let done = c.args.done in
    let p = c.requires in
    let handed = c.from_residual-in_err-closing in
    subst (JudgedMeans program (table_of nodes hashes done) done) (sym (handed_on handed.result c.in_err-closing.was handed.ensures.1))
    (closing_refuses program nodes hashes done.nodes done.at p.0 p.1 p.2 _ c.in_ok-walk.ensures c.in_err-closing.ensures)

pub returns : goal.returns
returns c =
    let program = c.args.program.now in
    let nodes = c.args.nodes.now in
    let hashes = c.args.hashes.now in
    let done = c.args.done in
    let p = c.requires in
    (all_passed program nodes hashes done.nodes done.at p.0 p.1 p.2 c.in_ok-walk.ensures c.in_ok-closing.ensures, refl)
