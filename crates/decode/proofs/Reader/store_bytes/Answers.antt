-- `decode::Reader::store_bytes` meets its contract: none, or the 32 or 64 bytes as they are read.
use mathlib.Core.Path.{sym, ap, ◌∙◌}
use Rattle.scope.specs.Numbers.{stream_of}
use Rattle.bititer.specs.Answers.{storing}
use Rattle.decode.specs.declared.Follows.{Follows}
use Rattle.decode.specs.Heads.{bytes_after}
use Rattle.decode.proofs.Nodes.{store_nothing}
use Rattle.decode.proofs.Reader.store_bytes.Goals as goal

pub returns-in-Nothing : goal.returns-in-Nothing
returns-in-Nothing c =
    let bits = stream_of c.args.self.now.program.now in
    let at = c.args.at in
    let store = c.args.hashes.now in
    let held = c.args.held in
    store_nothing bits at store held c.requires ∙ ap (λ (f : Follows). storing (bytes_after bits f at) store held) (sym c.in-Nothing.is)

pub returns-in-Hash : goal.returns-in-Hash
unfolding bytes_after
returns-in-Hash c =
    let bits = stream_of c.args.self.now.program.now in
    let at = c.args.at in
    let store = c.args.hashes.now in
    let held = c.args.held in
    c.hash_bytes.ensures
    ∙ ap (λ (f : Follows). storing (bytes_after bits f at) store held) (sym c.in-Hash.is)

pub returns-in-Fail : goal.returns-in-Fail
unfolding bytes_after
returns-in-Fail c =
    let bits = stream_of c.args.self.now.program.now in
    let at = c.args.at in
    let store = c.args.hashes.now in
    let held = c.args.held in
    c.fail_bytes.ensures
    ∙ ap (λ (f : Follows). storing (bytes_after bits f at) store held) (sym c.in-Fail.is)
