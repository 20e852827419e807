-- What each public call promises has one outcome: over the call's own promise, `Post`, two results, or two frames or stores that are left, are the same.
-- The pins of the moves in place say which fact their clauses are, and that one frame alone meets it.
use mathlib.Core.Path.{◌≡◌, refl, sym, ap, ◌∙◌}
use seplogic.Ra.Ura.{Ura}
use base.Logic.{SProp}
use prog.Memory.{Memory}
use prog.Routine.{Routine}
use types.Logic.{Logic}
use contract.Lifetimes.{Lfts}
use contract.Monad.{Fun, fact}
use denote.Triple.Entry.{Args}
use denote.Triple.Clauses.{AtExit}
use Rattle.promise.specs.Outcomes.{OneResult, OneOutcome, ◌&◌}
use Rattle.scope.specs.Machine as Machine
use Rattle.frame.specs.Cursor.{frame_of, code_of, held}
use Rattle.frame.specs.declared.Frame.{Frame}
use Rattle.frame.proofs.Frame.at_start.Kinds as at-start-kinds
use Rattle.frame.proofs.Frame.at_start.Reads as at-start-reads
use Rattle.frame.proofs.Frame.backed.Kinds as backed-kinds
use Rattle.frame.proofs.Frame.backed.Reads as backed-reads
use Rattle.frame.proofs.Frame.forwarded.Kinds as forwarded-kinds
use Rattle.frame.proofs.Frame.forwarded.Reads as forwarded-reads
use Rattle.frame.proofs.Frame.new.Kinds as new-kinds
use Rattle.frame.proofs.Frame.new.Reads as new-reads
use Rattle.frame.proofs.Frame.none.Kinds as none-kinds
use Rattle.frame.proofs.Frame.none.Reads as none_reads
use Rattle.frame.specs.contracts.backward as backward-call
use Rattle.frame.proofs.cursor_after.Kinds as cursor-after-kinds
use Rattle.frame.proofs.cursor_after.Reads as cursor-after-reads
use Rattle.frame.specs.contracts.forward as forward-call
use Rattle.frame.proofs.put_record.Kinds as put-record-kinds
use Rattle.frame.proofs.put_record.Reads as put-record-reads
use Rattle.frame.proofs.record_at.Kinds as record-at-kinds
use Rattle.frame.proofs.record_at.Reads as record-at-reads
use Rattle.frame.specs.contracts.reset as reset-call

-- a frame of the code is told by the requirements' frame that it stands for
told : (r q : Frame) → frame_of r ≡ frame_of q → r ≡ q
told r q e = ap code_of e

pub new : OneResult 0 new-kinds.ps new-kinds.r new-reads.Post
new κs a s t x y p q = told s t (p ∙ sym q)

pub none : OneResult 0 none-kinds.ps none-kinds.r none_reads.Post
none κs a s t x y p q = told s t (p ∙ sym q)

pub forwarded : OneResult 0 forwarded-kinds.ps forwarded-kinds.r forwarded-reads.Post
forwarded κs a s t x y p q = told s t (p ∙ sym q)

pub backed : OneResult 0 backed-kinds.ps backed-kinds.r backed-reads.Post
backed κs a s t x y p q = told s t (p ∙ sym q)

pub at_start : OneResult 0 at-start-kinds.ps at-start-kinds.r at-start-reads.Post
at_start κs a s t x y p q = told s t (p ∙ sym q)

-- the clause of a move in place is the fact that what is left stands for the moved frame, and two that are left so are the same
abbrev OneMove : {M : Type 1} (𝓤 : Ura M) → (clause : SProp 𝓤) → (moved : Machine.Frame) → (left other : Frame) → Type 2
OneMove 𝓤 clause moved left other = (clause ≡ fact 𝓤 (frame_of left ≡ moved)) × (frame_of left ≡ moved → frame_of other ≡ moved → left ≡ other)

-- whatever model the clauses are read in
module _ {M : Type 1} {𝓤 : Ura M} (𝓛 : Logic 𝓤) (at_mem : Memory → SProp 𝓤) (run : Routine → Fun 𝓤) (κs : Lfts 1) where
  pub forward : (a : Args forward-call.signature κs) (x y : AtExit forward-call.ended κs)
      → OneMove 𝓤 ((forward-call.clauses 𝓛 at_mem run κs a).ensures tt tt x) (held (Machine.forward a.1.0 (frame_of a.0.now)))
      x.0.now y.0.now
  forward a x y = (refl, λ p q. told x.0.now y.0.now (p ∙ sym q))

  pub backward : (a : Args backward-call.signature κs) (x y : AtExit backward-call.ended κs)
      → OneMove 𝓤 ((backward-call.clauses 𝓛 at_mem run κs a).ensures tt tt x) (Machine.backward a.1.0 (frame_of a.0.now)) x.0.now y.0.now
  backward a x y = (refl, λ p q. told x.0.now y.0.now (p ∙ sym q))

  pub reset : (a : Args reset-call.signature κs) (x y : AtExit reset-call.ended κs)
      → OneMove 𝓤 ((reset-call.clauses 𝓛 at_mem run κs a).ensures tt tt x) (Machine.reset (frame_of a.0.now)) x.0.now y.0.now
  reset a x y = (refl, λ p q. told x.0.now y.0.now (p ∙ sym q))

pub cursor_after : OneResult 0 cursor-after-kinds.ps cursor-after-kinds.r cursor-after-reads.Post
cursor_after κs a s t x y p q = p ∙ sym q

pub record_at_lem : OneResult 1 record-at-kinds.ps record-at-kinds.r record-at-reads.Post
record_at_lem κs a s t x y p q = told s t (p ∙ sym q)

pub put_record : OneOutcome 1 put-record-kinds.ps put-record-kinds.r put-record-reads.Post
put_record κs a s t v w p q = let e = p ∙ sym q in (λ i. tt, λ i. e i & tt & tt & tt)
