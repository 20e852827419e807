-- What each kind of call is told, from what the call that it wraps promises.
use mathlib.Core.Path.{◌≡◌, refl, sym, ap, ap₂, ◌∙◌}
use mathlib.Core.List.{List}
use Prim.Native.Nat.{ℕ, ◌+◌}
use lib.ListN.{length}
use Rattle.std.specs.Prelude.{Result, Ok, Err}
use Rattle.refusal.specs.declared.Refusal.{Refusal}
use Rattle.refusal.specs.Answers.{Answer}
use Rattle.refusal.specs.Numbers.{number_of, place_of}
use Rattle.scope.specs.Check.{Check, passed, refused}
use Rattle.scope.specs.Reading.{NodeTable, Got}
use Rattle.scope.specs.Bounds.{Bound}
use Rattle.scope.specs.Run.{Left, left_with, Ended, ended_with}
use Rattle.common.specs.Checks.{clash}
use Rattle.bititer.specs.Answers.{natural_fault, got_natural}
use Rattle.bititer.specs.declared.NaturalFault.{NaturalFault}
use Rattle.common.specs.Answers.{check_of, answer_of}
use Rattle.decode.specs.declared.Sizes.{Sizes}
use Rattle.decode.specs.Answers.{said_of}
use Rattle.decode.specs.Stores as Stores
use Rattle.decode.specs.Stores.{table_sizes, left_by}
use Rattle.analysis.specs.Limits.{bounded_of}
use Rattle.analysis.specs.declared.Totals.{Totals}
use Rattle.exports.specs.Codes.{answer_code, answer_told, judged, judged_by, decoding, decoding_by, bounding, bounding_by, staged, staged_by, finished, finished_by, read, fault_code, read_by}

-- a stage that checks
pub check_told : (x : Result (Unit {0}) Refusal) (c : Check (Unit {0})) → check_of x ≡ c → (said : Answer) → said ≡ answer_of x → (code place : ℕ)
    → code ≡ answer_code said → place ≡ answer_told said
    → judged code place ≡ judged_by c
unfolding judged_by
check_told x c e said q code place ec ep =
    ap₂ judged (ec ∙ ap answer_code q) (ep ∙ ap answer_told q) ∙ as_check x ∙ ap judged_by e
  where
    as_check : (x : Result (Unit {0}) Refusal) → judged (answer_code (answer_of x)) (answer_told (answer_of x)) ≡ judged_by (check_of x)
    as_check (Ok passed_by) = refl
    as_check (Err why) = refl

-- decoding
module _ (r : Result Sizes Refusal) (c : Check NodeTable) (n h nodes hashes : List ℕ) (left : Stores.left (said_of r) n h ≡ left_by c nodes hashes) where
  pub table_told : (sizes : Sizes) → r ≡ Ok sizes → decoding 0 sizes.nodes sizes.hashes n h ≡ decoding_by c nodes hashes
  unfolding decoding_by left_by table_sizes
  table_told sizes e = go c (ap (λ (r : Result Sizes Refusal). Stores.left (said_of r) n h) (sym e) ∙ left)
    where
      go : (c : Check NodeTable) → Stores.left (passed sizes) n h ≡ left_by c nodes hashes
          → decoding 0 sizes.nodes sizes.hashes n h ≡ decoding_by c nodes hashes
      go (refused w) f = clash (let y = ap (λ (l : Stores.Left). l.says) f in cc)
      go (passed t) f =
          let says : ◌≡◌ {A = Check Sizes} (passed sizes) (passed (record { nodes = length t.records; hashes = length t.hashes })) =
          ap (λ (l : Stores.Left). l.says) f in
          let same : sizes ≡ record { nodes = length t.records; hashes = length t.hashes } = cc in
          ap (λ (s : Sizes). decoding 0 s.nodes s.hashes n h) same
          ∙ ap₂ (λ (n h : List ℕ). decoding 0 (length t.records) (length t.hashes) n h) (ap (λ (l : Stores.Left). l.nodes) f)
          (ap (λ (l : Stores.Left). l.hashes) f)

  pub refusal_told : (why : Refusal) → r ≡ Err why → (code place : ℕ) → code ≡ number_of why → place ≡ place_of why
      → decoding code place 0 n h ≡ decoding_by c nodes hashes
  unfolding decoding_by left_by table_sizes
  refusal_told why e code place ec ep = ap₂ (λ (x y : ℕ). decoding x y 0 n h) ec ep ∙ go c (ap (λ (r : Result Sizes Refusal). Stores.left (said_of r) n h) (sym e) ∙ left)
    where
      go : (c : Check NodeTable) → Stores.left (refused why) n h ≡ left_by c nodes hashes
          → decoding (number_of why) (place_of why) 0 n h ≡ decoding_by c nodes hashes
      go (passed t) f = clash (let y = ap (λ (l : Stores.Left). l.says) f in cc)
      go (refused w) f =
          let says : ◌≡◌ {A = Check Sizes} (refused why) (refused w) = ap (λ (l : Stores.Left). l.says) f in
          let same : why ≡ w = cc in
          ap (λ (w : Refusal). decoding (number_of w) (place_of w) 0 n h) same
          ∙ ap₂ (λ (n h : List ℕ). decoding (number_of w) (place_of w) 0 n h) (ap (λ (l : Stores.Left). l.nodes) f) (ap (λ (l : Stores.Left). l.hashes) f)

-- bounds
module _ (r : Result Totals Refusal) (c : Check Bound) (e : bounded_of r ≡ c) where
  pub bounds_told : (t : Totals) → r ≡ Ok t → bounding 0 t.cells t.frames t.cost ≡ bounding_by c
  unfolding bounding_by
  bounds_told t q = ap bounding_by (ap bounded_of (sym q) ∙ e)

  pub unbounded_told : (why : Refusal) → r ≡ Err why → (code place : ℕ) → code ≡ number_of why → place ≡ place_of why
      → bounding code place 0 0 ≡ bounding_by c
  unfolding bounding_by
  unbounded_told why q code place ec ep = ap₂ (λ (x y : ℕ). bounding x y 0 0) ec ep ∙ ap bounding_by (ap bounded_of (sym q) ∙ e)

-- a natural
module _ (r : Result (ℕ × ℕ) NaturalFault) (at : ℕ) (g : Got ℕ) (e : got_natural at r ≡ g) where
  pub natural_told : (n bits : ℕ) → r ≡ Ok (n, bits) → read 0 n (at + bits) ≡ read_by g
  unfolding read_by
  natural_told n bits q = ap read_by (ap (got_natural at) (sym q) ∙ e)

  pub fault_told : (why : NaturalFault) → r ≡ Err why → (code : ℕ) → code ≡ fault_code (natural_fault why) → read code 0 0 ≡ read_by g
  unfolding read_by
  fault_told why q code ec = ap (λ (x : ℕ). read x 0 0) ec ∙ ap read_by (ap (got_natural at) (sym q) ∙ e)

-- the run stage, and the whole job
pub stage_told : (left : Left) (said : Answer) (cells frames answer : List ℕ) → left_with said cells frames answer ≡ left
    → (code place : ℕ) → code ≡ answer_code said → place ≡ answer_told said → staged code place cells frames answer ≡ staged_by left
unfolding staged_by left_with
stage_told left said cells frames answer e code place ec ep = ap₂ (λ (x y : ℕ). staged x y cells frames answer) ec ep ∙ ap staged_by e

pub job_told : (end : Ended) (said : Answer) (nodes hashes cells frames answer : List ℕ) → ended_with said nodes hashes cells frames answer ≡ end
    → (code place : ℕ) → code ≡ answer_code said → place ≡ answer_told said → finished code place nodes hashes cells frames answer ≡ finished_by end
unfolding finished_by ended_with
job_told end said nodes hashes cells frames answer e code place ec ep = ap₂ (λ (x y : ℕ). finished x y nodes hashes cells frames answer) ec ep ∙ ap finished_by e
