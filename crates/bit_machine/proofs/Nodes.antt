-- A node of each kind in a program whose children stand below their parents: what its run needs, and how it runs, in the form in which the code meets it.
-- m is the machine before the node's own work, m' the machine after it.
use mathlib.Core.Path.{◌≡◌, refl, sym, ap, ◌∙◌, subst}
use mathlib.Core.Bool.{Bool, true, false}
use mathlib.Core.List.{List}
use Prim.Native.Nat.{ℕ, ◌+◌, ◌<◌}
use native.Mathlib.Omega.{arith}
use lib.ListN.{length, get_or}
use Rattle.report.specs.Bits.{Bit}
use Rattle.report.specs.Types.{Ty, width, pad_l, pad_r, left_of, right_of, word_ty}
use Rattle.report.specs.Values.{⟨⟩, padded}
use Rattle.report.specs.Nodes.{Node}
use Rattle.report.specs.Canonical.{children}
use Rattle.report.specs.Terms.{Term}
use Rattle.report.specs.Meaning.{done, failed, pruned}
use Rattle.scope.specs.Nodes.{node_at}
use Rattle.scope.specs.Walk.{hidden_at}
use Rattle.scope.specs.Program.{Program, source_ty, target_ty, value_from, case_term, term_of, term_at}
use Rattle.common.specs.Bits.{AllBelow}
use Rattle.theory.proofs.NodeTerms.{term_step}
use Rattle.layout.specs.Mach.{Mach}
use Rattle.layout.specs.Rules.{bit_written, bits_written, skipped, copied, forwarded, peeked}
use Rattle.layout.proofs.Rules.{forwarded_zero}
use Rattle.layout.specs.Exec.{Outcome, Around, pairing, composing, disconnecting, around, returning, under, tagged, run_term}
use Rattle.layout.proofs.Exec.{run_case_left, run_case_right, run_assertl_left, run_assertl_right, run_assertr_left, run_assertr_right}
use Rattle.layout.specs.Safe.{WriteOk, ReadOk, CopyOk, ReturnOk, UnderOk, TagOk, AroundOk, Safe}
use Rattle.bit_machine.specs.Engine.{OneOk}

module _ (P : Program) (below : (i : ℕ) → AllBelow i (children (node_at P.nodes i))) (i : ℕ) (m : Mach) where
  -- node i is n
  abbrev pub Is : Node → Type 0
  Is n = node_at P.nodes i ≡ n

  -- children of node i
  abbrev pub SafeAt : ℕ → Mach → Type 0
  SafeAt j z = Safe (term_at P j) z

  abbrev pub run_at : ℕ → Mach → Outcome
  run_at j z = run_term (term_at P j) z

  term_is : (n : Node) → Is n → term_at P i ≡ term_of P i n (term_at P)
  term_is n e = term_step P i (below i) ∙ ap (λ (n : Node). term_of P i n (term_at P)) e

  run_is : (n : Node) → Is n → run_term (term_at P i) m ≡ run_term (term_of P i n (term_at P)) m
  run_is n e = ap (λ (t : Term). run_term t m) (term_is n e)

  safe_is : (n : Node) → Is n → Safe (term_at P i) m → Safe (term_of P i n (term_at P)) m
  safe_is n e h = subst (λ (t : Term). Safe t m) (term_is n e) h

  below_is : (n : Node) → Is n → AllBelow i (children n)
  below_is n e = subst (λ (n : Node). AllBelow i (children n)) e (below i)

  -- nodes that never run
  pub never_hidden : (bytes : List ℕ) → Is (Node.hidden bytes) → Safe (term_at P i) m → ⊥
  unfolding term_of Safe
  never_hidden bytes e h = safe_is (Node.hidden bytes) e h

  pub never_one_child : (a : ℕ) → Is (Node.disconnect1 a) → Safe (term_at P i) m → ⊥
  unfolding term_of Safe
  never_one_child a e h = safe_is (Node.disconnect1 a) e h

  -- nodes with no child

  pub run_unit : Is Node.unit → run_term (term_at P i) m ≡ done m
  unfolding term_of run_term
  run_unit e = run_is Node.unit e

  pub run_fail : (bytes : List ℕ) → Is (Node.fail bytes) → run_term (term_at P i) m ≡ failed i m
  unfolding term_of run_term
  run_fail bytes e = run_is (Node.fail bytes) e

  pub need_iden : Is Node.iden → Safe (term_at P i) m → (n : ℕ) → n ≡ width (source_ty P i) → 0 < n → CopyOk (length m.bits) n m
  unfolding term_of Safe
  need_iden e h n en pos = subst (λ (k : ℕ). 0 < k → CopyOk (length m.bits) k m) (sym en) (safe_is Node.iden e h) pos

  pub run_iden : Is Node.iden → (n : ℕ) → n ≡ width (source_ty P i) → (m' : Mach) → m' ≡ copied n m → run_term (term_at P i) m ≡ done m'
  unfolding term_of run_term
  run_iden e n en m' em = run_is Node.iden e ∙ ap (λ (k : ℕ). done (copied k m)) (sym en) ∙ ap done (sym em)

  module _ (bits : List Bit) where
    need_written : (b : List Bit) → (0 < length b → WriteOk (length m.bits) (length b) m) → bits ≡ b → 0 < length bits
        → WriteOk (length m.bits) (length bits) m
    need_written b h e = subst (λ (b : List Bit). 0 < length b → WriteOk (length m.bits) (length b) m) (sym e) h

    module _ (e : Is Node.witness) (eb : bits ≡ padded (target_ty P i) (get_or P.witnesses i ⟨⟩)) where
      pub need_witness : Safe (term_at P i) m → 0 < length bits → WriteOk (length m.bits) (length bits) m
      unfolding term_of Safe
      need_witness h = need_written (padded (target_ty P i) (get_or P.witnesses i ⟨⟩)) (safe_is Node.witness e h) eb

      pub run_witness : (m' : Mach) → m' ≡ bits_written bits m → run_term (term_at P i) m ≡ done m'
      unfolding term_of run_term
      run_witness m' em = run_is Node.witness e ∙ ap (λ (b : List Bit). done (bits_written b m)) (sym eb) ∙ ap done (sym em)

    module _ (n : ℕ) (word : List Bit) (e : Is (Node.word n word)) (eb : bits ≡ padded (target_ty P i) (value_from (target_ty P i) word)) where
      pub need_word : Safe (term_at P i) m → 0 < length bits → WriteOk (length m.bits) (length bits) m
      unfolding term_of Safe
      need_word h = need_written (padded (target_ty P i) (value_from (target_ty P i) word)) (safe_is (Node.word n word) e h) eb

      pub run_word : (m' : Mach) → m' ≡ bits_written bits m → run_term (term_at P i) m ≡ done m'
      unfolding term_of run_term
      run_word m' em = run_is (Node.word n word) e ∙ ap (λ (b : List Bit). done (bits_written b m)) (sym eb) ∙ ap done (sym em)

  -- nodes with one child

  under_one : (a n : ℕ) (m' : Mach) → a < i → UnderOk (λ z. SafeAt a z) (λ z. run_at a z) n m → run_term (term_at P i) m ≡ under n (λ z. run_at a z) m
      → m' ≡ forwarded n m → OneOk P i m m' a n
  under_one a n m' l u r em = record {
    below = l;
    child = subst (λ (z : Mach). ReturnOk (λ z. SafeAt a z) (λ z. run_at a z) n z) (sym em) u.child;
    runs = r ∙ ap (λ (z : Mach). returning n (run_at a z)) (sym em);
  }

  tag_one : (a b n : ℕ) (m' : Mach) → a < i → TagOk (λ z. SafeAt a z) (λ z. run_at a z) b n m → run_term (term_at P i) m ≡ tagged b n (λ z. run_at a z) m
      → m' ≡ skipped n (bit_written b m) → OneOk P i m m' a 0
  tag_one a b n m' l u r em = record {
    below = l;
    child = subst (λ (z : Mach). ReturnOk (λ z. SafeAt a z) (λ z. run_at a z) 0 z) (sym em) u.child;
    runs = r ∙ ap (λ (z : Mach). returning 0 (run_at a z)) (sym em);
  }

  pub one_take : (a : ℕ) → Is (Node.take a) → Safe (term_at P i) m → OneOk P i m m a 0
  unfolding children term_of Safe run_term
  one_take a e h =
      under_one a 0 m (below_is (Node.take a) e).0 (safe_is (Node.take a) e h) (run_is (Node.take a) e) (sym (forwarded_zero 0 m refl))

  module _ (a : ℕ) (e : Is (Node.drop a)) (h : Safe (term_at P i) m) (n : ℕ) (en : n ≡ width (left_of (source_ty P i))) where
    drop_ok : UnderOk (λ z. SafeAt a z) (λ z. run_at a z) n m
    unfolding term_of Safe
    drop_ok = subst (λ (k : ℕ). UnderOk (λ z. SafeAt a z) (λ z. run_at a z) k m) (sym en) (safe_is (Node.drop a) e h)

    pub need_drop : 0 < n → ReadOk (length m.bits) n m
    need_drop pos = drop_ok.pass pos

    pub one_drop : (m' : Mach) → m' ≡ forwarded n m → OneOk P i m m' a n
    unfolding children term_of run_term
    one_drop m' em =
        under_one a n m' (below_is (Node.drop a) e).0 drop_ok (run_is (Node.drop a) e ∙ ap (λ (k : ℕ). under k (λ z. run_at a z) m) (sym en)) em

  -- what a tag and its padding need: before the bit, and after it
  module _ (a b n k : ℕ) (t : TagOk (λ z. SafeAt a z) (λ z. run_at a z) b k m) (en : n ≡ k) where
    tag_needs : (m1 : Mach) → m1 ≡ bit_written b m → 0 < n → WriteOk (length m.bits) n m1
    tag_needs m1 e1 = subst (λ (z : Mach). 0 < n → WriteOk (length m.bits) n z) (sym e1)
        (subst (λ (j : ℕ). 0 < j → WriteOk (length m.bits) j (bit_written b m)) (sym en) t.skip)

  module _ (a : ℕ) (e : Is (Node.injl a)) (h : Safe (term_at P i) m) where
    injl_ok : TagOk (λ z. SafeAt a z) (λ z. run_at a z) 0 (pad_l (left_of (target_ty P i)) (right_of (target_ty P i))) m
    unfolding term_of Safe
    injl_ok = safe_is (Node.injl a) e h

    pub need_injl : WriteOk (length m.bits) 1 m
    need_injl = injl_ok.write

    module _ (n : ℕ) (en : n ≡ pad_l (left_of (target_ty P i)) (right_of (target_ty P i))) (m1 : Mach) (e1 : m1 ≡ bit_written 0 m) where
      pub need_injl_skip : 0 < n → WriteOk (length m.bits) n m1
      need_injl_skip = tag_needs a 0 n (pad_l (left_of (target_ty P i)) (right_of (target_ty P i))) injl_ok en m1 e1

      pub one_injl : (m' : Mach) → m' ≡ skipped n m1 → OneOk P i m m' a 0
      unfolding children term_of run_term
      one_injl m' em =
          tag_one a 0 (pad_l (left_of (target_ty P i)) (right_of (target_ty P i))) m' (below_is (Node.injl a) e).0 injl_ok
          (run_is (Node.injl a) e) (em ∙ rw (en, e1))

  module _ (a : ℕ) (e : Is (Node.injr a)) (h : Safe (term_at P i) m) where
    injr_ok : TagOk (λ z. SafeAt a z) (λ z. run_at a z) 1 (pad_r (left_of (target_ty P i)) (right_of (target_ty P i))) m
    unfolding term_of Safe
    injr_ok = safe_is (Node.injr a) e h

    pub need_injr : WriteOk (length m.bits) 1 m
    need_injr = injr_ok.write

    module _ (n : ℕ) (en : n ≡ pad_r (left_of (target_ty P i)) (right_of (target_ty P i))) (m1 : Mach) (e1 : m1 ≡ bit_written 1 m) where
      pub need_injr_skip : 0 < n → WriteOk (length m.bits) n m1
      need_injr_skip = tag_needs a 1 n (pad_r (left_of (target_ty P i)) (right_of (target_ty P i))) injr_ok en m1 e1

      pub one_injr : (m' : Mach) → m' ≡ skipped n m1 → OneOk P i m m' a 0
      unfolding children term_of run_term
      one_injr m' em =
          tag_one a 1 (pad_r (left_of (target_ty P i)) (right_of (target_ty P i))) m' (below_is (Node.injr a) e).0 injr_ok
          (run_is (Node.injr a) e) (em ∙ rw (en, e1))

  -- a case and its assertions, by which children are hidden

  module _ (a b : ℕ) where
    abbrev left_ty : Ty
    left_ty = left_of (left_of (source_ty P i))

    abbrev right_ty : Ty
    right_ty = right_of (left_of (source_ty P i))

    abbrev case_at : (x y : Bool) → Term
    case_at x y = case_term x y i (source_ty P i) (term_at P a) (term_at P b)

    abbrev LeftOk : Type 0
    LeftOk = UnderOk (λ z. SafeAt a z) (λ z. run_at a z) (1 + pad_l left_ty right_ty) m

    abbrev RightOk : Type 0
    RightOk = UnderOk (λ z. SafeAt b z) (λ z. run_at b z) (1 + pad_r left_ty right_ty) m

    look_by : (x y : Bool) → Safe (case_at x y) m → ReadOk (length m.bits) 1 m
    unfolding case_term Safe
    look_by false false h = h.look
    look_by false true h = h.look
    look_by true false h = h.look
    look_by true true h = absurd h

    left_by : (x y : Bool) → Safe (case_at x y) m → peeked m ≡ 0 → x ≡ false → LeftOk
    unfolding case_term Safe
    left_by false false h v e = h.left v
    left_by false true h v e = h.left v
    left_by true y h v e = absurd (let z : ◌≡◌ {A = ℕ} 0 1 = cc in omega arith)

    right_by : (x y : Bool) → Safe (case_at x y) m → (peeked m ≡ 0 → ⊥) → y ≡ false → RightOk
    unfolding case_term Safe
    right_by false false h v e = h.right v
    right_by true false h v e = h.right v
    right_by x true h v e = absurd (let z : ◌≡◌ {A = ℕ} 0 1 = cc in omega arith)

    run_left_by : (x y : Bool) → peeked m ≡ 0 → x ≡ false → run_term (case_at x y) m ≡ under (1 + pad_l left_ty right_ty) (λ z. run_at a z) m
    unfolding case_term
    run_left_by false false v e = run_case_left i left_ty right_ty (term_at P a) (term_at P b) m v
    run_left_by false true v e = run_assertl_left i left_ty right_ty (term_at P a) (term_at P b) m v
    run_left_by true y v e = absurd (let z : ◌≡◌ {A = ℕ} 0 1 = cc in omega arith)

    run_right_by : (x y : Bool) → (peeked m ≡ 0 → ⊥) → y ≡ false → run_term (case_at x y) m ≡ under (1 + pad_r left_ty right_ty) (λ z. run_at b z) m
    unfolding case_term
    run_right_by false false v e = run_case_right i left_ty right_ty (term_at P a) (term_at P b) m v
    run_right_by true false v e = run_assertr_right i left_ty right_ty (term_at P a) (term_at P b) m v
    run_right_by x true v e = absurd (let z : ◌≡◌ {A = ℕ} 0 1 = cc in omega arith)

    pruned_left_by : (x y : Bool) → Safe (case_at x y) m → peeked m ≡ 0 → x ≡ true → run_term (case_at x y) m ≡ pruned i m
    unfolding case_term Safe
    pruned_left_by true false h v e = run_assertr_left i left_ty right_ty (term_at P a) (term_at P b) m v
    pruned_left_by true true h v e = absurd h
    pruned_left_by false y h v e = absurd (let z : ◌≡◌ {A = ℕ} 0 1 = cc in omega arith)

    pruned_right_by : (x y : Bool) → Safe (case_at x y) m → (peeked m ≡ 0 → ⊥) → y ≡ true → run_term (case_at x y) m ≡ pruned i m
    unfolding case_term Safe
    pruned_right_by false true h v e = run_assertl_right i left_ty right_ty (term_at P a) (term_at P b) m v
    pruned_right_by true true h v e = absurd h
    pruned_right_by x false h v e = absurd (let z : ◌≡◌ {A = ℕ} 0 1 = cc in omega arith)

    module _ (e : Is (Node.case a b)) (h : Safe (term_at P i) m) where
      abbrev hidden_left : Bool
      hidden_left = hidden_at P.nodes a

      abbrev hidden_right : Bool
      hidden_right = hidden_at P.nodes b

      case_safe : Safe (case_at hidden_left hidden_right) m
      unfolding term_of
      case_safe = safe_is (Node.case a b) e h

      case_run : run_term (term_at P i) m ≡ run_term (case_at hidden_left hidden_right) m
      unfolding term_of
      case_run = run_is (Node.case a b) e

      pub need_look : ReadOk (length m.bits) 1 m
      need_look = look_by hidden_left hidden_right case_safe

      pub run_pruned_left : peeked m ≡ 0 → hidden_left ≡ true → run_term (term_at P i) m ≡ pruned i m
      run_pruned_left v x = case_run ∙ pruned_left_by hidden_left hidden_right case_safe v x

      pub run_pruned_right : (peeked m ≡ 0 → ⊥) → hidden_right ≡ true → run_term (term_at P i) m ≡ pruned i m
      run_pruned_right v y = case_run ∙ pruned_right_by hidden_left hidden_right case_safe v y

      module _ (v : peeked m ≡ 0) (x : hidden_left ≡ false) (n : ℕ) (en : n ≡ 1 + pad_l left_ty right_ty) where
        left_ok : UnderOk (λ z. SafeAt a z) (λ z. run_at a z) n m
        left_ok = subst (λ (k : ℕ). UnderOk (λ z. SafeAt a z) (λ z. run_at a z) k m) (sym en) (left_by hidden_left hidden_right case_safe v x)

        pub need_left : 0 < n → ReadOk (length m.bits) n m
        need_left pos = left_ok.pass pos

        pub one_left : (m' : Mach) → m' ≡ forwarded n m → OneOk P i m m' a n
        unfolding children
        one_left m' em =
            under_one a n m' (below_is (Node.case a b) e).0 left_ok
            (case_run ∙ run_left_by hidden_left hidden_right v x ∙ ap (λ (k : ℕ). under k (λ z. run_at a z) m) (sym en)) em

      module _ (v : peeked m ≡ 0 → ⊥) (y : hidden_right ≡ false) (n : ℕ) (en : n ≡ 1 + pad_r left_ty right_ty) where
        right_ok : UnderOk (λ z. SafeAt b z) (λ z. run_at b z) n m
        right_ok = subst (λ (k : ℕ). UnderOk (λ z. SafeAt b z) (λ z. run_at b z) k m) (sym en) (right_by hidden_left hidden_right case_safe v y)

        pub need_right : 0 < n → ReadOk (length m.bits) n m
        need_right pos = right_ok.pass pos

        pub one_right : (m' : Mach) → m' ≡ forwarded n m → OneOk P i m m' b n
        unfolding children
        one_right m' em =
            under_one b n m' (below_is (Node.case a b) e).1.0 right_ok
            (case_run ∙ run_right_by hidden_left hidden_right v y ∙ ap (λ (k : ℕ). under k (λ z. run_at b z) m) (sym en)) em

  -- nodes with two children

  pub record TwoOk (k : Around) (a b : ℕ) : Type 0 where
    pub left_below : a < i
    pub right_below : b < i
    pub ok : AroundOk k (λ z. SafeAt a z) (λ z. SafeAt b z) (λ z. run_at a z) (λ z. run_at b z) m
    pub runs : run_term (term_at P i) m ≡ around k (λ z. run_at a z) (λ z. run_at b z) m

  module _ (a b : ℕ) (h : Safe (term_at P i) m) where
    pub two_pair : Is (Node.pair a b) → TwoOk pairing a b
    unfolding children term_of Safe run_term
    two_pair e =
        let l = below_is (Node.pair a b) e in
        record { left_below = l.0; right_below = l.1.0; ok = safe_is (Node.pair a b) e h; runs = run_is (Node.pair a b) e }

    pub two_comp : Is (Node.comp a b) → TwoOk (composing (width (target_ty P a))) a b
    unfolding children term_of Safe run_term
    two_comp e =
        let l = below_is (Node.comp a b) e in
        record { left_below = l.0; right_below = l.1.0; ok = safe_is (Node.comp a b) e h; runs = run_is (Node.comp a b) e }

    pub two_disconnect : Is (Node.disconnect a b)
        → TwoOk (disconnecting (padded (word_ty 8) (P.hash b)) (width (source_ty P i)) (width (left_of (target_ty P i))) (width (source_ty P b))) a b
    unfolding children term_of Safe run_term
    two_disconnect e =
        let l = below_is (Node.disconnect a b) e in
        record { left_below = l.0; right_below = l.1.0; ok = safe_is (Node.disconnect a b) e h; runs = run_is (Node.disconnect a b) e }
