-- The rules of the header's numbers as the check meets them, section by section, and what a header that passes tells of a section.
use mathlib.Core.Path.{◌≡◌, refl, sym, ap, ap₂, ◌∙◌}
use mathlib.Core.Bool.{true}
use mathlib.Core.List.{List, [], ◌∷◌}
use Prim.Native.Nat.{ℕ, zero, suc, ◌+◌, ◌*◌, ◌-◌, ◌/◌, ◌≤◌, ◌<◌, min}
use native.Mathlib.Numerals.{add-one}
use native.Mathlib.Omega.{arith}
use native.Mathlib.Decide.{dec_lt}
use lib.Dec.{leb, eqb}
use lib.ListN.{length, get_or-eq_default}
use borrow.Author.Tests.{le-leb, lt-leb, leb-true, eq-eqb, ne_eqb, eqb-true}
use Rattle.limits.specs.Limits.{dossier_bytes, type_count, header_bytes, type_bytes, arrow_bytes, hash_bytes}
use Rattle.refusal.specs.declared.Refusal.TheVariants.{Header}
use Rattle.scope.specs.Check.{passed, refused, ◌>>=◌, require, first_failing, each}
use Rattle.scope.specs.Numbers.{bytes_for, every}
use Rattle.scope.specs.Header.{number, count, offset, size, start, count_rule, type_count_rule, offset_rule, total_rule, header_rule, check_header}
use Rattle.promise.specs.Parts.{Part, cut}
use Rattle.common.specs.Numbers.{number_past as past_end}
use Rattle.common.specs.Checks.{every_all, every_one, fails_here, holds_here, both_passed, each_holds}
use Rattle.header.specs.Sections.{section_part}

module _ (d : List ℕ) where
  -- numbers past the end, and the size of each section by its count
  pub number_past : (j : ℕ) → length d / 4 < j → 0 ≡ number d j
  unfolding number
  number_past j h = sym (past_end d (4 * j) (omega arith))

  pub count_past : (k : ℕ) → length d / 8 < k → 0 ≡ count d k
  unfolding count
  count_past k h = number_past (2 * k + 1) (omega arith)

  pub size_none : (k : ℕ) → 6 ≤ k → 0 ≡ size d k
  unfolding size
  size_none k h =
      sym (get_or-eq_default (type_bytes * count d 0 ∷ count d 1 ∷ arrow_bytes * count d 2 ∷ bytes_for (count d 3) ∷ bytes_for (count d 4)
      ∷ hash_bytes * count d 5 ∷ []) 0 {n = k} h)

  -- the first number against its rule
  abbrev pub first_wrong : ℕ
  first_wrong = first_failing (header_rule d) 14 0

  -- the same, from the count of section k on
  abbrev pub wrong_from : (k : ℕ) → ℕ
  wrong_from k = first_failing (header_rule d) (13 - 2 * k) (2 * k + 1)

  pub version_wrong : (number d 0 ≡ 1 → ⊥) → first_wrong ≡ 0
  unfolding header_rule
  version_wrong n = fails_here (header_rule d) 13 0 (ne_eqb (number d 0) 1 n)

  pub version_right : number d 0 ≡ 1 → first_wrong ≡ wrong_from 0
  unfolding header_rule
  version_right e = holds_here (header_rule d) 13 0 (eq-eqb (number d 0) 1 e)

  pub no_types : count d 0 ≡ 0 → wrong_from 0 ≡ 1
  unfolding header_rule type_count_rule every
  no_types e = fails_here (header_rule d) 12 1 (rw (lt-leb 1 (count d 0) (omega arith), every))

  pub many_types : type_count < count d 0 → wrong_from 0 ≡ 1
  unfolding header_rule type_count_rule every
  many_types h = fails_here (header_rule d) 12 1 (rw (le-leb 1 (count d 0) (omega arith), every, lt-leb (count d 0) type_count h, every))

  -- a type count within its limits is wrong only where its section passes the end, as any other count
  pub count_rule_lem : (1 ≤ count d 0) → (count d 0 ≤ type_count) → (k : ℕ) → k < 6 → header_rule d (2 * k + 1) ≡ count_rule d k
  unfolding header_rule type_count_rule every
  count_rule_lem some few zero h =
      rw (le-leb 1 (count d 0) some, every, le-leb (count d 0) type_count few, every) (every_one (count_rule d 0))
  count_rule_lem some few (suc zero) h = refl
  count_rule_lem some few (suc (suc zero)) h = refl
  count_rule_lem some few (suc (suc (suc zero))) h = refl
  count_rule_lem some few (suc (suc (suc (suc zero)))) h = refl
  count_rule_lem some few (suc (suc (suc (suc (suc zero))))) h = refl
  count_rule_lem some few (suc (suc (suc (suc (suc (suc k)))))) h = absurd (omega arith)

  pub offset_rule_lem : (k : ℕ) → k < 6 → header_rule d (2 * k + 2) ≡ offset_rule d k
  unfolding header_rule
  offset_rule_lem zero h = refl
  offset_rule_lem (suc zero) h = refl
  offset_rule_lem (suc (suc zero)) h = refl
  offset_rule_lem (suc (suc (suc zero))) h = refl
  offset_rule_lem (suc (suc (suc (suc zero)))) h = refl
  offset_rule_lem (suc (suc (suc (suc (suc zero))))) h = refl
  offset_rule_lem (suc (suc (suc (suc (suc (suc k)))))) h = absurd (omega arith)

  pub next_start : (k place bytes : ℕ) → place ≡ start d k → bytes ≡ size d k → place + bytes ≡ start d (k + 1)
  unfolding start
  next_start k place bytes p e = rw (add-one k, p, e)

  -- one turn over section k, whose start and end are known: its count is wrong, its offset is, or the next section is looked at
  module _ (some : 1 ≤ count d 0) (few : count d 0 ≤ type_count) (k : ℕ) (h : k < 6) where
    two_more : wrong_from k ≡ first_failing (header_rule d) (suc (suc (13 - 2 * (k + 1)))) (2 * k + 1)
    two_more = let e : 13 - 2 * k ≡ suc (suc (13 - 2 * (k + 1))) = omega arith in ap (λ (n : ℕ). first_failing (header_rule d) n (2 * k + 1)) e

    pub count_wrong : length d < start d k + size d k → wrong_from k ≡ 2 * k + 1
    unfolding count_rule
    count_wrong l = two_more ∙ fails_here (header_rule d) _ _ (count_rule_lem some few k h ∙ lt-leb (start d k + size d k) (length d) l)

    count_right : start d k + size d k ≤ length d → wrong_from k ≡ first_failing (header_rule d) (suc (13 - 2 * (k + 1))) (2 * k + 2)
    unfolding count_rule
    count_right l =
        let e : suc (2 * k + 1) ≡ 2 * k + 2 = omega arith in
        two_more ∙ holds_here (header_rule d) _ _ (count_rule_lem some few k h ∙ le-leb (start d k + size d k) (length d) l)
        ∙ ap (first_failing (header_rule d) (suc (13 - 2 * (k + 1)))) e

    pub offset_wrong : start d k + size d k ≤ length d → (number d (2 * k + 2) ≡ start d k → ⊥) → wrong_from k ≡ 2 * k + 2
    unfolding offset_rule offset
    offset_wrong l n = count_right l ∙ fails_here (header_rule d) _ _ (offset_rule_lem k h ∙ ne_eqb (number d (2 * k + 2)) (start d k) n)

    pub section_right : start d k + size d k ≤ length d → number d (2 * k + 2) ≡ start d k → wrong_from k ≡ wrong_from (k + 1)
    unfolding offset_rule offset
    section_right l q =
        let e : suc (2 * k + 2) ≡ 2 * (k + 1) + 1 = omega arith in
        count_right l ∙ holds_here (header_rule d) _ _ (offset_rule_lem k h ∙ eq-eqb (number d (2 * k + 2)) (start d k) q)
        ∙ ap (first_failing (header_rule d) (13 - 2 * (k + 1))) e

  -- the total, after all sections
  pub total_wrong : (number d 13 ≡ length d → ⊥) → wrong_from 6 ≡ 13
  unfolding header_rule total_rule every
  total_wrong n = fails_here (header_rule d) 0 13 (rw (ne_eqb (number d 13) (length d) n, every))

  pub end_wrong : number d 13 ≡ length d → (start d 6 ≡ length d → ⊥) → wrong_from 6 ≡ 13
  unfolding header_rule total_rule every
  end_wrong e n = fails_here (header_rule d) 0 13 (rw (eq-eqb (number d 13) (length d) e, every, ne_eqb (start d 6) (length d) n, every))

  pub total_right : number d 13 ≡ length d → start d 6 ≡ length d → wrong_from 6 ≡ 14
  unfolding header_rule total_rule every first_failing
  total_right e q = holds_here (header_rule d) 0 13 (rw (eq-eqb (number d 13) (length d) e, every, eq-eqb (start d 6) (length d) q, every))

  -- the whole check
  pub too_short : length d < header_bytes → check_header d ≡ refused (Header 0)
  unfolding check_header ◌>>=◌ require every
  too_short h = rw (lt-leb header_bytes (length d) h, every)

  pub too_long_lem : dossier_bytes < length d → check_header d ≡ refused (Header 0)
  unfolding check_header ◌>>=◌ require every
  too_long_lem h = rw (le-leb header_bytes (length d) (omega arith), every, lt-leb (length d) dossier_bytes h, every)

  pub judged : header_bytes ≤ length d → length d ≤ dossier_bytes
      → check_header d ≡ require (eqb first_wrong 14) (Header (4 * first_wrong))
  unfolding check_header ◌>>=◌ require every each
  judged s l = rw (le-leb header_bytes (length d) s, every, le-leb (length d) dossier_bytes l, every)

  pub judged_right : header_bytes ≤ length d → length d ≤ dossier_bytes → first_wrong ≡ 14 → check_header d ≡ passed tt
  unfolding require
  judged_right s l e = judged s l ∙ rw (eq-eqb first_wrong 14 e)

  pub judged_wrong : header_bytes ≤ length d → length d ≤ dossier_bytes → (j : ℕ) → j ≡ first_wrong → (j ≡ 14 → ⊥)
      → check_header d ≡ refused (Header (4 * j))
  unfolding require
  judged_wrong s l j e n = judged s l ∙ rw (← e, ne_eqb j 14 n)

  -- what a header that passes tells: every rule holds, so section k starts at its offset and ends within the dossier
  module _ (good : check_header d ≡ passed tt) where
    pub passes_all : (j : ℕ) → j < 14 → header_rule d j ≡ true
    unfolding check_header
    passes_all =
        let rest = both_passed (require (every (leb header_bytes (length d) ∷ leb (length d) dossier_bytes ∷ [])) (Header 0))
        (λ x. each 14 (header_rule d) (λ j. Header (4 * j))) tt good in
        each_holds 14 (header_rule d) (λ j. Header (4 * j)) tt rest.2

    count_holds : (k : ℕ) → k < 6 → count_rule d k ≡ true
    unfolding header_rule type_count_rule
    count_holds zero h = (every_all (leb 1 (count d 0) ∷ leb (count d 0) type_count ∷ count_rule d 0 ∷ []) (passes_all 1 (omega arith))).1.1.0
    count_holds (suc zero) h = passes_all 3 (omega arith)
    count_holds (suc (suc zero)) h = passes_all 5 (omega arith)
    count_holds (suc (suc (suc zero))) h = passes_all 7 (omega arith)
    count_holds (suc (suc (suc (suc zero)))) h = passes_all 9 (omega arith)
    count_holds (suc (suc (suc (suc (suc zero))))) h = passes_all 11 (omega arith)
    count_holds (suc (suc (suc (suc (suc (suc k)))))) h = absurd (omega arith)

    pub section_start : (k : ℕ) → k < 6 → number d (2 * k + 2) ≡ start d k
    unfolding offset_rule offset
    section_start k h = eqb-true (number d (2 * k + 2)) (start d k) (sym (offset_rule_lem k h) ∙ passes_all (2 * k + 2) (omega arith))

    pub section_end : (k : ℕ) → k < 6 → start d k + size d k ≤ length d
    unfolding count_rule
    section_end k h = leb-true (start d k + size d k) (length d) (count_holds k h)

  -- past the last section nothing follows
  pub start_end : (k : ℕ) → 6 ≤ k → start d 6 ≡ start d k
  unfolding start
  start_end k h = let e : k ≡ 6 + (k - 6) = omega arith in go (k - 6) ∙ ap (start d) (sym e)
    where
      go : (n : ℕ) → start d 6 ≡ start d (6 + n)
      go zero = refl
      go (suc n) =
          let z = size_none (6 + n) (omega arith) in
          let e : start d (6 + n) ≡ start d (6 + n) + size d (6 + n) = omega arith in
          go n ∙ e ∙ ap (start d) (let s : suc (6 + n) ≡ 6 + suc n = omega arith in s)

module _ (dossier : Part) (k : ℕ) where
  -- past the last section stands no other part than behind it
  pub part_up_to : (j : ℕ) → j ≡ min k 6 → section_part dossier j ≡ section_part dossier k
  unfolding size
  part_up_to j e = elim (dec_lt k 6) [
    | yes h ↦ ap (section_part dossier) (let q : j ≡ k = omega arith in q)
    | no h ↦
        let past : 6 ≤ k = omega arith in
        let q : j ≡ 6 = omega arith in
        ap (section_part dossier) q
        ∙ ap₂ (cut dossier) (start_end dossier.bytes k past) (size_none dossier.bytes k past)
  ]
