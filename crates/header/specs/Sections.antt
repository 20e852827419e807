-- The place of each section in the dossier's order. A section as that part of the dossier, its place fixed by the header's counts; what it
-- holds is `section` and `opened` of the requirements.
use Rattle.std.specs.Prelude.{◌≡◌, refl, [], ℕ}
use Rattle.std.proofs.Common.{ap, ◌∙◌}
use Rattle.promise.specs.Parts.{Part, cut}
use Rattle.scope.specs.Check.{Check, passed, refused}
use Rattle.scope.specs.Header.{size, start, check_header, section, opened}
use Rattle.header.specs.declared.SectionName.{SectionName}
use Rattle.header.specs.declared.SectionName.TheVariants.{Types, Program, Arrows, Witness, Input, Hashes}

abbrev pub index_of : SectionName → ℕ
index_of Types = 0
index_of Program = 1
index_of Arrows = 2
index_of Witness = 3
index_of Input = 4
index_of Hashes = 5

abbrev pub section_part : (dossier : Part) → (k : ℕ) → Part
section_part dossier k = cut dossier (start dossier.bytes k) (size dossier.bytes k)

-- where the header is refused, the empty part at the dossier's start
abbrev pub opened_by : Check (Unit {0}) → (dossier : Part) → (k : ℕ) → Part
opened_by (passed x) dossier k = section_part dossier k
opened_by (refused r) dossier k = cut dossier 0 0

abbrev pub opened_part : (dossier : Part) → (k : ℕ) → Part
opened_part dossier k = opened_by (check_header dossier.bytes) dossier k

-- what such a part holds
pub section_holds : (part dossier : Part) (k : ℕ) → part ≡ section_part dossier k → part.bytes ≡ section dossier.bytes k
unfolding section
section_holds part dossier k e = ap (λ (p : Part). p.bytes) e

pub opened_holds : (part dossier : Part) (k : ℕ) → part ≡ opened_part dossier k → part.bytes ≡ opened dossier.bytes k
unfolding opened section
opened_holds part dossier k e = ap (λ (p : Part). p.bytes) e ∙ go (check_header dossier.bytes)
  where
    go : (x : Check (Unit {0})) → (opened_by x dossier k).bytes ≡ elim x [ passed y ↦ section dossier.bytes k | refused r ↦ [] ]
    go (passed y) = refl
    go (refused r) = refl
