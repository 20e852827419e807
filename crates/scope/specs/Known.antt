-- The known runs that the requirements mark as proved, as one table under one statement: naturals, programs decoded to their tables,
-- bounds, outputs, and the cells that are left of old ones and of old zeros.
use Rattle.std.specs.Prelude.{◌≡◌, refl, Bool, true, false, List, [], ◌∷◌, ℕ, eqb, length}
use Rattle.report.specs.Bits.{Bit}
use Rattle.report.specs.Naturals.{code_by, log2_by, low_bits, code_natural}
use Rattle.scope.specs.Numbers.{every, same}
use Rattle.scope.specs.Naturals.{Natural, natural, ended, too_long, read_natural}
use Rattle.scope.specs.Rows.{Row, row, lent, left, holds}

pub data Known : Type 0 where
  coded : (n : ℕ) → (code : List Bit) → Known
  runs : Row → Known

-- a natural was read, with no bits left
unfoldable pub reads : (n : ℕ) → Natural → Bool
unfolding every
reads n (natural m rest) = every (eqb m n ∷ eqb (length rest) 0 ∷ [])
reads n ended = false
reads n too_long = false

unfoldable pub is_so : Known → Bool
unfolding holds code_by log2_by low_bits same every reads read_natural
is_so (coded n code) = every (same (code_natural n) code ∷ reads n (read_natural code) ∷ [])
is_so (runs r) = holds r

unfoldable pub all_so : List Known → Bool
unfolding is_so
all_so [] = true
all_so (k ∷ ks) = elim (is_so k) [ true ↦ all_so ks | false ↦ false ]

known_runs : List Known
known_runs =
    coded 2 (1 ∷ 0 ∷ 0 ∷ [])
    ∷ coded 4 (1 ∷ 1 ∷ 0 ∷ 0 ∷ 0 ∷ 0 ∷ [])
    ∷ coded 8 (1 ∷ 1 ∷ 0 ∷ 1 ∷ 0 ∷ 0 ∷ 0 ∷ [])
    -- `24` is unit, from 1 to 1
    ∷ runs (row 91 0x00000001_00000006_00000038_00000001_00000056_00000001_00000057_00000000_0000005b_00000000_0000005b_00000000_0000005b_0000005b_0000000000_0100000000_0100000001_0200010000_0200000000_0200010001_24_00000000
    (lent 1 0 1 2 1 255) (0 ∷ 0 ∷ []) (0 ∷ 2 ∷ 100 ∷ [])
    (left 0x00000009_00000000_00000000_00000000 0 0xff 0 0xff))
    -- `20` is iden, on 1 + 1 with input 1
    ∷ runs (row 92 0x00000001_00000006_00000038_00000001_00000056_00000001_00000057_00000000_0000005b_00000001_0000005b_00000000_0000005c_0000005c_0000000000_0100000000_0100000001_0200010000_0200000000_0200010001_20_00010001_80
    (lent 1 0 1 2 1 255) (0 ∷ 1 ∷ []) (2 ∷ 2 ∷ 101 ∷ [])
    (left 0x00000008_00000000_00000000_00000000 0 0xff 0 0x80))
    -- `A9 40 20` is comp of unit and iden, at width 0
    ∷ runs (row 101 0x00000001_00000006_00000038_00000003_00000056_00000003_00000059_00000000_00000065_00000000_00000065_00000000_00000065_00000065_0000000000_0100000000_0100000001_0200010000_0200000000_0200010001_a94020_00000000_00000000_00000000
    (lent 3 0 1 3 1 255) (0 ∷ 0 ∷ []) (0 ∷ 3 ∷ 300 ∷ [])
    (left 0x00000009_00000000_00000000_00000000_00000008_00000000_00000000_00000000_00000000_00000000_00000001_00000000 0 0xff 0 0xff))
    -- `A9 40 10` swaps the children
    ∷ runs (row 101 0x00000001_00000006_00000038_00000003_00000056_00000003_00000059_00000000_00000065_00000000_00000065_00000000_00000065_00000065_0000000000_0100000000_0100000001_0200010000_0200000000_0200010001_a94010_00000000_00000000_00000000
    (lent 5 64 1 1 1 255) (6 ∷ 0 ∷ []) ([])
    (left 0 0 0xff 0xffffffff_ffffffff_ffffffff 0xff))
    -- `89 20` is injl of unit, to 1 + (1 + 1), on old ones
    ∷ runs (row 81 0x00000001_00000003_00000038_00000002_00000047_00000002_00000049_00000000_00000051_00000000_00000051_00000000_00000051_00000051_0000000000_0100000000_0100000001_8920_00000000_00000002
    (lent 2 0 1 2 1 255) (0 ∷ 1 ∷ []) (2 ∷ 2 ∷ 200 ∷ [])
    (left 0x00000009_00000000_00000000_00000000_00000004_00000000_00000000_00000000 0 0x7f 0 0))
    -- and on old zeros
    ∷ runs (row 81 0x00000001_00000003_00000038_00000002_00000047_00000002_00000049_00000000_00000051_00000000_00000051_00000000_00000051_00000051_0000000000_0100000000_0100000001_8920_00000000_00000002
    (lent 2 0 1 2 1 0) (0 ∷ 1 ∷ []) (2 ∷ 2 ∷ 200 ∷ [])
    (left 0x00000009_00000000_00000000_00000000_00000004_00000000_00000000_00000000 0 0 0 0))
    -- an empty program
    ∷ runs (row 86 0x00000001_00000006_00000038_00000000_00000056_00000000_00000056_00000000_00000056_00000000_00000056_00000000_00000056_00000056_0000000000_0100000000_0100000001_0200010000_0200000000_0200010001
    (lent 4 64 1 1 1 255) (3 ∷ 0 ∷ []) ([])
    (left 0 0 0xff 0xffffffff_ffffffff_ffffffff 0xff))
    ∷ []

known_runs_lem : all_so known_runs ≡ true
unfolding known_runs all_so
known_runs_lem = refl
