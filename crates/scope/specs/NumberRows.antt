-- Checks in a row, numbers in bytes, lists and tests, computed.
use Rattle.std.specs.Prelude.{refl, true, false, [], ◌∷◌, ◌+◌, ◌*◌, ltb, eqb}
use Rattle.limits.specs.Limits.{dossier_bytes}
use Rattle.refusal.specs.declared.Refusal.TheVariants.{Header, TypeRecord, Jet}
use Rattle.report.specs.Lines.{◌is◌, Hold}
use Rattle.report.specs.Bits.{bits_of}
use Rattle.scope.specs.Check.{passed, refused, ◌>>=◌, require, each}
use Rattle.scope.specs.Numbers.{be16, be32, bytes_for, zeros, filled, stream_of, tabulate_from, tabulate, every, any_below, same, all_zero}

-- the first refusal is the answer
in_turn_lem : Hold (
    (require true (Header 1) >>= λ x. require true (Jet 2)) is passed tt
    ∷ (require true (Header 1) >>= λ x. require false (Jet 2)) is refused (Jet 2)
    ∷ (require false (Header 1) >>= λ x. require true (Jet 2)) is refused (Header 1)
    ∷ (require false (Header 1) >>= λ x. require false (Jet 2)) is refused (Header 1)
    ∷ [])
unfolding Hold require ◌>>=◌
in_turn_lem = refl

-- the first number at which a test fails
first_failing_lem : Hold (
    each 0 (λ i. false) TypeRecord is passed tt
    ∷ each 3 (λ i. ltb i 3) TypeRecord is passed tt
    ∷ each 4 (λ i. ltb i 3) TypeRecord is refused (TypeRecord 3)
    ∷ each 4 (λ i. eqb i 1) TypeRecord is refused (TypeRecord 0)
    ∷ each 4 (λ i. ltb i 1) TypeRecord is refused (TypeRecord 1)
    ∷ [])
unfolding Hold each
first_failing_lem = refl

numbers : Hold (
    be16 (9 ∷ 1 ∷ 2 ∷ []) 1 is 0x0102
    ∷ be32 (9 ∷ 1 ∷ 2 ∷ 3 ∷ 4 ∷ []) 1 is 0x01020304
    ∷ be32 (1 ∷ 2 ∷ 3 ∷ []) 0 is 0x01020300
    ∷ bytes_for 0 is 0
    ∷ bytes_for 1 is 1
    ∷ bytes_for 8 is 1
    ∷ bytes_for 9 is 2
    ∷ [])
unfolding Hold
numbers = refl

lists : Hold (
    filled (5 ∷ 6 ∷ []) (1 ∷ 1 ∷ 1 ∷ 1 ∷ []) is (5 ∷ 6 ∷ 0 ∷ 0 ∷ [])
    ∷ filled (5 ∷ 6 ∷ []) (1 ∷ 1 ∷ []) is (5 ∷ 6 ∷ [])
    ∷ tabulate_from 2 3 (λ i. i * 10) is (20 ∷ 30 ∷ 40 ∷ [])
    ∷ tabulate 3 (λ i. i * 10) is (0 ∷ 10 ∷ 20 ∷ [])
    ∷ stream_of (128 ∷ 1 ∷ []) is bits_of (128 ∷ 1 ∷ [])
    -- of a slice above the dossier's limit nothing is read
    ∷ stream_of (zeros (dossier_bytes + 1)) is []
    ∷ [])
unfolding Hold filled tabulate_from tabulate stream_of
lists = refl

tests : Hold (
    every [] is true
    ∷ every (true ∷ true ∷ []) is true
    ∷ every (true ∷ false ∷ []) is false
    ∷ every (false ∷ true ∷ []) is false
    ∷ any_below 0 (λ i. true) is false
    ∷ any_below 3 (λ i. eqb i 2) is true
    ∷ any_below 3 (λ i. eqb i 0) is true
    ∷ any_below 3 (λ i. eqb i 3) is false
    ∷ same [] [] is true
    ∷ same (1 ∷ 2 ∷ []) (1 ∷ 2 ∷ []) is true
    ∷ same (1 ∷ 2 ∷ []) (1 ∷ 3 ∷ []) is false
    ∷ same (1 ∷ 3 ∷ []) (1 ∷ 2 ∷ []) is false
    ∷ same (1 ∷ 2 ∷ []) (3 ∷ 2 ∷ []) is false
    ∷ same (1 ∷ 2 ∷ []) (1 ∷ []) is false
    ∷ same (1 ∷ []) (1 ∷ 2 ∷ []) is false
    ∷ all_zero [] is true
    ∷ all_zero (0 ∷ 0 ∷ []) is true
    ∷ all_zero (0 ∷ 1 ∷ []) is false
    ∷ all_zero (1 ∷ 0 ∷ []) is false
    ∷ [])
unfolding Hold every any_below same all_zero
tests = refl
