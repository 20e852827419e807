-- The header, computed: the rule of each number at its borders, the places of the sections, and a section opened.
-- The dossier has all six sections: 2 types, 3 bytes of program, 1 arrow, 9 witness bits, 3 input bits, 1 hash; 108 bytes in all.
use Rattle.std.specs.Prelude.{refl, true, false, List, [], ◌∷◌, ◌++◌, ℕ, suc, ◌+◌, ◌*◌, ◌-◌, ◌/◌, ◌%◌, take, drop}
use Rattle.limits.specs.Limits.{dossier_bytes, type_count, header_bytes, type_bytes}
use Rattle.refusal.specs.declared.Refusal.TheVariants.{Header}
use Rattle.report.specs.Lines.{◌is◌, Hold}
use Rattle.scope.specs.Check.{passed, refused}
use Rattle.scope.specs.Numbers.{zeros, tabulate}
use Rattle.scope.specs.Header.{number, count, offset, size, start, type_count_rule, total_rule, header_rule, check_header, section, opened}

-- numbers of 32 bits as bytes
unfoldable pub bytes_of32 : List ℕ → List ℕ
bytes_of32 [] = []
bytes_of32 (n ∷ ns) = n / 16777216 % 256 ∷ n / 65536 % 256 ∷ n / 256 % 256 ∷ n % 256 ∷ bytes_of32 ns

-- the header's numbers
abbrev header : List ℕ
header = 1 ∷ 2 ∷ 56 ∷ 3 ∷ 66 ∷ 1 ∷ 69 ∷ 9 ∷ 73 ∷ 3 ∷ 75 ∷ 1 ∷ 76 ∷ 108 ∷ []

-- the dossier with another header; its other bytes are 100, 101, ..
abbrev headed : List ℕ → List ℕ
headed numbers = bytes_of32 numbers ++ tabulate 52 (λ k. 100 + k)

abbrev dossier : List ℕ
dossier = headed header

-- the dossier with number j replaced
abbrev pub with : (j n : ℕ) → List ℕ
with j n = headed (take j header ++ n ∷ drop (suc j) header)

numbers : Hold (
    number dossier 0 is 1
    ∷ number dossier 13 is 108
    ∷ count dossier 0 is 2
    ∷ count dossier 5 is 1
    ∷ offset dossier 0 is 56
    ∷ offset dossier 5 is 76
    ∷ size dossier 0 is 10
    ∷ size dossier 1 is 3
    ∷ size dossier 2 is 4
    ∷ size dossier 3 is 2
    ∷ size dossier 4 is 1
    ∷ size dossier 5 is 32
    ∷ size dossier 6 is 0
    ∷ start dossier 0 is 56
    ∷ start dossier 1 is 66
    ∷ start dossier 2 is 69
    ∷ start dossier 3 is 73
    ∷ start dossier 4 is 75
    ∷ start dossier 5 is 76
    ∷ start dossier 6 is 108
    ∷ [])
unfolding Hold bytes_of32 tabulate number count offset size start
numbers = refl

-- each number against its rule, at its byte position; a count goes up to the end, and the next number is then the wrong one
refusals : Hold (
    check_header dossier is passed tt
    ∷ check_header (with 0 0) is refused (Header 0)
    ∷ check_header (with 0 2) is refused (Header 0)
    ∷ check_header (with 1 0) is refused (Header 4)
    ∷ check_header (with 1 1) is refused (Header 16)
    ∷ check_header (with 1 10) is refused (Header 12)
    ∷ check_header (with 1 11) is refused (Header 4)
    ∷ check_header (with 2 55) is refused (Header 8)
    ∷ check_header (with 2 57) is refused (Header 8)
    ∷ check_header (with 3 42) is refused (Header 20)
    ∷ check_header (with 3 43) is refused (Header 12)
    ∷ check_header (with 4 65) is refused (Header 16)
    ∷ check_header (with 4 67) is refused (Header 16)
    ∷ check_header (with 5 9) is refused (Header 32)
    ∷ check_header (with 5 10) is refused (Header 20)
    ∷ check_header (with 6 68) is refused (Header 24)
    ∷ check_header (with 6 70) is refused (Header 24)
    ∷ check_header (with 7 280) is refused (Header 36)
    ∷ check_header (with 7 281) is refused (Header 28)
    ∷ check_header (with 8 72) is refused (Header 32)
    ∷ check_header (with 8 74) is refused (Header 32)
    ∷ check_header (with 9 264) is refused (Header 44)
    ∷ check_header (with 9 265) is refused (Header 36)
    ∷ check_header (with 10 74) is refused (Header 40)
    ∷ check_header (with 10 76) is refused (Header 40)
    ∷ check_header (with 11 0) is refused (Header 52)
    ∷ check_header (with 11 2) is refused (Header 44)
    ∷ check_header (with 12 75) is refused (Header 48)
    ∷ check_header (with 12 77) is refused (Header 48)
    ∷ check_header (with 13 107) is refused (Header 52)
    ∷ check_header (with 13 109) is refused (Header 52)
    -- a byte behind the last section, which the total counts
    ∷ check_header (with 13 109 ++ 0 ∷ []) is refused (Header 52)
    -- two numbers wrong: the first; a count whose section passes the end, before the total
    ∷ check_header (headed (1 ∷ 2 ∷ 57 ∷ 3 ∷ 67 ∷ 1 ∷ 69 ∷ 9 ∷ 73 ∷ 3 ∷ 75 ∷ 1 ∷ 76 ∷ 108 ∷ [])) is refused (Header 8)
    ∷ check_header (headed (1 ∷ 2 ∷ 56 ∷ 3 ∷ 66 ∷ 1 ∷ 69 ∷ 9 ∷ 73 ∷ 3 ∷ 75 ∷ 2 ∷ 76 ∷ 140 ∷ [])) is refused (Header 44)
    -- too short for a header, and just long enough; at the dossier's limit, and above it
    ∷ check_header (take 55 dossier) is refused (Header 0)
    ∷ check_header (take header_bytes dossier) is refused (Header 4)
    ∷ check_header (with 1 0 ++ zeros (dossier_bytes - 108)) is refused (Header 4)
    ∷ check_header (with 1 0 ++ zeros (dossier_bytes - 107)) is refused (Header 0)
    ∷ [])
unfolding Hold bytes_of32 tabulate check_header
refusals = refl

-- rules by themselves: the type count at its limit in a dossier with room for one more; sections that end beyond the dossier; no rule for a fifteenth number
rules : Hold (
    type_count_rule (with 1 type_count ++ zeros (type_bytes * type_count)) is true
    ∷ type_count_rule (with 1 (type_count + 1) ++ zeros (type_bytes * type_count)) is false
    ∷ total_rule (with 11 2) is false
    ∷ header_rule dossier 14 is false
    ∷ [])
unfolding Hold bytes_of32 tabulate type_count_rule total_rule header_rule
rules = refl

-- a section is that part of the dossier; nothing where the header is refused, and there is no section 6
sections : Hold (
    section dossier 0 is tabulate 10 (λ k. 100 + k)
    ∷ section dossier 1 is (110 ∷ 111 ∷ 112 ∷ [])
    ∷ opened dossier 2 is (113 ∷ 114 ∷ 115 ∷ 116 ∷ [])
    ∷ opened dossier 3 is (117 ∷ 118 ∷ [])
    ∷ opened dossier 4 is (119 ∷ [])
    ∷ opened dossier 5 is tabulate 32 (λ k. 120 + k)
    ∷ opened dossier 6 is []
    ∷ opened (with 0 2) 1 is []
    ∷ [])
unfolding Hold bytes_of32 tabulate section opened
sections = refl
