-- What a run needs beyond its tables, computed: witness bits (15), input bits (16), and the stores of 17 at 0, 1 and 2 in their order.
use Rattle.std.specs.Prelude.{refl, List, [], ◌∷◌, ℕ, ◌+◌, replicate}
use Rattle.limits.specs.Limits.{dossier_bytes}
use Rattle.refusal.specs.declared.Refusal.TheVariants.{Witness, Input, StoreShort}
use Rattle.report.specs.Lines.{◌is◌, Hold, o, i}
use Rattle.report.specs.Types.{one, sum}
use Rattle.report.specs.Values.{Val, ⟨⟩, inl, inr, ◌&◌}
use Rattle.report.specs.Nodes.{iden, unit, witness}
use Rattle.scope.specs.Check.{Check, passed, refused}
use Rattle.scope.specs.Numbers.{zeros}
use Rattle.scope.specs.Types.{TypeRecord, ty_at}
use Rattle.scope.specs.Program.{Program}
use Rattle.scope.specs.Witness.{check_witness}
use Rattle.scope.specs.Input.{check_input}
use Rattle.scope.specs.Stores.{check_stores}
use Rattle.scope.specs.Shorthand.{ty, to}

-- unit, a bit, two bits, 1 + 2; words of 4 and 8 bits, 1 + 8 of width 9, and words of 16 bits
abbrev types : List TypeRecord
types = ty 0 0 0 ∷ ty 1 0 0 ∷ ty 2 1 1 ∷ ty 1 1 2 ∷ ty 2 2 2 ∷ ty 2 4 4 ∷ ty 1 0 5 ∷ ty 2 5 5 ∷ []

-- a byte more than a dossier may have
abbrev over_long : List ℕ
over_long = replicate (dossier_bytes + 1) 255

-- witnesses to a bit and to 1 + 2, with a unit between them
abbrev witnessed : (bytes : List ℕ) → (count : ℕ) → Check (List Val)
witnessed bytes count = check_witness types (witness ∷ unit ∷ witness ∷ []) (to 0 1 ∷ to 0 0 ∷ to 0 3 ∷ []) bytes count

witness_bits_lem : Hold (
    witnessed (0b10100000 ∷ []) 3 is passed (i ∷ ⟨⟩ ∷ inl i ∷ [])
    ∷ witnessed (0b11100000 ∷ []) 4 is passed (i ∷ ⟨⟩ ∷ inr (i & o) ∷ [])
    -- short at the node where they run out; the nodes that take none are passed over
    ∷ witnessed [] 0 is refused (Witness 0)
    ∷ witnessed (0b10000000 ∷ []) 1 is refused (Witness 2)
    ∷ witnessed (0b10000000 ∷ []) 2 is refused (Witness 2)
    -- a bit left over, leftover bits not zero, a whole byte to spare
    ∷ witnessed (0b10100000 ∷ []) 4 is refused (Witness 3)
    ∷ witnessed (0b10110000 ∷ []) 3 is refused (Witness 3)
    ∷ witnessed (0b10100000 ∷ 0 ∷ []) 3 is refused (Witness 3)
    -- a witness to unit in the middle takes no bit
    ∷ check_witness types (witness ∷ witness ∷ witness ∷ []) (to 0 1 ∷ to 0 0 ∷ to 0 1 ∷ []) (255 ∷ []) 1 is refused (Witness 2)
    -- short before leftover bits
    ∷ witnessed (0b10110000 ∷ []) 2 is refused (Witness 2)
    -- a count above 8 times the bytes: left over, unless a node needs a bit beyond the bytes
    ∷ check_witness types (witness ∷ []) (to 0 1 ∷ []) (0x80 ∷ []) 9 is refused (Witness 1)
    ∷ check_witness types (witness ∷ []) (to 0 5 ∷ []) (0x80 ∷ []) 9 is refused (Witness 1)
    ∷ check_witness types (witness ∷ []) (to 0 7 ∷ []) (0x80 ∷ []) 16 is refused (Witness 0)
    -- bytes above the limit are left over, whatever is read of those below it
    ∷ check_witness types (unit ∷ []) (to 0 0 ∷ []) over_long 0 is refused (Witness 1)
    ∷ check_witness types (witness ∷ []) (to 0 5 ∷ []) over_long 8 is refused (Witness 1)
    ∷ [])
unfolding Hold check_witness
witness_bits_lem = refl

input_bits_lem : Hold (
    check_input one [] 0 is passed ⟨⟩
    ∷ check_input (sum one (sum one one)) (0b11000000 ∷ []) 2 is passed (inr i)
    ∷ check_input (sum one (sum one one)) (0 ∷ []) 1 is passed (inl ⟨⟩)
    -- short; a bit left over; leftover bits not zero; a whole byte to spare
    ∷ check_input (sum one (sum one one)) (0b11000000 ∷ []) 1 is refused (Input 0)
    ∷ check_input (sum one (sum one one)) (0b11000000 ∷ []) 3 is refused (Input 0)
    ∷ check_input (sum one (sum one one)) (0b11000001 ∷ []) 2 is refused (Input 0)
    ∷ check_input (sum one (sum one one)) (0b11000000 ∷ 0 ∷ []) 2 is refused (Input 0)
    -- a count above 8 times the bytes; bytes above the limit
    ∷ check_input (sum one one) (0x80 ∷ []) 9 is refused (Input 0)
    ∷ check_input one over_long 0 is refused (Input 0)
    ∷ check_input (ty_at types 5) over_long 8 is refused (Input 0)
    ∷ [])
unfolding Hold check_input ty_at
input_bits_lem = refl

-- iden of width 9: 18 cells in 3 bytes, 2 frames of 3 numbers, 9 bits of output in 2 bytes
abbrev P : Program
P = record { types = types; nodes = iden ∷ []; arrows = to 6 6 ∷ []; witnesses = []; hash = λ j. ⟨⟩ }

store_sizes : Hold (
    check_stores P (zeros 3) (zeros 6) (zeros 2) is passed tt
    ∷ check_stores P (zeros 9) (zeros 9) (zeros 9) is passed tt
    ∷ check_stores P (zeros 2) (zeros 6) (zeros 2) is refused (StoreShort 0)
    ∷ check_stores P (zeros 3) (zeros 5) (zeros 2) is refused (StoreShort 1)
    ∷ check_stores P (zeros 3) (zeros 6) (zeros 1) is refused (StoreShort 2)
    -- of two that are too short the first
    ∷ check_stores P (zeros 2) (zeros 5) (zeros 2) is refused (StoreShort 0)
    ∷ check_stores P (zeros 2) (zeros 6) (zeros 1) is refused (StoreShort 0)
    ∷ check_stores P (zeros 3) (zeros 5) (zeros 1) is refused (StoreShort 1)
    ∷ [])
unfolding Hold check_stores
store_sizes = refl
