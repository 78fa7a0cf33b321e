-- What each operation makes of its operands, and the kinds of condition code (GA22-6821, "Fixed-Point Arithmetic", "Logical Operations" and "Branching").
use Rattle.std.specs.Prelude.{ℕ, ◌+◌, ◌*◌, ◌/◌, ◌%◌, Bool, not, int_lt, ℤ, pos, Option, None, Some, bit_and, bit_or, bit_xor}
use Rattle.s360_model.specs.{Numbers.low32, Numbers.signed, Pairs.signed_pair_code, Products.signed_product}
use Rattle.s360_model.specs.ConditionCodes.{sign_code, signed_code, carry_code, bits_code, order_code}
use Rattle.s360_model.specs.Arithmetic.{signed_sum, signed_difference, signed_complement, absolute_value, negative_absolute_value, logical_sum}
use Rattle.s360_model.specs.Arithmetic.{logical_difference, word_of}
use Rattle.s360_fixed.specs.{declared.operation.Operation.Operation, Alterations.set_by_signed, Alterations.set_to, Alterations.unchanged}
use Rattle.s360_fixed.specs.declared.row.{Combination.Combination, PairCombination.PairCombination, OperationRow.OperationRow}
use Rattle.s360_fixed.specs.declared.row.{Branch.Branch, IndexBranch.IndexBranch}
use Rattle.s360_fixed.specs.declared.row.Combination.TheVariants.{Second, InsertedCharacter, Tested, Complement, Absolute, NegativeAbsolute, Sum, Difference}
use Rattle.s360_fixed.specs.declared.row.Combination.TheVariants.{LogicalSum, LogicalDifference, Comparison, LogicalComparison, BitwiseAnd, BitwiseOr}
use Rattle.s360_fixed.specs.declared.row.Combination.TheVariants.{BitwiseExclusiveOr, LowProduct}
use Rattle.s360_fixed.specs.declared.{row.Shift.Shift, setting.CodeSetting.CodeSetting, second_operand.SecondOperand.SecondOperand, second_operand.Width.Width}

-- the condition code of an exact signed number: by its sign, and where an overflow is told, of a word or of a pair
abbrev pub by_sign : ℤ → CodeSetting
by_sign n = set_to (sign_code n)

abbrev pub by_sign_or_overflow : ℤ → CodeSetting
by_sign_or_overflow n = set_by_signed (signed_code n)

abbrev pub by_sign_or_pair_overflow : ℤ → CodeSetting
by_sign_or_pair_overflow n = set_by_signed (signed_pair_code n)

-- of the bits of a word
abbrev pub by_bits : ℕ → CodeSetting
by_bits word = set_to (bits_code word)

-- a word for R1 and the condition code, of an exact signed number and of an exact unsigned one
abbrev pub signed_result : ℤ → (ℤ → CodeSetting) → Option ℕ × CodeSetting
signed_result n kind = (Some (word_of n), kind n)

abbrev pub logical_result : ℕ → Option ℕ × CodeSetting
logical_result n = (Some (low32 n), set_to (carry_code n))

-- the word that R1 becomes, if it does, and the condition code. A character that is inserted is a byte in place of the low eight bits
abbrev pub result_of : Combination → ℕ → ℕ → Option ℕ × CodeSetting
result_of Second first second = (Some second, unchanged)
result_of InsertedCharacter first second = (Some (first / 256 * 256 + second % 256), unchanged)
result_of Tested first second = (Some second, by_sign (signed second))
result_of Complement first second = signed_result (signed_complement second) by_sign_or_overflow
result_of Absolute first second = signed_result (absolute_value second) by_sign_or_overflow
result_of NegativeAbsolute first second = signed_result (negative_absolute_value second) by_sign
result_of Sum first second = signed_result (signed_sum first second) by_sign_or_overflow
result_of Difference first second = signed_result (signed_difference first second) by_sign_or_overflow
result_of LogicalSum first second = logical_result (logical_sum first second)
result_of LogicalDifference first second = logical_result (logical_difference first second)
result_of Comparison first second = (None, set_to (order_code (signed first) (signed second)))
result_of LogicalComparison first second = (None, set_to (order_code (pos first) (pos second)))
result_of BitwiseAnd first second = (Some (bit_and first second), by_bits (bit_and first second))
result_of BitwiseOr first second = (Some (bit_or first second), by_bits (bit_or first second))
result_of BitwiseExclusiveOr first second = (Some (bit_xor first second), by_bits (bit_xor first second))
result_of LowProduct first second = signed_result (signed_product first second) (λ product. unchanged)

-- when a branch on index is taken, by the sum and the comparand
abbrev pub is_taken : IndexBranch → ℤ → ℤ → Bool
is_taken IndexBranch.High sum comparand = int_lt comparand sum
is_taken IndexBranch.LowOrEqual sum comparand = not (int_lt comparand sum)

-- rows of R1 and a word or a halfword. In the format RR the second operand is in a register
abbrev pub on_word : Combination → Option OperationRow
on_word combination = Some (OperationRow.Combine (SecondOperand.InStorage Width.Word) combination)

abbrev pub on_halfword : Combination → Option OperationRow
on_halfword combination = Some (OperationRow.Combine (SecondOperand.InStorage Width.Halfword) combination)

-- the row of an operation, where it is one of these chapters
abbrev pub row_of : Operation → Option OperationRow
row_of Operation.Load = on_word Second
row_of Operation.LoadHalfword = on_halfword Second
row_of Operation.LoadAddress = Some (OperationRow.Combine SecondOperand.Address Second)
row_of Operation.InsertCharacter = Some (OperationRow.Combine (SecondOperand.InStorage Width.Byte) InsertedCharacter)
row_of Operation.LoadAndTest = on_word Tested
row_of Operation.LoadComplement = on_word Complement
row_of Operation.LoadPositive = on_word Absolute
row_of Operation.LoadNegative = on_word NegativeAbsolute
row_of Operation.Add = on_word Sum
row_of Operation.AddHalfword = on_halfword Sum
row_of Operation.Subtract = on_word Difference
row_of Operation.SubtractHalfword = on_halfword Difference
row_of Operation.AddLogical = on_word LogicalSum
row_of Operation.SubtractLogical = on_word LogicalDifference
row_of Operation.Compare = on_word Comparison
row_of Operation.CompareHalfword = on_halfword Comparison
row_of Operation.CompareLogical = on_word LogicalComparison
row_of Operation.And = on_word BitwiseAnd
row_of Operation.Or = on_word BitwiseOr
row_of Operation.ExclusiveOr = on_word BitwiseExclusiveOr
row_of Operation.MultiplyHalfword = on_halfword LowProduct
row_of Operation.Multiply = Some (OperationRow.CombinePair PairCombination.Product)
row_of Operation.Divide = Some (OperationRow.CombinePair PairCombination.Quotient)
row_of Operation.Store = Some (OperationRow.StoreBytes Width.Word)
row_of Operation.StoreHalfword = Some (OperationRow.StoreBytes Width.Halfword)
row_of Operation.StoreCharacter = Some (OperationRow.StoreBytes Width.Byte)
row_of Operation.StoreMultiple = Some OperationRow.StoreRegisters
row_of Operation.LoadMultiple = Some OperationRow.LoadRegisters
row_of Operation.ShiftLeftSingleLogical = Some (OperationRow.Shift Shift.LeftLogical)
row_of Operation.ShiftRightSingleLogical = Some (OperationRow.Shift Shift.RightLogical)
row_of Operation.ShiftLeftSingle = Some (OperationRow.Shift Shift.Left)
row_of Operation.ShiftRightSingle = Some (OperationRow.Shift Shift.Right)
row_of Operation.ShiftLeftDoubleLogical = Some (OperationRow.ShiftPair Shift.LeftLogical)
row_of Operation.ShiftRightDoubleLogical = Some (OperationRow.ShiftPair Shift.RightLogical)
row_of Operation.ShiftLeftDouble = Some (OperationRow.ShiftPair Shift.Left)
row_of Operation.ShiftRightDouble = Some (OperationRow.ShiftPair Shift.Right)
row_of Operation.BranchOnCondition = Some (OperationRow.Branch Branch.OnCondition)
row_of Operation.BranchAndLink = Some (OperationRow.Branch Branch.AndLink)
row_of Operation.BranchOnCount = Some (OperationRow.Branch Branch.OnCount)
row_of Operation.BranchOnIndexHigh = Some (OperationRow.BranchOnIndex IndexBranch.High)
row_of Operation.BranchOnIndexLowOrEqual = Some (OperationRow.BranchOnIndex IndexBranch.LowOrEqual)
row_of other = None
