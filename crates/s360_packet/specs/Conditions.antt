-- The conditions of a breakpoint (gdb manual, "Packets", `Z0`): a list of expressions, one behind another.
use Rattle.std.specs.Prelude.{◌≡◌, ◌⊎◌, ℕ, ◌*◌, nat_lt, if◌then◌else◌, Err, IsOk, Ok, List, codes, take, drop, length, ok_or}
use Rattle.s360_packet.specs.Requests.{Parsed, and_then, behind, bytes_in, number_in, parted}
use Rattle.s360_packet.specs.declared.request.RequestFault.{RequestFault}
use Rattle.s360_packet.specs.declared.request.RequestFault.TheVariants.{Malformed, Memory}

-- so many bytes in two digits each, and what stands behind them
abbrev pub bytes_and_rest : ℕ → List ℕ → Parsed (List ℕ × List ℕ)
bytes_and_rest count text =
    if nat_lt (length text) (count * 2) then Err Malformed
    else and_then (bytes_in (take (count * 2) text)) (λ bytes. Ok (bytes, drop (count * 2) text))

-- the bytes of the first expression, and what stands behind it: `X` number of bytes `,` bytes
abbrev pub condition_in : List ℕ → Parsed (List ℕ × List ℕ)
condition_in text =
    and_then (ok_or (behind (codes "X") text) Malformed) (λ rest.
    and_then (parted 0x2C rest) (λ parts.
    and_then (number_in parts.0) (λ count. bytes_and_rest count parts.1)))

-- a reading fails so: with its fault, whatever memory there is, or else for want of memory
abbrev pub FailsWith : {V : Type 0} → Parsed V → RequestFault → Type 0
FailsWith reading fault = (reading ≡ Err fault) ⊎ (IsOk reading × (fault ≡ Memory))
