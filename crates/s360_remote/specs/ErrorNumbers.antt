-- The numbers by which errors are told (the C library of a Unix, errno).
use Rattle.s360_machine.specs.declared.refusal.Refusal.{Refusal}
use Rattle.s360_machine.specs.declared.refusal.Refusal.TheVariants as refused
use Rattle.s360_packet.specs.declared.answer.Answer.{Answer}
use Rattle.s360_packet.specs.declared.answer.Answer.TheVariants.{Error}
use Rattle.s360_remote.specs.declared.error_number.ErrorNumber.{ErrorNumber}
use Rattle.s360_remote.specs.declared.error_number.ErrorNumber.TheVariants.{NoThread, Memory, Address, Malformed, Full}

abbrev pub error_of : ErrorNumber → Answer
error_of NoThread = Error 3
error_of Memory = Error 12
error_of Address = Error 14
error_of Malformed = Error 22
error_of Full = Error 28

-- why a patch was refused
abbrev pub error_of_refusal : Refusal → ErrorNumber
error_of_refusal refused.Memory = Memory
error_of_refusal refused.OutsideStorage = Address
error_of_refusal refused.JournalFull = Full
error_of_refusal other = Malformed
