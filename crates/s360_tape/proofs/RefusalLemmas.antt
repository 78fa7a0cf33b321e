-- A file that is read as a tape is one, and a file that is refused has the fault, so it is no other way with either.
use Rattle.std.proofs.Common.{◌≡◌, List, ℕ, ap, inl, inr, Result, Ok, Err, IfOk, IfErr, IsOkUnless}
use Rattle.s360_tape.specs.declared.fault.TapeFault.{TapeFault}
use Rattle.s360_tape.specs.declared.fault.TapeFault.TheVariants.{Memory}
use Rattle.s360_tape.specs.declared.item.TapeItem.{TapeItem}
use Rattle.s360_tape.specs.Images.{IsTapeFile, HasFault, IsRefusal}
use Rattle.s360_tape.proofs.MeaningLemmas.{no_tape_file_has_fault, file_has_fault_once}

pub accepted-of_refusals : {T : Type 0} (file : List ℕ) (result : Result T TapeFault) → IfErr result (λ fault. IsRefusal file fault)
    → (items : List TapeItem) → IsTapeFile file items → IsOkUnless result Memory
accepted-of_refusals file (Ok t) r items b = tt
accepted-of_refusals file (Err fault) (inl h) items b = absurd (no_tape_file_has_fault file items fault b h)
accepted-of_refusals file (Err fault) (inr m) items b = m.0

pub faulty-of_refusals : {T : Type 0} (items_in : T → List TapeItem) (file : List ℕ) (result : Result T TapeFault)
    → IfOk result (λ t. IsTapeFile file (items_in t)) → IfErr result (λ fault. IsRefusal file fault)
    → (fault : TapeFault) → HasFault file fault → result ≡ Err fault
faulty-of_refusals items_in file (Ok t) a r fault h = absurd (no_tape_file_has_fault file (items_in t) fault a h)
faulty-of_refusals items_in file (Err other) a (inl k) fault h = ap (λ f. Err f) (file_has_fault_once file other fault k h)
faulty-of_refusals items_in file (Err other) a (inr m) fault h = absurd (no_tape_file_has_fault file m.1.items fault m.1.is h)
