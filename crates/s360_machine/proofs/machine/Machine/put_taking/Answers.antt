use Rattle.std.proofs.Common.{◌≡◌, ap, subst}
use Rattle.s360_model.specs.Core.{Core}
use Rattle.s360_psw.specs.declared.class.Class.TheVariants.{InputOutput}
use Rattle.s360_psw.specs.declared.instruction_length.InstructionLength.TheVariants.{NotAvailable}
use Rattle.s360_channel.specs.ConfiguredUnits.{address_of_unit, with_control_of}
use Rattle.s360_channel.specs.declared.io_instructions.CswStore.TheVariants.{Csw as WholeCsw}
use Rattle.s360_channel.specs.UnitChanges.{IsUnitsChangeTo}
use Rattle.s360_channel.specs.declared.units.Units.{Units}
use Rattle.s360_machine.specs.InputOutput.{core_with_csw}
use Rattle.s360_machine.specs.Interruptions.{after_interruption}
use Rattle.s360_machine.specs.Machine.{Whole, WithRoom}
use Rattle.s360_machine.proofs.machine.Machine.put_taking.Goals as goal

pub returns : goal.returns
returns g c =
    let w : Whole = c.args.self.now.whole
    in let core : c.self.inside.core ≡ w.core = ap (λ (k : WithRoom). k.whole.core) c.self.view_is
    in let units : c.self.inside.units ≡ w.units = ap (λ (k : WithRoom). k.whole.units) c.self.view_is
    in let code : c.address.result ≡ address_of_unit c.args.unit = rw c.unit.ensures at c.address.ensures
    in record {
      core = subst (λ (k : Core). g.P.Puts.made c.put_taken.new.puts k ≡ after_interruption InputOutput (address_of_unit c.args.unit) NotAvailable (core_with_csw (WholeCsw c.args.condition.csw) k)) core
          (rw code at c.in_ok-put_taken.ensures.made);
      allowed = subst (λ (k : Core). g.P.Puts.may c.put_taken.new.puts k) core c.in_ok-put_taken.ensures.may;
      others = record {
        control = c.requires.leaves.control;
        units = subst (λ (k : Units). IsUnitsChangeTo k c.change_of.result (with_control_of k c.args.unit c.args.condition.unit)) units c.change_of.ensures;
        media = c.requires.leaves.media;
      };
    }
