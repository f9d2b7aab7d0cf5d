-- The fault that stands for a refused take.
use Rattle.frame_words.specs.declared.fault.Fault.{Fault}
use Rattle.frame_words.specs.declared.fault.Fault.TheVariants as fault
use Rattle.frame_words.specs.declared.fault.TakeFault.{TakeFault}
use Rattle.frame_words.specs.declared.fault.TakeFault.TheVariants.{BadOrder, NoBlock, Contended}

-- the fault of the same name
abbrev pub fault_of : TakeFault → Fault
fault_of BadOrder = fault.BadOrder
fault_of NoBlock = fault.NoBlock
fault_of Contended = fault.Contended
