-- What is replied where a fault kept a request from being made.
use Rattle.std.specs.Prelude.{ℕ, List, codes}
use Rattle.money.specs.declared.fault.Fault.{Fault}
use Rattle.money.specs.declared.fault.Fault.TheVariants.{Memory, Size, Disk, Stopped}

abbrev pub fault_text : Fault → List ℕ
fault_text Memory = codes "{\"fault\":\"F1\"}"
fault_text Size = codes "{\"fault\":\"F2\"}"
fault_text Disk = codes "{\"fault\":\"F3\"}"
fault_text Stopped = codes "{\"fault\":\"F4\"}"
