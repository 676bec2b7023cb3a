-- Why a stream or a port was not served to its end.
use Rattle.http_messages.specs.declared.serving.ServeFault.{ServeFault}
use Rattle.http_messages.specs.declared.serving.ServeFault.TheVariants as serving
use Rattle.counter_connections.specs.declared.fault.PortFault.{PortFault}
use Rattle.counter_connections.specs.declared.fault.PortFault.TheVariants as port
use Rattle.cli_file.specs.declared.fault.ActionFault.{ActionFault}
use Rattle.cli_file.specs.declared.fault.ActionFault.TheVariants as fault

abbrev pub fault_of_serving : ServeFault → ActionFault
fault_of_serving serving.Cut = fault.Cut
fault_of_serving serving.Memory = fault.Memory
fault_of_serving serving.Read = fault.Broken
fault_of_serving serving.Write = fault.Broken
fault_of_serving serving.Report = fault.Broken

abbrev pub fault_of_port : PortFault → ActionFault
fault_of_port port.Broken = fault.Broken
fault_of_port port.Memory = fault.Memory
