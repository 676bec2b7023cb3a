-- Why no bank is made, by what was refused below.
use Rattle.list_opening.specs.declared.list_fault.ListFault.{ListFault}
use Rattle.list_opening.specs.declared.list_fault.ListFault.TheVariants as of_list
use Rattle.sql_create.specs.declared.open_fault.OpenFault.{OpenFault}
use Rattle.sql_create.specs.declared.open_fault.OpenFault.TheVariants as making
use Rattle.cli_file.specs.Faults.{fault_of_store}
use Rattle.cli_file.specs.declared.fault.ActionFault.{ActionFault}
use Rattle.cli_file.specs.declared.fault.ActionFault.TheVariants as fault

abbrev pub fault_of_making : OpenFault → ActionFault
fault_of_making (making.Books why) = fault.Books why
fault_of_making (making.Policy why) = fault.Policy why
fault_of_making making.NotEmpty = fault.NotEmpty
fault_of_making (making.Fault why) = fault_of_store why

abbrev pub fault_of_lists : ListFault → ActionFault
fault_of_lists of_list.Memory = fault.Memory
fault_of_lists (of_list.BadRow file row) = fault.List (of_list.BadRow file row)
