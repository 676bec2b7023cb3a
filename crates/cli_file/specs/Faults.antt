-- Why an action is not carried out, by what was refused below it.
use Rattle.std.specs.Prelude.{◌≡◌, ℕ, Bool, List, true, false, ⊤}
use Rattle.money.specs.declared.fault.Fault.{Fault}
use Rattle.money.specs.declared.fault.Fault.TheVariants as store
use Rattle.sql_adopt.specs.declared.adopt_fault.AdoptFault.{AdoptFault}
use Rattle.sql_adopt.specs.declared.adopt_fault.AdoptFault.TheVariants as adopting
use Rattle.list_records.specs.declared.fault.RecordFault.{RecordFault}
use Rattle.list_records.specs.declared.fault.RecordFault.TheVariants as of_record
use Rattle.cli_file.specs.declared.fault.ActionFault.{ActionFault}
use Rattle.cli_file.specs.declared.fault.ActionFault.TheVariants as fault

-- want of memory is reported as such, and every other fault of a store as one of the file
abbrev pub fault_of_store : Fault → ActionFault
fault_of_store store.Memory = fault.Memory
fault_of_store store.Size = fault.NotRead
fault_of_store store.Disk = fault.NotRead
fault_of_store store.Stopped = fault.NotRead

abbrev pub fault_of_adopting : AdoptFault → ActionFault
fault_of_adopting adopting.NotABank = fault.NotABank
fault_of_adopting adopting.Version = fault.OtherVersion
fault_of_adopting (adopting.Books why) = fault.Books why
fault_of_adopting (adopting.Policy why) = fault.Policy why
fault_of_adopting (adopting.Fault why) = fault_of_store why

-- the record of this number is bad in the list of this name
abbrev pub IsBadBadge : List ℕ → ℕ → ActionFault → Type 0
IsBadBadge list number (fault.Badge named row) = (named.now ≡ list) × (row ≡ number)
IsBadBadge list number _ = ⊥

abbrev pub IsOfBadges : List ℕ → RecordFault → ActionFault → Type 0
IsOfBadges list of_record.Memory stated = stated ≡ fault.Memory
IsOfBadges list (of_record.Bad row) stated = IsBadBadge list row stated

-- the file failed, or memory was refused
abbrev pub IsOfFile : ActionFault → Type 0
IsOfFile fault.NotRead = ⊤
IsOfFile fault.Memory = ⊤
IsOfFile _ = ⊥

-- the same, or the file has no bytes
abbrev pub IsUnopened : ActionFault → Type 0
IsUnopened fault.NotABank = ⊤
IsUnopened stated = IsOfFile stated

-- lists, books or a policy that were handed in are refused, or a year that is not closed
abbrev pub is_refusal : ActionFault → Bool
is_refusal (fault.List why) = true
is_refusal (fault.Badge list row) = true
is_refusal (fault.Books why) = true
is_refusal (fault.Policy why) = true
is_refusal (fault.NotClosed branch) = true
is_refusal _ = false
