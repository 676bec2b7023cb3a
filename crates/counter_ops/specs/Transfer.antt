-- A transfer: the ranges of its members, and its numbers in the order in which its form names them.
use Rattle.std.specs.Prelude.{◌≢◌, ℤ, pos, List, [], ◌∷◌}
use Rattle.bank_terms.specs.Limits.{max_transfer}
use Rattle.counter_ops.specs.declared.transfer.Transfer.{Transfer}
use Rattle.row_members.specs.Ranges.{IsWithin, IsKey}

pub record IsTransfer (transfer : Transfer) : Type 0 where
  pub source : IsKey transfer.source
  pub target : IsKey transfer.target
  pub teller : IsKey transfer.teller
  pub branch : IsKey transfer.branch
  pub amount : IsWithin 1 max_transfer transfer.amount
  pub two_accounts : transfer.source ≢ transfer.target

abbrev pub transfer_numbers : Transfer → List ℤ
transfer_numbers transfer =
    pos transfer.source ∷ pos transfer.target ∷ pos transfer.teller ∷ pos transfer.branch ∷ pos transfer.amount ∷ []
