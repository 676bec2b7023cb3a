-- A correction: the ranges of its members, and its numbers in the order in which its form names them.
use Rattle.std.specs.Prelude.{◌≢◌, ℤ, pos, List, [], ◌∷◌}
use Rattle.money.specs.Range.{IsDelta}
use Rattle.counter_ops.specs.declared.correct.Correct.{Correct}
use Rattle.row_members.specs.Ranges.{IsKey, IsKeyOrZero}

pub record IsCorrect (correct : Correct) : Type 0 where
  pub branch : IsKey correct.branch
  pub entry : IsKey correct.entry
  pub account : IsKey correct.account
  pub other : IsKeyOrZero correct.other
  pub teller : IsKey correct.teller
  pub delta : IsDelta correct.delta
  pub two_accounts : correct.account ≢ correct.other

abbrev pub correct_numbers : Correct → List ℤ
correct_numbers correct =
    pos correct.branch
    ∷ pos correct.entry
    ∷ pos correct.account
    ∷ pos correct.other
    ∷ pos correct.teller
    ∷ correct.delta
    ∷ []
