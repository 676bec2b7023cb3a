-- What holds of every command that no rule denies.
use Rattle.std.specs.Prelude.{◌≡◌, ℕ, ◌<◌, None}
use Rattle.bank_terms.specs.Limits.{max_version}
use Rattle.bank_books.specs.Books.{Books}
use Rattle.bank_books.specs.Range.{IsUser}
use Rattle.bank_books.specs.WorldLists.{WorldLists}
use Rattle.policy_check.specs.Separation.{Separated}
use Rattle.policy_check.specs.Soundness.{IsPolicySound}
use Rattle.policy_commands.specs.Ranges.{IsPolicyOp}
use Rattle.policy_commands.specs.declared.policy_op.PolicyOp.{PolicyOp}
use Rattle.certify.specs.CommandRows.{command_rows}
use Rattle.certify.specs.Commands.{commanded, first_against_command}

-- of a policy without dangling rows it makes one without
abbrev pub CommandKeepsSoundness : Type 0
CommandKeepsSoundness = (w : WorldLists) (by : ℕ) (command : PolicyOp) → IsPolicySound w.policy → IsUser w.policy.users by → IsPolicyOp command
    → first_against_command (command_rows w.policy by command) by command ≡ None → IsPolicySound (commanded w by command).policy

-- who certifies what still executes none of it
abbrev pub CommandKeepsSeparation : Type 0
CommandKeepsSeparation = (w : WorldLists) (by : ℕ) (command : PolicyOp) → IsPolicySound w.policy → Separated w.policy
    → first_against_command (command_rows w.policy by command) by command ≡ None → Separated (commanded w by command).policy

-- And the books hold, whatever the rules say of it, where its version has room: of the policy they name users alone, and those who were there are.
abbrev pub CommandKeepsBooks : Type 0
CommandKeepsBooks = (w : WorldLists) (by : ℕ) (command : PolicyOp) → Books w → w.version < max_version → Books (commanded w by command)
