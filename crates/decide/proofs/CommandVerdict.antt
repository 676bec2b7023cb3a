-- The first rule against a command of who is known.
use Rattle.std.proofs.Common.{◌≡◌, ℕ, true, not, cond, Option, Some, ap, sym, ◌∙◌}
use Rattle.std.specs.Prelude.{option_and_then}
use Rattle.std.specs.Option.{option_map_or}
use Rattle.bank_policy.specs.HeldRows.{standing}
use Rattle.bank_policy.specs.declared.rows.Standing.{Standing}
use Rattle.bank_terms.specs.declared.rule.Rule.TheVariants as rule
use Rattle.bank_books.specs.WorldLists.{WorldLists}
use Rattle.certify.specs.CommandRows.{command_rows}
use Rattle.certify.specs.Commands.{first_against_command}
use Rattle.certify.specs.declared.command_rows.CommandRows.{CommandRows}
use Rattle.policy_commands.specs.declared.policy_op.PolicyOp.{PolicyOp}
use Rattle.bank_meaning.specs.PolicyRules.{asker, is_identified}
use Rattle.bank_meaning.specs.Requests.{commands, first}
use Rattle.bank_meaning.specs.Sessions.{standing_of_asker}
use Rattle.bank_meaning.specs.declared.who.Who.{Who}

of_known : (w : WorldLists) (who : Who) (command : PolicyOp) → is_identified (standing_of_asker who w) who.session ≡ true
    → first w (commands command who) ≡ first_against_command (command_rows w.policy (asker who) command) (asker who) command
of_known w who command is = ap (λ known. cond (not known) (Some rule.Identity) (first_against_command (command_rows w.policy (asker who) command) (asker who) command)) is

-- by what was read of the user and for the command
pub by_rows : (w : WorldLists) (who : Who) (command : PolicyOp) (user : ℕ) (row : Option Standing) (rows : CommandRows) → who.user ≡ Some user → row ≡ standing w.policy user → is_identified row who.session ≡ true
    → rows ≡ command_rows w.policy user command → first w (commands command who) ≡ first_against_command rows user command
by_rows w who command user row rows named is known read =
    let his : standing_of_asker who w ≡ row = ap (option_and_then (standing w.policy)) named ∙ sym is in
    of_known w who command (ap (λ r. is_identified r who.session) his ∙ known)
    ∙ ap (λ by. first_against_command (command_rows w.policy by command) by command) (ap (λ u. option_map_or (λ n. n) u 0) named)
    ∙ ap (λ r. first_against_command r user command) (sym read)
