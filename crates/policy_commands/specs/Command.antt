-- The names of the commands.
use Rattle.std.specs.Prelude.{ℕ, List, [], ◌∷◌, Option, codes}
use Rattle.std.specs.List.{find}
use Rattle.std.specs.Str.{bytes_eq}
use Rattle.policy_commands.specs.declared.command.Command.{Command}
use Rattle.policy_commands.specs.declared.command.Command.TheVariants.{DefineSet, Certify, Withdraw, Grant, Revoke, Appoint, Dismiss, Enrol, Suspend, Restore}

-- as the paths of requests and the replies write it
abbrev pub name_of : Command → List ℕ
name_of DefineSet = codes "define-set"
name_of Certify = codes "certify"
name_of Withdraw = codes "withdraw"
name_of Grant = codes "grant"
name_of Revoke = codes "revoke"
name_of Appoint = codes "appoint"
name_of Dismiss = codes "dismiss"
name_of Enrol = codes "enrol"
name_of Suspend = codes "suspend"
name_of Restore = codes "restore"

-- all of them: those that certifiers ask for, then those that officers do
abbrev pub commands : List Command
commands = DefineSet ∷ Certify ∷ Withdraw ∷ Grant ∷ Revoke ∷ Appoint ∷ Dismiss ∷ Enrol ∷ Suspend ∷ Restore ∷ []

-- the command of that name
abbrev pub command_named : List ℕ → Option Command
command_named name = find (λ command. bytes_eq name (name_of command)) commands
