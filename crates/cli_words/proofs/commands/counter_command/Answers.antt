-- The command with its arguments, one after the other.
use Rattle.std.proofs.Common.{refl}
use Rattle.std.proofs.lemmas.Result.{IfOk-weaker}
use Rattle.cli_words.proofs.CommandLemmas.{added, begun, placed}
use Rattle.cli_words.proofs.commands.counter_command.Goals as goal

pub returns : goal.returns
returns c =
    let zero = begun _ _ _ _ c.about.ensures refl refl c.new.ensures.app c.new.ensures.local in
    let one = added _ _ _ _ _ zero c.bank_file.ensures.rule c.bank_file.ensures.local c.in_ok-arg.ensures in
    let two = added _ _ _ _ _ one c.badges.ensures.rule c.badges.ensures.local c.in_ok-command.ensures in
    let three = placed c.in_ok-command.command c.in_ok-placed.placed _ two c.in_ok-placed.ensures.app c.in_ok-placed.ensures.local in
    record {
      app = IfOk-weaker c.arg-3.result _ _ (λ r h. (added c.in_ok-placed.placed c.until_input_ends.result r _ _ three c.until_input_ends.ensures.rule c.until_input_ends.ensures.local h).reads) c.arg-3.ensures;
      local = IfOk-weaker c.arg-3.result _ _ (λ r h. (added c.in_ok-placed.placed c.until_input_ends.result r _ _ three c.until_input_ends.ensures.rule c.until_input_ends.ensures.local h).local) c.arg-3.ensures;
    }
