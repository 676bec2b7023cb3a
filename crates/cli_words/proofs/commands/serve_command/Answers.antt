-- The command with its arguments, one after the other.
use Rattle.std.proofs.Common.{refl}
use Rattle.std.proofs.lemmas.Result.{IfOk-weaker}
use Rattle.cli_words.proofs.CommandLemmas.{added, begun}
use Rattle.cli_words.proofs.commands.serve_command.Goals as goal

pub returns : goal.returns
returns c =
    let zero = begun _ _ _ _ c.about.ensures refl refl c.new.ensures.app c.new.ensures.local in
    let one = added _ _ _ _ _ zero c.bank_file.ensures.rule c.bank_file.ensures.local c.in_ok-arg.ensures in
    let two = added _ _ _ _ _ one c.badges.ensures.rule c.badges.ensures.local c.in_ok-arg-2.ensures in
    let three = added _ _ _ _ _ two c.port.ensures.rule c.port.ensures.local c.in_ok-arg-3.ensures in
    record {
      app = IfOk-weaker c.arg-4.result _ _ (λ r h. (added _ _ r _ _ three c.requests.ensures.rule c.requests.ensures.local h).reads) c.arg-4.ensures;
      local = IfOk-weaker c.arg-4.result _ _ (λ r h. (added _ _ r _ _ three c.requests.ensures.rule c.requests.ensures.local h).local) c.arg-4.ensures;
    }
