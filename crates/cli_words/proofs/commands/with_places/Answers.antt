-- The command with its arguments, one after the other.
use Rattle.std.proofs.Common.{refl}
use Rattle.std.proofs.lemmas.Result.{IfOk-weaker}
use Rattle.cli_words.proofs.CommandLemmas.{shaped, stays_local}
use Rattle.cli_words.proofs.commands.with_places.Goals as goal

pub returns : goal.returns
returns c =
    let one = shaped _ _ _ _ _ refl c.port_if_given.ensures.rule c.port_if_given.ensures.local c.in_ok-arg.ensures in
    let two = shaped _ _ _ _ _ one c.socket_if_given.ensures.rule c.socket_if_given.ensures.local c.in_ok-arg-2.ensures in
    record {
      app = IfOk-weaker c.arg-3.result _ _ (λ r h. shaped _ _ r _ _ two c.inherited.ensures.rule c.inherited.ensures.local h) c.arg-3.ensures;
      local = λ local. IfOk-weaker c.arg-3.result _ _ (λ r h. stays_local _ _ r
          (stays_local _ _ _ (stays_local _ _ _ local c.port_if_given.ensures.local c.in_ok-arg.ensures) c.socket_if_given.ensures.local c.in_ok-arg-2.ensures)
          c.inherited.ensures.local h) c.arg-3.ensures;
    }
