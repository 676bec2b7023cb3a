-- The program with its commands, one after the other.
use Rattle.std.proofs.Common.{◌≡◌, ◌∙◌, ap}
use Rattle.std.proofs.lemmas.Result.{IfOk-weaker}
use Rattle.clap.specs.Words.{App, with_subcommand}
use Rattle.cli_words.specs.Commands.{check_app, counter_app, forward_app, init_app, run_app, sample_app, serve_app, upgrade_app}
use Rattle.cli_words.proofs.CommandLemmas.{both}
use Rattle.cli_words.proofs.commands.bank_command.Goals as goal

-- to equal commands the same one is added
then_app : (sub one two : App) → one ≡ two → with_subcommand one sub.top ≡ with_subcommand two sub.top
then_app sub one two same = ap (λ (a : App). with_subcommand a sub.top) same

pub returns : goal.returns
returns c =
    let one = c.in_ok-command.ensures sample_app (both _ _ _ c.sample_command.ensures.app c.sample_command.ensures.local) ∙ then_app sample_app _ _ c.in_ok-top_command.ensures in
    let two = c.in_ok-command-2.ensures init_app (both _ _ _ c.init_command.ensures.app c.init_command.ensures.local) ∙ then_app init_app _ _ one in
    let three = c.in_ok-command-3.ensures check_app (both _ _ _ c.check_command.ensures.app c.check_command.ensures.local) ∙ then_app check_app _ _ two in
    let four = c.in_ok-command-4.ensures upgrade_app (both _ _ _ c.upgrade_command.ensures.app c.upgrade_command.ensures.local) ∙ then_app upgrade_app _ _ three in
    let five = c.in_ok-command-5.ensures forward_app (both _ _ _ c.forward_command.ensures.app c.forward_command.ensures.local) ∙ then_app forward_app _ _ four in
    let six = c.in_ok-command-6.ensures run_app (both _ _ _ c.run_command.ensures.app c.run_command.ensures.local) ∙ then_app run_app _ _ five in
    let seven = c.in_ok-command-7.ensures serve_app (both _ _ _ c.serve_command.ensures.app c.serve_command.ensures.local) ∙ then_app serve_app _ _ six in
    IfOk-weaker c.with_command-8.result _ _ (λ r h. h ∙ then_app counter_app _ _ seven)
    (c.with_command-8.ensures counter_app (both _ _ _ c.counter_command.ensures.app c.counter_command.ensures.local))
