-- The command with its arguments, one after the other.
use Rattle.std.proofs.Common.{◌∙◌, ap, refl}
use Rattle.std.proofs.lemmas.Result.{IfOk-weaker}
use Rattle.clap.specs.Words.{rule_of}
use Rattle.clap.specs.declared.builder.arg.Arg.{Arg}
use Rattle.cli_words.proofs.CommandLemmas.{added, begun}
use Rattle.cli_words.proofs.commands.upgrade_command.Goals as goal

pub returns : goal.returns
returns c =
    let zero = begun _ _ _ _ c.about.ensures refl refl c.new.ensures.app c.new.ensures.local in
    record {
      app = IfOk-weaker c.arg.result _ _ (λ r h. (added _ _ r _ _ zero (ap rule_of c.help-file.ensures ∙ c.word.ensures.rule) (ap (λ (a : Arg). a.global) c.help-file.ensures ∙ c.word.ensures.local) h).reads) c.arg.ensures;
      local = IfOk-weaker c.arg.result _ _ (λ r h. (added _ _ r _ _ zero (ap rule_of c.help-file.ensures ∙ c.word.ensures.rule) (ap (λ (a : Arg). a.global) c.help-file.ensures ∙ c.word.ensures.local) h).local) c.arg.ensures;
    }
