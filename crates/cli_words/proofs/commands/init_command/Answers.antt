-- The command with its arguments, one after the other.
use Rattle.std.proofs.Common.{◌∙◌, ap, refl}
use Rattle.std.proofs.lemmas.Result.{IfOk-weaker}
use Rattle.clap.specs.Words.{rule_of}
use Rattle.clap.specs.declared.builder.arg.Arg.{Arg}
use Rattle.cli_words.proofs.CommandLemmas.{added, begun}
use Rattle.cli_words.proofs.commands.init_command.Goals as goal

pub returns : goal.returns
returns c =
    let zero = begun _ _ _ _ c.about.ensures refl refl c.new.ensures.app c.new.ensures.local in
    let one = added _ _ _ _ _ zero (ap rule_of c.help-file.ensures ∙ c.word.ensures.rule) (ap (λ (a : Arg). a.global) c.help-file.ensures ∙ c.word.ensures.local) c.in_ok-arg.ensures in
    let two = added _ _ _ _ _ one (ap rule_of c.help-dir.ensures ∙ c.word-2.ensures.rule) (ap (λ (a : Arg). a.global) c.help-dir.ensures ∙ c.word-2.ensures.local) c.in_ok-arg-2.ensures in
    record {
      app = IfOk-weaker c.arg-3.result _ _ (λ r h. (added _ _ r _ _ two c.sums.ensures.rule c.sums.ensures.local h).reads) c.arg-3.ensures;
      local = IfOk-weaker c.arg-3.result _ _ (λ r h. (added _ _ r _ _ two c.sums.ensures.rule c.sums.ensures.local h).local) c.arg-3.ensures;
    }
