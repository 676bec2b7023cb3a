use Rattle.std.specs.Str.Parse.{ParsesUnsigned, ExplainsUnsignedError, HasUnsignedDigitsIfOk}
use Rattle.cli_words.proofs.Matched.{number_given, number_missing}
use Rattle.cli_words.proofs.words.number_of.Goals as goal

pub returns-clause-given : goal.returns-clause-given
returns-clause-given c = number_given (λ bs r. ParsesUnsigned 64 10 bs r × ExplainsUnsignedError 10 bs r × HasUnsignedDigitsIfOk bs r) (λ t r g. g.0)
    c.args.found.now c.args.id.now c.get_one.result c.get_one.ensures.none c.get_one.ensures.value

pub returns-clause-missing : goal.returns-clause-missing
returns-clause-missing c = number_missing (λ bs r. ParsesUnsigned 64 10 bs r × ExplainsUnsignedError 10 bs r × HasUnsignedDigitsIfOk bs r) (λ t r g. g.0)
    c.args.found.now c.args.id.now c.get_one.result c.get_one.ensures.value
