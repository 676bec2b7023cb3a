use Rattle.cli_words.proofs.Matched.{text_is}
use Rattle.cli_words.proofs.words.text_of.Goals as goal

pub returns : goal.returns
returns c = text_is c.args.found.now c.args.id.now _ c.get_str.ensures
