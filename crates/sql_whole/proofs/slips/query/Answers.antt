use Rattle.std.proofs.Common.{subst, sym}
use Rattle.sql_whole.specs.Texts.{all_slips_text}
use Rattle.sql_whole.specs.Whole.{IsAnswered}
use Rattle.sql_whole.proofs.HistoryWhole.{tells_slips}
use Rattle.sql_whole.proofs.slips.query.Goals as goal

pub returns-in-Third : goal.returns-in-Third
returns-in-Third c = subst (λ e. IsAnswered e all_slips_text) (sym c.in-Third.is) tells_slips.asks
