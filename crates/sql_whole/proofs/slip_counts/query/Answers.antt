use Rattle.std.proofs.Common.{subst, sym}
use Rattle.sql_whole.specs.Texts.{all_slip_counts_text}
use Rattle.sql_whole.specs.Whole.{IsAnswered}
use Rattle.sql_whole.proofs.HistoryWhole.{tells_slip_counts}
use Rattle.sql_whole.proofs.slip_counts.query.Goals as goal

pub returns-in-Third : goal.returns-in-Third
returns-in-Third c = subst (λ e. IsAnswered e all_slip_counts_text) (sym c.in-Third.is) tells_slip_counts.asks
