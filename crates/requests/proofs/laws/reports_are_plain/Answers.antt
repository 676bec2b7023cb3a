use Rattle.requests.proofs.PlainReports.{reports_are_plain}
use Rattle.requests.proofs.laws.reports_are_plain.Goals as goal

pub returns : goal.returns
returns c = reports_are_plain
