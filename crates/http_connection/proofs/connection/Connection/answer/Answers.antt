-- By its step.
use Rattle.std.proofs.Common.{◌∙◌, ap, sym}
use Rattle.http_connection.specs.Connection.{closes_by}
use Rattle.http_connection.proofs.connection.Connection.answer.Goals as goal

pub returns-clause-answered : goal.returns-clause-answered
returns-clause-answered g c =
    record { step = c.step.result; is = c.step.ensures.step; so = c.progress_of.ensures; closing = c.step.ensures.closing ∙ ap closes_by (sym c.progress_of.ensures) }
