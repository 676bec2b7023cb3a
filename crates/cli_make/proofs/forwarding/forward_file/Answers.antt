use Rattle.std.proofs.Common.{subst, refl}
use Rattle.cli_make.specs.Reading.{IsYearEnded}
use Rattle.cli_make.proofs.YearLemmas.{closed_year, forwarded, not_opened}
use Rattle.cli_make.proofs.forwarding.forward_file.Goals as goal

pub returns-in-Err : goal.returns-in-Err
returns-in-Err g c =
    not_opened g.A.Disk g.E.Opener.image g.D.Disk g.O.Opener.image c.args.sums c.args.earlier c.args.opener c.in-Err.old c.in-Err.fault c.in-Err.ensures.refused

pub returns-in-Err-next : goal.returns-in-Err-next
returns-in-Err-next g c =
    let ended = c.end_year-conn in
    (refl, (c.in-Ok.conn, c.in-Ok.ensures.opened, subst (IsYearEnded c.in-Ok.conn ended.result.0) c.in-Err-next.is ended.ensures))

pub returns-in-Err-make : goal.returns-in-Err-make
returns-in-Err-make g c =
    let ended = c.end_year-conn in
    let year = subst (IsYearEnded c.in-Ok.conn ended.result.0) c.in-Ok-next.is ended.ensures in
    let closed = closed_year g.A.Disk g.E.Opener.image g.D.Disk g.O.Opener.image ended.result.0 c.in-Ok.conn c.in-Ok.ensures.opened c.in-Ok-next.world year in
    (c.in-Err-make.ensures.refused, (closed.0, closed.1))

pub returns : goal.returns
returns g c =
    let ended = c.end_year-conn in
    let year = subst (IsYearEnded c.in-Ok.conn ended.result.0) c.in-Ok-next.is ended.ensures in
    let closed = closed_year g.A.Disk g.E.Opener.image g.D.Disk g.O.Opener.image ended.result.0 c.in-Ok.conn c.in-Ok.ensures.opened c.in-Ok-next.world year in
    forwarded g.A.Disk g.E.Opener.image g.D.Disk g.O.Opener.image ended.result.0 closed.0 closed.1
    c.in-Ok-next.world closed.2 c.in-Ok-make.conn c.in-Ok-make.ensures.opened c.args.sums c.in-Ok-make.ensures.sums c.make_in-left.result.0 c.make_in-left.result.1 c.make_in-left.ensures
