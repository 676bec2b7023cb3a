use Rattle.std.proofs.Common.{◌==◌, find}
use Rattle.sqlite.specs.Held.{state}
use Rattle.book_kept.specs.Sheets.{user_no}
use Rattle.sql_policy.proofs.UserLemmas.{selects_user, user_is}
use Rattle.sql_policy.proofs.users.user_of.Goals as goal

pub picked-requires : goal.picked-requires
picked-requires g c = user_is.2

pub returns-clause-found : goal.returns-clause-found
returns-clause-found g c clean s holds =
    c.picked.ensures.found clean (find (λ u. user_no u == c.args.user) s.users) (λ _ _. tt)
    (λ rows shown. selects_user (state g.S.Store c.args.tx.now.conn.now) (state g.S.Store c.picked.new.tx.conn.now) s c.args.user rows holds (rw c.params-to_sql.ensures at shown))
