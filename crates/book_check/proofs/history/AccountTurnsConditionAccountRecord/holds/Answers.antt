use Rattle.book_check.proofs.history.AccountTurnsConditionAccountRecord.holds.Goals as goal

pub is_in_turns-requires : goal.is_in_turns-requires
is_in_turns-requires c = c.args.self.now.beside c.args.row.now.row.account
