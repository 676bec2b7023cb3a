use Rattle.std.specs.Prelude.{⊤}
use Rattle.sqlite.specs.Held.{state}
use Rattle.bank_books.specs.declared.row_write.RowWrite.TheVariants as write
use Rattle.book_kept.specs.Changes.{used_sheets}
use Rattle.book_kept.proofs.PlainKept.{used_is_kept}
use Rattle.sql_writes.proofs.KeptLemmas.{moves_kept, says_nothing}
use Rattle.sql_writes.proofs.book_writes.write_used.Goals as goal

pub returns-clause-moves : goal.returns-clause-moves
returns-clause-moves g c =
    let k = c.args.key.now in
    moves_kept (state g.S.Store c.args.tx.now.conn.now) (state g.S.Store c.use_up.new.tx.conn.now) (write.Used k) (used_sheets k) (λ s. ⊤) c.use_up.result
    (λ w can _. used_is_kept w k can) c.use_up.ensures.step.steps (says_nothing (state g.S.Store c.args.tx.now.conn.now) (state g.S.Store c.use_up.new.tx.conn.now) c.use_up.result)
