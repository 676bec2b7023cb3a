use Rattle.sqlite.specs.Held.{state}
use Rattle.bank_books.specs.Keys.{proof_key}
use Rattle.bank_books.specs.declared.row_write.RowWrite.TheVariants as write
use Rattle.book_kept.specs.Changes.{proof_sheets}
use Rattle.book_kept.specs.Named.{IsFree}
use Rattle.book_kept.proofs.PlainKept.{proof_is_kept}
use Rattle.sql_writes.proofs.KeptLemmas.{moves_kept}
use Rattle.sql_writes.proofs.book_writes.write_proof.Goals as goal

pub returns-clause-moves : goal.returns-clause-moves
returns-clause-moves g c =
    let p = c.args.proof.now in
    moves_kept (state g.S.Store c.args.tx.now.conn.now) (state g.S.Store c.add_proof.new.tx.conn.now) (write.Proof p) (proof_sheets p) (λ s. IsFree proof_key s.proofs (proof_key p)) c.add_proof.result
    (λ w can free. proof_is_kept w p can free) c.add_proof.ensures.step.steps c.add_proof.ensures.free
