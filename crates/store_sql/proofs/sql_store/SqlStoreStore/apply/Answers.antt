use Rattle.std.proofs.Common.{IsTrue, OnOk, subst}
use Rattle.bank_books.specs.Version.{has_version_for}
use Rattle.store_sql.proofs.sql_store.SqlStoreStore.apply.Goals as goal

pub returns-clause-room : goal.returns-clause-room
returns-clause-room g c honest w holds = subst (λ rows. OnOk c.write.result (IsTrue (has_version_for rows w.version))) c.deref.ensures.value (c.write.ensures.room honest w holds)
