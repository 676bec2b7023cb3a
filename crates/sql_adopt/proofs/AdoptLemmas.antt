-- That tables which were read whole hold the World that their rows are of.
use Rattle.std.proofs.Common.{◌≡◌, ◌∙◌, ℕ, List, ap, sym, subst}
use Rattle.std.specs.Prelude.{IfOk, IsTrue, OnOk, Result, Ok, Err}
use Rattle.sqlite.specs.Effect.{Database, IsDatabase}
use Rattle.sqlite.specs.State.{State}
use Rattle.sqlite.specs.Tree.{Trees}
use Rattle.sql_schema.specs.Held.{AreOfWorld, HoldsSheetsIn, HoldsSlipCountsIn, HoldsSlipsIn, HoldsWorld, HoldsWorldIn, IsIn, Sheet, tree_of}
use Rattle.sql_schema.specs.Held.Sheet.{accounts as in_accounts, bank as in_bank, branches as in_branches, certifiers as in_certifiers, entries as in_entries, lines as in_lines, members as in_members, proofs as in_proofs, relations as in_relations, releases as in_releases, sets as in_sets, slip_counts as in_slip_counts, slips as in_slips, tellers as in_tellers, triples as in_triples, users as in_users}
use Rattle.sql_schema.specs.Schema.{newest, schema_of}
use Rattle.sql_schema.specs.declared.edition.Edition.{Edition}
use Rattle.sql_schema.specs.declared.edition.Edition.TheVariants.{First, Second, Third}
use Rattle.sql_schema.proofs.WorldLemmas.{world_in}
use Rattle.bank_books.specs.Keys.{slip_key}
use Rattle.bank_books.specs.Records.{KeptLists}
use Rattle.bank_books.specs.SlipRow.{SlipRow}
use Rattle.bank_books.specs.WorldLists.{WorldLists}
use Rattle.book_kept.specs.Keepable.{IsOrdered}
use Rattle.book_kept.specs.Laws.{AreSheetsOrdered}
use Rattle.book_kept.specs.Sheets.{Sheets, slip_no}
use Rattle.book_kept.proofs.SheetsDetermine.{sheets_are_ordered}
use Rattle.store_sql.proofs.WorldLemmas.{same_world, same_world_in}
use Rattle.sql_whole.specs.BookRows.{AreBookRows}
use Rattle.sql_whole.specs.PolicyTables.{ArePolicyTables}
use Rattle.sql_whole.specs.Tables.{AreSlipCounts, AreSlips}
use Rattle.sql_whole.specs.Whole.{IsKeptTable}
use Rattle.sql_whole.specs.declared.book_rows.BookRows.{BookRows}
use Rattle.sql_whole.specs.declared.policy_tables.PolicyTables.{PolicyTables}
use Rattle.sql_adopt.specs.Adopted.{Adopts, Finds, IsBankFile, IsBankRow, IsLeft}
use Rattle.sql_adopt.specs.ReadBack.{AreBankOf, sheets_read}
use Rattle.sql_adopt.specs.declared.bank_rows.BankRows.{BankRows}

held_slips : (e : Edition) (db : Trees) (rows : List SlipRow) → AreSlips e db rows → IsOrdered slip_key rows → (IsIn e in_slips → IsKeptTable (db 25)) → HoldsSlipsIn e rows (db 25)
held_slips First db rows are ordered kept = are
held_slips Second db rows are ordered kept = are
held_slips Third db rows are ordered kept = record { same = are.same; ordered = ordered; fit = are.fit; shaped = (kept tt).shaped }

held_counts : (e : Edition) (db : Trees) (s : Sheets) → AreSlipCounts e s.users db s.slip_counts → IsOrdered slip_no s.slip_counts → (IsIn e in_slip_counts → IsKeptTable (db 27)) → HoldsSlipCountsIn e s (db 27)
held_counts First db s are ordered kept = are
held_counts Second db s are ordered kept = are
held_counts Third db s are ordered kept = record { same = are.same; ordered = ordered; fit = are.fit; shaped = (kept tt).shaped }

module _ (e : Edition) (db : Trees) (books : BookRows) (tables : PolicyTables) (version : ℕ) (row : IsBankRow e db version) (b : AreBookRows e db books) (p : ArePolicyTables e db tables)
    (kept : (t : Sheet) → IsIn e t → IsKeptTable (db (tree_of t))) (o : AreSheetsOrdered (sheets_read books tables version)) where
  held_sheets : HoldsSheetsIn e db (sheets_read books tables version)
  held_sheets in_bank = row
  held_sheets in_users = record { same = b.users.users.same; ordered = o.users; fit = b.users.users.fit; shaped = (kept in_users tt).shaped }
  held_sheets in_sets = record { same = p.sets.sets.same; ordered = o.sets; fit = p.sets.sets.fit; shaped = (kept in_sets tt).shaped }
  held_sheets in_members = record { same = p.sets.members.same; ordered = o.members; fit = p.sets.members.fit; shaped = (kept in_members tt).shaped }
  held_sheets in_relations = record { same = p.grants.relations.same; ordered = o.relations; fit = p.grants.relations.fit; shaped = (kept in_relations tt).shaped }
  held_sheets in_triples = record { same = p.grants.triples.same; ordered = o.triples; fit = p.grants.triples.fit; shaped = (kept in_triples tt).shaped }
  held_sheets in_certifiers = record { same = p.grants.certifiers.same; ordered = o.certifiers; fit = p.grants.certifiers.fit; shaped = (kept in_certifiers tt).shaped }
  held_sheets in_branches = record { same = b.ledger.branches.same; ordered = o.branches; fit = b.ledger.branches.fit; shaped = (kept in_branches tt).shaped }
  held_sheets in_tellers = record { same = b.ledger.tellers.same; ordered = o.tellers; fit = b.ledger.tellers.fit; shaped = (kept in_tellers tt).shaped }
  held_sheets in_accounts = record { same = b.ledger.accounts.same; ordered = o.accounts; fit = b.ledger.accounts.fit; shaped = (kept in_accounts tt).shaped }
  held_sheets in_entries = record { same = b.history.entries.same; ordered = o.entries; fit = b.history.entries.fit; shaped = (kept in_entries tt).shaped }
  held_sheets in_lines = record { same = b.history.lines.same; ordered = o.lines; fit = b.history.lines.fit; shaped = (kept in_lines tt).shaped }
  held_sheets in_proofs = record { same = b.history.proofs.same; ordered = o.proofs; fit = b.history.proofs.fit; shaped = (kept in_proofs tt).shaped }
  held_sheets in_releases = record { same = b.users.releases.same; ordered = o.releases; fit = b.users.releases.fit; shaped = (kept in_releases tt).shaped }
  held_sheets in_slips = held_slips e db books.slips.slips.items b.slips.slips o.slips (kept in_slips)
  held_sheets in_slip_counts = held_counts e db (sheets_read books tables version) b.slips.counts o.slip_counts (kept in_slip_counts)

-- what stands in tables whose rows were read and judged
pub found_bank : (e : Edition) (db : Database) (books : BookRows) (tables : PolicyTables) (version : ℕ) (w : WorldLists) (numbers : KeptLists) → db.schema ≡ schema_of e
    → ((t : Sheet) → IsIn e t → IsKeptTable (db.trees (tree_of t))) → IsDatabase db → IsBankRow e db.trees version → AreBookRows e db.trees books → ArePolicyTables e db.trees tables
    → AreBankOf (sheets_read books tables version) w numbers → Finds e db w
found_bank e db books tables version w numbers schema kept sound row are_books are_tables bank =
    let ordered = subst AreSheetsOrdered bank.sheets (sheets_are_ordered w bank.keepable) in
    let rows = subst (HoldsSheetsIn e db.trees) (sym bank.sheets) (held_sheets e db.trees books tables version row are_books are_tables kept ordered) in
    let held : HoldsWorldIn e db w = world_in e db w bank.keepable schema sound rows in
    record { books = bank.books; policy = bank.policy; held = held; only = λ other has. same_world_in e other w db.trees has.world held.world }

pub adopted : (old new : State) (w : WorldLists) → IsBankFile old → Finds newest old.now w → IsLeft old new → ((trees : Trees) → new.may_leave trees → trees ≡ old.committed.trees) → Adopts old new
adopted old new w file found left settled =
    let durable : (trees : Trees) → new.may_leave trees → AreOfWorld w trees =
    λ trees may. subst (AreOfWorld w) (sym (settled trees may ∙ ap (λ (d : Database). d.trees) file.settled)) found.held.world in
    record {
      world = w;
      books = found.books;
      policy = found.policy;
      held = found.held;
      only = found.only;
      durable = durable;
      alone = λ left (trees, may, of). same_world left w trees of (durable trees may);
      holds = λ is_open. record { now = subst (λ (d : Database). HoldsWorld d w) (sym (left.now is_open)) found.held; settled = left.settled is_open };
    }

-- the same of a reading that may be refused
pub adopted_if : {E : Type 0} (old new : State) (r : Result BankRows E) → IsBankFile old → IfOk r (λ bank. Finds newest old.now bank.world) → IsLeft old new → OnOk r (IsTrue old.is_open)
    → (IsTrue old.is_open → (trees : Trees) → new.may_leave trees → trees ≡ old.committed.trees) → OnOk r (Adopts old new)
adopted_if old new (Ok bank) file found left is_open settled = adopted old new bank.world file found left (settled is_open)
adopted_if old new (Err e) file found left is_open settled = tt
