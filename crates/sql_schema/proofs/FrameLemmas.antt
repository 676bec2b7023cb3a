-- A write of one table leaves the others.
use Rattle.std.proofs.Common.{◌≡◌, ◌≢◌, ℕ, List, sym, subst, arith}
use Rattle.std.specs.List.{AllByRecursion}
use Rattle.sqlite.specs.Table.{Table}
use Rattle.sqlite.specs.Tree.{Trees}
use Rattle.bank_policy.specs.declared.rows.Certifier.{Certifier}
use Rattle.bank_policy.specs.declared.rows.Relation.{Relation}
use Rattle.bank_policy.specs.declared.rows.Triple.{Triple}
use Rattle.bank_books.specs.declared.records.AccountRecord.{AccountRecord}
use Rattle.bank_books.specs.declared.records.BranchRecord.{BranchRecord}
use Rattle.bank_books.specs.declared.records.EntryRecord.{EntryRecord}
use Rattle.bank_books.specs.declared.rows.CashLine.{CashLine}
use Rattle.bank_books.specs.declared.rows.Proof.{Proof}
use Rattle.bank_books.specs.SlipRow.{SlipRow}
use Rattle.bank_books.specs.declared.rows.Release.{Release}
use Rattle.book_kept.specs.Sheets.{Sheets}
use Rattle.book_kept.specs.declared.records.KeptTeller.{KeptTeller}
use Rattle.book_kept.specs.declared.records.KeptUser.{KeptUser}
use Rattle.book_kept.specs.declared.records.MemberRow.{MemberRow}
use Rattle.book_kept.specs.declared.records.SlipCount.{SlipCount}
use Rattle.sql_schema.specs.Held.{HoldsSheet, HoldsSheets, Sheet, tree_of}
use Rattle.sql_schema.specs.Held.Sheet.{accounts, bank, branches, certifiers, entries, lines, members, proofs, relations, releases, sets, slip_counts, slips, tellers, triples, users}
use Rattle.sql_schema.specs.Schema.{bank_schema}

-- every table but that of this tree is as it was
abbrev pub KeepsOthers : ℕ → Trees → Trees → Type 0
KeepsOthers tree old new = AllByRecursion (λ (t : Table). t.tree ≢ tree → new t.tree ≡ old t.tree) bank_schema.tables

pub others : (k : ℕ) (old new : Trees) → KeepsOthers k old new → (t : Sheet) → tree_of t ≢ k → new (tree_of t) ≡ old (tree_of t)
others k old new h bank apart = h.0 apart
others k old new h users apart = h.1.0 apart
others k old new h sets apart = h.1.1.0 apart
others k old new h members apart = h.1.1.1.0 apart
others k old new h relations apart = h.1.1.1.1.0 apart
others k old new h triples apart = h.1.1.1.1.1.0 apart
others k old new h certifiers apart = h.1.1.1.1.1.1.0 apart
others k old new h branches apart = h.1.1.1.1.1.1.1.0 apart
others k old new h tellers apart = h.1.1.1.1.1.1.1.1.0 apart
others k old new h accounts apart = h.1.1.1.1.1.1.1.1.1.0 apart
others k old new h entries apart = h.1.1.1.1.1.1.1.1.1.1.0 apart
others k old new h lines apart = h.1.1.1.1.1.1.1.1.1.1.1.0 apart
others k old new h proofs apart = h.1.1.1.1.1.1.1.1.1.1.1.1.0 apart
others k old new h releases apart = h.1.1.1.1.1.1.1.1.1.1.1.1.1.0 apart
others k old new h slips apart = h.1.1.1.1.1.1.1.1.1.1.1.1.1.1.0 apart
others k old new h slip_counts apart = h.1.1.1.1.1.1.1.1.1.1.1.1.1.1.1.0 apart

pub with_users : (old new : Trees) (s : Sheets) (rows : List KeptUser) → HoldsSheets old s → KeepsOthers 1 old new → HoldsSheet users (record s { users = rows }) (new 1) → HoldsSheets new (record s { users = rows })
with_users old new s rows holds kept now users = now
with_users old new s rows holds kept now t = subst (HoldsSheet t s) (sym (others 1 old new kept t (λ e. omega (arith, e)))) (holds t)

pub with_sets : (old new : Trees) (s : Sheets) (rows : List ℕ) → HoldsSheets old s → KeepsOthers 2 old new → HoldsSheet sets (record s { sets = rows }) (new 2) → HoldsSheets new (record s { sets = rows })
with_sets old new s rows holds kept now sets = now
with_sets old new s rows holds kept now t = subst (HoldsSheet t s) (sym (others 2 old new kept t (λ e. omega (arith, e)))) (holds t)

pub with_members : (old new : Trees) (s : Sheets) (rows : List MemberRow) → HoldsSheets old s → KeepsOthers 3 old new → HoldsSheet members (record s { members = rows }) (new 3) → HoldsSheets new (record s { members = rows })
with_members old new s rows holds kept now members = now
with_members old new s rows holds kept now t = subst (HoldsSheet t s) (sym (others 3 old new kept t (λ e. omega (arith, e)))) (holds t)

pub with_relations : (old new : Trees) (s : Sheets) (rows : List Relation) → HoldsSheets old s → KeepsOthers 5 old new → HoldsSheet relations (record s { relations = rows }) (new 5) → HoldsSheets new (record s { relations = rows })
with_relations old new s rows holds kept now relations = now
with_relations old new s rows holds kept now t = subst (HoldsSheet t s) (sym (others 5 old new kept t (λ e. omega (arith, e)))) (holds t)

pub with_triples : (old new : Trees) (s : Sheets) (rows : List Triple) → HoldsSheets old s → KeepsOthers 7 old new → HoldsSheet triples (record s { triples = rows }) (new 7) → HoldsSheets new (record s { triples = rows })
with_triples old new s rows holds kept now triples = now
with_triples old new s rows holds kept now t = subst (HoldsSheet t s) (sym (others 7 old new kept t (λ e. omega (arith, e)))) (holds t)

pub with_certifiers : (old new : Trees) (s : Sheets) (rows : List Certifier) → HoldsSheets old s → KeepsOthers 9 old new → HoldsSheet certifiers (record s { certifiers = rows }) (new 9) → HoldsSheets new (record s { certifiers = rows })
with_certifiers old new s rows holds kept now certifiers = now
with_certifiers old new s rows holds kept now t = subst (HoldsSheet t s) (sym (others 9 old new kept t (λ e. omega (arith, e)))) (holds t)

pub with_branches : (old new : Trees) (s : Sheets) (rows : List BranchRecord) → HoldsSheets old s → KeepsOthers 11 old new → HoldsSheet branches (record s { branches = rows }) (new 11) → HoldsSheets new (record s { branches = rows })
with_branches old new s rows holds kept now branches = now
with_branches old new s rows holds kept now t = subst (HoldsSheet t s) (sym (others 11 old new kept t (λ e. omega (arith, e)))) (holds t)

pub with_tellers : (old new : Trees) (s : Sheets) (rows : List KeptTeller) → HoldsSheets old s → KeepsOthers 12 old new → HoldsSheet tellers (record s { tellers = rows }) (new 12) → HoldsSheets new (record s { tellers = rows })
with_tellers old new s rows holds kept now tellers = now
with_tellers old new s rows holds kept now t = subst (HoldsSheet t s) (sym (others 12 old new kept t (λ e. omega (arith, e)))) (holds t)

pub with_accounts : (old new : Trees) (s : Sheets) (rows : List AccountRecord) → HoldsSheets old s → KeepsOthers 13 old new → HoldsSheet accounts (record s { accounts = rows }) (new 13) → HoldsSheets new (record s { accounts = rows })
with_accounts old new s rows holds kept now accounts = now
with_accounts old new s rows holds kept now t = subst (HoldsSheet t s) (sym (others 13 old new kept t (λ e. omega (arith, e)))) (holds t)

pub with_entries : (old new : Trees) (s : Sheets) (rows : List EntryRecord) → HoldsSheets old s → KeepsOthers 14 old new → HoldsSheet entries (record s { entries = rows }) (new 14) → HoldsSheets new (record s { entries = rows })
with_entries old new s rows holds kept now entries = now
with_entries old new s rows holds kept now t = subst (HoldsSheet t s) (sym (others 14 old new kept t (λ e. omega (arith, e)))) (holds t)

pub with_lines : (old new : Trees) (s : Sheets) (rows : List CashLine) → HoldsSheets old s → KeepsOthers 17 old new → HoldsSheet lines (record s { lines = rows }) (new 17) → HoldsSheets new (record s { lines = rows })
with_lines old new s rows holds kept now lines = now
with_lines old new s rows holds kept now t = subst (HoldsSheet t s) (sym (others 17 old new kept t (λ e. omega (arith, e)))) (holds t)

pub with_proofs : (old new : Trees) (s : Sheets) (rows : List Proof) → HoldsSheets old s → KeepsOthers 19 old new → HoldsSheet proofs (record s { proofs = rows }) (new 19) → HoldsSheets new (record s { proofs = rows })
with_proofs old new s rows holds kept now proofs = now
with_proofs old new s rows holds kept now t = subst (HoldsSheet t s) (sym (others 19 old new kept t (λ e. omega (arith, e)))) (holds t)

pub with_releases : (old new : Trees) (s : Sheets) (rows : List Release) → HoldsSheets old s → KeepsOthers 21 old new → HoldsSheet releases (record s { releases = rows }) (new 21) → HoldsSheets new (record s { releases = rows })
with_releases old new s rows holds kept now releases = now
with_releases old new s rows holds kept now t = subst (HoldsSheet t s) (sym (others 21 old new kept t (λ e. omega (arith, e)))) (holds t)

pub with_slips : (old new : Trees) (s : Sheets) (rows : List SlipRow) → HoldsSheets old s → KeepsOthers 25 old new → HoldsSheet slips (record s { slips = rows }) (new 25) → HoldsSheets new (record s { slips = rows })
with_slips old new s rows holds kept now slips = now
with_slips old new s rows holds kept now t = subst (HoldsSheet t s) (sym (others 25 old new kept t (λ e. omega (arith, e)))) (holds t)

pub with_slip_counts : (old new : Trees) (s : Sheets) (rows : List SlipCount) → HoldsSheets old s → KeepsOthers 27 old new → HoldsSheet slip_counts (record s { slip_counts = rows }) (new 27) → HoldsSheets new (record s { slip_counts = rows })
with_slip_counts old new s rows holds kept now slip_counts = now
with_slip_counts old new s rows holds kept now t = subst (HoldsSheet t s) (sym (others 27 old new kept t (λ e. omega (arith, e)))) (holds t)

-- the file's own row
pub with_version : (old new : Trees) (s : Sheets) (version : ℕ) → HoldsSheets old s → KeepsOthers 0 old new → HoldsSheet bank (record s { version = version }) (new 0) → HoldsSheets new (record s { version = version })
with_version old new s version holds kept now bank = now
with_version old new s version holds kept now t = subst (HoldsSheet t s) (sym (others 0 old new kept t (λ e. omega (arith, e)))) (holds t)

-- a relation that goes with its triples
pub without_relation : (old new : Trees) (s : Sheets) (of_relations : List Relation) (of_triples : List Triple) → HoldsSheets old s → ((t : Sheet) → tree_of t ≢ 5 → tree_of t ≢ 7 → new (tree_of t) ≡ old (tree_of t))
    → HoldsSheet relations (record s { relations = of_relations }) (new 5) → HoldsSheet triples (record s { triples = of_triples }) (new 7)
    → HoldsSheets new (record s { relations = of_relations; triples = of_triples })
without_relation old new s of_relations of_triples holds kept first second relations = first
without_relation old new s of_relations of_triples holds kept first second triples = second
without_relation old new s of_relations of_triples holds kept first second t = subst (HoldsSheet t s) (sym (kept t (λ e. omega (arith, e)) (λ e. omega (arith, e)))) (holds t)
