-- Rows whose numbers and texts are of the types that their columns are read as. Each row that a program has is one; a column may hold others.
use Rattle.std.specs.Prelude.{ℕ, ◌≡◌, ◌<◌, ◌^◌, ◌≢◌, Contains, IsUtf8, length}
use Rattle.money.specs.Range.{IsCents, IsDelta}
use Rattle.money.specs.declared.fault.Fault.{Fault}
use Rattle.money.specs.declared.fault.Fault.TheVariants.{Memory}
use Rattle.bank_policy.specs.declared.rows.Certifier.{Certifier}
use Rattle.bank_policy.specs.declared.rows.Relation.{Relation}
use Rattle.bank_policy.specs.declared.rows.Triple.{Triple}
use Rattle.bank_books.specs.declared.records.AccountRecord.{AccountRecord}
use Rattle.bank_books.specs.declared.records.BranchRecord.{BranchRecord}
use Rattle.bank_books.specs.declared.records.EntryRecord.{EntryRecord}
use Rattle.bank_books.specs.declared.rows.CashLine.{CashLine}
use Rattle.bank_books.specs.declared.rows.Proof.{Proof}
use Rattle.bank_books.specs.SlipRow.{SlipRow}
use Rattle.bank_books.specs.declared.rows.Release.{Release}
use Rattle.book_kept.specs.declared.records.KeptTeller.{KeptTeller}
use Rattle.book_kept.specs.declared.records.KeptUser.{KeptUser}
use Rattle.book_kept.specs.declared.records.MemberRow.{MemberRow}
use Rattle.book_kept.specs.declared.records.SlipCount.{SlipCount}
use Rattle.book_kept.specs.Sheets.{Sheets}

-- A read failed for want of memory, or because what stands there is the cell, or the cells, of nothing that may be read.
abbrev pub IsUnread : {X Y : Type 0} → (X → Y) → (X → Type 0) → Y → Fault → Type 0
IsUnread {X = X} cell readable there fault = fault ≢ Memory → (x : X) → readable x → there ≢ cell x

-- a number of 32 bits
abbrev pub IsShort : ℕ → Type 0
IsShort n = n < 2 ^ 32

-- ---- the policy

pub record IsReadableUser (u : KeptUser) : Type 0 where
  pub user : IsShort u.row.user
  pub name : IsUtf8 u.row.name
  pub session : IsShort u.row.session

pub record IsReadableMember (m : MemberRow) : Type 0 where
  pub set : IsShort m.set
  pub place : IsShort m.place
  pub low : IsShort m.member.low
  pub high : IsShort m.member.high

pub record IsReadableRelation (r : Relation) : Type 0 where
  pub set : IsShort r.set
  pub by : IsShort r.by

pub record IsReadableTriple (t : Triple) : Type 0 where
  pub user : IsShort t.user
  pub set : IsShort t.set
  pub limit : IsShort t.limit

abbrev pub IsReadableCertifier : Certifier → Type 0
IsReadableCertifier c = IsShort c.user

-- ---- the books

pub record IsReadableBranch (b : BranchRecord) : Type 0 where
  pub branch : IsShort b.row.branch
  pub opening : IsCents b.row.opening
  pub cash : IsCents b.row.cash
  pub day : IsShort b.row.day

pub record IsReadableTeller (t : KeptTeller) : Type 0 where
  pub teller : IsShort t.row.teller
  pub branch : IsShort t.row.branch
  pub opening : IsCents t.row.opening
  pub holder : IsShort t.holder

pub record IsReadableAccount (a : AccountRecord) : Type 0 where
  pub account : IsShort a.row.account
  pub home : IsShort a.row.home
  pub opening : IsCents a.row.opening
  pub floor : IsCents a.row.floor

pub record IsReadableEntry (e : EntryRecord) : Type 0 where
  pub branch : IsShort e.row.branch
  pub number : IsShort e.row.number
  pub account : IsShort e.row.account
  pub turn : IsShort e.row.turn
  pub teller : IsShort e.row.teller
  pub delta : IsDelta e.row.delta
  pub day : IsShort e.row.day
  pub user : IsShort e.row.user
  pub partner : IsShort e.row.partner
  pub undoes : IsShort e.row.undoes

pub record IsReadableLine (l : CashLine) : Type 0 where
  pub branch : IsShort l.branch
  pub number : IsShort l.number
  pub place : IsShort l.place
  pub amount : IsCents l.amount
  pub day : IsShort l.day
  pub user : IsShort l.user

pub record IsReadableProof (p : Proof) : Type 0 where
  pub branch : IsShort p.branch
  pub day : IsShort p.day
  pub entries : IsShort p.entries
  pub balance : IsCents p.balance
  pub cash : IsCents p.cash

pub record IsReadableRelease (r : Release) : Type 0 where
  pub user : IsShort r.user
  pub number : IsShort r.number
  pub giver : IsShort r.giver
  pub branch : IsShort r.branch
  pub day : IsShort r.day
  -- its operation has as many members as there are columns for them
  pub members : length r.operation.members ≡ 8

pub record IsReadableSlip (s : SlipRow) : Type 0 where
  pub user : IsShort s.user
  pub number : IsShort s.number
  pub members : length s.operation.members ≡ 8

abbrev pub IsReadableSlipCount : SlipCount → Type 0
IsReadableSlipCount c = IsShort c.user

-- ---- all rows

pub record AreReadable (s : Sheets) : Type 0 where
  pub users : (u : KeptUser) → Contains s.users u → IsReadableUser u
  pub sets : (n : ℕ) → Contains s.sets n → IsShort n
  pub members : (m : MemberRow) → Contains s.members m → IsReadableMember m
  pub relations : (r : Relation) → Contains s.relations r → IsReadableRelation r
  pub triples : (t : Triple) → Contains s.triples t → IsReadableTriple t
  pub certifiers : (c : Certifier) → Contains s.certifiers c → IsReadableCertifier c
  pub branches : (b : BranchRecord) → Contains s.branches b → IsReadableBranch b
  pub tellers : (t : KeptTeller) → Contains s.tellers t → IsReadableTeller t
  pub accounts : (a : AccountRecord) → Contains s.accounts a → IsReadableAccount a
  pub entries : (e : EntryRecord) → Contains s.entries e → IsReadableEntry e
  pub lines : (l : CashLine) → Contains s.lines l → IsReadableLine l
  pub proofs : (p : Proof) → Contains s.proofs p → IsReadableProof p
  pub releases : (r : Release) → Contains s.releases r → IsReadableRelease r
  pub slips : (x : SlipRow) → Contains s.slips x → IsReadableSlip x
  pub slip_counts : (x : SlipCount) → Contains s.slip_counts x → IsReadableSlipCount x
