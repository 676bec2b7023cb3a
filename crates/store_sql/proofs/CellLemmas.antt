-- Rows found again from their cells.
use Rattle.std.proofs.Common.{◌≡◌, ℕ, ℤ, pos, List, [], ◌∷◌, length, Bool, true, false, cond, ◌==◌, refl, sym, arith}
use Rattle.std.specs.Prelude.{slice_index_or}
use Rattle.sqlite.specs.declared.types.Value.{Value}
use Rattle.sqlite.specs.declared.types.Value.TheVariants.{Blob, Int, Text}
use Rattle.sqlite.specs.Order.{Row}
use Rattle.sqlite_value.specs.Order.{column}
use Rattle.bank_terms.proofs.Procedures.{of_its_number, procedure_with}
use Rattle.bank_terms.specs.Limits.{max_moment}
use Rattle.bank_terms.specs.declared.item.Kind.{Kind}
use Rattle.bank_terms.specs.declared.item.Kind.TheVariants as kind
use Rattle.bank_policy.specs.declared.rows.Certifier.{Certifier}
use Rattle.bank_policy.specs.declared.rows.Relation.{Relation}
use Rattle.bank_policy.specs.declared.rows.Triple.{Triple}
use Rattle.bank_books.specs.declared.records.AccountRecord.{AccountRecord}
use Rattle.bank_books.specs.declared.records.BranchRecord.{BranchRecord}
use Rattle.bank_books.specs.declared.records.EntryRecord.{EntryRecord}
use Rattle.bank_books.specs.declared.rows.CashLine.{CashLine}
use Rattle.bank_books.specs.declared.rows.EntryForm.{EntryForm}
use Rattle.bank_books.specs.declared.rows.EntryForm.TheVariants as entry
use Rattle.bank_books.specs.declared.rows.LineForm.{LineForm}
use Rattle.bank_books.specs.declared.rows.LineForm.TheVariants as line
use Rattle.bank_books.specs.declared.rows.Proof.{Proof}
use Rattle.bank_books.specs.declared.rows.Release.{Release}
use Rattle.bank_books.specs.SlipRow.{SlipRow}
use Rattle.book_kept.specs.declared.records.KeptTeller.{KeptTeller}
use Rattle.book_kept.specs.declared.records.KeptUser.{KeptUser}
use Rattle.book_kept.specs.declared.records.MemberRow.{MemberRow}
use Rattle.book_kept.specs.declared.records.SlipCount.{SlipCount}
use Rattle.sql_schema.specs.Cells.{ReleaseFits, SlipFits, TripleFitsIn, account_cells, branch_cells, certifier_cells, entry_cells, line_cells, member_cells, proof_cells, relation_cells, release_cells, set_cells, slip_cells, slip_count_cells, teller_cells, triple_cells, triple_cells_in, user_cells}
use Rattle.sql_schema.specs.declared.edition.Edition.{Edition}
use Rattle.sql_schema.specs.declared.edition.Edition.TheVariants.{First, Second, Third}
use Rattle.sql_schema.specs.Numbers.{entry_form_number, kind_number, line_form_number, truth_cell}

-- ---- single cells

abbrev pub nat_of : Value → ℕ
nat_of (Int (pos n)) = n
nat_of _ = 0

abbrev pub int_of : Value → ℤ
int_of (Int n) = n
int_of _ = pos 0

abbrev pub text_of : Value → List ℕ
text_of (Text text) = text
text_of _ = []

abbrev pub bytes_of : Value → List ℕ
bytes_of (Blob bytes) = bytes
bytes_of _ = []

abbrev pub truth_of : Value → Bool
truth_of v = nat_of v == 1

truth_back : (b : Bool) → truth_of (truth_cell b) ≡ b
truth_back true = refl
truth_back false = refl

abbrev pub kind_of : ℕ → Kind
kind_of n = cond (n == 1) kind.Account (cond (n == 2) kind.Teller (cond (n == 3) kind.Branch (cond (n == 4) kind.History (cond (n == 5) kind.Drawer kind.Vault))))

kind_back : (k : Kind) → kind_of (kind_number k) ≡ k
kind_back kind.Account = refl
kind_back kind.Teller = refl
kind_back kind.Branch = refl
kind_back kind.History = refl
kind_back kind.Drawer = refl
kind_back kind.Vault = refl

abbrev pub entry_form_of : ℕ → EntryForm
entry_form_of n = cond (n == 1) entry.Post (cond (n == 2) entry.TransferLeg entry.Correction)

entry_form_back : (f : EntryForm) → entry_form_of (entry_form_number f) ≡ f
entry_form_back entry.Post = refl
entry_form_back entry.TransferLeg = refl
entry_form_back entry.Correction = refl

abbrev pub line_form_of : ℕ → LineForm
line_form_of n = cond (n == 1) line.CashEntry (cond (n == 2) line.On (cond (n == 3) line.Off (cond (n == 4) line.Move line.Difference)))

line_form_back : (f : LineForm) → line_form_of (line_form_number f) ≡ f
line_form_back line.CashEntry = refl
line_form_back line.On = refl
line_form_back line.Off = refl
line_form_back line.Move = refl
line_form_back line.Difference = refl

-- ---- rows

abbrev pub version_back : Row → ℕ
version_back r = nat_of (column r 3)

abbrev pub user_back : Row → KeptUser
user_back r = record {
  row = record { user = nat_of (column r 0); name = text_of (column r 2); officer = truth_of (column r 3); suspended = truth_of (column r 4); session = nat_of (column r 5); on = truth_of (column r 6) };
  releases = nat_of (column r 7);
}

pub user_tells : (u : KeptUser) → user_back (user_cells u) ≡ u
user_tells u = λ i. record u { row = record u.row { officer = truth_back u.row.officer i; suspended = truth_back u.row.suspended i; on = truth_back u.row.on i } }

abbrev pub set_back : Row → ℕ
set_back r = nat_of (column r 0)

pub set_tells : (n : ℕ) → set_back (set_cells n) ≡ n
set_tells n = refl

abbrev pub member_back : Row → MemberRow
member_back r = record { set = nat_of (column r 0); place = nat_of (column r 1); member = record { kind = kind_of (nat_of (column r 2)); low = nat_of (column r 3); high = nat_of (column r 4) } }

pub member_tells : (m : MemberRow) → member_back (member_cells m) ≡ m
member_tells m = λ i. record m { member = record m.member { kind = kind_back m.member.kind i } }

abbrev pub relation_back : Row → Relation
relation_back r = record { procedure = procedure_with (nat_of (column r 0)); set = nat_of (column r 1); by = nat_of (column r 2) }

pub relation_tells : (r : Relation) → relation_back (relation_cells r) ≡ r
relation_tells r = λ i. record r { procedure = of_its_number r.procedure i }

abbrev pub triple_back : Row → Triple
triple_back r = record { user = nat_of (column r 0); procedure = procedure_with (nat_of (column r 1)); set = nat_of (column r 2); limit = nat_of (column r 3); first = nat_of (column r 4); last = nat_of (column r 5) }

pub triple_tells : (t : Triple) → triple_back (triple_cells t) ≡ t
triple_tells t = λ i. record t { procedure = of_its_number t.procedure i }

abbrev pub triple_back_in : Edition → Row → Triple
triple_back_in First r = record { user = nat_of (column r 0); procedure = procedure_with (nat_of (column r 1)); set = nat_of (column r 2); limit = nat_of (column r 3); first = 0; last = max_moment }
triple_back_in Second r = triple_back r
triple_back_in Third r = triple_back r

pub triple_tells_in : (e : Edition) (t : Triple) → TripleFitsIn e t → triple_back_in e (triple_cells_in e t) ≡ t
triple_tells_in First t fits = λ i. record t { procedure = of_its_number t.procedure i; first = sym fits.1 i; last = sym fits.2 i }
triple_tells_in Second t fits = triple_tells t
triple_tells_in Third t fits = triple_tells t

abbrev pub certifier_back : Row → Certifier
certifier_back r = record { user = nat_of (column r 0); procedure = procedure_with (nat_of (column r 1)) }

pub certifier_tells : (c : Certifier) → certifier_back (certifier_cells c) ≡ c
certifier_tells c = λ i. record c { procedure = of_its_number c.procedure i }

abbrev pub branch_back : Row → BranchRecord
branch_back r = record {
  row = record { branch = nat_of (column r 0); opening = int_of (column r 2); cash = int_of (column r 3); day = nat_of (column r 4) };
  balance = int_of (column r 5);
  vault = int_of (column r 6);
  entries = nat_of (column r 7);
  lines = nat_of (column r 8);
  accounts = nat_of (column r 9);
  history = int_of (column r 10);
  drawers = int_of (column r 11);
  cash_entries = int_of (column r 12);
  differences = int_of (column r 13);
}

pub branch_tells : (b : BranchRecord) → branch_back (branch_cells b) ≡ b
branch_tells b = refl

abbrev pub teller_back : Row → KeptTeller
teller_back r = record { row = record { teller = nat_of (column r 0); branch = nat_of (column r 2); opening = int_of (column r 3) }; balance = int_of (column r 4); cash = int_of (column r 5); holder = nat_of (column r 6) }

pub teller_tells : (t : KeptTeller) → teller_back (teller_cells t) ≡ t
teller_tells t = refl

abbrev pub account_back : Row → AccountRecord
account_back r = record {
  row = record { account = nat_of (column r 0); home = nat_of (column r 2); opening = int_of (column r 3); floor = int_of (column r 4) };
  balance = int_of (column r 5);
  turns = nat_of (column r 6);
}

pub account_tells : (a : AccountRecord) → account_back (account_cells a) ≡ a
account_tells a = refl

abbrev pub entry_back : Row → EntryRecord
entry_back r = record {
  row = record {
    branch = nat_of (column r 0);
    number = nat_of (column r 1);
    account = nat_of (column r 2);
    turn = nat_of (column r 3);
    teller = nat_of (column r 4);
    delta = int_of (column r 5);
    moment = nat_of (column r 6);
    day = nat_of (column r 7);
    user = nat_of (column r 8);
    form = entry_form_of (nat_of (column r 9));
    partner = nat_of (column r 10);
    undoes = nat_of (column r 11);
  };
  balance_after = int_of (column r 12);
}

pub entry_tells : (e : EntryRecord) → entry_back (entry_cells e) ≡ e
entry_tells e = λ i. record e { row = record e.row { form = entry_form_back e.row.form i } }

abbrev pub line_back : Row → CashLine
line_back r = record {
  branch = nat_of (column r 0);
  number = nat_of (column r 1);
  place = nat_of (column r 2);
  amount = int_of (column r 3);
  form = line_form_of (nat_of (column r 4));
  moment = nat_of (column r 5);
  day = nat_of (column r 6);
  user = nat_of (column r 7);
}

pub line_tells : (l : CashLine) → line_back (line_cells l) ≡ l
line_tells l = λ i. record l { form = line_form_back l.form i }

abbrev pub proof_back : Row → Proof
proof_back r = record { branch = nat_of (column r 0); day = nat_of (column r 1); entries = nat_of (column r 2); balance = int_of (column r 3); cash = int_of (column r 4) }

pub proof_tells : (p : Proof) → proof_back (proof_cells p) ≡ p
proof_tells p = refl

abbrev pub release_back : Row → Release
release_back r = record {
  user = nat_of (column r 0);
  number = nat_of (column r 1);
  giver = nat_of (column r 2);
  branch = nat_of (column r 3);
  day = nat_of (column r 4);
  operation = record {
    form = procedure_with (nat_of (column r 5));
    members = int_of (column r 6) ∷ int_of (column r 7) ∷ int_of (column r 8) ∷ int_of (column r 9) ∷ int_of (column r 10) ∷ int_of (column r 11) ∷ int_of (column r 12) ∷ int_of (column r 13) ∷ [];
  };
  used = truth_of (column r 14);
}

eight : (xs : List ℤ) → length xs ≡ 8 → slice_index_or xs 0 (pos 0) ∷ slice_index_or xs 1 (pos 0) ∷ slice_index_or xs 2 (pos 0) ∷ slice_index_or xs 3 (pos 0) ∷ slice_index_or xs 4 (pos 0) ∷ slice_index_or xs 5 (pos 0) ∷ slice_index_or xs 6 (pos 0) ∷ slice_index_or xs 7 (pos 0) ∷ [] ≡ xs
eight [] long = absurd (omega (arith, long))
eight (a ∷ []) long = absurd (omega (arith, long))
eight (a ∷ b ∷ []) long = absurd (omega (arith, long))
eight (a ∷ b ∷ c ∷ []) long = absurd (omega (arith, long))
eight (a ∷ b ∷ c ∷ d ∷ []) long = absurd (omega (arith, long))
eight (a ∷ b ∷ c ∷ d ∷ e ∷ []) long = absurd (omega (arith, long))
eight (a ∷ b ∷ c ∷ d ∷ e ∷ f ∷ []) long = absurd (omega (arith, long))
eight (a ∷ b ∷ c ∷ d ∷ e ∷ f ∷ g ∷ []) long = absurd (omega (arith, long))
eight (a ∷ b ∷ c ∷ d ∷ e ∷ f ∷ g ∷ h ∷ []) long = refl
eight (a ∷ b ∷ c ∷ d ∷ e ∷ f ∷ g ∷ h ∷ x ∷ xs) long = absurd (omega (arith, long))

pub release_tells : (r : Release) → ReleaseFits r → release_back (release_cells r) ≡ r
release_tells r fits = λ i. record r { operation = record r.operation { form = of_its_number r.operation.form i; members = eight r.operation.members fits.members i }; used = truth_back r.used i }

abbrev pub slip_back : Row → SlipRow
slip_back r = record {
  user = nat_of (column r 0);
  number = nat_of (column r 1);
  operation = record {
    form = procedure_with (nat_of (column r 2));
    members = int_of (column r 3) ∷ int_of (column r 4) ∷ int_of (column r 5) ∷ int_of (column r 6) ∷ int_of (column r 7) ∷ int_of (column r 8) ∷ int_of (column r 9) ∷ int_of (column r 10) ∷ [];
  };
  reply = bytes_of (column r 11);
}

pub slip_tells : (s : SlipRow) → SlipFits s → slip_back (slip_cells s) ≡ s
slip_tells s fits = λ i. record s { operation = record s.operation { form = of_its_number s.operation.form i; members = eight s.operation.members fits.members i } }

abbrev pub slip_count_back : Row → SlipCount
slip_count_back r = record { user = nat_of (column r 0); slips = nat_of (column r 2) }

pub slip_count_tells : (c : SlipCount) → slip_count_back (slip_count_cells c) ≡ c
slip_count_tells c = refl
