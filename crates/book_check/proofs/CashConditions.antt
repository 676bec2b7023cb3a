-- What is asked of the kept rows of a branch is what its cash, and what the sums of tellers, ask of the branch.
use Rattle.std.proofs.Common.{◌≡◌, List, refl, ℕ, ℤ, pos, negsuc, ◌+ℤ◌, map, true, ◌==◌, ap, arith, sym, ◌∙◌, subst}
use Rattle.std.specs.Prelude.{if◌then◌else◌}
use Rattle.std.proofs.lemmas.Int.{ints}
use Rattle.std.proofs.lemmas.Bool.Decides.{nat_tests}
use Rattle.money.specs.Range.{IsCents, is_cents}
use Rattle.keyed_rows.specs.Totals.{total}
use Rattle.bank_books.specs.declared.records.AccountRecord.{AccountRecord}
use Rattle.bank_books.specs.declared.records.BranchRecord.{BranchRecord}
use Rattle.bank_books.specs.declared.records.TellerRecord.{TellerRecord}
use Rattle.bank_books.specs.declared.rows.Branch.{Branch}
use Rattle.bank_books.specs.Conditions.{CashAgrees, IsBranchOfLines, IsCashBalanced, TotalsAgree}
use Rattle.bank_books.specs.Keys.{line_key}
use Rattle.bank_books.specs.Range.{IsBranchInRange, IsInRange}
use Rattle.row_members.specs.Ranges.{IsCash}
use Rattle.bank_books.specs.Records.{KeptLists, branch_record_of}
use Rattle.book_range.specs.Numbers.{BranchesBearNumbers}
use Rattle.book_check.specs.RowConditions.{AmountsAgree, BranchesOfCash, TellersOfLines, amount_of, balance_part, teller_sum}
use Rattle.bank_books.specs.WorldLists.{WorldLists}
use Rattle.book_sums.specs.Shares.{group_total}
use Rattle.book_sums.specs.declared.shares.Part.{Part}
use Rattle.book_sums.proofs.Counting.{made_of, source_of}
use Rattle.book_sums.proofs.SharesLemmas.{of_rows, same_totals}
use Rattle.book_range.proofs.NumberedRows.{AreNamed, branches_from_numbered, branches_numbered}
use Rattle.std.specs.List.Sorted.{IsPermutation}

is_amount : (z : ℤ) → IsCents z → is_cents z ≡ true
is_amount (pos n) in_range = grind (arith, nat_tests, in_range.0, in_range.1)
is_amount (negsuc n) in_range = grind (arith, nat_tests, in_range.0, in_range.1)

pub amount_in_range : (z : ℤ) → IsCents z → amount_of z ≡ z
amount_in_range z in_range = ap (λ b. if b then z else pos 0) (is_amount z in_range)

pub cash_is_amount : (z : ℤ) → IsCash z → IsCents z
cash_is_amount z in_range = (omega (arith, ints, in_range.0), in_range.1)

-- what is asked of all kept rows of a branch
abbrev pub RowsOfCash : WorldLists → KeptLists → ℕ → Type 0
RowsOfCash w kept branch = (BranchesOfCash w kept branch × TellersOfLines w kept branch) × BranchesBearNumbers line_key (λ l. l.number) w.lines kept branch

-- the four sums of the equation are amounts
abbrev Cut : BranchRecord → Type 0
Cut b = amount_of b.vault +ℤ amount_of b.drawers ≡ b.row.cash +ℤ (amount_of b.cash_entries +ℤ amount_of b.differences)

abbrev Whole : BranchRecord → Type 0
Whole b = b.vault +ℤ b.drawers ≡ b.row.cash +ℤ (b.cash_entries +ℤ b.differences)

same_equation : (v v' d d' c e e' f f' : ℤ) → v' ≡ v → d' ≡ d → e' ≡ e → f' ≡ f → v' +ℤ d' ≡ c +ℤ (e' +ℤ f') → v +ℤ d ≡ c +ℤ (e +ℤ f)
same_equation v v' d d' c e e' f f' same_v same_d same_e same_f sum =
    ap (λ x. x +ℤ d) (sym same_v) ∙ ap (λ x. v' +ℤ x) (sym same_d) ∙ sum ∙ ap (λ x. c +ℤ (x +ℤ f')) same_e ∙ ap (λ x. c +ℤ (e +ℤ x)) same_f

whole_from_cut : (w : WorldLists) (b : BranchRecord) → IsBranchInRange w.accounts w.proofs b → Cut b → Whole b
whole_from_cut w b in_range =
    same_equation _ _ _ _ _ _ _ _ _ (amount_in_range b.vault (cash_is_amount b.vault in_range.vault)) (amount_in_range b.drawers in_range.drawers)
    (amount_in_range b.cash_entries in_range.cash_entries) (amount_in_range b.differences in_range.differences)

cut_from_whole : (w : WorldLists) (b : BranchRecord) → IsBranchInRange w.accounts w.proofs b → Whole b → Cut b
cut_from_whole w b in_range =
    same_equation _ _ _ _ _ _ _ _ _ (sym (amount_in_range b.vault (cash_is_amount b.vault in_range.vault))) (sym (amount_in_range b.drawers in_range.drawers))
    (sym (amount_in_range b.cash_entries in_range.cash_entries)) (sym (amount_in_range b.differences in_range.differences))

lines_named : (w : WorldLists) (kept : KeptLists) → IsInRange w kept → AreNamed w (λ l. l.branch) (λ l. l.number) w.lines
lines_named w kept in_range l there = let line = in_range.lines l there in (line.branch, omega (arith, line.number.1))

-- what a branch keeps and what its lines give add up alike
given_from_kept : (w : WorldLists) (b : BranchRecord) → IsBranchOfLines b (branch_record_of w b.row) → Whole b → Whole (branch_record_of w b.row)
given_from_kept w b of = same_equation _ _ _ _ _ _ _ _ _ of.vault of.drawers of.cash_entries of.differences

kept_from_given : (w : WorldLists) (b : BranchRecord) → IsBranchOfLines b (branch_record_of w b.row) → Whole (branch_record_of w b.row) → Whole b
kept_from_given w b of = same_equation _ _ _ _ _ _ _ _ _ (sym of.vault) (sym of.drawers) (sym of.cash_entries) (sym of.differences)

balanced_by_rows : (w : WorldLists) (kept : KeptLists) (branch : ℕ) → IsInRange w kept → BranchesOfCash w kept branch → IsCashBalanced w.branches w.lines branch
balanced_by_rows w kept branch in_range each row there stated =
    let source = source_of (λ (b : BranchRecord). b.row) kept.branches w.branches row in_range.rows.branches there in
    let b = source.0 in
    let of = each b source.1.0 (ap (λ r. r.branch) source.1.1 ∙ stated) in
    let P : Branch → Type 0 = λ r. Whole (branch_record_of w r) in
    subst P source.1.1 (given_from_kept w b of.lines (whole_from_cut w b (in_range.branches b source.1.0) of.equation))

pub cash_by_rows : (w : WorldLists) (kept : KeptLists) (branch : ℕ) → IsInRange w kept → RowsOfCash w kept branch → CashAgrees w kept branch
cash_by_rows w kept branch in_range rows = record {
  given = record { branches = λ b there stated. (rows.0.0 b there stated).lines; tellers = rows.0.1 };
  numbers = branches_numbered w kept line_key (λ l. l.branch) (λ l. l.number) (λ _. refl) w.lines branch in_range.rows in_range.keys.lines (lines_named w kept in_range) rows.1;
  equation = balanced_by_rows w kept branch in_range rows.0.0;
}

branch_by_cash : (w : WorldLists) (kept : KeptLists) (branch : ℕ) → IsInRange w kept → CashAgrees w kept branch → BranchesOfCash w kept branch
branch_by_cash w kept branch in_range agrees b there stated =
    let of = agrees.given.branches b there stated in
    let row = made_of (λ (r : BranchRecord). r.row) kept.branches w.branches b in_range.rows.branches there in
    record { lines = of; equation = cut_from_whole w b (in_range.branches b there) (kept_from_given w b of (agrees.equation b.row row stated)) }

pub rows_by_cash : (w : WorldLists) (kept : KeptLists) (branch : ℕ) → IsInRange w kept → CashAgrees w kept branch → RowsOfCash w kept branch
rows_by_cash w kept branch in_range agrees = (
  (branch_by_cash w kept branch in_range agrees, agrees.given.tellers),
  branches_from_numbered w kept line_key (λ l. l.branch) (λ l. l.number) (λ _. refl) w.lines branch (lines_named w kept in_range) agrees.numbers,
)

pub teller_sum_of_parts : (tellers : List TellerRecord) (shares : List Part) (branch : ℕ) → IsPermutation (map balance_part tellers) shares → group_total branch shares ≡ teller_sum branch tellers
teller_sum_of_parts tellers shares branch moved = of_rows (λ (p : Part). if p.group == branch then p.amount else pos 0) balance_part tellers shares moved

pub whole_teller_sum : (w : WorldLists) (kept : KeptLists) (branch : ℕ) → IsInRange w kept →
    teller_sum branch kept.tellers ≡ total (map (λ t. if t.row.branch == branch then t.balance else pos 0) kept.tellers)
whole_teller_sum w kept branch in_range =
    same_totals (λ (t : TellerRecord). if t.row.branch == branch then amount_of t.balance else pos 0) (λ t. if t.row.branch == branch then t.balance else pos 0) kept.tellers
    (λ t there. ap (λ z. if t.row.branch == branch then z else pos 0) (amount_in_range t.balance (in_range.tellers t there).balance))

-- the sums of all balances
tellers_whole : (w : WorldLists) (kept : KeptLists) → IsInRange w kept → total (map (λ t. amount_of t.balance) kept.tellers) ≡ total (map (λ t. t.balance) kept.tellers)
tellers_whole w kept in_range =
    same_totals (λ (t : TellerRecord). amount_of t.balance) (λ t. t.balance) kept.tellers (λ t there. amount_in_range t.balance (in_range.tellers t there).balance)

accounts_whole : (w : WorldLists) (kept : KeptLists) → IsInRange w kept → total (map (λ a. amount_of a.balance) kept.accounts) ≡ total (map (λ a. a.balance) kept.accounts)
accounts_whole w kept in_range =
    same_totals (λ (a : AccountRecord). amount_of a.balance) (λ a. a.balance) kept.accounts (λ a there. amount_in_range a.balance (in_range.accounts a there).balance)

branches_whole : (w : WorldLists) (kept : KeptLists) → IsInRange w kept → total (map (λ b. amount_of b.balance) kept.branches) ≡ total (map (λ b. b.balance) kept.branches)
branches_whole w kept in_range =
    same_totals (λ (b : BranchRecord). amount_of b.balance) (λ b. b.balance) kept.branches (λ b there. amount_in_range b.balance (in_range.branches b there).balance)

pub totals_from_amounts : (w : WorldLists) (kept : KeptLists) → IsInRange w kept → AmountsAgree kept → TotalsAgree kept
totals_from_amounts w kept in_range agree = record {
  tellers = sym (tellers_whole w kept in_range) ∙ agree.tellers ∙ accounts_whole w kept in_range;
  branches = sym (branches_whole w kept in_range) ∙ agree.branches ∙ accounts_whole w kept in_range;
}

pub amounts_from_totals : (w : WorldLists) (kept : KeptLists) → IsInRange w kept → TotalsAgree kept → AmountsAgree kept
amounts_from_totals w kept in_range agree = record {
  tellers = tellers_whole w kept in_range ∙ agree.tellers ∙ sym (accounts_whole w kept in_range);
  branches = branches_whole w kept in_range ∙ agree.branches ∙ sym (accounts_whole w kept in_range);
}
