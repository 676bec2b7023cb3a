-- What holds of the views of a bank.
use Rattle.std.specs.Prelude.{ℕ, ◌≡◌, ◌↔◌, List, None}
use Rattle.std.specs.List.{filter_map, find, range_with_len}
use Rattle.bank_terms.specs.declared.item.Cdi.{Cdi}
use Rattle.bank_terms.specs.declared.item.Kind.{Kind}
use Rattle.bank_terms.specs.declared.item.Kind.TheVariants as kind
use Rattle.bank_books.specs.Balances.{account_row, branch_row, teller_row, turn_count}
use Rattle.bank_books.specs.WorldLists.{WorldLists}
use Rattle.bank_books.specs.declared.rows.Entry.{Entry}
use Rattle.bank_meaning.specs.Sums.{PassesChecks}
use Rattle.row_members.specs.Ranges.{IsKey}
use Rattle.world_reads.specs.BookReads.{is_entry_at}
use Rattle.counter_ops.specs.Touched.{account_item}
use Rattle.two_worlds.specs.View.{nothing, view_of}

-- the item is not there: there is no account, no teller or no branch of its key
abbrev pub IsMissingAt : WorldLists → Kind → ℕ → Type 0
IsMissingAt w kind.Account key = account_row key w.accounts ≡ None
IsMissingAt w kind.Teller key = teller_row key w.tellers ≡ None
IsMissingAt w kind.Branch key = branch_row key w.branches ≡ None
IsMissingAt w kind.History key = branch_row key w.branches ≡ None
IsMissingAt w kind.Drawer key = teller_row key w.tellers ≡ None
IsMissingAt w kind.Vault key = branch_row key w.branches ≡ None

-- nothing is said of it
abbrev pub MissingIsNothing : Type 0
MissingIsNothing = (w : WorldLists) (item : Cdi) → PassesChecks w → IsKey item.key → IsMissingAt w item.kind item.key → view_of w item ≡ nothing

-- the entries of an account by turn
abbrev pub by_turn : WorldLists → ℕ → List Entry
by_turn w key = filter_map (λ turn. find (is_entry_at key turn) w.entries) (range_with_len 1 (turn_count key w.entries))

-- Two views of an account are the same exactly where its row and its entries, by turn, are: that they stand by branch and number in a view makes no difference.
abbrev pub ViewsGoByTurn : Type 0
ViewsGoByTurn = (w v : WorldLists) (key : ℕ) → PassesChecks w → PassesChecks v
    → (view_of w (account_item key) ≡ view_of v (account_item key) ↔ (account_row key w.accounts ≡ account_row key v.accounts) × (by_turn w key ≡ by_turn v key))
