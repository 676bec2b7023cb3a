-- Where a line of a report has room, and so has what follows it.
use Rattle.std.specs.Prelude.{ℕ, ◌+◌, ◌+ℤ◌, ◌<◌, ◌^◌, FitsSigned, IfSome, ⊤}
use Rattle.std.specs.Int.{w128}
use Rattle.bank_books.specs.WorldLists.{WorldLists}
use Rattle.bank_books.specs.declared.records.TellerRecord.{TellerRecord}
use Rattle.world_reads.specs.BookReads.{entry_at, next_teller}
use Rattle.world_reads.specs.PolicyListing.{next_policy}
use Rattle.report_lines.specs.Texts.{HasLine}
use Rattle.reports.specs.Lines.{AllFrom}
use Rattle.reports.specs.Listing.{next_listed}
use Rattle.reports.specs.declared.listing.Listing.{Listing}
use Rattle.reports.specs.declared.listing.Listing.TheVariants as listing
use Rattle.reports.specs.declared.proof.AfterTeller.{AfterTeller}

-- what the balances come to with this teller's is in the range of i128
abbrev pub HasSumRoom : AfterTeller → TellerRecord → Type 0
HasSumRoom from t = FitsSigned w128 (from.tellers +ℤ t.balance)

-- The next line of a listing has room, and what follows it a place: there is a turn after this one, the sum of the
-- tellers is in range, the name is short enough. Where no line comes next there is nothing to ask for.
abbrev pub HasRoom : WorldLists → Listing → Type 0
HasRoom w (listing.Statement from) = IfSome (entry_at w from.account from.turn) (λ e. from.turn + 1 < 2 ^ 32)
HasRoom w (listing.Accounts from) = ⊤
HasRoom w (listing.Tellers from) = IfSome (next_teller w from.branch.branch from.after) (HasSumRoom from)
HasRoom w (listing.Totals from) = ⊤
HasRoom w (listing.Policy after) = IfSome (next_policy w after) HasLine

-- so has each of the lines from the first on, at most n
pub record HaveRoom (w : WorldLists) (first : Listing) (most : ℕ) : Type 0 where
  pub each : AllFrom (next_listed w) (HasRoom w) most first
