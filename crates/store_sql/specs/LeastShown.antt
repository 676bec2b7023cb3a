-- The accounts that members of sets hold, and that of the least number among them.
use Rattle.std.specs.Prelude.{ℕ, ◌&&◌, Bool, nat_le, nat_lt, List, [], ◌∷◌, Option, Some, None, if◌then◌else◌}
use Rattle.std.specs.List.{find}
use Rattle.bank_terms.specs.declared.item.Kind.{Kind}
use Rattle.bank_terms.specs.declared.item.Kind.TheVariants as kind
use Rattle.bank_policy.specs.HeldRows.{HeldTriple}
use Rattle.bank_policy.specs.Tests.{is_same_kind, is_within}
use Rattle.bank_policy.specs.declared.rows.Member.{Member}
use Rattle.bank_books.specs.declared.records.AccountRecord.{AccountRecord}
use Rattle.world_reads.specs.BookReads.{is_account_of}

abbrev pub is_account_kind : Kind → Bool
is_account_kind k = is_same_kind kind.Account k

-- the member holds the account of this number, which is above another
abbrev pub is_reached : ℕ → Member → ℕ → Bool
is_reached after m n = nat_lt after n && is_within (record { kind = kind.Account; key = n }) m

abbrev pub is_shown_by : ℕ → Member → AccountRecord → Bool
is_shown_by after m a = is_reached after m a.row.account

-- some one of these triples' sets holds the account, whose number is above another
abbrev pub is_held_above : List HeldTriple → ℕ → AccountRecord → Bool
is_held_above held after a = nat_lt after a.row.account && is_account_of held a.row.account

-- the one of the lower number
abbrev pub lower : Option AccountRecord → Option AccountRecord → Option AccountRecord
lower None b = b
lower (Some a) None = Some a
lower (Some a) (Some b) = if nat_le a.row.account b.row.account then Some a else Some b

-- the least of what each of the members holds, and of one more
abbrev pub least_by : List AccountRecord → ℕ → List Member → Option AccountRecord → Option AccountRecord
least_by accounts after [] best = best
least_by accounts after (m ∷ ms) best = least_by accounts after ms (lower best (find (is_shown_by after m) accounts))
