-- The policy and accounts are listed in the next year as they were, line by line.
use Rattle.std.proofs.Common.{◌≡◌, ℕ, zero, suc, ◌∷◌, ◌++◌, [], length, Option, Some, None, refl, ap, ap₂, ◌∙◌}
use Rattle.std.specs.Prelude.{option_map}
use Rattle.std.specs.Option.{option_map_or}
use Rattle.std.specs.List.{concat}
use Rattle.bank_books.specs.Records.{account_record_of}
use Rattle.bank_books.specs.WorldLists.{WorldLists}
use Rattle.bank_books.specs.declared.records.AccountRecord.{AccountRecord}
use Rattle.report_lines.specs.Texts.{account_line, policy_line}
use Rattle.reports.specs.Lines.{NextOf, lines_from}
use Rattle.reports.specs.Listing.{heading, listed_account, listed_lines, listed_row, next_listed, report_text}
use Rattle.reports.specs.declared.accounts.AfterAccount.{AfterAccount}
use Rattle.reports.specs.declared.listing.Listing.{Listing}
use Rattle.reports.specs.declared.listing.Listing.TheVariants as listing
use Rattle.world_reads.specs.BookReads.{accounts_triples, is_account_after, next_shown}
use Rattle.world_reads.specs.PolicyListing.{key_of, next_policy}
use Rattle.world_reads.specs.declared.policy_row.PolicyKey.{PolicyKey}
use Rattle.world_reads.specs.declared.policy_row.PolicyRow.{PolicyRow}
use Rattle.year_forward.specs.Forward.{carried_account, carried_account_record, forward}
use Rattle.year_forward.proofs.CarriedRows.{made_afresh, plus_zero}

-- ---- the policy

pub policy_lines_same : (w : WorldLists) (most : ℕ) (after : Option PolicyKey) → listed_lines (forward w) (listing.Policy after) most ≡ listed_lines w (listing.Policy after) most
policy_lines_same w zero after = refl
policy_lines_same w (suc n) after = go (next_policy w after) (policy_lines_same w n)
  where
    go : (o : Option PolicyRow) → ((next : Option PolicyKey) → listed_lines (forward w) (listing.Policy next) n ≡ listed_lines w (listing.Policy next) n)
        → option_map_or (λ (found : NextOf Listing). found.line ∷ lines_from (next_listed (forward w)) n found.rest) (option_map listed_row o) []
        ≡ option_map_or (λ (found : NextOf Listing). found.line ∷ lines_from (next_listed w) n found.rest) (option_map listed_row o) []
    go None rest = refl
    go (Some row) rest = ap (λ lines. policy_line row ∷ lines) (rest (Some (key_of row)))

pub policy_text_same : (w : WorldLists) (most : ℕ) → report_text (forward w) (listing.Policy None) most ≡ report_text w (listing.Policy None) most
policy_text_same w most = ap (λ lines. heading (listing.Policy None) (length lines) ++ concat lines) (policy_lines_same w most None)

-- ---- accounts

-- the line of an account shows its number, its home and its balance
line_same : (a : AccountRecord) → account_line (carried_account_record a) ≡ account_line a
unfolding account_line
line_same a = refl

next_same : (w : WorldLists) (user after moment : ℕ) → next_shown (forward w) user after moment ≡ option_map carried_account_record (next_shown w user after moment)
next_same w user after moment =
    made_afresh (carried_account w) (is_account_after (accounts_triples w user moment) after) (account_record_of (forward w)) (account_record_of w) carried_account_record (λ a. refl)
    (λ a. ap (λ z. record (carried_account_record (account_record_of w a)) { balance = z }) (plus_zero (account_record_of w a).balance)) w.accounts

account_lines_same : (w : WorldLists) (most : ℕ) (from : AfterAccount) → listed_lines (forward w) (listing.Accounts from) most ≡ listed_lines w (listing.Accounts from) most
account_lines_same w zero from = refl
account_lines_same w (suc n) from =
    ap (λ o. option_map_or (λ (found : NextOf Listing). found.line ∷ lines_from (next_listed (forward w)) n found.rest) (option_map (listed_account from) o) []) (next_same w from.user from.after from.moment)
    ∙ go (next_shown w from.user from.after from.moment) (account_lines_same w n)
  where
    go : (o : Option AccountRecord) → ((next : AfterAccount) → listed_lines (forward w) (listing.Accounts next) n ≡ listed_lines w (listing.Accounts next) n)
        → option_map_or (λ (found : NextOf Listing). found.line ∷ lines_from (next_listed (forward w)) n found.rest) (option_map (listed_account from) (option_map carried_account_record o)) []
        ≡ option_map_or (λ (found : NextOf Listing). found.line ∷ lines_from (next_listed w) n found.rest) (option_map (listed_account from) o) []
    go None rest = refl
    go (Some a) rest = ap₂ (λ line lines. line ∷ lines) (line_same a) (rest (record { user = from.user; after = a.row.account; moment = from.moment }))

pub accounts_text_same : (w : WorldLists) (most : ℕ) (from : AfterAccount) → report_text (forward w) (listing.Accounts from) most ≡ report_text w (listing.Accounts from) most
accounts_text_same w most from = ap (λ lines. heading (listing.Accounts from) (length lines) ++ concat lines) (account_lines_same w most from)
