-- A question for a balance at the bank that goes on and at the next year's.
use Rattle.std.proofs.Common.{[], ap, refl, ℕ}
use Rattle.bank_books.specs.Records.{account_record}
use Rattle.bank_books.specs.WorldLists.{WorldLists}
use Rattle.bank_books.specs.declared.signature.Signature.{Signature}
use Rattle.counter_ops.specs.declared.balance.Balance.{Balance}
use Rattle.counter_ops.specs.declared.op.Op.TheVariants as op
use Rattle.bank_meaning.specs.Balance.{balance_tests, balance_text}
use Rattle.bank_meaning.specs.Meaning.{ReplyText, json}
use Rattle.bank_meaning.specs.Operations.{meaning_of}
use Rattle.year_laws.specs.GoesOn.{GoesOn, IsSameAccount, Turn, op_at_old}
use Rattle.year_laws.specs.RepliedAlike.{IsRepliedAlike}
use Rattle.year_laws.proofs.AlikeRows.{asked_same}
use Rattle.year_laws.proofs.IsYearForm.{IsYearForm}
use Rattle.year_laws.proofs.TestParts.{AreTestsAlike, anew, no_account}

module _ (t : Turn) (old new : WorldLists) (on : GoesOn t old new) where
  balance_alike : (key : ℕ) → AreTestsAlike (balance_tests (account_record old key)) (balance_tests (account_record new key))
  balance_alike key = (refl, (λ z. no_account on key), (refl, (λ z. anew _ _ z), tt))

  balance_replied : (form : Balance) (by : Signature) → IsRepliedAlike t (op.Balance form) (meaning_of (op_at_old t (op.Balance form)) by old).reply (meaning_of (op.Balance form) by new).reply
  balance_replied form by =
      ap json (asked_same (IsSameAccount (t.turns form.account)) (λ a. balance_text a.balance) [] (λ x y s. ap balance_text s.balance)
      (account_record old form.account) (account_record new form.account) (on.accounts form.account))

pub balance_in_years : (form : Balance) → IsYearForm (op.Balance form)
balance_in_years form = record {
  tests = λ t old new on names by. balance_alike t old new on form.account;
  replies = λ t old new on names by. balance_replied t old new on form by;
  kept = λ t a b replied. ap (λ (r : ReplyText). json r.bytes) replied;
  stays = λ t old new stay names by old_none new_none. stay;
}
