-- What is decided of the listing of the policy.
use Rattle.std.specs.Prelude.{◌≡◌, Some}
use Rattle.std.specs.Borrow.{MutBor}
use Rattle.bank_terms.specs.declared.rule.Rule.TheVariants as rule
use Rattle.bank_books.specs.WorldLists.{WorldLists}
use Rattle.store_rows.specs.declared.bank.Bank.{Bank}
use Rattle.bank_meaning.specs.Requests.{first, verdict}
use Rattle.bank_meaning.specs.declared.request.Request.{Request}
use Rattle.op_prepare.specs.Judged.{IsReported}
use Rattle.decide.specs.declared.listing.Listed.{Listed}
use Rattle.decide.specs.declared.listing.Listed.TheVariants as listed

module _ {S : Type 0} where
  -- the bank that it keeps borrowed
  abbrev pub listed_bank : Listed S → MutBor (Bank S)
  listed_bank (listed.Denied d) = d.bank
  listed_bank (listed.Report r) = r.bank

  -- denied by the first rule that denies, or a report that was counted
  abbrev pub IsListed : WorldLists → Request → Listed S → Type 0
  IsListed w q (listed.Denied d) = first w q ≡ Some d.rule
  IsListed w q (listed.Report r) = IsReported w (verdict q w) r.contents

  -- denied, as nobody is known to ask
  abbrev pub IsListedToStranger : Listed S → Type 0
  IsListedToStranger (listed.Denied d) = d.rule ≡ rule.Identity
  IsListedToStranger (listed.Report r) = ⊥
