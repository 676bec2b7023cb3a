-- That what the laws across the turn of a year suppose is met by what it is named for, and that they except no more than they name.
use Rattle.std.specs.Prelude.{◌≡◌, [], ◌∷◌, Some}
use Rattle.std.specs.List.{filter}
use Rattle.bank_terms.specs.declared.rule.Rule.TheVariants as rule
use Rattle.bank_books.specs.SlipRow.{SlipRow}
use Rattle.bank_books.specs.WorldLists.{WorldLists}
use Rattle.bank_books.specs.declared.rows.Release.{Release}
use Rattle.counter_ops.specs.Operations.{IsOp}
use Rattle.counter_ops.specs.declared.op.Op.{Op}
use Rattle.world_reads.specs.BookReads.{release}
use Rattle.bank_meaning.specs.PolicyRules.{asker}
use Rattle.bank_meaning.specs.Requests.{rules}
use Rattle.bank_meaning.specs.Sums.{IsAsked}
use Rattle.bank_meaning.specs.declared.request.Asked.{Asked}
use Rattle.bank_meaning.specs.declared.request.Request.{Request}
use Rattle.bank_meaning.specs.declared.who.Who.{Who}
use Rattle.year_laws.specs.GoesOn.{Turn}
use Rattle.year_laws.specs.JudgedAlike.{NamesAnEntry, begins_anew}
use Rattle.year_laws.specs.RequestsAlike.{AsksOfAnEntry, BearsPastSlip, NamesPastRelease, slip_found}
use Rattle.year_laws.specs.StaysAlike.{IsForCorrection}

-- Two rules alone begin anew. What is in its ranges names an entry, if it is a correction.
pub record PremisesAreMet : Type 0 where
  pub begins_anew : filter begins_anew rules ≡ rule.Range ∷ rule.Full ∷ []
  pub operation : (x : Op) → IsOp x → NamesAnEntry x
  pub request : (a : Asked) → IsAsked a → AsksOfAnEntry a
  -- A release that is excepted is there and for a correction, and a slip that is excepted is there.
  pub release : (old new : WorldLists) (who : Who) → NamesPastRelease old new who → (row : Release) × (release new (asker who) who.release ≡ Some row) × IsForCorrection row
  pub slip : (t : Turn) (old new : WorldLists) (q : Request) → BearsPastSlip t old new q → (row : SlipRow) × (slip_found new q ≡ Some row)
