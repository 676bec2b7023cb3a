-- What the laws across the turn of a year suppose is met by what it is named for.
use Rattle.std.proofs.Common.{refl, arith}
use Rattle.counter_ops.specs.Operations.{IsOp}
use Rattle.counter_ops.specs.declared.op.Op.{Op}
use Rattle.counter_ops.specs.declared.op.Op.TheVariants as op
use Rattle.bank_meaning.specs.Sums.{IsAsked}
use Rattle.bank_meaning.specs.declared.request.Asked.{Asked}
use Rattle.bank_meaning.specs.declared.request.Asked.TheVariants as asked
use Rattle.year_laws.specs.JudgedAlike.{NamesAnEntry}
use Rattle.year_laws.specs.Premises.{PremisesAreMet}
use Rattle.year_laws.specs.RequestsAlike.{AsksOfAnEntry}

names_an_entry : (x : Op) → IsOp x → NamesAnEntry x
names_an_entry (op.Correct form) proper = λ none. omega (arith, proper.entry.0, none)
names_an_entry _ proper = tt

asks_of_an_entry : (a : Asked) → IsAsked a → AsksOfAnEntry a
asks_of_an_entry (asked.Operation x) proper = names_an_entry x proper
asks_of_an_entry asked.Opening proper = tt
asks_of_an_entry asked.Ending proper = tt
asks_of_an_entry (asked.Command command) proper = tt
asks_of_an_entry asked.Listing proper = tt

pub premises_are_met : PremisesAreMet
premises_are_met = record {
  begins_anew = refl;
  operation = names_an_entry;
  request = asks_of_an_entry;
  release = λ old new who past. (past.row, past.at_new, past.correction);
  slip = λ t old new q past. (past.row, past.at_new);
}
