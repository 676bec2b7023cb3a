-- What a list says, by what its records are gathered into.
use Rattle.std.proofs.Common.{◌≡◌, ◌⊎◌, ℕ, List, Option, Result, Ok, Err, sym, ap, ◌∙◌, inl, inr}
use Rattle.list_records.specs.Records.{Record, gathered, records_of}
use Rattle.list_records.specs.declared.fault.RecordFault.{RecordFault}
use Rattle.list_records.specs.declared.fault.RecordFault.TheVariants as record_fault
use Rattle.std.specs.Result.{result_map_both}
use Rattle.list_order.specs.Sorted.{in_order}
use Rattle.list_opening.specs.Opening.{in_file}
use Rattle.list_opening.specs.declared.list_fault.ListFault.{ListFault}
use Rattle.list_opening.specs.declared.list_fault.ListFault.TheVariants.{BadRow}
use Rattle.list_opening.specs.declared.list_fault.ListName.{ListName}

-- `rows_in` are the rows of what the records are gathered into, which is `none` before the first.
module _ {S T : Type 0} (file : ListName) (key : T → ℕ) (begun_by with_record : S → Record → Option S) (rows_in : S → List T) (none : S) (text : List ℕ) where
  abbrev says : S → Result S RecordFault
  says start = gathered begun_by with_record start (records_of text)

  abbrev placed : Result S RecordFault → Result (List T) ListFault
  placed read = result_map_both (λ s. in_order key (rows_in s)) (in_file file) read

  is_said : (start : S) (result : Result S RecordFault) → start ≡ none → result ≡ says start → placed result ≡ placed (says none)
  is_said start result first is = ap placed (is ∙ ap says first)

  pub rows_said : (start read : S) → start ≡ none → (Ok read ≡ says start) ⊎ (Ok read ≡ Err record_fault.Memory) → placed (says none) ≡ Ok (in_order key (rows_in read))
  rows_said start read first (inl is) = sym (is_said start (Ok read) first is)
  rows_said start read first (inr is) = cc

  pub bad_said : (start : S) (result : Result S RecordFault) (row : ℕ) → start ≡ none → (result ≡ says start) ⊎ (result ≡ Err record_fault.Memory) → result ≡ Err (record_fault.Bad row) → placed (says none) ≡ Err (BadRow file row)
  bad_said start result row first (inl is) bad = sym (is_said start result first is) ∙ ap placed bad
  bad_said start result row first (inr is) bad = cc
