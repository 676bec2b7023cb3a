use Rattle.sql_adopt.proofs.FileLemmas.{bank_is_file, newest_bank_is_file}
use Rattle.sql_adopt.proofs.laws.held_bank_is_file.Goals as goal

pub returns-clause-file : goal.returns-clause-file
returns-clause-file g c = bank_is_file _

pub returns-clause-newest : goal.returns-clause-newest
returns-clause-newest g c = newest_bank_is_file _
