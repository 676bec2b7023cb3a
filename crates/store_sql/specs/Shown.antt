-- Rows as the store answers them, where the tables keep them otherwise.
use Rattle.bank_policy.specs.HeldRows.{standing_of}
use Rattle.world_reads.specs.declared.records.UserRecord.{UserRecord}
use Rattle.book_kept.specs.declared.records.KeptUser.{KeptUser}

abbrev pub user_read : KeptUser → UserRecord
user_read u = record { standing = standing_of u.row; releases = u.releases }
