use Rattle.std.proofs.Common.{subst}
use Rattle.sqlite_wal.specs.Reads.{AreClean}
use Rattle.sqlite.specs.Closing.{IsCopied}
use Rattle.sqlite.specs.Files.{IsClosed}
use Rattle.cli_file.proofs.OpenedLemmas.{closed_bank, unclosed_bank}
use Rattle.cli_file.proofs.file.close.Goals as goal

pub returns-in-Ok : goal.returns-in-Ok
returns-in-Ok g c =
    let copied = subst (λ conn. AreClean g.D.Disk c.in-Ok.files.log c.in-Ok.files.db → IsCopied conn c.in-Ok.files) c.into_connection.ensures.connection c.in-Ok.ensures.copied in
    record {
      copied = copied;
      bank = closed_bank g.D.Disk c.args.store c.in-Ok.files copied;
    }

pub returns-in-Err : goal.returns-in-Err
returns-in-Err g c =
    let closed = subst (λ conn. IsClosed conn c.in-Err.left) c.into_connection.ensures.connection c.in-Err.ensures.err.0 in
    record { of_file = c.of_closing.ensures; closed = closed; bank = unclosed_bank c.args.store c.in-Err.left closed }
