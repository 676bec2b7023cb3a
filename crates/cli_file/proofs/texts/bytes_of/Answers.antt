use Rattle.std.proofs.Common.{◌≤◌, arith, length}
use Rattle.cli_file.proofs.TextLemmas.{text_known}
use Rattle.cli_file.proofs.texts.bytes_of.Goals as goal

pub returns : goal.returns
returns g c =
    let short : length c.read_to_end.new.buf.items ≤ 268435456 = omega arith in
    text_known 268435456 g.R.Read.remaining c.args.reader c.take.result c.new-bytes.result.items c.read_to_end.new.buf.items c.take.ensures.limit c.take.ensures.inner c.new-bytes.ensures.items
    c.in_ok-read_to_end.ensures.bytes short
