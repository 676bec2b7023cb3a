use Rattle.std.proofs.Common.{◌≡◌, ◌+◌, ◌≤◌, length}
use Rattle.list_records.specs.Records.{gathered, records_of}
use Rattle.list_records.proofs.Rest.{IsAmid, rows_left, still}
use Rattle.list_records.proofs.records.gather.Given as goal

abbrev pub invariant-loop-gathered : goal.invariant-loop-gathered
invariant-loop-gathered g l = record {
  amid : IsAmid l.reader;
  so_far : gathered g.G.Gather.begun_by g.G.Gather.with_record l.fn.begun (records_of l.fn.text) ≡ still g.G.Gather.begun_by g.G.Gather.with_record l.number l.gathered (rows_left l.reader);
  count : l.number + length (rows_left l.reader) ≤ length l.fn.text;
}

abbrev pub decreases-loop-gathered : goal.decreases-loop-gathered
decreases-loop-gathered g l = length (rows_left l.reader)
