use Rattle.std.proofs.Common.{◌≡◌, ◌∙◌, ◌<◌, false, true, length, ap, sym, refl, inl, arith}
use Rattle.csv.specs.Reading.{with_flexible, with_names_headers}
use Rattle.csv.specs.Records.{fields_of}
use Rattle.csv.specs.declared.ReaderBuilder.{ReaderBuilder}
use Rattle.list_records.specs.Records.{gathered}
use Rattle.list_records.proofs.Rest.{amid-end, amid-more, amid-start, ends-empty, ends-whole, goes-on, records_of-few, stops}
use Rattle.list_records.proofs.records.gather.Goals as goal

pub loop-gathered-init : goal.loop-gathered-init
loop-gathered-init g c =
    let made = c.from_reader-reader.ensures in
    let e : c.flexible.result.now ≡ with_flexible (with_names_headers c.new.result false) true = c.flexible.ensures ∙ ap (λ (b : ReaderBuilder). with_flexible b true) c.has_headers.ensures in
    let start = amid-start c.from_reader-reader.result c.args.text.now (rw e at made.trim ∙ c.new.ensures.trim) (rw e at made.has_headers) made.headers (rw e at made.config ∙ c.new.ensures.config) made.state made.source in
    record {
      amid = start.0;
      so_far = ap (gathered g.G.Gather.begun_by g.G.Gather.with_record c.args.begun) (sym start.1);
      count = let few = records_of-few c.args.text.now in let same = ap length start.1 in omega (arith, few, same);
    }

pub loop-gathered-preserved : goal.loop-gathered-preserved
loop-gathered-preserved g c =
    let inv = c.loop-gathered.invariant in
    let read = rw c.if-branch.true at (c.in_ok-read_byte_record.ensures.reads inv.amid.trim inv.amid.ready) in
    let more = amid-more c.loop-gathered.reader c.read_byte_record.new.self (fields_of c.read_byte_record.new.row) inv.amid (c.in_ok-read_byte_record.ensures.reads_on c.if-branch.true) read in
    record {
      amid = more.0;
      so_far = goes-on g.G.Gather.begun_by g.G.Gather.with_record _ c.loop-gathered.number _ c.loop-gathered.gathered c.take_record.new.gathered (fields_of c.read_byte_record.new.row) _ _ c.in_ok-take_record.field-0 inv.so_far more.1 refl c.in_ok-take_record.ensures (sym c.if-not-branch.false);
      count = let next = ap length more.1 in omega (arith, next, inv.count);
    }

pub loop-gathered-smaller : goal.loop-gathered-smaller
loop-gathered-smaller g c =
    let inv = c.loop-gathered.invariant in
    let read = rw c.if-branch.true at (c.in_ok-read_byte_record.ensures.reads inv.amid.trim inv.amid.ready) in
    let more = amid-more c.loop-gathered.reader c.read_byte_record.new.self (fields_of c.read_byte_record.new.row) inv.amid (c.in_ok-read_byte_record.ensures.reads_on c.if-branch.true) read in
    let next = ap length more.1 in
    omega (arith, next)

pub returns-then-not-branch : goal.returns-then-not-branch
returns-then-not-branch g c =
    let inv = c.loop-gathered.invariant in
    let read = rw c.if-branch.true at (c.in_ok-read_byte_record.ensures.reads inv.amid.trim inv.amid.ready) in
    let more = amid-more c.loop-gathered.reader c.read_byte_record.new.self (fields_of c.read_byte_record.new.row) inv.amid (c.in_ok-read_byte_record.ensures.reads_on c.if-branch.true) read in
    inl (stops g.G.Gather.begun_by g.G.Gather.with_record _ c.loop-gathered.number _ c.loop-gathered.gathered c.take_record.new.gathered (fields_of c.read_byte_record.new.row) _ _ c.in_ok-take_record.field-0 inv.so_far more.1 refl c.in_ok-take_record.ensures (sym c.if-not-branch.true))

pub returns-then-number-eq0 : goal.returns-then-number-eq0
returns-then-number-eq0 g c =
    let inv = c.loop-gathered.invariant in
    let read = rw c.if-branch.false at (c.in_ok-read_byte_record.ensures.reads inv.amid.trim inv.amid.ready) in
    let none = amid-end c.loop-gathered.reader c.read_byte_record.new.self _ inv.amid read in
    inl (ends-empty g.G.Gather.begun_by g.G.Gather.with_record _ c.loop-gathered.number c.loop-gathered.gathered _ inv.so_far none c.if-number-eq0.true)

pub returns : goal.returns
returns g c =
    let inv = c.loop-gathered.invariant in
    let read = rw c.if-branch.false at (c.in_ok-read_byte_record.ensures.reads inv.amid.trim inv.amid.ready) in
    let none = amid-end c.loop-gathered.reader c.read_byte_record.new.self _ inv.amid read in
    let some : 0 < c.loop-gathered.number = omega (arith, c.if-number-eq0.false) in
    inl (ends-whole g.G.Gather.begun_by g.G.Gather.with_record _ c.loop-gathered.number c.loop-gathered.gathered _ inv.so_far none some)
