use Rattle.std.proofs.Common.{◌≡◌, List, Option, ap, ap₂, subst, sym, ◌∙◌}
use Rattle.bank_books.specs.declared.records.TellerRecord.{TellerRecord}
use Rattle.bank_books.specs.declared.rows.CashLine.{CashLine}
use Rattle.bank_books.specs.declared.rows.Entry.{Entry}
use Rattle.bank_books.specs.declared.rows.Release.{Release}
use Rattle.book_check.specs.Least.{IsFirstFailing, lesser_of}
use Rattle.year_forward.specs.Closed.{IsBranchClosed}
use Rattle.year_forward.proofs.OpenBranches.{DrawersAsk, EntriesAsk, LinesAsk, ReleasesAsk, first_of_all}
use Rattle.year_forward.proofs.open_branches.first_open.Goals as goal

pub returns : goal.returns
returns c =
    let w = c.args.world.now in
    let entries = c.first_with-entries.result in
    let lines = c.first_with-lines.result in
    let releases = c.first_with-releases.result in
    let drawers = c.first_with-drawers.result in
    let E : List Entry → Type 0 = λ rows. IsFirstFailing (EntriesAsk w rows) entries in
    let L : List CashLine → Type 0 = λ rows. IsFirstFailing (LinesAsk w rows) lines in
    let R : List Release → Type 0 = λ rows. IsFirstFailing (ReleasesAsk w rows) releases in
    let D : List TellerRecord → Type 0 = λ rows. IsFirstFailing (DrawersAsk rows) drawers in
    let joined : c.lesser_of-3.result ≡ lesser_of (lesser_of entries lines) (lesser_of releases drawers) = c.lesser_of-3.ensures ∙ ap₂ lesser_of c.lesser_of.ensures c.lesser_of-2.ensures in
    let P : Option _ → Type 0 = λ least. IsFirstFailing (IsBranchClosed w) least in
    subst P (sym joined)
    (first_of_all w entries lines releases drawers (subst E c.entries.ensures.value c.first_with-entries.ensures) (subst L c.lines.ensures.value c.first_with-lines.ensures)
    (subst R c.releases.ensures.value c.first_with-releases.ensures) (subst D (c.tellers.ensures ∙ ap (λ k. k.tellers) c.requires) c.first_with-drawers.ensures))
