use Rattle.std.proofs.Common.{rules}
use Rattle.std.proofs.lemmas.Iterator.{YieldsList-from_slice, cases_from_all}
use Rattle.book_range.proofs.Judged.{judged, stated}
use Rattle.book_range.proofs.NumberedRows.{IsNumberedRelease, releases_from_numbered, releases_numbered}
use Rattle.book_range.proofs.numbering.are_releases_numbered.Goals as goal

pub returns : goal.returns
returns c =
    let w = c.args.world.now in
    let seen = c.releases.result.now in
    let each = stated (IsNumberedRelease w) seen w.releases c.all.result c.releases.ensures.value
    (judged (IsNumberedRelease w) seen c.all.result (cases_from_all _ _ c.all.result (IsNumberedRelease w) (λ x. IsNumberedRelease w x → ⊥) c.all.ensures.ran (YieldsList-from_slice seen cc) (λ x q k. search rules) (λ x q k. search rules))) in
    (λ is. releases_numbered w c.requires.distinct.releases (each.0 is), λ numbered. each.1 (releases_from_numbered w numbered))
