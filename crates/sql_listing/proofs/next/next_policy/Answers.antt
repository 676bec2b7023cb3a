use Rattle.std.proofs.Common.{◌∙◌, Some, ap, find, sym}
use Rattle.std.proofs.lemmas.Result.{IfOk-weaker}
use Rattle.sqlite.specs.Held.{state}
use Rattle.world_reads.specs.PolicyListing.{is_row_after}
use Rattle.sql_listing.specs.Columns.{is_past, or_first}
use Rattle.sql_listing.specs.Lines.{lines_after, lines_in, lines_of}
use Rattle.sql_listing.proofs.NextLemmas.{first_is, next_is}
use Rattle.sql_listing.proofs.next.next_policy.Goals as goal

pub returns-in-Some-clause-found : goal.returns-in-Some-clause-found
returns-in-Some-clause-found g c clean inside s holds =
    let key = c.in-Some.key in
    IfOk-weaker c.next_from.result _ _
    (λ line is. is ∙ (λ i. or_first (find (is_past (Some (c.key_columns.ensures.value i))) (lines_in s (c.key_kind.ensures i))) (lines_after s (c.key_kind.ensures i)))
    ∙ next_is s (state g.S.Store c.args.tx.now.conn.now).now holds key c.key_columns.ensures.small ∙ ap (λ after. find (is_row_after after) (lines_of s)) (sym c.in-Some.is))
    (c.next_from.ensures.found clean inside s holds)

pub returns-in-None-clause-found : goal.returns-in-None-clause-found
returns-in-None-clause-found g c clean inside s holds =
    IfOk-weaker c.next_from-in-None.result _ _
    (λ line is. is ∙ first_is s ∙ ap (λ after. find (is_row_after after) (lines_of s)) (sym c.in-None.is))
    (c.next_from-in-None.ensures.found clean inside s holds)
