use Rattle.sql_listing.specs.declared.kinds.LineKind.TheVariants as kind
use Rattle.sql_listing.proofs.LineLemmas.{shown_as}
use Rattle.sql_listing.proofs.selects.select_lines.Goals as goal

pub returns-in-User-clause-rows : goal.returns-in-User-clause-rows
returns-in-User-clause-rows g c clean s holds after count is = shown_as c.args.kind kind.User c.in-User.is s after count c.select_users.result (c.select_users.ensures.rows clean s holds after count is)

pub returns-in-Certifier-clause-rows : goal.returns-in-Certifier-clause-rows
returns-in-Certifier-clause-rows g c clean s holds after count is = shown_as c.args.kind kind.Certifier c.in-Certifier.is s after count c.select_certifiers.result (c.select_certifiers.ensures.rows clean s holds after count is)

pub returns-in-Member-clause-rows : goal.returns-in-Member-clause-rows
returns-in-Member-clause-rows g c clean s holds after count is = shown_as c.args.kind kind.Member c.in-Member.is s after count c.select_members.result (c.select_members.ensures.rows clean s holds after count is)

pub returns-in-Relation-clause-rows : goal.returns-in-Relation-clause-rows
returns-in-Relation-clause-rows g c clean s holds after count is = shown_as c.args.kind kind.Relation c.in-Relation.is s after count c.select_relations.result (c.select_relations.ensures.rows clean s holds after count is)

pub returns-in-Triple-clause-rows : goal.returns-in-Triple-clause-rows
returns-in-Triple-clause-rows g c clean s holds after count is = shown_as c.args.kind kind.Triple c.in-Triple.is s after count c.select_triples.result (c.select_triples.ensures.rows clean s holds after count is)
