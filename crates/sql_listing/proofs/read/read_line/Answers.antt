use Rattle.std.proofs.Common.{◌∙◌, ap}
use Rattle.world_reads.specs.declared.policy_row.PolicyRow.TheVariants as row
use Rattle.sql_listing.specs.declared.kinds.LineKind.TheVariants as kind
use Rattle.sql_listing.proofs.LineLemmas.{read_as}
use Rattle.sql_listing.proofs.read.read_line.Goals as goal

pub returns-in_ok-read-in-User : goal.returns-in_ok-read-in-User
returns-in_ok-read-in-User c = read_as c.args.kind kind.User c.in-User.is c.args.row.now _ (λ there fit is. ap (λ u. row.User u.row) (c.in_ok-read-in-User.ensures.there there fit is))

pub returns-in_ok-read-in-Certifier : goal.returns-in_ok-read-in-Certifier
returns-in_ok-read-in-Certifier c = read_as c.args.kind kind.Certifier c.in-Certifier.is c.args.row.now _ (λ there fit is. ap row.Certifier (c.in_ok-read-in-Certifier.ensures.there there fit is))

pub returns-in_ok-read-in-Member : goal.returns-in_ok-read-in-Member
returns-in_ok-read-in-Member c = read_as c.args.kind kind.Member c.in-Member.is c.args.row.now _ (λ there fit is. ap row.Member (c.placed.ensures ∙ ap (λ m. record { set = m.set; place = m.place; member = m.member }) (c.in_ok-read-in-Member.ensures.there there fit is)))

pub returns-in_ok-read-in-Relation : goal.returns-in_ok-read-in-Relation
returns-in_ok-read-in-Relation c = read_as c.args.kind kind.Relation c.in-Relation.is c.args.row.now _ (λ there fit is. ap row.Relation (c.in_ok-read-in-Relation.ensures.there there fit is))

pub returns-in_ok-read-in-Triple : goal.returns-in_ok-read-in-Triple
returns-in_ok-read-in-Triple c = read_as c.args.kind kind.Triple c.in-Triple.is c.args.row.now _ (λ there fit is. ap row.Triple (c.in_ok-read-in-Triple.ensures.there there fit is))
