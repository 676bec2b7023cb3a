use Rattle.sql_schema.specs.ReadBack.{stored_by_columns}
use Rattle.sql_schema.proofs.MemberLemmas.{release_read, unread_members}
use Rattle.sql_schema.proofs.rows.releases.ReleaseTableRow.read.Goals as goal

pub returns-in_err-members_of-clause-unread : goal.returns-in_err-members_of-clause-unread
returns-in_err-members_of-clause-unread c =
    unread_members (stored_by_columns 15 c.args.row.now) c.from_residual-in_err-members_of.result c.in_err-members_of.field-0.0 c.from_residual-in_err-members_of.ensures.1 c.in_err-members_of.ensures.unread

pub returns-clause-same : goal.returns-clause-same
returns-clause-same c =
    release_read c.args.row.now _ _ _ _ _ _ _ _ c.in_ok-number_at.ensures.stated c.in_ok-number_at-2.ensures.stated c.in_ok-number_at-3.ensures.stated c.in_ok-number_at-4.ensures.stated c.in_ok-number_at-5.ensures.stated c.in_ok-procedure_at.ensures.stated
    c.in_ok-members_of.ensures.stated c.in_ok-members_of.ensures.eight c.in_ok-truth_at.ensures.stated
