use Rattle.std.proofs.Common.{◌∙◌, ap, sym}
use Rattle.sql_schema.specs.Cells.{slip_cells}
use Rattle.sql_schema.specs.ReadBack.{stored_by_columns}
use Rattle.sql_schema.proofs.MemberLemmas.{slip_of_test, unread_slip_members}
use Rattle.sql_schema.proofs.rows.slips.SlipTableRow.read.Goals as goal

pub returns-in_err-slip_members_of-clause-unread : goal.returns-in_err-slip_members_of-clause-unread
returns-in_err-slip_members_of-clause-unread c =
    unread_slip_members (stored_by_columns 12 c.args.row.now) c.from_residual-in_err-slip_members_of.result c.in_err-slip_members_of.field-0.0 c.from_residual-in_err-slip_members_of.ensures.1 c.in_err-slip_members_of.ensures.unread

pub returns-clause-same : goal.returns-clause-same
returns-clause-same c =
    slip_of_test c.args.row.now _ _ _ _ _ c.in_ok-user.ensures.stated c.in_ok-number.ensures.stated c.in_ok-procedure_at.ensures.stated
    c.in_ok-slip_members_of.ensures.stated c.in_ok-slip_members_of.ensures.eight c.in_ok-bytes_at.ensures.stated
    ∙ sym (ap slip_cells c.new.ensures)
