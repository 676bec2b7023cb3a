use Rattle.std.proofs.Common.{arith, refl, rules}
use Rattle.sql_schema.specs.ReadBack.{columns_from}
use Rattle.sql_schema.proofs.MemberLemmas.{slip_members}
use Rattle.sql_schema.proofs.ReadableLemmas.{unread_whole}
use Rattle.sql_schema.proofs.values.slip_members_of.Goals as goal

pub returns-in_err-whole_at-clause-unread : goal.returns-in_err-whole_at-clause-unread
returns-in_err-whole_at-clause-unread c = unread_whole 0 (columns_from 3 8 c.args.row.now) c.from_residual.result c.in_err-whole_at.field-0.0 (omega arith) c.from_residual.ensures.1 c.in_err-whole_at.ensures.unread

pub returns-in_err-whole_at-2-clause-unread : goal.returns-in_err-whole_at-2-clause-unread
returns-in_err-whole_at-2-clause-unread c = unread_whole 1 (columns_from 3 8 c.args.row.now) c.from_residual-in_err-whole_at-2.result c.in_err-whole_at-2.field-0.0 (omega arith) c.from_residual-in_err-whole_at-2.ensures.1 c.in_err-whole_at-2.ensures.unread

pub returns-in_err-whole_at-3-clause-unread : goal.returns-in_err-whole_at-3-clause-unread
returns-in_err-whole_at-3-clause-unread c = unread_whole 2 (columns_from 3 8 c.args.row.now) c.from_residual-in_err-whole_at-3.result c.in_err-whole_at-3.field-0.0 (omega arith) c.from_residual-in_err-whole_at-3.ensures.1 c.in_err-whole_at-3.ensures.unread

pub returns-in_err-whole_at-4-clause-unread : goal.returns-in_err-whole_at-4-clause-unread
returns-in_err-whole_at-4-clause-unread c = unread_whole 3 (columns_from 3 8 c.args.row.now) c.from_residual-in_err-whole_at-4.result c.in_err-whole_at-4.field-0.0 (omega arith) c.from_residual-in_err-whole_at-4.ensures.1 c.in_err-whole_at-4.ensures.unread

pub returns-in_err-whole_at-5-clause-unread : goal.returns-in_err-whole_at-5-clause-unread
returns-in_err-whole_at-5-clause-unread c = unread_whole 4 (columns_from 3 8 c.args.row.now) c.from_residual-in_err-whole_at-5.result c.in_err-whole_at-5.field-0.0 (omega arith) c.from_residual-in_err-whole_at-5.ensures.1 c.in_err-whole_at-5.ensures.unread

pub returns-in_err-whole_at-6-clause-unread : goal.returns-in_err-whole_at-6-clause-unread
returns-in_err-whole_at-6-clause-unread c = unread_whole 5 (columns_from 3 8 c.args.row.now) c.from_residual-in_err-whole_at-6.result c.in_err-whole_at-6.field-0.0 (omega arith) c.from_residual-in_err-whole_at-6.ensures.1 c.in_err-whole_at-6.ensures.unread

pub returns-in_err-whole_at-7-clause-unread : goal.returns-in_err-whole_at-7-clause-unread
returns-in_err-whole_at-7-clause-unread c = unread_whole 6 (columns_from 3 8 c.args.row.now) c.from_residual-in_err-whole_at-7.result c.in_err-whole_at-7.field-0.0 (omega arith) c.from_residual-in_err-whole_at-7.ensures.1 c.in_err-whole_at-7.ensures.unread

pub returns-in_err-whole_at-8-clause-unread : goal.returns-in_err-whole_at-8-clause-unread
returns-in_err-whole_at-8-clause-unread c = unread_whole 7 (columns_from 3 8 c.args.row.now) c.from_residual-in_err-whole_at-8.result c.in_err-whole_at-8.field-0.0 (omega arith) c.from_residual-in_err-whole_at-8.ensures.1 c.in_err-whole_at-8.ensures.unread

pub returns-clause-stated : goal.returns-clause-stated
returns-clause-stated c = search rules

pub returns-clause-there : goal.returns-clause-there
returns-clause-there c r fit is = slip_members c.args.row.now _ r (returns-clause-stated c) refl fit is
