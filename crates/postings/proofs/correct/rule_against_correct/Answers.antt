use Rattle.std.proofs.Common.{◌∙◌, sym}
use Rattle.std.specs.Prelude.{IsNone}
use Rattle.std.proofs.lemmas.Bool.{and_parts, or_parts}
use Rattle.rule_tests.proofs.RuleTests.{none_of}
use Rattle.postings.specs.Correct.{is_of_post}
use Rattle.postings.proofs.AllowedCorrect.{IsAllowed, is_allowed}
use Rattle.postings.proofs.RuleTests.{account_room, entry_left, line_left, of_then, turn_left}
use Rattle.postings.proofs.correct.rule_against_correct.Goals as goal

pub returns-clause-first : goal.returns-clause-first
returns-clause-first c =
    rw (c.is_unknown.ensures, c.teller_is_of.ensures, c.drawer_is_held_by.ensures, c.is_by_maker.ensures, c.has_entry.ensures, c.are_above_floors.ensures, c.has_cash.ensures, c.is_in_range.ensures.all, c.is_full.ensures) at c.first_denial.ensures

allowed : (c : goal.After-first_denial) → IsNone c.first_denial.result → IsAllowed c.args.rows.now c.args.correct.now c.args.by
allowed c none = is_allowed _ _ _ (sym (returns-clause-first c) ∙ none_of _ none)

pub returns-clause-balance : goal.returns-clause-balance
returns-clause-balance c none = account_room c.args.rows.now.account _ (and_parts _ _ (and_parts _ _ (allowed c none).in_range).0).0

pub returns-clause-turns : goal.returns-clause-turns
returns-clause-turns c none = turn_left c.args.rows.now.account (or_parts _ _ (or_parts _ _ (allowed c none).room).0).0

pub returns-clause-other_turns : goal.returns-clause-other_turns
returns-clause-other_turns c none = turn_left c.args.rows.now.other (or_parts _ _ (or_parts _ _ (allowed c none).room).0).1

pub returns-clause-one : goal.returns-clause-one
returns-clause-one c none of_post = entry_left c.args.rows.now.ledger (or_parts _ _ (of_then (is_of_post c.args.correct.now) _ _ of_post (or_parts _ _ (allowed c none).room).1)).0

pub returns-clause-lines : goal.returns-clause-lines
returns-clause-lines c none of_post = line_left c.args.rows.now.cash_book (or_parts _ _ (of_then (is_of_post c.args.correct.now) _ _ of_post (or_parts _ _ (allowed c none).room).1)).1
