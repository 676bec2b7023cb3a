-- What a command of the policy makes of a World that passes its checks.
use Rattle.std.proofs.Common.{◌≡◌, ℕ, ◌<◌, Bool, true, false, not, None, refl}
use Rattle.std.specs.Prelude.{nat_lt, if◌then◌else◌}
use Rattle.std.proofs.lemmas.Bool.{ltb-true, not-false}
use Rattle.bank_terms.specs.Limits.{max_version}
use Rattle.bank_books.specs.Balances.{account_balance, branch_balance, entry_count, teller_balance}
use Rattle.bank_books.specs.Cash.{cash_entry_total}
use Rattle.bank_books.specs.Range.{IsUser}
use Rattle.bank_books.specs.WorldLists.{WorldLists}
use Rattle.book_laws.proofs.Kept.{kept_same}
use Rattle.rule_tests.proofs.RuleTests.{passed_by}
use Rattle.certify.specs.CommandRows.{command_rows}
use Rattle.certify.specs.Commands.{command_changes, command_effect, commanded, first_against_command}
use Rattle.certify.proofs.CommandBooks.{command_keeps_books}
use Rattle.certify.proofs.SeparatedPolicy.{command_keeps_separation}
use Rattle.certify.proofs.SoundPolicy.{command_keeps_soundness}
use Rattle.policy_commands.specs.Ranges.{IsPolicyOp}
use Rattle.policy_commands.specs.declared.policy_op.PolicyOp.{PolicyOp}
use Rattle.bank_meaning.specs.PolicyRules.{asker, is_identified}
use Rattle.bank_meaning.specs.Requests.{commands, first}
use Rattle.bank_meaning.specs.Sessions.{standing_of_asker}
use Rattle.bank_meaning.specs.Moves.{moves_nothing}
use Rattle.bank_meaning.specs.Sums.{PassesChecks}
use Rattle.bank_meaning.specs.declared.who.Who.{Who}
use Rattle.bank_meaning.proofs.AllowedRequest.{user_there}
use Rattle.bank_meaning.proofs.KeptOrder.{in_order_all_written, in_order_with_version}
use Rattle.bank_meaning.proofs.Steps.{IsStep, none_more, plus_zero, stands}

-- with its change, where the version has room
changed : (w : WorldLists) (by : ℕ) (command : PolicyOp) → PassesChecks w → IsUser w.policy.users by → IsPolicyOp command → first_against_command (command_rows w.policy by command) by command ≡ None
    → w.version < max_version → IsStep w (commanded w by command) moves_nothing
changed w by command checks there proper is room = record {
  checks = record {
    in_order = in_order_with_version true _ (in_order_all_written (command_changes command by) w checks.in_order);
    books = command_keeps_books w by command checks.books room;
    sound = command_keeps_soundness w by command checks.sound there proper is;
    separated = command_keeps_separation w by command checks.sound checks.separated is;
  };
  branches = λ key. plus_zero (branch_balance w key);
  tellers = λ key. plus_zero (teller_balance w key);
  accounts = λ key. plus_zero (account_balance w key);
  history = λ branch. none_more (entry_count branch w.entries);
  cash_entries = λ branch. plus_zero (cash_entry_total branch w.lines);
  stay = λ branch is. is;
  vaults = λ branch. refl;
  added = record { entries = kept_same w.entries; lines = kept_same w.lines; proofs = kept_same w.proofs };
}

in_effect : (w : WorldLists) (by : ℕ) (command : PolicyOp) → PassesChecks w → IsUser w.policy.users by → IsPolicyOp command → first_against_command (command_rows w.policy by command) by command ≡ None
    → (b : Bool) → nat_lt w.version max_version ≡ b → IsStep w (if b then commanded w by command else w) moves_nothing
in_effect w by command checks there proper is true room = changed w by command checks there proper is (ltb-true w.version max_version room)
in_effect w by command checks there proper is false room = stands w checks

pub commands_step : (w : WorldLists) (command : PolicyOp) (who : Who) → PassesChecks w → IsPolicyOp command → first w (commands command who) ≡ None
    → IsStep w (command_effect w (asker who) command) moves_nothing
commands_step w command who checks proper is =
    let tests = passed_by (not (is_identified (standing_of_asker who w) who.session)) _ _ is in
    in_effect w (asker who) command checks (user_there w who.user who.session (not-false _ tests.0)) proper tests.1 (nat_lt w.version max_version) refl
