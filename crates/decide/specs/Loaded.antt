-- Rows that were loaded for a request.
use Rattle.std.specs.Prelude.{ℕ, ◌≡◌, option_and_then, option_map}
use Rattle.std.specs.Rc.{rc_slice_items}
use Rattle.bank_policy.specs.HeldRows.{relations_of, standing, triples_of}
use Rattle.bank_policy.specs.Tests.{current}
use Rattle.bank_books.specs.WorldLists.{WorldLists}
use Rattle.counter_ops.specs.Op.{procedure_of}
use Rattle.counter_ops.specs.Rows.{row_of}
use Rattle.counter_ops.specs.Touched.{amount, touched}
use Rattle.bank_meaning.specs.NamedRelease.{release_grounds}
use Rattle.certify.specs.CommandRows.{command_rows}
use Rattle.policy_commands.specs.declared.policy_op.PolicyOp.{PolicyOp}
use Rattle.bank_meaning.specs.PolicyRules.{Grounds, asker}
use Rattle.bank_meaning.specs.Sessions.{standing_of_asker}
use Rattle.bank_meaning.specs.Slips.{slip_grounds}
use Rattle.bank_meaning.specs.declared.execution.Execution.{Execution}
use Rattle.op_prepare.specs.BookRows.{book_rows}
use Rattle.decide.specs.NamedRelease.{grounds_of}
use Rattle.decide.specs.declared.by_rows.CommandGrounds.{CommandGrounds}
use Rattle.decide.specs.declared.by_rows.Loaded.{Loaded}
use Rattle.decide.specs.declared.by_rows.Loaded.TheVariants as loaded
use Rattle.decide.specs.declared.by_rows.OperationRows.{OperationRows}
use Rattle.decide.specs.declared.by_rows.PolicyRows.{PolicyRows}
use Rattle.bank_meaning.specs.declared.request.Asked.{Asked}
use Rattle.bank_meaning.specs.declared.request.Asked.TheVariants as asked
use Rattle.bank_meaning.specs.declared.request.Request.{Request}
use Rattle.bank_meaning.specs.declared.who.Who.{Who}

-- these rows are those of a World by which an operation is judged
pub record IsLoadedFor (w : WorldLists) (x : Execution) (l : OperationRows) : Type 0 where
  pub standing : l.policy.standing ≡ option_and_then (λ user. standing w.policy user) x.who.user
  pub relations : rc_slice_items l.policy.relations ≡ relations_of w.policy (procedure_of x.op)
  pub held : rc_slice_items l.policy.held ≡ triples_of w.policy (asker x.who) (procedure_of x.op)
  pub released : option_map (grounds_of x.moment) l.policy.released ≡ release_grounds w (asker x.who) x.who.release x.moment
  pub books : l.books ≡ book_rows w x.op
  pub slip : l.slip.found ≡ (slip_grounds w x).found
  pub slips : l.slip.count ≡ (slip_grounds w x).count

-- by which a command of who asks is judged
pub record IsLoadedForCommand (w : WorldLists) (who : Who) (command : PolicyOp) (l : CommandGrounds) : Type 0 where
  pub standing : l.standing ≡ standing_of_asker who w
  pub rows : l.rows ≡ command_rows w.policy (asker who) command

-- by which an operation is judged, where the rows are those of an operation
abbrev pub IsLoadedOperation : WorldLists → Execution → Loaded → Type 0
IsLoadedOperation w x (loaded.Operation l) = IsLoadedFor w x l
IsLoadedOperation w x (loaded.Session row) = ⊥
IsLoadedOperation w x (loaded.Command l) = ⊥

-- by which a session, or the listing, is judged: the row of who asks
abbrev pub IsLoadedSession : WorldLists → Who → Loaded → Type 0
IsLoadedSession w who (loaded.Operation l) = ⊥
IsLoadedSession w who (loaded.Session row) = row ≡ standing_of_asker who w
IsLoadedSession w who (loaded.Command l) = ⊥

-- by which a command is judged, where the rows are those of a command
abbrev pub IsLoadedCommand : WorldLists → Who → PolicyOp → Loaded → Type 0
IsLoadedCommand w who command (loaded.Operation l) = ⊥
IsLoadedCommand w who command (loaded.Session row) = ⊥
IsLoadedCommand w who command (loaded.Command l) = IsLoadedForCommand w who command l

-- by which a request is judged
abbrev pub IsLoadedOf : WorldLists → Asked → Who → ℕ → Loaded → Type 0
IsLoadedOf w (asked.Operation op) who moment l = IsLoadedOperation w (record { who = who; moment = moment; op = op }) l
IsLoadedOf w asked.Opening who moment l = IsLoadedSession w who l
IsLoadedOf w asked.Ending who moment l = IsLoadedSession w who l
IsLoadedOf w (asked.Command command) who moment l = IsLoadedCommand w who command l
IsLoadedOf w asked.Listing who moment l = IsLoadedSession w who l

abbrev pub IsLoaded : WorldLists → Request → Loaded → Type 0
IsLoaded w q l = IsLoadedOf w q.asked q.who q.moment l

-- what the rules of the policy judge an operation by, of rows that were loaded
abbrev pub loaded_grounds : PolicyRows → Execution → Grounds
loaded_grounds rows x = record {
  user = asker x.who;
  standing = rows.standing;
  session = x.who.session;
  relations = rc_slice_items rows.relations;
  held = current x.moment (rc_slice_items rows.held);
  operation = row_of x.op;
  items = touched x.op;
  amount = amount x.op;
  release = x.who.release;
  released = option_map (grounds_of x.moment) rows.released;
}
