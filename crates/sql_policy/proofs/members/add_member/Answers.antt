use Rattle.std.proofs.Common.{Ok, [], ◌∷◌, pos, subst}
use Rattle.sqlite.specs.Held.{state}
use Rattle.sqlite.specs.State.{Executes}
use Rattle.sqlite.specs.declared.types.Value.TheVariants.{Int}
use Rattle.keyed_rows.specs.Ordered.{add_row}
use Rattle.book_kept.specs.Sheets.{member_no}
use Rattle.sql_schema.proofs.StepChains.{stepped}
use Rattle.sql_schema.proofs.StepLemmas.{write_steps}
use Rattle.sql_policy.specs.Texts.{add_member_text}
use Rattle.sql_policy.proofs.MemberLemmas.{adds_member}
use Rattle.sql_policy.proofs.members.add_member.Goals as goal

pub returns-clause-step : goal.returns-clause-step
returns-clause-step g c =
    let old = state g.S.Store c.args.tx.now.conn.now in
    let new = state g.S.Store c.insert_member.new.tx.conn.now in
    stepped c.insert_member.ensures.frame (λ clean inside s holds.
    write_steps add_member_text _ old new (Ok c.in_ok-insert_member.field-0) (record s { members = add_row member_no c.args.member.now s.members }) (c.in_ok-insert_member.ensures.runs clean inside)
    (λ count h. (adds_member old new s c.args.member.now count c.insert_member.ensures.small holds (subst (λ n. Executes add_member_text (Int (pos c.args.member.now.set) ∷ Int (pos c.args.member.now.place) ∷ Int (pos n) ∷ Int (pos c.args.member.now.member.low) ∷ Int (pos c.args.member.now.member.high) ∷ []) old new (Ok count)) c.kind_number-kind.ensures h)).0))

pub returns-clause-free : goal.returns-clause-free
returns-clause-free g c clean inside s holds =
    let old = state g.S.Store c.args.tx.now.conn.now in
    let new = state g.S.Store c.insert_member.new.tx.conn.now in
    (adds_member old new s c.args.member.now c.in_ok-insert_member.field-0 c.insert_member.ensures.small holds (subst (λ n. Executes add_member_text (Int (pos c.args.member.now.set) ∷ Int (pos c.args.member.now.place) ∷ Int (pos n) ∷ Int (pos c.args.member.now.member.low) ∷ Int (pos c.args.member.now.member.high) ∷ []) old new (Ok c.in_ok-insert_member.field-0)) c.kind_number-kind.ensures (c.in_ok-insert_member.ensures.runs clean inside).0)).1
