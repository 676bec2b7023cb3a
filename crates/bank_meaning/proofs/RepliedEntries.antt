-- What the replies to a post, a transfer and a correction say is so after it.
use Rattle.std.proofs.Common.{◌≡◌, ◌≢◌, ℕ, ◌==◌, ℤ, pos, ◌+ℤ◌, Bool, true, false, not, [], ◌∷◌, None, Some, Contains, refl, ap, ap₂, arith, sym, subst, ◌∙◌}
use Rattle.std.specs.Prelude.{◌&&◌, if◌then◌else◌}
use Rattle.std.specs.Option.{option_map_or}
use Rattle.std.proofs.lemmas.Bool.{eq-eqb, ne_eqb}
use Rattle.std.proofs.lemmas.Int.{ints}
use Rattle.keyed_rows.proofs.Rows.{Contains-head, Contains-tail}
use Rattle.bank_books.specs.Balances.{account_balance}
use Rattle.bank_books.specs.Records.{account_record_of, branch_record_of}
use Rattle.bank_books.specs.WorldLists.{WorldLists}
use Rattle.bank_books.specs.declared.row_write.RowWrite.TheVariants as write
use Rattle.bank_books.specs.declared.rows.Entry.{Entry}
use Rattle.bank_books.specs.declared.signature.Signature.{Signature}
use Rattle.counter_ops.specs.Correct.{IsCorrect}
use Rattle.counter_ops.specs.Transfer.{IsTransfer}
use Rattle.counter_ops.specs.declared.correct.Correct.{Correct}
use Rattle.counter_ops.specs.declared.op.Op.TheVariants as op
use Rattle.counter_ops.specs.declared.post.Post.{Post}
use Rattle.counter_ops.specs.declared.transfer.Transfer.{Transfer}
use Rattle.postings.specs.Correct.{correct_changes, correct_effect, correct_rows, corrected_of, is_of_post, post_undone, transfer_undone, undoing}
use Rattle.postings.specs.Post.{post_changes, post_effect, post_rows, posted_of}
use Rattle.postings.specs.Transfer.{given, taken, transfer_changes, transfer_effect, transfer_rows, transferred_of}
use Rattle.postings.specs.declared.correct.CorrectRows.{CorrectRows}
use Rattle.postings.proofs.AllowedCorrect as correct_allowed
use Rattle.postings.proofs.AllowedPost as post_allowed
use Rattle.postings.proofs.AllowedTransfer as transfer_allowed
use Rattle.rule_tests.specs.BranchParts.{ledger_of}
use Rattle.bank_meaning.specs.Correct.{IsCorrectJudged, IsCorrectReplied, corrected_text}
use Rattle.bank_meaning.specs.JudgedRows.{KeepsFloor}
use Rattle.bank_meaning.specs.Meaning.{ReplyText, json}
use Rattle.bank_meaning.specs.Operations.{moves_of}
use Rattle.bank_meaning.specs.Post.{IsPostJudged, IsPostReplied, posted_text}
use Rattle.bank_meaning.specs.Transfer.{IsTransferJudged, IsTransferReplied, transferred_text}
use Rattle.bank_meaning.proofs.Replied.{added_here, balance_after, first_of_two, second_of_two}
use Rattle.bank_meaning.proofs.Steps.{IsStep}

-- ---- a post

pub post_replied : (by : Signature) (w : WorldLists) (post : Post) → IsPostJudged w by.user post → IsStep w (post_effect w post by) (moves_of (op.Post post))
    → IsPostReplied (post_effect w post by) (post_changes (post_rows w post) post by) post.branch post.account (json (option_map_or posted_text (posted_of (post_rows w post) post) []))
post_replied by w post judged step =
    let there : post_allowed.AreThere w post = record {
      account = judged.floor.row;
      account_is = judged.floor.there;
      teller = judged.drawer.row;
      teller_is = judged.drawer.there;
      branch = judged.branch.0;
      branch_is = judged.branch.1;
    } in
    let e : Entry = post_allowed.entry_of w post there by in
    let moved = step.accounts post.account ∙ ap (λ z. account_balance w post.account +ℤ z) (added_here post.account post.delta) in
    record {
      entry = e;
      added = subst (λ rows. Contains rows (write.Entry e)) (sym (post_allowed.changes_are w post there by)) (Contains-head (write.Entry e) (write.Line (post_allowed.line_of w post there by) ∷ []));
      says =
          ap (λ rows. json (option_map_or posted_text (posted_of rows post) [])) (post_allowed.rows_are w post there)
          ∙ ap (λ z. json (posted_text (record { balance = z; branch = post.branch; entry = e.number }))) (balance_after w (post_effect w post by) post.account judged.floor.row post.delta judged.floor.there moved);
    }

-- ---- a transfer

pub transfer_replied : (by : Signature) (w : WorldLists) (t : Transfer) → IsTransfer t → IsTransferJudged w by.user t → IsStep w (transfer_effect w t by) (moves_of (op.Transfer t))
    → IsTransferReplied (transfer_effect w t by) (transfer_changes (transfer_rows w t) t by) t.branch t.source t.target (json (option_map_or transferred_text (transferred_of (transfer_rows w t) t) []))
transfer_replied by w t proper judged step =
    let there : transfer_allowed.AreThere w t = record {
      source = judged.source.row;
      source_is = judged.source.there;
      target = judged.target.row;
      target_is = judged.target.there;
      teller = judged.drawer.row;
      teller_is = judged.drawer.there;
      branch = judged.branch.0;
      branch_is = judged.branch.1;
    } in
    let first : Entry = transfer_allowed.first_of w t there by in
    let second : Entry = transfer_allowed.second_of w t there by in
    let after : WorldLists = transfer_effect w t by in
    let at_source = step.accounts t.source ∙ ap (λ z. account_balance w t.source +ℤ z) (first_of_two (taken t) (given t) t.source t.target proper.two_accounts) in
    let at_target = step.accounts t.target ∙ ap (λ z. account_balance w t.target +ℤ z) (second_of_two (taken t) (given t) t.source t.target proper.two_accounts) in
    record {
      first = first;
      first_added = subst (λ rows. Contains rows (write.Entry first)) (sym (transfer_allowed.changes_are w t there by)) (Contains-head (write.Entry first) (write.Entry second ∷ []));
      first_account = refl;
      second = second;
      second_added = subst (λ rows. Contains rows (write.Entry second)) (sym (transfer_allowed.changes_are w t there by))
          (Contains-tail (write.Entry first) (write.Entry second ∷ []) (write.Entry second) (Contains-head (write.Entry second) []));
      second_account = refl;
      says =
          ap (λ rows. json (option_map_or transferred_text (transferred_of rows t) [])) (transfer_allowed.rows_are w t there)
          ∙ ap₂ (λ s g. json (transferred_text (record { branch = t.branch; first = first.number; second = second.number; source = s; target = g })))
          (balance_after w after t.source judged.source.row (taken t) judged.source.there at_source) (balance_after w after t.target judged.target.row (given t) judged.target.there at_target);
    }

-- ---- a correction

-- of a post the other account is none, and adds nothing
of_post_alone : (c : Correct) (b : Bool) → is_of_post c ≡ true → (if c.account == c.account then undoing c else pos 0) +ℤ (if not (is_of_post c) && b then c.delta else pos 0) ≡ undoing c
of_post_alone c b post =
    ap (λ x. x +ℤ (if not (is_of_post c) && b then c.delta else pos 0)) (added_here c.account (undoing c))
    ∙ ap (λ x. undoing c +ℤ (if not x && b then c.delta else pos 0)) post ∙ none_more (undoing c)
  where
    none_more : (v : ℤ) → v +ℤ pos 0 ≡ v
    none_more v = omega (arith, ints)

-- of a transfer it is one of two
of_legs : (c : Correct) (key : ℕ) → is_of_post c ≡ false
    → (if c.account == key then undoing c else pos 0) +ℤ (if not (is_of_post c) && c.other == key then c.delta else pos 0) ≡ (if c.account == key then undoing c else pos 0) +ℤ (if c.other == key then c.delta else pos 0)
of_legs c key legs = ap (λ x. (if c.account == key then undoing c else pos 0) +ℤ (if not x && c.other == key then c.delta else pos 0)) legs

abbrev said_of : CorrectRows → Correct → ReplyText
said_of rows c = json (option_map_or corrected_text (corrected_of rows c) [])

module _ (by : Signature) (w : WorldLists) (c : Correct) (judged : IsCorrectJudged w by.user c) (step : IsStep w (correct_effect w c by) (moves_of (op.Correct c))) where
  abbrev there : correct_allowed.AreThere w c
  there = record {
    account = judged.floor.row;
    account_is = judged.floor.there;
    teller = judged.drawer.row;
    teller_is = judged.drawer.there;
    branch = judged.branch;
    branch_is = judged.branch_there;
    entry = judged.row;
    entry_is = judged.there;
  }

  of_post_replied : c.other ≡ 0 → IsPostReplied (correct_effect w c by) (correct_changes (correct_rows w c) c by) c.branch c.account (said_of (correct_rows w c) c)
  of_post_replied none =
      let post : is_of_post c ≡ true = eq-eqb c.other 0 none in
      let e : Entry = correct_allowed.entry_of w c there by in
      let account = account_record_of w judged.floor.row in
      let ledger = ledger_of (branch_record_of w judged.branch) in
      let moved = step.accounts c.account ∙ ap (λ z. account_balance w c.account +ℤ z) (of_post_alone c (c.other == c.account) post) in
      record {
        entry = e;
        added = subst (λ rows. Contains rows (write.Entry e)) (sym (correct_allowed.changes_of_post w c there by post)) (Contains-head (write.Entry e) (write.Line (correct_allowed.line_of w c there by) ∷ []));
        says =
            ap (λ rows. said_of rows c) (correct_allowed.rows_are_of_post w c there post)
            ∙ ap (λ b. json (option_map_or corrected_text (if b then Some (post_undone c account ledger) else None) [])) post
            ∙ ap (λ z. json (posted_text (record { balance = z; branch = c.branch; entry = e.number }))) (balance_after w (correct_effect w c by) c.account judged.floor.row (undoing c) judged.floor.there moved);
      }

  of_transfer_replied : IsCorrect c → c.other ≢ 0 → IsTransferReplied (correct_effect w c by) (correct_changes (correct_rows w c) c by) c.branch c.account c.other (said_of (correct_rows w c) c)
  of_transfer_replied proper some =
      let legs : is_of_post c ≡ false = ne_eqb c.other 0 some in
      let other : KeepsFloor w c.other c.delta = judged.other_floor some in
      let also : correct_allowed.OtherIsThere w c = record { other = other.row; other_is = other.there } in
      let first : Entry = correct_allowed.first_of w c there by in
      let second : Entry = correct_allowed.second_of w c there also by in
      let account = account_record_of w judged.floor.row in
      let ledger = ledger_of (branch_record_of w judged.branch) in
      let after : WorldLists = correct_effect w c by in
      let at_account = step.accounts c.account ∙ ap (λ z. account_balance w c.account +ℤ z) (of_legs c c.account legs ∙ first_of_two (undoing c) c.delta c.account c.other proper.two_accounts) in
      let at_other = step.accounts c.other ∙ ap (λ z. account_balance w c.other +ℤ z) (of_legs c c.other legs ∙ second_of_two (undoing c) c.delta c.account c.other proper.two_accounts) in
      record {
        first = first;
        first_added = subst (λ rows. Contains rows (write.Entry first)) (sym (correct_allowed.changes_of_legs w c there also by legs)) (Contains-head (write.Entry first) (write.Entry second ∷ []));
        first_account = refl;
        second = second;
        second_added = subst (λ rows. Contains rows (write.Entry second)) (sym (correct_allowed.changes_of_legs w c there also by legs))
            (Contains-tail (write.Entry first) (write.Entry second ∷ []) (write.Entry second) (Contains-head (write.Entry second) []));
        second_account = refl;
        says =
            ap (λ rows. said_of rows c) (correct_allowed.rows_are_of_legs w c there also legs)
            ∙ ap (λ b. json (option_map_or corrected_text (if b then Some (post_undone c account ledger) else Some (transfer_undone c account (account_record_of w other.row) ledger)) [])) legs
            ∙ ap₂ (λ s g. json (transferred_text (record { branch = c.branch; first = first.number; second = second.number; source = s; target = g })))
            (balance_after w after c.account judged.floor.row (undoing c) judged.floor.there at_account) (balance_after w after c.other other.row c.delta other.there at_other);
      }

  pub correct_replied : IsCorrect c → IsCorrectReplied (correct_effect w c by) (correct_changes (correct_rows w c) c by) c (said_of (correct_rows w c) c)
  correct_replied proper = record { of_post = of_post_replied; of_transfer = of_transfer_replied proper }
