-- A post that no rule denies leaves both banks alike.
use Rattle.std.proofs.Common.{◌≡◌, ◌+◌, None, refl, ap}
use Rattle.bank_books.specs.Effects.{applied, written}
use Rattle.bank_books.specs.WorldLists.{WorldLists}
use Rattle.bank_books.specs.declared.row_write.RowWrite.TheVariants as write
use Rattle.bank_books.specs.declared.rows.EntryForm.TheVariants as entry
use Rattle.bank_books.specs.declared.signature.Signature.{Signature}
use Rattle.counter_ops.specs.declared.post.Post.{Post}
use Rattle.postings.specs.Post.{first_against_post, post_effect, post_rows}
use Rattle.postings.proofs.AllowedPost.{AreThere, IsAllowed, are_there, changes_are, entry_of, is_allowed, line_of}
use Rattle.year_laws.specs.GoesOn.{Turn, entry_at_old}
use Rattle.year_laws.specs.StaysAlike.{StayAlike}
use Rattle.year_laws.proofs.EntriesAlike.{entry_stays}
use Rattle.year_laws.proofs.FoundAlike.{drawer_of, entries_are, lines_are, one_more, same_account, same_branch}
use Rattle.year_laws.proofs.LinesAlike.{line_stays}
use Rattle.year_laws.proofs.NextRows.{IsNextEntry, IsNextLine}
use Rattle.year_laws.proofs.RowsAlike.{carried}

next_entry : (w : WorldLists) (post : Post) (by : Signature) (there : AreThere w post) → IsNextEntry w.accounts w.entries (entry_of w post there by)
next_entry w post by there = record { number = ap (λ n. n + 1) (entries_are w post.branch there.branch there.branch_is); account = (there.account, there.account_is) }

next_line : (w : WorldLists) (post : Post) (by : Signature) (there : AreThere w post) → IsAllowed (post_rows w post) post by → IsNextLine w.tellers w.lines (line_of w post there by)
next_line w post by there allowed = record {
  number = ap (λ n. n + 1) (lines_are w post.branch there.branch there.branch_is);
  place = λ some. drawer_of w post.branch post.teller there.teller there.teller_is allowed.of_branch;
}

module _ (t : Turn) (old new : WorldLists) (stay : StayAlike t old new) (post : Post) (by : Signature) where
  entry_is : (o : AreThere old post) (n : AreThere new post) → entry_of old post o by ≡ entry_at_old t (entry_of new post n by)
  entry_is o n =
      let account = same_account t old new stay.alike post.account o.account n.account o.account_is n.account_is in
      let branch = same_branch t old new stay.alike post.branch o.branch n.branch o.branch_is n.branch_is in
      let number = one_more _ _ (t.entries post.branch) branch.entries in
      let turn = one_more _ _ (t.turns post.account) account.turns in
      let day = branch.day in
      λ i. record {
        branch = post.branch;
        number = number i;
        account = post.account;
        turn = turn i;
        teller = post.teller;
        delta = post.delta;
        moment = by.moment;
        day = day i;
        user = by.user;
        form = entry.Post;
        partner = 0;
        undoes = 0;
      }

  pub post_stays : first_against_post (post_rows old post) post by ≡ None → first_against_post (post_rows new post) post by ≡ None → StayAlike t (post_effect old post by) (post_effect new post by)
  post_stays old_none new_none =
      let old_allowed = is_allowed (post_rows old post) post by old_none in
      let new_allowed = is_allowed (post_rows new post) post by new_none in
      let o = are_there old post by old_allowed in
      let n = are_there new post by new_allowed in
      let entered = entry_stays t old new stay (entry_of old post o by) (entry_of new post n by) (entry_is o n) (next_entry old post by o) (next_entry new post by n) in
      carried (StayAlike t) _ _ _ _ (ap (λ changes. applied changes old) (changes_are old post o by)) (ap (λ changes. applied changes new) (changes_are new post n by))
      (line_stays t (written (write.Entry (entry_of old post o by)) old) (written (write.Entry (entry_of new post n by)) new) entered (line_of old post o by) (line_of new post n by)
      (record { branch = refl; place = refl; amount = refl; form = refl; user = refl }) (next_line old post by o old_allowed) (next_line new post by n new_allowed))
