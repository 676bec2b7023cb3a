-- A post: what it looks at in two Worlds, and what it changes.
use Rattle.std.proofs.Common.{List, arith, inr, refl, ℕ, ◌≡◌, ◌≢◌}
use Rattle.bank_books.specs.Books.{Books}
use Rattle.bank_books.specs.WorldLists.{WorldLists}
use Rattle.bank_books.specs.declared.rows.Teller.{Teller}
use Rattle.bank_books.specs.declared.signature.Signature.{Signature}
use Rattle.counter_ops.specs.Touched.{account_item, branch_item, drawer_item, history_item, teller_item, touched_by_post}
use Rattle.counter_ops.specs.declared.op.Op.TheVariants as op
use Rattle.counter_ops.specs.declared.post.Post.{Post}
use Rattle.postings.specs.Post.{post_changes, post_rows}
use Rattle.postings.specs.declared.post.PostRows.{PostRows}
use Rattle.bank_meaning.specs.Operations.{meaning_of}
use Rattle.two_worlds.specs.Laws.{IsNotGiven}
use Rattle.two_worlds.proofs.IsLocalForm.{IsLocalForm}
use Rattle.two_worlds.proofs.PlanParts.{IsCarried, by_row, not_nothing, passed_teller}
use Rattle.two_worlds.proofs.SameRows.{same_account, same_book, same_ledger, same_teller}
use Rattle.two_worlds.proofs.Within.{AreAlike, IsOfBranch}

-- ---- what it looks at

module _ (w v : WorldLists) (books : Books w) (books' : Books v) where
  rows_same : (post : Post) → AreAlike (touched_by_post post) w v → post_rows w post ≡ post_rows v post
  rows_same post same =
      let branch = same (branch_item post.branch) (2, omega arith, refl) in
      let account = same_account w v books books' post.account (same (account_item post.account) (0, omega arith, refl)) in
      let teller = same_teller w v books books' post.teller (same (teller_item post.teller) (1, omega arith, refl)) (same (drawer_item post.teller) (4, omega arith, refl)) in
      let ledger = same_ledger w v books books' post.branch branch (same (history_item post.branch) (3, omega arith, refl)) in
      let book = same_book w v books books' post.branch branch in
      λ i. record { account = account i; teller = teller i; ledger = ledger i; cash_book = book i }

-- ---- what it changes

posts : (tellers : List Teller) (other : ℕ → ℕ → Type 0) (rows : PostRows) (post : Post) (by : Signature) → post.teller ≢ 0 → IsOfBranch tellers post.teller post.branch
    → IsCarried (touched_by_post post) tellers other (post_changes rows post by)
posts tellers other rows post by drawer of =
    let items = touched_by_post post in
    by_row items tellers other _ rows.account (λ account. by_row items tellers other _ rows.ledger (λ ledger. by_row items tellers other _ rows.cash_book (λ book. record {
      releases = λ user number is o. refl;
      within = (
        record { account = (0, omega arith, refl); teller = (1, omega arith, refl); branch = (2, omega arith, refl); history = (3, omega arith, refl); of = of },
        (record { branch = (2, omega arith, refl); place = inr (drawer, (4, omega arith, refl), of) }, tt),
      );
    })))

pub post_is_local : (form : Post) → IsLocalForm (op.Post form)
post_is_local form = record {
  rows_same = λ by w v bank bank' same held agree. rows_same w v bank.books bank'.books form same;
  carried = λ by w distinct proper none.
      let of = passed_teller w (meaning_of (op.Post form) by w) form.teller form.branch distinct refl none in
      posts w.tellers (IsNotGiven w (op.Post form)) (post_rows w form) form by (not_nothing form.teller proper.teller) of;
}
