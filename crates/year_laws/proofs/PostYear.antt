-- A post at the bank that goes on and at the next year's.
use Rattle.std.proofs.Common.{None, Option, Some, [], ap, ap₂, not, refl, ℕ, ◌+ℤ◌, ◌≡◌}
use Rattle.std.specs.Option.{option_map_or}
use Rattle.std.specs.Prelude.{option_and_then, option_map}
use Rattle.bank_books.specs.Records.{account_record, branch_record, teller_record}
use Rattle.bank_books.specs.WorldLists.{WorldLists}
use Rattle.bank_books.specs.declared.records.AccountRecord.{AccountRecord}
use Rattle.bank_books.specs.declared.records.BranchRecord.{BranchRecord}
use Rattle.bank_books.specs.declared.signature.Signature.{Signature}
use Rattle.counter_ops.specs.declared.op.Op.TheVariants as op
use Rattle.counter_ops.specs.declared.post.Post.{Post}
use Rattle.rule_tests.specs.BranchParts.{ledger_of}
use Rattle.postings.specs.Post.{post_rows, post_tests, posted, posted_of}
use Rattle.bank_meaning.specs.Meaning.{json}
use Rattle.bank_meaning.specs.Operations.{meaning_of}
use Rattle.bank_meaning.specs.Post.{posted_text}
use Rattle.year_laws.specs.GoesOn.{AreBoth, GoesOn, IsSameAccount, IsSameBranch, Turn, op_at_old}
use Rattle.year_laws.specs.RepliedAlike.{IsRepliedAlike, posted_at_old}
use Rattle.year_laws.proofs.AlikeRows.{covers_same}
use Rattle.year_laws.proofs.IsYearForm.{IsYearForm}
use Rattle.year_laws.proofs.NextNumbers.{next}
use Rattle.year_laws.proofs.PostsAlike.{post_stays}
use Rattle.year_laws.proofs.TestParts.{AreTestsAlike, anew, either, floors, held_by, no_account, no_book, no_ledger, no_teller, of_branch}

-- ---- what is replied, by the records that it is made of

module _ (t : Turn) (n : ℕ) where
  post_left : (post : Post) (a b : Option AccountRecord) (c d : Option BranchRecord) → AreBoth (IsSameAccount n) a b → AreBoth (IsSameBranch (t.entries post.branch)) c d
      → option_and_then (λ account. option_map (λ ledger. posted post account ledger) (option_map ledger_of c)) a
      ≡ option_map (posted_at_old t) (option_and_then (λ account. option_map (λ ledger. posted post account ledger) (option_map ledger_of d)) b)
  post_left post None None c d same also = refl
  post_left post (Some a) (Some b) None None same also = refl
  post_left post (Some a) (Some b) (Some c) (Some d) same also =
      ap₂ (λ z e. Some (record { balance = z +ℤ post.delta; branch = post.branch; entry = e })) same.balance (next c.entries d.entries (t.entries post.branch) also.entries)
  post_left post None (Some b) c d same also = absurd same
  post_left post (Some a) None c d same also = absurd same
  post_left post (Some a) (Some b) None (Some d) same also = absurd also
  post_left post (Some a) (Some b) (Some c) None same also = absurd also

-- ---- at both banks

module _ (t : Turn) (old new : WorldLists) (on : GoesOn t old new) where
  post_alike : (post : Post) (by : Signature) → AreTestsAlike (post_tests (post_rows old post) post by) (post_tests (post_rows new post) post by)
  post_alike post by = (
    refl,
    (λ z. either (either (either (no_account on post.account) (no_teller on post.teller)) (no_ledger on post.branch)) (no_book on post.branch)),
    (
      refl,
      (λ z. ap not (of_branch on post.teller post.branch)),
      (
        refl,
        (λ z. ap not (held_by on post.teller by.user)),
        (
          refl,
          (λ z. ap not (floors on post.account post.delta)),
          (
            refl,
            (λ z. ap not (covers_same (teller_record old post.teller) (teller_record new post.teller) (on.tellers post.teller) post.delta)),
            (
              refl,
              (λ z. anew _ _ z),
              (
                refl,
                (λ z. anew _ _ z),
                tt,
              ),
            ),
          ),
        ),
      ),
    ),
  )

  post_replied : (post : Post) (by : Signature) → IsRepliedAlike t (op.Post post) (meaning_of (op_at_old t (op.Post post)) by old).reply (meaning_of (op.Post post) by new).reply
  post_replied post by = (
    posted_of (post_rows new post) post,
    ap (λ o. json (option_map_or posted_text o [])) (post_left t (t.turns post.account) post (account_record old post.account) (account_record new post.account)
        (branch_record old post.branch) (branch_record new post.branch) (on.accounts post.account) (on.branches post.branch)),
    refl,
  )

pub post_in_years : (form : Post) → IsYearForm (op.Post form)
post_in_years form = record {
  tests = λ t old new on names by. post_alike t old new on form by;
  replies = λ t old new on names by. post_replied t old new on form by;
  kept = λ t a b replied. (replied.0, ap (λ r. json r.bytes) replied.1, ap (λ r. json r.bytes) replied.2);
  stays = λ t old new stay names by old_none new_none. post_stays t old new stay form by old_none new_none;
}
