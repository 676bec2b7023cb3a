-- In two Worlds in which items are alike, the rows that forms look at are the same.
use Rattle.std.proofs.Common.{◌≡◌, ℕ, refl, ap, ap₂, arith, sym, ◌∙◌}
use Rattle.std.specs.Prelude.{option_map}
use Rattle.bank_terms.specs.declared.item.Cdi.{Cdi}
use Rattle.bank_books.specs.Books.{Books}
use Rattle.bank_books.specs.Records.{account_record, branch_record, teller_record}
use Rattle.bank_books.specs.WorldLists.{WorldLists}
use Rattle.counter_ops.specs.Touched.{account_item, branch_item, drawer_item, history_item, teller_item, touched_by_drawer, vault_item}
use Rattle.rule_tests.specs.BranchParts.{cash_book_of, ledger_of}
use Rattle.drawers.specs.DrawerRows.{drawer_rows}
use Rattle.two_worlds.specs.View.{view_of}
use Rattle.two_worlds.proofs.DrawerSum.{book_in, book_seen}
use Rattle.two_worlds.proofs.Seen.{account_in, account_seen, day_seen, ledger_in, ledger_seen, teller_in, teller_seen, vault_in, vault_seen}
use Rattle.two_worlds.proofs.Within.{AreAlike}

module _ (w v : WorldLists) (books : Books w) (books' : Books v) where
  abbrev pub Same : Cdi → Type 0
  Same item = view_of w item ≡ view_of v item

  pub same_account : (key : ℕ) → Same (account_item key) → account_record w key ≡ account_record v key
  same_account key same = account_seen w key ∙ ap account_in same ∙ sym (account_seen v key)

  pub same_teller : (key : ℕ) → Same (teller_item key) → Same (drawer_item key) → teller_record w key ≡ teller_record v key
  same_teller key same drawer = teller_seen w key ∙ ap₂ (teller_in key) same drawer ∙ sym (teller_seen v key)

  pub same_ledger : (key : ℕ) → Same (branch_item key) → Same (history_item key) → option_map ledger_of (branch_record w key) ≡ option_map ledger_of (branch_record v key)
  same_ledger key same history = ledger_seen w key ∙ ap₂ ledger_in same history ∙ sym (ledger_seen v key)

  pub same_book : (key : ℕ) → Same (branch_item key) → option_map cash_book_of (branch_record w key) ≡ option_map cash_book_of (branch_record v key)
  same_book key same = book_seen w key books ∙ ap book_in same ∙ sym (book_seen v key books')

  pub same_vault : (key : ℕ) → Same (vault_item key) → option_map (λ b. b.vault) (branch_record w key) ≡ option_map (λ b. b.vault) (branch_record v key)
  same_vault key same = vault_seen w key ∙ ap vault_in same ∙ sym (vault_seen v key)

  pub same_day : (key : ℕ) → Same (branch_item key) → option_map (λ b. b.row.day) (branch_record w key) ≡ option_map (λ b. b.row.day) (branch_record v key)
  same_day key same = day_seen w key ∙ ap (λ s. option_map (λ row. row.day) s.branch) same ∙ sym (day_seen v key)

  -- the rows of a drawer that is put on or off
  pub same_drawer : (teller branch : ℕ) → AreAlike (touched_by_drawer teller branch) w v → drawer_rows w teller branch ≡ drawer_rows v teller branch
  same_drawer teller branch same =
      let holder = same_teller teller (same (teller_item teller) (0, omega arith, refl)) (same (drawer_item teller) (2, omega arith, refl)) in
      let book = same_book branch (same (branch_item branch) (1, omega arith, refl)) in
      let vault = same_vault branch (same (vault_item branch) (3, omega arith, refl)) in
      λ i. record { teller = holder i; cash_book = book i; vault = vault i }
