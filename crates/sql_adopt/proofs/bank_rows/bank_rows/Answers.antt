use Rattle.std.proofs.Common.{sym, subst, ◌∙◌, ap, map}
use Rattle.std.specs.Prelude.{is_some}
use Rattle.std.specs.List.Sorted.{IsNonDecreasingBy}
use Rattle.bank_books.specs.Keys.{account_key, branch_key, entry_key, teller_key}
use Rattle.sql_adopt.proofs.bank_rows.bank_rows.Goals as goal

pub returns-clause-found : goal.returns-clause-found
returns-clause-found c can =
    sym (ap is_some c.in-None.is)
    ∙ c.from_lists.ensures.in_order.1 (record {
      branches_in_order = subst (IsNonDecreasingBy branch_key) (sym (c.in_ok-all_made.ensures ∙ ap (map (λ b. b.row)) c.deref.ensures.value)) can.branches;
      tellers_in_order = subst (IsNonDecreasingBy teller_key) (sym (c.in_ok-all_made-2.ensures ∙ ap (map (λ t. t.row)) c.deref-2.ensures.value)) can.tellers;
      accounts_in_order = subst (IsNonDecreasingBy account_key) (sym (c.in_ok-all_made-3.ensures ∙ ap (map (λ a. a.row)) c.deref-3.ensures.value)) can.accounts;
      entries_in_order = subst (IsNonDecreasingBy entry_key) (sym (c.in_ok-all_made-4.ensures ∙ ap (map (λ e. e.row)) c.deref-4.ensures.value)) can.entries;
      lines_in_order = can.lines;
      proofs_in_order = can.proofs;
      releases_in_order = can.releases;
      slips_in_order = can.slips;
    })
