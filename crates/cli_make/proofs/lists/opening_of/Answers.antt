use Rattle.list_opening.specs.declared.list_fault.ListName.TheVariants as name
use Rattle.cli_make.proofs.ListLemmas.{gathered, named, seen_text, texts_known}
use Rattle.cli_make.proofs.lists.opening_of.Goals as goal

pub returns : goal.returns
returns g c =
    let known = g.L.OpeningLists.known c.args.lists.now in
    gathered known
    (named c.deref.result.now c.deref-2.result.now c.deref-3.result.now c.deref-4.result.now c.deref-5.result.now c.deref-6.result.now c.deref-7.result.now c.deref-8.result.now)
    c.stated.result
    (texts_known known c.deref.result.now c.deref-2.result.now c.deref-3.result.now c.deref-4.result.now c.deref-5.result.now c.deref-6.result.now c.deref-7.result.now c.deref-8.result.now
    (seen_text (known name.Branches) c.deref.result.now c.in_ok-branches.branches.items c.deref.ensures.value c.in_ok-branches.ensures.text)
    (seen_text (known name.Tellers) c.deref-2.result.now c.in_ok-tellers.tellers.items c.deref-2.ensures.value c.in_ok-tellers.ensures.text)
    (seen_text (known name.Accounts) c.deref-3.result.now c.in_ok-accounts.accounts.items c.deref-3.ensures.value c.in_ok-accounts.ensures.text)
    (seen_text (known name.Users) c.deref-4.result.now c.in_ok-users.users.items c.deref-4.ensures.value c.in_ok-users.ensures.text)
    (seen_text (known name.Sets) c.deref-5.result.now c.in_ok-sets.sets.items c.deref-5.ensures.value c.in_ok-sets.ensures.text)
    (seen_text (known name.Relations) c.deref-6.result.now c.in_ok-relations.relations.items c.deref-6.ensures.value c.in_ok-relations.ensures.text)
    (seen_text (known name.Triples) c.deref-7.result.now c.in_ok-triples.triples.items c.deref-7.ensures.value c.in_ok-triples.ensures.text)
    (seen_text (known name.Certifiers) c.deref-8.result.now c.in_ok-certifiers.certifiers.items c.deref-8.ensures.value c.in_ok-certifiers.ensures.text))
    c.stated.ensures
