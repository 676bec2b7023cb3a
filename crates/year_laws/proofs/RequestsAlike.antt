-- Along whole requests both banks answer alike and stay alike, up to where they part.
use Rattle.std.proofs.Common.{◌≡◌, ◌⊎◌, ◌∙◌, ℕ, List, [], ◌∷◌, Option, Some, None, refl, ap, inl, inr}
use Rattle.bank_books.specs.SlipRow.{SlipRow}
use Rattle.bank_books.specs.WorldLists.{WorldLists}
use Rattle.counter_ops.specs.declared.op.Op.{Op}
use Rattle.world_reads.specs.BookReads.{slip}
use Rattle.bank_meaning.specs.PolicyRules.{grounds, is_released}
use Rattle.bank_meaning.specs.Requests.{executes}
use Rattle.bank_meaning.specs.Run.{reply, step}
use Rattle.bank_meaning.specs.Slips.{slip_grounds}
use Rattle.bank_meaning.specs.declared.execution.Execution.{Execution}
use Rattle.bank_meaning.specs.declared.request.Asked.{Asked}
use Rattle.bank_meaning.specs.declared.request.Asked.TheVariants as asked
use Rattle.bank_meaning.specs.declared.request.Request.{Request}
use Rattle.bank_meaning.specs.declared.who.Who.{Who}
use Rattle.year_forward.specs.Forward.{forward}
use Rattle.year_laws.specs.GoesOn.{AreBoth, Turn, op_at_old, turn_of}
use Rattle.year_laws.specs.JudgedAlike.{NamesAnEntry}
use Rattle.year_laws.specs.RequestsAlike.{AsksOfAnEntry, BanksServeAlike, BearsPastSlip, IsSameSlip, IsSlipAlike, NamesPastRelease, PartAt, RequestsAlike, ServeAlike, YearServesAlike}
use Rattle.year_laws.specs.RunAlike.{AreAnsweredAlike}
use Rattle.year_laws.proofs.OperationsServed.{again_firsts, answered, answered_again, fresh_firsts, new_stays, old_stays}
use Rattle.year_laws.proofs.PolicyAlike.{command_served, ending_served, listing_served, opening_served}
use Rattle.year_laws.proofs.ReleasedAlike.{released_or_past}
use Rattle.year_laws.proofs.RowsAlike.{carried}
use Rattle.year_laws.proofs.SlipsAlike.{same_found}
use Rattle.year_laws.proofs.StaysAlike.{turns_alike}

-- ---- requests one after another

module _ (t : Turn) (old new : WorldLists) (serve : ServeAlike t old new) (rest : List Request) (run : (o n : WorldLists) → ServeAlike t o n → RequestsAlike t o n rest) (who : Who) (moment : ℕ) where
  abbrev asks : Asked → Request
  asks a = record { who = who; moment = moment; asked = a }

  abbrev Next : Asked → Type 0
  Next a = RequestsAlike t old new (asks a ∷ rest)

  -- a request that bears no slip, a new one, or one of the next year, or one of the years before
  module _ (x : Op) (names : NamesAnEntry x) where
    abbrev at_old : Execution
    at_old = record { who = who; moment = moment; op = op_at_old t x }

    abbrev at_new : Execution
    at_new = record { who = who; moment = moment; op = x }

    abbrev Goes : Type 0
    Goes =
        PartAt t old new (executes at_new)
        ⊎ ((BearsPastSlip t old new (executes at_new) ⊎ AreAnsweredAlike t x (reply old (executes at_old)) (reply new (executes at_new))) × RequestsAlike t (step old (executes at_old)) (step new (executes at_new)) rest)

    abbrev AreReleased : Type 0
    AreReleased = (is_released (grounds old at_old) ≡ is_released (grounds new at_new)) ⊎ NamesPastRelease old new who

    -- the banks stay as they are
    standing_still : (r s : SlipRow) → (slip_grounds old at_old).found ≡ Some r → (slip_grounds new at_new).found ≡ Some s → RequestsAlike t (step old (executes at_old)) (step new (executes at_new)) rest
    standing_still r s r_is s_is =
        carried (λ o n. RequestsAlike t o n rest) _ _ _ _ (old_stays t old new serve who moment x names r r_is) (new_stays t old new serve who moment x names s s_is) (run old new serve)

    fresh : (slip_grounds old at_old).found ≡ None → (slip_grounds new at_new).found ≡ None → AreReleased → Goes
    fresh old_none new_none (inr past) = inl (inr past)
    fresh old_none new_none (inl released) = elim (fresh_firsts t old new serve who moment x names old_none new_none released) [
      | inl same ↦ let next = answered t old new serve who moment x names old_none new_none same in inr (inr next.0, run _ _ next.1)
      | inr part ↦ inl (inl part)
    ]

    again : (r s : SlipRow) → (slip_grounds old at_old).found ≡ Some r → (slip_grounds new at_new).found ≡ Some s → IsSameSlip t r s → AreReleased → Goes
    again r s r_is s_is same (inr past) = inl (inr past)
    again r s r_is s_is same (inl released) = elim (again_firsts t old new serve who moment x names r s r_is s_is same released) [
      | inl firsts ↦ inr (inr (answered_again t old new serve who moment x names r s r_is s_is same firsts), standing_still r s r_is s_is)
      | inr part ↦ inl (inl part)
    ]

    by_slip : (a b : Option SlipRow) → (slip_grounds old at_old).found ≡ a → (slip_grounds new at_new).found ≡ b → AreBoth (IsSlipAlike t) a b → AreReleased → Goes
    by_slip None None a_is b_is same released = fresh a_is b_is released
    by_slip (Some r) (Some s) a_is b_is (inl same) released = again r s a_is b_is same released
    by_slip (Some r) (Some s) a_is b_is (inr same) released =
        inr (
          inl (record {
            row = s;
            at_old = a_is ∙ ap Some same;
            at_new = b_is;
            old_stays = old_stays t old new serve who moment x names r a_is;
            new_stays = new_stays t old new serve who moment x names s b_is;
          }),
          standing_still r s a_is b_is,
        )
    by_slip None (Some s) a_is b_is same released = absurd same
    by_slip (Some r) None a_is b_is same released = absurd same

    operation : Next (asked.Operation x)
    operation = (serve.books.alike, by_slip _ _ refl refl (same_found t who moment x old new serve) (released_or_past t old new serve.books serve.policy who moment x))

  pub next : (a : Asked) → AsksOfAnEntry a → Next a
  next (asked.Operation x) names = operation x names
  next asked.Opening names = let s = opening_served t old new serve who moment in (serve.books.alike, inr (inr s.same, run _ _ s.after))
  next asked.Ending names = let s = ending_served t old new serve who moment in (serve.books.alike, inr (inr s.same, run _ _ s.after))
  next (asked.Command command) names = let s = command_served t old new serve who moment command in (serve.books.alike, inr (inr s.same, run _ _ s.after))
  next asked.Listing names = let s = listing_served t old new serve who moment in (serve.books.alike, inr (inr s.same, run _ _ s.after))

pub banks_serve_alike : BanksServeAlike
banks_serve_alike t old new serve [] names = serve.books.alike
banks_serve_alike t old new serve (q ∷ rest) names = next t old new serve rest (λ o n serves. banks_serve_alike t o n serves rest names.1) q.who q.moment q.asked names.0

-- ---- from the turn of a year

-- the slips are the same
past_slip : (w : WorldLists) (user number : ℕ) → AreBoth (IsSlipAlike (turn_of w)) (slip w user number) (slip (forward w) user number)
past_slip w user number = go (slip w user number)
  where
    go : (o : Option SlipRow) → AreBoth (IsSlipAlike (turn_of w)) o o
    go None = tt
    go (Some s) = inr refl

pub year_serves_alike : YearServesAlike
year_serves_alike w books order closed requests names =
    banks_serve_alike (turn_of w) w (forward w)
    (record { books = turns_alike w books order closed; policy = refl; version = refl; slips = past_slip w; slip_counts = λ user. refl }) requests names
