-- What the laws on two Worlds suppose is met by what it is named for.
use Rattle.std.proofs.Common.{◌≡◌, ◌≢◌, ℕ, ◌+◌, Bool, true, false, Some, refl, subst, inl, inr, arith}
use Rattle.std.specs.Prelude.{if◌then◌else◌}
use Rattle.bank_books.specs.WorldLists.{WorldLists}
use Rattle.counter_ops.specs.declared.op.Op.{Op}
use Rattle.counter_ops.specs.declared.op.Op.TheVariants as op
use Rattle.counter_ops.specs.declared.release.Release.{Release as Given}
use Rattle.bank_meaning.specs.PolicyRules.{grounds, is_in_limit}
use Rattle.bank_meaning.specs.declared.leave.Authorization.TheVariants as leave
use Rattle.bank_meaning.specs.declared.request.Asked.{Asked}
use Rattle.bank_meaning.specs.declared.request.Asked.TheVariants as asked
use Rattle.two_worlds.specs.Agree.{releases_given}
use Rattle.two_worlds.specs.Laws.{IsNotGiven, is_operation}
use Rattle.two_worlds.specs.Premises.{AreItemsCovered, AreReleasesCovered, AreRequestsCovered, AreRowsCovered, PremisesAreMet}

-- ---- releases

-- one that is given is of the user for whom it is, and the next of that user's
not_given : (w : WorldLists) (o : Op) (user number : ℕ)
    → ((form : Given) (given : ℕ) → o ≡ op.Release form → user ≡ form.beneficiary → releases_given w user ≡ Some given → number ≢ given + 1) → IsNotGiven w o user number
not_given w (op.Release form) user number apart = λ same given is. apart form given refl same is
not_given w _ user number apart = tt

-- the release that authorizes an operation is the one that is named
named : (in_limit : Bool) (release number : ℕ) → (if in_limit then leave.Triple else leave.Release release) ≡ leave.Release number → number ≡ release
named true release number is = cc
named false release number is = cc

releases_covered : AreReleasesCovered
releases_covered = record {
  of_another = λ w x user number not_asker not_beneficiary. record {
    unused = λ is. not_asker;
    not_given = not_given w x.op user number (λ form given is same there. absurd (not_beneficiary form is same));
  };
  of_number = λ w x user number not_named not_next. record {
    unused = λ is. absurd (not_named (named (is_in_limit (grounds w x)) x.who.release number is));
    not_given = not_given w x.op user number (λ form given is same there next.
        not_next (form, given, is, subst (λ u. releases_given w u ≡ Some given) same there, next));
  };
}

-- ---- items

operations_alone : (a : Asked) → is_operation a ≡ true → (o : Op) × (a ≡ asked.Operation o)
operations_alone (asked.Operation o) is = (o, refl)
operations_alone asked.Opening is = cc
operations_alone asked.Ending is = cc
operations_alone (asked.Command command) is = cc
operations_alone asked.Listing is = cc

items_covered : AreItemsCovered
items_covered = record { blind = refl; no_operation = operations_alone }

-- ---- rows

rows_covered : AreRowsCovered
rows_covered = record {
  account = λ w x a account home not_listed. record { account = account; home = home; not_listed = not_listed };
  user = λ w x user not_asker not_giver not_beneficiary. record { not_asker = not_asker; not_giver = not_giver; not_beneficiary = not_beneficiary };
  other_procedure = λ w x t other no_release. record { not_held = λ both. other both.1; not_giver = λ r there both. no_release both.1 };
  other_user = λ w x t none. record { not_held = λ both. none.not_asker both.0; not_giver = λ r there both. none.not_giver r there both.0 };
}

-- ---- requests

requests_covered : AreRequestsCovered
requests_covered = record {
  operation = λ w v x proper agree. record { by = refl; proper = proper; agree = inl agree };
  outside = λ w v x proper policy slip outside. record { by = refl; proper = proper; agree = inr (policy, slip, outside) };
  opening = λ w v user same. record { by = refl; proper = record { asked = tt; moment = omega arith; slip = omega arith }; agree = same };
  ending = λ w v who proper same. record { by = refl; proper = proper; agree = same };
}

pub premises_are_met : PremisesAreMet
premises_are_met = (releases_covered, items_covered, rows_covered, requests_covered)
