use Rattle.bank_meaning.proofs.laws.sent_again_bears_its_slip.Goals as goal

pub returns : goal.returns
returns c v x y again known = record { user = again.user; number = again.number; known = known }
