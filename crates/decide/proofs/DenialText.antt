-- The reply to a denial is the compact text of its JSON value.
use Rattle.std.proofs.Common.{◌≡◌, refl}
use Rattle.serde_json.specs.Written.{compact_text}
use Rattle.serde_json.proofs.OnLiterals.{serde_json_on_literals}
use Rattle.bank_terms.specs.declared.rule.Rule.{Rule}
use Rattle.bank_terms.specs.declared.rule.Rule.TheVariants.{Identity, NotCertified, NoTriple, Limit, Release, Unknown, Branch, Drawer, SecondPerson, Entry, Floor, Cash, Range, Taken, Day, Full, Officer, Certifier, Separation, PolicyUnknown, PolicyState, Slip}
use Rattle.bank_meaning.specs.Denial.{denial_data, denial_text}

pub denial_text_is : (r : Rule) → compact_text (denial_data r) ≡ denial_text r
unfolding serde_json_on_literals denial_text
denial_text_is Identity = refl
denial_text_is NotCertified = refl
denial_text_is NoTriple = refl
denial_text_is Limit = refl
denial_text_is Release = refl
denial_text_is Unknown = refl
denial_text_is Branch = refl
denial_text_is Drawer = refl
denial_text_is SecondPerson = refl
denial_text_is Entry = refl
denial_text_is Floor = refl
denial_text_is Cash = refl
denial_text_is Range = refl
denial_text_is Taken = refl
denial_text_is Day = refl
denial_text_is Full = refl
denial_text_is Officer = refl
denial_text_is Certifier = refl
denial_text_is Separation = refl
denial_text_is PolicyUnknown = refl
denial_text_is PolicyState = refl
denial_text_is Slip = refl
