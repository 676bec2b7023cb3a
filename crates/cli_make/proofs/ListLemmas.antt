-- What reading the opening lists gives, by what they state.
use Rattle.std.proofs.Common.{◌≡◌, ◌∙◌, ◌⊎◌, sym, subst, inl, inr, ℕ, List, Option, Result, Ok, Err}
use Rattle.bank_books.specs.WorldLists.{WorldLists}
use Rattle.list_opening.specs.Opening.{opening}
use Rattle.list_opening.specs.declared.list_fault.ListFault.{ListFault}
use Rattle.list_opening.specs.declared.list_fault.ListFault.TheVariants as of_list
use Rattle.list_opening.specs.declared.list_fault.ListName.{ListName}
use Rattle.list_opening.specs.declared.list_fault.ListName.TheVariants as name
use Rattle.cli_file.specs.Faults.{IsOfFile}
use Rattle.cli_file.specs.Texts.{IsTextOf}
use Rattle.cli_file.specs.declared.fault.ActionFault.{ActionFault}
use Rattle.cli_make.specs.Lists.{AreTextsOf, IsOpeningGathered, IsStatedBy, in_order}

-- the text is seen through a slice
pub seen_text : (known : Option (List ℕ)) (seen text : List ℕ) → seen ≡ text → IsTextOf known text → IsTextOf known seen
seen_text known seen text same is = subst (IsTextOf known) (sym same) is

-- these texts by the names of their lists
abbrev pub named : (a b c d e f g h : List ℕ) → ListName → List ℕ
named a b c d e f g h name.Branches = a
named a b c d e f g h name.Tellers = b
named a b c d e f g h name.Accounts = c
named a b c d e f g h name.Users = d
named a b c d e f g h name.Sets = e
named a b c d e f g h name.Relations = f
named a b c d e f g h name.Triples = g
named a b c d e f g h name.Certifiers = h

pub texts_known : (known : ListName → Option (List ℕ)) (a b c d e f g h : List ℕ)
    → IsTextOf (known name.Branches) a → IsTextOf (known name.Tellers) b → IsTextOf (known name.Accounts) c → IsTextOf (known name.Users) d → IsTextOf (known name.Sets) e
    → IsTextOf (known name.Relations) f → IsTextOf (known name.Triples) g → IsTextOf (known name.Certifiers) h → AreTextsOf known (named a b c d e f g h)
texts_known known a b c d e f g h ka kb kc kd ke kf kg kh name.Branches = ka
texts_known known a b c d e f g h ka kb kc kd ke kf kg kh name.Tellers = kb
texts_known known a b c d e f g h ka kb kc kd ke kf kg kh name.Accounts = kc
texts_known known a b c d e f g h ka kb kc kd ke kf kg kh name.Users = kd
texts_known known a b c d e f g h ka kb kc kd ke kf kg kh name.Sets = ke
texts_known known a b c d e f g h ka kb kc kd ke kf kg kh name.Relations = kf
texts_known known a b c d e f g h ka kb kc kd ke kf kg kh name.Triples = kg
texts_known known a b c d e f g h ka kb kc kd ke kf kg kh name.Certifiers = kh

-- what they state is what the lists state
pub gathered : (known : ListName → Option (List ℕ)) (text : ListName → List ℕ) (r : Result WorldLists ActionFault) → AreTextsOf known text → IsStatedBy (in_order text) r → IsOpeningGathered known r
gathered known text (Ok w) of is = (text, of, is)
gathered known text (Err stated) of (inl memory) = inl (subst IsOfFile (sym memory) tt)
gathered known text (Err stated) of (inr (why, is, so)) = inr (text, of, why, is, so)

pub stated_world : (texts : List (List ℕ)) (r : Result WorldLists ListFault) (w : WorldLists) → (r ≡ opening texts) ⊎ (r ≡ Err of_list.Memory) → r ≡ Ok w → opening texts ≡ Ok w
stated_world texts r w (inl e) is = sym e ∙ is
stated_world texts r w (inr e) is = cc
