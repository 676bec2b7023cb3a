-- What a request is in one World: the rules against it, its effect and its reply.
use Rattle.std.specs.Prelude.{Bool, List, ℕ, [], ◌∷◌, codes, Option}
use Rattle.std.specs.List.{find}
use Rattle.bank_terms.specs.declared.rule.Rule.{Rule}
use Rattle.bank_terms.specs.declared.rule.Rule.TheVariants as rule
use Rattle.bank_books.specs.WorldLists.{WorldLists}
use Rattle.bank_meaning.specs.declared.reply_kind.ReplyKind.{ReplyKind}
use Rattle.bank_meaning.specs.declared.reply_kind.ReplyKind.TheVariants as kind

-- the type of a reply's content (RFC 9110, section 8.3)
abbrev pub content_type_of : ReplyKind → List ℕ
content_type_of kind.Json = codes "application/json"
content_type_of kind.Plain = codes "text/plain"

-- what is replied: what kind of text, and its bytes
pub record ReplyText : Type 0 where
  pub kind : ReplyKind
  pub bytes : List ℕ

abbrev pub json : List ℕ → ReplyText
json bytes = record { kind = kind.Json; bytes = bytes }

abbrev pub plain : List ℕ → ReplyText
plain bytes = record { kind = kind.Plain; bytes = bytes }

pub record Meaning : Type 0 where
  -- the rule denies it
  pub denies : Rule → Bool
  -- where none does: the World after it, and what is replied
  pub effect : WorldLists
  pub reply : ReplyText

-- The rules that follow those of the policy, in their order: those of the books, and then those on commands, of which
-- none denies an operation.
abbrev pub rules_after_policy : List Rule
rules_after_policy =
    rule.Unknown ∷ rule.Branch ∷ rule.Drawer ∷ rule.SecondPerson ∷ rule.Entry ∷ rule.Floor ∷ rule.Cash ∷ rule.Range ∷ rule.Taken ∷ rule.Day ∷ rule.Full
    ∷ rule.Officer ∷ rule.Certifier ∷ rule.Separation ∷ rule.PolicyUnknown ∷ rule.PolicyState ∷ []

-- all that is said of a request in one World: the first rule against it, or else its effect and its reply
pub record Verdict : Type 0 where
  pub first : Option Rule
  pub effect : WorldLists
  pub reply : ReplyText

-- by the rules that follow those of the policy alone: of an operation, by those of the books
abbrev pub by_books : Meaning → Verdict
by_books m = record { first = find (λ r. m.denies r) rules_after_policy; effect = m.effect; reply = m.reply }
