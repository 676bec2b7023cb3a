-- What a caller reads of the rows of matches.
use Rattle.std.proofs.Common.{◌≡◌, ◌<◌, ◌^◌, ◌∙◌, ◌&&◌, Bool, false, true, ℕ, List, Option, Some, None, refl, sym, ap, subst, IfSome, IsNone, IsSomeAnd, option_map}
use Rattle.std.specs.Str.Parse.{ParsesUnsigned}
use Rattle.std.specs.Prelude.{Result, Ok, Err, Box}
use Rattle.clap.specs.Words.{App, FailsBy, HasMatchesOf, Row, Text, subcommand_name_of, subcommand_rows_of, is_simple, is_simple_and_free, found_of, first_of, first_value, one_text, rows_of, ReadsOne, fault_of, subcommand_of}
use Rattle.clap.specs.declared.error.Error.{Error}
use Rattle.clap.specs.declared.ArgMatches.{ArgMatches}
use Rattle.clap.proofs.WalkLemmas.{first_value-rows, one_text-rows}
use Rattle.std.specs.Box.{box_value}
use Rattle.clap.specs.Simple.{subcommand_rows}
use Rattle.clap.specs.declared.parser.matches.SubCommand.{SubCommand}
use Rattle.clap.specs.declared.parser.matches.ArgMatches.TheViews.{out-ArgMatches, out-SubCommand}
use Rattle.cli_words.specs.Commands.{HasNumber, Writes, bank_app}
use Rattle.clap.proofs.OnLiterals.{clap_on_literals}

module _ {E : Type 0} (gives : List ℕ → Result ℕ E → Type 0) (reads : (t : List ℕ) (r : Result ℕ E) → gives t r → ParsesUnsigned 64 10 t r) where
  given_by : (o : Option Text) (r : Option ℕ) → (o ≡ None → r ≡ None) → ((t : List ℕ) → o ≡ Some t → ReadsOne gives t r)
      → IfSome r (λ n. IsSomeAnd o (λ t. Writes t n))
  given_by None r none value = rw (none refl) tt
  given_by (Some t) None none value = tt
  given_by (Some t) (Some n) none value =
      let parsed = reads t (Ok n) (value t refl) in
      (parsed.0.0, sym parsed.1)

  missing_by : (o : Option Text) (r : Option ℕ) → ((t : List ℕ) → o ≡ Some t → ReadsOne gives t r) → IsNone r
      → (n : ℕ) → n < 2 ^ 64 → IsSomeAnd o (λ t. Writes t n) → ⊥
  missing_by None r value none n small has = has
  missing_by (Some t) (Some m) value none n small has = cc
  missing_by (Some t) None value none n small has =
      let error = value t refl in
      reads t (Err error.0) error.1 (has.0, rw has.1 small)

  -- a number that was read is the one that the matches have
  pub number_given : (m : ArgMatches) (id : Text) (r : Option ℕ) → (one_text (found_of m) id ≡ None → r ≡ None)
      → ((t : List ℕ) → one_text (found_of m) id ≡ Some t → ReadsOne gives t r)
      → IfSome r (HasNumber (rows_of (found_of m)) id)
  number_given m id r none value =
      subst (λ o. IfSome r (λ n. IsSomeAnd o (λ t. Writes t n))) (one_text-rows (found_of m) id) (given_by (one_text (found_of m) id) r none value)

  -- and where none was read, they have none of the type
  pub number_missing : (m : ArgMatches) (id : Text) (r : Option ℕ)
      → ((t : List ℕ) → one_text (found_of m) id ≡ Some t → ReadsOne gives t r)
      → IsNone r → (n : ℕ) → n < 2 ^ 64 → HasNumber (rows_of (found_of m)) id n → ⊥
  number_missing m id r value none n small has =
      missing_by (one_text (found_of m) id) r value none n small (subst (λ o. IsSomeAnd o (λ t. Writes t n)) (sym (one_text-rows (found_of m) id)) has)

-- matches have one number for an option
pub one_number : (o : Option Text) (n k : ℕ) → IsSomeAnd o (λ t. Writes t n) → IsSomeAnd o (λ t. Writes t k) → n ≡ k
one_number None n k h1 h2 = absurd h1
one_number (Some t) n k h1 h2 = sym h1.1 ∙ h2.1

two_is : (o : Option (Text × List Row)) (name : Text) (rows : List Row)
    → Some name ≡ option_map (λ p. p.0) o → Some rows ≡ option_map (λ p. p.1) o → o ≡ Some (name, rows)
two_is None name rows n r = cc
two_is (Some (a, b)) name rows n r = cc

names_go : {Z : Type 0} (o : Option (Box SubCommand Z)) → option_map (λ b. (out-SubCommand (box_value b)).name.now) o ≡ option_map (λ p. p.0) (subcommand_rows o)
names_go None = refl
names_go (Some b) = refl

pub subcommand_is : (m : ArgMatches) (name : Text) (rows : List Row) → Some name ≡ subcommand_name_of m
    → Some rows ≡ option_map (λ p. p.1) (subcommand_rows_of m) → subcommand_rows_of m ≡ Some (name, rows)
subcommand_is m name rows n r = two_is (subcommand_rows_of m) name rows (n ∙ names_go (out-ArgMatches m).subcommand) r

-- and no argument of it has a rule on another, so that the faults of a command line are known
pub bank_is_free : is_simple_and_free bank_app ≡ true
unfolding clap_on_literals
bank_is_free = refl

first_true : (a b : Bool) → (a && b) ≡ true → a ≡ true
first_true true b both = refl
first_true false b both = both

simple_of : (a : App) → is_simple_and_free a ≡ true → is_simple a ≡ true
simple_of a both = first_true (is_simple a) _ both

-- the command of the program is one whose matches are known
pub bank_is_simple : is_simple bank_app ≡ true
bank_is_simple = simple_of bank_app bank_is_free

-- so the command that was met is the one that the arguments name
pub met_by : (app : App) (words : List Text) (m : ArgMatches) → app ≡ bank_app → HasMatchesOf app words m → subcommand_rows_of m ≡ subcommand_of bank_app words
met_by app words m is matches = (matches (ap is_simple is ∙ bank_is_simple)).1 ∙ ap (λ a. subcommand_of a words) is

-- and the faults of the parse are those of the arguments
pub fails_by : {T : Type 0} (app : App) (words : List Text) (result : Result T Error) → app ≡ bank_app
    → (is_simple_and_free app ≡ true → FailsBy (fault_of app words) result) → FailsBy (fault_of bank_app words) result
fails_by app words result is kinds = subst (λ a. FailsBy (fault_of a words) result) is (kinds (ap is_simple_and_free is ∙ bank_is_free))

-- the text that a caller reads
pub text_is : (m : ArgMatches) (id : Text) (r : Option Text) → r ≡ first_value (found_of m) id → r ≡ first_of id (rows_of (found_of m))
text_is m id r e = e ∙ first_value-rows (found_of m) id
