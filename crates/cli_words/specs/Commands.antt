-- The commands of the program, as `clap` reads them, and the action that arguments name.
use Rattle.std.specs.Prelude.{◌≡◌, ◌≤◌, ◌⊎◌, ℕ, Bool, List, [], IsNone, IsSome, IsSomeAnd, Option, Some, None, codes, false, true}
use Rattle.bank_terms.specs.Limits.{max_moment}
use Rattle.std.specs.Str.Parse.{IsNumeral, digits_value, without_leading_plus}
use Rattle.clap.specs.Words.{App, HasKind, Row, Rule, Text, fault_of, first_of, kind_of, new_app, new_rule, one_of, subcommand_of, with_rule, with_subcommand}
use Rattle.clap.specs.declared.builder.action.ArgAction.TheVariants.{SetTrue}
use Rattle.clap.specs.declared.builder.ValueParser.TheVariants as parser
use Rattle.clap.specs.declared.error.Error.{Error}
use Rattle.clap.specs.declared.error.ErrorKind.TheVariants as kind
use Rattle.counter_places.specs.declared.place.Place.{Place}
use Rattle.counter_places.specs.declared.place.Place.TheVariants as place
use Rattle.cli_words.specs.declared.words.Action.{Action}
use Rattle.cli_words.specs.declared.words.Action.TheVariants as action

-- a required option `--NAME`, whose value is a number in these bounds
abbrev pub number_rule : Text → ℕ → ℕ → Rule
number_rule id low high = record (new_rule id) {
  long = Some id;
  required = true;
  value_names = 1;
  parser = Some (parser.Unsigned low high);
}

-- a required option `--NAME`, whose value is taken as given
abbrev pub option_rule : Text → Rule
option_rule id = record (new_rule id) { long = Some id; required = true; value_names = 1 }

-- a required positional argument, which is taken as given
abbrev pub word_rule : Text → Rule
word_rule id = record (new_rule id) { required = true; value_names = 1 }

-- an option `--NAME` that may be left out, whose value is taken as given
abbrev pub optional_rule : Text → Rule
optional_rule id = record (new_rule id) { long = Some id; value_names = 1 }

-- an option `--NAME` that may be left out, with no value
abbrev pub flag_rule : Text → Rule
flag_rule id = record (new_rule id) { long = Some id; action = Some SetTrue }

-- `--moment N`, where N is 0 to 99,999,999,999
abbrev pub moment_rule : Rule
moment_rule = number_rule (codes "moment") 0 max_moment

-- `sample --moment N`
abbrev pub sample_app : App
sample_app = with_rule (new_app (codes "sample")) moment_rule

-- `init FILE DIR [--sums]`
abbrev pub init_app : App
init_app =
    with_rule (with_rule (with_rule (new_app (codes "init")) (word_rule (codes "file"))) (word_rule (codes "dir"))) (flag_rule (codes "sums"))

-- `check FILE`
abbrev pub check_app : App
check_app = with_rule (new_app (codes "check")) (word_rule (codes "file"))

-- `upgrade FILE`
abbrev pub upgrade_app : App
upgrade_app = with_rule (new_app (codes "upgrade")) (word_rule (codes "file"))

-- `forward FILE NEW [--sums]`
abbrev pub forward_app : App
forward_app =
    with_rule (with_rule (with_rule (new_app (codes "forward")) (word_rule (codes "file"))) (word_rule (codes "new"))) (flag_rule (codes "sums"))

-- `run FILE --badges LIST --moment N`
abbrev pub run_app : App
run_app =
    with_rule (with_rule (with_rule (new_app (codes "run")) (word_rule (codes "file"))) (option_rule (codes "badges"))) moment_rule

-- the greatest port
abbrev pub max_port : ℕ
max_port = 65535

-- the most messages that connections are asked to count
abbrev pub max_requests : ℕ
max_requests = 1000000

-- `serve FILE --badges LIST --port P --requests N`
abbrev pub serve_app : App
serve_app =
    with_rule (with_rule (with_rule (with_rule (new_app (codes "serve")) (word_rule (codes "file"))) (option_rule (codes "badges")))
    (number_rule (codes "port") 1 max_port)) (number_rule (codes "requests") 1 max_requests)

-- `--port P` that may be left out
abbrev pub port_rule : Rule
port_rule = record (new_rule (codes "port")) {
  long = Some (codes "port");
  value_names = 1;
  parser = Some (parser.Unsigned 1 max_port);
}

-- `--port P`, `--socket PATH` and `--inherited`
abbrev pub with_places : App → App
with_places a = with_rule (with_rule (with_rule a port_rule) (optional_rule (codes "socket"))) (flag_rule (codes "inherited"))

-- `counter FILE --badges LIST`, with one of these places, and with `--until-input-ends` or without it
abbrev pub counter_app : App
counter_app =
    with_rule (with_places (with_rule (with_rule (new_app (codes "counter")) (word_rule (codes "file"))) (option_rule (codes "badges"))))
    (flag_rule (codes "until-input-ends"))

-- the program with no command: its arguments begin after its name, and a command, or `--version`, must be among them
abbrev pub top_app : App
top_app = record {
  top = record (new_app (codes "bank_cli")).top {
    has_version = true;
    no_binary_name = true;
    subcommand_required = true;
  };
  subs = [];
}

-- the program with its commands
abbrev pub bank_app : App
bank_app =
    with_subcommand (with_subcommand (with_subcommand (with_subcommand (with_subcommand (with_subcommand (with_subcommand (with_subcommand top_app
    sample_app.top) init_app.top) check_app.top) upgrade_app.top) forward_app.top) run_app.top) serve_app.top) counter_app.top

-- the text writes this number in decimal digits; a plus sign may stand before them
abbrev pub Writes : Text → ℕ → Type 0
Writes text n =
    IsNumeral 10 (without_leading_plus text) × (digits_value 10 (without_leading_plus text) ≡ n)

-- the matches have this number for an option
abbrev pub HasNumber : List Row → Text → ℕ → Type 0
HasNumber rows id n = IsSomeAnd (one_of id rows) (λ text. Writes text n)

-- the same, and it lies in these bounds
abbrev pub HasNumberIn : List Row → Text → ℕ → ℕ → ℕ → Type 0
HasNumberIn rows id low high n = HasNumber rows id n × (low ≤ n) × (n ≤ high)

-- the matches have this text for an option or a positional argument
abbrev pub HasText : List Row → Text → Text → Type 0
HasText rows id text = first_of id rows ≡ Some text

-- the matches have this moment, which is in its range
abbrev pub HasMoment : List Row → ℕ → Type 0
HasMoment rows moment = HasNumber rows (codes "moment") moment × (moment ≤ max_moment)

-- an option with no value is set, or it is not
abbrev pub IsFlag : List Row → Text → Bool → Type 0
IsFlag rows id true = HasText rows id (codes "true")
IsFlag rows id false = ¬ (HasText rows id (codes "true"))

-- the matches have this file and this folder, and ask for sums or don't
abbrev pub AsksInit : List Row → Text → Text → Bool → Type 0
AsksInit rows file dir sums = HasText rows (codes "file") file × HasText rows (codes "dir") dir × IsFlag rows (codes "sums") sums

-- the matches have these two files, and ask for sums or don't
abbrev pub AsksForward : List Row → Text → Text → Bool → Type 0
AsksForward rows file new sums = HasText rows (codes "file") file × HasText rows (codes "new") new × IsFlag rows (codes "sums") sums

-- the matches have this file and this list of badges
abbrev pub AsksServed : List Row → Text → Text → Type 0
AsksServed rows file badges = HasText rows (codes "file") file × HasText rows (codes "badges") badges

-- the option was given, or left out
abbrev pub IsGiven : List Row → Text → Type 0
IsGiven rows id = IsSome (first_of id rows)

abbrev pub IsLeftOut : List Row → Text → Type 0
IsLeftOut rows id = IsNone (first_of id rows)

-- exactly one place is given, and it is this
abbrev pub IsPlaceIn : List Row → Place → Type 0
IsPlaceIn rows (place.Port port) =
    IsGiven rows (codes "port") × HasNumberIn rows (codes "port") 1 max_port port × IsLeftOut rows (codes "socket") × IsFlag rows (codes "inherited") false
IsPlaceIn rows (place.Socket path) = IsLeftOut rows (codes "port") × HasText rows (codes "socket") path.now × IsFlag rows (codes "inherited") false
IsPlaceIn rows place.Inherited = IsLeftOut rows (codes "port") × IsLeftOut rows (codes "socket") × IsFlag rows (codes "inherited") true

-- the command of this name, with these matches, asks for the action
abbrev pub IsNamedIn : Text → List Row → Action → Type 0
IsNamedIn name rows (action.Sample moment) = (name ≡ codes "sample") × HasMoment rows moment
IsNamedIn name rows (action.Init file dir sums) = (name ≡ codes "init") × AsksInit rows file.now dir.now sums
IsNamedIn name rows (action.Check file) = (name ≡ codes "check") × HasText rows (codes "file") file.now
IsNamedIn name rows (action.Upgrade file) = (name ≡ codes "upgrade") × HasText rows (codes "file") file.now
IsNamedIn name rows (action.Forward file new sums) = (name ≡ codes "forward") × AsksForward rows file.now new.now sums
IsNamedIn name rows (action.Run file badges moment) =
    (name ≡ codes "run") × AsksServed rows file.now badges.now × HasMoment rows moment
IsNamedIn name rows (action.Serve file badges port requests) =
    (name ≡ codes "serve") × AsksServed rows file.now badges.now × HasNumberIn rows (codes "port") 1 max_port port
    × HasNumberIn rows (codes "requests") 1 max_requests requests
IsNamedIn name rows (action.Counter file badges place until_input_ends) =
    (name ≡ codes "counter") × AsksServed rows file.now badges.now × IsPlaceIn rows place × IsFlag rows (codes "until-input-ends") until_input_ends

-- the command that was met asks for the action
abbrev pub IsNamedBy : Option (Text × List Row) → Action → Type 0
IsNamedBy None action = ⊥
IsNamedBy (Some met) action = IsNamedIn met.0 met.1 action

-- the command that was met, if any, asks for no action
abbrev pub NamesNone : Option (Text × List Row) → Type 0
NamesNone met = (action : Action) → ¬ (IsNamedBy met action)

-- why arguments are refused: memory is, or they have this fault, or they name no action
abbrev pub IsRefusal : List Text → Error → Type 0
IsRefusal words error = HasKind (fault_of bank_app words) error
    ⊎ ((kind_of error ≡ kind.MissingRequiredArgument) × NamesNone (subcommand_of bank_app words))
