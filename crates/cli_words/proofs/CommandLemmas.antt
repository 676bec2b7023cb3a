-- What a command reads as once arguments were added to it, one after the other.
use Rattle.std.proofs.Common.{◌≡◌, Bool, false, true, ap, ap₂, ◌∙◌, IfOk}
use Rattle.std.specs.Prelude.{◌||◌, Result, Ok, Err}
use Rattle.clap.specs.Words.{App, Rule, app_of, rule_of, with_rule}
use Rattle.clap.specs.Built.{AddsArg}
use Rattle.clap.specs.Simple.{app_of_fields}
use Rattle.clap.specs.declared.builder.arg.Arg.{Arg}
use Rattle.clap.specs.declared.builder.command.Command.{Command}
use Rattle.clap.specs.declared.builder.command.Command.TheOpen.{Command-F}
use Rattle.clap.specs.declared.builder.command.Command.TheViews.{out-Command as fields_of}
use Rattle.cli_words.specs.Commands.{with_places}

neither : (a b : Bool) → a ≡ false → b ≡ false → (a || b) ≡ false
neither false false one other = one
neither false true one other = other
neither true b one other = one

module _ (old : Command) (a : Arg) (new : Command) where
  -- it got an argument that is not global
  pub shaped : (app : App) (rule : Rule) → app_of old ≡ app → rule_of a ≡ rule → a.global ≡ false → AddsArg old a new → app_of new ≡ with_rule app rule
  shaped app rule is one local adds = adds.shape local ∙ ap₂ with_rule is one

  pub stays_local : (fields_of old).has_globals ≡ false → a.global ≡ false → AddsArg old a new → (fields_of new).has_globals ≡ false
  stays_local none local adds = adds.globals ∙ neither _ _ none local

-- how a command reads, and that no argument of it is global
pub record Reads (c : Command) (app : App) : Type 0 where
  pub reads : app_of c ≡ app
  pub local : (fields_of c).has_globals ≡ false

pub added : (old : Command) (a : Arg) (new : Command) (app : App) (rule : Rule) → Reads old app → rule_of a ≡ rule → a.global ≡ false → AddsArg old a new → Reads new (with_rule app rule)
added old a new app rule one is local adds = record {
  reads = shaped old a new app rule one.reads is local adds;
  local = stays_local old a new one.local local adds;
}

-- something of it was set that is not read here
pub begun : (old new : Command) (fields : Command-F Command) (app : App) → fields_of new ≡ fields → app_of_fields fields ≡ app_of old → fields.has_globals ≡ (fields_of old).has_globals
    → app_of old ≡ app → (fields_of old).has_globals ≡ false → Reads new app
begun old new fields app set same still is local = record {
  reads = ap app_of_fields set ∙ same ∙ is;
  local = ap (λ (f : Command-F Command). f.has_globals) set ∙ still ∙ local;
}

-- it got the places at which connections may be waited for
pub placed : (old new : Command) (app : App) → Reads old app → app_of new ≡ with_places (app_of old)
    → ((fields_of old).has_globals ≡ false → (fields_of new).has_globals ≡ false) → Reads new (with_places app)
placed old new app one shape local = record {
  reads = shape ∙ ap with_places one.reads;
  local = local one.local;
}

-- what was made, if anything was, has both
pub both : {T E : Type 0} (P Q : T → Type 0) (r : Result T E) → IfOk r P → IfOk r Q → IfOk r (λ t. P t × Q t)
both P Q (Ok t) one other = (one, other)
both P Q (Err e) one other = tt
