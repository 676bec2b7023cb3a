use Rattle.std.proofs.Common.{◌≡◌, inl, inr, sym, refl, subst, List, map, IfErr}
use Rattle.std.specs.Prelude.{Result, Ok, Err, IsErrAnd, Option}
use Rattle.clap.specs.Words.{HasKind, Row, Text, fault_of}
use Rattle.clap.specs.declared.error.Error.{Error}
use Rattle.cli_words.specs.Commands.{IsNamedBy, IsRefusal, NamesNone, bank_app}
use Rattle.cli_words.specs.declared.words.Action.{Action}
use Rattle.cli_words.proofs.Matched.{fails_by, met_by}
use Rattle.cli_words.proofs.words.read_words.Goals as goal

pub returns-in-Some-clause-taken : goal.returns-in-Some-clause-taken
returns-in-Some-clause-taken c = fails_by _ (map (λ w. w.now) c.args.words.now) (Ok c.in_ok-matches.matches) c.in_ok-command.ensures c.in_ok-matches.ensures.kinds

-- the error of the parse goes on as it is
refused_by : (words : List Text) (result : Result Action Error) (error : Error) → IsErrAnd result (λ e. e ≡ error)
    → HasKind (fault_of bank_app words) error → IfErr result (IsRefusal words)
refused_by words (Ok a) error same kinds = tt
refused_by words (Err e) error same kinds = rw same (inl kinds)

pub returns-in_err-matches-clause-refused : goal.returns-in_err-matches-clause-refused
returns-in_err-matches-clause-refused c =
    let words : List Text = map (λ w. w.now) c.args.words.now in
    let error = c.in_err-matches.field-0.0 in
    refused_by words c.from_residual-in_err-matches.result error c.from_residual-in_err-matches.ensures.1
    (fails_by {T = Action} _ words (Err error) c.in_ok-command.ensures c.in_err-matches.ensures.kinds)

pub returns-in-Some-clause-named : goal.returns-in-Some-clause-named
returns-in-Some-clause-named c =
    subst (λ (met : Option (Text × List Row)). IsNamedBy met c.in-Some.action) (met_by _ (map (λ w. w.now) c.args.words.now) c.in_ok-matches.matches c.in_ok-command.ensures c.in_ok-matches.ensures.ok.2) c.in-Some.ensures.named

pub returns-clause-refused : goal.returns-clause-refused
returns-clause-refused c =
    inr (
      c.in_ok-error-in-None.ensures.kind,
      subst NamesNone (met_by _ (map (λ w. w.now) c.args.words.now) c.in_ok-matches.matches c.in_ok-command.ensures c.in_ok-matches.ensures.ok.2) (c.in-None.ensures.missing refl),
    )
