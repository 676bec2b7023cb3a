use Rattle.std.proofs.Common.{rules, ◌≡◌, None, ◌∙◌, IsUtf8}
use Rattle.requests.proofs.RouteLemmas.{no_text_at}
use Rattle.requests.proofs.routes.Routes.posted.Goals as goal

pub returns-in_err-path : goal.returns-in_err-path
returns-in_err-path c =
    let none : c.from_residual.result ≡ None = search rules in
    let no_text : ¬ (IsUtf8 c.args.target.now) = search rules in
    none ∙ no_text_at _ no_text
