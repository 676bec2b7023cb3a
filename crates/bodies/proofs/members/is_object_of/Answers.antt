use Rattle.std.proofs.Common.{◌==◌, sym, ap, ◌∙◌, option_map, unwrap_or, false}
use Rattle.serde_json.specs.Events.{members_len}
use Rattle.serde_json.proofs.Views.{members_len-members_view}
use Rattle.bodies.proofs.members.is_object_of.Goals as goal

pub returns-in-Some : goal.returns-in-Some
returns-in-Some c =
    ap (λ n. n == c.args.count) c.len.ensures.len
    ∙ ap (λ n. n == c.args.count) (sym (members_len-members_view c.in-Some.members.now.entries))
    ∙ ap (λ o. unwrap_or (option_map (λ members. members_len members == c.args.count) o) false) c.in-Some.ensures
