-- What was found still holds after bytes came.
use Rattle.std.proofs.Common.{rules, ◌≡◌, List, ℕ, ◌+◌, ◌++◌, take, drop, length, sym, ap, subst, ◌∙◌}
use Rattle.std.proofs.lemmas.List.{take-append-le, take_all}
use Rattle.http_messages.specs.Next.{IsAwaited}
use Rattle.http_messages.proofs.AwaitedLemmas.{awaited_more}
use Rattle.http_messages.proofs.inbox.Inbox.take.Goals as goal

pub invariant_of-self : goal.invariant_of-self
invariant_of-self c =
    let items = c.self.inside.bytes.items in
    let room = c.append.new.room in
    let whole : take c.self.inside.bytes.len (room ++ drop (length room) items) ≡ room =
    take-append-le c.self.inside.bytes.len room _ (search rules) ∙ take_all c.self.inside.bytes.len room (search rules) in
    let before : take c.self.inside.len c.as_mut_slice.result.now ≡ take c.self.inside.len items = search rules in
    let held : take (c.self.inside.len + length c.args.bytes.now) room ≡ take c.self.inside.len items ++ c.args.bytes.now =
    c.append.ensures ∙ ap (λ (l : List ℕ). l ++ c.args.bytes.now) before in
    let stands = awaited_more (take c.self.inside.len items) c.args.bytes.now c.self.inside.awaited c.self.invariant.2 in
    (search rules, search rules, subst (λ (l : List ℕ). IsAwaited l c.self.inside.awaited) (sym (ap (take (c.self.inside.len + length c.args.bytes.now)) whole ∙ held)) stands)

pub returns : goal.returns
returns c =
    let items = c.self.inside.bytes.items in
    let room = c.append.new.room in
    let whole : take c.self.inside.bytes.len (room ++ drop (length room) items) ≡ room =
    take-append-le c.self.inside.bytes.len room _ (search rules) ∙ take_all c.self.inside.bytes.len room (search rules) in
    let before : take c.self.inside.len c.as_mut_slice.result.now ≡ take c.self.inside.len items = search rules in
    ap (take (c.self.inside.len + length c.args.bytes.now)) whole ∙ c.append.ensures ∙ ap (λ (l : List ℕ). l ++ c.args.bytes.now) (before ∙ c.self.view_is)
