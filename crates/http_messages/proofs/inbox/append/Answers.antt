-- The room for the bytes is as long as they are.
use Rattle.std.proofs.Common.{◌≡◌, ℕ, ◌+◌, ◌-◌, List, ◌++◌, length, take, ap, ◌∙◌, arith}
use Rattle.std.proofs.lemmas.List.{take_all}
use borrow.Rule.Slice.PartMut.{put_mid}
use Rattle.http_messages.proofs.RoomLemmas.{take_put}
use Rattle.http_messages.proofs.inbox.append.Goals as goal

pub returns : goal.returns
returns c =
    let bytes = c.args.bytes.now in
    let written : take (c.args.held + length bytes) (put_mid c.args.held ((c.args.held + length bytes) - c.args.held) c.args.room.now bytes) ≡ take c.args.held c.args.room.now ++ bytes =
    take_put c.args.held _ (length bytes) c.args.room.now bytes (omega (arith, c.requires)) (omega arith)
    ∙ ap (λ (l : List ℕ). take c.args.held c.args.room.now ++ l) (take_all (length bytes) bytes (omega arith)) in
    ap (λ (l : List ℕ). take (c.args.held + length bytes) (put_mid c.args.held ((c.args.held + length bytes) - c.args.held) c.args.room.now l)) c.copy_from_slice.ensures.after ∙ written
