-- A post: the ranges of its members, and its numbers in the order in which its form names them.
use Rattle.std.specs.Prelude.{ℤ, pos, List, [], ◌∷◌}
use Rattle.money.specs.Range.{IsDelta}
use Rattle.counter_ops.specs.declared.post.Post.{Post}
use Rattle.row_members.specs.Ranges.{IsKey}

pub record IsPost (post : Post) : Type 0 where
  pub account : IsKey post.account
  pub branch : IsKey post.branch
  pub delta : IsDelta post.delta
  pub teller : IsKey post.teller

abbrev pub post_numbers : Post → List ℤ
post_numbers post = pos post.account ∷ pos post.teller ∷ pos post.branch ∷ post.delta ∷ []
