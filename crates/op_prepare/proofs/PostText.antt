-- The reply to a post is the compact text of its JSON value.
use Rattle.std.proofs.Common.{◌≡◌, append_assoc}
use Rattle.serde_json.specs.Written.{compact_text}
use Rattle.serde_json.proofs.OnLiterals.{serde_json_on_literals}
use Rattle.postings.specs.declared.post.Posted.{Posted}
use Rattle.bank_meaning.specs.Post.{posted_data, posted_text}
use Rattle.op_prepare.proofs.WholeNumbers.{text_of_whole}

pub posted_text_is : (p : Posted) → compact_text (posted_data p) ≡ posted_text p
unfolding serde_json_on_literals posted_text
posted_text_is p = simp (text_of_whole, append_assoc)
