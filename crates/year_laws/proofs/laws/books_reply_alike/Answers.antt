use Rattle.year_laws.proofs.AlikeReplies as proven
use Rattle.year_laws.proofs.laws.books_reply_alike.Goals as goal

pub returns : goal.returns
returns c = proven.books_reply_alike
