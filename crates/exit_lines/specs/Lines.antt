-- What the program says on standard error, line by line.
use Rattle.std.specs.Prelude.{ℕ, List, [], ◌∷◌, ◌++◌, codes}
use Rattle.http_messages.specs.declared.serving.ServeFault.{ServeFault}
use Rattle.http_messages.specs.declared.serving.ServeFault.TheVariants.{Read, Write, Cut, Memory, Report}

-- where serving a stream failed
abbrev pub text_of : ServeFault → List ℕ
text_of Cut = codes "stream: cut"
text_of Memory = codes "memory"
text_of Read = codes "stream: broken"
text_of Write = codes "stream: broken"
text_of Report = codes "stream: broken"

-- a text with its line end
abbrev pub line : List ℕ → List ℕ
line text = text ++ 10 ∷ []
