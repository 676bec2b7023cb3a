-- The user and the procedure that a command's members name.
use Rattle.std.specs.Prelude.{ℕ, Option, option_and_then, codes}
use Rattle.bank_terms.specs.Limits.{max_user}
use Rattle.bank_terms.specs.Procedure.{procedure_named}
use Rattle.bank_terms.specs.declared.procedure.Procedure.{Procedure}
use Rattle.serde_json.specs.Data.{Data}
use Rattle.serde_json.specs.Find.{get, as_str}
use Rattle.bodies.specs.Body.{natural_member}

-- a user, by number
abbrev pub user_member : Data → Option ℕ
user_member value = natural_member (codes "user") 1 max_user value

-- a procedure, by its name as a text
abbrev pub procedure_member : Data → Option Procedure
procedure_member value = option_and_then procedure_named (option_and_then as_str (get (codes "procedure") value))
