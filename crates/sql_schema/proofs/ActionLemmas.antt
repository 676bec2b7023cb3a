-- What a write of one table sets off in others: a relation that goes takes its triples with it, and nothing else is set off.
use Rattle.std.proofs.Common.{◌≡◌, ◌==◌, ◌++◌, ℕ, Bool, true, false, cond, List, [], ◌∷◌, Option, Some, None, refl}
use Rattle.std.specs.List.{list_any, cons_option}
use Rattle.sqlite.specs.Order.{Row}
use Rattle.sqlite.specs.Table.{Table}
use Rattle.sqlite_schema.specs.Rules.{ParentKey}
use Rattle.sqlite_schema.specs.declared.schema.Keys.TheVariants.{Enforced}
use Rattle.sqlite_schema.specs.declared.schema.Reference.{Reference}
use Rattle.sqlite_rules.specs.Action.{Work, loses, pairs, work_by, works}
use Rattle.sqlite_rules.specs.declared.action.Deed.{Deed}
use Rattle.sqlite_rules.specs.declared.action.Deed.TheVariants as deed
use Rattle.sqlite_value.specs.Keys.{plain}
use Rattle.sqlite_tied.specs.Compute.{everything}
use Rattle.sql_schema.specs.Schema.{bank_schema, to_relation, grants_table}

elsewhere : (depth tree : ℕ) (moves : List (Row × Row)) (child : Table) (ref : Reference) (d : Option Deed) (key : ParentKey) → (key.0 == tree) ≡ false → work_by depth tree moves child ref d (Some key) ≡ None
elsewhere depth tree moves child ref None key apart = refl
elsewhere depth tree moves child ref (Some d) key apart = rw apart refl

-- no reference is to another table than that of the relations
pub nothing_set_off : (depth tree : ℕ) → (5 == tree) ≡ false → (olds news : List Row) → works bank_schema Enforced depth tree olds news ≡ []
unfolding everything
nothing_set_off depth tree apart olds news = rw (elsewhere depth tree (pairs olds news) grants_table to_relation) refl

-- that the triples go of relations that went
abbrev pub triples_work : List Row → Work
triples_work olds = record { depth = 0; child = grants_table; ref = to_relation; places = 1 ∷ 2 ∷ []; order = plain; deed = deed.Delete; moves = pairs olds [] }

one_or_none : (b : Bool) (w : Work) → cons_option (cond b (Some w) None) [] ++ [] ≡ cond b (w ∷ []) []
one_or_none true w = refl
one_or_none false w = refl

pub relations_set_off : (olds : List Row) → works bank_schema Enforced 0 5 olds [] ≡ cond (list_any (loses plain (1 ∷ 2 ∷ [])) (pairs olds [])) (triples_work olds ∷ []) []
unfolding everything
relations_set_off olds = one_or_none _ (triples_work olds)
