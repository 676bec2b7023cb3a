-- What a connection that opens over the trees of a World holds.
use Rattle.std.proofs.Common.{◌≡◌, refl, sym, subst}
use Rattle.sqlite.specs.Effect.{Database}
use Rattle.sqlite.specs.State.{IsLive, Opens, State}
use Rattle.bank_books.specs.WorldLists.{WorldLists}
use Rattle.sql_schema.specs.Held.{AreOfWorld, AreOfWorldIn, HoldsBank}
use Rattle.sql_schema.specs.Schema.{newest, schema_of}
use Rattle.sql_schema.specs.declared.edition.Edition.{Edition}
use Rattle.sql_adopt.specs.Adopted.{HoldsBankIn}
use Rattle.sql_adopt.proofs.SchemaLemmas.{one_schema}

-- the trees list the tables of a bank, so these are the tables that the connection found
pub opened_in : (e : Edition) (s : State) (w : WorldLists) → Opens s → IsLive s → AreOfWorldIn e w s.committed.trees → HoldsBankIn e s w
opened_in e s w opens live left =
    let world : AreOfWorldIn e w s.now.trees = subst (λ (d : Database). AreOfWorldIn e w d.trees) (sym opens.clean) left in
    let schema : s.now.schema ≡ schema_of e = sym (one_schema (schema_of e) s.now.schema s.now.trees refl world.listed (live opens.is_open).0) in
    record { now = record { schema = schema; world = world }; settled = sym opens.clean }

pub opened_bank : (s : State) (w : WorldLists) → Opens s → IsLive s → AreOfWorld w s.committed.trees → HoldsBank s w
opened_bank s w opens live left =
    let bank = opened_in newest s w opens live left in
    record { now = bank.now; settled = bank.settled }
