-- Whether a statement returns rows by RETURNING hangs on its text alone: one that does not over one schema does not over any.
use Rattle.std.proofs.Common.{◌≡◌, ◌+◌, ℕ, List, length, ◌==◌, false, Option, Some, None, Ok, Err, Result, inl, inr, refl, sym, ap, subst, ◌∙◌}
use Rattle.std.proofs.lemmas.Bool.{cases_Bool}
use Rattle.sqlite.proofs.Callers.{IsPlain}
use Rattle.sqlite.specs.Listing.{if_select, is_select, listing_schema, reads_listing, understood}
use Rattle.sqlite_ast.specs.declared.Shown.{Shown}
use Rattle.sqlite_ast.specs.declared.Statement.{Statement}
use Rattle.sqlite_ast.specs.declared.Statement.TheVariants as written
use Rattle.sqlite_resolve.specs.Compile.{command, compiled, first, meaning, planned, returning, shows, small, source_of, target, timed, with_command}
use Rattle.sqlite_resolve.specs.Body.{table_at}
use Rattle.sqlite_resolve.specs.Given.{returned as terms}
use Rattle.sqlite_resolve.specs.Lowering.{Checked, and_then}
use Rattle.sqlite_resolve.specs.Scope.{Name}
use Rattle.sqlite_resolve.specs.declared.compiled.Compiled.{Compiled}
use Rattle.sqlite_resolve.specs.declared.error.CompileError.{CompileError}
use Rattle.sqlite_schema.specs.declared.command.Command.{Command}
use Rattle.sqlite_schema.specs.declared.command.Returning.{Returning}
use Rattle.sqlite_schema.specs.declared.schema.Schema.{Schema}
use Rattle.sqlite_syntax.specs.declared.statement.Parsed.{Parsed}

-- a step that gave a value gave it from what the one before gave
went : {A B : Type 0} (r : Checked A) (f : A → Checked B) (b : B) → and_then r f ≡ Ok b → (a : A) × (r ≡ Ok a) × (f a ≡ Ok b)
went (Ok a) f b h = (a, refl, h)
went (Err e) f b h = absurd cc

never : {A B : Type 0} (r : Checked A) (f : A → Checked B) (b : B) → and_then r f ≡ Ok b → ((a : A) → f a ≡ Ok b → ⊥) → ⊥
never (Ok a) f b h none = none a h
never {B = B} (Err e) f b h none = absurd (let wrong : ◌≡◌ {A = Checked B} (Err e) (Ok b) = h in cc)

is_some : (x : Returning) → ◌≡◌ {A = Checked (Option Returning)} (Ok (Some x)) (Ok None) → ⊥
is_some x h = absurd cc

inner : {A : Type 0} (x y : A) → ◌≡◌ {A = Checked A} (Ok x) (Ok y) → x ≡ y
inner x y both = cc

same_ok : {A : Type 0} (r : Checked A) (x y : A) → r ≡ Ok x → r ≡ Ok y → x ≡ y
same_ok r x y one two = inner x y (sym one ∙ two)

-- RETURNING shows something of each schema, or of none
shows_none : (a b : Schema) (i j : ℕ) (name : Name) (list : List Shown) (what : Option Returning) → shows a i name list ≡ Ok None → shows b j name list ≡ Ok what → what ≡ None
unfolding shows
shows_none a b i j name list what none some = elim (cases_Bool (length list == 0)) [
  | inl empty ↦ let is = rw empty at some in cc
  | inr more ↦
      let known : and_then (target a name) (λ at. and_then (table_at a at) (λ table. and_then (terms a table i list) (λ r. and_then (source_of a (length r.0) r.1) (λ s. Ok (Some (record { names = r.0; row = s })))))) ≡ Ok None = rw more at none in
      absurd (never (target a name) _ None known (λ at h. never (table_at a at) _ None h (λ table h. never (terms a table i list) _ None h (λ r h. never (source_of a (length r.0) r.1) _ None h (λ s h. is_some _ h)))))
]

returns_none : (a b : Schema) (i j : ℕ) (st : Statement) (what : Option Returning) → returning a i st ≡ Ok None → returning b j st ≡ Ok what → what ≡ None
unfolding returning
returns_none a b i j (written.Insert how name columns rows clauses list) what none some = shows_none a b i j name list what none some
returns_none a b i j (written.Update name sets test list) what none some = shows_none a b i j name list what none some
returns_none a b i j (written.Delete name test list) what none some = shows_none a b i j name list what none some
returns_none a b i j _ what none some = cc

-- what is returned by a statement that was compiled
pub record Returned (s : Schema) (p : Parsed) (c : Compiled) : Type 0 where
  pub base : ℕ
  pub is : returning s base p.statement ≡ Ok c.returning

returned : (s : Schema) (p : Parsed) (c : Compiled) → and_then (planned s p) (λ plan. Ok (with_command p plan)) ≡ Ok c → Returned s p c
unfolding planned meaning
returned s p c h = go (planned s p) refl h
  where
    go : (r : Checked (List Name × (Command × Option Returning))) → planned s p ≡ r → and_then r (λ plan. Ok (with_command p plan)) ≡ Ok c → Returned s p c
    go (Ok plan) is h =
        let found = went (meaning s p (small p.names + small (timed s p.formats p.statement))) (λ found. Ok (timed s p.formats p.statement, found)) plan is in
        let shown = went (returning s (small p.names + small (timed s p.formats p.statement)) p.statement) (λ shown. and_then (command s p.formats (small p.names + small (timed s p.formats p.statement)) p.statement) (λ c. Ok (c, shown))) found.0 found.1 in
        let last = went (command s p.formats (small p.names + small (timed s p.formats p.statement)) p.statement) (λ c. Ok (c, shown.0)) found.0 shown.2 in
        record {
          base = small p.names + small (timed s p.formats p.statement);
          is = shown.1 ∙ ap (λ x. Ok x) (ap (λ r. r.1) (inner _ _ last.2) ∙ ap (λ q. q.1.1) (inner _ _ found.2) ∙ ap (λ (k : Compiled). k.returning) (inner _ _ h));
        }
    go (Err e) is h = absurd cc

compiled_none : (a b : Schema) (text : List ℕ) (c d : Compiled) → compiled a text ≡ Ok c → c.returning ≡ None → compiled b text ≡ Ok d → d.returning ≡ None
unfolding compiled
compiled_none a b text c d one none two =
    let p = went _ _ c one in
    let q = went _ _ d two in
    let same = same_ok (first text) q.0 p.0 q.1 p.1 in
    let r = returned a p.0 c p.2 in
    let s = subst (λ x. Returned b x d) same (returned b q.0 d q.2) in
    returns_none a b r.base s.base p.0.statement d.returning (r.is ∙ ap (λ x. Ok x) none) s.is

selected : (r : Result Compiled CompileError) (c : Compiled) → if_select r ≡ Ok c → r ≡ Ok c
selected (Ok d) c h = elim (cases_Bool (is_select d.command)) [ inl is_one ↦ rw is_one at h | inr is_none ↦ absurd (let wrong = rw is_none at h in cc) ]
selected (Err e) c h = absurd cc

plain_ok : (r : Result Compiled CompileError) → IsPlain r → (c : Compiled) × (r ≡ Ok c) × (c.returning ≡ None)
plain_ok (Ok c) plain = (c, refl, plain.0)
plain_ok (Err e) plain = absurd plain

pub unreturned : (a b : Schema) (text : List ℕ) → reads_listing a text ≡ false → IsPlain (understood a text) → (c : Compiled) → understood b text ≡ Ok c → c.returning ≡ None
unfolding understood
unreturned a b text unlisted plain c is =
    let one = plain_ok (compiled a text) (rw unlisted at plain) in
    elim (cases_Bool (reads_listing b text)) [
      | inl listed ↦ compiled_none a listing_schema text one.0 c one.1 one.2 (selected (compiled listing_schema text) c (rw listed at is))
      | inr unlisted ↦ compiled_none a b text one.0 c one.1 one.2 (rw unlisted at is)
    ]
