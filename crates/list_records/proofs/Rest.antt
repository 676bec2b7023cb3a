-- The records that a reader has left, and what is still to be gathered of them.
use Rattle.std.proofs.Common.{◌≡◌, ◌==◌, ◌<◌, ◌≤◌, ◌+◌, ◌-◌, ℕ, zero, suc, Bool, true, false, List, [], ◌∷◌, ◌++◌, length, Option, Some, None, Result, Ok, Err, refl, sym, ap, ap₂, arith, ◌∙◌, cond, add-one, Bor, inr}
use Rattle.std.specs.Prelude.{unwrap_or}
use Rattle.std.specs.Option.{option_map_or}
use Rattle.std.proofs.lemmas.Bool.Decides.{nat_tests}
use Rattle.csv.specs.Machine.{Read, after_end, carriage_return, ends_at_end, ends_with, field_after, fields_after, in_field, is_end, next_record, start_field, start_record, step}
use Rattle.csv.specs.Reading.{ReadRecord, Reached, ReadsOn, Ready, default_config, is_bom, records_from, records_next, source_of, strip_bom}
use Rattle.csv.specs.declared.parser.Action.{Action}
use Rattle.csv.specs.declared.parser.Action.TheVariants as act
use Rattle.csv.specs.declared.parser.Terminator.TheVariants as term
use Rattle.csv.specs.declared.reader.Trim.TheVariants as trim
use Rattle.csv.specs.declared.reader.Reader.{Reader}
use Rattle.csv.specs.declared.parser.Config.{Config}
use Rattle.csv.specs.declared.parser.State.{State}
use Rattle.csv.specs.declared.parser.State.TheVariants as st
use Rattle.csv.proofs.ReadFacts.{rows-end, rows-more}
use Rattle.list_records.specs.Records.{Record, gathered, gathered_from, records_of, taken}
use Rattle.list_records.specs.declared.fault.RecordFault.{RecordFault}
use Rattle.list_records.specs.declared.fault.RecordFault.TheVariants.{Bad}

-- ---- how many bytes a record takes

some_is : {X : Type 0} (x y : X) → Some x ≡ Some y → x ≡ y
some_is x y is = cc

-- at the end of the text a record leaves nothing
at_end : (cfg : Config) (s : State) (fields : Record) (field : List ℕ) (p : Read) → next_record cfg s fields field [] ≡ Some p → (p.1 ≡ st.StartRecord) × (p.2 ≡ [])
unfolding next_record
at_end cfg s fields field p is = go (ends_at_end s) is
  where
    go : (b : Bool) → cond b (Some (fields ++ (field ∷ []), st.StartRecord, [])) None ≡ Some p → (p.1 ≡ st.StartRecord) × (p.2 ≡ [])
    go true e = let same : p ≡ (fields ++ (field ∷ []), st.StartRecord, []) = sym (some_is _ p e) in (ap (λ (q : Read). q.1) same, ap (λ (q : Read). q.2) same)
    go false e = cc

opens : (cfg : Config) (s : State) (fields : Record) (field : List ℕ) (c : ℕ) (rest : List ℕ) (p : Read) → next_record cfg s fields field (c ∷ rest) ≡ Some p
    → cond (is_end (step cfg s c).1) (Some (fields_after (step cfg s c).1 fields field, (step cfg s c).0, rest)) (next_record cfg (step cfg s c).0 (fields_after (step cfg s c).1 fields field) (field_after (step cfg s c).1 c field) rest) ≡ Some p
unfolding next_record
opens cfg s fields field c rest p is = is

-- before it takes a byte or more
leaves_less : (cfg : Config) (s : State) (fields : Record) (field ys : List ℕ) (p : Read) → next_record cfg s fields field ys ≡ Some p → length p.2 ≤ length ys - 1
leaves_less cfg s fields field [] p is = let none = ap length (at_end cfg s fields field p is).1 in omega (arith, none)
leaves_less cfg s fields field (c ∷ rest) p is = go (leaves_less cfg (step cfg s c).0 (fields_after (step cfg s c).1 fields field) (field_after (step cfg s c).1 c field) rest p) (is_end (step cfg s c).1) (opens cfg s fields field c rest p is)
  where
    go : (next_record cfg (step cfg s c).0 (fields_after (step cfg s c).1 fields field) (field_after (step cfg s c).1 c field) rest ≡ Some p → length p.2 ≤ length rest - 1)
        → (b : Bool) → cond b (Some (fields_after (step cfg s c).1 fields field, (step cfg s c).0, rest)) (next_record cfg (step cfg s c).0 (fields_after (step cfg s c).1 fields field) (field_after (step cfg s c).1 c field) rest) ≡ Some p
        → length p.2 ≤ length (c ∷ rest) - 1
    go following true e =
        let same : p ≡ (fields_after (step cfg s c).1 fields field, (step cfg s c).0, rest) = sym (some_is _ p e) in
        let long = ap (λ (q : Read). length q.2) same in
        omega (arith, long)
    go following false e = let less = following e in omega (arith, less)

-- ---- the records that are left

-- nothing after the end
ended : (cfg : Config) (n : ℕ) → records_from cfg n st.StartRecord [] ≡ []
unfolding records_from next_record
ended cfg zero = refl
ended cfg (suc n) = refl

ended_at : (cfg : Config) (n : ℕ) (p : Read) → p.1 ≡ st.StartRecord → p.2 ≡ [] → records_from cfg n p.1 p.2 ≡ []
ended_at cfg n p start none = rw (start, none) (ended cfg n)

-- as many as there are bytes, and one more, are all
left_same : (cfg : Config) (n m : ℕ) (s : State) (ys : List ℕ) → length ys < n → length ys < m → records_from cfg n s ys ≡ records_from cfg m s ys
unfolding records_from
left_same cfg zero m s ys a b = absurd (omega arith)
left_same cfg (suc n) zero s ys a b = absurd (omega arith)
left_same cfg (suc n) (suc m) s ys a b = go (left_same cfg n m) (next_record cfg s [] [] ys) refl
  where
    Same : Type 0
    Same = (t : State) (zs : List ℕ) → length zs < n → length zs < m → records_from cfg n t zs ≡ records_from cfg m t zs

    following : Same → (bytes : List ℕ) (p : Read) → length bytes < suc n → length bytes < suc m → next_record cfg s [] [] bytes ≡ Some p → records_from cfg n p.1 p.2 ≡ records_from cfg m p.1 p.2
    following same [] p c d is = let none = at_end cfg s [] [] p is in ended_at cfg n p none.0 none.1 ∙ sym (ended_at cfg m p none.0 none.1)
    following same (byte ∷ rest) p c d is = let less = leaves_less cfg s [] [] (byte ∷ rest) p is in same p.1 p.2 (omega (arith, less)) (omega (arith, less))

    go : Same → (o : Option Read) → next_record cfg s [] [] ys ≡ o → records_next (records_from cfg n) o ≡ records_next (records_from cfg m) o
    go same None is = refl
    go same (Some p) is = ap (λ l. p.0 ∷ l) (following same ys p a b is)

abbrev pub rest_of : State → List ℕ → List Record
rest_of s ys = records_from default_config (length ys + 1) s ys

opened_at : (cfg : Config) (n : ℕ) (s : State) (ys : List ℕ) (o : Option Read) → next_record cfg s [] [] ys ≡ o → records_from cfg (n + 1) s ys ≡ records_next (records_from cfg n) o
unfolding records_from
opened_at cfg n s ys o is = rw add-one (ap (records_next (records_from cfg n)) is)

rest-some : (s : State) (ys : List ℕ) (p : Read) → next_record default_config s [] [] ys ≡ Some p → rest_of s ys ≡ p.0 ∷ rest_of p.1 p.2
rest-some s ys p is = opened_at default_config (length ys) s ys (Some p) is ∙ ap (λ l. p.0 ∷ l) (following ys is)
  where
    following : (bytes : List ℕ) → next_record default_config s [] [] bytes ≡ Some p → records_from default_config (length bytes) p.1 p.2 ≡ rest_of p.1 p.2
    following [] none = let at = at_end default_config s [] [] p none in ended_at default_config 0 p at.0 at.1 ∙ sym (ended_at default_config (length p.2 + 1) p at.0 at.1)
    following (byte ∷ rest) some = let less = leaves_less default_config s [] [] (byte ∷ rest) p some in left_same default_config (length (byte ∷ rest)) (length p.2 + 1) p.1 p.2 (omega (arith, less)) (omega arith)

-- ---- how many records there are

-- a step that ends a record leaves a state in which the end of the text ends none
abbrev Ends : State × Action → Type 0
Ends after = is_end after.1 ≡ true → ends_at_end after.0 ≡ false

no_end : (s : State) (a : Action) → is_end a ≡ false → Ends (s, a)
no_end s a going is = cc

either : (b : Bool) (x y : State × Action) → Ends x → Ends y → Ends (cond b x y)
either true x y a b = a
either false x y a b = b

at_line_end : (c : ℕ) → Ends (after_end term.CRLF c, act.EndRecord)
at_line_end c = go (c == carriage_return)
  where
    go : (b : Bool) → Ends (cond b st.AfterCr st.StartRecord, act.EndRecord)
    go true is = refl
    go false is = refl

in_field-ends : (c : ℕ) → Ends (in_field default_config c)
in_field-ends c = either (c == 44) _ _ (no_end st.StartField act.EndField refl) (either (ends_with term.CRLF c) _ _ (at_line_end c) (no_end st.InField act.Copy refl))

start_field-ends : (c : ℕ) → Ends (start_field default_config c)
start_field-ends c = either (c == 34) _ _ (no_end st.InQuoted act.Skip refl) (in_field-ends c)

start_record-ends : (c : ℕ) → Ends (start_record default_config c)
start_record-ends c = either (ends_with term.CRLF c) _ _ (no_end st.StartRecord act.Skip refl) (start_field-ends c)

step-ends : (s : State) (c : ℕ) → Ends (step default_config s c)
step-ends st.StartRecord c = start_record-ends c
step-ends st.StartField c = start_field-ends c
step-ends st.InField c = in_field-ends c
step-ends st.InQuoted c = either (c == 34) _ _ (no_end st.AfterQuote act.Skip refl) (no_end st.InQuoted act.Copy refl)
step-ends st.InEscape c = no_end st.InQuoted act.Copy refl
step-ends st.AfterQuote c = either (c == 34) _ _ (no_end st.InQuoted act.Copy refl) (in_field-ends c)
step-ends st.InComment c = either (c == 10) _ _ (no_end st.StartRecord act.Skip refl) (no_end st.InComment act.Skip refl)
step-ends st.AfterCr c = either (c == 10) _ _ (no_end st.StartRecord act.Skip refl) (start_record-ends c)

stops_at : (s : State) (fields : Record) (field ys : List ℕ) (p : Read) → next_record default_config s fields field ys ≡ Some p → ends_at_end p.1 ≡ false
stops_at s fields field [] p is = ap ends_at_end (at_end default_config s fields field p is).0
stops_at s fields field (c ∷ rest) p is =
    go (stops_at (step default_config s c).0 (fields_after (step default_config s c).1 fields field) (field_after (step default_config s c).1 c field) rest p) (is_end (step default_config s c).1) refl (opens default_config s fields field c rest p is)
  where
    go : (next_record default_config (step default_config s c).0 (fields_after (step default_config s c).1 fields field) (field_after (step default_config s c).1 c field) rest ≡ Some p → ends_at_end p.1 ≡ false)
        → (b : Bool) → is_end (step default_config s c).1 ≡ b
        → cond b (Some (fields_after (step default_config s c).1 fields field, (step default_config s c).0, rest)) (next_record default_config (step default_config s c).0 (fields_after (step default_config s c).1 fields field) (field_after (step default_config s c).1 c field) rest) ≡ Some p
        → ends_at_end p.1 ≡ false
    go following true end e = ap (λ (q : Read). ends_at_end q.1) (sym (some_is _ p e)) ∙ step-ends s c end
    go following false end e = following e

-- so there are no more records than bytes
few : (n : ℕ) (s : State) (ys : List ℕ) → ends_at_end s ≡ false → length (records_from default_config n s ys) ≤ length ys
unfolding records_from next_record
few zero s ys plain = omega arith
few (suc n) s [] plain = rw plain (omega arith)
few (suc n) s (c ∷ rest) plain = go (few n) (next_record default_config s [] [] (c ∷ rest)) refl
  where
    go : ((t : State) (zs : List ℕ) → ends_at_end t ≡ false → length (records_from default_config n t zs) ≤ length zs)
        → (o : Option Read) → next_record default_config s [] [] (c ∷ rest) ≡ o → length (records_next (records_from default_config n) o) ≤ length (c ∷ rest)
    go fewer None is = omega arith
    go fewer (Some p) is =
        let less = leaves_less default_config s [] [] (c ∷ rest) p is in
        let following = fewer p.1 p.2 (stops_at s [] [] (c ∷ rest) p is) in
        omega (arith, less, following)

length-strip_bom : (text : List ℕ) → length (strip_bom text) ≤ length text
unfolding strip_bom
length-strip_bom [] = omega arith
length-strip_bom (a ∷ []) = omega arith
length-strip_bom (a ∷ b ∷ []) = omega arith
length-strip_bom (a ∷ b ∷ c ∷ rest) = go (is_bom a b c)
  where
    go : (t : Bool) → length (cond t rest (a ∷ b ∷ c ∷ rest)) ≤ length (a ∷ b ∷ c ∷ rest)
    go true = omega arith
    go false = omega arith

pub records_of-few : (text : List ℕ) → length (records_of text) ≤ length text
records_of-few text =
    let whole = few (length (strip_bom text) + 1) st.StartRecord (strip_bom text) refl in
    let mark = length-strip_bom text in
    omega (arith, whole, mark)

-- ---- a reader of a text

-- a reader of bytes in memory
abbrev pub TextReader : Type 0
TextReader = Reader (Bor (List ℕ))

abbrev bytes_left : TextReader → List ℕ
bytes_left reader = unwrap_or (source_of (λ s. Some s.now) reader) []

-- the records that a reader has left
abbrev pub rows_left : TextReader → List Record
rows_left reader = rest_of reader.state (bytes_left reader)

-- a reader that gives each field as it stands, and whose next read gives a record
pub record IsAmid (reader : TextReader) : Type 0 where
  pub trim : reader.trim ≡ trim.None
  pub ready : Ready reader
  pub config : reader.config ≡ default_config
  pub source : source_of (λ s. Some s.now) reader ≡ Some (bytes_left reader)

known : {X : Type 0} (o : Option (List X)) (xs : List X) → o ≡ Some xs → xs ≡ unwrap_or o []
known o xs is = sym (ap (λ p. unwrap_or p []) is)

-- a reader that was just made has all of them
pub amid-start : (reader : TextReader) (text : List ℕ) → reader.trim ≡ trim.None → reader.has_headers ≡ false → reader.headers ≡ None → reader.config ≡ default_config → reader.state ≡ st.StartRecord
    → source_of (λ s. Some s.now) reader ≡ Some (strip_bom text) → IsAmid reader × (rows_left reader ≡ records_of text)
amid-start reader text plain no_names no_headers config state source =
    let bytes = known _ (strip_bom text) source in (
      record { trim = plain; ready = inr (inr (no_names, no_headers)); config = config; source = source ∙ ap Some bytes },
      ap₂ rest_of state (sym bytes),
    )

-- a read takes the first of these records
pub amid-more : (a b : TextReader) (f : Record) → IsAmid a → ReadsOn a b → ReadRecord (λ s. Some s.now) a b true f → IsAmid b × (rows_left a ≡ f ∷ rows_left b)
unfolding Reached
amid-more a b f amid on read =
    let m = rows-more (λ s. Some s.now) a b f default_config a.state (bytes_left a) (bytes_left a) [] amid.config amid.source (refl, refl) read in
    let p = m.2.0 in
    let same = known _ m.0 m.1 in (
      record { trim = on.1 ∙ amid.trim; ready = (on.4 amid.ready).0; config = on.0 ∙ amid.config; source = m.1 ∙ ap Some same },
      rest-some a.state (bytes_left a) p m.2.1 ∙ cc,
    )

-- or it finds none, where there is none
pub amid-end : (a b : TextReader) (f : Record) → IsAmid a → ReadRecord (λ s. Some s.now) a b false f → rows_left a ≡ []
amid-end a b f amid read = opened_at default_config (length (bytes_left a)) a.state (bytes_left a) None (rows-end (λ s. Some s.now) a b f default_config (bytes_left a) amid.config amid.source read)

-- ---- what is still to be gathered

not_first : (n : ℕ) → (suc n + 1 == 1) ≡ false
not_first n = grind (arith, nat_tests)

module _ {S : Type 0} (begun_by with_record : S → Record → Option S) where
  -- after n records were taken
  abbrev pub still : ℕ → S → List Record → Result S RecordFault
  still zero s rows = gathered begun_by with_record s rows
  still (suc n) s rows = gathered_from begun_by with_record (suc n + 1) s rows

  -- a record after the heading
  following : (n : ℕ) (s : S) (r : Record) → taken begun_by with_record (suc n + 1) s r ≡ with_record s r
  following n s r = ap (λ b. cond b (begun_by s r) (with_record s r)) (not_first n)

  later : (n k : ℕ) (t : S) (rest : List Record) → k ≡ suc (suc n) → gathered_from begun_by with_record (suc n + 1 + 1) t rest ≡ still k t rest
  later n k t rest is = rw is (ap (λ m. gathered_from begun_by with_record m t rest) (omega arith))

  pub still-good : (n : ℕ) (s t : S) (r : Record) (rest : List Record) → taken begun_by with_record (n + 1) s r ≡ Some t → still n s (r ∷ rest) ≡ still (n + 1) t rest
  still-good zero s t r rest is = ap (λ o. option_map_or (λ u. gathered_from begun_by with_record 2 u rest) o (Err (Bad 1))) is
  still-good (suc n) s t r rest is =
      ap (λ o. option_map_or (λ u. gathered_from begun_by with_record (suc n + 1 + 1) u rest) o (Err (Bad (suc n + 1)))) (sym (following n s r) ∙ is)
      ∙ later n (suc n + 1) t rest (omega arith)

  pub still-bad : (n : ℕ) (s : S) (r : Record) (rest : List Record) → taken begun_by with_record (n + 1) s r ≡ None → still n s (r ∷ rest) ≡ Err (Bad (n + 1))
  still-bad zero s r rest is = ap (λ o. option_map_or (λ u. gathered_from begun_by with_record 2 u rest) o (Err (Bad 1))) is
  still-bad (suc n) s r rest is =
      ap (λ o. option_map_or (λ u. gathered_from begun_by with_record (suc n + 1 + 1) u rest) o (Err (Bad (suc n + 1)))) (sym (following n s r) ∙ is)

  pub still-end : (n : ℕ) (s : S) → 0 < n → still n s [] ≡ Ok s
  still-end zero s some = absurd (omega arith)
  still-end (suc n) s some = refl

  -- the same of numbers, records and answers that a loop holds
  pub goes-on : (says : Result S RecordFault) (n k : ℕ) (s t : S) (r : Record) (rows rest : List Record) (good : Bool) → says ≡ still n s rows → rows ≡ r ∷ rest → k ≡ n + 1
      → taken begun_by with_record k s r ≡ cond good (Some t) None → true ≡ good → says ≡ still k t rest
  goes-on says n k s t r rows rest false so_far first next stated is = cc
  goes-on says n k s t r rows rest true so_far first next stated is =
      so_far ∙ ap (still n s) first ∙ still-good n s t r rest (ap (λ m. taken begun_by with_record m s r) (sym next) ∙ stated) ∙ ap (λ m. still m t rest) (sym next)

  pub stops : (says : Result S RecordFault) (n k : ℕ) (s t : S) (r : Record) (rows rest : List Record) (good : Bool) → says ≡ still n s rows → rows ≡ r ∷ rest → k ≡ n + 1
      → taken begun_by with_record k s r ≡ cond good (Some t) None → false ≡ good → Err (Bad k) ≡ says
  stops says n k s t r rows rest true so_far first next stated is = cc
  stops says n k s t r rows rest false so_far first next stated is =
      sym (so_far ∙ ap (still n s) first ∙ still-bad n s r rest (ap (λ m. taken begun_by with_record m s r) (sym next) ∙ stated) ∙ ap (λ m. Err (Bad m)) (sym next))

  pub ends-empty : (says : Result S RecordFault) (n : ℕ) (s : S) (rows : List Record) → says ≡ still n s rows → rows ≡ [] → n ≡ 0 → Err (Bad 1) ≡ says
  ends-empty says n s rows so_far none is = sym (so_far ∙ ap (still n s) none ∙ ap (λ m. still m s []) is)

  pub ends-whole : (says : Result S RecordFault) (n : ℕ) (s : S) (rows : List Record) → says ≡ still n s rows → rows ≡ [] → 0 < n → Ok s ≡ says
  ends-whole says n s rows so_far none some = sym (so_far ∙ ap (still n s) none ∙ still-end n s some)
