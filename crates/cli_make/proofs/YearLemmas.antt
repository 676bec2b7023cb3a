-- What ending a year and beginning the next come to.
use Rattle.std.proofs.Common.{◌≡◌, inr, sym, subst, refl}
use Rattle.std.specs.Prelude.{Bool, IfErr, Result, Ok, Err}
use Rattle.sqlite_disk.specs.declared.Disk.{Ghosts}
use Rattle.sqlite_wal.specs.Recovery.{Image}
use Rattle.sqlite.specs.declared.FileStore.{FileStore}
use Rattle.sqlite.specs.Files.{file_state}
use Rattle.sqlite.specs.Held.{Held}
use Rattle.sqlite.specs.Schema.{Schema}
use Rattle.money.specs.declared.fault.Fault.{Fault}
use Rattle.money.specs.declared.fault.Fault.TheVariants as store
use Rattle.bank_books.specs.Records.{kept_of}
use Rattle.bank_books.specs.WorldLists.{WorldLists}
use Rattle.bank_meaning.specs.Sums.{PassesChecks}
use Rattle.sql_adopt.proofs.SoundLemmas.{holds_or_fails, sound_or_fails}
use Rattle.sql_create.specs.Made.{IsRefusal}
use Rattle.sql_create.specs.declared.open_fault.OpenFault.{OpenFault}
use Rattle.sql_create.specs.declared.open_fault.OpenFault.TheVariants as making
use Rattle.year_forward.specs.Forward.{forward}
use Rattle.year_laws.proofs.Judged.{forward_passes_checks}
use Rattle.cli_file.specs.Faults.{IsOfFile, fault_of_store}
use Rattle.cli_file.specs.Opened.{HoldTheBank, IsOpenedFrom}
use Rattle.cli_file.specs.Sums.{HasSumsAsAsked}
use Rattle.cli_file.specs.Unopened.{IsUnopenedFor}
use Rattle.cli_file.specs.declared.fault.ActionFault.{ActionFault}
use Rattle.cli_file.specs.declared.fault.ActionFault.TheVariants as fault
use Rattle.cli_file.specs.declared.left.FileLeft.{FileLeft}
use Rattle.cli_file.specs.declared.left.FileLeft.TheVariants as left
use Rattle.cli_file.specs.declared.left.PathLeft.{PathLeft}
use Rattle.cli_file.specs.declared.left.PathLeft.TheVariants as path
use Rattle.cli_make.specs.Faults.{fault_of_making}
use Rattle.cli_make.specs.Making.{IsMadeIn}
use Rattle.cli_make.specs.Forwarding.{IsForwarded, IsForwardedTo, IsNextOf, IsOfNewFile, IsYearClosed}
use Rattle.cli_make.specs.Reading.{IsNextYear, IsNotBegun, IsYearEnded, IsYearRead}

-- ---- the year that ends

-- want of memory keeps the next year from beginning
pub out_of_memory : (w : WorldLists) (why : Fault) → why ≡ store.Memory → IsNotBegun w (fault_of_store why)
out_of_memory w store.Memory is = refl
out_of_memory w store.Size is = cc
out_of_memory w store.Disk is = cc
out_of_memory w store.Stopped is = cc

module _ {D : Type 0} {g : Ghosts D} (opened left : Held (FileStore D g)) where
  pub ended : (w : WorldLists) → IsYearRead opened w left → (r : Result WorldLists ActionFault) → IsNextYear w r → IsYearEnded opened left r
  ended w read (Ok next) is = (w, read, is.0, is.1)
  ended w read (Err stated) is = inr (w, read, is)

-- ---- faults of a file

of_new_file : (stated : ActionFault) → IsOfFile stated → IsOfNewFile stated
of_new_file fault.NotRead is = tt
of_new_file fault.Memory is = tt
of_new_file fault.NotABank is = absurd is
of_new_file (fault.List why) is = absurd is
of_new_file (fault.Badge list row) is = absurd is
of_new_file (fault.Books why) is = absurd is
of_new_file (fault.Policy why) is = absurd is
of_new_file fault.OtherVersion is = absurd is
of_new_file fault.NotEmpty is = absurd is
of_new_file (fault.NotClosed branch) is = absurd is
of_new_file fault.Cut is = absurd is
of_new_file fault.Broken is = absurd is

store_of_new_file : (why : Fault) → IsOfNewFile (fault_of_store why)
store_of_new_file store.Memory = tt
store_of_new_file store.Size = tt
store_of_new_file store.Disk = tt
store_of_new_file store.Stopped = tt

-- ---- the bank of the next year

-- of a World that passes both checks no bank is refused for its books or its policy
not_refused : (w : WorldLists) (schema : Schema) (why : OpenFault) → PassesChecks w → IsRefusal schema w why → IsOfNewFile (fault_of_making why)
not_refused w schema (making.Books why) checks is = absurd (holds_or_fails w (kept_of w) why (checks.books, refl) is)
not_refused w schema (making.Policy why) checks is = absurd (sound_or_fails w.policy why (checks.sound, checks.separated) is.1)
not_refused w schema making.NotEmpty checks is = tt
not_refused w schema (making.Fault why) checks is = store_of_new_file why

module _ {D : Type 0} (g : Ghosts D) (opened : Held (FileStore D g)) (w : WorldLists) where
  pub made_refused : PassesChecks w → (l : FileLeft D g) (r : Result Unit ActionFault) → IsMadeIn g opened w l r → IfErr r IsOfNewFile
  made_refused checks (left.Open conn) r (stated, is, same) =
      subst (λ (z : Result Unit ActionFault). IfErr z IsOfNewFile) (sym same) (subst IsOfNewFile (sym is.is_reported) (not_refused w (file_state opened).now.schema is.why checks is.refused))
  made_refused checks (left.Closed files) r (done, same) = subst (λ (z : Result Unit ActionFault). IfErr z IsOfNewFile) (sym same) tt
  made_refused checks (left.Unclosed rest) r (kept, stated, made, is, same) =
      subst (λ (z : Result Unit ActionFault). IfErr z IsOfNewFile) (sym same) (of_new_file stated is.of_file)

module _ {A D : Type 0} (f : Ghosts A) (earlier : Image) (g : Ghosts D) (image : Image) (ended : Held (FileStore A f)) where
  next_of : (opened : Held (FileStore D g)) (w : WorldLists) → IsYearClosed f earlier g image w ended → (l : FileLeft D g) (r : Result Unit ActionFault) → IsMadeIn g opened (forward w) l r
      → IsNextOf f earlier g image ended l
  next_of opened w year (left.Open conn) r is = tt
  next_of opened w year (left.Closed files) r (done, same) =
      λ v held clean. subst (λ (z : WorldLists). HoldTheBank g files (forward z)) (year.read.bank earlier v held year.from clean) done.bank
  next_of opened w year (left.Unclosed rest) r is = tt

  -- the World of a year that is closed, and what is left of its file
  pub closed_year : (opened : Held (FileStore A f)) → IsOpenedFrom earlier opened → (next : WorldLists) → IsYearEnded opened ended (Ok next)
      → (w : WorldLists) × IsYearClosed f earlier g image w ended × (next ≡ forward w)
  closed_year opened from next year = (year.0, record { opened = opened; from = from; read = year.1; closed = year.2 }, year.3)

  pub forwarded : (w : WorldLists) → IsYearClosed f earlier g image w ended → (next : WorldLists) → next ≡ forward w → (opened : Held (FileStore D g)) → IsOpenedFrom image opened
      → (sums : Bool) → HasSumsAsAsked sums image opened → (l : FileLeft D g) (r : Result Unit ActionFault) → IsMadeIn g opened next l r
      → IsForwardedTo f earlier g image sums ended l r
  forwarded w year next same opened from sums asked l r is =
      let made : IsMadeIn g opened (forward w) l r = subst (λ (z : WorldLists). IsMadeIn g opened z l r) same is in
      record {
        world = w;
        year = year;
        opened = opened;
        from = from;
        asked = asked;
        made = made;
        next = next_of opened w year l r made;
        refused = made_refused g opened (forward w) (forward_passes_checks w year.read.passes) l r made;
      }

module _ {A D E O : Type 0} (f : Ghosts A) (earlier : Image) (g : Ghosts D) (image : Image) (sums : Bool) (earlier_opener : E) (opener : O) where
  pub not_opened : (old : PathLeft E (FileLeft A f)) (stated : ActionFault) → IsUnopenedFor earlier_opener old stated
      → IsForwarded f earlier g image sums earlier_opener opener old (path.Unopened opener) (Err stated)
  not_opened (path.Unopened o) stated is = (refl, is)
  not_opened path.Refused stated is = (refl, is)
  not_opened (path.Opened left) stated is = absurd is
