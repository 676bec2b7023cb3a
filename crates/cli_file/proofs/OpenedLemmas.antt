-- What a connection holds that was opened over an image.
use Rattle.std.proofs.Common.{◌≡◌, ◌≢◌, inl, inr, arith, sym, subst, IsTrue, Ok}
use Rattle.std.proofs.Math.Logic.{∥∥₁_elim}
use Rattle.sqlite_disk.specs.declared.Disk.{Ghosts}
use Rattle.sqlite_disk.specs.declared.Files.{Files}
use Rattle.sqlite.specs.declared.FileStore.{FileStore}
use Rattle.sqlite.specs.Closing.{HoldsAlone, IsCopied}
use Rattle.sqlite.specs.Effect.{Database}
use Rattle.sqlite.specs.Files.{HoldsDatabase, IsClosed, file_state}
use Rattle.sqlite.specs.Held.{Held}
use Rattle.sqlite.specs.State.{HasCleanDisk, State, Survives}
use Rattle.sqlite.specs.Tree.{Trees}
use Rattle.sqlite_trees.specs.Props.{Trees-set}
use Rattle.sqlite_wal.specs.Reads.{AreClean}
use Rattle.sqlite_wal.specs.Recovery.{Image}
use Rattle.bank_books.specs.Books.{Books}
use Rattle.bank_books.specs.WorldLists.{WorldLists}
use Rattle.bank_meaning.specs.Sums.{PassesChecks}
use Rattle.book_kept.specs.Keepable.{IsKeepable}
use Rattle.book_kept.specs.Sheets.{Sheets, sheets_of}
use Rattle.policy_check.specs.PolicyVerdict.{IsPolicyVerdict}
use Rattle.sql_schema.specs.Held.{AreOfWorld, AreOfWorldIn, HoldsBank, HoldsSheets, HoldsWorldIn}
use Rattle.sql_schema.specs.Readable.{AreReadable}
use Rattle.sql_schema.specs.Schema.{newest}
use Rattle.sql_schema.specs.Steps.{LeavesNone}
use Rattle.sql_schema.specs.declared.edition.Edition.{Edition}
use Rattle.sql_schema.proofs.StepLemmas.{early}
use Rattle.sql_adopt.specs.Adopted.{Adopts, HoldsBankIn, IsBankFile, IsBankFileIn, IsLeft, IsOfAnother}
use Rattle.sql_adopt.specs.Refused.{HoldsSoundBank, IsNamedBy, IsOfOther, IsOfStore}
use Rattle.sql_adopt.specs.declared.adopt_fault.AdoptFault.{AdoptFault}
use Rattle.sql_adopt.proofs.FileLemmas.{bank_is_file, older_bank_is_file, other_bank_is_file}
use Rattle.sql_adopt.proofs.OpenedLemmas.{opened_bank, opened_in}
use Rattle.cli_file.specs.Files.{BankStore, IsBankKept, IsBankOfOther, IsBankRefused, IsNotClosed, LeavesOnly, file_status}
use Rattle.cli_file.specs.Laws.{OpensAgain, OpensAsItsBank}
use Rattle.cli_file.specs.Opened.{HoldTheBank, IsBankImage, IsBankImageIn, IsOpenedFrom}
use Rattle.cli_file.specs.declared.fault.ActionFault.{ActionFault}

-- ---- opened

pub opens_in : {D : Type 0} {g : Ghosts D} (conn : Held (FileStore D g)) (e : Edition) (image : Image) (w : WorldLists) → IsBankImageIn e image w → IsOpenedFrom image conn → HasCleanDisk (file_state conn)
    → HoldsBankIn e (file_state conn) w
opens_in conn e image w held from clean =
    let left = subst (AreOfWorldIn e w) (sym (∥∥₁_elim held.held (Trees-set _ _) ((from.found clean).holds held.trees))) held.of_world in
    opened_in e (file_state conn) w (from.opens clean).0 (from.opens clean).1 left

pub opens_as_its_bank : {D : Type 0} {g : Ghosts D} (conn : Held (FileStore D g)) → OpensAsItsBank conn
opens_as_its_bank conn image w held from clean =
    let left = subst (AreOfWorld w) (sym (∥∥₁_elim held.held (Trees-set _ _) ((from.found clean).holds held.trees))) held.of_world in
    let bank = opened_bank (file_state conn) w (from.opens clean).0 (from.opens clean).1 left in
    record { file = bank_is_file (file_state conn) w bank; holds = bank }

pub opens_again : {C D : Type 0} (f : Ghosts C) {g : Ghosts D} (conn : Held (FileStore D g)) → OpensAgain f conn
opens_again f conn files w hold reads image found from clean = opens_as_its_bank conn image w (hold reads image found) from clean

-- ---- found

-- a World whose books hold and whose policy is sound passes both checks
pub passes : (w : WorldLists) → IsKeepable w → Books w → IsPolicyVerdict w.policy (Ok tt) → PassesChecks w
passes w k books policy = record {
  in_order = record {
    books = record {
      branches = k.branches.in_order;
      tellers = k.tellers.ordered.in_order;
      accounts = k.accounts.in_order;
      entries = k.entries.ordered.in_order;
      lines = k.lines.ordered.in_order;
      proofs = k.proofs.in_order;
      releases = k.releases.ordered.in_order;
      slips = k.slips.ordered.in_order;
    };
    policy = record {
      users_in_order = k.policy.users.in_order;
      sets_in_order = k.policy.sets.in_order;
      relations_in_order = k.policy.relations.in_order;
      triples_in_order = k.policy.triples.in_order;
      certifiers_in_order = k.policy.certifiers.in_order;
    };
  };
  books = books;
  sound = policy.0;
  separated = policy.1;
}

pub found_bank : {D : Type 0} {g : Ghosts D} (opened now : Held (FileStore D g)) → (HasCleanDisk (file_state now) → IsBankFile (file_state opened) → Adopts (file_state opened) (file_state now))
    → LeavesNone (file_state opened) (file_state now) → (image : Image) (w : WorldLists) → IsBankImage image w → IsOpenedFrom image opened → HasCleanDisk (file_state now) → IsBankKept w now
found_bank opened now adopts survives image w held from clean =
    let bank = opens_as_its_bank opened image w held from (early (file_state opened) (file_state now) _ survives clean) in
    let a = adopts clean bank.file in
    let same : a.world ≡ w = sym (a.only w bank.holds.now) in
    record {
      checked = subst PassesChecks same (passes a.world a.held.world.keepable a.books a.policy);
      holds = λ is_open. subst (HoldsBank (file_state now)) same (a.holds is_open);
      durable = λ trees may. subst (λ (z : WorldLists). AreOfWorld z trees) same (a.durable trees may);
      alone = λ left may. subst (λ (z : WorldLists). left ≡ z) same (a.alone left may);
    }

-- ---- refused

-- what was not changed holds what it held
still_holds : (e : Edition) (old new : State) (w : WorldLists) → HoldsBankIn e old w → IsLeft old new → IsTrue new.is_open → HoldsBankIn e new w
still_holds e old new w bank same is_open = record {
  now = subst (λ (d : Database). HoldsWorldIn e d w) (sym (same.now is_open)) bank.now;
  settled = same.settled is_open;
}

module _ {D : Type 0} {g : Ghosts D} (opened left : Held (FileStore D g)) (Commits : Trees → Type 0) (survives : Survives (file_state opened) (file_state left) Commits)
    (unchanged : HasCleanDisk (file_state left) → (e : Edition) → IsBankFileIn e (file_state opened) → IsLeft (file_state opened) (file_state left)) (e : Edition) (image : Image) (w : WorldLists)
    (held : IsBankImageIn e image w) (from : IsOpenedFrom image opened) (clean : HasCleanDisk (file_state left)) where
  pub was : HoldsBankIn e (file_state opened) w
  was = opens_in opened e image w held from (early (file_state opened) (file_state left) Commits survives clean)

  pub holds_still : IsBankFileIn e (file_state opened) → IsTrue (file_state left).is_open → HoldsBankIn e (file_state left) w
  holds_still file = still_holds e (file_state opened) (file_state left) w was (unchanged clean e file)

pub refused_bank : {D : Type 0} {g : Ghosts D} (opened left : Held (FileStore D g)) (why : AdoptFault)
    → (HasCleanDisk (file_state left) → IsBankFile (file_state opened) → HoldsSoundBank (file_state opened).now → IsOfStore why)
    → (HasCleanDisk (file_state left) → IsBankFile (file_state opened) → (s : Sheets) → HoldsSheets (file_state opened).now.trees s → AreReadable s → IsNamedBy s why)
    → (HasCleanDisk (file_state left) → (e : Edition) → IsBankFileIn e (file_state opened) → IsLeft (file_state opened) (file_state left)) → LeavesNone (file_state opened) (file_state left)
    → (image : Image) (w : WorldLists) → IsBankImage image w → IsOpenedFrom image opened → HasCleanDisk (file_state left) → IsBankRefused newest w why left
refused_bank opened left why sound named unchanged survives image w held from clean =
    let bank = was opened left _ survives unchanged newest image w held from clean in
    let file = bank_is_file (file_state opened) w (record { now = bank.now; settled = bank.settled }) in
    record {
      holds = holds_still opened left _ survives unchanged newest image w held from clean file;
      named = λ readable. named clean file (sheets_of w) bank.now.world.rows readable;
      sound = λ readable checks. sound clean file (record { world = w; held = bank.now; readable = readable; books = checks.books; policy = (checks.sound, checks.separated) });
    }

pub refused_older : {D : Type 0} {g : Ghosts D} (opened left : Held (FileStore D g)) (why : AdoptFault)
    → (HasCleanDisk (file_state left) → IsOfAnother newest (file_state opened) → IsOfOther why)
    → (HasCleanDisk (file_state left) → (e : Edition) → IsBankFileIn e (file_state opened) → IsLeft (file_state opened) (file_state left)) → LeavesNone (file_state opened) (file_state left)
    → (e : Edition) (image : Image) (w : WorldLists) → e ≢ newest → IsBankImageIn e image w → IsOpenedFrom image opened → HasCleanDisk (file_state left) → IsBankOfOther e w why left
refused_older opened left why other unchanged survives e image w older held from clean =
    let bank = was opened left _ survives unchanged e image w held from clean in
    let another = other_bank_is_file e newest (file_state opened) w older bank in
    record {
      holds = holds_still opened left _ survives unchanged e image w held from clean (older_bank_is_file e (file_state opened) w older bank).file;
      other = other clean another;
    }

pub found_older : {D : Type 0} {g : Ghosts D} (opened now : Held (FileStore D g)) → (HasCleanDisk (file_state now) → IsOfAnother newest (file_state opened) → ⊥) → LeavesNone (file_state opened) (file_state now)
    → (e : Edition) (image : Image) (w : WorldLists) → e ≢ newest → IsBankImageIn e image w → IsOpenedFrom image opened → HasCleanDisk (file_state now) → ⊥
found_older opened now other survives e image w older held from clean =
    other clean (other_bank_is_file e newest (file_state opened) w older (opens_in opened e image w held from (early (file_state opened) (file_state now) _ survives clean)))

-- ---- closed

pub closed_holds : {D : Type 0} (g : Ghosts D) (conn : Held (FileStore D g)) (files : Files D) → (AreClean g files.log files.db → IsCopied conn files)
    → (w : WorldLists) → (HasCleanDisk (file_state conn) → IsTrue (file_state conn).is_open → HoldsBank (file_state conn) w) → HoldTheBank g files w
closed_holds g conn files copies w holds reads image (both, which, found) =
    let copied = copies reads in
    let bank = holds copied.was_clean copied.was_open in
    let alone : HoldsAlone both (file_state conn).committed.trees = elim which [
      | inl same ↦ subst (λ (i : Image). HoldsAlone i (file_state conn).committed.trees) (sym same) copied.seen
      | inr left ↦ copied.left both left
    ] in
    let held : ∥ HoldsDatabase image (file_state conn).committed.trees ∥₁ = elim found [
      | inl same ↦ subst (λ (i : Image). ∥ HoldsDatabase i (file_state conn).committed.trees ∥₁) (sym same) alone.both
      | inr same ↦ subst (λ (i : Image). ∥ HoldsDatabase i (file_state conn).committed.trees ∥₁) (sym same) alone.alone
    ] in
    record {
      trees = (file_state conn).committed.trees;
      held = held;
      of_world = subst (λ (d : Database). AreOfWorld w d.trees) (sym bank.settled) bank.now.world;
    }

pub closed_bank : {D : Type 0} (g : Ghosts D) (store : BankStore D g) (files : Files D) → (AreClean g files.log files.db → IsCopied store.conn files)
    → (w : WorldLists) → (file_status store).holds w → HoldTheBank g files w
closed_bank g store files copies w holds = closed_holds g store.conn files copies w holds.0

-- ---- not closed

pub unclosed_bank : {D : Type 0} {g : Ghosts D} (store : BankStore D g) (left : FileStore D g) → IsClosed store.conn left
    → (file_status store).leaves_a_world → LeavesOnly left (file_status store).may_leave
unclosed_bank store left closed whole clean trees may =
    let before : (file_state store.conn).may_leave trees = closed.quiet.outcomes trees may in
    let world = whole trees before in
    (world.0, world.1, (trees, before, world.1))

-- what is said of each World that a crash could leave before is said of what it leaves now
pub unclosed_leaves : {D : Type 0} {g : Ghosts D} (store : BankStore D g) (stated : ActionFault) (left : FileStore D g) (P : WorldLists → Type 0) → IsNotClosed store stated left
    → (HasCleanDisk (file_state store.conn) → (file_status store).leaves_a_world × ((w : WorldLists) → (file_status store).may_leave w → P w)) → LeavesOnly left P
unclosed_leaves store stated left P closed says clean trees may =
    let said = says (omega (arith, clean, closed.closed.quiet.clean)) in
    let world = closed.bank said.0 clean trees may in
    (world.0, world.1, said.1 world.0 world.2)
