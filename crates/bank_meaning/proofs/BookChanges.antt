-- Changes of the books alone: no policy, no session, no slip and no used release is among them.
use Rattle.std.proofs.Common.{◌≡◌, ◌∙◌, Bool, true, false, not, List, [], ◌∷◌, Option, Some, None, refl, ap, ap₂, sym, subst}
use Rattle.std.specs.Prelude.{◌||◌, nat_lt, if◌then◌else◌}
use Rattle.std.specs.List.{AllByRecursion}
use Rattle.std.specs.Option.{option_map_or}
use Rattle.bank_terms.specs.Limits.{max_version}
use Rattle.bank_books.specs.Effects.{all_written, applied, written}
use Rattle.bank_books.specs.SlipRow.{SlipRow}
use Rattle.bank_books.specs.Version.{changes_policy, is_of_policy, with_version}
use Rattle.bank_books.specs.WorldLists.{WorldLists}
use Rattle.bank_books.specs.declared.row_write.RowWrite.{RowWrite}
use Rattle.bank_books.specs.declared.row_write.RowWrite.TheVariants as write
use Rattle.bank_meaning.specs.Once.{with_slips}

abbrev pub is_of_books : RowWrite → Bool
is_of_books (write.Used k) = false
is_of_books (write.Slip row) = false
is_of_books (write.Session s) = false
is_of_books (write.Policy c) = false
is_of_books _ = true

pub record AreOfBooks (changes : List RowWrite) : Type 0 where
  pub each : AllByRecursion (λ c. is_of_books c ≡ true) changes

pub none_at_all : AreOfBooks []
none_at_all = record { each = tt }

-- changes that are made of a row, and none where it is missing
pub by_row : {A : Type 0} (f : A → List RowWrite) (row : Option A) → ((a : A) → AreOfBooks (f a)) → AreOfBooks (option_map_or f row [])
by_row f None each = none_at_all
by_row f (Some a) each = each a

-- ---- they leave the policy and its version

-- of one World and the next
pub record IsPolicyKept (before after : WorldLists) : Type 0 where
  pub policy : after.policy ≡ before.policy
  pub version : after.version ≡ before.version

pub kept_itself : (w : WorldLists) → IsPolicyKept w w
kept_itself w = record { policy = refl; version = refl }

none_of_policy : (c : RowWrite) → is_of_books c ≡ true → is_of_policy c ≡ false
none_of_policy (write.Policy c) is = absurd cc
none_of_policy _ is = refl

pub changes_no_policy : (cs : List RowWrite) → AreOfBooks cs → changes_policy cs ≡ false
changes_no_policy cs all = go cs all.each
  where
    go : (cs : List RowWrite) → AllByRecursion (λ c. is_of_books c ≡ true) cs → changes_policy cs ≡ false
    go [] all = refl
    go (c ∷ cs) all = ap₂ (λ a b. a || b) (none_of_policy c all.0) (go cs all.1)

-- So all of them are written.
pub all_applied : (cs : List RowWrite) (w : WorldLists) → AreOfBooks cs → applied cs w ≡ all_written cs w
all_applied cs w all = ap (λ b. if not b || nat_lt w.version max_version then with_version b (all_written cs w) else w) (changes_no_policy cs all)

one_kept : (c : RowWrite) (w : WorldLists) → is_of_books c ≡ true → IsPolicyKept w (written c w)
one_kept (write.Session s) w is = absurd cc
one_kept (write.Policy c) w is = absurd cc
one_kept _ w is = record { policy = refl; version = refl }

pub policy_kept : (cs : List RowWrite) (w : WorldLists) → AreOfBooks cs → IsPolicyKept w (applied cs w)
policy_kept cs w all = subst (IsPolicyKept w) (sym (all_applied cs w all)) (go cs w all.each)
  where
    go : (cs : List RowWrite) (w : WorldLists) → AllByRecursion (λ c. is_of_books c ≡ true) cs → IsPolicyKept w (all_written cs w)
    go [] w all = kept_itself w
    go (c ∷ cs) w all =
        let first = one_kept c w all.0 in
        let rest = go cs (written c w) all.1 in
        record { policy = rest.policy ∙ first.policy; version = rest.version ∙ first.version }

-- ---- they take no slip

one_beside : (s : List SlipRow) (c : RowWrite) (w : WorldLists) → is_of_books c ≡ true → written c (with_slips s w) ≡ with_slips s (written c w)
one_beside s (write.Slip row) w is = absurd cc
one_beside s _ w is = refl

pub slips_aside : (s : List SlipRow) (cs : List RowWrite) (w : WorldLists) → AreOfBooks cs → applied cs (with_slips s w) ≡ with_slips s (applied cs w)
slips_aside s cs w all = all_applied cs (with_slips s w) all ∙ go cs w all.each ∙ sym (ap (with_slips s) (all_applied cs w all))
  where
    go : (cs : List RowWrite) (w : WorldLists) → AllByRecursion (λ c. is_of_books c ≡ true) cs → all_written cs (with_slips s w) ≡ with_slips s (all_written cs w)
    go [] w all = refl
    go (c ∷ cs) w all = ap (all_written cs) (one_beside s c w all.0) ∙ go cs (written c w) all.1
