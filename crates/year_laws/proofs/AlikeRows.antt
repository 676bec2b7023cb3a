-- What rules ask of one row is the same of two that are alike.
use Rattle.std.proofs.Common.{◌≡◌, ◌==◌, ◌||◌, ◌&&◌, ◌+ℤ◌, ℕ, ℤ, pos, Bool, true, false, not, List, [], ◌∷◌, Option, Some, None, refl, ap, ap₂, int_lt}
use Rattle.std.specs.Prelude.{is_none, is_some, option_map, if◌then◌else◌}
use Rattle.std.specs.Option.{option_map_or}
use Rattle.std.specs.List.{list_any}
use Rattle.bank_books.specs.declared.records.AccountRecord.{AccountRecord}
use Rattle.bank_books.specs.declared.records.BranchRecord.{BranchRecord}
use Rattle.bank_books.specs.declared.records.TellerRecord.{TellerRecord}
use Rattle.rule_tests.specs.Rules.{account_keeps_floor, drawer_covers, drawer_is_free, drawer_is_held, drawer_is_held_by, teller_is_of}
use Rattle.year_laws.specs.GoesOn.{AreBoth, AreEach, IsSameAccount, IsSameBranch, IsSameTeller}

module _ {T : Type 0} (alike : T → T → Type 0) where
  pub none_same : (a b : Option T) → AreBoth alike a b → is_none a ≡ is_none b
  none_same None None same = refl
  none_same (Some a) (Some b) same = refl
  none_same None (Some b) same = absurd same
  none_same (Some a) None same = absurd same

  pub some_same : (a b : Option T) → AreBoth alike a b → is_some a ≡ is_some b
  some_same None None same = refl
  some_same (Some a) (Some b) same = refl
  some_same None (Some b) same = absurd same
  some_same (Some a) None same = absurd same

  pub asked_same : {Y : Type 0} (f : T → Y) (other : Y) → ((a b : T) → alike a b → f a ≡ f b) → (a b : Option T) → AreBoth alike a b → option_map_or f a other ≡ option_map_or f b other
  asked_same f other each None None same = refl
  asked_same f other each (Some a) (Some b) same = each a b same
  asked_same f other each None (Some b) same = absurd same
  asked_same f other each (Some a) None same = absurd same

  pub mapped_same : {Y : Type 0} (f : T → Y) → ((a b : T) → alike a b → f a ≡ f b) → (a b : Option T) → AreBoth alike a b → option_map f a ≡ option_map f b
  mapped_same f each None None same = refl
  mapped_same f each (Some a) (Some b) same = ap Some (each a b same)
  mapped_same f each None (Some b) same = absurd same
  mapped_same f each (Some a) None same = absurd same

  pub none_mapped : {Y : Type 0} (f : T → Y) (a b : Option T) → AreBoth alike a b → is_none (option_map f a) ≡ is_none (option_map f b)
  none_mapped f None None same = refl
  none_mapped f (Some a) (Some b) same = refl
  none_mapped f None (Some b) same = absurd same
  none_mapped f (Some a) None same = absurd same

  pub chosen_same : (c : Bool) (a b : Option T) → AreBoth alike a b → AreBoth alike (if c then None else a) (if c then None else b)
  chosen_same true a b same = tt
  chosen_same false a b same = same

  pub any_same : (f : T → Bool) → ((a b : T) → alike a b → f a ≡ f b) → (olds news : List T) → AreEach alike olds news → list_any f olds ≡ list_any f news
  any_same f each [] [] same = refl
  any_same f each (a ∷ olds) (b ∷ news) same = ap₂ (λ x y. x || y) (each a b same.0) (any_same f each olds news same.1)
  any_same f each [] (b ∷ news) same = absurd same
  any_same f each (a ∷ olds) [] same = absurd same

pub or_same : (a b c d : Bool) → a ≡ b → c ≡ d → (a || c) ≡ (b || d)
or_same a b c d x y = ap₂ (λ p q. p || q) x y

pub and_same : (a b c d : Bool) → a ≡ b → c ≡ d → (a && c) ≡ (b && d)
and_same a b c d x y = ap₂ (λ p q. p && q) x y

-- ---- accounts, tellers and branches

pub keeps_floor_same : (n : ℕ) (a b : Option AccountRecord) → AreBoth (IsSameAccount n) a b → (added : ℤ) → account_keeps_floor a added ≡ account_keeps_floor b added
keeps_floor_same n a b same added =
    asked_same (IsSameAccount n) (λ x. not (int_lt (x.balance +ℤ added) x.row.floor)) true (λ x y s. ap₂ (λ p q. not (int_lt (p +ℤ added) q)) s.balance s.floor) a b same

pub teller_is_of_same : (a b : Option TellerRecord) → AreBoth IsSameTeller a b → (branch : ℕ) → teller_is_of a branch ≡ teller_is_of b branch
teller_is_of_same a b same branch = asked_same IsSameTeller (λ x. x.row.branch == branch) true (λ x y s. ap (λ p. p == branch) s.branch) a b same

pub held_by_same : (a b : Option TellerRecord) → AreBoth IsSameTeller a b → (user : ℕ) → drawer_is_held_by a user ≡ drawer_is_held_by b user
held_by_same a b same user =
    asked_same IsSameTeller (λ x. option_map_or (λ holder. holder == user) x.holder false) true (λ x y s. ap (λ p. option_map_or (λ holder. holder == user) p false) s.holder) a b same

pub held_same : (a b : Option TellerRecord) → AreBoth IsSameTeller a b → drawer_is_held a ≡ drawer_is_held b
held_same a b same = asked_same IsSameTeller (λ x. is_some x.holder) false (λ x y s. ap is_some s.holder) a b same

pub free_same : (a b : Option TellerRecord) → AreBoth IsSameTeller a b → drawer_is_free a ≡ drawer_is_free b
free_same a b same = asked_same IsSameTeller (λ x. is_none x.holder) false (λ x y s. ap is_none s.holder) a b same

pub covers_same : (a b : Option TellerRecord) → AreBoth IsSameTeller a b → (added : ℤ) → drawer_covers a added ≡ drawer_covers b added
covers_same a b same added = asked_same IsSameTeller (λ x. not (int_lt (x.cash +ℤ added) (pos 0))) true (λ x y s. ap (λ p. not (int_lt (p +ℤ added) (pos 0))) s.cash) a b same

pub vault_same : (n : ℕ) (a b : Option BranchRecord) → AreBoth (IsSameBranch n) a b → option_map (λ x. x.vault) a ≡ option_map (λ x. x.vault) b
vault_same n a b same = mapped_same (IsSameBranch n) (λ x. x.vault) (λ x y s. s.vault) a b same

pub homed_same : (n : ℕ) (a b : Option BranchRecord) → AreBoth (IsSameBranch n) a b → option_map (λ x. x.accounts) a ≡ option_map (λ x. x.accounts) b
homed_same n a b same = mapped_same (IsSameBranch n) (λ x. x.accounts) (λ x y s. s.accounts) a b same

pub day_same : (n : ℕ) (a b : Option BranchRecord) → AreBoth (IsSameBranch n) a b → option_map (λ x. x.row.day) a ≡ option_map (λ x. x.row.day) b
day_same n a b same = mapped_same (IsSameBranch n) (λ x. x.row.day) (λ x y s. s.day) a b same
