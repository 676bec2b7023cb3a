-- Connections that a door gave are handed back.
use Rattle.std.proofs.Common.{◌≡◌, ℕ, suc, Bool, List, [], ◌∷◌, map, Option, Result, Contains, ap, arith, subst}
use Rattle.store_rows.specs.Status.{Status}
use Rattle.counter_loop.specs.Attended.{AreOfDoor, EndAs}
use Rattle.counter_loop.specs.Turns.{StoreAndClock, Turn}
use Rattle.counter_door.specs.Ways.{Ways, is_new}
use Rattle.cli_file.specs.declared.fault.ActionFault.{ActionFault}
use Rattle.cli_file.specs.declared.left.PathLeft.{PathLeft}
use Rattle.cli_file.specs.declared.left.PathLeft.TheVariants as path
use Rattle.cli_counter.specs.Attending.{AreHandedBack}
use Rattle.cli_counter.specs.Places.{Kind}
use Rattle.cli_counter.specs.declared.places.Visited.{Visited}

nothing_in : (n : ℕ) → Contains [] n → ⊥
nothing_in n has = let small = has.1 in omega (arith, small)

-- of none that is handed back there is a number
nobody : (begins : Option Ways → Bool) (turns : List Turn) (who : List ℕ) (n : ℕ) → EndAs begins turns who [] → Contains who n → ⊥
nobody begins turns [] n each has = nothing_in n has
nobody begins turns (k ∷ who) n each has = each

none_given : (begins : Option Ways → Bool) (n given : ℕ) (parted : List (Option Ways)) (turns : List Turn) → given ≡ suc n → parted ≡ [] → AreOfDoor begins 0 given parted turns → ⊥
none_given begins n given parted turns some none of =
    nobody begins turns of.who 0 (subst (λ (l : List (Option Ways)). EndAs begins turns of.who l) none of.each) (of.all 0 (omega (arith, some)))

-- what was opened, if something was
abbrev opened : {O V : Type 0} → V → PathLeft O V → V
opened other (path.Unopened o) = other
opened other path.Refused = other
opened other (path.Opened v) = v

module _ {P E R T S C : Type 0} (kind : Kind E R T) (status : S → Status) (users : List ℕ → Option ℕ) (may_give : C → ℕ → C → Type 0) where
  pub none_unseen : (visited : Visited E R T) (n : ℕ) (old new : StoreAndClock S C) (result : Result Unit ActionFault) → kind.given visited.door ≡ suc n → visited.parted.log.items ≡ []
      → ¬ (AreHandedBack {P = P} kind status users may_give (path.Opened visited) old new result)
  none_unseen visited n old new result some none = λ is.
      let same : visited ≡ is.visited = ap (λ (l : PathLeft P (Visited E R T)). opened visited l) is.left in
      none_given is_new n (kind.given is.visited.door) (map kind.ways is.visited.parted.log.items) is.served.attended.turns
      (subst (λ (v : Visited E R T). kind.given v.door ≡ suc n) same some)
      (ap (map kind.ways) (subst (λ (v : Visited E R T). v.parted.log.items ≡ []) same none))
      is.at_door
