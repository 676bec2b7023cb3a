-- What was reported as ready, wait after wait.
use Rattle.std.specs.Prelude.{◌≡◌, ◌⊎◌, ⊤, Bool, true, List, [], ◌∷◌, ◌++◌, Contains, Option, None, Some, option_map}
use Rattle.std.specs.declared.time.Instant.{Instant}
use Rattle.counter_door.specs.declared.readiness.Ready.{Ready}
use Rattle.counter_door.specs.declared.readiness.Ready.TheVariants.{End}

-- From what was reported by then, wait after wait, to what is by now: these are the reports of the waits since. Nothing is said if they are not kept.
abbrev pub Reports : Option (List (List Ready)) → Option (List (List Ready)) → List (List Ready) → Type 0
Reports None new since = ⊤
Reports (Some all) None since = ⊥
Reports (Some all) (Some later) since = later ≡ all ++ since

-- what was reported by then, and in these waits since, if it is kept
abbrev pub with_reports : Option (List (List Ready)) → List (List Ready) → Option (List (List Ready))
with_reports kept since = option_map (λ (all : List (List Ready)). all ++ since) kept

-- From what was reported by then there was a wait, by these reports, and the clock showed this as it began, or after it.
abbrev pub IsReadAt : (Option (List (List Ready)) → Instant → Bool) → Option (List (List Ready)) → List Ready → Instant → Type 0
IsReadAt shows kept ready now = (shows kept now ≡ true) ⊎ (shows (with_reports kept (ready ∷ [])) now ≡ true)

-- the end was reported since
pub record HasEnded (old new : Option (List (List Ready))) : Type 0 where
  pub since : List (List Ready)
  pub reported : Reports old new since
  pub ready : List Ready
  pub among : Contains since ready
  pub is : Contains ready End
