-- What messages may ask for, by our own table of paths; which operations are served is said elsewhere.
use Rattle.std.specs.Prelude.{ℕ, List, [], ◌∷◌, ◌++◌, Option, Some, None, codes, option_map, if◌then◌else◌, bytes_eq}
use Rattle.std.specs.List.{find}
use Rattle.bank_terms.specs.declared.procedure.Procedure.TheVariants.{Post, Transfer, Correct, DrawerOn, DrawerOff, MoveCash, NewAccount, Release, Balance, Statement, Accounts, Proof, CloseDay}
use Rattle.policy_commands.specs.declared.command.Command.TheVariants.{DefineSet, Certify, Withdraw, Grant, Revoke, Appoint, Dismiss, Enrol, Suspend, Restore}
use Rattle.requests.specs.declared.routes.Route.{Route}
use Rattle.requests.specs.declared.routes.Route.TheVariants as route

-- the paths of operations, each with what it asks for, in the order of the alphabet
abbrev pub operation_paths : List (List ℕ × Route)
operation_paths =
    (codes "/do/accounts", route.Operation Accounts)
    ∷ (codes "/do/balance", route.Operation Balance)
    ∷ (codes "/do/close-day", route.Operation CloseDay)
    ∷ (codes "/do/correct", route.Operation Correct)
    ∷ (codes "/do/drawer-off", route.Operation DrawerOff)
    ∷ (codes "/do/drawer-on", route.Operation DrawerOn)
    ∷ (codes "/do/move-cash", route.Operation MoveCash)
    ∷ (codes "/do/new-account", route.Operation NewAccount)
    ∷ (codes "/do/post", route.Operation Post)
    ∷ (codes "/do/proof", route.Operation Proof)
    ∷ (codes "/do/release", route.Operation Release)
    ∷ (codes "/do/statement", route.Operation Statement)
    ∷ (codes "/do/transfer", route.Operation Transfer)
    ∷ []

-- those of commands of the policy
abbrev pub command_paths : List (List ℕ × Route)
command_paths =
    (codes "/policy/appoint", route.Policy Appoint)
    ∷ (codes "/policy/certify", route.Policy Certify)
    ∷ (codes "/policy/define-set", route.Policy DefineSet)
    ∷ (codes "/policy/dismiss", route.Policy Dismiss)
    ∷ (codes "/policy/enrol", route.Policy Enrol)
    ∷ (codes "/policy/grant", route.Policy Grant)
    ∷ (codes "/policy/restore", route.Policy Restore)
    ∷ (codes "/policy/revoke", route.Policy Revoke)
    ∷ (codes "/policy/suspend", route.Policy Suspend)
    ∷ (codes "/policy/withdraw", route.Policy Withdraw)
    ∷ []

-- all of them, in the same order
abbrev pub paths : List (List ℕ × Route)
paths = operation_paths ++ (codes "/end", route.Ending) ∷ command_paths ++ (codes "/session", route.Opening) ∷ []

-- what the path that is this target asks for, byte for byte: a target in origin form (RFC 9112, section 3.2.1) that has a query is none of the table
unfoldable pub route_at : List ℕ → Option Route
route_at target = option_map (λ (row : List ℕ × Route). row.1) (find (λ (row : List ℕ × Route). bytes_eq row.0 target) paths)

-- what is read there, by GET: the listing of the policy alone
abbrev pub read_at : List ℕ → Option Route
read_at target = if bytes_eq target (codes "/policy") then Some route.Listing else None

-- what a method and a target ask for: a method is case-sensitive (RFC 9110, section 9.1)
abbrev pub asked_route : List ℕ → List ℕ → Option Route
asked_route method target = if bytes_eq method (codes "POST") then route_at target else (if bytes_eq method (codes "GET") then read_at target else None)
