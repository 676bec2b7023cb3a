-- The limits of the bank's numbers, each by its name.
use Rattle.std.specs.Prelude.{ℕ, ℤ, negsuc}

-- the key of an account, a teller, a branch or a set, and the number of an entry, a cash line, a turn or a session
abbrev pub max_key : ℕ
max_key = 999999999

-- the number of a user
abbrev pub max_user : ℕ
max_user = 9999

-- the day of a branch
abbrev pub max_day : ℕ
max_day = 999999

-- a moment, in seconds
abbrev pub max_moment : ℕ
max_moment = 99999999999

-- accounts whose home is one branch
abbrev pub max_accounts : ℕ
max_accounts = 100000

-- releases that one user was given
abbrev pub max_releases : ℕ
max_releases = 100000

-- slips of one user
abbrev pub max_slips : ℕ
max_slips = 100000

-- sets of the policy
abbrev pub max_sets : ℕ
max_sets = 9999

-- relations of one procedure
abbrev pub max_relations : ℕ
max_relations = 1000

-- triples of one user
abbrev pub max_triples : ℕ
max_triples = 1000

-- what a triple's limit, or one movement of cash, may come to, in cents
abbrev pub max_limit : ℕ
max_limit = 999999999

-- what one transfer moves, in cents: as much as one entry may add
abbrev pub max_transfer : ℕ
max_transfer = 999999

-- the least floor of an account, in cents
abbrev pub min_floor : ℤ
min_floor = negsuc 999999998

-- lines that a listing is asked for
abbrev pub max_listed : ℕ
max_listed = 1000

-- the version of the policy
abbrev pub max_version : ℕ
max_version = 999999999999
