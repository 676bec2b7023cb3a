-- The rows that a router keeps of paths without parameters.
use Rattle.std.specs.Prelude.{ℕ, List, [], map}
use Rattle.matchit.specs.Rows.{RowsOf}
use Rattle.matchit.specs.Router.{RouteOf}
use Rattle.requests.specs.declared.routes.Route.{Route}

-- a path with what it asks for, as the router keeps it
abbrev pub row_for : List ℕ × Route → List ℕ × RouteOf Route
row_for (path, asked) = (path, record { pattern = path; text = path; names = []; value = asked })

-- all of a table
abbrev pub router_rows : List (List ℕ × Route) → RowsOf (RouteOf Route)
router_rows table = map row_for table
