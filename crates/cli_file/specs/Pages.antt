-- The page with which a new file begins.
use Rattle.std.specs.Prelude.{ℕ, Bool, List}
use Rattle.sqlite_pool.specs.Header.{first_page}
use Rattle.sqlite_pool.specs.Stored.{sealed, used_size}

-- An empty database in one page of 512 bytes, by SQLite's fileformat2.html, section 1.3. With sums, 504 bytes of it
-- are used, and the last eight are their sum by SQLite's ext/misc/cksumvfs.c: two 32-bit numbers p and q, first 0. Over
-- each two 32-bit integers a and b, lowest byte first, p grows by a and q, and then q by b and p.
abbrev pub page_of_new : Bool → List ℕ
page_of_new sums = sealed (first_page (used_size 512 sums))
