-- The statement that writes the row of the bank.
use Rattle.std.specs.Prelude.{ℕ, List, codes}

-- the number of the newest schema version, after the key of the only row
abbrev pub add_bank_text : List ℕ
add_bank_text = codes "INSERT INTO bank (id, version, policy) VALUES (1, 3, ?1)"
