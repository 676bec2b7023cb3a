-- The names, the flags and the badges that fields state.
use Rattle.std.specs.Prelude.{ℕ, Bool, true, false, ◌&&◌, nat_le, nat_lt, if◌then◌else◌, List, [], ◌∷◌, length, codes, Option, Some, None}
use Rattle.std.specs.Char.{is_ascii_graphic}
use Rattle.std.specs.List.{find, list_all}
use Rattle.std.specs.Str.{bytes_eq}
use Rattle.bank_terms.specs.declared.item.Kind.{Kind}
use Rattle.bank_terms.specs.declared.item.Kind.TheVariants.{Account, Teller, Branch, History, Drawer, Vault}

-- the name of a kind of items
abbrev pub name_of : Kind → List ℕ
name_of Account = codes "account"
name_of Teller = codes "teller"
name_of Branch = codes "branch"
name_of History = codes "history"
name_of Drawer = codes "drawer"
name_of Vault = codes "vault"

-- all kinds
abbrev pub kinds : List Kind
kinds = Account ∷ Teller ∷ Branch ∷ History ∷ Drawer ∷ Vault ∷ []

-- the kind of that name, or none
abbrev pub kind_named : List ℕ → Option Kind
kind_named name = find (λ kind. bytes_eq name (name_of kind)) kinds

-- 1 says yes, and 0 says no
abbrev pub flag_of : List ℕ → Option Bool
flag_of text = if bytes_eq text (codes "0") then Some false else if bytes_eq text (codes "1") then Some true else None

-- a user's name: 1 to 20 bytes of printable ASCII, from the space (32) to the tilde (126)
abbrev pub is_name : List ℕ → Bool
is_name text = nat_lt 0 (length text) && nat_le (length text) 20 && list_all (λ byte. nat_le 32 byte && nat_le byte 126) text

-- a badge: 1 to 64 bytes, each of them visible ASCII
abbrev pub is_badge : List ℕ → Bool
is_badge text = nat_lt 0 (length text) && nat_le (length text) 64 && list_all is_ascii_graphic text
