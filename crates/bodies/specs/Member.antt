-- The intervals of a set that the items of an array state: each is an array of a kind, a least and a greatest key.
use Rattle.std.specs.Prelude.{ℕ, ℤ, pos, negsuc, ◌==◌, List, [], ◌∷◌, Option, Some, None, option_and_then, option_map, unsigned_abs, if◌then◌else◌, nat_le}
use Rattle.bank_terms.specs.Limits.{max_key}
use Rattle.serde_json.specs.Data.{Data, Items, no_items, item}
use Rattle.serde_json.specs.Events.{items_len}
use Rattle.serde_json.specs.Find.{get_item, as_array, as_number, as_i64}
use Rattle.bank_terms.specs.declared.item.Kind.{Kind}
use Rattle.bank_terms.specs.declared.item.Kind.TheVariants.{Account, Teller, Branch, History, Drawer, Vault}
use Rattle.bank_policy.specs.declared.rows.Member.{Member}
use Rattle.bodies.specs.Body.{◌>>=◌, within}

-- the kinds by their numbers, 1 to 6
abbrev kind_at : ℕ → Option Kind
kind_at number = if number == 1 then Some Account else (if number == 2 then Some Teller else (if number == 3 then Some Branch
    else (if number == 4 then Some History else (if number == 5 then Some Drawer else (if number == 6 then Some Vault else None)))))

abbrev pub kind_numbered : ℤ → Option Kind
kind_numbered (pos number) = kind_at number
kind_numbered (negsuc _) = None

-- the key that a value is
abbrev pub key_of : Data → Option ℕ
key_of value = option_map unsigned_abs (option_and_then (within (pos 1) (pos max_key)) (option_and_then as_i64 (as_number value)))

-- three items: the kind, the least key and the greatest, which is not below it
abbrev pub interval_of : Items → Option Member
interval_of items = if items_len items == 3 then (do
  kind ← option_and_then kind_numbered (option_and_then as_i64 (option_and_then as_number (get_item 0 items)))
  low ← option_and_then key_of (get_item 1 items)
  high ← option_and_then key_of (get_item 2 items)
  if nat_le low high then Some (record { kind = kind; low = low; high = high }) else None) else None

abbrev pub member_of : Data → Option Member
member_of value = option_and_then interval_of (as_array value)

-- all of them in order, or none where one of the items states none
abbrev pub members_of : Items → Option (List Member)
members_of no_items = Some []
members_of (item value rest) = do
  first ← member_of value
  option_map (λ others. first ∷ others) (members_of rest)
