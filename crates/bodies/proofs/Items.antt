-- How many items values have.
use Rattle.std.proofs.Common.{◌≡◌, List, length}
use Rattle.serde_json.specs.Events.{items_len}
use Rattle.serde_json.specs.View.{items_view}
use Rattle.serde_json.specs.declared.value.Value.{Value}
use Rattle.serde_json.proofs.Views.{items_len-items_view}

pub items_counted : (values : List Value) → items_len (items_view values) ≡ length values
items_counted values = items_len-items_view values
