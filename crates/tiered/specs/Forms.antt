-- Lists that are one vector alone while they are short.
-- No public clause cites these.
use Rattle.std.specs.Prelude.{◌≡◌, ◌<◌, ◌≤◌, Bool, true, length, box_value, vec_len, vec_capacity}
use Rattle.std.specs.Global.{Vec}
use Rattle.tiered.specs.Lists.{TieredList}
use Rattle.tiered.specs.declared.list.Form.{Form}
use Rattle.tiered.specs.declared.list.Form.TheVariants.{Few, Many}

-- what is true of a short list: it has at most 2,048 items, and where it is ready, its vector has memory for one more of them
pub record IsShort {T : Type 0} (items : Vec T) (ready : Bool) : Type 0 where
  pub most : length items.items ≤ 2048
  pub more : ready ≡ true → length items.items < 2048
  pub room : ready ≡ true → vec_len items < vec_capacity items

module _ {T : Type 0} where
  -- the list that has this form
  abbrev pub list_of : Form T → TieredList T
  list_of (Few items ready) = record { items = items.items; ready = ready }
  list_of (Many all) = box_value all

  -- what is true of each form
  abbrev pub IsFormed : Form T → Type 0
  IsFormed (Few items ready) = IsShort items ready
  IsFormed (Many all) = Unit {0}
