-- What each test of a list is about.
-- No public clause cites these.
use Rattle.std.specs.Prelude.{◌+◌}
use Rattle.expr_meaning.specs.declared.lists.Item.{Item}
use Rattle.expr_meaning.specs.Questions.{Question}
use Rattle.expr_meaning.specs.Holds.{in_item4, in_item6, mac_item, within_item, is_item, over_item}
use Rattle.expr_fields.specs.declared.items.Target.{Target}
use Rattle.expr_fields.specs.declared.items.Target.TheVariants.{Address4, Address6, Mac, Port, Number, Over}

-- what it asks by its item
abbrev pub asked : Target → Item → Question
asked (Address4 load) item = in_item4 load item
asked (Address6 payload at) item = in_item6 (payload + at) item
asked (Mac at) item = mac_item at item
asked (Port load) item = within_item load item
asked (Number load) item = is_item load item
asked (Over place) item = over_item place item
