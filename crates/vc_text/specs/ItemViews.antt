-- The items that the code finds.
use Rattle.vc_text.specs.Classes.{ClassItem, single, range}
use Rattle.vc_text.specs.declared.classes.Item.{Item}
use Rattle.vc_text.specs.declared.classes.Item.TheVariants.{Single, Range}

abbrev pub item_seen : Item → ClassItem
item_seen (Single x) = single x
item_seen (Range x y) = range x y
