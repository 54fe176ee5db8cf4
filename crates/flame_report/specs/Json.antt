-- The JSON text of a layout, as `serde_json` writes a value without white space: an object of the columns, the
-- rectangles and the total, and for each rectangle an object. The keys are in the order of their bytes.
use Rattle.std.specs.Prelude.{ℕ, List, [], ◌∷◌, codes, map}
use Rattle.serde_json.specs.Data.{Data, unsigned, number, string, array, object, Items, no_items, item, no_members}
use Rattle.serde_json.specs.Data.{member}
use Rattle.serde_json.specs.Written.{compact_text}
use Rattle.flame_report.specs.declared.answer.Flame.{Flame}
use Rattle.flame_report.specs.declared.answer.Rect.{Rect}

abbrev pub count : ℕ → Data
count n = number (unsigned n)

abbrev pub items_from : List Data → Items
items_from [] = no_items
items_from (value ∷ values) = item value (items_from values)

abbrev pub rect_data : Rect → Data
rect_data rect = object
    (member (codes "depth") (count rect.depth)
    (member (codes "left") (count rect.left)
    (member (codes "name") (string rect.name)
    (member (codes "right") (count rect.right)
    (member (codes "weight") (count rect.weight)
    (member (codes "x") (count rect.x) no_members))))))

abbrev pub flame_data : Flame → Data
flame_data flame = object
    (member (codes "columns") (count flame.columns)
    (member (codes "rects") (array (items_from (map rect_data flame.rects)))
    (member (codes "total") (count flame.total) no_members)))

abbrev pub flame_json_of : Flame → List ℕ
flame_json_of flame = compact_text (flame_data flame)
