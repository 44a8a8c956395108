-- How a text is cut that is one JSON list whose lines are not its items: each part is a list of some of them.
use Rattle.std.specs.Prelude.{◌≡◌, ◌⊎◌, ◌<◌, ℕ, ◌==◌, ◌&&◌, ◌||◌, Bool, true, false, List, [], ◌∷◌, ◌++◌, is_some, length, nat_le, reverse, Option, Some, None, if◌then◌else◌}
use Rattle.json.specs.Lex.{tokens}
use Rattle.json.specs.Print.{print}
use Rattle.serde_json.specs.Data.{Data, null, boolean, number, string, array, object, no_items, item}
use Rattle.serde_json.specs.Read.{read}
use Rattle.tb_command_line.specs.declared.order.ImportKind.{ImportKind}
use Rattle.tb_command_line.specs.declared.order.ImportKind.TheVariants as kind
use Rattle.tb_json.specs.Import.{items_of, items_of_array}
use Rattle.tb_json.specs.Lines.{skip_comma}
use Rattle.tb_json.specs.Parse.{json_of_bytes}
use Rattle.tb_orders.specs.Cutting.{is_one, line_in, lines_of, parts_of}
use Rattle.tb_task.specs.Limits.{longest_body, most_items}

-- ---- which texts are cut so

abbrev pub skip_return : List ℕ → List ℕ
skip_return [] = []
skip_return (b ∷ bs) = if b == 13 then bs else b ∷ bs

-- a line without a carriage return and then a comma at its end
abbrev pub item_text : List ℕ → List ℕ
item_text line = reverse (skip_comma (skip_return (reverse line)))

abbrev pub is_item : List ℕ → Bool
is_item text = (length text == 0) || is_some (json_of_bytes text)

-- each line is an item, or empty
abbrev pub are_items : List (List ℕ) → Bool
are_items [] = true
are_items (line ∷ lines) = is_item (item_text (line_in kind.Json line)) && are_items lines

-- one call takes them as they are, or lines cut the text
abbrev pub goes_by_lines : List ℕ → List Data → Bool
goes_by_lines text items =
    if is_one text then nat_le (length items) most_items else are_items (lines_of text)

abbrev pub array_in : Option Data → Option (List Data)
array_in None = None
array_in (Some null) = None
array_in (Some (boolean b)) = None
array_in (Some (number n)) = None
array_in (Some (string s)) = None
array_in (Some (array ds)) = Some (items_of_array ds)
array_in (Some (object ms)) = None

abbrev pub list_in : List ℕ → Option (List Data) → Option (List Data)
list_in text None = None
list_in text (Some items) = if goes_by_lines text items then None else Some items

-- the items by which a text is cut, where it is
abbrev pub list_of : ImportKind → List ℕ → Option (List Data)
list_of kind.Json text = list_in text (array_in (json_of_bytes text))
list_of kind.Todo text = None

-- ---- what its parts are

abbrev pub joined : Option (List Data) → Option (List Data) → Option (List Data)
joined None more = None
joined (Some items) None = None
joined (Some items) (Some more) = Some (items ++ more)

-- the items of parts, one part after another
abbrev pub items_in : List (List ℕ) → Option (List Data)
items_in [] = Some []
items_in (part ∷ parts) = joined (items_of part) (items_in parts)

abbrev pub are_few : Option (List Data) → Bool
are_few None = false
are_few (Some items) = nat_le (length items) most_items

-- one call takes each
abbrev pub are_taken : List (List ℕ) → Bool
are_taken [] = true
are_taken (part ∷ parts) =
    nat_le (length part) longest_body && (are_few (items_of part) && are_taken parts)

-- an item whose list is longer than a part, with no white space
pub record IsLong (one : Data) : Type 0 where
  pub text : List ℕ
  pub is : read text ≡ Some (array (item one no_items))
  pub compact : text ≡ print (tokens text)
  pub long : longest_body < length text

abbrev pub HasLong : List Data → Type 0
HasLong [] = ⊥
HasLong (one ∷ items) = IsLong one ⊎ HasLong items

-- no item is lost, none is there twice, and they stay in order; there are no parts where an item is longer than one
-- Rule: `--all` takes a JSON list in any layout. Tried by import.sh.
abbrev pub AreOf : List Data → Option (List (List ℕ)) → Type 0
AreOf items None = HasLong items
AreOf items (Some parts) = (items_in parts ≡ Some items) × (are_taken parts ≡ true)

abbrev pub IsCutBy : Option (List Data) → ImportKind → List ℕ → Option (List (List ℕ)) → Type 0
IsCutBy None kind text parts = parts ≡ parts_of kind text
IsCutBy (Some items) kind text parts = AreOf items parts

-- the parts of a text: by its lines, or by its items
abbrev pub IsCut : ImportKind → List ℕ → Option (List (List ℕ)) → Type 0
IsCut kind text parts = IsCutBy (list_of kind text) kind text parts
