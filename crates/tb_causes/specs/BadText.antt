-- What is told of a text that can't be imported.
use Rattle.std.specs.Prelude.{◌≡◌, ℕ, ◌+◌, ◌-◌, ◌^◌, ◌==◌, min, Bool, not, ◌&&◌, nat_le, [], ◌∷◌, ◌++◌, codes, decimal, map, Option, Some, None, if◌then◌else◌}
use Rattle.tb_causes.specs.Told.{IsEither, Text}
use Rattle.tb_causes.specs.declared.bad_text.TheConstants.{BAD_PART, BAD_TEXT, MEND, MEND_PART}
use Rattle.tb_orders.specs.declared.order_fault.BadItem.{BadItem}

-- ---- a member's name

-- a visible sign of ASCII, or a blank, but for the sign that ends the name
abbrev pub is_shown : ℕ → Bool
is_shown byte = nat_le 32 byte && nat_le byte 126 && not (byte == 34)

-- such a byte as it is, and `?` for another
abbrev pub shown_byte : ℕ → ℕ
shown_byte byte = if is_shown byte then byte else 63

-- `has no "NAME" of the right form.`
abbrev pub named_text : Text → Text
named_text member = codes "has no \"" ++ map shown_byte member ++ codes "\" of the right form."

-- what is wrong of a task: it is no object where no member is named
abbrev pub member_text : Text → Text
member_text [] = codes "is no JSON object."
member_text (byte ∷ bytes) = named_text (byte ∷ bytes)

-- ---- a task of a text

-- its number, counted from 1
abbrev pub number_of : BadItem → ℕ
number_of item = min (item.at + 1) (2 ^ 64 - 1)

-- `Task N of the text WRONG MEND`
abbrev pub body_item_text : BadItem → Text
body_item_text item =
    codes "Task " ++ (decimal (number_of item)
    ++ (codes " of the text " ++ (member_text item.member ++ (codes " " ++ MEND.now))))

-- `Task N of part P of the text WRONG MEND`
abbrev pub part_item_text : BadItem → Text
part_item_text item =
    codes "Task " ++ (decimal (number_of item)
    ++ (codes " of part " ++ (decimal item.part
    ++ (codes " of the text " ++ (member_text item.member ++ (codes " " ++ MEND_PART.now))))))

-- ---- what is told

-- of a text that goes by one call: without memory to name the task, that it is bad
abbrev pub IsBodyText : Option BadItem → Text → Type 0
IsBodyText None text = text ≡ BAD_TEXT.now
IsBodyText (Some item) text = IsEither (body_item_text item) BAD_TEXT.now text

-- of one that goes in parts
abbrev pub IsPartText : Option BadItem → Text → Type 0
IsPartText None text = text ≡ BAD_PART.now
IsPartText (Some item) text = IsEither (part_item_text item) BAD_PART.now text
