-- What a word of `add` or `change` says of a task.
use Rattle.std.specs.Char.{is_ascii_alphabetic}
use Rattle.std.specs.Prelude.{ℕ, Bool, false, not, ◌==◌, ◌&&◌, ◌||◌, [], ◌∷◌, codes, drop, Option, Some, None, Result, Ok, Err, if◌then◌else◌}
use Rattle.std.specs.Str.{bytes_eq}
use Rattle.tb_my.specs.Days.{Text, after_key, moment_named}
use Rattle.tb_my.specs.Splitting.{filled_parts}
use Rattle.tb_my.specs.declared.fault.MyFault.{MyFault}
use Rattle.tb_my.specs.declared.fault.MyFault.TheVariants.{NoAttribute, NoDay, NoOption, NoPriority, NoStep}
use Rattle.tb_my.specs.declared.part.Part.{Part}
use Rattle.tb_my.specs.declared.part.Part.TheVariants.{Set, Tags, Untag, Needs, Json, Plain}
use Rattle.tb_my.specs.declared.zone.Clock.{Clock}
use Rattle.tb_task.specs.MomentText.{moment_text}
use Rattle.tb_task.specs.Step.{step_of}
use Rattle.tb_task.specs.declared.step.Step.{Step}
use Rattle.tb_todotxt.specs.Words.{has_sign as sign_of}

abbrev pub has_sign : ℕ → Text → Bool
has_sign sign word = sign_of sign word

abbrev pub set_to : Text → Text → Part
set_to name value = Set (record { name = name; value = Some value })

abbrev pub removal : Text → Part
removal name = Set (record { name = name; value = None })

abbrev pub tagged : Text → Part
tagged tag = Tags (tag ∷ [])

-- no value removes
abbrev pub text_part : Text → Text → Part
text_part name [] = removal name
text_part name (byte ∷ bytes) = set_to name (byte ∷ bytes)

-- `me` is who says so
-- Rule: `for:me` is one's own name. Tried by my.sh.
abbrev pub person_part : Text → Text → Part
person_part me value = if bytes_eq value (codes "me") then set_to (codes "assignee") me
    else text_part (codes "assignee") value

abbrev pub date_as : Text → Text → Option ℕ → Result Part MyFault
date_as name value None = Err (NoDay value)
date_as name value (Some moment) = Ok (set_to name (moment_text moment))

-- Rule: a day that `my` can't read refuses the words. Tried by my.sh.
abbrev pub date_part : Clock → Text → Text → Result Part MyFault
date_part clock name [] = Ok (removal name)
date_part clock name (byte ∷ bytes) =
    date_as name (byte ∷ bytes) (moment_named clock (byte ∷ bytes))

-- `H`, `M` and `L` alone
abbrev pub priority_part : Text → Result Part MyFault
priority_part value =
    if bytes_eq value [] then Ok (removal (codes "priority"))
    else if bytes_eq value (codes "H") || bytes_eq value (codes "M") || bytes_eq value (codes "L")
    then Ok (set_to (codes "priority") value)
    else Err (NoPriority value)

abbrev pub step_as : Text → Option Step → Result Part MyFault
step_as value None = Err (NoStep value)
step_as value (Some step) = Ok (set_to (codes "recur") value)

-- a step that the board takes
abbrev pub step_part : Text → Result Part MyFault
step_part [] = Ok (removal (codes "recur"))
step_part (byte ∷ bytes) = step_as (byte ∷ bytes) (step_of (byte ∷ bytes))

abbrev pub or_else : Option (Result Part MyFault) → Result Part MyFault → Result Part MyFault
or_else (Some part) other = part
or_else None other = other

abbrev pub text_of : Text → Option Text → Option (Result Part MyFault)
text_of name None = None
text_of name (Some value) = Some (Ok (text_part name value))

abbrev pub person_of : Text → Option Text → Option (Result Part MyFault)
person_of me None = None
person_of me (Some value) = Some (Ok (person_part me value))

abbrev pub date_of : Clock → Text → Option Text → Option (Result Part MyFault)
date_of clock name None = None
date_of clock name (Some value) = Some (date_part clock name value)

abbrev pub priority_of : Option Text → Option (Result Part MyFault)
priority_of None = None
priority_of (Some value) = Some (priority_part value)

abbrev pub steps_of : Option Text → Option (Result Part MyFault)
steps_of None = None
steps_of (Some value) = Some (step_part value)

abbrev pub needs_of : Option Text → Option (Result Part MyFault)
needs_of None = None
needs_of (Some value) = Some (Ok (Needs value))

abbrev pub tags_of : Option Text → Option (Result Part MyFault)
tags_of None = None
tags_of (Some value) = Some (Ok (Tags (filled_parts value)))

abbrev pub or_rest : Option Text → Option Text → Option Text
or_rest (Some rest) other = Some rest
or_rest None other = other

-- what follows one of two keys
abbrev pub after_either : Text → Text → Text → Option Text
after_either key other word = or_rest (after_key key word) (after_key other word)

-- an address begins so, as http://
abbrev pub is_value : Text → Bool
is_value [] = false
is_value (byte ∷ bytes) = not (byte == 47)

abbrev pub is_rest_of_name : Text → Bool
is_rest_of_name [] = false
is_rest_of_name (byte ∷ bytes) = if is_ascii_alphabetic byte then is_rest_of_name bytes
    else (byte == 58) && is_value bytes

-- letters, a colon, and more than an address
abbrev pub is_named : Text → Bool
is_named [] = false
is_named (byte ∷ bytes) = is_ascii_alphabetic byte && is_rest_of_name bytes

-- Rule: a word that looks as an attribute and isn't one refuses the words. Tried by my.sh.
abbrev pub plain_part : Text → Result Part MyFault
plain_part word = if is_named word then Err (NoAttribute word) else Ok Plain

unfoldable pub last_part : Text → Result Part MyFault
last_part word =
    or_else (steps_of (after_either (codes "rec:") (codes "recur:") word))
    (or_else (needs_of (after_either (codes "depends:") (codes "dep:") word))
    (or_else (tags_of (after_either (codes "tags:") (codes "tag:") word)) (plain_part word)))

unfoldable pub other_part : Text → Text → Result Part MyFault
other_part me word =
    or_else (priority_of (after_either (codes "pri:") (codes "priority:") word))
    (or_else (text_of (codes "project") (after_either (codes "project:") (codes "pro:") word))
    (or_else (person_of me (after_either (codes "for:") (codes "assignee:") word))
    (last_part word)))

unfoldable pub named_part : Clock → Text → Text → Result Part MyFault
named_part clock me word =
    or_else (date_of clock (codes "due") (after_key (codes "due:") word))
    (or_else (date_of clock (codes "wait") (after_either (codes "wait:") (codes "wai:") word))
    (or_else (date_of clock (codes "scheduled")
    (after_either (codes "scheduled:") (codes "sched:") word))
    (or_else (date_of clock (codes "until") (after_either (codes "until:") (codes "unt:") word))
    (other_part me word))))

-- `--json`, and no other option
abbrev pub option_part : Text → Text → Result Part MyFault
option_part word name =
    if bytes_eq name (codes "json") then Ok Json else Err (NoOption word)

abbrev pub option_or : Text → Option Text → Result Part MyFault → Result Part MyFault
option_or word None other = other
option_or word (Some name) other = option_part word name

abbrev pub marked_part : Clock → Text → Text → Result Part MyFault
marked_part clock me word = option_or word (after_key (codes "--") word) (named_part clock me word)

abbrev pub untag_or : Option Text → Result Part MyFault → Result Part MyFault
untag_or None other = other
untag_or (Some tag) other = Ok (Untag tag)

-- `+project`, `@tag`, `-@tag`, an option, an attribute and its value, or another word
abbrev pub part_of : Clock → Text → Text → Result Part MyFault
part_of clock me word =
    if has_sign 43 word then Ok (set_to (codes "project") (drop 1 word))
    else if has_sign 64 word then Ok (tagged (drop 1 word))
    else untag_or (after_key (codes "-@") word) (marked_part clock me word)
