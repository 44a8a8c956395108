-- The tags of a task after some are added and some are taken.
use Rattle.std.specs.Prelude.{Bool, false, ◌||◌, List, [], ◌∷◌, ◌++◌, if◌then◌else◌}
use Rattle.std.specs.Str.{bytes_eq}
use Rattle.tb_my.specs.Days.{Text}

abbrev pub is_among : Text → List Text → Bool
is_among tag [] = false
is_among tag (other ∷ tags) = bytes_eq tag other || is_among tag tags

abbrev pub kept_tags : List Text → List Text → List Text
kept_tags [] taken = []
kept_tags (tag ∷ tags) taken =
    if is_among tag taken then kept_tags tags taken else tag ∷ kept_tags tags taken

abbrev pub tags_after : List Text → List Text → List Text → List Text
tags_after tags added taken = kept_tags tags taken ++ added
