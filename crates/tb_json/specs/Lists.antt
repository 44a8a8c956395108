-- Lists of texts: an array, or one text that is split at commas.
use Rattle.std.specs.Prelude.{ℕ, ◌==◌, List, [], ◌∷◌, ◌++◌, length, nat_lt, Option, Some, None, option_map, option_and_then}
use Rattle.std.specs.List.{slice_split, filter}
use Rattle.std.specs.Ordering.{nat_cmp}
use Rattle.std.specs.BTreeSet.{insert_key}
use Rattle.serde_json.specs.Data.{Data, null, boolean, number, string, array, object, Items, no_items, item}
use Rattle.serde_json.specs.Find.{as_str}
use Rattle.tb_task.specs.TaskId.{read_id}
use Rattle.tb_values.specs.Texts.{with_texts}

-- the texts of an array after those found: something other than a text is wrong
abbrev pub texts_of : List (List ℕ) → Items → Option (List (List ℕ))
texts_of found no_items = Some found
texts_of found (item d ds) = option_and_then (λ text. texts_of (found ++ text ∷ []) ds) (as_str d)

-- the parts of a text around its commas
abbrev pub parts_of : List ℕ → List (List ℕ)
parts_of text = slice_split (λ b. b == 44) text

-- the parts that aren't empty
abbrev pub filled : List (List ℕ) → List (List ℕ)
filled parts = filter (λ part. nat_lt 0 (length part)) parts

-- the identifiers of texts after those found: a text of another form is wrong
abbrev pub ids_of : List ℕ → List (List ℕ) → Option (List ℕ)
ids_of found [] = Some found
ids_of found (text ∷ texts) = option_and_then (λ id. ids_of (found ++ id ∷ []) texts) (read_id text)

-- identifiers go in one after another, each at its place in order unless it is there
abbrev pub with_ids : List ℕ → List ℕ → List ℕ
with_ids found [] = found
with_ids found (id ∷ ids) = with_ids (insert_key nat_cmp found id) ids

-- ---- the forms

-- an empty text in an array stays, and an empty part of a text doesn't
abbrev pub tags_form : Data → Option (List (List ℕ))
tags_form null = None
tags_form (boolean b) = None
tags_form (number n) = None
tags_form (string s) = Some (with_texts [] (filled (parts_of s)))
tags_form (array ds) = option_map (with_texts []) (texts_of [] ds)
tags_form (object ms) = None

abbrev pub depends_form : Data → Option (List ℕ)
depends_form null = None
depends_form (boolean b) = None
depends_form (number n) = None
depends_form (string s) = option_map (with_ids []) (ids_of [] (parts_of s))
depends_form (array ds) = option_map (with_ids []) (option_and_then (ids_of []) (texts_of [] ds))
depends_form (object ms) = None
