-- The page of the files of a folder.
use Rattle.std.specs.Prelude.{◌≡◌, ℕ, ◌+◌, ◌-◌, ◌==◌, Bool, true, false, not, ◌&&◌, ◌||◌, if◌then◌else◌, List, [], ◌∷◌, ◌++◌, codes, drop, length, nat_eq, nat_le, nat_lt, position, take, Option, Some, None, is_some, Result, Ok, Err}
use Rattle.std.specs.List.{ends_with, list_all}
use Rattle.tb_values.specs.Outcome.{Gives, ◌>>=◌}
use Rattle.tb_http.specs.declared.answer.MediaType.{MediaType}
use Rattle.tb_http.specs.declared.answer.MediaType.TheVariants.{Html, Css, JavaScript, Svg, Png, Icon, Manifest}
use Rattle.tb_site.specs.declared.fault.PageFault.{PageFault}
use Rattle.tb_site.specs.declared.fault.PageFault.TheVariants.{TooManyFiles, TooLarge, NoIndex, Unreadable, Memory}
use Rattle.tb_site.specs.declared.page.Draft.{Draft}
use Rattle.tb_site.specs.declared.page.FoundFile.{FoundFile}
use Rattle.tb_site.specs.declared.site.Site.{Site}
use Rattle.tb_site.specs.Site.{file_at}

-- ---- which files a page has

-- a to z, 0 to 9, '_' or '-'
unfoldable pub is_folder_byte : ℕ → Bool
is_folder_byte c = (nat_le 97 c && nat_le c 122) || (nat_le 48 c && nat_le c 57) || (c == 95)
    || (c == 45)

-- or '.'
unfoldable pub is_name_byte : ℕ → Bool
is_name_byte c = is_folder_byte c || (c == 46)

abbrev pub is_file_name : List ℕ → Bool
is_file_name name = list_all is_name_byte name

-- which of the folders in it
abbrev pub is_folder_name : List ℕ → Bool
is_folder_name name = not (length name == 0) && list_all is_folder_byte name

abbrev pub are_folder_and_file : List ℕ → List ℕ → Bool
are_folder_and_file folder file = is_folder_name folder && is_file_name file

-- Rule: a page has the files of its folder and of the folders in it, and none further down. Tried by page.
abbrev pub has_place_at : List ℕ → Option ℕ → Bool
has_place_at name None = is_file_name name
has_place_at name (Some slash) = are_folder_and_file (take slash name) (drop (slash + 1) name)

abbrev pub has_place : List ℕ → Bool
has_place name = has_place_at name (position (λ byte. byte == 47) name)

abbrev pub has_ending : List ℕ → List ℕ → Bool
has_ending name ending = ends_with nat_eq name ending

-- Rule: a page has files of these endings alone. Tried by page.
unfoldable pub media_by_ending : List ℕ → Option MediaType
media_by_ending name =
    if has_ending name (codes ".html") then Some Html
    else (if has_ending name (codes ".css") then Some Css
    else (if has_ending name (codes ".js") then Some JavaScript
    else (if has_ending name (codes ".svg") then Some Svg
    else (if has_ending name (codes ".png") then Some Png
    else (if has_ending name (codes ".ico") then Some Icon
    else (if has_ending name (codes ".webmanifest") then Some Manifest
    else None))))))

-- what a file of this name is, if a page has it; others are passed over
abbrev pub media_of : List ℕ → Option MediaType
media_of name = if has_place name then media_by_ending name else None

-- ---- one after the other, up to 128 files and 8 MiB in all

abbrev pub empty_draft : Draft
empty_draft = record { files = []; room = 8388608 }

abbrev pub with_file : Draft → FoundFile → MediaType → Draft
with_file draft found media = record {
  files = draft.files
      ++ record { path = codes "/" ++ found.name; media = media; body = found.body } ∷ [];
  room = draft.room - length found.body;
}

abbrev pub draft_as : Draft → FoundFile → Option MediaType → Result Draft PageFault
draft_as draft found None = Ok draft
draft_as draft found (Some media) =
    if nat_le 128 (length draft.files) then Err TooManyFiles
    else (if nat_lt draft.room (length found.body) then Err TooLarge
    else Ok (with_file draft found media))

unfoldable pub draft_with : Draft → FoundFile → Result Draft PageFault
draft_with draft found = draft_as draft found (media_of found.name)

abbrev pub draft_of : Draft → List FoundFile → Result Draft PageFault
draft_of draft [] = Ok draft
draft_of draft (found ∷ more) = draft_with draft found >>= λ next. draft_of next more

-- a page has a file that `/` asks for
abbrev pub whole : Site → Result Site PageFault
whole site = if is_some (file_at site (codes "/")) then Ok site else Err NoIndex

-- the page of these files
abbrev pub page_of : List FoundFile → Result Site PageFault
page_of found = do
  draft ← draft_of empty_draft found
  whole (record { files = draft.files })

-- ---- what a function that makes a page may answer

-- the definition gives this fault, unless it is memory that ran out, or the folder that can't be read
abbrev pub Fails : {X : Type 0} → PageFault → Result X PageFault → Type 0
Fails TooManyFiles expected = expected ≡ Err TooManyFiles
Fails TooLarge expected = expected ≡ Err TooLarge
Fails NoIndex expected = expected ≡ Err NoIndex
Fails Unreadable expected = Unit {0}
Fails Memory expected = Unit {0}

-- the faults that are no matter of the files
abbrev pub is_of_disk : PageFault → Bool
is_of_disk TooManyFiles = false
is_of_disk TooLarge = false
is_of_disk NoIndex = false
is_of_disk Unreadable = true
is_of_disk Memory = true

abbrev pub Makes : {X : Type 0} → Result X PageFault → Result X PageFault → Type 0
Makes result expected = Gives Fails result expected
