-- What is true of all histories.
use Rattle.std.specs.Prelude.{◌≡◌, ◌⊎◌, ℕ, ◌+◌, ◌-◌, ◌≤◌, ◌<◌, ◌==◌, if◌then◌else◌, List, [], ◌∷◌, ◌++◌, length, take, slice_get, Option, Some, None, MatchOption}
use Rattle.std.specs.Option.{option_map}
use Rattle.tb_deeds.specs.declared.deed.Deed.{Deed}
use Rattle.tb_deeds.specs.Kinds.{kind_of_number, number_of}
use Rattle.tb_history.specs.declared.entry.Entry.{Entry}
use Rattle.tb_history.specs.declared.page.Which.{Which}
use Rattle.tb_history.specs.declared.page.Which.TheVariants.{From}
use Rattle.tb_history.specs.History.{Histories, entries_on, entry_of, noted, numbered}
use Rattle.tb_history.specs.Pages.{chosen, last_of, most_shown}

-- the entry at a place, counted from 0, has the number behind it, and no other has one
abbrev pub NumbersFollow : Type 0
NumbersFollow = (es : List Entry) (place : ℕ)
    → slice_get (numbered 1 es) place ≡ option_map (λ e. (place + 1, e)) (slice_get es place)

-- the entries by which a deed of a person's call is noted on a board
abbrev pub new_entries : ℕ → List ℕ → ℕ → ℕ → Option Deed → List Entry
new_entries board member id moment None = []
new_entries board member id moment (Some deed) =
    if board == deed.board then entry_of member id moment deed ∷ [] else []

-- a call's deed, if it has one, is noted behind the entries that are there
abbrev pub DeedsAreNotedLast : Type 0
DeedsAreNotedLast = (histories : Histories) (member : List ℕ) (id moment : ℕ) (deed : Option Deed)
    (board : ℕ) → entries_on (noted histories member id moment deed) board
    ≡ entries_on histories board ++ new_entries board member id moment deed

-- an entry with its number stays
abbrev pub EntriesStay : Type 0
EntriesStay = (histories : Histories) (member : List ℕ) (id moment : ℕ) (deed : Option Deed)
    (board place : ℕ) → place < length (entries_on histories board)
    → slice_get (numbered 1 (entries_on (noted histories member id moment deed) board)) place
    ≡ slice_get (numbered 1 (entries_on histories board)) place

-- no page shows more than 100
abbrev pub ChosenAreFew : Type 0
ChosenAreFew = (which : Which) (es : List (ℕ × Entry)) → length (chosen which es) ≤ most_shown

-- from a number on stand the entries that have it and the ones behind it, and above the last number none
abbrev pub FromEachNumberOn : Type 0
FromEachNumberOn = (n place : ℕ) (es : List Entry) → 1 ≤ n → place < most_shown
    → slice_get (chosen (From n) (numbered 1 es)) place
    ≡ option_map (λ e. (n + place, e)) (slice_get es (n + place - 1))

-- where there are no more than are shown, the last ones are all
abbrev pub FewAreAllShown : Type 0
FewAreAllShown = (es : List (ℕ × Entry)) → length es ≤ most_shown → last_of most_shown es ≡ es

-- the last ones stand at the end
abbrev pub LastStandAtTheEnd : Type 0
LastStandAtTheEnd = (count : ℕ) (es : List (ℕ × Entry))
    → es ≡ take (length es - count) es ++ last_of count es

-- a number outside 1 to 18 is that of no kind, and each other one that of the kind that it stands for
abbrev pub NumbersAreOfKinds : Type 0
NumbersAreOfKinds = (n : ℕ) → MatchOption (kind_of_number n) ((n ≡ 0) ⊎ (18 < n))
    (λ kind. (number_of kind ≡ n) × (1 ≤ n) × (n ≤ 18))
