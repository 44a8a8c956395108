-- Instances of which an import makes plain tasks: their place is none of their template, or another's.
use Rattle.std.specs.Prelude.{ℕ, ◌==◌, Bool, false, ◌&&◌, ◌||◌, List, [], ◌∷◌, ◌++◌, length, nat_le, Option, Some, None, is_some, map, option_and_then, option_map, slice_get, if◌then◌else◌}
use Rattle.std.specs.List.{list_any}
use Rattle.tb_task.specs.declared.incoming.Incoming.{Incoming}
use Rattle.tb_cleaning.specs.Entries.{Judged, id_of, taken_in}
use Rattle.tb_cleaning.specs.Ordering.{is_template}
use Rattle.tb_cleaning.specs.Places.{place_of_some}
use Rattle.tb_cleaning.specs.Respelling.{with_text}
use Rattle.tb_cleaning.specs.Steps.{Text}
use Rattle.tb_cleaning.specs.Telling.{line_of}
use Rattle.tb_cleaning.specs.declared.orphans.TheConstants.{BEYOND, NO_NUMBER, NO_TEMPLATE, ORPHAN, TAKEN}

-- ---- the places of templates

abbrev pub mask_length : Option Text → ℕ
mask_length None = 0
mask_length (Some mask) = length mask

-- how many places for instances a template brings: the marks of its mask
abbrev pub room_in : Option Incoming → Option ℕ
room_in None = None
room_in (Some i) = if is_template (Some i) then Some (mask_length i.raw_mask) else None

abbrev pub room_of : Judged → Option ℕ
room_of e = room_in (taken_in e.verdict)

abbrev pub rooms_of : List Judged → List (Option ℕ)
rooms_of es = map room_of es

abbrev pub room_at : List (Option ℕ) → Option ℕ → Option ℕ
room_at rooms None = None
room_at rooms (Some place) = option_and_then (λ room. room) (slice_get rooms place)

-- ---- the places that instances have

-- a template, and the number of a place
abbrev pub Claim : Type 0
Claim = ℕ × ℕ

-- that of an instance
abbrev pub claim_in : Option Incoming → Option Claim
claim_in None = None
claim_in (Some i) =
    option_and_then (λ parent. option_map (λ k. (parent, k)) i.raw_imask) i.raw_parent

abbrev pub with_claim : List Claim → Option Claim → List Claim
with_claim claims None = claims
with_claim claims (Some claim) = claims ++ claim ∷ []

abbrev pub is_at : ℕ → ℕ → Claim → Bool
is_at template place claim = (claim.0 == template) && (claim.1 == place)

abbrev pub has_claim : List Claim → ℕ → ℕ → Bool
has_claim claims template place = list_any (is_at template place) claims

abbrev pub is_claimed : List Claim → Option Claim → Bool
is_claimed claims None = false
is_claimed claims (Some claim) = has_claim claims claim.0 claim.1

-- ---- what is told

-- why a task that comes as an instance can't be one, by the places of its template, its own, and whether an earlier one has that
abbrev pub reason_by : Option ℕ → Option ℕ → Bool → Option Text
reason_by None imask claimed = Some NO_TEMPLATE.now
reason_by (Some room) None claimed = Some NO_NUMBER.now
reason_by (Some room) (Some place) claimed =
    if nat_le room place then Some BEYOND.now
    else if claimed then Some TAKEN.now
    else None

-- among tasks with these identifiers and places, behind instances with these
abbrev pub reason_in : List (Option ℕ) → List (Option ℕ) → List Claim → Option Incoming
    → Option Text
reason_in ids rooms claims None = None
reason_in ids rooms claims (Some i) =
    if is_some i.raw_parent || is_some i.raw_imask
    then reason_by (room_at rooms (place_of_some ids i.raw_parent)) i.raw_imask
    (is_claimed claims (claim_in (Some i)))
    else None

abbrev pub orphan_of : List (Option ℕ) → List (Option ℕ) → List Claim → Judged → Option Text
orphan_of ids rooms claims e = option_map (λ reason. line_of ORPHAN.now e.item reason)
    (reason_in ids rooms claims (taken_in e.verdict))

-- Of instances with the same place, the first has it.
-- Rule: cleaning tells each instance of which an import makes a plain task. Tried by own_cleaning.sh.
abbrev pub orphans_on : List (Option ℕ) → List (Option ℕ) → List Claim → List Text
    → List Judged → List Text
orphans_on ids rooms claims found [] = found
orphans_on ids rooms claims found (e ∷ es) =
    orphans_on ids rooms (with_claim claims (claim_in (taken_in e.verdict)))
    (with_text found (orphan_of ids rooms claims e)) es

abbrev pub all_orphans : List Judged → List Text
all_orphans es = orphans_on (map id_of es) (rooms_of es) [] [] es
