-- Tasks that cleaning brings are read as they are written.
use Rattle.std.proofs.Common.{◌≡◌, ℕ, zero, suc, ◌+◌, Bool, true, false, true≢false, not, ◌&&◌, List, [], ◌∷◌, ◌++◌, length, get_or, set, map, Option, Some, None, refl, sym, inl, inr}
use Rattle.std.specs.Prelude.{is_some, slice_get, if◌then◌else◌}
use Rattle.std.proofs.lemmas.Bool.{cases_Bool}
use Rattle.serde_json.specs.Data.{Data}
use Rattle.tb_graph.specs.Marks.{is_marked}
use Rattle.tb_task.specs.Step.{first_of_two}
use Rattle.tb_cleaning.specs.Circles.{circles_of}
use Rattle.tb_cleaning.specs.Entries.{Judged, entry_of, id_of, taken_in}
use Rattle.tb_cleaning.specs.Judging.{judged}
use Rattle.tb_cleaning.specs.Ordering.{brought, has_instances, is_left_out, is_ready, left_from, marked, next_of, order_of, order_on, picked_on, ready_from, with_entry}
use Rattle.tb_cleaning.specs.Places.{depends_of, parent_in, place_of, waits_of, with_place}
use Rattle.tb_cleaning.specs.Readable.{AreRead, IsRead}
use Rattle.tb_cleaning.specs.Sorting.{change_at, is_lost, is_place, kept_of, kept_on, loss_of, lost_reason, refused_on, sorted, sorted_by, sorted_of, sorted_on, with_change}
use Rattle.tb_cleaning.specs.Steps.{Text}
use Rattle.tb_cleaning.specs.declared.sorting.TheConstants.{IN_CIRCLE}
use Rattle.tb_cleaning.specs.declared.verdict.Verdict.{Verdict}
use Rattle.tb_cleaning.specs.declared.verdict.Verdict.TheVariants.{Taken, Double, Refused}

-- ---- sorting takes none that isn't read

abbrev IsSound : Judged → Type 0
IsSound e = is_some (taken_in e.verdict) ≡ true → IsRead e

abbrev AreSound : List Judged → Type 0
AreSound [] = Unit {0}
AreSound (e ∷ es) = IsSound e × AreSound es

sound_push : (es : List Judged) (e : Judged) → AreSound es → IsSound e → AreSound (es ++ e ∷ [])
sound_push [] e all one = (one, tt)
sound_push (x ∷ xs) e all one = (all.0, sound_push xs e all.1 one)

sound_entries : (ds : List Data) → AreSound (map entry_of ds)
sound_entries [] = tt
sound_entries (d ∷ ds) = (λ taken. taken, sound_entries ds)

two_changes : (double circle : Bool) (reason : Text) (e : Judged) → IsSound e
    → IsSound (with_change e (if double then Some Double else if circle then Some (Refused reason) else None))
two_changes true circle reason e sound = λ taken. absurd (true≢false (sym taken))
two_changes false true reason e sound = λ taken. absurd (true≢false (sym taken))
two_changes false false reason e sound = sound

one_change : (lost : Bool) (reason : Text) (e : Judged) → IsSound e → IsSound (with_change e (if lost then Some (Refused reason) else None))
one_change true reason e sound = λ taken. absurd (true≢false (sym taken))
one_change false reason e sound = sound

sound_at : (ids : List (Option ℕ)) (circles : List Bool) (place : ℕ) (id : Option ℕ) (e : Judged) → IsSound e → IsSound (with_change e (change_at ids circles place id))
sound_at ids circles place None e sound = sound
sound_at ids circles place (Some id) e sound = two_changes (not (is_place place (place_of ids id))) (is_marked circles place) IN_CIRCLE.now e sound

sound_loss : (ids : List (Option ℕ)) (refused : List ℕ) (parent : Option ℕ) (e : Judged) → IsSound e → IsSound (with_change e (loss_of ids refused parent))
sound_loss ids refused None e sound = sound
sound_loss ids refused (Some id) e sound = one_change (is_lost ids refused id) (lost_reason id) e sound

sound_sorted : (ids : List (Option ℕ)) (circles : List Bool) (found es : List Judged) → AreSound found → AreSound es → AreSound (sorted_on ids circles found es)
sound_sorted ids circles found [] before all = before
sound_sorted ids circles found (e ∷ es) before all =
    let one = sound_at ids circles (length found) (id_of e) e all.0 in
    sound_sorted ids circles (found ++ with_change e (change_at ids circles (length found) (id_of e)) ∷ []) es (sound_push found _ before one) all.1

sound_kept : (ids : List (Option ℕ)) (refused : List ℕ) (found es : List Judged) → AreSound found → AreSound es → AreSound (kept_on ids refused found es)
sound_kept ids refused found [] before all = before
sound_kept ids refused found (e ∷ es) before all =
    let parent = parent_in (taken_in e.verdict) in
    sound_kept ids refused (found ++ with_change e (loss_of ids refused parent) ∷ []) es (sound_push found _ before (sound_loss ids refused parent e all.0)) all.1

sound_all : (ds : List Data) → AreSound (sorted ds)
sound_all ds =
    let es = map entry_of ds in
    let ids = map id_of es in
    let first = sound_sorted ids (circles_of (map (depends_of ids) es)) [] es tt (sound_entries ds) in
    let later = sorted_of es in
    sound_kept (map id_of later) (refused_on [] later) [] later tt first

-- ---- none is brought that is left out

abbrev IsFreeIf : List Bool → Option ℕ → Type 0
IsFreeIf done None = Unit {0}
IsFreeIf done (Some place) = is_marked done place ≡ false

abbrev AreFree : List Bool → List ℕ → Type 0
AreFree start [] = Unit {0}
AreFree start (place ∷ places) = (is_marked start place ≡ false) × AreFree start places

abbrev HasGrown : List Bool → List Bool → Type 0
HasGrown start done = (place : ℕ) → is_marked done place ≡ false → is_marked start place ≡ false

left_part : (mark rest : Bool) → (not mark && rest) ≡ true → mark ≡ false
left_part true rest h = absurd (true≢false (sym h))
left_part false rest h = refl

right_part : (passes mark : Bool) → (passes && not mark) ≡ true → mark ≡ false
right_part true true h = absurd (true≢false (sym h))
right_part false true h = absurd (true≢false (sym h))
right_part passes false h = refl

free_cond : (done : List Bool) (test : Bool) (k : ℕ) (other : Option ℕ) → (test ≡ true → is_marked done k ≡ false) → IsFreeIf done other
    → IsFreeIf done (if test then Some k else other)
free_cond done true k other here rest = here refl
free_cond done false k other here rest = rest

free_ready : (done : List Bool) (k : ℕ) (all : List (List ℕ)) → IsFreeIf done (ready_from done k all)
free_ready done k [] = tt
free_ready done k (waits ∷ all) = free_cond done (is_ready done k waits) k _ (left_part (is_marked done k) _) (free_ready done (k + 1) all)

free_left : (done : List Bool) (k : ℕ) (all : List Bool) → IsFreeIf done (left_from done k all)
free_left done k [] = tt
free_left done k (passes ∷ all) = free_cond done (passes && not (is_marked done k)) k _ (right_part passes (is_marked done k)) (free_left done (k + 1) all)

free_two : (done : List Bool) (a b : Option ℕ) → IsFreeIf done a → IsFreeIf done b → IsFreeIf done (first_of_two a b)
free_two done None b one two = two
free_two done (Some p) b one two = one

free_next : (waits : List (List ℕ)) (templates done : List Bool) → IsFreeIf done (next_of waits templates done)
free_next waits templates done =
    free_two done _ _ (free_ready done 0 waits) (free_two done _ _ (free_left done 0 templates) (free_left done 0 (map not done)))

free_before : (start done : List Bool) (o : Option ℕ) → HasGrown start done → IsFreeIf done o → IsFreeIf start o
free_before start done None grown free = tt
free_before start done (Some place) grown free = grown place free

free_push : (start : List Bool) (found : List ℕ) (o : Option ℕ) → AreFree start found → IsFreeIf start o → AreFree start (with_place found o)
free_push start found None all one = all
free_push start [] (Some place) all one = (one, tt)
free_push start (x ∷ xs) (Some place) all one = (all.0, free_push start xs (Some place) all.1 one)

unmarked : (done : List Bool) (q place : ℕ) → is_marked (set done q true) place ≡ false → is_marked done place ≡ false
unmarked [] q place h = h
unmarked (mark ∷ marks) zero zero h = absurd (true≢false h)
unmarked (mark ∷ marks) zero (suc place) h = h
unmarked (mark ∷ marks) (suc q) zero h = h
unmarked (mark ∷ marks) (suc q) (suc place) h = unmarked marks q place h

grown_marked : (start done : List Bool) (o : Option ℕ) → HasGrown start done → HasGrown start (marked done o)
grown_marked start done None grown = grown
grown_marked start done (Some q) grown = λ place h. grown place (unmarked done q place h)

free_order : (start : List Bool) (waits : List (List ℕ)) (templates : List Bool) (found : List ℕ) (done : List Bool) (more : List (List ℕ))
    → HasGrown start done → AreFree start found → AreFree start (order_on waits templates found done more)
free_order start waits templates found done [] grown all = all
free_order start waits templates found done (one ∷ more) grown all =
    let next = next_of waits templates done in
    let free = free_before start done next grown (free_next waits templates done) in
    free_order start waits templates (with_place found next) (marked done next) more (grown_marked start done next grown) (free_push start found next all free)

-- ---- so each that is brought is read

abbrev IsReadIf : Option Judged → Type 0
IsReadIf None = Unit {0}
IsReadIf (Some e) = IsRead e

not_false : (b : Bool) → not b ≡ false → b ≡ true
not_false true h = refl
not_false false h = absurd (true≢false h)

read_at : (es : List Judged) (place : ℕ) → is_marked (map is_left_out es) place ≡ false → AreSound es → IsReadIf (slice_get es place)
read_at [] place free all = tt
read_at (e ∷ es) zero free all = all.0 (not_false (is_some (taken_in e.verdict)) free)
read_at (e ∷ es) (suc place) free all = read_at es place free all.1

read_push : (found : List Judged) (o : Option Judged) → AreRead found → IsReadIf o → AreRead (with_entry found o)
read_push found None all one = all
read_push [] (Some e) all one = (one, tt)
read_push (x ∷ xs) (Some e) all one = (all.0, read_push xs (Some e) all.1 one)

read_picked : (es found : List Judged) (places : List ℕ) → AreFree (map is_left_out es) places → AreSound es → AreRead found → AreRead (picked_on es found places)
read_picked es found [] free sound all = all
read_picked es found (place ∷ places) free sound all =
    read_picked es (with_entry found (slice_get es place)) places free.1 sound (read_push found (slice_get es place) all (read_at es place free.0 sound))

pub brought_read : (ds : List Data) → AreRead (brought (sorted ds))
brought_read ds =
    let es = sorted ds in
    let waits = map (waits_of (map id_of es)) es in
    let start = map is_left_out es in
    let free = free_order start waits (map has_instances es) [] start waits (λ place h. h) tt in
    read_picked es [] (order_of es) free (sound_all ds) tt
