-- What a commit leaves.
use Rattle.std.proofs.Common.{◌≡◌, ◌∙◌, ◌⊎◌, inl, inr, ℕ, Bool, false, true, List, [], ◌∷◌, ◌++◌, map, length, unwrap_or, option_map, Option, None, Some, Result, Ok, Err, refl, sym, ap, subst, IsPermutation}
use Rattle.std.specs.Prelude.{IsSome, OnOk}
use Rattle.std.specs.List.{AllByRecursion}
use Rattle.std.specs.FinMap.{entries, insert}
use Rattle.std.proofs.lemmas.List.Sums.{fold-append}
use Rattle.sqlite.specs.State.{HasCleanDisk, State as Database}
use Rattle.tb_board.specs.declared.board.Board.{Board}
use Rattle.tb_board.specs.declared.change.Change.{Change}
use Rattle.tb_board.specs.declared.world.World.{World}
use Rattle.tb_board.specs.Changing.{changed}
use Rattle.tb_board.specs.World.{number_of}
use Rattle.tb_cache.specs.BoardCache.{AreOf}
use Rattle.tb_core.specs.GoodWorld.{IsGoodWorld}
use Rattle.tb_calls.specs.declared.call.Call.{Call}
use Rattle.tb_calls.specs.declared.call.KeptReply.{KeptReply}
use Rattle.tb_calls.specs.Call.{State, name_of}
use Rattle.tb_calls.specs.Keep.{HoldsEither, MayCommit, with_reply}
use Rattle.tb_calls.specs.declared.reply.Reply.{Reply}
use Rattle.tb_task.specs.Storable.{IsMoment}
use Rattle.tb_rows.specs.Forms.{HasForm}
use Rattle.tb_rows.specs.Part.{board_in, IsPartOf, part_of_board, touched_board}
use Rattle.tb_rows.specs.Rows.{world_rows, HaveSameRows, IsSameContent}
use Rattle.tb_rows.specs.Steps.{Leads}
use Rattle.tb_deeds.specs.declared.deed.Deed.{Deed}
use Rattle.tb_sql.specs.declared.changes.RowChange.{RowChange}
use Rattle.tb_sql.specs.declared.changes.RowChange.TheVariants.{AddEntry}
use Rattle.tb_sql.specs.Changes.{with_kept}
use Rattle.tb_sql.specs.Opening.{IsAsBefore}
use Rattle.tb_sql.specs.Writing.{changed_by, written}
use Rattle.tb_sql_tables.specs.declared.rows.HistoryRow.{HistoryRow}
use Rattle.tb_sql_tables.specs.declared.rows.KeptRow.{KeptRow}
use Rattle.tb_sql_tables.specs.Content.{Content, Stands, StandsAsEither}
use Rattle.tb_lookup.specs.declared.people.StoredPerson.{StoredPerson}
use Rattle.tb_lookup.specs.People.{IsPersonFound}
use Rattle.tb_lookup.proofs.KeptRows.{with_reply_known, with_reply_rows}
use Rattle.tb_lookup.proofs.NotedEntries.{histories_noted, histories_stay_noted, history_rows_noted, history_rows_stay}
use Rattle.tb_lookup.specs.Reopening.{OfState}
use Rattle.tb_lookup.proofs.States.{either_alone, stored_alone}
use Rattle.tb_lookup.specs.Stored.{kept_row, state_rows, AreHistories, AreRowsOf, IsStored, IsStoredAsEither, MayLeave}
use Rattle.tb_lookup.proofs.Standing.{stored_again}
use Rattle.tb_keeper.specs.declared.writing.CallRows.{CallRows}
use Rattle.tb_keeper.specs.Committing.{deed_row, entry_changes, LeadTo}
use Rattle.tb_keeper.specs.Forms.{HasChangeForm}
use Rattle.tb_keeper.specs.declared.people_at_hand.People.{People}
use Rattle.tb_keeper.specs.Holds.{Holds, IsAtHand}
use Rattle.tb_keeper.specs.PeopleAtHand.{AreStillKnown, IsKnownIn}
use Rattle.tb_keeper.specs.Laws.{alone}
use Rattle.tb_keeper.proofs.ChangedForms.{changes_kept}
use Rattle.tb_keeper.proofs.Holding.{as_either, held_of, holds_of}

abbrev kept_of : Call → Reply → KeptReply
kept_of call reply = record { content = call.content; reply = reply }

-- the row of a reply, by what is found of its person
pub row_found : (w : World) (call : Call) (reply : Reply) (person : StoredPerson) (number : ℕ) (row : KeptRow) → IsPersonFound w call.member (Some person) → number ≡ person.number
    → row ≡ record { person = number; id = call.id; content = call.content; number = reply.number; status = reply.status; body = reply.body } → row ≡ kept_row w (name_of call, kept_of call reply)
row_found w call reply person number row found is made =
    let known : number ≡ unwrap_or (number_of w call.member) 0 = is ∙ ap (λ o. unwrap_or o 0) (sym found.0) in
    made ∙ (λ i.
    let now : KeptRow = record { person = known i; id = call.id; content = call.content; number = reply.number; status = reply.status; body = reply.body } in
    now)

-- the changes of rows lead to the rows of the later world
pub part_leads : (s : State) (people : ℕ) (part board : Option Board) (changes : List Change) (rows : List RowChange) (deed : Option Deed) (call : Call) → IsGoodWorld s.world → MayCommit s changes deed call
    → part ≡ board_in s.world (touched_board changes) → board ≡ part → people ≡ length s.world.people
    → ((w : World) → IsPartOf w people (part_of_board board changes) changes → Leads rows w (changed w changes)) → Leads rows s.world (changed s.world changes)
part_leads s people part board changes rows deed call good may found is are leads =
    leads s.world (record { good = good; later = may.good; extends = may.extends; shape = may.shape; people_are = are; touched = ap (λ o. part_of_board o changes) (is ∙ found) })

-- ---- the rows that are written

-- the rows before, with a reply more
with_one : (s : State) (kept : KeptRow) (content : Content) → HaveSameRows content (state_rows s) → HaveSameRows (with_kept kept content) (world_rows s.world)
with_one s kept content same = record { people = same.people; boards = same.boards; roles = same.roles; tasks = same.tasks; links = same.links; instances = same.instances; gone = same.gone; horizon = same.horizon }

abbrev entry_rows : Option HistoryRow → List HistoryRow
entry_rows None = []
entry_rows (Some row) = row ∷ []

-- the row of a deed goes in last of all
abbrev noted_in : Option HistoryRow → Content → Content
noted_in entry content = record content { history = entry_rows entry ++ content.history }

written_all : (rows : List RowChange) (entry : Option HistoryRow) (kept : KeptRow) (content : Content) → written (rows ++ entry_changes entry) kept content ≡ noted_in entry (written rows kept content)
written_all rows None kept content = fold-append (λ (c : Content) (change : RowChange). changed_by change c) (with_kept kept content) rows []
written_all rows (Some row) kept content = fold-append (λ (c : Content) (change : RowChange). changed_by change c) (with_kept kept content) rows (AddEntry row ∷ [])

-- the rows after
of_state : (s : State) (changes : List Change) (deed : Option Deed) (call : Call) (reply : Reply) (entry : Option HistoryRow) (content : Content) → HaveSameRows content (world_rows (changed s.world changes))
    → HaveSameRows (noted_in entry content) (state_rows (with_reply s changes deed call reply))
of_state s changes deed call reply entry content same = record { people = same.people; boards = same.boards; roles = same.roles; tasks = same.tasks; links = same.links; instances = same.instances; gone = same.gone; horizon = same.horizon }

-- the histories after, and their rows
module _ (s : State) (changes : List Change) (call : Call) (reply : Reply) (content : Content) (of_s : AreRowsOf s content) where
  histories_after : (deed : Option Deed) → MayCommit s changes deed call → (IsSome deed → IsMoment call.moment) → AreHistories (with_reply s changes deed call reply)
  histories_after None may moment = histories_stay_noted s content changes call reply of_s may
  histories_after (Some deed) may moment = histories_noted s content changes call reply of_s deed may (moment refl)

  history_after : (deed : Option Deed) → MayCommit s changes deed call → IsPermutation (entry_rows (option_map (deed_row s call) deed) ++ content.history) (state_rows (with_reply s changes deed call reply)).history
  history_after None may = history_rows_stay s content changes call reply of_s may
  history_after (Some deed) may = history_rows_noted s content changes call reply of_s deed may

module _ (s : State) (changes : List Change) (deed : Option Deed) (call : Call) (reply : Reply) (rows : List RowChange) (kept : KeptRow) (entry : Option HistoryRow) (content : Content)
    (may : MayCommit s changes deed call) (form : HasForm (changed s.world changes)) (follow : Leads rows s.world (changed s.world changes))
    (row : kept ≡ kept_row s.world (name_of call, kept_of call reply)) (note : entry ≡ option_map (deed_row s call) deed) (moment : IsSome deed → IsMoment call.moment) (of_s : AreRowsOf s content) where
  history_written : IsPermutation (entry_rows entry ++ (written rows kept content).history) (state_rows (with_reply s changes deed call reply)).history
  history_written =
      let all = (state_rows (with_reply s changes deed call reply)).history in
      subst (λ (l : List HistoryRow). IsPermutation (entry_rows entry ++ l) all) (sym (follow.history (with_kept kept content)))
      (subst (λ (o : Option HistoryRow). IsPermutation (entry_rows o ++ content.history) all) (sym note) (history_after s changes call reply content of_s deed may))

  -- the rows that are written are those of the state with the reply and the deed
  pub rows_written : AreRowsOf (with_reply s changes deed call reply) (written (rows ++ entry_changes entry) kept content)
  rows_written =
      let later = changed s.world changes in
      let effect = follow.tables (with_kept kept content) (with_one s kept content of_s.same.tables) in
      let rest = with_reply_rows s.world later may.extends.people s.kept (name_of call) (kept_of call reply) of_s.people may.known may.new content.kept of_s.same.kept in
      let all : List KeptRow = map (kept_row later) (entries (insert s.kept (name_of call) (kept_of call reply))) in
      let kept_rows = subst (λ (k : KeptRow). IsPermutation (k ∷ content.kept) all) (sym row) rest in
      let same : IsSameContent (noted_in entry (written rows kept content)) (state_rows (with_reply s changes deed call reply)) = record {
        tables = of_state s changes deed call reply entry (written rows kept content) effect;
        kept = subst (λ (l : List KeptRow). IsPermutation l all) (sym (follow.kept (with_kept kept content))) kept_rows;
        history = history_written;
      } in
      record {
        apart = of_s.apart;
        good = may.good;
        form = form;
        people = with_reply_known s.world later may.extends.people s.kept (name_of call) (kept_of call reply) of_s.people may.known may.new;
        histories = histories_after s changes call reply content of_s deed may moment;
        same = subst (λ (c : Content). IsSameContent c (state_rows (with_reply s changes deed call reply))) (sym (written_all rows entry kept content)) same;
      }

-- the rows are looked up, then the row of the reply, then that of the deed
module _ (old planned kept_found new : Database) (people : People) (boards : ℕ) (cached : List (ℕ × Board)) (changes : List Change) (deed : Option Deed) (call : Call) (reply : Reply) (rows : List RowChange) (kept : KeptRow) (entry : Option HistoryRow)
    (one : IsAsBefore old planned) (idle_one : planned.in_transaction ≡ false) (two : IsAsBefore planned kept_found) (idle_two : kept_found.in_transaction ≡ false) (three : IsAsBefore kept_found new)
    (formed : AllByRecursion HasChangeForm changes)
    (leads : OfState old planned (λ s. AreOf s.world cached → people.count ≡ length s.world.people → (d : Option Deed) (k : Call) → MayCommit s changes d k → Leads rows s.world (changed s.world changes)))
    (row : OfState planned kept_found (λ s. IsKnownIn s.world people.known → kept ≡ kept_row s.world (name_of call, kept_of call reply)))
    (note : OfState kept_found new (λ s. kept.person ≡ unwrap_or (number_of s.world call.member) 0 → entry ≡ option_map (deed_row s call) deed))
    (moment : IsSome deed → IsMoment call.moment) where
  pub all_lead : OfState old new (λ s. IsAtHand people boards cached s.world → MayCommit s changes deed call
      → (content : Content) → AreRowsOf s content → AreRowsOf (with_reply s changes deed call reply) (written (rows ++ entry_changes entry) kept content))
  all_lead clean s stored hand may content of_s =
      let clean_found = three.clean clean in
      let at_planned = stored_again s old planned stored one idle_one in
      let at_found = stored_again s planned kept_found at_planned two idle_two in
      let is = row clean_found s at_planned hand.known_is in
      rows_written s changes deed call reply rows kept entry content may (changes_kept s.world changes of_s.form formed)
      (leads (two.clean clean_found) s stored hand.cached_are hand.people_are deed call may) is (note clean s at_found (ap (λ (k : KeptRow). k.person) is)) moment of_s

-- ---- what was looked up is written

module _ (old mid new : Database) (Hand May : State → Type 0) (later : State → State) (rows : CallRows) (same : IsAsBefore old mid) (idle : mid.in_transaction ≡ false) (clean_last : HasCleanDisk new → HasCleanDisk mid) where
  at_mid : (s : State) → IsStored s old → IsStored s mid
  at_mid s stored = stored_again s old mid stored same idle

  -- before the commit nothing has changed
  pub write_undone : ((content : Content) → Stands content mid → Stands content new) → new.in_transaction ≡ false → OfState old new (λ s. IsStored s new)
  write_undone stays idle_last clean s stored =
      let found = at_mid s stored in
      record { content = found.content; rows = found.rows; stands = stays found.content found.stands; idle = idle_last }

  module _ (leads : OfState old mid (λ s. Hand s → May s → LeadTo s (later s) rows)) where
    pub write_done : ((content : Content) → Stands content mid → Stands (written rows.changes rows.kept content) new) → new.in_transaction ≡ false → OfState old new (λ s. Hand s → May s → IsStored (later s) new)
    write_done done idle_last clean s stored hand may =
        let found = at_mid s stored in
        record {
          content = written rows.changes rows.kept found.content;
          rows = leads (clean_last clean) s stored hand may found.content found.rows;
          stands = done found.content found.stands;
          idle = idle_last;
        }

    pub write_failed : ((content : Content) → Stands content mid → StandsAsEither content (written rows.changes rows.kept content) new) → OfState old new (λ s. Hand s → May s → IsStored s new ⊎ IsStoredAsEither s (later s) new)
    write_failed failed clean s stored hand may =
        let found = at_mid s stored in
        inr (record {
          before = found.content;
          after = written rows.changes rows.kept found.content;
          rows_before = found.rows;
          rows_after = leads (clean_last clean) s stored hand may found.content found.rows;
          stands = failed found.content found.stands;
        })

-- ---- what a keeper holds after that

module _ (failed : Bool) (people : People) (boards : ℕ) (cached : List (ℕ × Board)) (d : Database) (s after : State) (fine : failed ≡ false) where
  -- nothing was written
  pub either_first : Holds failed people boards cached d s → HoldsEither s after (λ t. Holds failed people boards cached d t) (λ t. MayLeave d t)
  either_first holds = record { held = inl holds; stops = λ t left. inl (alone failed people boards cached d s t holds fine left) }

  -- all is written
  pub either_second : Holds failed people boards cached d after → HoldsEither s after (λ t. Holds failed people boards cached d t) (λ t. MayLeave d t)
  either_second holds = record { held = inr holds; stops = λ t left. inr (alone failed people boards cached d after t holds fine left) }

module _ (failed : Bool) (people : People) (boards : ℕ) (cached : List (ℕ × Board)) (old : Database) (s : State) (changes : List Change) (deed : Option Deed) (call : Call) (fine : failed ≡ false) (held : Holds failed people boards cached old s) (may : MayCommit s changes deed call)
    (new : Database) (failed_then : Bool) (people_then : People) (boards_then : ℕ) (now : List (ℕ × Board)) (same_failed : failed_then ≡ failed) (known : AreStillKnown old new people people_then) (same_boards : boards_then ≡ boards)
    (before : HasCleanDisk new → HasCleanDisk old) (of : OfState old new (λ t. AreOf t.world cached → AreOf t.world now)) where
  was : HasCleanDisk new → IsStored s old × IsAtHand people boards cached s.world
  was clean = held_of failed people boards cached old s fine (before clean) held

  at_hand : HasCleanDisk new → IsAtHand people_then boards_then now s.world
  at_hand clean = let both = was clean in record { people_are = known.count_is ∙ both.1.people_are; known_is = known.known_is clean s both.0 both.1.known_is; boards_are = same_boards ∙ both.1.boards_are; cached_are = of clean s both.0 both.1.cached_are }

  pub commit_memory : OfState old new (λ t. IsStored t new) → Holds failed_then people_then boards_then now new s
  commit_memory stays = holds_of failed_then people_then boards_then now new s (same_failed ∙ fine) (record { good = held.good; kept = λ clean. (stays clean s (was clean).0, at_hand clean) })

  pub commit_ok : (reply : Reply) (failed_later : Bool) (later_people : People) (later_boards : ℕ) (later : List (ℕ × Board)) (d : Database) → failed_later ≡ failed_then → d ≡ new
      → OfState old new (λ t. IsAtHand people boards cached t.world → MayCommit t changes deed call → IsStored (with_reply t changes deed call reply) new)
      → ((w : World) → IsAtHand people_then boards_then now w → IsGoodWorld (changed w changes) → IsAtHand later_people later_boards later (changed w changes))
      → Holds failed_later later_people later_boards later d (with_reply s changes deed call reply)
  commit_ok reply failed_later later_people later_boards later d same_later same_d done follows =
      subst (λ (x : Database). Holds failed_later later_people later_boards later x (with_reply s changes deed call reply)) (sym same_d) (holds_of failed_later later_people later_boards later new (with_reply s changes deed call reply) (same_later ∙ same_failed ∙ fine) (record {
        good = may.good;
        kept = λ clean. let both = was clean in (done clean s both.0 both.1 may, follows s.world (at_hand clean) may.good);
      }))

  pub commit_store : (reply : Reply)
      → OfState old new (λ t. IsAtHand people boards cached t.world → MayCommit t changes deed call → IsStored t new ⊎ IsStoredAsEither t (with_reply t changes deed call reply) new)
      → HoldsEither s (with_reply s changes deed call reply) (λ t. Holds true people_then boards_then now new t) (λ t. MayLeave new t)
  commit_store reply fails = record {
    held = inl (record { good = held.good; kept = λ clean. kept_as (fails clean s (was clean).0 (was clean).1 may) });
    stops = λ t left. left_as t left (fails left.clean s (was left.clean).0 (was left.clean).1 may);
  }
    where
      kept_as : IsStored s new ⊎ IsStoredAsEither s (with_reply s changes deed call reply) new → (t : State) × IsStoredAsEither s t new
      kept_as (inl stored) = (s, as_either s new stored)
      kept_as (inr either) = (with_reply s changes deed call reply, either)

      left_as : (t : State) → MayLeave new t → IsStored s new ⊎ IsStoredAsEither s (with_reply s changes deed call reply) new → (t ≡ s) ⊎ (t ≡ with_reply s changes deed call reply)
      left_as t left (inl stored) = inl (stored_alone s t new stored left)
      left_as t left (inr either) = either_alone s (with_reply s changes deed call reply) t new either left

pub on_ok : {X E : Type 0} (r : Result X E) (A B : Type 0) → (A → B) → OnOk r A → OnOk r B
on_ok (Ok x) A B f is = f is
on_ok (Err e) A B f is = tt
