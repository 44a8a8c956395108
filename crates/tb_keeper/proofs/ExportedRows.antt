-- A row that is shown by the notes is the task that the export shows.
use Rattle.std.proofs.Common.{◌≡◌, ◌∙◌, ◌+◌, ◌≤◌, ℕ, suc, zero, Bool, true, false, cond, List, [], ◌∷◌, ◌++◌, Option, Some, None, option_map, find, slice_get, drop, map, length, refl, sym, ap, subst, arith, append_assoc}
use Rattle.std.specs.List.{AllByRecursion}
use Rattle.std.specs.Io.KnownBytes.{Appends}
use Rattle.std.proofs.lemmas.List.{length-map}
use Rattle.std.proofs.lemmas.Option.{get_or_from_slice_get, same_Some, slice_get-map, slice_get_within}
use Rattle.sqlite.specs.State.{State as Database}
use Rattle.tb_task.specs.declared.incoming.Shown.{Shown}
use Rattle.tb_task.specs.declared.task.Task.{Task}
use Rattle.tb_board.specs.Board.{wake}
use Rattle.tb_board.specs.Tasks.{woken}
use Rattle.tb_board.specs.Good.{IsGood}
use Rattle.tb_board.specs.Statuses.{is_template}
use Rattle.tb_board.specs.Templates.{mask}
use Rattle.tb_board.specs.World.{find_board, has_number}
use Rattle.tb_board.specs.declared.board.Board.{Board}
use Rattle.tb_calls.specs.Call.{State}
use Rattle.tb_json.specs.ListText.{line_end, piece}
use Rattle.tb_json.specs.Writing.{shown_text}
use Rattle.tb_json.proofs.ListSteps.{list_text-tail, tail_of, tail-more}
use Rattle.tb_report.specs.Showing.{mask_on, shown}
use Rattle.tb_sql.specs.Opening.{IsAsBefore}
use Rattle.tb_lookup.specs.Reopening.{OfState}
use Rattle.tb_lookup.specs.Stored.{IsStored}
use Rattle.tb_lookup.proofs.Standing.{stored_again}
use Rattle.tb_values.specs.Appends.{AppendsFront}
use Rattle.tb_values.proofs.Appends.{Appends-nil, Appends-then, AppendsFront-more, AppendsFront-then}
use Rattle.tb_keeper.specs.Exporting.{AppendsBut, shown_on, tasks_on, text_on}
use Rattle.tb_keeper.specs.Lending.{lent_row, row_behind, stored_row}
use Rattle.tb_keeper.specs.Noting.{AreNotes, marks_by, notes_of, shown_row}
use Rattle.tb_keeper.specs.declared.lending.StoredRow.{StoredRow}
use Rattle.tb_keeper.specs.declared.noting.Note.{Note}
use Rattle.tb_keeper.proofs.NotedMarks.{row_same}
use Rattle.tb_keeper.proofs.WokenMasks.{woken_mask}

-- ---- a board of a good world

abbrev pub IsGoodOn : Option Board → Type 0
IsGoodOn None = Unit {0}
IsGoodOn (Some b) = IsGood b

found_good : (n : ℕ) (bs : List Board) → AllByRecursion IsGood bs → IsGoodOn (find (has_number n) bs)
found_good n [] all = tt
found_good n (b ∷ bs) all = by (has_number n b) (found_good n bs all.1)
  where
    by : (here : Bool) → IsGoodOn (find (has_number n) bs) → IsGoodOn (cond here (Some b) (find (has_number n) bs))
    by true rest = all.0
    by false rest = rest

good_on : (s : State) (d : Database) (n : ℕ) → IsStored s d → IsGoodOn (find_board s.world n)
good_on s d n stored = found_good n s.world.boards stored.rows.good.good

-- ---- the row of a task

mask_if : (b : Board) (m id : ℕ) → IsGood b → (has : Bool) → option_map (marks_by (notes_of m b.tasks) id 0) (cond has (Some (mask b id)) None) ≡ cond has (Some (mask (wake b m) id)) None
mask_if b m id good true = ap Some (sym (woken_mask id m b (good.runs id).distinct))
mask_if b m id good false = refl

-- the row is shown as the task of the woken board
row_shown : (b : Board) (m k : ℕ) (t : Task) → IsGood b → shown_row (notes_of m b.tasks) m (lent_row b k t) ≡ record { task = woken m t; mask = mask_on (wake b m) (woken m t) }
row_shown b m k t good = ap (λ (mask : Option (List ℕ)). let seen : Shown = record { task = woken m t; mask = mask } in seen) (mask_if b m t.id good (is_template t))

-- ---- the row at a place

none_behind : (b : Option Board) (k : ℕ) → None ≡ row_behind b k → length (tasks_on b) ≤ k
none_behind None k none = omega arith
none_behind (Some b) k none = go b.tasks k none
  where
    go : (ts : List Task) (i : ℕ) → None ≡ option_map (lent_row b k) (slice_get ts i) → length ts ≤ i
    go [] i is = omega arith
    go (t ∷ ts) zero is = absurd (cc)
    go (t ∷ ts) (suc i) is = let rest = go ts i is in omega (arith, rest)

one_behind : (b : Option Board) (k : ℕ) (row : StoredRow) → Some row ≡ row_behind b k → slice_get (tasks_on b) k ≡ Some row.task
one_behind None k row one = absurd (cc)
one_behind (Some b) k row one = go (slice_get b.tasks k) one
  where
    go : (t : Option Task) → Some row ≡ option_map (lent_row b k) t → t ≡ Some row.task
    go None is = absurd (cc)
    go (Some t) is = let same : row ≡ lent_row b k t = same_Some row (lent_row b k t) is in ap (λ (r : StoredRow). Some r.task) (sym same)

-- what is shown of the board at the place of a row is the row by the notes
shown_behind : (b : Option Board) (m k : ℕ) (row : StoredRow) → IsGoodOn b → Some row ≡ row_behind b k → slice_get (shown_on b m) k ≡ Some (shown_row (notes_of m (tasks_on b)) m row)
shown_behind None m k row good one = absurd (cc)
shown_behind (Some b) m k row good one = all ∙ go (slice_get b.tasks k) one
  where
    seen : Task → Shown
    seen t = record { task = t; mask = mask_on (wake b m) t }

    all : slice_get (shown b m) k ≡ option_map seen (option_map (woken m) (slice_get b.tasks k))
    all = slice_get-map seen (map (woken m) b.tasks) k ∙ ap (option_map seen) (slice_get-map (woken m) b.tasks k)

    go : (t : Option Task) → Some row ≡ option_map (lent_row b k) t → option_map seen (option_map (woken m) t) ≡ Some (shown_row (notes_of m b.tasks) m row)
    go None is = absurd (cc)
    go (Some t) is =
        let same : row ≡ lent_row b k t = same_Some row (lent_row b k t) is in
        ap Some (sym (row_shown b m k t good)) ∙ ap (λ r. Some (shown_row (notes_of m b.tasks) m r)) (sym same)

size_shown : (b : Option Board) (m : ℕ) → length (shown_on b m) ≡ length (tasks_on b)
size_shown None m = refl
size_shown (Some b) m = length-map (map (woken m) b.tasks) _ ∙ length-map b.tasks _

drop_past : {X : Type 0} (xs : List X) (k : ℕ) → length xs ≤ k → drop k xs ≡ []
drop_past [] zero le = refl
drop_past [] (suc k) le = refl
drop_past (x ∷ xs) zero le = absurd (omega (arith, le))
drop_past (x ∷ xs) (suc k) le = drop_past xs k (omega (arith, le))

-- ---- the way through the rows

-- So much of the text is out, so much of it is pending, and so much of it is still to be made.
pub record IsOut (b : Option Board) (m k : ℕ) (is_first : Bool) (old new : Option (List ℕ)) (pending : List ℕ) : Type 0 where
  pub within : k ≤ length (tasks_on b)
  pub out : List ℕ
  pub whole : (out ++ pending) ++ tail_of is_first (map shown_text (drop k (shown_on b m))) ≡ text_on b m
  pub written : Appends old new out

first_out : (b : Option Board) (m : ℕ) (old : Option (List ℕ)) → IsOut b m 0 true old old (91 ∷ 10 ∷ [])
first_out b m old = record {
  within = omega arith;
  out = [];
  whole = list_text-tail (map shown_text (shown_on b m));
  written = Appends-nil old;
}

module _ (b : Option Board) (m k : ℕ) (is_first : Bool) (old mid : Option (List ℕ)) (pending : List ℕ) (is : IsOut b m k is_first old mid pending) where
  abbrev tail : List ℕ
  tail = tail_of is_first (map shown_text (drop k (shown_on b m)))

  front_out : AppendsFront old mid (text_on b m)
  front_out = (is.out, pending ++ tail, sym is.whole ∙ append_assoc is.out pending tail, is.written)

  module _ (new : Option (List ℕ)) where
    -- more of what is pending goes out
    moved_out : (left : List ℕ) → AppendsBut mid new pending left → IsOut b m k is_first old new left
    moved_out left moved = record {
      within = is.within;
      out = is.out ++ moved.0;
      whole = ap (λ l. l ++ tail) (append_assoc is.out moved.0 left ∙ ap (λ l. is.out ++ l) (sym moved.1)) ∙ is.whole;
      written = Appends-then old mid new is.out moved.0 is.written moved.2;
    }

    moved_front : AppendsFront mid new pending → AppendsFront old new (text_on b m)
    moved_front front = subst (AppendsFront old new) is.whole (AppendsFront-more old new (is.out ++ pending) tail (AppendsFront-then old mid new is.out pending is.written front))

  module _ (row : StoredRow) (good : IsGoodOn b) (one : Some row ≡ row_behind b k) where
    abbrev seen : Shown
    seen = shown_row (notes_of m (tasks_on b)) m row

    split : (is.out ++ pending) ++ tail ≡ ((is.out ++ pending) ++ piece is_first (shown_text seen)) ++ tail_of false (map shown_text (drop (suc k) (shown_on b m)))
    split =
        let at = shown_behind b m k row good one in
        tail-more (shown_on b m) k seen is_first (is.out ++ pending) (slice_get_within (shown_on b m) k seen at) (sym (get_or_from_slice_get (shown_on b m) k seen seen at))

    more_out : IsOut b m (k + 1) false old mid (pending ++ piece is_first (shown_text seen))
    more_out = record {
      within =
          let below = slice_get_within (tasks_on b) k row.task (one_behind b k row one) in
          omega (arith, below);
      out = is.out;
      whole =
          let next : suc k ≡ k + 1 = omega arith in
          ap (λ l. l ++ tail_of false (map shown_text (drop (k + 1) (shown_on b m)))) (sym (append_assoc is.out pending (piece is_first (shown_text seen))))
          ∙ subst (λ j. ((is.out ++ pending) ++ piece is_first (shown_text seen)) ++ tail_of false (map shown_text (drop j (shown_on b m))) ≡ text_on b m) next (sym split ∙ is.whole);
      written = is.written;
    }

  module _ (none : None ≡ row_behind b k) where
    past : length (tasks_on b) ≤ k
    past = none_behind b k none

    at_end : is.out ++ (pending ++ (line_end is_first [] ++ 93 ∷ 10 ∷ [])) ≡ text_on b m
    at_end =
        let beyond : length (shown_on b m) ≤ k = subst (λ n. n ≤ k) (sym (size_shown b m)) past in
        sym (append_assoc is.out pending (line_end is_first [] ++ 93 ∷ 10 ∷ []))
        ∙ ap (λ l. (is.out ++ pending) ++ tail_of is_first (map shown_text l)) (sym (drop_past (shown_on b m) k beyond))
        ∙ is.whole

    all_out : (new : Option (List ℕ)) → Appends mid new (pending ++ (line_end is_first [] ++ 93 ∷ 10 ∷ [])) → (k ≡ length (tasks_on b)) × Appends old new (text_on b m)
    all_out new ended =
        let within = is.within in
        let beyond = past in
        (omega (arith, within, beyond), subst (Appends old new) at_end (Appends-then old mid new is.out (pending ++ (line_end is_first [] ++ 93 ∷ 10 ∷ [])) is.written ended))

    end_front : (new : Option (List ℕ)) → AppendsFront mid new (pending ++ (line_end is_first [] ++ 93 ∷ 10 ∷ [])) → AppendsFront old new (text_on b m)
    end_front new front = subst (AppendsFront old new) at_end (AppendsFront-then old mid new is.out (pending ++ (line_end is_first [] ++ 93 ∷ 10 ∷ [])) is.written front)

-- ---- of what is stored

pub as_before : (d : Database) → IsAsBefore d d
as_before d = record { clean = λ clean. clean; was_open = λ clean is_open. is_open; seen = λ clean is_open same. (refl, same); left = λ clean db may. may }

-- by these notes
abbrev pub ByNotes : List Note → ℕ → ℕ → (Option Board → Type 0) → State → Type 0
ByNotes notes m n P s = AreNotes m (tasks_on (find_board s.world n)) notes → P (find_board s.world n)

pub begun_state : (d : Database) (notes : List Note) (m n : ℕ) (old : Option (List ℕ)) → OfState d d (ByNotes notes m n (λ b. IsOut b m 0 true old old (91 ∷ 10 ∷ [])))
begun_state d notes m n old clean s stored noted = first_out (find_board s.world n) m old

module _ (start before : Database) (notes : List Note) (n m k : ℕ) (is_first : Bool) (old mid : Option (List ℕ)) (pending : List ℕ) (out : OfState start before (ByNotes notes m n (λ b. IsOut b m k is_first old mid pending))) where
  pub front_now : OfState start before (ByNotes notes m n (λ b. AppendsFront old mid (text_on b m)))
  front_now clean s stored noted = front_out (find_board s.world n) m k is_first old mid pending (out clean s stored noted)

  pub moved_state : (new : Option (List ℕ)) (left : List ℕ) → AppendsBut mid new pending left → OfState start before (ByNotes notes m n (λ b. IsOut b m k is_first old new left))
  moved_state new left moved clean s stored noted = moved_out (find_board s.world n) m k is_first old mid pending (out clean s stored noted) new left moved

  pub moved_front_state : (new : Option (List ℕ)) → AppendsFront mid new pending → OfState start before (ByNotes notes m n (λ b. AppendsFront old new (text_on b m)))
  moved_front_state new front clean s stored noted = moved_front (find_board s.world n) m k is_first old mid pending (out clean s stored noted) new front

  module _ (after : Database) (same : IsAsBefore start before) (idle : before.in_transaction ≡ false) (later : IsAsBefore before after) where
    been : (s : State) → IsStored s start → IsStored s before
    been s stored = stored_again s start before stored same idle

    pub front_state : OfState start after (ByNotes notes m n (λ b. AppendsFront old mid (text_on b m)))
    front_state clean s stored noted = front_now (later.clean clean) s stored noted

    pub more_state : (row : StoredRow) → OfState before after (λ s. Some row ≡ stored_row s.world n k) → OfState start after (ByNotes notes m n (λ b. IsOut b m (k + 1) false old mid (pending ++ piece is_first (shown_text (shown_row notes m row)))))
    more_state row found clean s stored noted =
        subst (λ seen. IsOut (find_board s.world n) m (k + 1) false old mid (pending ++ piece is_first (shown_text seen))) (row_same notes m (tasks_on (find_board s.world n)) row noted)
        (more_out (find_board s.world n) m k is_first old mid pending (out (later.clean clean) s stored noted) row (good_on s start n stored) (found clean s (been s stored)))

    module _ (found : OfState before after (λ s. None ≡ stored_row s.world n k)) (new : Option (List ℕ)) where
      pub all_state : Appends mid new (pending ++ (line_end is_first [] ++ 93 ∷ 10 ∷ [])) → OfState start after (ByNotes notes m n (λ b. (k ≡ length (tasks_on b)) × Appends old new (text_on b m)))
      all_state ended clean s stored noted = all_out (find_board s.world n) m k is_first old mid pending (out (later.clean clean) s stored noted) (found clean s (been s stored)) new ended

      pub end_front_state : AppendsFront mid new (pending ++ (line_end is_first [] ++ 93 ∷ 10 ∷ [])) → OfState start after (ByNotes notes m n (λ b. AppendsFront old new (text_on b m)))
      end_front_state front clean s stored noted = end_front (find_board s.world n) m k is_first old mid pending (out (later.clean clean) s stored noted) (found clean s (been s stored)) new front
