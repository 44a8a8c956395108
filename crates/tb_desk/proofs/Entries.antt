-- Entries of all boards in one list: what histories they make, and what a page of them shows.
use Rattle.std.proofs.Common.{◌≡◌, ℕ, suc, ◌+◌, ◌-◌, ◌<◌, ◌==◌, Bool, true, false, List, [], ◌∷◌, ◌++◌, Option, Some, None, Bor, drop, filter, get_or, length, map, option_map, option_to_list, take, if◌then◌else◌, unwrap_or, refl, sym, ◌∙◌, ap, arith, append_assoc}
use Rattle.std.specs.FinMap.{empty, get-empty}
use Rattle.std.specs.Ordering.{nat_cmp}
use Rattle.std.proofs.lemmas.List.{append-nil, drop-map, length-map, take-map, take_more}
use Rattle.tb_deeds.specs.declared.deed.Deed.{Deed}
use Rattle.tb_history.specs.declared.entry.Entry.{Entry}
use Rattle.tb_history.specs.History.{Histories, entries_on, noted, numbered}
use Rattle.tb_history.specs.Pages.{last_of}
use Rattle.tb_history.proofs.Numbering.{noted_last}
use Rattle.tb_calls.specs.declared.call.Call.{Call}
use Rattle.tb_desk.specs.declared.entry_list.BoardEntry.{BoardEntry}
use Rattle.tb_desk.specs.EntryList.{entries_in, entry_by, is_of_board, number_and_entry, with_entries, with_entry}

-- ---- the histories of entries

with_entries-append : (h : Histories) (xs ys : List BoardEntry) → with_entries h (xs ++ ys) ≡ with_entries (with_entries h xs) ys
with_entries-append h [] ys = refl
with_entries-append h (x ∷ xs) ys = with_entries-append (with_entry h x) xs ys

-- a call's deed is noted by one entry more
pub noted_more : (h : Histories) (xs : List BoardEntry) (c : Call) (deed : Option Deed)
    → noted (with_entries h xs) c.member c.id c.moment deed ≡ with_entries h (xs ++ option_to_list (option_map (entry_by c) deed))
noted_more h xs c None = ap (with_entries h) (sym (append-nil xs))
noted_more h xs c (Some deed) = sym (with_entries-append h xs (entry_by c deed ∷ []))

-- what an entry tells, as the deed of a call
abbrev deed_in : BoardEntry → Deed
deed_in e = record { board = e.board; what = e.entry.what; place = e.entry.place }

entry_alone : (e : BoardEntry) (is : Bool) → (if is then e.entry ∷ [] else []) ≡ map (λ (x : BoardEntry). x.entry) (if is then e ∷ [] else [])
entry_alone e true = refl
entry_alone e false = refl

one_noted : (h : Histories) (e : BoardEntry) (board : ℕ) → entries_on (with_entry h e) board ≡ entries_on h board ++ entries_in board (e ∷ [])
one_noted h e board =
    noted_last h e.entry.member e.entry.id e.entry.moment (Some (deed_in e)) board ∙ ap (λ es. entries_on h board ++ es) (entry_alone e (board == e.board))

appended_by : (board : ℕ) (x : BoardEntry) (is : Bool) (both first later : List BoardEntry) → map (λ (e : BoardEntry). e.entry) both ≡ map (λ (e : BoardEntry). e.entry) first ++ entries_in board later
    → map (λ (e : BoardEntry). e.entry) (if is then x ∷ both else both) ≡ map (λ (e : BoardEntry). e.entry) (if is then x ∷ first else first) ++ entries_in board later
appended_by board x true both first later rest = ap (λ es. x.entry ∷ es) rest
appended_by board x false both first later rest = rest

entries_in-append : (board : ℕ) (xs ys : List BoardEntry) → entries_in board (xs ++ ys) ≡ entries_in board xs ++ entries_in board ys
entries_in-append board [] ys = refl
entries_in-append board (x ∷ xs) ys =
    appended_by board x (board == x.board) (filter (is_of_board board) (xs ++ ys)) (filter (is_of_board board) xs) ys (entries_in-append board xs ys)

all_noted : (h : Histories) (es : List BoardEntry) (board : ℕ) → entries_on (with_entries h es) board ≡ entries_on h board ++ entries_in board es
all_noted h [] board = sym (append-nil (entries_on h board))
all_noted h (e ∷ es) board =
    all_noted (with_entry h e) es board
    ∙ ap (λ xs. xs ++ entries_in board es) (one_noted h e board)
    ∙ append_assoc (entries_on h board) (entries_in board (e ∷ [])) (entries_in board es)
    ∙ ap (λ xs. entries_on h board ++ xs) (sym (entries_in-append board (e ∷ []) es))

pub entries_of_board : (es : List BoardEntry) (board : ℕ) → entries_on (with_entries empty es) board ≡ entries_in board es
entries_of_board es board = all_noted empty es board ∙ ap (λ o. unwrap_or o [] ++ entries_in board es) (get-empty nat_cmp board)

-- ---- numbers

length-numbered : (n : ℕ) (es : List Entry) → length (numbered n es) ≡ length es
length-numbered n [] = refl
length-numbered n (e ∷ es) = ap suc (length-numbered (n + 1) es)

numbered-push : (n : ℕ) (es : List Entry) (e : Entry) → numbered n (es ++ e ∷ []) ≡ numbered n es ++ (n + length es, e) ∷ []
numbered-push n [] e = let same : n ≡ n + 0 = omega arith in ap (λ k. (k, e) ∷ []) same
numbered-push n (x ∷ es) e =
    let same : (n + 1) + length es ≡ n + suc (length es) = omega arith in
    ap (λ l. (n, x) ∷ l) (numbered-push (n + 1) es e ∙ ap (λ k. numbered (n + 1) es ++ (k, e) ∷ []) same)

-- as many numbered ones as entries
pub counted : (board : ℕ) (es : List BoardEntry) (list : List (ℕ × Bor Entry)) → map number_and_entry list ≡ numbered 1 (entries_in board es) → length list ≡ length (entries_in board es)
counted board es list are = sym (length-map list number_and_entry) ∙ ap length are ∙ length-numbered 1 (entries_in board es)

module _ (board : ℕ) (xs : List BoardEntry) (i : ℕ) (d : BoardEntry) (within : i < length xs) where
  grown : entries_in board (take (i + 1) xs) ≡ entries_in board (take i xs) ++ entries_in board (get_or xs i d ∷ [])
  grown = ap (entries_in board) (take_more xs i d within) ∙ entries_in-append board (take i xs) (get_or xs i d ∷ [])

  pub passed : (list new : List (ℕ × Bor Entry)) → (board == (get_or xs i d).board) ≡ true → map number_and_entry list ≡ numbered 1 (entries_in board (take i xs))
      → map number_and_entry new ≡ map number_and_entry list ++ (length list + 1, (get_or xs i d).entry) ∷ [] → map number_and_entry new ≡ numbered 1 (entries_in board (take (i + 1) xs))
  passed list new is so_far put =
      let e = (get_or xs i d).entry in
      let one : entries_in board (get_or xs i d ∷ []) ≡ e ∷ [] = rw is refl in
      let many = counted board (take i xs) list so_far in
      let number : length list + 1 ≡ 1 + length (entries_in board (take i xs)) = omega (arith, many) in
      put
      ∙ ap (λ l. l ++ (length list + 1, e) ∷ []) so_far
      ∙ ap (λ n. numbered 1 (entries_in board (take i xs)) ++ (n, e) ∷ []) number
      ∙ sym (numbered-push 1 (entries_in board (take i xs)) e)
      ∙ ap (λ l. numbered 1 (entries_in board (take i xs) ++ l)) (sym one)
      ∙ ap (numbered 1) (sym grown)

  pub left_out : (list : List (ℕ × Bor Entry)) → (board == (get_or xs i d).board) ≡ false → map number_and_entry list ≡ numbered 1 (entries_in board (take i xs))
      → map number_and_entry list ≡ numbered 1 (entries_in board (take (i + 1) xs))
  left_out list isnt so_far =
      let none : entries_in board (get_or xs i d ∷ []) ≡ [] = rw isnt refl in
      so_far ∙ ap (numbered 1) (sym (append-nil (entries_in board (take i xs))) ∙ ap (λ l. entries_in board (take i xs) ++ l) (sym none) ∙ sym grown)

-- ---- pages

module _ {X Y : Type 0} (f : X → Y) where
  pub last_of-map : (count : ℕ) (xs : List X) → map f (last_of count xs) ≡ last_of count (map f xs)
  last_of-map count xs = sym (drop-map f (length xs - count) xs) ∙ ap (λ n. drop (n - count) (map f xs)) (sym (length-map xs f))

  pub from-map : (count n : ℕ) (xs : List X) → map f (take count (drop n xs)) ≡ take count (drop n (map f xs))
  from-map count n xs = sym (take-map f count (drop n xs)) ∙ ap (take count) (sym (drop-map f n xs))
