-- The row of an entry tells the entry, and how it is shown.
use Rattle.std.proofs.Common.{◌≡◌, ◌∙◌, ◌==◌, ◌+◌, ◌-◌, ◌<◌, ℕ, zero, suc, true, false, true≢false, List, [], ◌∷◌, ◌++◌, map, length, filter, take, drop, get_or, Option, Some, None, is_some, unwrap_or, option_map, option_and_then, refl, sym, ap, ap₂, subst, arith, inl, inr}
use Rattle.std.specs.Prelude.{slice_get}
use Rattle.std.specs.List.{AllByRecursion}
use Rattle.std.specs.FinMap.{get}
use Rattle.std.proofs.lemmas.Bool.{cases_Bool}
use Rattle.std.proofs.lemmas.List.{take_more}
use Rattle.sqlite.specs.State.{State as Database}
use Rattle.sqlite_trees.proofs.ListLemmas.{all-filter}
use Rattle.tb_board.specs.declared.board.Board.{Board}
use Rattle.tb_board.specs.declared.world.Person.{Person}
use Rattle.tb_board.specs.declared.world.World.{World}
use Rattle.tb_board.specs.Tasks.{ids}
use Rattle.tb_board.specs.World.{number_of}
use Rattle.tb_calls.specs.declared.call.KeptReply.{KeptReply}
use Rattle.tb_calls.specs.Call.{State}
use Rattle.tb_calls.specs.History.{content_in, history_seen}
use Rattle.tb_deeds.specs.declared.kind.DeedKind.{DeedKind}
use Rattle.tb_deeds.specs.declared.kind.DeedKind.TheVariants.{Import, ImportTodo}
use Rattle.tb_deeds.specs.Kinds.{kind_of_number}
use Rattle.tb_deeds.proofs.Numbers.{kind_found}
use Rattle.tb_history.specs.declared.entry.Entry.{Entry}
use Rattle.tb_history.specs.declared.page.HistoryPage.{HistoryPage}
use Rattle.tb_history.specs.declared.page.ShownEntry.{ShownEntry}
use Rattle.tb_history.specs.declared.page.Which.{Which}
use Rattle.tb_history.specs.declared.page.Which.TheVariants.{Last, From, OfPlace}
use Rattle.tb_history.specs.Contents.{content_shown}
use Rattle.tb_history.specs.History.{entries_on, numbered}
use Rattle.tb_history.specs.Pages.{chosen, is_about, shown_entry, with_content}
use Rattle.tb_sql.specs.Opening.{IsAsBefore}
use Rattle.tb_sql_tables.specs.declared.rows.HistoryRow.{HistoryRow}
use Rattle.tb_lookup.specs.Histories.{AreChosen, AreShown, IsImport, IsReadBy, IsShown}
use Rattle.tb_lookup.specs.Named.{IsNameAt}
use Rattle.tb_lookup.specs.Reopening.{OfState}
use Rattle.tb_lookup.specs.Replies.{IsReplyFound}
use Rattle.tb_lookup.specs.Stored.{entry_row, IsEntryOf}
use Rattle.tb_lookup.proofs.NotedEntries.{entries_of_board}
use Rattle.tb_lookup.proofs.Numbers.{name_at, name_of_number}
use Rattle.tb_lookup.proofs.Standing.{stored_again}

-- ---- an entry by its row

got_name : (people : List Person) (k : ℕ) (name : List ℕ) → option_map (λ (p : Person). p.name) (slice_get people k) ≡ Some name → get_or (map (λ (p : Person). p.name) people) k [] ≡ name
got_name [] k name is = absurd (cc)
got_name (p ∷ people) zero name is = cc
got_name (p ∷ people) (suc k) name is = got_name people k name is

name_there : (w : World) (n : ℕ) (name : List ℕ) → IsNameAt w n name → name_at w.people n ≡ name
name_there w n name at = elim (cases_Bool (n == 0)) [
  | inl none ↦ let is = at.is in let never : None ≡ Some name = rw none at is in absurd (cc)
  | inr some ↦ let is = at.is in got_name w.people (n - 1) name (rw some at is)
]

same_places : (a b : Option ℕ) → option_map (λ n. n + 1) a ≡ option_map (λ n. n + 1) b → a ≡ b
same_places None None is = refl
same_places None (Some n) is = absurd (cc)
same_places (Some m) None is = absurd (cc)
same_places (Some m) (Some n) is =
    let next : m + 1 ≡ n + 1 = ap (λ o. unwrap_or o 0) is in
    let same : m ≡ n = omega (arith, next) in
    ap Some same

same_kinds : (a b : DeedKind) → ◌≡◌ {A = Option DeedKind} (Some a) (Some b) → a ≡ b
same_kinds a b is = ap (λ o. unwrap_or o a) is

pub read_back : (s : State) (row : HistoryRow) (entry : Entry) → IsNameAt s.world row.person entry.member → entry.id ≡ row.call → entry.moment ≡ row.moment → kind_of_number row.what ≡ Some entry.what
    → row.task ≡ option_map (λ n. n + 1) entry.place → IsReadBy s row entry
read_back s row entry name id moment what place board e of_s is =
    let person : row.person ≡ unwrap_or (number_of s.world e.1.member) 0 = ap (λ (r : HistoryRow). r.person) is in
    let member : entry.member ≡ e.1.member = sym (name_there s.world row.person entry.member name) ∙ ap (name_at s.world.people) person ∙ name_of_number s.world e.1.member of_s.person in
    let call : entry.id ≡ e.1.id = id ∙ ap (λ (r : HistoryRow). r.call) is in
    let at : entry.moment ≡ e.1.moment = moment ∙ ap (λ (r : HistoryRow). r.moment) is in
    let kind : entry.what ≡ e.1.what = same_kinds _ _ (sym what ∙ ap (λ (r : HistoryRow). kind_of_number r.what) is ∙ kind_found e.1.what) in
    let task : entry.place ≡ e.1.place = same_places _ _ (sym place ∙ ap (λ (r : HistoryRow). r.task) is) in
    λ i.
    let now : Entry = record { member = member i; id = call i; moment = at i; what = kind i; place = task i } in
    now

-- ---- how it is shown

some_number : (o : Option ℕ) → is_some o ≡ true → o ≡ Some (unwrap_or o 0)
some_number None h = absurd (true≢false (sym h))
some_number (Some n) h = refl

module _ (s : State) (b : Board) (row : HistoryRow) (entry : Entry) (kept : KeptReply) (shown : ShownEntry) (task : Option ℕ) (content : Option (List ℕ)) where
  pub shown_back : IsReadBy s row entry → IsReplyFound s row.person row.call (Some kept) → task ≡ option_and_then (slice_get (ids b.tasks)) entry.place → content ≡ content_shown entry.what kept.content
      → shown ≡ with_content row.number entry task content → IsShown s b row shown
  shown_back read found at what made e of_s is =
      let same : entry ≡ e.1 = read b.number e of_s is in
      let person : number_of s.world e.1.member ≡ Some row.person = some_number (number_of s.world e.1.member) of_s.person ∙ ap (λ (r : HistoryRow). Some r.person) (sym is) in
      let id : row.call ≡ e.1.id = ap (λ (r : HistoryRow). r.call) is in
      let reply : Some kept ≡ get s.kept (e.1.member, e.1.id) = found e.1.member person ∙ ap (λ i. get s.kept (e.1.member, i)) id in
      let number : row.number ≡ e.0 = ap (λ (r : HistoryRow). r.number) is in
      let seen : content ≡ option_and_then (content_shown e.1.what) (content_in s e.1.member e.1.id) =
      what ∙ ap (λ (x : Entry). content_shown x.what kept.content) same ∙ ap (λ o. option_and_then (content_shown e.1.what) (option_map (λ (k : KeptReply). k.content) o)) reply in
      let on : task ≡ option_and_then (slice_get (ids b.tasks)) e.1.place = at ∙ ap (λ (x : Entry). option_and_then (slice_get (ids b.tasks)) x.place) same in
      made ∙ (λ i. with_content (number i) (same i) (on i) (seen i))

-- the row is read, and then the reply of the call
pub entry_shown : (old mid new : Database) (b : Board) (row : HistoryRow) (entry : Entry) (kept : KeptReply) (shown : ShownEntry) (task : Option ℕ) (content : Option (List ℕ)) → IsAsBefore old mid → mid.in_transaction ≡ false → IsAsBefore mid new
    → OfState old mid (λ s. IsReadBy s row entry) → OfState mid new (λ s. IsReplyFound s row.person row.call (Some kept)) → task ≡ option_and_then (slice_get (ids b.tasks)) entry.place → content ≡ content_shown entry.what kept.content
    → shown ≡ with_content row.number entry task content → OfState old new (λ s. IsShown s b row shown)
entry_shown old mid new b row entry kept shown task content one idle two read found at what made clean s stored =
    shown_back s b row entry kept shown task content (read (two.clean clean) s stored) (found clean s (stored_again s old mid stored one idle)) at what made

-- ---- that of an import is shown without what it brought

none_of_import : (what : DeedKind) (o : Option (List ℕ)) → IsImport what → ◌≡◌ {A = Option (List ℕ)} None (option_and_then (content_shown what) o)
none_of_import what None import = refl
none_of_import what (Some content) (inl is) = sym (ap (λ (k : DeedKind). content_shown k content) is)
none_of_import what (Some content) (inr is) = sym (ap (λ (k : DeedKind). content_shown k content) is)

module _ (s : State) (b : Board) (row : HistoryRow) (entry : Entry) (shown : ShownEntry) (task : Option ℕ) where
  pub import_back : IsReadBy s row entry → IsImport entry.what → task ≡ option_and_then (slice_get (ids b.tasks)) entry.place → shown ≡ with_content row.number entry task None → IsShown s b row shown
  import_back read import at made e of_s is =
      let same : entry ≡ e.1 = read b.number e of_s is in
      let number : row.number ≡ e.0 = ap (λ (r : HistoryRow). r.number) is in
      let on : task ≡ option_and_then (slice_get (ids b.tasks)) e.1.place = at ∙ ap (λ (x : Entry). option_and_then (slice_get (ids b.tasks)) x.place) same in
      let kind : IsImport e.1.what = subst (λ (x : Entry). IsImport x.what) same import in
      let seen : ◌≡◌ {A = Option (List ℕ)} None (option_and_then (content_shown e.1.what) (content_in s e.1.member e.1.id)) = none_of_import e.1.what (content_in s e.1.member e.1.id) kind in
      made ∙ (λ i. with_content (number i) (same i) (on i) (seen i))

pub import_shown : (old new : Database) (b : Board) (row : HistoryRow) (entry : Entry) (shown : ShownEntry) (task : Option ℕ) → OfState old new (λ s. IsReadBy s row entry) → IsImport entry.what
    → task ≡ option_and_then (slice_get (ids b.tasks)) entry.place → shown ≡ with_content row.number entry task None → OfState old new (λ s. IsShown s b row shown)
import_shown old new b row entry shown task read import at made clean s stored = import_back s b row entry shown task (read clean s stored) import at made

-- ---- one after the other

module _ {A B C : Type 0} (f : A → B) (h : A → C) (P : A → Type 0) where
  -- these are the second images of those whose first images are the others
  abbrev AreImages : List B → List C → Type 0
  AreImages xs ys = (es : List A) → AllByRecursion P es → xs ≡ map f es → ys ≡ map h es

  record IsSplit (xs : List B) (x : B) (es : List A) : Type 0 where
    front : List A
    last : A
    whole : es ≡ front ++ last ∷ []
    images : xs ≡ map f front
    image : x ≡ f last
    all : AllByRecursion P front
    holds : P last

  split : (xs : List B) (x : B) (es : List A) → AllByRecursion P es → xs ++ x ∷ [] ≡ map f es → IsSplit xs x es
  split [] x [] all is = absurd (cc)
  split [] x (e ∷ []) all is = record { front = []; last = e; whole = refl; images = refl; image = cc; all = tt; holds = all.0 }
  split [] x (e ∷ d ∷ es) all is = absurd (cc)
  split (y ∷ xs) x [] all is = absurd (cc)
  split (y ∷ xs) x (e ∷ es) all is =
      let rest = split xs x es all.1 (cc) in
      let head : y ≡ f e = cc in
      record {
        front = e ∷ rest.front;
        last = rest.last;
        whole = ap (λ l. e ∷ l) rest.whole;
        images = ap₂ ◌∷◌ head rest.images;
        image = rest.image;
        all = (all.0, rest.all);
        holds = rest.holds;
      }

  images_last : (front : List A) (e : A) → map h (front ++ e ∷ []) ≡ map h front ++ h e ∷ []
  images_last [] e = refl
  images_last (x ∷ front) e = ap (λ l. h x ∷ l) (images_last front e)

  pub one_image_more : (xs : List B) (x : B) (ys : List C) (y : C) → AreImages xs ys → ((e : A) → P e → x ≡ f e → y ≡ h e) → AreImages (xs ++ x ∷ []) (ys ++ y ∷ [])
  one_image_more xs x ys y are one es all is =
      let parts = split xs x es all is in
      ap₂ (λ l z. l ++ z ∷ []) (are parts.front parts.all parts.images) (one parts.last parts.holds parts.image)
      ∙ sym (images_last parts.front parts.last) ∙ ap (map h) (sym parts.whole)

-- no row shows no entry
pub none_shown : (old new : Database) (b : Board) (rows : List HistoryRow) → OfState old new (λ s. AreShown s b (take 0 rows) [])
none_shown old new b rows clean s stored [] all is = refl
none_shown old new b rows clean s stored (e ∷ es) all is = absurd (cc)

-- one more entry is shown
pub shown_more : (old mid new : Database) (b : Board) (rows : List HistoryRow) (i : ℕ) (row : HistoryRow) (entries : List ShownEntry) (entry : ShownEntry) → IsAsBefore old mid → mid.in_transaction ≡ false → IsAsBefore mid new
    → i < length rows → row ≡ get_or rows i row → OfState old mid (λ s. AreShown s b (take i rows) entries) → OfState mid new (λ s. IsShown s b row entry) → OfState old new (λ s. AreShown s b (take (i + 1) rows) (entries ++ entry ∷ []))
shown_more old mid new b rows i row entries entry first idle second within here so_far one clean s stored =
    let last = one clean s (stored_again s old mid stored first idle) in
    let more : take i rows ++ row ∷ [] ≡ take (i + 1) rows = ap (λ x. take i rows ++ x ∷ []) here ∙ sym (take_more rows i row within) in
    subst (λ l. AreShown s b l (entries ++ entry ∷ [])) more
    (one_image_more (entry_row s.world b.number) (shown_entry (content_in s) (ids b.tasks)) (λ e. IsEntryOf s b.number e.1) (take i rows) row entries entry (so_far (second.clean clean) s stored) last)

-- ---- a page

module _ (s : State) (board : ℕ) where
  numbered_are : (n : ℕ) (es : List Entry) → AllByRecursion (IsEntryOf s board) es → AllByRecursion (λ (e : ℕ × Entry). IsEntryOf s board e.1) (numbered n es)
  numbered_are n [] all = tt
  numbered_are n (e ∷ es) all = (all.0, numbered_are (n + 1) es all.1)

  abbrev AreOf : List (ℕ × Entry) → Type 0
  AreOf = AllByRecursion (λ (e : ℕ × Entry). IsEntryOf s board e.1)

  dropped_are : (n : ℕ) (es : List (ℕ × Entry)) → AreOf es → AreOf (drop n es)
  dropped_are zero es all = all
  dropped_are (suc n) [] all = tt
  dropped_are (suc n) (e ∷ es) all = dropped_are n es all.1

  taken_are : (n : ℕ) (es : List (ℕ × Entry)) → AreOf es → AreOf (take n es)
  taken_are zero es all = tt
  taken_are (suc n) [] all = tt
  taken_are (suc n) (e ∷ es) all = (all.0, taken_are n es all.1)

  chosen_are : (which : Which) (es : List (ℕ × Entry)) → AreOf es → AreOf (chosen which es)
  chosen_are Last es all = dropped_are (length es - 100) es all
  chosen_are (From n) es all = taken_are 100 (drop (n - 1) es) (dropped_are (n - 1) es all)
  chosen_are (OfPlace place) es all = dropped_are (length (filter (is_about place) es) - 100) (filter (is_about place) es) (all-filter (λ (e : ℕ × Entry). IsEntryOf s board e.1) (is_about place) es all)

pub page_seen : (old counted found new : Database) (b : Board) (which : Which) (last : ℕ) (rows : List HistoryRow) (entries : List ShownEntry) → IsAsBefore old counted → counted.in_transaction ≡ false → IsAsBefore counted found → found.in_transaction ≡ false → IsAsBefore found new
    → OfState old counted (λ s. last ≡ length (entries_on s.history b.number)) → OfState counted found (λ s. last ≡ length (entries_on s.history b.number) → AreChosen s b.number which rows)
    → OfState found new (λ s. AreShown s b rows entries) → OfState old new (λ s. record { last = last; entries = entries } ≡ history_seen s b which)
page_seen old counted found new b which last rows entries one idle_one two idle_two three count chose show clean s stored =
    let clean_found = three.clean clean in
    let at_counted = stored_again s old counted stored one idle_one in
    let at_found = stored_again s counted found at_counted two idle_two in
    let is_last = count (two.clean clean_found) s stored in
    let own = numbered_are s b.number 1 (entries_on s.history b.number) (entries_of_board s b.number stored.rows.histories) in
    let shown = show clean s at_found (chosen which (numbered 1 (entries_on s.history b.number))) (chosen_are s b.number which (numbered 1 (entries_on s.history b.number)) own) (chose clean_found s at_counted is_last) in
    λ i.
    let page : HistoryPage = record { last = is_last i; entries = shown i } in
    page
