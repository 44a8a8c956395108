-- What is found of a board's entries in steps tells whether its history is sound.
use Rattle.std.proofs.Common.{◌≡◌, ◌∙◌, ◌==◌, ◌+◌, ◌-◌, ◌<◌, ◌≤◌, ◌⊎◌, ◌&&◌, inl, inr, ℕ, zero, suc, max, min, Bool, true, false, nat_le, true≢false, List, [], ◌∷◌, ◌++◌, Option, Some, None, is_some, Contains, length, length-append, filter, get_or, take, drop, refl, sym, ap, subst, arith, IsPermutation}
use Rattle.std.specs.Prelude.{◌↔◌, ◌≢◌, IsTrue}
use Rattle.std.specs.List.{AllByRecursion}
use Rattle.std.proofs.Math.Seq.{take-nil}
use Rattle.std.proofs.lemmas.Bool.{and_parts, cases_Bool}
use Rattle.std.proofs.lemmas.Bool.Decides.{nat_tests}
use Rattle.std.proofs.lemmas.List.{append-nil, drop_all, length-drop, length-take, length-take-le, take_more}
use Rattle.std.proofs.lemmas.List.Sorted.{length_permutation, IsPermutation-append, IsPermutation-cons, IsPermutation-middle, IsPermutation-refl, IsPermutation-sym, IsPermutation-trans}
use Rattle.sqlite_trees.proofs.ListLemmas.{all-append, ascending-filter, IsPermutation-filter}
use Rattle.tb_sql_tables.specs.declared.rows.HistoryRow.{HistoryRow}
use Rattle.tb_sql_tables.specs.Content.{Content}
use Rattle.tb_sql_tables.specs.Found.{AreFound, IsOneOf}
use Rattle.tb_sql_pages.specs.Entries.{is_entry_between, IsEntryBefore}
use Rattle.tb_sql_pages.specs.Last.{AreNumberedFrom}
use Rattle.tb_sql_pages.proofs.Numbered.{between_numbers, is_between, numbers_rise}
use Rattle.tb_keeper.specs.SoundHistories.{IsSoundEntry, IsSoundHistory}

abbrev pub number_in : HistoryRow → ℕ
number_in row = row.number

-- ---- entries between two numbers

module _ {X : Type 0} (p q r : X → Bool) where
  -- it is of one of the two parts, and of the whole, or of none
  abbrev IsInOne : X → Type 0
  IsInOne x = ((p x ≡ true) × (q x ≡ false) × (r x ≡ true)) ⊎ (((p x ≡ false) × (q x ≡ true) × (r x ≡ true)) ⊎ ((p x ≡ false) × (q x ≡ false) × (r x ≡ false)))

  two_parts : ((x : X) → IsInOne x) → (xs : List X) → IsPermutation (filter p xs ++ filter q xs) (filter r xs)
  two_parts is [] = IsPermutation-refl []
  two_parts is (x ∷ xs) = elim (is x) [
    | inl first ↦ rw (first.0, first.1, first.2) (IsPermutation-cons x _ _ (two_parts is xs))
    | inr rest ↦ elim rest [
      | inl second ↦
          rw (second.0, second.1, second.2) (IsPermutation-trans _ (x ∷ (filter p xs ++ filter q xs)) _ (IsPermutation-middle (filter p xs) x (filter q xs)) (IsPermutation-cons x _ _ (two_parts is xs)))
      | inr none ↦ rw (none.0, none.1, none.2) (two_parts is xs)
    ]
  ]

  -- what passes one test and then another passes both
  pub filter_twice : ((x : X) → r x ≡ (p x && q x)) → (xs : List X) → filter q (filter p xs) ≡ filter r xs
  filter_twice is [] = refl
  filter_twice is (x ∷ xs) = elim (cases_Bool (p x)) [
    | inl here ↦ elim (cases_Bool (q x)) [
      | inl also ↦
          let whole : r x ≡ true = is x ∙ rw (here, also) refl in
          rw (here, whole) (rw also (ap (λ l. x ∷ l) (filter_twice is xs)))
      | inr not ↦
          let whole : r x ≡ false = is x ∙ rw (here, not) refl in
          rw (here, whole) (rw not (filter_twice is xs))
    ]
    | inr other ↦
        let whole : r x ≡ false = is x ∙ rw other refl in
        rw (other, whole) (filter_twice is xs)
  ]

module _ (board : ℕ) where
  abbrev between : ℕ → ℕ → HistoryRow → Bool
  between first last row = is_entry_between board first last row

  in_one : (a b d : ℕ) → a ≤ b + 1 → b ≤ d → (row : HistoryRow) → IsInOne (between a b) (between (b + 1) d) (between a d) row
  in_one a b d low high row = by (row.board == board) refl (nat_le row.number b) refl
    where
      by : (own : Bool) → (row.board == board) ≡ own → (first : Bool) → nat_le row.number b ≡ first → IsInOne (between a b) (between (b + 1) d) (between a d) row
      by false other first is = inr (inr (rw other refl, rw other refl, rw other refl))
      by true own true is =
          let past : nat_le (b + 1) row.number ≡ false = grind (arith, nat_tests) in
          let upto : nat_le row.number d ≡ true = grind (arith, nat_tests) in
          elim (cases_Bool (nat_le a row.number)) [
            | inl from ↦ inl (rw (own, from, is) refl, rw (own, past) refl, rw (own, from, upto) refl)
            | inr under ↦ inr (inr (rw (own, under) refl, rw (own, past) refl, rw (own, under) refl))
          ]
      by true own false is =
          let past : nat_le (b + 1) row.number ≡ true = grind (arith, nat_tests) in
          let from : nat_le a row.number ≡ true = grind (arith, nat_tests) in
          elim (cases_Bool (nat_le row.number d)) [
            | inl upto ↦ inr (inl (rw (own, from, is) refl, rw (own, past, upto) refl, rw (own, from, upto) refl))
            | inr over ↦ inr (inr (rw (own, from, is) refl, rw (own, past, over) refl, rw (own, from, over) refl))
          ]

  -- entries up to a number, and those past it
  joined : (a b d : ℕ) → a ≤ b + 1 → b ≤ d → (rows : List HistoryRow) → IsPermutation (filter (between a b) rows ++ filter (between (b + 1) d) rows) (filter (between a d) rows)
  joined a b d low high rows = two_parts (between a b) (between (b + 1) d) (between a d) (in_one a b d low high) rows

  not_between : (first last : ℕ) → last < first → (row : HistoryRow) → between first last row ≡ false
  not_between first last less row = elim (cases_Bool (between first last row)) [
    | inl here ↦
        let own = and_parts (row.board == board) (nat_le first row.number && nat_le row.number last) here in
        let both = and_parts (nat_le first row.number) (nat_le row.number last) own.1 in
        let from = both.0 in
        let upto = both.1 in
        absurd (grind (arith, nat_tests))
    | inr other ↦ other
  ]

  pub none_between : (first last : ℕ) → last < first → (rows : List HistoryRow) → filter (between first last) rows ≡ []
  none_between first last less [] = refl
  none_between first last less (row ∷ rows) = rw (not_between first last less row) (none_between first last less rows)

  wider : (a b d e : ℕ) → a ≤ b → d ≤ e → (row : HistoryRow) → between b d row ≡ true → between a e row ≡ true
  wider a b d e low high row here =
      let own = and_parts (row.board == board) (nat_le b row.number && nat_le row.number d) here in
      let both = and_parts (nat_le b row.number) (nat_le row.number d) own.1 in
      let is = own.0 in
      let first = both.0 in
      let last = both.1 in
      let from : nat_le a row.number ≡ true = grind (arith, nat_tests) in
      let upto : nat_le row.number e ≡ true = grind (arith, nat_tests) in
      rw (is, from, upto) refl

  -- where there are none there are none of some numbers among them
  pub none_within : (a b d e : ℕ) → a ≤ b → d ≤ e → (rows : List HistoryRow) → filter (between a e) rows ≡ [] → filter (between b d) rows ≡ []
  none_within a b d e low high [] none = refl
  none_within a b d e low high (row ∷ rows) none = elim (cases_Bool (between a e row)) [
    | inl here ↦ let some : row ∷ filter (between a e) rows ≡ [] = rw here at none in absurd (cc)
    | inr other ↦ elim (cases_Bool (between b d row)) [
      | inl narrow ↦ absurd (true≢false (sym (wider a b d e low high row narrow) ∙ other))
      | inr off ↦ rw off (none_within a b d e low high rows (rw other at none))
    ]
  ]

-- ---- numbered rows

pub numbered_join : (n : ℕ) (xs ys : List HistoryRow) → AreNumberedFrom number_in n xs → AreNumberedFrom number_in (n + length xs) ys → AreNumberedFrom number_in n (xs ++ ys)
numbered_join n [] ys first rest = let same : n + 0 ≡ n = omega arith in subst (λ m. AreNumberedFrom number_in m ys) same rest
numbered_join n (x ∷ xs) ys first rest =
    let same : n + length (x ∷ xs) ≡ n + 1 + length xs = omega arith in
    (first.0, numbered_join (n + 1) xs ys first.1 (subst (λ m. AreNumberedFrom number_in m ys) same rest))

pub numbered_drop : (m n : ℕ) (xs : List HistoryRow) → AreNumberedFrom number_in n xs → AreNumberedFrom number_in (n + m) (drop m xs)
numbered_drop zero n xs is = let same : n ≡ n + 0 = omega arith in subst (λ k. AreNumberedFrom number_in k xs) same is
numbered_drop (suc m) n [] is = tt
numbered_drop (suc m) n (x ∷ xs) is =
    let same : n + 1 + m ≡ n + suc m = omega arith in
    subst (λ k. AreNumberedFrom number_in k (drop m xs)) same (numbered_drop m (n + 1) xs is.1)

pub numbered_take : (k n : ℕ) (xs : List HistoryRow) → AreNumberedFrom number_in n xs → AreNumberedFrom number_in n (take k xs)
numbered_take zero n xs is = tt
numbered_take (suc k) n [] is = tt
numbered_take (suc k) n (x ∷ xs) is = (is.0, numbered_take k (n + 1) xs is.1)

module _ {X : Type 0} (P : X → Type 0) where
  all_drop : (m : ℕ) (xs : List X) → AllByRecursion P xs → AllByRecursion P (drop m xs)
  all_drop zero xs all = all
  all_drop (suc m) [] all = tt
  all_drop (suc m) (x ∷ xs) all = all_drop m xs all.1

  pub all_filter : (p : X → Bool) (xs : List X) → AllByRecursion P xs → AllByRecursion P (filter p xs)
  all_filter p [] all = tt
  all_filter p (x ∷ xs) all = elim (cases_Bool (p x)) [
    | inl here ↦ rw here (all.0, all_filter p xs all.1)
    | inr other ↦ rw other (all_filter p xs all.1)
  ]

  all_take : (k : ℕ) (xs : List X) → AllByRecursion P xs → AllByRecursion P (take k xs)
  all_take zero xs all = tt
  all_take (suc k) [] all = tt
  all_take (suc k) (x ∷ xs) all = (all.0, all_take k xs all.1)

pub no_rows : {X : Type 0} (xs : List X) → IsPermutation [] xs → xs ≡ []
no_rows [] same = refl
no_rows (x ∷ xs) same = let count : length (x ∷ xs) ≡ 0 = length_permutation [] (x ∷ xs) same in absurd (omega (arith, count))

-- what is found of rows tells whether there are any
pub none_found : {X : Type 0} (xs found : List X) → IsPermutation xs found → (none : Bool) → IsTrue none ↔ (found ≡ []) → IsTrue none ↔ (xs ≡ [])
none_found xs found same none tells = (
  λ so. no_rows xs (subst (λ l. IsPermutation l xs) (tells.0 so) (IsPermutation-sym xs found same)),
  λ is. tells.1 (no_rows found (subst (λ l. IsPermutation l found) is same)),
)

nothing_in : {X : Type 0} (x : X) → Contains [] x → ⊥
nothing_in x there = omega (arith, there.1)

pub one_found : {X : Type 0} (xs : List X) (found : Option X) → IsOneOf xs found → IsTrue (is_some found) ↔ (xs ≢ [])
one_found xs None is = (λ so. absurd (true≢false (sym so)), λ some. absurd (some is))
one_found xs (Some x) is = (λ so none. absurd (nothing_in x (subst (λ l. Contains l x) none is)), λ some. refl)

-- ---- what was looked at is sound

-- the entries up to a number are numbered without a gap, and each is sound
pub record IsSoundPart (c : Content) (board tasks last : ℕ) : Type 0 where
  pub rows : List HistoryRow
  pub own : IsPermutation rows (filter (is_entry_between board 1 last) c.history)
  pub numbered : AreNumberedFrom number_in 1 rows
  pub each : AllByRecursion (IsSoundEntry c tasks) rows

-- and there are so many
pub record IsSoundUpTo (c : Content) (board tasks count : ℕ) : Type 0 where
  pub part : IsSoundPart c board tasks (min count 4294967295)
  pub all : length part.rows ≡ count

pub none_sound : (c : Content) (board tasks : ℕ) → IsSoundUpTo c board tasks 0
none_sound c board tasks = record {
  part = record {
    rows = [];
    own = subst (IsPermutation []) (sym (none_between board 1 0 (omega arith) c.history)) (IsPermutation-refl []);
    numbered = tt;
    each = tt;
  };
  all = refl;
}

module _ (c : Content) (board tasks before last : ℕ) (up : IsSoundUpTo c board tasks before) (from : before ≤ last) (few : before ≤ 4294967295) (rows : List HistoryRow) (found : AreFound IsEntryBefore (filter (is_entry_between board (before + 1) last) c.history) rows)
    (numbered : AreNumberedFrom number_in (before + 1) rows) (each : AllByRecursion (IsSoundEntry c tasks) rows) where
  -- with the entries of one step more
  pub step_sound : IsSoundPart c board tasks last
  step_sound =
      let done = up.part.rows in
      let all = up.all in
      let within : min before 4294967295 ≡ before = grind (arith, nat_tests) in
      let own : IsPermutation done (filter (is_entry_between board 1 before) c.history) = subst (λ n. IsPermutation done (filter (is_entry_between board 1 n) c.history)) within up.part.own in
      let next : before + 1 ≡ 1 + length done = omega (arith, all) in
      record {
        rows = done ++ rows;
        own = IsPermutation-trans _ _ _ (IsPermutation-append done _ rows _ own (IsPermutation-sym _ _ found.same)) (joined board 1 before last (omega arith) from c.history);
        numbered = numbered_join 1 done rows up.part.numbered (subst (λ n. AreNumberedFrom number_in n rows) next numbered);
        each = all-append (IsSoundEntry c tasks) done rows up.part.each each;
      }

  pub up_to_next : last ≡ min (before + 1000) 4294967295 → length rows ≡ 1000 → IsSoundUpTo c board tasks (before + 1000)
  unfolding step_sound
  up_to_next is count = record {
    part = record {
      rows = step_sound.rows;
      own = subst (λ n. IsPermutation step_sound.rows (filter (is_entry_between board 1 n) c.history)) is step_sound.own;
      numbered = step_sound.numbered;
      each = step_sound.each;
    };
    all = counted;
  }
    where
      counted : length step_sound.rows ≡ before + 1000
      counted = let all = up.all in let both = length-append up.part.rows rows in omega (arith, all, both, count)

-- where there are no others the history is sound
pub all_sound : (c : Content) (board tasks last : ℕ) → last ≤ 4294967295 → IsSoundPart c board tasks last → filter (is_entry_between board 0 0) c.history ≡ [] → filter (is_entry_between board (last + 1) 4294967295) c.history ≡ [] → IsSoundHistory c board tasks
all_sound c board tasks last few part lowest highest = record {
  rows = part.rows;
  own =
      let first = subst (λ (l : List HistoryRow). IsPermutation (l ++ filter (is_entry_between board 1 last) c.history) (filter (is_entry_between board 0 last) c.history)) lowest (joined board 0 0 last (omega arith) (omega arith) c.history) in
      let rest = subst (λ (l : List HistoryRow). IsPermutation (filter (is_entry_between board 0 last) c.history ++ l) (filter (is_entry_between board 0 4294967295) c.history)) highest (joined board 0 last 4294967295 (omega arith) few c.history) in
      IsPermutation-trans _ _ _ part.own (IsPermutation-trans _ _ _ first (with_none (filter (is_entry_between board 0 last) c.history) _ rest));
  numbered = part.numbered;
  each = part.each;
}
  where
    with_none : (xs ys : List HistoryRow) → IsPermutation (xs ++ []) ys → IsPermutation xs ys
    with_none xs ys same = subst (λ l. IsPermutation l ys) (append-nil xs) same

-- ---- what is looked at of a sound history passes

module _ (c : Content) (board tasks : ℕ) (sound : IsSoundHistory c board tasks) where
  tests_both : (first last : ℕ) → last ≤ 4294967295 → (row : HistoryRow) → is_entry_between board first last row ≡ (is_entry_between board 0 4294967295 row && is_between number_in first last row)
  tests_both first last few row = by (row.board == board) refl (nat_le row.number last) refl
    where
      by : (own : Bool) → (row.board == board) ≡ own → (upto : Bool) → nat_le row.number last ≡ upto → is_entry_between board first last row ≡ (is_entry_between board 0 4294967295 row && is_between number_in first last row)
      by false other upto is = rw other refl
      by true own true is =
          let low : nat_le 0 row.number ≡ true = grind (arith, nat_tests) in
          let high : nat_le row.number 4294967295 ≡ true = grind (arith, nat_tests) in
          rw (own, is, low, high) refl
      by true own false is = elim (cases_Bool (nat_le first row.number)) [
        | inl from ↦ elim (cases_Bool (nat_le 0 row.number && nat_le row.number 4294967295)) [ inl all ↦ rw (own, from, is, all) refl | inr over ↦ rw (own, from, is, over) refl ]
        | inr under ↦ elim (cases_Bool (nat_le 0 row.number && nat_le row.number 4294967295)) [ inl all ↦ rw (own, under, all) refl | inr over ↦ rw (own, under, over) refl ]
      ]

  range_own : (first last : ℕ) → last ≤ 4294967295 → IsPermutation (filter (is_between number_in first last) sound.rows) (filter (is_entry_between board first last) c.history)
  range_own first last few =
      subst (IsPermutation (filter (is_between number_in first last) sound.rows))
      (filter_twice (is_entry_between board 0 4294967295) (is_between number_in first last) (is_entry_between board first last) (tests_both first last few) c.history)
      (IsPermutation-filter (is_between number_in first last) sound.rows _ sound.own)

  range_is : (first last : ℕ) → filter (is_between number_in first last) sound.rows ≡ take (last + 1 - max first 1) (drop (first - 1) sound.rows)
  range_is first last = between_numbers number_in first last 1 sound.rows sound.numbered

  range_found : (first last : ℕ) → last ≤ 4294967295 → (rows : List HistoryRow) → AreFound IsEntryBefore (filter (is_entry_between board first last) c.history) rows → rows ≡ take (last + 1 - max first 1) (drop (first - 1) sound.rows)
  range_found first last few rows found =
      found.in_order (filter (is_between number_in first last) sound.rows) (range_own first last few) (ascending-filter IsEntryBefore (is_between number_in first last) sound.rows (numbers_rise number_in 1 sound.rows sound.numbered))
      ∙ range_is first last

  -- the entries of a step are numbered, and each is sound
  pub step_passes : (before last : ℕ) → last ≤ 4294967295 → (rows : List HistoryRow) → AreFound IsEntryBefore (filter (is_entry_between board (before + 1) last) c.history) rows
      → AreNumberedFrom number_in (before + 1) rows × AllByRecursion (IsSoundEntry c tasks) rows
  step_passes before last few rows found =
      let is = range_found (before + 1) last few rows found in
      let count = last + 1 - max (before + 1) 1 in
      let place : 1 + (before + 1 - 1) ≡ before + 1 = omega arith in (
        subst (AreNumberedFrom number_in (before + 1)) (sym is)
            (subst (λ n. AreNumberedFrom number_in n (take count (drop (before + 1 - 1) sound.rows))) place (numbered_take count _ _ (numbered_drop (before + 1 - 1) 1 sound.rows sound.numbered))),
        subst (AllByRecursion (IsSoundEntry c tasks)) (sym is) (all_take (IsSoundEntry c tasks) count _ (all_drop (IsSoundEntry c tasks) (before + 1 - 1) sound.rows sound.each)),
      )

  none_at : (first last : ℕ) → last ≤ 4294967295 → take (last + 1 - max first 1) (drop (first - 1) sound.rows) ≡ [] → filter (is_entry_between board first last) c.history ≡ []
  none_at first last few none = no_rows _ (subst (λ l. IsPermutation l (filter (is_entry_between board first last) c.history)) (range_is first last ∙ none) (range_own first last few))

  -- no entry has number 0
  pub none_at_zero : filter (is_entry_between board 0 0) c.history ≡ []
  none_at_zero = none_at 0 0 (omega arith) refl

  -- after a step that isn't full there are no others
  pub none_past : (before last : ℕ) → last ≡ min (before + 1000) 4294967295 → before ≤ 4294967295 → (rows : List HistoryRow) → AreFound IsEntryBefore (filter (is_entry_between board (before + 1) last) c.history) rows → (length rows ≡ 1000 → ⊥)
      → filter (is_entry_between board (last + 1) 4294967295) c.history ≡ []
  none_past before last is few rows found short = elim (cases_Bool (nat_le (before + 1000) 4294967295)) [
    | inl whole ↦
        let ends : last ≡ before + 1000 = is ∙ grind (arith, nat_tests) in
        let within : last ≤ 4294967295 = grind (arith, nat_tests) in
        let some = range_found (before + 1) last within rows found in
        let taken = length-take (last + 1 - max (before + 1) 1) (drop (before + 1 - 1) sound.rows) in
        let left = length-drop (before + 1 - 1) sound.rows in
        let count : length rows ≡ min (last + 1 - max (before + 1) 1) (length sound.rows - (before + 1 - 1)) = ap length some ∙ taken ∙ ap (min (last + 1 - max (before + 1) 1)) left in
        let all : length sound.rows ≤ last = grind (arith, nat_tests) in
        let place : last + 1 - 1 ≡ last = omega arith in
        none_at (last + 1) 4294967295 (omega arith) (ap (take (4294967295 + 1 - max (last + 1) 1)) (ap (λ n. drop n sound.rows) place ∙ drop_all last sound.rows all) ∙ take-nil _)
    | inr cut ↦
        let ends : last ≡ 4294967295 = is ∙ grind (arith, nat_tests) in
        none_between board (last + 1) 4294967295 (omega (arith, ends)) c.history
  ]

-- ---- rows one after the other

module _ {X : Type 0} (rows : List X) (i : ℕ) (row : X) (within : i < length rows) (here : row ≡ get_or rows i row) where
  taken_more : take (i + 1) rows ≡ take i rows ++ row ∷ []
  taken_more = take_more rows i row within ∙ ap (λ x. take i rows ++ x ∷ []) (sym here)

  pub all_more : (P : X → Type 0) → AllByRecursion P (take i rows) → P row → AllByRecursion P (take (i + 1) rows)
  all_more P all one = subst (AllByRecursion P) (sym taken_more) (all-append P (take i rows) (row ∷ []) all (one, tt))

  pub all_at : (P : X → Type 0) → AllByRecursion P rows → P row
  all_at P all = subst P (sym here) (go rows i within all)
    where
      go : (xs : List X) (k : ℕ) → k < length xs → AllByRecursion P xs → P (get_or xs k row)
      go [] k less all = absurd (omega (arith, less))
      go (x ∷ xs) zero less all = all.0
      go (x ∷ xs) (suc k) less all = go xs k (omega (arith, less)) all.1

module _ (rows : List HistoryRow) (i : ℕ) (row : HistoryRow) (within : i < length rows) (here : row ≡ get_or rows i row) (n : ℕ) where
  pub numbered_more : AreNumberedFrom number_in n (take i rows) → row.number ≡ n + i → AreNumberedFrom number_in n (take (i + 1) rows)
  numbered_more numbered is =
      let count : length (take i rows) ≡ i = length-take-le i rows (omega (arith, within)) in
      subst (AreNumberedFrom number_in n) (sym (taken_more rows i row within here)) (numbered_join n (take i rows) (row ∷ []) numbered (is ∙ ap (λ k. n + k) (sym count), tt))

  pub numbered_at : AreNumberedFrom number_in n rows → row.number ≡ n + i
  numbered_at numbered = ap number_in here ∙ go rows n i within numbered
    where
      go : (xs : List HistoryRow) (m k : ℕ) → k < length xs → AreNumberedFrom number_in m xs → (get_or xs k row).number ≡ m + k
      go [] m k less is = absurd (omega (arith, less))
      go (x ∷ xs) m zero less is = let first = is.0 in omega (arith, first)
      go (x ∷ xs) m (suc k) less is = let rest = go xs (m + 1) k (omega (arith, less)) is.1 in omega (arith, rest)
